-- What is known of the values of fields.
use Rattle.std.proofs.Common.{◌≡◌, ℕ, zero, suc, ◌≤◌, ◌<◌, ◌^◌, true, List, ◌++◌, length, append_assoc, arith}
use Rattle.base_types.{specs.Denom.is_denom, proofs.DenomLemmas.length-denom}

-- the length of a denomination is one byte
pub names_are_short : (name : List ℕ) → is_denom name ≡ true → length name < 256
names_are_short name h = omega (arith, length-denom name h)

-- bytes that were appended one after the other
pub nine_pieces : (out a b c d e f g h i : List ℕ) → ((((((((out ++ a) ++ b) ++ c) ++ d) ++ e) ++ f) ++ g) ++ h) ++ i ≡ out ++ (a ++ (b ++ (c ++ (d ++ (e ++ (f ++ (g ++ (h ++ i))))))))
nine_pieces out a b c d e f g h i = simp append_assoc
