-- The places of a denomination, and its bytes.
use Rattle.std.proofs.Common.{◌≡◌, refl, ℕ, ◌≤◌, List, [], ◌∷◌, ◌++◌, length, take, drop, replicate, true, arith}
use Rattle.std.proofs.lemmas.{List.drop-replicate, Bool.Decides.nat_tests, Grind.common_steps}
use Rattle.base_types.specs.{Padded.{IsPadded, padded}, Denom.is_denom}

-- a denomination has at most 128 bytes
pub length-denom : (name : List ℕ) → is_denom name ≡ true → length name ≤ 128
length-denom [] h = cc
length-denom (first ∷ others) h = grind (arith, nat_tests)

pub take-padded : (name : List ℕ) → take (length name) (padded name) ≡ name
take-padded name = grind (arith, common_steps)

-- a name written over zeros
pub padded_from : (name front : List ℕ) → front ≡ name → front ++ drop (length name) (replicate 128 0) ≡ padded name
padded_from name front e = rw (e, drop-replicate {X = ℕ} (length name) 128 0) refl

pub length-padded : (name : List ℕ) → length name ≤ 128 → length (padded name) ≡ 128
length-padded name h = grind (arith, common_steps)

pub padded_is : (name : List ℕ) → length name ≤ 128 → IsPadded (padded name) (length name)
padded_is name h = record { within = h; places = length-padded name h; zeros = rw (take-padded name) refl }

pub kept_name : (name : List ℕ) → is_denom name ≡ true → IsPadded (padded name) (length name) × (is_denom (take (length name) (padded name)) ≡ true)
kept_name name h = (padded_is name (length-denom name h), rw (take-padded name) h)
