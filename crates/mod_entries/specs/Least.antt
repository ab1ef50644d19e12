-- The least keys of two and of three addresses: no key comes before them.
use Rattle.std.specs.Prelude.{◌≡◌, ℕ, zero, suc, ◌<◌, ◌≤◌, ◌==◌, nat_lt, Bool, true, false, cond, List, [], ◌∷◌, length, refl}
use Rattle.std.proofs.Common.{arith}
use Rattle.std.proofs.lemmas.Bool.Decides.{nat_tests}
use Rattle.std.specs.Cmp.Lexicographic.{slice_cmp}
use Rattle.std.specs.Ordering.{is_le, nat_cmp, ordering_then}
use Rattle.std.specs.declared.cmp.Ordering.{Ordering}
use Rattle.std.specs.declared.cmp.Ordering.TheVariants.{Less, Equal, Greater}
use Rattle.base_types.specs.Orders.{addr_cmp}
use Rattle.base_roles.specs.Orders.{pair_cmp}
use Rattle.mod_entries.specs.Lists.{IsAddr}
use Rattle.mod_entries.specs.Sources.{IsLeast}

-- the address that no other comes before
abbrev pub least_addr : List ℕ
least_addr = 0 ∷ 0 ∷ 0 ∷ 0 ∷ 0 ∷ 0 ∷ 0 ∷ 0 ∷ 0 ∷ 0 ∷ 0 ∷ 0 ∷ 0 ∷ 0 ∷ 0 ∷ 0 ∷ 0 ∷ 0 ∷ 0 ∷ 0 ∷ []

-- so many zero bytes
abbrev zeros : ℕ → List ℕ
zeros zero = []
zeros (suc n) = 0 ∷ zeros n

le_zero : (x : ℕ) (rest : Ordering) → is_le rest ≡ true → is_le (ordering_then (nat_cmp 0 x) rest) ≡ true
le_zero x rest h = by (nat_lt 0 x) (0 == x) refl refl
  where
    by : (b c : Bool) → nat_lt 0 x ≡ b → (0 == x) ≡ c → is_le (ordering_then (cond b Less (cond c Equal Greater)) rest) ≡ true
    by true c p q = refl
    by false true p q = h
    by false false p q = let few : x ≤ 0 = grind (arith, nat_tests, p) in let some : 0 < x = grind (arith, nat_tests, q) in absurd (omega (arith, few, some))

zeros-least : (n : ℕ) (a : List ℕ) → length a ≡ n → is_le (slice_cmp nat_cmp (zeros n) a) ≡ true
zeros-least zero [] e = refl
zeros-least zero (x ∷ a) e = absurd (omega (arith, e))
zeros-least (suc n) [] e = absurd (omega (arith, e))
zeros-least (suc n) (x ∷ a) e = let f : length a ≡ n = omega (arith, e) in le_zero x (slice_cmp nat_cmp (zeros n) a) (zeros-least n a f)

pub least_is : (a : List ℕ) → IsAddr a → is_le (addr_cmp least_addr a) ≡ true
least_is a e = zeros-least 20 a e

-- what is not after in both parts is not after
pub le_both : (r s : Ordering) → is_le r ≡ true → is_le s ≡ true → is_le (ordering_then r s) ≡ true
le_both Less s p q = refl
le_both Equal s p q = q
le_both Greater s p q = p

pub least_pair : IsLeast pair_cmp (λ (key : List ℕ × List ℕ). IsAddr key.0 × IsAddr key.1) (least_addr, least_addr)
least_pair key h = le_both (addr_cmp least_addr key.0) (addr_cmp least_addr key.1) (least_is key.0 h.0) (least_is key.1 h.1)

-- of a triple the first two parts are compared before the third
pub least_triple : IsLeast (λ (a b : List ℕ × List ℕ × List ℕ). ordering_then (pair_cmp (a.0, a.1) (b.0, b.1)) (addr_cmp a.2 b.2)) (λ (key : List ℕ × List ℕ × List ℕ). IsAddr key.0 × IsAddr key.1 × IsAddr key.2)
    (least_addr, least_addr, least_addr)
least_triple key h =
    le_both (pair_cmp (least_addr, least_addr) (key.0, key.1)) (addr_cmp least_addr key.2)
    (least_pair (key.0, key.1) (h.0, h.1)) (least_is key.2 h.2)
