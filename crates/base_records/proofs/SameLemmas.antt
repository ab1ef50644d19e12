-- Tests of numbers, of bytes and of several tests: they tell whether values are one.
use Rattle.std.proofs.Common.{◌≡◌, ℕ, ◌==◌, ◌&&◌, Bool, true, false, List, refl, is_eq, bytes_eq, sym, ◌∙◌, ap, arith}
use Rattle.std.{specs.Cmp.tied_itself, proofs.lemmas.{Bool.Decides.nat_tests, Cmp.nat_list_cmp_total}}
use Rattle.std.proofs.lemmas.Map.{Text.is_eq-slice_cmp, Lookups.exact_bytes}
use Rattle.base_types.proofs.MapLemmas.{equal}

pub both : (a b : Bool) → (a && b) ≡ true → (a ≡ true) × (b ≡ true)
both true true h = (refl, refl)
both true false h = cc
both false b h = cc

pub number : (a b : ℕ) → (a == b) ≡ true → a ≡ b
number a b h = grind (arith, nat_tests)

pub number_itself : (a : ℕ) → (a == a) ≡ true
number_itself a = grind (arith, nat_tests)

-- four numbers
pub four : (a b c d a' b' c' d' : ℕ) → ((((a == a') && (b == b')) && (c == c')) && (d == d')) ≡ true → (a ≡ a') × (b ≡ b') × (c ≡ c') × (d ≡ d')
four a b c d a' b' c' d' h =
    let p = both (((a == a') && (b == b')) && (c == c')) (d == d') h in
    let q = both ((a == a') && (b == b')) (c == c') p.0 in
    let r = both (a == a') (b == b') q.0 in
    (number a a' r.0, number b b' r.1, number c c' q.1, number d d' p.1)

pub four_itself : (a b c d : ℕ) → ((((a == a) && (b == b)) && (c == c)) && (d == d)) ≡ true
four_itself a b c d = λ i. ((number_itself a i && number_itself b i) && number_itself c i) && number_itself d i

pub bytes : (a b : List ℕ) → bytes_eq a b ≡ true → a ≡ b
bytes a b h = exact_bytes a b (equal _ (is_eq-slice_cmp a b ∙ h))

pub bytes_itself : (a : List ℕ) → bytes_eq a a ≡ true
bytes_itself a = sym (is_eq-slice_cmp a a) ∙ ap is_eq (tied_itself nat_list_cmp_total a)
