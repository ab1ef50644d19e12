-- The infos of records, once one changed; and how many places of a ring are set.
use Rattle.std.proofs.Common.{◌≡◌, ℕ, ◌/◌, ◌%◌, ◌<◌, ◌≤◌, Bool, true, false, cond, List, [], ◌∷◌, length, get_or, Some, refl, sym, ap, arith, zero, suc, ◌&&◌, nat_lt, option_map, slice_get, Ordering, Less, Equal, Greater}
use Rattle.std.{proofs.lemmas.Bool.Decides.nat_tests, specs.{BTreeMap.{insert_entry, is_at}, Ordering.match_ordering}}
use Rattle.base_types.specs.Orders.{cons_cmp}
use Rattle.base_roles.specs.Entries.{at, with}
use Rattle.rule_modules.specs.Amounts.{count_where}
use Rattle.mod_signing.specs.{Calls.IsRow, Rings.is_set, Kept.{Signed, Kept, signed_of, with_signed}, Stands.infos_of}

-- the info of an address is that of its record
pub info_at : (kept : Kept) (cons : List ℕ) → at cons_cmp (infos_of kept) cons ≡ option_map (λ s. s.info) (signed_of kept cons)
info_at [] cons = refl
info_at (k ∷ ks) cons = by (is_at (cons_cmp cons) k.0) (info_at ks cons)
  where
    by : (b : Bool) → at cons_cmp (infos_of ks) cons ≡ option_map (λ s. s.info) (signed_of ks cons)
        → cond b (Some k.1.info) (at cons_cmp (infos_of ks) cons) ≡ option_map (λ s. s.info) (cond b (Some k.1) (signed_of ks cons))
    by true later = refl
    by false later = later

-- a record that is put is an info that is put
pub infos_with : (kept : Kept) (cons : List ℕ) (s : Signed) → infos_of (with_signed cons s kept) ≡ with cons_cmp (infos_of kept) cons s.info
infos_with [] cons s = refl
infos_with (k ∷ ks) cons s = by (cons_cmp cons k.0) (infos_with ks cons s)
  where
    by : (r : Ordering) → infos_of (insert_entry cons_cmp ks cons s) ≡ insert_entry cons_cmp (infos_of ks) cons s.info
        → infos_of (match_ordering r ((cons, s) ∷ k ∷ ks) ((k.0, s) ∷ ks) (k ∷ insert_entry cons_cmp ks cons s))
        ≡ match_ordering r ((cons, s.info) ∷ infos_of (k ∷ ks)) ((k.0, s.info) ∷ infos_of ks) ((k.0, k.1.info) ∷ insert_entry cons_cmp (infos_of ks) cons s.info)
    by Less later = refl
    by Equal later = refl
    by Greater later = ap (λ t. (k.0, k.1.info) ∷ t) later

-- ---- how many are set

-- where one is set, they are some
pub some_set : (ring : List Bool) (place : ℕ) → get_or ring place false ≡ true → 1 ≤ count_where (λ x. x) ring
some_set [] place e = absurd cc
some_set (true ∷ ring) place e = omega arith
some_set (false ∷ ring) zero e = absurd cc
some_set (false ∷ ring) (suc place) e = let more = some_set ring place e in omega (arith, more)

-- and they are at most all
pub few_set : (ring : List Bool) → count_where (λ x. x) ring ≤ length ring
few_set [] = omega arith
few_set (true ∷ ring) = omega (arith, few_set ring)
few_set (false ∷ ring) = omega (arith, few_set ring)

-- ---- what stands at a place

pub got : (xs : List Bool) (n : ℕ) (b : Bool) → slice_get xs n ≡ Some b → get_or xs n false ≡ b
got [] n b e = absurd cc
got (x ∷ xs) zero b e = cc
got (x ∷ xs) (suc n) b e = got xs n b e

behind_all : (xs : List Bool) (n : ℕ) → length xs ≤ n → get_or xs n false ≡ false
behind_all [] n h = refl
behind_all (x ∷ xs) zero h = absurd (omega (arith, h))
behind_all (x ∷ xs) (suc n) h = behind_all xs n (omega (arith, h))

-- a place of the ring that its row has set
pub was_set : (ring : List Bool) (place row : ℕ) → IsRow (place / 128) row ring → (nat_lt place (length ring) && is_set row (place % 128)) ≡ get_or ring place false
was_set ring place row h = by (nat_lt place (length ring)) refl
  where
    by : (b : Bool) → nat_lt place (length ring) ≡ b → (b && is_set row (place % 128)) ≡ get_or ring place false
    by true e = let l : place < length ring = grind (arith, nat_tests, e) in sym (got ring place (is_set row (place % 128)) (h place refl l))
    by false e = let l : length ring ≤ place = grind (arith, nat_tests, e) in sym (behind_all ring place l)
