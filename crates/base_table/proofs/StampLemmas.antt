-- What stamps tell of the touched list.
use Rattle.std.proofs.Common.{◌≡◌, ℕ, zero, suc, ◌+◌, Bool, true, false, cond, List, [], ◌∷◌, ◌++◌, length, Option, Some, None, is_some, unwrap_or, refl, if◌then◌else◌, sym, ◌∙◌, ap, subst, arith, Ordering, slice_get, option_to_list, is_eq}
use Rattle.std.specs.{Cmp.{IsTotalOrder, tied_itself}, Map.{lookup}}
use Rattle.std.specs.{BTreeMap.{insert_entry, is_at}}
use Rattle.base_types.proofs.MapLemmas.{at-put, equal}
use Rattle.base_table.specs.Places.{pair_value, unlisted, value_stamped, AreStamped}
use Rattle.base_table.{specs.Tabled.{key_in, touched_with, value_at}, proofs.EntryLemmas.tied_lookup}
use Rattle.base_table.proofs.RestoredLemmas.{key_in-tied}
use Rattle.indexmap.{specs.IndexMap.{IndexMap, insert_entry as insert_by}, proofs.CallerLemmas.insert_entry-new}

later : (n i : ℕ) → suc n + i ≡ n + suc i
later n i = omega arith

plus_none : (n : ℕ) → n ≡ n + 0
plus_none n = omega arith

pub zero_plus : (n : ℕ) → 0 + n ≡ n
zero_plus n = omega arith

no_some : {A : Type 0} (x : A) → Some x ≡ None → ⊥
no_some x h = cc

there : {A : Type 0} {n m : A} (o : Option A) → o ≡ Some n → o ≡ Some m → n ≡ m
there {n = n} {m = m} o a b = ap (λ x. unwrap_or x n) (sym a ∙ b)

module _ {K : Type 0} {R : K → K → Ordering} (o : IsTotalOrder R) where
  -- keys that tie, the other way round
  turned : (x y : K) → is_at (R x) y ≡ true → is_at (R y) x ≡ true
  turned x y t = ap is_eq (sym (o.congr x y x (equal _ t)) ∙ tied_itself o x)

  turned-apart : (x y : K) → is_at (R x) y ≡ false → is_at (R y) x ≡ false
  turned-apart x y apart = elim (is_at (R y) x) as (λ b. is_at (R y) x ≡ b → b ≡ false) [
    | true ↦ λ t. sym (turned y x t) ∙ apart
    | false ↦ λ t. refl
  ] refl

module _ {K : Type 0} {R : K → K → Ordering} (o : IsTotalOrder R) {V : Type 0} where
  -- a key without a place is not listed
  pub unlisted-without : (n : ℕ) (ts : List (K × Option V)) (ss : List (K × ℕ)) (k : K) → AreStamped R n ts ss → lookup (is_at (R k)) ss ≡ None → value_at R ts k ≡ None
  unlisted-without n [] ss k h none = refl
  unlisted-without n (t ∷ ts) ss k h none = elim (is_at (R k) t.0) as (λ b. is_at (R k) t.0 ≡ b → cond b (Some t.1) (lookup (is_at (R k)) ts) ≡ None) [
    | true ↦ λ tied. let found : None ≡ Some n = sym none ∙ tied_lookup o k t.0 tied ss ∙ h.0 in cc
    | false ↦ λ apart. unlisted-without (suc n) ts ss k h.1 none
  ] refl

  -- a listed key is listed where its place says
  where_listed : (n s : ℕ) (ts : List (K × Option V)) (ss : List (K × ℕ)) (k : K) (old : Option V) → AreStamped R n ts ss → lookup (is_at (R k)) ss ≡ Some s → value_at R ts k ≡ Some old
      → (i : ℕ) × (s ≡ n + i) × (pair_value R k (slice_get ts i) ≡ Some old)
  where_listed n s [] ss k old h at listed = cc
  where_listed n s (t ∷ ts) ss k old h at listed = elim (is_at (R k) t.0) as (λ b. is_at (R k) t.0 ≡ b → cond b (Some t.1) (lookup (is_at (R k)) ts) ≡ Some old → (i : ℕ) × (s ≡ n + i) × (pair_value R k (slice_get (t ∷ ts) i) ≡ Some old)) [
    | true ↦ λ tied listed. (0, there _ at (tied_lookup o k t.0 tied ss ∙ h.0) ∙ plus_none n, ap (λ b. if b then Some t.1 else None) tied ∙ listed)
    | false ↦ λ apart listed. let rest = where_listed (suc n) s ts ss k old h.1 at listed in (suc rest.0, rest.1 ∙ later n rest.0, rest.2)
  ] refl listed

  -- of a key that is not listed nothing is told at any stamp
  nowhere : (ts : List (K × Option V)) (i : ℕ) (k : K) → value_at R ts k ≡ None → pair_value R k (slice_get ts i) ≡ None
  nowhere [] i k none = refl
  nowhere (t ∷ ts) zero k none = elim (is_at (R k) t.0) as (λ b. cond b (Some t.1) (lookup (is_at (R k)) ts) ≡ None → (if b then Some t.1 else None) ≡ None) [ true ↦ λ none. none | false ↦ λ none. refl ] none
  nowhere (t ∷ ts) (suc i) k none = elim (is_at (R k) t.0) as (λ b. cond b (Some t.1) (lookup (is_at (R k)) ts) ≡ None → pair_value R k (slice_get ts i) ≡ None) [ true ↦ λ none. cc | false ↦ λ none. nowhere ts i k none ] none

  -- so the stamp of a place tells what the list says of its key
  pub listed-by_stamp : (ts : List (K × Option V)) (ss : List (K × ℕ)) (k : K) (s : ℕ) → AreStamped R 0 ts ss → lookup (is_at (R k)) ss ≡ Some s → value_stamped R ts s k ≡ value_at R ts k
  listed-by_stamp ts ss k s h at = by (value_at R ts k) refl
    where
      by : (v : Option (Option V)) → value_at R ts k ≡ v → value_stamped R ts s k ≡ v
      by None none = nowhere ts s k none
      by (Some old) is = let w = where_listed 0 s ts ss k old h at is in ap (λ i. value_stamped R ts i k) (w.1 ∙ zero_plus w.0) ∙ w.2

  -- a key that is not listed yet is stamped as the next
  pub AreStamped-push : (n : ℕ) (ts : List (K × Option V)) (ss : List (K × ℕ)) (k : K) (t : K × Option V) → is_at (R k) t.0 ≡ true → value_at R ts k ≡ None → AreStamped R n ts ss → AreStamped R n (ts ++ t ∷ []) (insert_entry R ss k (n + length ts))
  AreStamped-push n [] ss k t tied none h = (at-put R o ss k t.0 (n + 0) ∙ ap (λ b. cond b (Some (n + 0)) (lookup (is_at (R t.0)) ss)) (turned o k t.0 tied) ∙ ap (λ m. Some m) (sym (plus_none n)), tt)
  AreStamped-push n (u ∷ ts) ss k t tied none h = elim (is_at (R k) u.0) as (λ b. is_at (R k) u.0 ≡ b → cond b (Some u.1) (lookup (is_at (R k)) ts) ≡ None → AreStamped R n (u ∷ ts ++ t ∷ []) (insert_entry R ss k (n + suc (length ts)))) [
    | true ↦ λ found none. absurd (no_some u.1 none)
    | false ↦ λ apart none. (
      at-put R o ss k u.0 (n + suc (length ts)) ∙ ap (λ b. cond b (Some (n + suc (length ts))) (lookup (is_at (R u.0)) ss)) (turned-apart o k u.0 apart) ∙ h.0,
      subst (λ m. AreStamped R (suc n) (ts ++ t ∷ []) (insert_entry R ss k m)) (later n (length ts)) (AreStamped-push (suc n) ts ss k t tied none h.1),
    )
  ] refl none

  -- the list once what is yet to be listed is listed
  pub listed_with : (ts : List (K × Option V)) (es : List (K × V)) (k : K) → ts ++ option_to_list (unlisted R ts es k) ≡ touched_with R ts es k
  listed_with ts es k = elim (is_some (value_at R ts k)) as (λ b. ts ++ option_to_list (if b then None else Some (key_in R es k, value_at R es k)) ≡ (if b then ts else ts ++ (key_in R es k, value_at R es k) ∷ [])) [ true ↦ nothing ts | false ↦ refl ]
    where
      nothing : {A : Type 0} (xs : List A) → xs ++ [] ≡ xs
      nothing [] = refl
      nothing (x ∷ xs) = ap (λ l. x ∷ l) (nothing xs)

  pub tied_pair : (es : List (K × V)) (k : K) → is_at (R k) (key_in R es k) ≡ true
  tied_pair es k = key_in-tied o es k k ∙ ap is_eq (tied_itself o k)

  -- a key that is not listed is put last
  pub put_last : (eq : K → K → Bool) (ties : (x y : K) → eq x y ≡ is_eq (R x y)) {S : Type 0} (m : IndexMap K (Option V) S) (k : K) (v : Option V) (new : List (K × Option V)) → value_at R m.entries k ≡ None → new ≡ insert_by eq m.entries k v → new ≡ m.entries ++ (k, v) ∷ []
  put_last eq ties m k v new none made = made ∙ insert_entry-new eq m k v ((λ i. lookup (λ x. ties k x i) m.entries) ∙ none)
