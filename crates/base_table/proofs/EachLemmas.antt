-- Places told by what stands there, or by their stamps.
use Rattle.std.proofs.Common.{◌≡◌, suc, length, Bool, true, false, cond, List, [], ◌∷◌, Some, option_map, refl, sym, ap, subst, Ordering, Less, Equal, Greater}
use Rattle.std.specs.{declared.ops.Bound.{Bound, TheVariants.Unbounded}, Ordering.match_ordering, BTreeMap.insert_entry}
use Rattle.std.specs.{BTreeMap.Range.{entries_between, range_contains}, List.Sorted.IsStrictlySortedBy}
use Rattle.std.specs.Map.{keys_of, lookup, lookup_key, remove_entry, set_value}
use Rattle.base_table.specs.Places.{each}

module _ {K X Y : Type 0} (f : X → Y) where
  pub keys-each : (ps : List (K × X)) → keys_of (each f ps) ≡ keys_of ps
  keys-each [] = refl
  keys-each (p ∷ ps) = ap (λ l. p.0 ∷ l) (keys-each ps)

  pub length-each : (ps : List (K × X)) → length (each f ps) ≡ length ps
  length-each [] = refl
  length-each (p ∷ ps) = ap (λ n. suc n) (length-each ps)

  pub sorted-each : (R : K → K → Ordering) (ps : List (K × X)) → IsStrictlySortedBy R (keys_of ps) → IsStrictlySortedBy R (keys_of (each f ps))
  sorted-each R ps sorted = subst (IsStrictlySortedBy R) (sym (keys-each ps)) sorted

  pub lookup-each : (test : K → Bool) (ps : List (K × X)) → lookup test (each f ps) ≡ option_map f (lookup test ps)
  lookup-each test [] = refl
  lookup-each test (p ∷ ps) = elim (test p.0) as (λ b. cond b (Some (f p.1)) (lookup test (each f ps)) ≡ option_map f (cond b (Some p.1) (lookup test ps))) [ true ↦ refl | false ↦ lookup-each test ps ]

  pub lookup_key-each : (test : K → Bool) (ps : List (K × X)) → lookup_key test (each f ps) ≡ lookup_key test ps
  lookup_key-each test [] = refl
  lookup_key-each test (p ∷ ps) = ap (λ l. cond (test p.0) (Some p.0) l) (lookup_key-each test ps)

  pub insert-each : (R : K → K → Ordering) (ps : List (K × X)) (k : K) (x : X) → each f (insert_entry R ps k x) ≡ insert_entry R (each f ps) k (f x)
  insert-each R [] k x = refl
  insert-each R (p ∷ ps) k x = elim (R k p.0) as (λ r. each f (match_ordering r ((k, x) ∷ p ∷ ps) ((p.0, x) ∷ ps) (p ∷ insert_entry R ps k x)) ≡ match_ordering r ((k, f x) ∷ each f (p ∷ ps)) ((p.0, f x) ∷ each f ps) ((p.0, f p.1) ∷ insert_entry R (each f ps) k (f x))) [
    | Less ↦ refl
    | Equal ↦ refl
    | Greater ↦ ap (λ l. (p.0, f p.1) ∷ l) (insert-each R ps k x)
  ]

  pub set-each : (test : K → Bool) (ps : List (K × X)) (x : X) → each f (set_value test ps x) ≡ set_value test (each f ps) (f x)
  set-each test [] x = refl
  set-each test (p ∷ ps) x = elim (test p.0) as (λ b. each f (cond b ((p.0, x) ∷ ps) (p ∷ set_value test ps x)) ≡ cond b ((p.0, f x) ∷ each f ps) ((p.0, f p.1) ∷ set_value test (each f ps) (f x))) [
    | true ↦ refl
    | false ↦ ap (λ l. (p.0, f p.1) ∷ l) (set-each test ps x)
  ]

  pub remove-each : (test : K → Bool) (ps : List (K × X)) → each f (remove_entry test ps) ≡ remove_entry test (each f ps)
  remove-each test [] = refl
  remove-each test (p ∷ ps) = elim (test p.0) as (λ b. each f (cond b ps (p ∷ remove_entry test ps)) ≡ cond b (each f ps) ((p.0, f p.1) ∷ remove_entry test (each f ps))) [
    | true ↦ refl
    | false ↦ ap (λ l. (p.0, f p.1) ∷ l) (remove-each test ps)
  ]

  pub between-each : (R : K → K → Ordering) (lo : Bound K) (ps : List (K × X)) → each f (entries_between R lo Unbounded ps) ≡ entries_between R lo Unbounded (each f ps)
  between-each R lo [] = refl
  between-each R lo (p ∷ ps) = elim (range_contains R lo Unbounded p.0) as (λ b. each f (cond b (p ∷ entries_between R lo Unbounded ps) (entries_between R lo Unbounded ps)) ≡ cond b ((p.0, f p.1) ∷ entries_between R lo Unbounded (each f ps)) (entries_between R lo Unbounded (each f ps))) [
    | true ↦ ap (λ l. (p.0, f p.1) ∷ l) (between-each R lo ps)
    | false ↦ between-each R lo ps
  ]
