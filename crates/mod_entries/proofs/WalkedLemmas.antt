-- Changing the entries of some keys is changing those of all, where the others stay.
use Rattle.std.proofs.Common.{◌≡◌, ◌∙◌, ◌<◌, Bool, true, false, cond, List, [], ◌∷◌, Some, refl, sym, ap, arith, length, unwrap_or, map, filter, Ordering, Less, Equal, is_eq}
use Rattle.std.specs.{Ordering.match_ordering, Cmp.{IsTotalOrder, tied_itself}, BTreeMap.insert_entry}
use Rattle.std.specs.{List.{AllByRecursion, Sorted.IsStrictlySortedBy}, Map.keys_of}
use Rattle.base_roles.specs.Entries.{at, without}
use Rattle.base_records.proofs.AscendLemmas.{Above, greater}
use Rattle.rule_modules.specs.Unbondings.{key_then}
use Rattle.mod_entries.specs.{Lists.{list_at, with_list}, Walked.{Change, walked, stepped, keys_where}}

abbrev pub front : {K E V : Type 0} → K × List E → List (K × List E) × V → List (K × List E) × V
front p r = (p ∷ r.0, r.1)

-- the keys of the entries that are passed are above it too
pub above-where : {K E : Type 0} (cmp : K → K → Ordering) (test : K → List E → Bool) (k : K) (u : List (K × List E)) → Above cmp k (keys_of u) → Above cmp k (keys_where test u)
above-where cmp test k [] h = tt
above-where {K} {E} cmp test k (p ∷ u) h = by (test p.0 p.1) (above-where cmp test k u h.1)
  where
    by : (b : Bool) → Above cmp k (keys_where test u) → Above cmp k (map (λ (x : K × List E). x.0) (cond b (p ∷ filter (λ x. test x.0 x.1) u) (filter (λ x. test x.0 x.1) u)))
    by true r = (h.0, r)
    by false r = r

module _ {K : Type 0} (cmp : K → K → Ordering) (total : IsTotalOrder cmp) where
  -- ---- a key that is passed

  pub itself : (k : K) → cmp k k ≡ Equal
  itself k = tied_itself total k

  module _ {E : Type 0} (p : K × List E) (u : List (K × List E)) where
    found-past : (k : K) → cmp p.0 k ≡ Less → list_at cmp (p ∷ u) k ≡ list_at cmp u k
    found-past k above = ap (λ r. unwrap_or (cond (is_eq r) (Some p.1) (at cmp u k)) []) (greater cmp total k p.0 above)

    with-past : (k : K) → cmp p.0 k ≡ Less → (l : List E) → with_list cmp k l (p ∷ u) ≡ p ∷ with_list cmp k l u
    with-past k above [] = ap (λ r. cond (is_eq r) u (p ∷ without cmp u k)) (greater cmp total k p.0 above)
    with-past k above (e ∷ es) = ap (λ r. match_ordering r ((k, e ∷ es) ∷ p ∷ u) ((p.0, e ∷ es) ∷ u) (p ∷ insert_entry cmp u k (e ∷ es))) (greater cmp total k p.0 above)

    found-here : list_at cmp (p ∷ u) p.0 ≡ p.1
    found-here = ap (λ r. unwrap_or (cond (is_eq r) (Some p.1) (at cmp u p.0)) []) (itself p.0)

    with-here : (l : List E) → with_list cmp p.0 l (p ∷ u) ≡ key_then p.0 l u
    with-here [] = ap (λ r. cond (is_eq r) u (p ∷ without cmp u p.0)) (itself p.0)
    with-here (e ∷ es) = ap (λ r. match_ordering r ((p.0, e ∷ es) ∷ p ∷ u) ((p.0, e ∷ es) ∷ u) (p ∷ insert_entry cmp u p.0 (e ∷ es))) (itself p.0)

  -- ---- some keys, or all

  module _ {E V : Type 0} (f : Change K E V) where
    stepped-past : (p : K × List E) (ks : List K) (u : List (K × List E)) (v : V) → Above cmp p.0 ks → stepped cmp f ks (p ∷ u) v ≡ front p (stepped cmp f ks u v)
    stepped-past p [] u v h = refl
    stepped-past p (k ∷ ks) u v h =
        let one = f k (list_at cmp u k) v in
        ap (λ es. stepped cmp f ks (with_list cmp k (f k es v).0 (p ∷ u)) (f k es v).1) (found-past p u k h.0)
        ∙ ap (λ x. stepped cmp f ks x one.1) (with-past p u k h.0 one.0)
        ∙ stepped-past p ks (with_list cmp k one.0 u) one.1 h.1

    -- a change that keeps what it runs over so, and leaves the entries of which the test does not hold
    module _ (Keeps : V → Type 0) (stays : (k : K) (es : List E) (v : V) → Keeps v → Keeps (f k es v).1) (test : K → List E → Bool)
        (skips : (k : K) (es : List E) (v : V) → Keeps v → test k es ≡ false → f k es v ≡ (es, v)) where
      after_one : (p : K × List E) (u : List (K × List E)) (l : List E) (v : V) → Above cmp p.0 (keys_where test u) → stepped cmp f (keys_where test u) u v ≡ walked f u v
          → stepped cmp f (keys_where test u) (key_then p.0 l u) v ≡ (key_then p.0 l (walked f u v).0, (walked f u v).1)
      after_one p u [] v h later = later
      after_one p u (e ∷ es) v h later = stepped-past (p.0, e ∷ es) (keys_where test u) u v h ∙ ap (front (p.0, e ∷ es)) later

      stays_in_front : (p : K × List E) (r : List (K × List E) × V) (l : List E) → 0 < length l → p.1 ≡ l → front p r ≡ (key_then p.0 p.1 r.0, r.1)
      stays_in_front p r [] n e = absurd (omega (arith, n))
      stays_in_front p r (x ∷ xs) n e = (λ i. ((p.0, e i) ∷ r.0, r.1)) ∙ sym (ap (λ l. (key_then p.0 l r.0, r.1)) e)

      pub stepped-walked : (u : List (K × List E)) (v : V) → Keeps v → IsStrictlySortedBy cmp (keys_of u) → AllByRecursion (λ p. 0 < length p.1) u → stepped cmp f (keys_where test u) u v ≡ walked f u v
      unfolding IsStrictlySortedBy
      stepped-walked [] v c s n = refl
      stepped-walked (p ∷ u) v c s n = by (test p.0 p.1) refl (λ v2 d. stepped-walked u v2 d s.1 n.1)
        where
          above : Above cmp p.0 (keys_where test u)
          above = above-where cmp test p.0 u s.0

          by : (b : Bool) → test p.0 p.1 ≡ b → ((v2 : V) → Keeps v2 → stepped cmp f (keys_where test u) u v2 ≡ walked f u v2) → stepped cmp f (map (λ (x : K × List E). x.0) (cond b (p ∷ filter (λ x. test x.0 x.1) u) (filter (λ x. test x.0 x.1) u))) (p ∷ u) v ≡ walked f (p ∷ u) v
          by true q rest =
              let one = f p.0 p.1 v in
              ap (λ es. stepped cmp f (keys_where test u) (with_list cmp p.0 (f p.0 es v).0 (p ∷ u)) (f p.0 es v).1) (found-here p u)
              ∙ ap (λ x. stepped cmp f (keys_where test u) x one.1) (with-here p u one.0)
              ∙ after_one p u one.0 one.1 above (rest one.1 (stays p.0 p.1 v c))
          by false q rest =
              stepped-past p (keys_where test u) u v above
              ∙ ap (front p) (rest v c)
              ∙ stays_in_front p (walked f u v) p.1 n.0 refl
              ∙ ap (λ (r : List E × V). (key_then p.0 r.0 (walked f u r.1).0, (walked f u r.1).1)) (sym (skips p.0 p.1 v c q))
