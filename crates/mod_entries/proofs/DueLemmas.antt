-- The keys with a mature entry: from the queue, sorted, they are those of the lists.
use Rattle.std.proofs.Common.{◌≡◌, ◌∙◌, ℕ, ◌+◌, ◌<◌, ◌≤◌, ◌++◌, length, append_assoc, append-nil, Bool, true, false, cond, List, [], ◌∷◌, Option, Some, None, refl, sym, ap, arith, inl, inr, ◌||◌, nat_lt, nat_le, map, filter, unwrap_or, Ordering, Less, Equal, Greater, is_eq, nat_cmp, IsSorted, IsPermutation}
use Rattle.std.proofs.lemmas.{Bool.Decides.nat_tests, List.Sorted.{IsPermutation-sym, Contains-permutation}}
use Rattle.std.proofs.lemmas.{List.Sums.sum_by-cons, Map.Keys.{IsDistinct-from_sorted, IsDistinct-IsPermutation}}
use Rattle.std.proofs.lemmas.Map.{Made.length-le_from_is_member, Views.{Contains-from_lookup, lookup-from_Contains}}
use Rattle.std.specs.{Ordering.{eq_by_cmp, ordering_then}, Cmp.{IsTotalOrder, nat_cmp_is, eq_by_cmp_equiv}}
use Rattle.std.specs.{BTreeMap.is_at, List.{AllByRecursion, IsDistinct, list_any, Sorted.IsStrictlySortedBy}}
use Rattle.std.specs.Map.{keys_of, values_of}
use Rattle.base_types.{specs.Orders.moment_cmp, proofs.MapLemmas.equal}
use Rattle.base_roles.specs.Entries.{at}
use Rattle.base_records.proofs.AscendLemmas.{not_below, once-ascends, same_members}
use Rattle.base_records.proofs.MemberLemmas.{Member, member, contained, all_member}
use Rattle.base_records.proofs.WalkLemmas.{left_of, walk-end, walk-more}
use Rattle.base_table.specs.Tabled.{entry_above}
use Rattle.rule_modules.specs.{Amounts.count_where, EntrySlashes.Made}
use Rattle.mod_entries.specs.Lists.{list_at, is_mature, some_mature, IsExact}
use Rattle.mod_entries.specs.Queue.{Completions, completion_cmp, sooner, earliest, earliest_from, IsQueue, due_in}
use Rattle.mod_entries.specs.{Walked.{keys_where, is_due, mature_entries}, Ways.standing}
use Rattle.mod_entries.proofs.{WayLemmas.completion_total, WalkedLemmas.above-where}

-- ---- the keys whose entries pass a test

module _ {K E : Type 0} (test : K → List E → Bool) where
  pub ascend-where : (cmp : K → K → Ordering) (u : List (K × List E)) → IsStrictlySortedBy cmp (keys_of u) → IsStrictlySortedBy cmp (keys_where test u)
  unfolding IsStrictlySortedBy
  ascend-where cmp [] s = tt
  ascend-where cmp (p ∷ u) s = by (test p.0 p.1) (ascend-where cmp u s.1)
    where
      by : (b : Bool) → IsStrictlySortedBy cmp (keys_where test u) → IsStrictlySortedBy cmp (map (λ (x : K × List E). x.0) (cond b (p ∷ filter (λ x. test x.0 x.1) u) (filter (λ x. test x.0 x.1) u)))
      by true h = (above-where cmp test p.0 u s.0, h)
      by false h = h

  pub where_has : (u : List (K × List E)) (k : K) → Member (keys_where test u) k → (es : List E) × (Member u (k, es) × (test k es ≡ true))
  where_has [] k m = absurd m
  where_has (p ∷ u) k m = by (test p.0 p.1) refl (where_has u k) m
    where
      by : (b : Bool) → test p.0 p.1 ≡ b → (Member (keys_where test u) k → (es : List E) × (Member u (k, es) × (test k es ≡ true))) → Member (map (λ (x : K × List E). x.0) (cond b (p ∷ filter (λ x. test x.0 x.1) u) (filter (λ x. test x.0 x.1) u))) k → (es : List E) × (Member (p ∷ u) (k, es) × (test k es ≡ true))
      by true q more (inl e) = (p.1, (inl (λ i. (e i, p.1)), ap (λ x. test x p.1) (sym e) ∙ q))
      by true q more (inr n) = let r = more n in (r.0, (inr r.1.0, r.1.1))
      by false q more n = let r = more n in (r.0, (inr r.1.0, r.1.1))

  pub has_where : (u : List (K × List E)) (k : K) (es : List E) → Member u (k, es) → test k es ≡ true → Member (keys_where test u) k
  has_where [] k es m q = absurd m
  has_where (p ∷ u) k es m q = by (test p.0 p.1) refl (λ n. has_where u k es n q) m
    where
      by : (b : Bool) → test p.0 p.1 ≡ b → (Member u (k, es) → Member (keys_where test u) k) → Member (p ∷ u) (k, es) → Member (map (λ (x : K × List E). x.0) (cond b (p ∷ filter (λ x. test x.0 x.1) u) (filter (λ x. test x.0 x.1) u))) k
      by true r more (inl e) = inl (ap (λ (x : K × List E). x.0) e)
      by true r more (inr n) = inr (more n)
      by false r more (inl e) = let clash : false ≡ true = sym r ∙ ap (λ (x : K × List E). test x.0 x.1) e ∙ q in absurd cc
      by false r more (inr n) = more n

-- ---- entries and look-ups

module _ {K E : Type 0} (cmp : K → K → Ordering) (total : IsTotalOrder cmp) (exact : IsExact cmp) (u : List (K × List E)) where
  pub found_list : IsStrictlySortedBy cmp (keys_of u) → (k : K) (es : List E) → Member u (k, es) → list_at cmp u k ≡ es
  found_list s k es m = ap (λ o. unwrap_or o []) (lookup-from_Contains (eq_by_cmp_equiv total) k es u (IsDistinct-from_sorted cmp (keys_of u) s) (contained u (k, es) m))

  pub member_list : (k : K) (es : List E) → at cmp u k ≡ Some es → Member u (k, es)
  member_list k es e = member u (k, es) (Contains-from_lookup (λ x y d. exact x y (equal (cmp x y) d)) k es u e)

-- ---- the earliest completion

or_assoc : (a b c : Bool) → ((a || b) || c) ≡ (a || (b || c))
or_assoc true b c = refl
or_assoc false b c = refl

no_more : (b : Bool) → b ≡ (b || false)
no_more true = refl
no_more false = refl

some_is : (a b : ℕ) → Some a ≡ Some b → a ≡ b
some_is a b p = cc

module _ (now : ℕ) where
  sooner-due : (a b : ℕ) → nat_le (sooner (Some a) b) now ≡ (nat_le a now || nat_le b now)
  sooner-due a b = by (nat_lt a b) refl
    where
      by : (c : Bool) → nat_lt a b ≡ c → nat_le (cond c a b) now ≡ (nat_le a now || nat_le b now)
      by true e = grind (arith, nat_tests)
      by false e = grind (arith, nat_tests)

  module _ {E : Type 0} (made : E → Made) where
    due-from : (a : ℕ) (es : List E) → (t : ℕ) × ((earliest_from made (Some a) es ≡ Some t) × (nat_le t now ≡ (nat_le a now || some_mature made now es)))
    due-from a [] = (a, (refl, no_more (nat_le a now)))
    due-from a (e ∷ es) =
        let r = due-from (sooner (Some a) (made e).completes) es in
        (r.0, (r.1.0, r.1.1 ∙ ap (λ b. b || some_mature made now es) (sooner-due a (made e).completes) ∙ or_assoc (nat_le a now) (nat_le (made e).completes now) (some_mature made now es)))

    -- the earliest completion of entries that are some of them mature
    pub earliest-due : (es : List E) → some_mature made now es ≡ true → (t : ℕ) × ((earliest made es ≡ Some t) × (t ≤ now))
    earliest-due [] h = absurd cc
    earliest-due (e ∷ es) h =
        let r = due-from (made e).completes es in
        let due : nat_le r.0 now ≡ true = r.1.1 ∙ h in
        (r.0, (r.1.0, grind (arith, nat_tests, due)))

    pub due-earliest : (es : List E) (t : ℕ) → earliest made es ≡ Some t → t ≤ now → some_mature made now es ≡ true
    due-earliest [] t e h = absurd cc
    due-earliest (x ∷ es) t e h =
        let r = due-from (made x).completes es in
        let same : r.0 ≡ t = some_is r.0 t (sym r.1.0 ∙ e) in
        let due : nat_le r.0 now ≡ true = grind (arith, nat_tests, same, h) in
        sym r.1.1 ∙ due

-- ---- the keys that the queue tells

first_less : (a b : ℕ) (r : Ordering) → ordering_then (nat_cmp a b) r ≡ Less → a ≤ b
first_less a b r h = by (nat_cmp a b) refl h
  where
    by : (x : Ordering) → nat_cmp a b ≡ x → ordering_then x r ≡ Less → a ≤ b
    by Less e g = let l = less_is e in omega (arith, l)
      where
        less_is : nat_cmp a b ≡ Less → a < b
        less_is e = grind (arith, nat_tests)
    by Equal e g = same_is e
      where
        same_is : nat_cmp a b ≡ Equal → a ≤ b
        same_is e = grind (arith, nat_tests)
    by Greater e g = absurd cc

module _ {K : Type 0} (now : ℕ) where
  due_has : (q : Completions K) (k : K) → Member (due_in now q) k → (t : ℕ) × ((b : Bool) × (Member q ((t, k), b) × (t ≤ now)))
  due_has [] k m = absurd m
  due_has (e ∷ q) k m = by (nat_le e.0.0 now) refl (due_has q k) m
    where
      by : (c : Bool) → nat_le e.0.0 now ≡ c → (Member (due_in now q) k → (t : ℕ) × ((b : Bool) × (Member q ((t, k), b) × (t ≤ now)))) → Member (cond c (e.0.1 ∷ due_in now q) []) k → (t : ℕ) × ((b : Bool) × (Member (e ∷ q) ((t, k), b) × (t ≤ now)))
      by true p more (inl x) = (e.0.0, (e.1, (inl (λ i. ((e.0.0, x i), e.1)), grind (arith, nat_tests, p))))
      by true p more (inr n) = let r = more n in (r.0, (r.1.0, (inr r.1.1.0, r.1.1.1)))
      by false p more n = absurd n

  has_due : (cmp : K → K → Ordering) (q : Completions K) (t : ℕ) (k : K) (b : Bool) → IsStrictlySortedBy (completion_cmp cmp) (keys_of q) → Member q ((t, k), b) → t ≤ now → Member (due_in now q) k
  unfolding IsStrictlySortedBy
  has_due cmp [] t k b s m h = absurd m
  has_due cmp (e ∷ q) t k b s m h = by (nat_le e.0.0 now) refl (λ n. has_due cmp q t k b s.1 n h) m
    where
      by : (c : Bool) → nat_le e.0.0 now ≡ c → (Member q ((t, k), b) → Member (due_in now q) k) → Member (e ∷ q) ((t, k), b) → Member (cond c (e.0.1 ∷ due_in now q) []) k
      by true p more (inl x) = inl (ap (λ (y : (ℕ × K) × Bool). y.0.1) x)
      by true p more (inr n) = inr (more n)
      by false p more (inl x) = let same : e.0.0 ≡ t = ap (λ (y : (ℕ × K) × Bool). y.0.0) x in absurd (grind (arith, nat_tests, same, p, h))
      by false p more (inr n) =
          let less = all_member (λ (y : ℕ × K). completion_cmp cmp e.0 y ≡ Less) q (t, k) b s.0 n in
          let first = first_less e.0.0 t (cmp e.0.1 k) less in
          absurd (grind (arith, nat_tests, first, p, h))

-- ---- each key stands once in the queue

module _ {K : Type 0} (cmp : K → K → Ordering) (total : IsTotalOrder cmp) (exact : IsExact cmp) where
  all_apart : (k : K) (ks : List K) → (Member ks k → ⊥) → AllByRecursion (λ y. eq_by_cmp cmp k y ≡ false) ks
  all_apart k [] h = tt
  all_apart k (y ∷ ks) h = (by (eq_by_cmp cmp k y) refl, all_apart k ks (λ m. h (inr m)))
    where
      by : (b : Bool) → eq_by_cmp cmp k y ≡ b → b ≡ false
      by true e = absurd (h (inl (sym (exact k y (equal (cmp k y) e)))))
      by false e = refl

  distinct-due : (now : ℕ) (first : K → Option ℕ) (q : Completions K) → IsStrictlySortedBy (completion_cmp cmp) (keys_of q) → ((t : ℕ) (k : K) (b : Bool) → Member q ((t, k), b) → first k ≡ Some t) → IsDistinct (eq_by_cmp cmp) (due_in now q)
  unfolding IsStrictlySortedBy IsDistinct
  distinct-due now first [] s h = tt
  distinct-due now first (e ∷ q) s h = by (nat_le e.0.0 now) (distinct-due now first q s.1 (λ t k b m. h t k b (inr m)))
    where
      not_again : Member (due_in now q) e.0.1 → ⊥
      not_again m =
          let r = due_has now q e.0.1 m in
          let same : r.0 ≡ e.0.0 = some_is r.0 e.0.0 (sym (h r.0 e.0.1 r.1.0 (inr r.1.1.0)) ∙ h e.0.0 e.0.1 e.1 (inl refl)) in
          let above = all_member (λ (y : ℕ × K). completion_cmp cmp e.0 y ≡ Less) q (r.0, e.0.1) r.1.0 s.0 r.1.1.0 in
          not_below (completion_total cmp total) e.0 (ap (λ t. completion_cmp cmp e.0 (t, e.0.1)) (sym same) ∙ above)

      by : (b : Bool) → IsDistinct (eq_by_cmp cmp) (due_in now q) → IsDistinct (eq_by_cmp cmp) (cond b (e.0.1 ∷ due_in now q) [])
      by true d = (all_apart e.0.1 (due_in now q) not_again, d)
      by false d = tt

  exact_completion : (x y : ℕ × K) → is_at (completion_cmp cmp x) y ≡ true → x ≡ y
  exact_completion x y h = by (nat_cmp x.0 y.0) refl h
    where
      by : (r : Ordering) → nat_cmp x.0 y.0 ≡ r → is_eq (ordering_then r (cmp x.1 y.1)) ≡ true → x ≡ y
      by Less e g = absurd cc
      by Greater e g = absurd cc
      by Equal e g = let time : x.0 ≡ y.0 = grind (arith, nat_tests, e) in let key = exact x.1 y.1 (equal _ g) in λ i. (time i, key i)

module _ {K : Type 0} (cmp : K → K → Ordering) (total : IsTotalOrder cmp) (exact : IsExact cmp) (k : K) where
  any_member : (ks : List K) → list_any (eq_by_cmp cmp k) ks ≡ true → Member ks k
  any_member [] h = absurd cc
  any_member (y ∷ ks) h = by (eq_by_cmp cmp k y) refl (any_member ks) h
    where
      by : (b : Bool) → eq_by_cmp cmp k y ≡ b → (list_any (eq_by_cmp cmp k) ks ≡ true → Member ks k) → (b || list_any (eq_by_cmp cmp k) ks) ≡ true → Member (y ∷ ks) k
      by true e more g = inl (sym (exact k y (equal (cmp k y) e)))
      by false e more g = inr (more g)

  or_true : (b : Bool) → (b || true) ≡ true
  or_true true = refl
  or_true false = refl

  member_any : (ks : List K) → Member ks k → list_any (eq_by_cmp cmp k) ks ≡ true
  member_any [] m = absurd m
  member_any (y ∷ ks) (inl e) = ap (λ b. b || list_any (eq_by_cmp cmp k) ks) (ap (eq_by_cmp cmp k) e ∙ (eq_by_cmp_equiv total).refl k)
  member_any (y ∷ ks) (inr m) = ap (λ b. eq_by_cmp cmp k y || b) (member_any ks m) ∙ or_true (eq_by_cmp cmp k y)

at_itself : (t : ℕ) → is_at (moment_cmp t) t ≡ true
at_itself t = ap is_eq (sym (nat_cmp_is t t Equal refl))

same_time : (t x : ℕ) (r : Ordering) → nat_cmp t x ≡ r → is_eq r ≡ true → t ≡ x
same_time t x Less a b = absurd cc
same_time t x Greater a b = absurd cc
same_time t x Equal a b = grind (arith, nat_tests, a)

stood_then : (t x : ℕ) (b c : Bool) → is_at (moment_cmp t) x ≡ c → cond c (Some true) None ≡ Some b → Some x ≡ Some t
stood_then t x b true p g = let same : t ≡ x = same_time t x (nat_cmp t x) refl p in ap Some (sym same)
stood_then t x b false p g = absurd cc

module _ {K E : Type 0} (cmp : K → K → Ordering) (total : IsTotalOrder cmp) (exact : IsExact cmp) (made : E → Made) (now : ℕ) (u : List (K × List E)) (q : Completions K)
    (s : IsStrictlySortedBy cmp (keys_of u)) (sq : IsStrictlySortedBy (completion_cmp cmp) (keys_of q)) (h : IsQueue cmp made u q) where
  stands : (t : ℕ) (k : K) (b : Bool) → Member q ((t, k), b) → earliest made (list_at cmp u k) ≡ Some t
  stands t k b m =
      by (earliest made (list_at cmp u k)) refl
      (sym (h t k) ∙ lookup-from_Contains (eq_by_cmp_equiv (completion_total cmp total)) (t, k) b q (IsDistinct-from_sorted (completion_cmp cmp) (keys_of q) sq) (contained q ((t, k), b) m))
    where
      by : (r : Option ℕ) → earliest made (list_at cmp u k) ≡ r → standing moment_cmp t r ≡ Some b → r ≡ Some t
      by None e g = absurd cc
      by (Some x) e g = stood_then t x b (is_at (moment_cmp t) x) refl g

  in_queue : (t : ℕ) (k : K) → earliest made (list_at cmp u k) ≡ Some t → Member q ((t, k), true)
  in_queue t k e = member q ((t, k), true) (Contains-from_lookup (exact_completion cmp total exact) (t, k) true q (h t k ∙ ap (standing moment_cmp t) e ∙ ap (λ c. cond c (Some true) None) (at_itself t)))

  some_list : (k : K) (t : ℕ) → earliest made (list_at cmp u k) ≡ Some t → Member u (k, list_at cmp u k)
  some_list k t e = by (at cmp u k) refl e
    where
      by : (r : Option (List E)) → at cmp u k ≡ r → earliest made (unwrap_or r []) ≡ Some t → Member u (k, unwrap_or r [])
      by None a b = absurd cc
      by (Some es) a b = member_list cmp total exact u k es a

  pub due-there : (k : K) → Member (due_in now q) k → Member (keys_where (is_due made now) u) k
  due-there k m =
      let r = due_has now q k m in
      let e = stands r.0 k r.1.0 r.1.1.0 in
      has_where (is_due made now) u k (list_at cmp u k) (some_list k r.0 e) (due-earliest now made (list_at cmp u k) r.0 e r.1.1.1)

  pub there-due : (k : K) → Member (keys_where (is_due made now) u) k → Member (due_in now q) k
  there-due k m =
      let r = where_has (is_due made now) u k m in
      let same : list_at cmp u k ≡ r.0 = found_list cmp total exact u s k r.0 r.1.0 in
      let d = earliest-due now made r.0 r.1.1 in
      has_due now cmp q d.0 k true sq (in_queue d.0 k (ap (earliest made) same ∙ d.1.0)) d.1.1

  -- sorted, the keys that the queue tells are those of the lists
  pub due-sorted : (ks : List K) → IsPermutation (due_in now q) ks → IsSorted cmp ks → ks ≡ keys_where (is_due made now) u
  due-sorted ks p r =
      let once = IsDistinct-IsPermutation (eq_by_cmp cmp) (eq_by_cmp_equiv total).symm (due_in now q) ks p (distinct-due cmp total exact now (λ k. earliest made (list_at cmp u k)) q sq stands) in
      same_members total ks (keys_where (is_due made now) u) (once-ascends total ks r once) (ascend-where (is_due made now) cmp u s)
      (λ x m. due-there x (member (due_in now q) x (Contains-permutation ks (due_in now q) x (IsPermutation-sym (due_in now q) ks p) (contained ks x m))))
      (λ x m. member ks x (Contains-permutation (due_in now q) ks x p (contained (due_in now q) x (there-due x m))))

  -- and as many
  pub due-no_more : length (due_in now q) ≤ length (keys_where (is_due made now) u)
  due-no_more =
      length-le_from_is_member (eq_by_cmp_equiv total) (due_in now q) (keys_where (is_due made now) u) (distinct-due cmp total exact now (λ k. earliest made (list_at cmp u k)) q sq stands)
      (λ k m. member_any cmp total exact k (keys_where (is_due made now) u) (due-there k (any_member cmp total exact k (due_in now q) m)))

-- ---- walking the queue

module _ {K : Type 0} (cmp : K → K → Ordering) (total : IsTotalOrder cmp) (now : ℕ) (q : Completions K) (sq : IsStrictlySortedBy (completion_cmp cmp) (keys_of q)) (ks : List K) (after : Option (ℕ × K))
    (told : ks ++ due_in now (left_of (completion_cmp cmp) q after) ≡ due_in now q) where
  abbrev left_at : Option (ℕ × K) → Completions K
  left_at x = left_of (completion_cmp cmp) q x

  pub due-end : entry_above (completion_cmp cmp) q after ≡ None → ks ≡ due_in now q
  due-end f = sym (append-nil ks) ∙ ap (λ l. ks ++ due_in now l) (sym (walk-end (completion_cmp cmp) q after f)) ∙ told

  module _ (e : (ℕ × K) × Bool) (f : entry_above (completion_cmp cmp) q after ≡ Some e) where
    left_is : left_at after ≡ e ∷ left_at (Some e.0)
    left_is = walk-more (completion_cmp cmp) (completion_total cmp total) q after e sq f

    pub due-stop : now < e.0.0 → ks ≡ due_in now q
    due-stop h =
        let late : nat_le e.0.0 now ≡ false = grind (arith, nat_tests, h) in
        sym (append-nil ks) ∙ ap (λ b. ks ++ cond b (e.0.1 ∷ due_in now (left_at (Some e.0))) []) (sym late) ∙ ap (λ l. ks ++ due_in now l) (sym left_is) ∙ told

    pub due-next : (next : List K) → e.0.0 ≤ now → next ≡ ks ++ e.0.1 ∷ [] → next ++ due_in now (left_at (Some e.0)) ≡ due_in now q
    due-next next h n =
        let due : nat_le e.0.0 now ≡ true = grind (arith, nat_tests, h) in
        ap (λ l. l ++ due_in now (left_at (Some e.0))) n ∙ append_assoc ks (e.0.1 ∷ []) (due_in now (left_at (Some e.0)))
        ∙ ap (λ b. ks ++ cond b (e.0.1 ∷ due_in now (left_at (Some e.0))) []) (sym due) ∙ ap (λ l. ks ++ due_in now l) (sym left_is) ∙ told

    pub due-shorter : length (left_at (Some e.0)) < length (left_at after)
    due-shorter = let n = ap length left_is in omega (arith, n)

-- ---- how many keys

-- each key that has a mature entry has one at least
pub due_few : {K E : Type 0} (made : E → Made) (now : ℕ) (u : List (K × List E)) → length (keys_where (is_due made now) u) ≤ mature_entries made now u
due_few made now [] = omega arith
due_few {K} {E} made now (p ∷ u) = by (some_mature made now p.1) refl (due_few made now u)
  where
    at_first : (b c : Bool) (n : ℕ) → (b || c) ≡ true → (c ≡ true → 1 ≤ n) → 1 ≤ cond b 1 0 + n
    at_first true c n h later = omega arith
    at_first false c n h later = let l = later h in omega (arith, l)

    some : (es : List E) → some_mature made now es ≡ true → 1 ≤ count_where (is_mature made now) es
    some [] h = absurd cc
    some (e ∷ es) h = at_first (is_mature made now e) (some_mature made now es) (count_where (is_mature made now) es) h (some es)

    total : mature_entries made now (p ∷ u) ≡ count_where (is_mature made now) p.1 + mature_entries made now u
    total = sum_by-cons (λ (n : ℕ). n) (count_where (is_mature made now) p.1) (map (λ (es : List E). count_where (is_mature made now) es) (values_of u))

    by : (b : Bool) → some_mature made now p.1 ≡ b → length (keys_where (is_due made now) u) ≤ mature_entries made now u
        → length (map (λ (x : K × List E). x.0) (cond b (p ∷ filter (λ (x : K × List E). is_due made now x.0 x.1) u) (filter (λ (x : K × List E). is_due made now x.0 x.1) u))) ≤ mature_entries made now (p ∷ u)
    by true e later = let one = some p.1 e in let t = total in let goal : length (p.0 ∷ keys_where (is_due made now) u) ≤ mature_entries made now (p ∷ u) = omega (arith, one, t, later) in goal
    by false e later = let t = total in let goal : length (keys_where (is_due made now) u) ≤ mature_entries made now (p ∷ u) = omega (arith, t, later) in goal
