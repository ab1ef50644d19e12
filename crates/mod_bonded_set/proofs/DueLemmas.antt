-- Who matures: from the queue, sorted, they are the unbonding validators whose time has come.
use Rattle.std.proofs.Common.{◌≡◌, ◌∙◌, ℕ, ◌+◌, ◌*◌, ◌<◌, ◌≤◌, ◌++◌, get_or, length, length-append, append_assoc, append-nil, Bool, true, false, cond, List, [], ◌∷◌, Option, Some, None, refl, sym, ap, subst, arith, inl, inr, ◌&&◌, ◌||◌, nat_le, map, filter, option_map, Ordering, Less, Equal, Greater, is_eq, is_lt, nat_cmp, IsSorted, IsPermutation}
use Rattle.std.proofs.lemmas.{Bool.Decides.nat_tests, List.length-map, Map.Made.length-le_from_is_member}
use Rattle.std.proofs.lemmas.List.Sorted.{IsPermutation-sym, Contains-permutation}
use Rattle.std.proofs.lemmas.Map.Keys.{sorted_tail, IsDistinct-from_sorted, IsDistinct-IsPermutation, apart_from_distinct, sorted_from_all_adjacent}
use Rattle.std.proofs.lemmas.Map.Views.{Contains-from_lookup, lookup-from_Contains}
use Rattle.std.specs.{Ordering.{eq_by_cmp, ordering_then, ordering_reverse}, Cmp.eq_by_cmp_equiv, BTreeMap.is_at}
use Rattle.std.specs.{List.{AllByRecursion, IsDistinct, Sorted.IsStrictlySortedBy}, Map.{keys_of, values_of}}
use Rattle.std.specs.Set.{is_member}
use Rattle.base_types.specs.Orders.{addr_cmp}
use Rattle.base_roles.specs.{declared.entities.Validator.Validator, Entries.at}
use Rattle.base_records.proofs.AscendLemmas.{once-ascends, same_members}
use Rattle.base_records.proofs.MemberLemmas.{Member, member, contained, all_member}
use Rattle.base_records.proofs.WalkLemmas.{left_of, walk-end, walk-more}
use Rattle.base_table.specs.Tabled.{entry_above}
use Rattle.rule_modules.specs.{Amounts.count_where, Stakes.is_unbonding}
use Rattle.rule_modules.proofs.OrderLemmas.{addr_total, equal, same_is, same_itself}
use Rattle.mod_staking.specs.{Listed.Validators, Places.{time_cmp, maturing_place, in_order}, Registered.AreKeyed}
use Rattle.mod_staking.proofs.{IndexLemmas.keyed_found, ListedLemmas.{time_total, maturing_placed}}
use Rattle.mod_staking.proofs.PlaceLemmas.{in_order-ascend, listed_stands, stands_listed, next_found, found_behind}
use Rattle.mod_bonded_set.{specs.Sets.{is_due, due_in}, proofs.LoopLemmas.length_count}

abbrev pub Place : Type 0
Place = ℕ × List ℕ

abbrev pub Maturing : Type 0
Maturing = List (Place × Validator)

-- ---- walking the queue

module _ (now : ℕ) (q : Maturing) (sq : IsStrictlySortedBy time_cmp (keys_of q)) (ks : List (List ℕ)) (past : Option Place) (told : ks ++ due_in now (left_of time_cmp q past) ≡ due_in now q) where
  abbrev left_at : Option Place → Maturing
  left_at x = left_of time_cmp q x

  pub due-end : entry_above time_cmp q past ≡ None → ks ≡ due_in now q
  due-end f = sym (append-nil ks) ∙ ap (λ l. ks ++ due_in now l) (sym (walk-end time_cmp q past f)) ∙ told

  module _ (e : Place × Validator) (f : entry_above time_cmp q past ≡ Some e) where
    left_is : left_at past ≡ e ∷ left_at (Some e.0)
    left_is = walk-more time_cmp time_total q past e sq f

    pub due-stop : now < e.0.0 → ks ≡ due_in now q
    due-stop h =
        let late : nat_le e.0.0 now ≡ false = grind (arith, nat_tests, h) in
        sym (append-nil ks) ∙ ap (λ b. ks ++ cond b (e.0.1 ∷ due_in now (left_at (Some e.0))) []) (sym late) ∙ ap (λ l. ks ++ due_in now l) (sym left_is) ∙ told

    pub due-next : (next : List (List ℕ)) → e.0.0 ≤ now → next ≡ ks ++ e.0.1 ∷ [] → next ++ due_in now (left_at (Some e.0)) ≡ due_in now q
    due-next next h n =
        let due : nat_le e.0.0 now ≡ true = grind (arith, nat_tests, h) in
        ap (λ l. l ++ due_in now (left_at (Some e.0))) n ∙ append_assoc ks (e.0.1 ∷ []) (due_in now (left_at (Some e.0)))
        ∙ ap (λ b. ks ++ cond b (e.0.1 ∷ due_in now (left_at (Some e.0))) []) (sym due) ∙ ap (λ l. ks ++ due_in now l) (sym left_is) ∙ told

    pub due-shorter : length (left_at (Some e.0)) < length (left_at past)
    due-shorter = let n = ap length left_is in omega (arith, n)

-- ---- lists of operators

-- among the keys of a list that compare
in_list : (ks : List (List ℕ)) (x : List ℕ) → is_member (eq_by_cmp addr_cmp) ks x ≡ true → Member ks x
in_list [] x e = absurd cc
in_list (k ∷ ks) x e = by (eq_by_cmp addr_cmp x k) refl e (λ f. in_list ks x f)
  where
    by : (b : Bool) → eq_by_cmp addr_cmp x k ≡ b → (b || is_member (eq_by_cmp addr_cmp) ks x) ≡ true → (is_member (eq_by_cmp addr_cmp) ks x ≡ true → Member ks x) → Member (k ∷ ks) x
    by true p f later = inl (sym (same_is x k p))
    by false p f later = inr (later f)

listed_in : (ks : List (List ℕ)) (x : List ℕ) → Member ks x → is_member (eq_by_cmp addr_cmp) ks x ≡ true
listed_in [] x m = absurd m
listed_in (k ∷ ks) x (inl e) = ap (λ b. b || is_member (eq_by_cmp addr_cmp) ks x) (ap (eq_by_cmp addr_cmp x) e ∙ same_itself x)
listed_in (k ∷ ks) x (inr m) = by (eq_by_cmp addr_cmp x k) (listed_in ks x m)
  where
    by : (b : Bool) → is_member (eq_by_cmp addr_cmp) ks x ≡ true → (b || is_member (eq_by_cmp addr_cmp) ks x) ≡ true
    by true f = refl
    by false f = f

-- ---- the queue

module _ (now : ℕ) where
  due_has : (q : Maturing) (k : List ℕ) → Member (due_in now q) k → (t : ℕ) × ((v : Validator) × (Member q ((t, k), v) × (t ≤ now)))
  due_has [] k m = absurd m
  due_has (e ∷ q) k m = by (nat_le e.0.0 now) refl (due_has q k) m
    where
      by : (c : Bool) → nat_le e.0.0 now ≡ c → (Member (due_in now q) k → (t : ℕ) × ((v : Validator) × (Member q ((t, k), v) × (t ≤ now)))) → Member (cond c (e.0.1 ∷ due_in now q) []) k
          → (t : ℕ) × ((v : Validator) × (Member (e ∷ q) ((t, k), v) × (t ≤ now)))
      by true p more (inl x) = (e.0.0, (e.1, (inl (λ i. ((e.0.0, x i), e.1)), grind (arith, nat_tests, p))))
      by true p more (inr n) = let r = more n in (r.0, (r.1.0, (inr r.1.1.0, r.1.1.1)))
      by false p more n = absurd n

  first_less : (a b : ℕ) (r : Ordering) → ordering_then (nat_cmp a b) r ≡ Less → a ≤ b
  first_less a b r h = by (nat_cmp a b) refl h
    where
      by : (x : Ordering) → nat_cmp a b ≡ x → ordering_then x r ≡ Less → a ≤ b
      by Less e g = let l = less_is e in omega (arith, l)
        where
          less_is : nat_cmp a b ≡ Less → a < b
          less_is e = grind (arith, nat_tests)
      by Equal e g = tie_is e
        where
          tie_is : nat_cmp a b ≡ Equal → a ≤ b
          tie_is e = grind (arith, nat_tests)
      by Greater e g = absurd cc

  has_due : (q : Maturing) (t : ℕ) (k : List ℕ) (v : Validator) → IsStrictlySortedBy time_cmp (keys_of q) → Member q ((t, k), v) → t ≤ now → Member (due_in now q) k
  unfolding IsStrictlySortedBy
  has_due [] t k v s m h = absurd m
  has_due (e ∷ q) t k v s m h = by (nat_le e.0.0 now) refl (λ n. has_due q t k v s.1 n h) m
    where
      by : (c : Bool) → nat_le e.0.0 now ≡ c → (Member q ((t, k), v) → Member (due_in now q) k) → Member (e ∷ q) ((t, k), v) → Member (cond c (e.0.1 ∷ due_in now q) []) k
      by true p more (inl x) = inl (ap (λ (y : Place × Validator). y.0.1) x)
      by true p more (inr n) = inr (more n)
      by false p more (inl x) = let same : e.0.0 ≡ t = ap (λ (y : Place × Validator). y.0.0) x in absurd (grind (arith, nat_tests, same, p, h))
      by false p more (inr n) =
          let under = all_member (λ (y : Place). time_cmp e.0 y ≡ Less) q (t, k) v s.0 n in
          let first = first_less e.0.0 t (addr_cmp e.0.1 k) under in
          absurd (grind (arith, nat_tests, first, p, h))

all_apart : (k : List ℕ) (ks : List (List ℕ)) → (Member ks k → ⊥) → AllByRecursion (λ y. eq_by_cmp addr_cmp k y ≡ false) ks
all_apart k [] h = tt
all_apart k (y ∷ ks) h = (by (eq_by_cmp addr_cmp k y) refl, all_apart k ks (λ m. h (inr m)))
  where
    by : (b : Bool) → eq_by_cmp addr_cmp k y ≡ b → b ≡ false
    by true e = absurd (h (inl (sym (same_is k y e))))
    by false e = refl

pub some_same : {A : Type 0} (a b : A) → Some a ≡ Some b → a ≡ b
some_same a b p = cc

distinct-due : (now : ℕ) (first : List ℕ → Option ℕ) (q : Maturing) → IsStrictlySortedBy time_cmp (keys_of q) → ((t : ℕ) (k : List ℕ) (v : Validator) → Member q ((t, k), v) → first k ≡ Some t) → IsDistinct (eq_by_cmp addr_cmp) (due_in now q)
unfolding IsStrictlySortedBy IsDistinct
distinct-due now first [] s h = tt
distinct-due now first (e ∷ q) s h = by (nat_le e.0.0 now) (distinct-due now first q s.1 (λ t k v m. h t k v (inr m)))
  where
    not_itself : (p : Place) → time_cmp p p ≡ Less → ⊥
    not_itself p r = let back : Less ≡ Greater = sym r ∙ time_total.antisymm p p ∙ ap ordering_reverse r in absurd cc

    not_again : Member (due_in now q) e.0.1 → ⊥
    not_again m =
        let r = due_has now q e.0.1 m in
        let same : r.0 ≡ e.0.0 = some_same r.0 e.0.0 (sym (h r.0 e.0.1 r.1.0 (inr r.1.1.0)) ∙ h e.0.0 e.0.1 e.1 (inl refl)) in
        let above = all_member (λ (y : Place). time_cmp e.0 y ≡ Less) q (r.0, e.0.1) r.1.0 s.0 r.1.1.0 in
        not_itself e.0 (ap (λ t. time_cmp e.0 (t, e.0.1)) (sym same) ∙ above)

    by : (b : Bool) → IsDistinct (eq_by_cmp addr_cmp) (due_in now q) → IsDistinct (eq_by_cmp addr_cmp) (cond b (e.0.1 ∷ due_in now q) [])
    by true d = (all_apart e.0.1 (due_in now q) not_again, d)
    by false d = tt

-- ---- the validators

abbrev pub operators_of : List Validator → List (List ℕ)
operators_of vs = map (λ v. v.operator) vs

-- as many are listed as are counted
pub listed_count : (t : Validator → Bool) (vs : List Validator) → length (operators_of (filter t vs)) ≡ count_where t vs
listed_count t vs = length-map (filter t vs) (λ v. v.operator) ∙ length_count t vs

module _ (test : Validator → Bool) where
  abbrev passing : Validators → List (List ℕ)
  passing es = operators_of (filter test (values_of es))

  above-passing : (o : List ℕ) (es : Validators) → AreKeyed es → AllByRecursion (λ y. addr_cmp o y ≡ Less) (keys_of es) → AllByRecursion (λ y. addr_cmp o y ≡ Less) (passing es)
  above-passing o [] k h = tt
  above-passing o (e ∷ es) k h = by (test e.1) (above-passing o es k.1 h.1)
    where
      by : (b : Bool) → AllByRecursion (λ y. addr_cmp o y ≡ Less) (passing es) → AllByRecursion (λ y. addr_cmp o y ≡ Less) (operators_of (cond b (e.1 ∷ filter test (values_of es)) (filter test (values_of es))))
      by true ih = (ap (addr_cmp o) k.0 ∙ h.0, ih)
      by false ih = ih

  ascend-passing : (es : Validators) → IsStrictlySortedBy addr_cmp (keys_of es) → AreKeyed es → IsStrictlySortedBy addr_cmp (passing es)
  unfolding IsStrictlySortedBy
  ascend-passing [] s k = tt
  ascend-passing (e ∷ es) s k = by (test e.1) (ascend-passing es s.1 k.1)
    where
      by : (b : Bool) → IsStrictlySortedBy addr_cmp (passing es) → IsStrictlySortedBy addr_cmp (operators_of (cond b (e.1 ∷ filter test (values_of es)) (filter test (values_of es))))
      by true ih = (subst (λ o. AllByRecursion (λ y. addr_cmp o y ≡ Less) (passing es)) (sym k.0) (above-passing e.0 es k.1 s.0), ih)
      by false ih = ih

  passes : (es : Validators) (o : List ℕ) (v : Validator) → at addr_cmp es o ≡ Some v → test v ≡ true → Member (passing es) v.operator
  passes [] o v f t = absurd cc
  passes (e ∷ es) o v f t = by (is_at (addr_cmp o) e.0) f (λ g. passes es o v g t)
    where
      own : (b : Bool) → e.1 ≡ v → test e.1 ≡ b → Member (operators_of (cond b (e.1 ∷ filter test (values_of es)) (filter test (values_of es)))) v.operator
      own true one g = inl (ap (λ (x : Validator). x.operator) one)
      own false one g = let clash : true ≡ false = sym t ∙ ap test (sym one) ∙ g in absurd cc

      behind : (b : Bool) → Member (passing es) v.operator → Member (operators_of (cond b (e.1 ∷ filter test (values_of es)) (filter test (values_of es)))) v.operator
      behind true m = inr m
      behind false m = m

      by : (b : Bool) → cond b (Some e.1) (at addr_cmp es o) ≡ Some v → (at addr_cmp es o ≡ Some v → Member (passing es) v.operator) → Member (passing (e ∷ es)) v.operator
      by true g later = own (test e.1) (some_same e.1 v g) refl
      by false g later = behind (test e.1) (later g)

  passed : (es : Validators) (o : List ℕ) → IsStrictlySortedBy addr_cmp (keys_of es) → AreKeyed es → Member (passing es) o → (v : Validator) × ((at addr_cmp es o ≡ Some v) × (test v ≡ true))
  passed [] o s k m = absurd m
  passed (e ∷ es) o s k m = by (test e.1) refl m (λ n. passed es o (sorted_tail addr_cmp e.0 (keys_of es) s) k.1 n)
    where
      by : (b : Bool) → test e.1 ≡ b → Member (operators_of (cond b (e.1 ∷ filter test (values_of es)) (filter test (values_of es)))) o
          → (Member (passing es) o → (v : Validator) × ((at addr_cmp es o ≡ Some v) × (test v ≡ true)))
          → (v : Validator) × ((at addr_cmp (e ∷ es) o ≡ Some v) × (test v ≡ true))
      by true t (inl x) more = (e.1, (ap (λ b. cond b (Some e.1) (at addr_cmp es o)) (ap (is_at (addr_cmp o)) (sym k.0 ∙ x) ∙ same_itself o), t))
      by true t (inr n) more = let r = more n in (r.0, (found_behind addr_cmp addr_total e es o r.0 s r.1.0, r.1.1))
      by false t n more = let r = more n in (r.0, (found_behind addr_cmp addr_total e es o r.0 s r.1.0, r.1.1))

both_of : (a b : Bool) → (a && b) ≡ true → (a ≡ true) × (b ≡ true)
both_of true b e = (refl, e)
both_of false b e = absurd cc

exact_time : (x y : Place) → is_at (time_cmp x) y ≡ true → x ≡ y
exact_time x y h = maturing_placed.exact x y (equal (time_cmp x y) h)

module _ (now r : ℕ) (es : Validators) (s : IsStrictlySortedBy addr_cmp (keys_of es)) (k : AreKeyed es) where
  abbrev queue : Maturing
  queue = in_order time_cmp (maturing_place r) es

  pub queue-ascend : IsStrictlySortedBy time_cmp (keys_of queue)
  queue-ascend = in_order-ascend time_cmp time_total maturing_placed.exact (maturing_place r) (maturing_placed.apart r) es

  -- who has a place in the queue unbonds until then
  placed_at : (t : ℕ) (o : List ℕ) (v : Validator) (b : Bool) → is_unbonding v.status ≡ b → cond {A = Option Place} b (Some (v.unbonding_time, v.operator)) None ≡ Some (t, o) → (is_unbonding v.status ≡ true) × ((v.unbonding_time ≡ t) × (v.operator ≡ o))
  placed_at t o v true e f = let same = some_same {A = Place} (v.unbonding_time, v.operator) (t, o) f in (e, (ap (λ (p : Place). p.0) same, ap (λ (p : Place). p.1) same))
  placed_at t o v false e f = absurd cc

  at_place : (t : ℕ) (o : List ℕ) (v : Validator) → at time_cmp queue (t, o) ≡ Some v → (at addr_cmp es v.operator ≡ Some v) × ((is_unbonding v.status ≡ true) × ((v.unbonding_time ≡ t) × (v.operator ≡ o)))
  at_place t o v f =
      let there = listed_stands time_cmp time_total maturing_placed.exact (maturing_place r) (maturing_placed.apart r) es (t, o) v s k f in
      (there.0, placed_at t o v (is_unbonding v.status) refl there.1)

  in_queue : (t : ℕ) (o : List ℕ) (v : Validator) → Member queue ((t, o), v) → (at addr_cmp es v.operator ≡ Some v) × ((is_unbonding v.status ≡ true) × ((v.unbonding_time ≡ t) × (v.operator ≡ o)))
  in_queue t o v m = at_place t o v (lookup-from_Contains (eq_by_cmp_equiv time_total) (t, o) v queue (IsDistinct-from_sorted time_cmp (keys_of queue) queue-ascend) (contained queue ((t, o), v) m))

  -- the place of one that the walk finds
  pub found_place : (past : Option Place) (e : Place × Validator) → entry_above time_cmp queue past ≡ Some e → e.0 ≡ (e.1.unbonding_time, e.1.operator)
  found_place past e f =
      let there = at_place e.0.0 e.0.1 e.1 (next_found time_cmp time_total queue past e queue-ascend f) in
      (λ i. (sym there.1.1.0 i, sym there.1.1.1 i))

  due-there : (o : List ℕ) → Member (due_in now queue) o → Member (passing (is_due now) es) o
  due-there o m =
      let x = due_has now queue o m in
      let v = x.1.0 in
      let q = in_queue x.0 o v x.1.1.0 in
      let late : nat_le v.unbonding_time now ≡ true = ap (λ t. nat_le t now) q.1.1.0 ∙ not_later x.0 x.1.1.1 in
      subst (Member (passing (is_due now) es)) q.1.1.1 (passes (is_due now) es v.operator v q.0 (ap (λ b. b && nat_le v.unbonding_time now) q.1.0 ∙ late))
    where
      not_later : (t : ℕ) → t ≤ now → nat_le t now ≡ true
      not_later t h = grind (arith, nat_tests)

  there-due : (o : List ℕ) → Member (passing (is_due now) es) o → Member (due_in now queue) o
  there-due o m =
      let x = passed (is_due now) es o s k m in
      let v = x.0 in
      let both = both_of (is_unbonding v.status) (nat_le v.unbonding_time now) x.1.1 in
      let own : v.operator ≡ o = keyed_found es o v k x.1.0 in
      let at_operator : List ℕ → Option Place = λ p. Some (v.unbonding_time, p) in
      let place : maturing_place r v ≡ Some (v.unbonding_time, o) = ap (λ b. cond {A = Option Place} b (Some (v.unbonding_time, v.operator)) None) both.0 ∙ ap at_operator own in
      let there = stands_listed time_cmp time_total maturing_placed.exact (maturing_place r) (maturing_placed.apart r) es (v.unbonding_time, o) o v k x.1.0 place in
      has_due now queue v.unbonding_time o v queue-ascend (member queue ((v.unbonding_time, o), v) (Contains-from_lookup exact_time (v.unbonding_time, o) v queue there)) (not_later v.unbonding_time both.1)
    where
      not_later : (t : ℕ) → nat_le t now ≡ true → t ≤ now
      not_later t h = grind (arith, nat_tests)

  abbrev time_of : List ℕ → Option ℕ
  time_of o = option_map (λ v. v.unbonding_time) (at addr_cmp es o)

  first_time : (t : ℕ) (o : List ℕ) (v : Validator) → Member queue ((t, o), v) → time_of o ≡ Some t
  first_time t o v m =
      let q = in_queue t o v m in
      ap time_of (sym q.1.1.1) ∙ ap (option_map (λ (x : Validator). x.unbonding_time)) q.0 ∙ ap Some q.1.1.0

  apart : IsDistinct (eq_by_cmp addr_cmp) (due_in now queue)
  apart = distinct-due now time_of queue queue-ascend first_time

  -- sorted, the operators that the queue tells are those of the validators that are due
  pub due-sorted : (ks : List (List ℕ)) → IsPermutation (due_in now queue) ks → IsSorted addr_cmp ks → ks ≡ passing (is_due now) es
  due-sorted ks p q =
      let once = IsDistinct-IsPermutation (eq_by_cmp addr_cmp) (eq_by_cmp_equiv addr_total).symm (due_in now queue) ks p apart in
      same_members addr_total ks (passing (is_due now) es) (once-ascends addr_total ks q once) (ascend-passing (is_due now) es s k)
      (λ x m. due-there x (member (due_in now queue) x (Contains-permutation ks (due_in now queue) x (IsPermutation-sym (due_in now queue) ks p) (contained ks x m))))
      (λ x m. member ks x (Contains-permutation (due_in now queue) ks x p (contained (due_in now queue) x (there-due x m))))

  -- no more are listed than are due
  due-few : length (due_in now queue) ≤ count_where (is_due now) (values_of es)
  due-few =
      subst (λ n. length (due_in now queue) ≤ n) (listed_count (is_due now) (values_of es))
      (length-le_from_is_member (eq_by_cmp_equiv addr_total) (due_in now queue) (passing (is_due now) es) apart (λ x h. listed_in (passing (is_due now) es) x (due-there x (in_list (due_in now queue) x h))))

  -- so the walk, of two steps for each that it lists and two more, takes no more than two for each that is due and two more
  pub due-steps : (ks : List (List ℕ)) (past : Option Place) → ks ++ due_in now (left_of time_cmp queue past) ≡ due_in now queue → (n n1 n2 : ℕ) → n1 ≤ n + 2 * length ks → n2 ≤ n1 + 2 → n2 ≤ n + 2 * (count_where (is_due now) (values_of es) + 1)
  due-steps ks past told n n1 n2 h k =
      let part = sym (length-append ks (due_in now (left_of time_cmp queue past))) ∙ ap length told in
      let few = due-few in
      omega (arith, part, few, h, k)
