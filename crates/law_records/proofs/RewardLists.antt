-- What F1 keeps of sound rewards, as lists: the periods that run, the records of ended ones, and slash events.
use Rattle.std.proofs.Common.{◌≡◌, ◌∙◌, ℕ, zero, suc, ◌<◌, ◌≤◌, Bool, true, false, cond, List, [], ◌∷◌, ◌++◌, Option, Some, None, option_map, map, refl, sym, ap, subst, arith, inl, inr, ◌==◌, ◌&&◌, ◌⊎◌, filter, reverse, unwrap_or, if◌then◌else◌, Ordering, Less, Equal, Greater, nat_cmp, filter_map, flat_map}
use Rattle.std.specs.{Ordering.ordering_then, Cmp.{nat_cmp_is, tied_then}, BTreeMap.is_at}
use Rattle.std.specs.{List.{AllByRecursion, cons_option, Sorted.IsStrictlySortedBy}, Map.keys_of}
use Rattle.std.proofs.lemmas.{Bool.Decides.nat_tests, List.reverse-append}
use Rattle.std.proofs.lemmas.{List.Elements.{filter_map-append, recursion_from_All}, Map.Lookups.exact_bytes}
use Rattle.base_types.{specs.Orders.addr_cmp, proofs.MapLemmas.equal}
use Rattle.base_coins.specs.Coins.{Money}
use Rattle.base_roles.specs.declared.entities.{Historical.Historical, SlashEvent.SlashEvent, StartingInfo.StartingInfo}
use Rattle.base_roles.specs.{Entries.at, Orders.same_addr}
use Rattle.base_records.proofs.MemberLemmas.{Member, member}
use Rattle.rule_modules.specs.Periods.{Periods, Rewards, history_kept, initial_records, ratio_at, references_of, starts_of}
use Rattle.rule_modules.specs.Sound.{AreFalling, GrowWithHeight, PeriodsAreSound, RewardsAreSound}
use Rattle.rule_modules.proofs.OrderLemmas.{addr_total, same_back, same_itself}
use Rattle.mod_periods.specs.Kept.{Kept, AreInOrder, event_at, event_cmp, period_cmp}
use Rattle.mod_periods.specs.Stands.{KeepsRewards, history_of}
use Rattle.mod_periods.proofs.OrderLemmas.{event_total, period_found, period_total, same_number}
use Rattle.law_records.proofs.GroupLemmas.{AreGroups, Below, IsGroup, at_found, at_second, groups_ascend, groups_find, one_list, sorted_append, within}

-- ---- keys

pub first_less : (a b : Ordering) → a ≡ Less → ordering_then a b ≡ Less
first_less Less b e = refl
first_less Equal b e = cc
first_less Greater b e = cc

pub then_less : (a b : Ordering) → a ≡ Equal → b ≡ Less → ordering_then a b ≡ Less
then_less Less b e f = refl
then_less Equal b e f = f
then_less Greater b e f = cc

first_apart : (a b : Bool) → a ≡ false → (a && b) ≡ false
first_apart true b e = cc
first_apart false b e = refl

pub tied_parts : (a b : Ordering) → ordering_then a b ≡ Equal → (a ≡ Equal) × (b ≡ Equal)
tied_parts Less b e = absurd cc
tied_parts Equal b e = (refl, e)
tied_parts Greater b e = absurd cc

pub one_number : (n m : ℕ) → nat_cmp n m ≡ Equal → n ≡ m
one_number n m e = grind (arith, nat_tests)

pub number_less : (n m : ℕ) → n < m → nat_cmp n m ≡ Less
number_less n m h = sym (nat_cmp_is n m Less h)

pub addr_itself : (o : List ℕ) → addr_cmp o o ≡ Equal
addr_itself o = equal (addr_cmp o o) (same_itself o)

pub period_exact : (a b : List ℕ × ℕ) → period_cmp a b ≡ Equal → a ≡ b
period_exact a b e =
    let p = tied_parts (addr_cmp a.0 b.0) (nat_cmp a.1 b.1) e in
    let o : a.0 ≡ b.0 = exact_bytes a.0 b.0 p.0 in
    let n : a.1 ≡ b.1 = one_number a.1 b.1 p.1 in
    λ i. (o i, n i)

pub event_exact : (a b : List ℕ × ℕ × ℕ) → event_cmp a b ≡ Equal → a ≡ b
event_exact a b e =
    let p = tied_parts (ordering_then (addr_cmp a.0 b.0) (nat_cmp a.1 b.1)) (nat_cmp a.2 b.2) e in
    let q = tied_parts (addr_cmp a.0 b.0) (nat_cmp a.1 b.1) p.0 in
    let o : a.0 ≡ b.0 = exact_bytes a.0 b.0 q.0 in
    let n : a.1 ≡ b.1 = one_number a.1 b.1 q.1 in
    let m : a.2 ≡ b.2 = one_number a.2 b.2 p.1 in
    λ i. (o i, n i, m i)

period_lower : (x y : List ℕ × ℕ) → addr_cmp x.0 y.0 ≡ Less → period_cmp x y ≡ Less
period_lower x y e = first_less (addr_cmp x.0 y.0) (nat_cmp x.1 y.1) e

event_lower : (x y : List ℕ × ℕ × ℕ) → addr_cmp x.0 y.0 ≡ Less → event_cmp x y ≡ Less
event_lower x y e = first_less (ordering_then (addr_cmp x.0 y.0) (nat_cmp x.1 y.1)) (nat_cmp x.2 y.2) (first_less (addr_cmp x.0 y.0) (nat_cmp x.1 y.1) e)

period_apart : (x y : List ℕ × ℕ) → same_addr x.0 y.0 ≡ false → is_at (period_cmp x) y ≡ false
period_apart x y e = period_found x.0 y.0 x.1 y.1 ∙ first_apart (same_addr x.0 y.0) (x.1 == y.1) e

pub event_found : (x y : List ℕ × ℕ × ℕ) → is_at (event_cmp x) y ≡ ((same_addr x.0 y.0 && (x.1 == y.1)) && (x.2 == y.2))
event_found x y =
    sym (tied_then (ordering_then (addr_cmp x.0 y.0) (nat_cmp x.1 y.1)) (nat_cmp x.2 y.2))
    ∙ (λ i. (sym (tied_then (addr_cmp x.0 y.0) (nat_cmp x.1 y.1)) ∙ ap (λ b. same_addr x.0 y.0 && b) (same_number x.1 y.1)) i && same_number x.2 y.2 i)

event_apart : (x y : List ℕ × ℕ × ℕ) → same_addr x.0 y.0 ≡ false → is_at (event_cmp x) y ≡ false
event_apart x y e = event_found x y ∙ first_apart (same_addr x.0 y.0 && (x.1 == y.1)) (x.2 == y.2) (first_apart (same_addr x.0 y.0) (x.1 == y.1) e)

-- ---- the periods that run

abbrev pub currents : List (List ℕ × Periods) → List (List ℕ × ℕ)
currents es = map (λ e. (e.0, e.1.current)) es

pub current_keys : (es : List (List ℕ × Periods)) → keys_of (currents es) ≡ keys_of es
current_keys [] = refl
current_keys (e ∷ es) = ap (λ l. e.0 ∷ l) (current_keys es)

pub current_at : (o : List ℕ) (es : List (List ℕ × Periods)) → at addr_cmp (currents es) o ≡ option_map (λ p. p.current) (at addr_cmp es o)
current_at o [] = refl
current_at o (e ∷ es) = by (is_at (addr_cmp o) e.0) (current_at o es)
  where
    by : (b : Bool) → at addr_cmp (currents es) o ≡ option_map (λ p. p.current) (at addr_cmp es o) → cond b (Some e.1.current) (at addr_cmp (currents es) o) ≡ option_map (λ p. p.current) (cond b (Some e.1) (at addr_cmp es o))
    by true k = refl
    by false k = k

pub currents_kept : (k : Kept) (r : Rewards) → AreInOrder k → KeepsRewards k r → k.current ≡ currents r.periods
currents_kept k r o s =
    one_list addr_cmp exact_bytes addr_total k.current (currents r.periods) o.current (subst (IsStrictlySortedBy addr_cmp) (sym (current_keys r.periods)) s.sound.operators_ascend)
    (λ q. s.current q ∙ sym (current_at q r.periods))

-- ---- the records of ended periods

abbrev pub Histories : Type 0
Histories = List ((List ℕ × ℕ) × Historical)

-- the records of an operator's ended periods
abbrev pub block : List ℕ → (ℕ → Option Historical) → List (ℕ × Money) → Histories
block o H l = filter_map (λ ended. option_map (λ h. ((o, ended.0), h)) (H ended.0)) l

-- each is of an earlier period
abbrev AllBefore : ℕ → Histories → Type 0
AllBefore n xs = AllByRecursion (λ x. x.0.1 < n) xs

module _ (o : List ℕ) (H : ℕ → Option Historical) where
  block_own : (l : List (ℕ × Money)) → AllByRecursion (λ x. x.0.0 ≡ o) (block o H l)
  block_own [] = tt
  block_own (r ∷ rs) = by (H r.0) (block_own rs)
    where
      by : (h : Option Historical) → AllByRecursion (λ x. x.0.0 ≡ o) (block o H rs) → AllByRecursion (λ x. x.0.0 ≡ o) (cons_option (option_map (λ y. ((o, r.0), y)) h) (block o H rs))
      by None k = k
      by (Some h) k = (refl, k)

  block_turned : (r : ℕ × Money) (rs : List (ℕ × Money)) → block o H (reverse (r ∷ rs)) ≡ block o H (reverse rs) ++ block o H (r ∷ [])
  block_turned r rs = ap (block o H) (reverse-append (r ∷ []) rs) ∙ filter_map-append (λ ended. option_map (λ h. ((o, ended.0), h)) (H ended.0)) (reverse rs) (r ∷ [])

  all_append : (n : ℕ) (xs ys : Histories) → AllBefore n xs → AllBefore n ys → AllBefore n (xs ++ ys)
  all_append n [] ys h k = k
  all_append n (x ∷ xs) ys h k = (h.0, all_append n xs ys h.1 k)

  all_less : (m n : ℕ) → m < n → (xs : Histories) → AllBefore m xs → AllBefore n xs
  all_less m n l [] h = tt
  all_less m n l (x ∷ xs) h = let a : x.0.1 < m = h.0 in (omega (arith, l, a), all_less m n l xs h.1)

  one_less : (n : ℕ) (r : ℕ × Money) → r.0 < n → AllBefore n (block o H (r ∷ []))
  one_less n r l = by (H r.0)
    where
      by : (h : Option Historical) → AllBefore n (block o (λ k. h) (r ∷ []))
      by None = tt
      by (Some h) = (l, tt)

  block_less : (n : ℕ) (l : List (ℕ × Money)) → AreFalling n l → AllBefore n (block o H (reverse l))
  block_less n [] h = tt
  block_less n (r ∷ rs) h = subst (AllBefore n) (sym (block_turned r rs)) (all_append n (block o H (reverse rs)) (block o H (r ∷ [])) (all_less r.0 n h.0 (block o H (reverse rs)) (block_less r.0 rs h.1)) (one_less n r h.0))

  one_ascends : (r : ℕ × Money) → IsStrictlySortedBy period_cmp (keys_of (block o H (r ∷ [])))
  unfolding IsStrictlySortedBy
  one_ascends r = by (H r.0)
    where
      by : (h : Option Historical) → IsStrictlySortedBy period_cmp (keys_of (block o (λ k. h) (r ∷ [])))
      by None = tt
      by (Some h) = (tt, tt)

  below_last : (r : ℕ × Money) (xs : Histories) → AllByRecursion (λ x. x.0.0 ≡ o) xs → AllBefore r.0 xs → AllByRecursion (λ x. Below period_cmp x.0 (block o H (r ∷ []))) xs
  below_last r [] a b = tt
  below_last r (x ∷ xs) a b = (by (H r.0), below_last r xs a.1 b.1)
    where
      by : (h : Option Historical) → Below period_cmp x.0 (block o (λ k. h) (r ∷ []))
      by None = tt
      by (Some h) = (then_less (addr_cmp x.0.0 o) (nat_cmp x.0.1 r.0) (ap (λ p. addr_cmp p o) a.0 ∙ addr_itself o) (number_less x.0.1 r.0 b.0), tt)

  block_ascends : (n : ℕ) (l : List (ℕ × Money)) → AreFalling n l → IsStrictlySortedBy period_cmp (keys_of (block o H (reverse l)))
  unfolding IsStrictlySortedBy
  block_ascends n [] h = tt
  block_ascends n (r ∷ rs) h =
      subst (λ (l : Histories). IsStrictlySortedBy period_cmp (keys_of l)) (sym (block_turned r rs))
      (sorted_append period_cmp (block o H (reverse rs)) (block o H (r ∷ [])) (block_ascends r.0 rs h.1) (one_ascends r) (below_last r (block o H (reverse rs)) (block_own (reverse rs)) (block_less r.0 rs h.1)))

  -- what is found in it is the record of the period, or nothing
  module _ (q : List ℕ × ℕ) (own : q.0 ≡ o) where
    key_of_one : (n : ℕ) → is_at (period_cmp q) (o, n) ≡ (q.1 == n)
    key_of_one n = period_found q.0 o q.1 n ∙ ap (λ b. b && (q.1 == n)) (ap (λ p. same_addr p o) own ∙ same_itself o)

    is_number : (n : ℕ) → (q.1 == n) ≡ true → q.1 ≡ n
    is_number n t = grind (arith, nat_tests)

    number_itself : (n : ℕ) → q.1 ≡ n → (q.1 == n) ≡ true
    number_itself n t = grind (arith, nat_tests)

    only : (l : List (ℕ × Money)) → (at period_cmp (block o H l) q ≡ None) ⊎ (at period_cmp (block o H l) q ≡ H q.1)
    only [] = inl refl
    only (r ∷ rs) = by (H r.0) refl (only rs)
      where
        two : (h : Historical) (b : Bool) → (q.1 == r.0) ≡ b → H r.0 ≡ Some h → (at period_cmp (block o H rs) q ≡ None) ⊎ (at period_cmp (block o H rs) q ≡ H q.1)
            → (cond b (Some h) (at period_cmp (block o H rs) q) ≡ None) ⊎ (cond b (Some h) (at period_cmp (block o H rs) q) ≡ H q.1)
        two h true t e k = inr (sym (ap H (is_number r.0 t) ∙ e))
        two h false t e k = k

        by : (x : Option Historical) → H r.0 ≡ x → (at period_cmp (block o H rs) q ≡ None) ⊎ (at period_cmp (block o H rs) q ≡ H q.1)
            → (at period_cmp (cons_option (option_map (λ y. ((o, r.0), y)) x) (block o H rs)) q ≡ None) ⊎ (at period_cmp (cons_option (option_map (λ y. ((o, r.0), y)) x) (block o H rs)) q ≡ H q.1)
        by None e k = k
        by (Some h) e k = subst (λ b. (cond b (Some h) (at period_cmp (block o H rs) q) ≡ None) ⊎ (cond b (Some h) (at period_cmp (block o H rs) q) ≡ H q.1)) (sym (key_of_one r.0)) (two h (q.1 == r.0) refl e k)

    one_found : (r : ℕ × Money) (h : Historical) → r.0 ≡ q.1 → H q.1 ≡ Some h → at period_cmp (block o H (r ∷ [])) q ≡ Some h
    one_found r h e f = by (H r.0) (ap H e ∙ f)
      where
        by : (x : Option Historical) → x ≡ Some h → at period_cmp (block o (λ k. x) (r ∷ [])) q ≡ Some h
        by None g = absurd cc
        by (Some y) g = ap (λ b. cond b (Some y) None) (key_of_one r.0 ∙ number_itself r.0 (sym e)) ∙ g

    there : (h : Historical) → H q.1 ≡ Some h → (l : List (ℕ × Money)) → Member (map (λ r. r.0) l) q.1 → at period_cmp (block o H (reverse l)) q ≡ Some h
    there h f [] m = absurd m
    there h f (r ∷ rs) m = subst (λ (x : Histories). at period_cmp x q ≡ Some h) (sym (block_turned r rs)) (by m (λ k. there h f rs k))
      where
        by : (r.0 ≡ q.1) ⊎ Member (map (λ x. x.0) rs) q.1 → (Member (map (λ x. x.0) rs) q.1 → at period_cmp (block o H (reverse rs)) q ≡ Some h) → at period_cmp (block o H (reverse rs) ++ block o H (r ∷ [])) q ≡ Some h
        by (inr k) later = at_found period_cmp q (block o H (reverse rs)) (block o H (r ∷ [])) h (later k)
        by (inl e) later = two (only (reverse rs))
          where
            two : (at period_cmp (block o H (reverse rs)) q ≡ None) ⊎ (at period_cmp (block o H (reverse rs)) q ≡ H q.1) → at period_cmp (block o H (reverse rs) ++ block o H (r ∷ [])) q ≡ Some h
            two (inl none) = at_second period_cmp q (block o H (reverse rs)) (block o H (r ∷ [])) none ∙ one_found r h e f
            two (inr some) = at_found period_cmp q (block o H (reverse rs)) (block o H (r ∷ [])) h (some ∙ f)

    block_found : (l : List (ℕ × Money)) → ((h : Historical) → H q.1 ≡ Some h → Member (map (λ r. r.0) l) q.1) → at period_cmp (block o H (reverse l)) q ≡ H q.1
    block_found l m = by (H q.1) refl
      where
        none : H q.1 ≡ None → (at period_cmp (block o H (reverse l)) q ≡ None) ⊎ (at period_cmp (block o H (reverse l)) q ≡ H q.1) → at period_cmp (block o H (reverse l)) q ≡ None
        none e (inl k) = k
        none e (inr k) = k ∙ e

        by : (x : Option Historical) → H q.1 ≡ x → at period_cmp (block o H (reverse l)) q ≡ x
        by None e = none e (only (reverse l))
        by (Some h) e = there h e l (m h e)

-- a record stands only of a period to which something refers
referred : (p : Periods) (starts : List StartingInfo) (n : ℕ) (h : Historical) → history_kept p starts n ≡ Some h → 0 < references_of p starts n
referred p starts n h e = by (references_of p starts n) (record { ratio = ratio_at p.ratios n; count = references_of p starts n }) e
  where
    by : (c : ℕ) (x : Historical) → (if c == 0 then None else Some x) ≡ Some h → 0 < c
    by zero x e = absurd cc
    by (suc c) x e = omega arith

module _ (r : Rewards) where
  abbrev pub histories : List ℕ × Periods → Histories
  histories e = block e.0 (history_kept e.1 (starts_of r e.0)) (reverse e.1.ratios)

  -- the record of a period
  abbrev pub history_in : Periods → List ℕ × ℕ → Option Historical
  history_in p q = history_kept p (starts_of r q.0) q.1

  history_group : (height : ℕ) (e : List ℕ × Periods) → PeriodsAreSound height (starts_of r e.0) e.1 → IsGroup period_cmp (λ q. q.0) histories history_in period_lower period_apart e
  history_group height e s = record {
    own = block_own e.0 (history_kept e.1 (starts_of r e.0)) (reverse e.1.ratios);
    ascend = block_ascends e.0 (history_kept e.1 (starts_of r e.0)) e.1.current e.1.ratios s.falling;
    found = λ q own.
        block_found e.0 (history_kept e.1 (starts_of r e.0)) q own e.1.ratios (λ h f. member (map (λ r. r.0) e.1.ratios) q.1 (s.standing q.1 (referred e.1 (starts_of r e.0) q.1 h f)))
        ∙ ap (λ (o : List ℕ). history_kept e.1 (starts_of r o) q.1) (sym own);
  }

  all_histories : (height : ℕ) (es : List (List ℕ × Periods)) → AllByRecursion (λ e. PeriodsAreSound height (starts_of r e.0) e.1) es → AreGroups period_cmp (λ q. q.0) histories history_in period_lower period_apart es
  all_histories height [] h = tt
  all_histories height (e ∷ es) h = (history_group height e h.0, all_histories height es h.1)

  groups_of : (height : ℕ) → RewardsAreSound height r → AreGroups period_cmp (λ q. q.0) histories history_in period_lower period_apart r.periods
  groups_of height sound = all_histories height r.periods (recursion_from_All (λ e. PeriodsAreSound height (starts_of r e.0) e.1) r.periods sound.periods)

  -- the keys of the records ascend
  pub histories_ascend : (height : ℕ) → RewardsAreSound height r → IsStrictlySortedBy period_cmp (keys_of (flat_map histories r.periods))
  histories_ascend height sound = groups_ascend period_cmp (λ q. q.0) histories history_in period_lower period_apart r.periods sound.periods_ascend (groups_of height sound)

  -- what is found of a period among them is what is kept of it
  pub history_found : (height : ℕ) → RewardsAreSound height r → (q : List ℕ × ℕ) → at period_cmp (flat_map histories r.periods) q ≡ history_of (at addr_cmp r.periods q.0) (starts_of r q.0) q.1
  history_found height sound q =
      groups_find period_cmp (λ q. q.0) histories history_in period_lower period_apart q r.periods sound.periods_ascend (groups_of height sound) ∙ same_history (at addr_cmp r.periods q.0)
    where
      same_history : (p : Option Periods) → within period_cmp (λ q. q.0) histories history_in period_lower period_apart p q ≡ history_of p (starts_of r q.0) q.1
      same_history None = refl
      same_history (Some p) = refl

  pub histories_kept : (height : ℕ) (k : Kept) → AreInOrder k → KeepsRewards k r → RewardsAreSound height r → k.historical ≡ flat_map histories r.periods
  histories_kept height k o s sound =
      one_list period_cmp period_exact period_total k.historical (flat_map histories r.periods) o.historical (histories_ascend height sound) (λ q. s.historical q.0 q.1 ∙ sym (history_found height sound q))

-- ---- slash events

abbrev pub Slashes : Type 0
Slashes = List ((List ℕ × ℕ × ℕ) × ℕ)

-- the events of an operator, by height and period
abbrev pub events_at : List ℕ → List SlashEvent → Slashes
events_at o xs = map (λ x. ((o, x.height, x.period), x.fraction)) xs

abbrev pub slashes : List ℕ × Periods → Slashes
slashes e = events_at e.0 e.1.events

-- the fraction of the event of a height and a period
abbrev event_in : ℕ → ℕ → List SlashEvent → Option ℕ
event_in h n [] = None
event_in h n (x ∷ xs) = cond ((h == x.height) && (n == x.period)) (Some x.fraction) (event_in h n xs)

abbrev event_of : Periods → List ℕ × ℕ × ℕ → Option ℕ
event_of p q = event_in q.1 q.2 p.events

kept_found : (q : List ℕ × ℕ × ℕ) (es : Slashes) → at event_cmp es q ≡ event_in q.1 q.2 (map event_at (filter (λ e. same_addr e.0.0 q.0) es))
kept_found q [] = refl
kept_found q (e ∷ es) = ap (λ b. cond b (Some e.1) (at event_cmp es q)) (event_found q e.0) ∙ by (same_addr q.0 e.0.0) (same_addr e.0.0 q.0) (same_back q.0 e.0.0) (kept_found q es)
  where
    by : (a b : Bool) → a ≡ b → at event_cmp es q ≡ event_in q.1 q.2 (map event_at (filter (λ d. same_addr d.0.0 q.0) es))
        → cond ((a && (q.1 == e.0.1)) && (q.2 == e.0.2)) (Some e.1) (at event_cmp es q) ≡ event_in q.1 q.2 (map event_at (cond b (e ∷ filter (λ d. same_addr d.0.0 q.0) es) (filter (λ d. same_addr d.0.0 q.0) es)))
    by true true s k = ap (λ (o : Option ℕ). cond ((q.1 == e.0.1) && (q.2 == e.0.2)) (Some e.1) o) k
    by false false s k = k
    by true false s k = absurd cc
    by false true s k = absurd cc

own_found : (o : List ℕ) (q : List ℕ × ℕ × ℕ) → q.0 ≡ o → (xs : List SlashEvent) → at event_cmp (events_at o xs) q ≡ event_in q.1 q.2 xs
own_found o q own [] = refl
own_found o q own (x ∷ xs) =
    ap (λ b. cond b (Some x.fraction) (at event_cmp (events_at o xs) q)) (event_found q (o, x.height, x.period) ∙ ap (λ b. (b && (q.1 == x.height)) && (q.2 == x.period)) (ap (λ p. same_addr p o) own ∙ same_itself o))
    ∙ ap (λ (y : Option ℕ). cond ((q.1 == x.height) && (q.2 == x.period)) (Some x.fraction) y) (own_found o q own xs)

own_events : (o : List ℕ) (xs : List SlashEvent) → AllByRecursion (λ x. x.0.0 ≡ o) (events_at o xs)
own_events o [] = tt
own_events o (x ∷ xs) = (refl, own_events o xs)

not_greater : (a b : ℕ) → a ≤ b → nat_cmp a b ≡ Greater → ⊥
not_greater a b h e = grind (arith, nat_tests)

pub event_less : (o : List ℕ) (h h2 n n2 : ℕ) → h ≤ h2 → n < n2 → event_cmp (o, h, n) (o, h2, n2) ≡ Less
event_less o h h2 n n2 a b = by (nat_cmp h h2) refl
  where
    tied : (x y : Ordering) → x ≡ Equal → y ≡ Equal → ordering_then x y ≡ Equal
    tied Less y e f = cc
    tied Equal y e f = f
    tied Greater y e f = cc

    by : (x : Ordering) → nat_cmp h h2 ≡ x → event_cmp (o, h, n) (o, h2, n2) ≡ Less
    by Less e = first_less (ordering_then (addr_cmp o o) (nat_cmp h h2)) (nat_cmp n n2) (then_less (addr_cmp o o) (nat_cmp h h2) (addr_itself o) e)
    by Equal e = then_less (ordering_then (addr_cmp o o) (nat_cmp h h2)) (nat_cmp n n2) (tied (addr_cmp o o) (nat_cmp h h2) (addr_itself o) e) (number_less n n2 b)
    by Greater e = absurd (not_greater h h2 a e)

later_events : (o : List ℕ) (h n : ℕ) (x : SlashEvent) (xs : List SlashEvent) → h ≤ x.height → n < x.period → GrowWithHeight (x ∷ xs) → Below event_cmp (o, h, n) (events_at o (x ∷ xs))
later_events o h n x [] a b g = (event_less o h x.height n x.period a b, tt)
later_events o h n x (y ∷ xs) a b g =
    let p : x.period < y.period = g.0 in
    let q : x.height ≤ y.height = g.1 in
    (event_less o h x.height n x.period a b, later_events o h n y xs (omega (arith, a, q)) (omega (arith, b, p)) g.2)

events_ascend : (o : List ℕ) (xs : List SlashEvent) → GrowWithHeight xs → IsStrictlySortedBy event_cmp (keys_of (events_at o xs))
unfolding IsStrictlySortedBy
events_ascend o [] g = tt
events_ascend o (x ∷ []) g = (tt, tt)
events_ascend o (x ∷ y ∷ xs) g = (later_events o x.height x.period y xs g.1 g.0 g.2, events_ascend o (y ∷ xs) g.2)

all_events : (height : ℕ) (r : Rewards) (es : List (List ℕ × Periods)) → AllByRecursion (λ e. PeriodsAreSound height (starts_of r e.0) e.1) es → AreGroups event_cmp (λ q. q.0) slashes event_of event_lower event_apart es
all_events height r [] h = tt
all_events height r (e ∷ es) h = (
  record { own = own_events e.0 e.1.events; ascend = events_ascend e.0 e.1.events h.0.order; found = λ q own. own_found e.0 q own e.1.events },
  all_events height r es h.1,
)

slash_groups : (height : ℕ) (r : Rewards) → RewardsAreSound height r → AreGroups event_cmp (λ q. q.0) slashes event_of event_lower event_apart r.periods
slash_groups height r sound = all_events height r r.periods (recursion_from_All (λ e. PeriodsAreSound height (starts_of r e.0) e.1) r.periods sound.periods)

-- the keys of slash events ascend
pub slashes_ascend : (height : ℕ) (r : Rewards) → RewardsAreSound height r → IsStrictlySortedBy event_cmp (keys_of (flat_map slashes r.periods))
slashes_ascend height r sound = groups_ascend event_cmp (λ q. q.0) slashes event_of event_lower event_apart r.periods sound.periods_ascend (slash_groups height r sound)

pub slashes_kept : (height : ℕ) (k : Kept) (r : Rewards) → AreInOrder k → KeepsRewards k r → RewardsAreSound height r → k.events ≡ flat_map slashes r.periods
slashes_kept height k r o s sound =
    one_list event_cmp event_exact event_total k.events (flat_map slashes r.periods) o.events (slashes_ascend height r sound)
    (λ q. kept_found q k.events ∙ ap (event_in q.1 q.2) (s.events q.0) ∙ same_event (at addr_cmp r.periods q.0) q ∙ sym (groups_find event_cmp (λ q. q.0) slashes event_of event_lower event_apart q r.periods sound.periods_ascend (slash_groups height r sound)))
  where
    same_event : (p : Option Periods) (q : List ℕ × ℕ × ℕ) → event_in q.1 q.2 (unwrap_or p initial_records).events ≡ within event_cmp (λ q. q.0) slashes event_of event_lower event_apart p q
    same_event None q = refl
    same_event (Some p) q = refl
