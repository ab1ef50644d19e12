-- The count over the items of validators and delegations is the tally.
use Rattle.std.proofs.{Math.Nat.{mul-le-mul_left, mul-le-mul_right}, lemmas.Bool.cases_lt}
use Rattle.std.proofs.lemmas.List.Elements.{All-from_recursion, recursion_from_All}
use Rattle.std.proofs.lemmas.List.Sorted.{All-permutation, sum_by-IsPermutation}
use Rattle.std.specs.List.{AllByRecursion, IsDistinct, cons_option, Sorted.IsStrictlySortedBy}
use Rattle.std.specs.{Map.{keys_of, values_of}, Ordering.eq_by_cmp}
use Rattle.std.proofs.Common.{◌≡◌, ◌∙◌, ℕ, ◌+◌, ◌-◌, ◌*◌, ◌^◌, ◌<◌, ◌≤◌, Bool, true, false, cond, List, [], ◌∷◌, length, map, Option, Some, None, inl, inr, refl, sym, ap, subst, arith, zero-add, add-zero, if◌then◌else◌, filter, filter_map, sum_by, IsPermutation}
use Rattle.base_types.specs.Orders.{addr_cmp}
use Rattle.base_roles.specs.{declared.{entities.Validator.Validator, items.Item.Item}, Orders.same_addr}
use Rattle.base_roles.specs.Staked.{Staked, is_bonded, tokens_where}
use Rattle.base_roles.specs.declared.items.Item.TheVariants as item
use Rattle.rule_modules.proofs.OrderLemmas.{addr_total}
use Rattle.rule_machine.specs.Orders.{in_order}
use Rattle.mod_tally.specs.declared.{choice.Choice.{Choice, TheVariants.{Yes, Abstain, No, Veto}}, outcome.Tally.Tally}
use Rattle.mod_tally.specs.{declared.polls.Poll.Poll, Ballots.{Chosen, is_for}}
use Rattle.mod_tally.specs.Counting.{CanClose, CanWalk, Polls, Running, bonded_in, closed, nothing_counted, poll_in, poll_of, total_for, walked, worth_at}
use Rattle.mod_tally.specs.{Exact.values_for, Taken.{CanBeTallied, delegation_in, staked_in, validator_in}}
use Rattle.mod_tally.specs.Tally.{Delegations, counts, delegations_to, shares_in, stake_for, tally_of, those_cast, those_for, total_of}
use Rattle.mod_tally.proofs.Entries.{mapped, order_ascends, order_permutes}
use Rattle.mod_tally.proofs.{Exactness.{IsFull, all_full, counts_bonded, totals_most}, Parts.{cast_within, counts_some}}
use Rattle.mod_tally.proofs.{Sums.{pass_by, sum_alike, sum_both, sum_mapped, sum_next}, Swapping.{from_voters, swap}}
use Rattle.mod_tally.proofs.Walking.{AreFit, IsFit, IsReady, added_all, close, left_for, more_again, more_for, poll_before, polls_before, taken, walk, with_more}

-- ---- what the count takes of validators

-- a bonded validator with shares
abbrev pub poll_at : List ℕ × Validator → Option (List ℕ × Poll)
poll_at e = if counts e.1 then Some (e.0, poll_of e.1) else None

polls_told : (items : List Item) → filter_map poll_in items ≡ filter_map poll_at (filter_map validator_in items)
polls_told [] = refl
polls_told (item.Validator v ∷ items) = ap (cons_option (poll_at (v.operator, v))) (polls_told items)
polls_told (i ∷ items) = polls_told items

bonded_told : (items : List Item) → sum_by bonded_in items ≡ tokens_where is_bonded (filter_map validator_in items)
bonded_told [] = refl
bonded_told (item.Validator v ∷ items) = sum_next bonded_in (item.Validator v) items ∙ ap (λ n. cond (is_bonded v.status) v.tokens 0 + n) (bonded_told items)
bonded_told (i ∷ items) = sum_next bonded_in i items ∙ ap (λ n. 0 + n) (bonded_told items) ∙ zero-add (tokens_where is_bonded (filter_map validator_in items))

apart_kept : (k : List ℕ) (es : List (List ℕ × Validator)) → AllByRecursion (λ y. same_addr k y ≡ false) (keys_of es) → AllByRecursion (λ y. same_addr k y ≡ false) (keys_of (filter_map poll_at es))
apart_kept k [] h = tt
apart_kept k (e ∷ es) h = by (counts e.1) (apart_kept k es h.1)
  where
    by : (b : Bool) → AllByRecursion (λ y. same_addr k y ≡ false) (keys_of (filter_map poll_at es))
        → AllByRecursion (λ y. same_addr k y ≡ false) (keys_of (cons_option (if b then Some (e.0, poll_of e.1) else None) (filter_map poll_at es)))
    by true later = (h.0, later)
    by false later = later

distinct_kept : (es : List (List ℕ × Validator)) → IsDistinct same_addr (keys_of es) → IsDistinct same_addr (keys_of (filter_map poll_at es))
unfolding IsDistinct
distinct_kept [] h = tt
distinct_kept (e ∷ es) h = by (counts e.1) (apart_kept e.0 es h.0) (distinct_kept es h.1)
  where
    by : (b : Bool) → AllByRecursion (λ y. same_addr e.0 y ≡ false) (keys_of (filter_map poll_at es)) → IsDistinct same_addr (keys_of (filter_map poll_at es))
        → IsDistinct same_addr (keys_of (cons_option (if b then Some (e.0, poll_of e.1) else None) (filter_map poll_at es)))
    by true first later = (first, later)
    by false first later = later

-- what a validator is before the first delegation is counted
pub record IsBegun (ds : Delegations) (e : List ℕ × Poll) : Type 0 where
  pub tokens : e.1.tokens ≤ 10 ^ 18
  pub some : 0 < e.1.shares
  pub whole : e.1.left ≡ e.1.shares
  pub full : e.1.shares ≡ shares_in (delegations_to e.0 ds)

begun : (ds : Delegations) (es : List (List ℕ × Validator)) → AllByRecursion (λ (e : List ℕ × Validator). e.1.operator ≡ e.0) es
    → AllByRecursion (λ (e : List ℕ × Validator). IsFull ds e.1) es → tokens_where is_bonded es ≤ 10 ^ 18 → AllByRecursion (IsBegun ds) (filter_map poll_at es)
begun ds [] named full most = tt
begun ds (e ∷ es) named full most = by (counts e.1) refl (begun ds es named.1 full.1 (omega (arith, most)))
  where
    by : (b : Bool) → counts e.1 ≡ b → AllByRecursion (IsBegun ds) (filter_map poll_at es)
        → AllByRecursion (IsBegun ds) (cons_option (if b then Some (e.0, poll_of e.1) else None) (filter_map poll_at es))
    by true is later =
        let own : cond (is_bonded e.1.status) e.1.tokens 0 ≡ e.1.tokens = ap (λ b. cond b e.1.tokens 0) (counts_bonded e.1 is) in
        let shares : e.1.shares ≡ shares_in (delegations_to e.0 ds) = (full.0).shares ∙ ap (λ o. shares_in (delegations_to o ds)) named.0 in
        (record { tokens = omega (arith, own, most); some = counts_some e.1 is; whole = refl; full = shares }, later)
    by false is later = later

-- ---- lists that are no longer

filter_short : {X : Type 0} (p : X → Bool) (xs : List X) → length (filter p xs) ≤ length xs
filter_short p [] = omega arith
filter_short p (x ∷ xs) = by (p x) (filter_short p xs)
  where
    by : (b : Bool) → length (filter p xs) ≤ length xs → length (cond b (x ∷ filter p xs) (filter p xs)) ≤ length (x ∷ xs)
    by true h = omega arith
    by false h = omega arith

-- ---- sums over validators

module _ (chosen : Chosen) (c : Choice) (ds : Delegations) where
  -- what is given to a choice at one validator
  abbrev pub at_poll : List ℕ × Poll → ℕ
  at_poll e = from_voters chosen c ds e + cond (is_for (chosen e.0) c) (worth_at e.1 (e.1.shares - taken chosen ds e.0)) 0

  over_polls : (es : List (List ℕ × Validator)) → AllByRecursion (λ (e : List ℕ × Validator). e.1.operator ≡ e.0) es
      → sum_by at_poll (filter_map poll_at es) ≡ sum_by (stake_for chosen c ds) (filter counts (values_of es))
  over_polls [] named = refl
  over_polls (e ∷ es) named = by (counts e.1) (over_polls es named.1)
    where
      by : (b : Bool) → sum_by at_poll (filter_map poll_at es) ≡ sum_by (stake_for chosen c ds) (filter counts (values_of es))
          → sum_by at_poll (cons_option (if b then Some (e.0, poll_of e.1) else None) (filter_map poll_at es))
          ≡ sum_by (stake_for chosen c ds) (cond b (e.1 ∷ filter counts (values_of es)) (filter counts (values_of es)))
      by true later =
          sum_next at_poll (e.0, poll_of e.1) (filter_map poll_at es)
          ∙ (λ i. at_poll (sym named.0 i, poll_of e.1) + later i)
          ∙ sym (sum_next (stake_for chosen c ds) e.1 (filter counts (values_of es)))
      by false later = later

  -- ---- how many values there are

  values_most : (v : Validator) → values_for chosen c ds v ≤ length ds + 1
  values_most v =
      let voters : length (those_for chosen c (delegations_to v.operator ds)) ≤ length (delegations_to v.operator ds) = filter_short (λ d. is_for (chosen d.0.1) c) (delegations_to v.operator ds) in
      let all : length (delegations_to v.operator ds) ≤ length ds = filter_short (λ d. same_addr d.0.0 v.operator) ds in
      let own : cond (is_for (chosen v.operator) c) 1 0 ≤ 1 = pass_by (is_for (chosen v.operator) c) 1 in
      omega arith

  values_few : (es : List (List ℕ × Validator)) → sum_by (values_for chosen c ds) (filter counts (values_of es)) ≤ length es * (length ds + 1)
  values_few [] = omega arith
  values_few (e ∷ es) = by (counts e.1) (values_few es)
    where
      by : (b : Bool) → sum_by (values_for chosen c ds) (filter counts (values_of es)) ≤ length es * (length ds + 1)
          → sum_by (values_for chosen c ds) (cond b (e.1 ∷ filter counts (values_of es)) (filter counts (values_of es))) ≤ length (e ∷ es) * (length ds + 1)
      by true h =
          let all : sum_by (values_for chosen c ds) (e.1 ∷ filter counts (values_of es)) ≡ values_for chosen c ds e.1 + sum_by (values_for chosen c ds) (filter counts (values_of es)) = sum_next (values_for chosen c ds) e.1 (filter counts (values_of es)) in
          let one : values_for chosen c ds e.1 ≤ length ds + 1 = values_most e.1 in
          omega arith
      by false h = omega arith

-- validators and delegations are no more than the items
both_short : (items : List Item) → length (filter_map validator_in items) + length (filter_map delegation_in items) ≤ length items
both_short [] = omega arith
both_short (item.Validator v ∷ items) = let later : length (filter_map validator_in items) + length (filter_map delegation_in items) ≤ length items = both_short items in omega arith
both_short (item.Delegation o d n ∷ items) = let later : length (filter_map validator_in items) + length (filter_map delegation_in items) ≤ length items = both_short items in omega arith
both_short (i ∷ items) = let later : length (filter_map validator_in items) + length (filter_map delegation_in items) ≤ length items = both_short items in omega arith

-- a product is at most that of the halves of the sum
low_product : (w e h : ℕ) → w ≤ h → w + e ≤ 2 * h → w * e ≤ h * h
low_product w e h low sum =
    let k : ℕ = h - w in
    let is : w + k ≡ h = omega arith in
    let first : w * e ≤ w * (h + k) = mul-le-mul_left w (omega arith) in
    let second : w * k ≤ h * k = mul-le-mul_right k low in
    let square : (w + k) * h ≡ h * h = ap (λ n. n * h) is in
    omega arith

product_most : (w e h : ℕ) → w + e ≤ 2 * h → w * e ≤ h * h
product_most w e h sum =
    elim (cases_lt h w) [
      | inl more ↦ let turned : e * w ≤ h * h = low_product e w h (omega arith) (omega arith) in omega arith
      | inr less ↦ low_product w e h less sum
    ]

few_of : (values w d n : ℕ) → values ≤ w * (d + 1) → w + d ≤ n → n < 2 ^ 64 → values ≤ 2 ^ 126
few_of values w d n h all short =
    let most : w * (d + 1) ≤ 2 ^ 63 * 2 ^ 63 = product_most w (d + 1) (2 ^ 63) (omega arith) in
    omega arith

fits_of : (total tokens values : ℕ) → total ≤ tokens * 10 ^ 18 + values → tokens ≤ 10 ^ 18 → values ≤ 2 ^ 126 → total < 10 ^ 38
fits_of total tokens values h j k = omega arith

-- ---- before the first delegation

module _ (chosen : Chosen) (ds : Delegations) where
  -- what is left of a validator in the end
  abbrev pub final : List ℕ × Poll → ℕ
  final e = e.1.shares - taken chosen ds e.0

  within : (e : List ℕ × Poll) → IsBegun ds e → taken chosen ds e.0 ≤ e.1.shares
  within e b = omega (arith, b.full, cast_within chosen Yes e.0 ds)

  begins : (es : Polls) → AllByRecursion (IsBegun ds) es → polls_before chosen final ds es ≡ es
  begins [] h = refl
  begins (e ∷ es) h =
      let b : IsBegun ds e = h.0 in
      let part : taken chosen ds e.0 ≤ e.1.shares = within e b in
      let whole : e.1.left ≡ e.1.shares = b.whole in
      let left : final e + taken chosen ds e.0 ≡ e.1.left = omega arith in
      λ i. (e.0, record e.1 { left = left i }) ∷ begins es h.1 i

  begun_fit : (es : Polls) → AllByRecursion (IsBegun ds) es → AreFit chosen final ds es
  begun_fit [] h = tt
  begun_fit (e ∷ es) h =
      let b : IsBegun ds e = h.0 in
      let part : taken chosen ds e.0 ≤ e.1.shares = within e b in
      (record { tokens = b.tokens; some = b.some; left = omega arith }, begun_fit es h.1)

  ends_ready : (es : Polls) → AllByRecursion (IsBegun ds) es → AllByRecursion (IsReady chosen) (polls_before chosen final [] es)
  ends_ready [] h = tt
  ends_ready (e ∷ es) h =
      let b : IsBegun ds e = h.0 in
      (record { tokens = b.tokens; some = b.some; left = omega arith }, ends_ready es h.1)

  -- what operators add in the end
  left_alike : (c : Choice) (e : List ℕ × Poll) → left_for chosen c (e.0, poll_before chosen final [] e) ≡ cond (is_for (chosen e.0) c) (worth_at e.1 (e.1.shares - taken chosen ds e.0)) 0
  left_alike c e = ap (λ n. cond (is_for (chosen e.0) c) (worth_at e.1 n) 0) (add-zero (final e))

  -- both sums, over validators in order
  both_sums : (c : Choice) (es : Polls) → IsStrictlySortedBy addr_cmp (keys_of es)
      → added_all chosen es c ds + sum_by (left_for chosen c) (polls_before chosen final [] es) ≡ sum_by (at_poll chosen c ds) es
  both_sums c es s =
      (λ i. swap chosen c es ds s i
      + (sum_mapped (left_for chosen c) (λ (e : List ℕ × Poll). (e.0, poll_before chosen final [] e)) es
      ∙ sum_alike (λ (e : List ℕ × Poll). left_for chosen c (e.0, poll_before chosen final [] e)) (λ (e : List ℕ × Poll). cond (is_for (chosen e.0) c) (worth_at e.1 (e.1.shares - taken chosen ds e.0)) 0) (left_alike c) es) i)
      ∙ sym (sum_both (from_voters chosen c ds) (λ (e : List ℕ × Poll). cond (is_for (chosen e.0) c) (worth_at e.1 (e.1.shares - taken chosen ds e.0)) 0) es)

-- ---- the whole count

-- the count is over the items of validators and delegations
pub record IsCounted (items : List Item) (chosen : Chosen) (start : Running) : Type 0 where
  pub can_walk : CanWalk chosen (filter_map delegation_in items) start
  pub can_close : CanClose chosen (walked chosen (filter_map delegation_in items) start).0 (walked chosen (filter_map delegation_in items) start).1
  pub is : closed chosen (walked chosen (filter_map delegation_in items) start).0 (walked chosen (filter_map delegation_in items) start).1 ≡ tally_of (staked_in items) chosen

-- what the count begins with
abbrev pub start_of : List Item → Running
start_of items = (in_order addr_cmp (filter_map poll_in items), nothing_counted (sum_by bonded_in items))

-- bonded validators have no more tokens than there can be
pub bonded_few : (items : List Item) → CanBeTallied (staked_in items) → sum_by bonded_in items ≤ 10 ^ 18
bonded_few items can = omega (arith, bonded_told items, can.tokens)

module _ (items : List Item) (chosen : Chosen) (short : length items < 2 ^ 64) (can : CanBeTallied (staked_in items)) where
  abbrev validators : List (List ℕ × Validator)
  validators = filter_map validator_in items

  abbrev delegations : Delegations
  delegations = filter_map delegation_in items

  abbrev told : Polls
  told = filter_map poll_in items

  abbrev polls : Polls
  polls = in_order addr_cmp told

  named : AllByRecursion (λ (e : List ℕ × Validator). e.1.operator ≡ e.0) validators
  named = recursion_from_All (λ (e : List ℕ × Validator). e.1.operator ≡ e.0) validators can.named

  told_begun : AllByRecursion (IsBegun delegations) told
  told_begun = subst (AllByRecursion (IsBegun delegations)) (sym (polls_told items)) (begun delegations validators named (all_full (staked_in items) can) can.tokens)

  permutes : IsPermutation told polls
  permutes = order_permutes addr_total told (subst (λ es. IsDistinct same_addr (keys_of es)) (sym (polls_told items)) (distinct_kept validators can.operators))

  polls_begun : AllByRecursion (IsBegun delegations) polls
  polls_begun = recursion_from_All (IsBegun delegations) polls (All-permutation (IsBegun delegations) told polls permutes (All-from_recursion (IsBegun delegations) told told_begun))

  ascends : IsStrictlySortedBy addr_cmp (keys_of polls)
  ascends = order_ascends addr_total told

  -- what delegations and operators add to a choice
  abbrev voters_add : Choice → ℕ
  voters_add c = added_all chosen polls c delegations

  abbrev ended : Polls
  ended = polls_before chosen (final chosen delegations) [] polls

  abbrev operators_add : Choice → ℕ
  operators_add c = sum_by (left_for chosen c) ended

  total_is : (c : Choice) → voters_add c + operators_add c ≡ total_of (staked_in items) chosen c
  total_is c =
      both_sums chosen delegations c polls ascends
      ∙ sum_by-IsPermutation (at_poll chosen c delegations) told polls permutes
      ∙ ap (sum_by (at_poll chosen c delegations)) (polls_told items)
      ∙ over_polls chosen c delegations validators named

  total_fits : (c : Choice) → total_of (staked_in items) chosen c < 10 ^ 38
  total_fits c =
      let most : total_of (staked_in items) chosen c ≤ tokens_where is_bonded validators * 10 ^ 18 + sum_by (values_for chosen c delegations) (filter counts (values_of validators)) = totals_most chosen c delegations validators (all_full (staked_in items) can) in
      let few : sum_by (values_for chosen c delegations) (filter counts (values_of validators)) ≤ 2 ^ 126 =
      few_of (sum_by (values_for chosen c delegations) (filter counts (values_of validators))) (length validators) (length delegations) (length items)
      (values_few chosen c delegations validators) (both_short items) short in
      let tokens : tokens_where is_bonded validators ≤ 10 ^ 18 = can.tokens in
      fits_of (total_of (staked_in items) chosen c) (tokens_where is_bonded validators) (sum_by (values_for chosen c delegations) (filter counts (values_of validators))) most tokens few

  abbrev nothing : Tally
  nothing = nothing_counted (sum_by bonded_in items)

  no_total : (c : Choice) → total_for nothing c ≡ 0
  no_total Yes = refl
  no_total Abstain = refl
  no_total No = refl
  no_total Veto = refl

  room_for_voters : (c : Choice) → total_for nothing c + voters_add c < 10 ^ 38
  room_for_voters c = omega (arith, no_total c, total_is c, total_fits c)

  abbrev after_voters : Tally
  after_voters = with_more voters_add nothing

  room_for_operators : (c : Choice) → total_for after_voters c + operators_add c < 10 ^ 38
  room_for_operators c = omega (arith, more_for voters_add nothing c, no_total c, total_is c, total_fits c)

  walks : CanWalk chosen delegations (polls, nothing) × (walked chosen delegations (polls, nothing) ≡ (ended, after_voters))
  walks =
      let run = walk chosen (final chosen delegations) polls ascends delegations nothing (begun_fit chosen delegations polls polls_begun) room_for_voters in
      let begin : polls_before chosen (final chosen delegations) delegations polls ≡ polls = begins chosen delegations polls polls_begun in
      (subst (λ es. CanWalk chosen delegations (es, nothing)) begin run.0, ap (λ es. walked chosen delegations (es, nothing)) (sym begin) ∙ run.1)

  closes : CanClose chosen ended after_voters × (closed chosen ended after_voters ≡ with_more operators_add after_voters)
  closes = close chosen ended after_voters (ends_ready chosen delegations polls polls_begun) room_for_operators

  is_tally : with_more operators_add after_voters ≡ tally_of (staked_in items) chosen
  is_tally =
      more_again voters_add operators_add nothing
      ∙ (λ i. record {
        yes = (zero-add (voters_add Yes + operators_add Yes) ∙ total_is Yes) i;
        abstain = (zero-add (voters_add Abstain + operators_add Abstain) ∙ total_is Abstain) i;
        no = (zero-add (voters_add No + operators_add No) ∙ total_is No) i;
        veto = (zero-add (voters_add Veto + operators_add Veto) ∙ total_is Veto) i;
        bonded = bonded_told items i;
      })

  pub counted_all : IsCounted items chosen (start_of items)
  counted_all =
      let after : walked chosen delegations (polls, nothing) ≡ (ended, after_voters) = walks.1 in
      record {
        can_walk = walks.0;
        can_close = subst (λ r. CanClose chosen r.0 r.1) (sym after) closes.0;
        is = ap (λ r. closed chosen r.0 r.1) after ∙ closes.1 ∙ is_tally;
      }
