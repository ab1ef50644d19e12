-- The plain state of a sound state's records has no more denominations than the state.
use Rattle.std.proofs.Common.{◌≡◌, ℕ, Bool, true, false, List, [], ◌∷◌, ◌++◌, Some, map, sym, subst, nat_le, is_some, if◌then◌else◌, Contains}
use Rattle.std.specs.{List.AllByRecursion, Map.values_of}
use Rattle.std.proofs.lemmas.{List.Elements.{All-from_recursion, recursion_from_All}, Map.Lookups.exact_bytes}
use Rattle.base_types.specs.Orders.{addr_cmp}
use Rattle.base_coins.specs.Coins.{Money}
use Rattle.base_roles.specs.{declared.entities.Historical.Historical, Entries.at, Orders.same_addr}
use Rattle.rule_modules.specs.{Chain.{State, shared_in}, Distribution.Shared, Periods.{Periods, ratio_at, start_of}}
use Rattle.rule_modules.specs.Sound.{AreAtMost, RewardsAreSound, denominations_of, names_in, names_of_periods, names_of_purses, names_of_ratios}
use Rattle.rule_modules.proofs.{EntryLemmas.{from_all, to_all}, OrderLemmas.addr_total}
use Rattle.mod_periods.proofs.OrderLemmas.{period_total}
use Rattle.store_records.specs.{Plain.{SharedSeen, period_cmp}, States.{periods_in, ratios_of, state_of}}
use Rattle.law_records.{specs.Records.{plain_of, shared_of}, proofs.RatioLaws.{all_turned, rows_all, rows_in}}
use Rattle.law_records.proofs.{RewardLists.histories_ascend, RewardPass.record_there}

module _ (P : List ℕ → Type 0) where
  abbrev Each : List (List ℕ) → Type 0
  Each names = AllByRecursion P names

  -- each name of each ratio
  abbrev EachOf : List (ℕ × Money) → Type 0
  EachOf rs = AllByRecursion (λ (r : ℕ × Money). Each (names_in r.1)) rs

  split : (xs ys : List (List ℕ)) → Each (xs ++ ys) → Each xs × Each ys
  split [] ys h = (tt, h)
  split (x ∷ xs) ys h = let rest = split xs ys h.1 in ((h.0, rest.0), rest.1)

  joined : (xs ys : List (List ℕ)) → Each xs → Each ys → Each (xs ++ ys)
  joined [] ys h k = k
  joined (x ∷ xs) ys h k = (h.0, joined xs ys h.1 k)

  of_ratios : (rs : List (ℕ × Money)) → Each (names_of_ratios rs) → EachOf rs
  of_ratios [] h = tt
  of_ratios (r ∷ rs) h = let two = split (names_in r.1) (names_of_ratios rs) h in (two.0, of_ratios rs two.1)

  in_ratios : (rs : List (ℕ × Money)) → EachOf rs → Each (names_of_ratios rs)
  in_ratios [] h = tt
  in_ratios (r ∷ rs) h = joined (names_in r.1) (names_of_ratios rs) h.0 (in_ratios rs h.1)

  of_periods : (es : List (List ℕ × Periods)) → Each (names_of_periods (values_of es)) → AllByRecursion (λ (e : List ℕ × Periods). EachOf e.1.ratios) es
  of_periods [] h = tt
  of_periods (e ∷ es) h = let two = split (names_of_ratios e.1.ratios) (names_of_periods (values_of es)) h in (of_ratios e.1.ratios two.0, of_periods es two.1)

  in_running : (l : SharedSeen) → ((o : List ℕ) → EachOf (ratios_of l o)) → (es : List (List ℕ × ℕ)) → Each (names_of_periods (values_of (map (λ (e : List ℕ × ℕ). (e.0, periods_in l e.0 e.1)) es)))
  in_running l h [] = tt
  in_running l h (e ∷ es) = joined (names_of_ratios (ratios_of l e.0)) (names_of_periods (values_of (map (λ (x : List ℕ × ℕ). (x.0, periods_in l x.0 x.1)) es))) (in_ratios (ratios_of l e.0) (h e.0)) (in_running l h es)

  at_period : (rs : List (ℕ × Money)) (n : ℕ) → EachOf rs → Each (names_in (ratio_at rs n))
  at_period [] n h = tt
  at_period (r ∷ rs) n h = by (nat_le r.0 n) (at_period rs n h.1)
    where
      by : (b : Bool) → Each (names_in (ratio_at rs n)) → Each (names_in (if b then r.1 else ratio_at rs n))
      by true k = h.0
      by false k = k

  module _ (height : ℕ) (d : Shared) (s : RewardsAreSound height d.rewards)
      (started : (operator delegator : List ℕ) → is_some (start_of d.rewards delegator operator) ≡ true → is_some (at addr_cmp d.rewards.periods operator) ≡ true) where
    -- the names of each recorded ratio are names of the periods
    recorded : Each (names_of_periods (values_of d.rewards.periods)) → (q : List ℕ × ℕ) (h : Historical) → at period_cmp (shared_of d).histories q ≡ Some h → Each (names_in h.ratio)
    recorded all q h f =
        let found = record_there height d s started q h f in
        let p : Periods = found.0 in
        let own = from_all addr_cmp addr_total (λ (e : List ℕ × Periods). EachOf e.1.ratios) d.rewards.periods exact_bytes (All-from_recursion (λ (e : List ℕ × Periods). EachOf e.1.ratios) d.rewards.periods (of_periods d.rewards.periods all)) q.0 p found.1 in
        subst (λ (m : Money). Each (names_in m)) (sym found.4) (at_period p.ratios q.1 own)

    of_operator : Each (names_of_periods (values_of d.rewards.periods)) → (o : List ℕ) → EachOf (ratios_of (shared_of d) o)
    of_operator all o =
        all_turned (λ (r : ℕ × Money). Each (names_in r.1)) (rows_in o (shared_of d).histories)
        (rows_all (λ (r : ℕ × Money). Each (names_in r.1)) o (shared_of d).histories
        (recursion_from_All (λ (h : (List ℕ × ℕ) × Historical). same_addr h.0.0 o ≡ true → Each (names_in h.1.ratio)) (shared_of d).histories
        (to_all period_cmp period_total (λ (h : (List ℕ × ℕ) × Historical). same_addr h.0.0 o ≡ true → Each (names_in h.1.ratio)) (shared_of d).histories (histories_ascend d.rewards height s) (λ q h f same. recorded all q h f))))

    pub of_records : Each (names_of_periods (values_of d.rewards.periods)) → Each (names_of_periods (values_of (map (λ (e : List ℕ × ℕ). (e.0, periods_in (shared_of d) e.0 e.1)) (shared_of d).currents)))
    of_records all = in_running (shared_of d) (of_operator all) (shared_of d).currents

-- no more denominations
pub few_too : (p : State) (most : ℕ) → RewardsAreSound p.view.ctx.height (shared_in p).rewards
    → ((operator delegator : List ℕ) → is_some (start_of (shared_in p).rewards delegator operator) ≡ true → is_some (at addr_cmp (shared_in p).rewards.periods operator) ≡ true)
    → AreAtMost most (denominations_of p) → AreAtMost most (denominations_of (state_of (plain_of p)))
few_too p most s started h =
    let d = shared_in p in
    let P = Contains h.some in
    let held = map (λ e. e.0.1) p.view.bank.balances in
    let pool = names_in d.purses.pool in
    let purses = names_of_purses (values_of d.purses.purses) in
    let periods = names_of_periods (values_of d.rewards.periods) in
    let recorded = names_of_periods (values_of (map (λ (e : List ℕ × ℕ). (e.0, periods_in (shared_of d) e.0 e.1)) (shared_of d).currents)) in
    let all = recursion_from_All P (denominations_of p) h.all in
    let last = split P (held ++ pool ++ purses) periods all in
    record {
      some = h.some;
      few = h.few;
      all = All-from_recursion P (denominations_of (state_of (plain_of p))) (joined P (held ++ pool ++ purses) recorded last.0 (of_records P p.view.ctx.height d s started last.1));
    }
