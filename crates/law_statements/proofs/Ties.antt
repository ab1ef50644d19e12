-- The validator's last ratio is what its log comes to: from the end of a period on, and through all that does not end one.
use Rattle.std.proofs.Common.{◌≡◌, ◌∙◌, ℕ, zero, suc, ◌+◌, ◌-◌, ◌*◌, ◌^◌, ◌==◌, ◌<◌, ◌≤◌, Bool, true, false, List, [], ◌∷◌, ◌++◌, refl, sym, ap, subst, arith, Result, Ok, Err, cond, if◌then◌else◌, unwrap_or}
use Rattle.std.specs.List.{AllByRecursion}
use Rattle.base_decimals.specs.{declared.over.Over.Over, Decimals.{period_over, quo_cut_of}}
use Rattle.base_coins.specs.Coins.{Money, IsMoney, amount_of, coins_added, coins_quo_cut, coins_taken}
use Rattle.base_coins.proofs.{Order.{money-nil, rises_from_money}, Amounts.amount-added, Parts.{below_is, by_is_money}}
use Rattle.base_coins.proofs.Results.{sum_is_money}
use Rattle.base_types.specs.Orders.{addr_cmp}
use Rattle.base_roles.specs.{declared.entities.{Purse.Purse, Validator.Validator}, Entries.with, Log.{Log, LogEntry}}
use Rattle.base_roles.specs.{Orders.same_addr, Flow.{◌>>=◌, ◌>>◌, stop_if}, World.View}
use Rattle.base_roles.specs.declared.facts.Fact.TheVariants as fact
use Rattle.base_roles.specs.Log as log
use Rattle.rule_modules.specs.{Distribution.{Shared, current_taken, ended}, Ideal.{behind, history_of}}
use Rattle.rule_modules.specs.Periods.{Periods, initial_records, last_ended, period_ended, periods_of, ratio_at}
use Rattle.rule_modules.specs.Purses.{Purses, current_emptied, current_lost, current_pooled, pool_joined, purse_of, with_purse}
use Rattle.rule_modules.proofs.GoingLemmas.{same_ok, step_parts}
use Rattle.law_rewards.{specs.Withdrawals.{raised_in, risen}, proofs.Denominations.money_at}
use Rattle.law_rewards.proofs.{Entries.{addr_is, history_behind, history_elsewhere}, Claims.{AreLists, periods_with}}
use Rattle.law_rewards.proofs.{Paying.ended_with, Following.ratio_new, Quiet.joined_purses}
use Rattle.law_statements.proofs.Meeting.{raised_more}

-- The ratios of periods are coins, as are current rewards; and the last ratio is what the log has of increments.
pub record IsTied (operator : List ℕ) (ps : Periods) (current : Money) (l : Log) : Type 0 where
  pub lists : AreLists ps
  pub money : IsMoney current
  pub ratio : (d : List ℕ) → amount_of (ratio_at ps.ratios (last_ended ps)) d ≡ raised_in d (history_of operator l [])

-- ---- the log

-- an entry that raises no ratio, and makes no validator
pub record IsFlat (e : LogEntry) : Type 0 where
  pub stays : (es : List LogEntry) → behind es e ≡ es ++ e ∷ []
  pub rises : (d : List ℕ) → risen d e ≡ 0

module _ (operator : List ℕ) (l : Log) where
  raised_flat : (who : List ℕ) (e : LogEntry) → IsFlat e → (d : List ℕ) → raised_in d (history_of operator (l ++ (who, e) ∷ []) []) ≡ raised_in d (history_of operator l [])
  raised_flat who e flat d = by (same_addr who operator) refl
    where
      none : (a b : ℕ) → b ≡ 0 → a + b ≡ a
      none a b h = omega arith

      by : (b : Bool) → same_addr who operator ≡ b → raised_in d (history_of operator (l ++ (who, e) ∷ []) []) ≡ raised_in d (history_of operator l [])
      by true is =
          ap (λ (o : List ℕ). raised_in d (history_of operator (l ++ (o, e) ∷ []) [])) (addr_is who operator is)
          ∙ ap (raised_in d) (history_behind operator l e [] ∙ flat.stays (history_of operator l []))
          ∙ raised_more d (history_of operator l []) e
          ∙ none (raised_in d (history_of operator l [])) (risen d e) (flat.rises d)
      by false is = ap (raised_in d) (history_elsewhere operator who l e [] is)

  pub tied_flat : (who : List ℕ) (e : LogEntry) (ps : Periods) (current : Money) → IsFlat e → IsTied operator ps current l → IsTied operator ps current (l ++ (who, e) ∷ [])
  tied_flat who e ps current flat t = record { lists = t.lists; money = t.money; ratio = λ d. t.ratio d ∙ sym (raised_flat who e flat d) }

  -- an entry of another validator, whatever it is
  pub tied_elsewhere : (who : List ℕ) (e : LogEntry) (ps : Periods) (current : Money) → same_addr who operator ≡ false → IsTied operator ps current l → IsTied operator ps current (l ++ (who, e) ∷ [])
  tied_elsewhere who e ps current apart t =
      record { lists = t.lists; money = t.money; ratio = λ d. t.ratio d ∙ sym (ap (raised_in d) (history_elsewhere operator who l e [] apart)) }

  -- the validator is made
  pub tied_made : IsTied operator initial_records [] (l ++ (operator, log.made) ∷ [])
  tied_made = record { lists = (money-nil, tt); money = money-nil; ratio = λ d. ap (raised_in d) (sym (history_behind operator l log.made [])) }

-- ---- the end of a period

-- what the current rewards become: coins, and none are left
taken_purse : (val : Validator) (p : Purses) (t : Money × Money × Purses) → current_taken val p ≡ Ok t → (purse : Purse) × (t.2.purses ≡ with addr_cmp p.purses val.operator purse) × (purse.current ≡ [])
taken_purse val p t h = by (val.tokens == 0) h
  where
    purse : Purse
    purse = purse_of p val.operator

    less : Purse
    less = record purse { outstanding = coins_taken purse.outstanding (current_lost purse); current = [] }

    none : (t : Money × Money × Purses) → (current_pooled val.operator p >>= λ q. Ok ([], q.0, q.1)) ≡ Ok t → (x : Purse) × (t.2.purses ≡ with addr_cmp p.purses val.operator x) × (x.current ≡ [])
    none t e =
        let one : (q : Money × Purses) × (current_pooled val.operator p ≡ Ok q) × (Path (Result (Money × Money × Purses) Over) (Ok ([], q.0, q.1)) (Ok t)) = step_parts (current_pooled val.operator p) (λ q. Ok ([], q.0, q.1)) t e in
        let two : (r : Purses) × (pool_joined (current_lost purse) (with_purse val.operator less p) ≡ Ok r) × (Path (Result (Money × Purses) Over) (Ok (current_lost purse, r)) (Ok one.0)) =
        step_parts (pool_joined (current_lost purse) (with_purse val.operator less p)) (λ r. Ok (current_lost purse, r)) one.0 one.1 in (
          less,
          sym (ap (λ (x : Money × Money × Purses). x.2.purses) (same_ok ([], one.0.0, one.0.1) t one.2))
              ∙ sym (ap (λ (x : Money × Purses). x.1.purses) (same_ok (current_lost purse, two.0) one.0 two.2))
              ∙ joined_purses (current_lost purse) (with_purse val.operator less p) two.0 two.1,
          refl,
        )

    some : (t : Money × Money × Purses) → (coins_quo_cut purse.current (val.tokens * 10 ^ 18) >>= λ i. Ok (i, [], current_emptied val.operator p)) ≡ Ok t → (x : Purse) × (t.2.purses ≡ with addr_cmp p.purses val.operator x) × (x.current ≡ [])
    some t e =
        let one : (i : Money) × (coins_quo_cut purse.current (val.tokens * 10 ^ 18) ≡ Ok i) × (Path (Result (Money × Money × Purses) Over) (Ok (i, [], current_emptied val.operator p)) (Ok t)) =
        step_parts (coins_quo_cut purse.current (val.tokens * 10 ^ 18)) (λ i. Ok (i, [], current_emptied val.operator p)) t e in
        (record purse { current = [] }, sym (ap (λ (x : Money × Money × Purses). x.2.purses) (same_ok (one.0, [], current_emptied val.operator p) t one.2)), refl)

    by : (b : Bool) → (if b then (current_pooled val.operator p >>= λ q. Ok ([], q.0, q.1)) else (coins_quo_cut purse.current (val.tokens * 10 ^ 18) >>= λ i. Ok (i, [], current_emptied val.operator p))) ≡ Ok t
        → (x : Purse) × (t.2.purses ≡ with addr_cmp p.purses val.operator x) × (x.current ≡ [])
    by true e = none t e
    by false e = some t e

taken_money : (val : Validator) (p : Purses) (t : Money × Money × Purses) → IsMoney (purse_of p val.operator).current → current_taken val p ≡ Ok t → IsMoney t.0
taken_money val p t m h = by (val.tokens == 0) h
  where
    current : Money
    current = (purse_of p val.operator).current

    by : (b : Bool) → (if b then (current_pooled val.operator p >>= λ q. Ok ([], q.0, q.1)) else (coins_quo_cut current (val.tokens * 10 ^ 18) >>= λ i. Ok (i, [], current_emptied val.operator p))) ≡ Ok t → IsMoney t.0
    by true e =
        let one : (q : Money × Purses) × (current_pooled val.operator p ≡ Ok q) × (Path (Result (Money × Money × Purses) Over) (Ok ([], q.0, q.1)) (Ok t)) = step_parts (current_pooled val.operator p) (λ q. Ok ([], q.0, q.1)) t e in
        subst IsMoney (ap (λ (x : Money × Money × Purses). x.0) (same_ok ([], one.0.0, one.0.1) t one.2)) money-nil
    by false e =
        let one : (i : Money) × (coins_quo_cut current (val.tokens * 10 ^ 18) ≡ Ok i) × (Path (Result (Money × Money × Purses) Over) (Ok (i, [], current_emptied val.operator p)) (Ok t)) =
        step_parts (coins_quo_cut current (val.tokens * 10 ^ 18)) (λ i. Ok (i, [], current_emptied val.operator p)) t e in
        subst IsMoney (ap (λ (x : Money × Money × Purses). x.0) (same_ok (one.0, [], current_emptied val.operator p) t one.2))
        (by_is_money (λ n. quo_cut_of n (val.tokens * 10 ^ 18)) (λ n k e. below_is _ _ k e) current one.0 m one.1)

-- what ended, and what it left
pub record EndParts (val : Validator) (d : Shared) (u : View) (z : ℕ × Shared × View × Log) : Type 0 where
  pub increment : Money
  pub lost : Money
  pub purses : Purses
  pub ratio : Money
  pub purse : Purse
  pub is : ended_with val d u (increment, lost, purses) (ratio, periods_with (periods_of d.rewards val.operator) ratio) ≡ z
  pub sum : coins_added (ratio_at (periods_of d.rewards val.operator).ratios (last_ended (periods_of d.rewards val.operator))) increment ≡ Ok ratio
  pub purses_are : purses.purses ≡ with addr_cmp d.purses.purses val.operator purse
  pub emptied : purse.current ≡ []
  pub money : IsMoney (purse_of d.purses val.operator).current → IsMoney increment

stopped_then : {A : Type 0} (b : Bool) (o : Over) (x z : A) → (stop_if b o >> Ok x) ≡ Ok z → x ≡ z
stopped_then true o x z h = absurd cc
stopped_then false o x z h = cc

pub end_parts : (val : Validator) (d : Shared) (u : View) (z : ℕ × Shared × View × Log) → ended val d u ≡ Ok z → EndParts val d u z
end_parts val d u z e =
    let ps : Periods = periods_of d.rewards val.operator in
    let one : (t : Money × Money × Purses) × (current_taken val d.purses ≡ Ok t) × ((period_ended t.0 ps >>= λ q. Ok (ended_with val d u t q)) ≡ Ok z) =
    step_parts (current_taken val d.purses) (λ t. period_ended t.0 ps >>= λ q. Ok (ended_with val d u t q)) z e in
    let t : Money × Money × Purses = one.0 in
    let two : (q : Money × Periods) × (period_ended t.0 ps ≡ Ok q) × (Path (Result (ℕ × Shared × View × Log) Over) (Ok (ended_with val d u t q)) (Ok z)) =
    step_parts (period_ended t.0 ps) (λ q. Ok (ended_with val d u t q)) z one.2 in
    let three : (r : Money) × (coins_added (ratio_at ps.ratios (ps.current - 1)) t.0 ≡ Ok r) × ((stop_if (ps.current == 10 ^ 18) period_over >> Ok (r, periods_with ps r)) ≡ Ok two.0) =
    step_parts (coins_added (ratio_at ps.ratios (ps.current - 1)) t.0) (λ r. stop_if (ps.current == 10 ^ 18) period_over >> Ok (r, periods_with ps r)) two.0 two.1 in
    let purse = taken_purse val d.purses t one.1 in
    record {
      increment = t.0;
      lost = t.1;
      purses = t.2;
      ratio = three.0;
      purse = purse.0;
      is = ap (ended_with val d u t) (stopped_then (ps.current == 10 ^ 18) period_over (three.0, periods_with ps three.0) two.0 three.2) ∙ same_ok (ended_with val d u t two.0) z two.2;
      sum = three.1;
      purses_are = purse.1;
      emptied = purse.2;
      money = λ m. taken_money val d.purses t m one.1;
    }

-- the last ratio with the increment is the next one, by the log
module _ (operator : List ℕ) (ps : Periods) (current : Money) (l : Log) (t : IsTied operator ps current l) (increment ratio : Money) (money : IsMoney increment)
    (sum : coins_added (ratio_at ps.ratios (last_ended ps)) increment ≡ Ok ratio) where
  old_money : IsMoney (ratio_at ps.ratios (last_ended ps))
  old_money = money_at ps.ratios t.lists (last_ended ps)

  pub next_ratio : (d : List ℕ) → amount_of ratio d ≡ raised_in d (history_of operator l []) + amount_of increment d
  next_ratio d =
      amount-added (ratio_at ps.ratios (last_ended ps)) increment ratio d (rises_from_money (ratio_at ps.ratios (last_ended ps)) old_money) (rises_from_money increment money) sum
      ∙ ap (λ (n : ℕ). n + amount_of increment d) (t.ratio d)

  pub tied_ended : (tokens : ℕ) → IsTied operator (periods_with ps ratio) [] (l ++ (operator, log.ended (last_ended (periods_with ps ratio)) increment tokens) ∷ [])
  tied_ended tokens = record {
    lists = (sum_is_money (ratio_at ps.ratios (last_ended ps)) increment ratio old_money money sum, t.lists);
    money = money-nil;
    ratio = λ d.
        ap (λ (m : Money). amount_of m d) (newest (last_ended (periods_with ps ratio)) (before ps.current))
        ∙ next_ratio d
        ∙ sym (ap (raised_in d) (history_behind operator l (log.ended (last_ended (periods_with ps ratio)) increment tokens) []) ∙ raised_more d (history_of operator l []) (log.ended (last_ended (periods_with ps ratio)) increment tokens));
  }
    where
      before : (n : ℕ) → n ≤ n + 1 - 1
      before n = omega arith

      newest : (q : ℕ) → ps.current ≤ q → ratio_at ((ps.current, ratio) ∷ ps.ratios) q ≡ ratio
      newest q h = ratio_new ps.current q ratio ps.ratios h
