-- The record of an ended period stands exactly while its validator does and something refers to it.
use Rattle.std.proofs.Common.{◌≡◌, ◌∙◌, ℕ, ◌==◌, Bool, true, false, List, Option, Some, None, inl, inr, refl, sym, ap, eqb-true, ◌⊎◌, if◌then◌else◌, is_some}
use Rattle.base_roles.specs.{declared.entities.{Historical.Historical, StartingInfo.StartingInfo}, Entries.at}
use Rattle.base_roles.specs.Staked.{validator_at}
use Rattle.base_types.specs.Orders.{addr_cmp}
use Rattle.rule_modules.specs.{Chain.{State, shared_in}, Periods.{Periods, ratio_at, references_of, starts_of}}
use Rattle.rule_modules.specs.Sound.{IsSound}
use Rattle.mod_periods.specs.{Kept.record_of, Stands.{history_of, references_at, references_in}}
use Rattle.law_records.specs.{HistoryLaws.kept_rewards, Records.plain_of, Referred.RecordsGoWithReferences}
use Rattle.law_records.proofs.{GatheredLaws.states_gathered, RewardLists.history_found}

-- a record is due unless nothing is counted
counted : (c : ℕ) (h : Historical) → (if c == 0 then None else Some h) ≡ None → c ≡ 0
counted c h e = by (c == 0) refl e
  where
    by : (b : Bool) → (c == 0) ≡ b → (if b then None else Some h) ≡ None → c ≡ 0
    by true same k = eqb-true c 0 same
    by false same k = absurd cc

uncounted : (c : ℕ) (h : Historical) → c ≡ 0 → (if c == 0 then None else Some h) ≡ None
uncounted c h e = ap (λ (n : ℕ). if n == 0 then None else Some h) e

-- no record is due where there are no periods, or nothing refers to one
none_due : (o : Option Periods) (starts : List StartingInfo) (n : ℕ) → history_of o starts n ≡ None → (o ≡ None) ⊎ (references_in o starts n ≡ 0)
none_due None starts n e = inl refl
none_due (Some p) starts n e = inr (counted (references_of p starts n) (record { ratio = ratio_at p.ratios n; count = references_of p starts n }) e)

due_none : (o : Option Periods) (starts : List StartingInfo) (n : ℕ) → (o ≡ None) ⊎ (references_in o starts n ≡ 0) → history_of o starts n ≡ None
due_none o starts n (inl e) = ap (λ p. history_of p starts n) e
due_none None starts n (inr e) = refl
due_none (Some p) starts n (inr e) = uncounted (references_of p starts n) (record { ratio = ratio_at p.ratios n; count = references_of p starts n }) e

-- where the one is missing the other is, too
missing_too : {A B : Type 0} (a : Option A) (b : Option B) → is_some a ≡ is_some b → a ≡ None → b ≡ None
missing_too None None e m = refl
missing_too None (Some y) e m = absurd cc
missing_too (Some x) b e m = absurd cc

either_missing : {A B P : Type 0} (a : Option A) (b : Option B) → is_some a ≡ is_some b → (a ≡ None) ⊎ P → (b ≡ None) ⊎ P
either_missing a b e (inl m) = inl (missing_too a b e m)
either_missing a b e (inr p) = inr p

module _ (w : State) (s : IsSound w) (operator : List ℕ) (period : ℕ) where
  abbrev periods : Option Periods
  periods = at addr_cmp (shared_in w).rewards.periods operator

  abbrev starts : List StartingInfo
  starts = starts_of (shared_in w).rewards operator

  found : record_of (kept_rewards (plain_of w).lists.shared) operator period ≡ history_of periods starts period
  found = history_found (shared_in w).rewards w.view.ctx.height s.rewards (operator, period)

  standing : is_some periods ≡ is_some (validator_at w.mine.staked operator)
  standing = s.stands.periods operator

  none_stands : record_of (kept_rewards (plain_of w).lists.shared) operator period ≡ None → (validator_at w.mine.staked operator ≡ None) ⊎ (references_at (shared_in w).rewards operator period ≡ 0)
  none_stands e = either_missing periods (validator_at w.mine.staked operator) standing (none_due periods starts period (sym found ∙ e))

  stands_none : (validator_at w.mine.staked operator ≡ None) ⊎ (references_at (shared_in w).rewards operator period ≡ 0) → record_of (kept_rewards (plain_of w).lists.shared) operator period ≡ None
  stands_none h = found ∙ due_none periods starts period (either_missing (validator_at w.mine.staked operator) periods (sym standing) h)

pub records_go_with_references : RecordsGoWithReferences
records_go_with_references w s = record {
  gathered = λ items m. states_gathered w items s m;
  due = λ operator period. found w s operator period;
  none = λ operator period. (none_stands w s operator period, stands_none w s operator period);
}
