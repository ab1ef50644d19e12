-- What the calls answer and leave.
use Rattle.std.specs.Prelude.{◌≡◌, ℕ, List, [], ◌∷◌, ◌++◌, Result, Err}
use Rattle.base_decimals.specs.declared.over.Over.{Over}
use Rattle.base_coins.specs.Coins.{Money}
use Rattle.base_roles.specs.declared.facts.Fact.{Fact}
use Rattle.base_roles.specs.declared.facts.Fact.TheVariants.{Period}
use Rattle.base_roles.specs.declared.faults.HookFault.{HookFault}
use Rattle.base_roles.specs.declared.faults.HookFault.TheVariants as hook
use Rattle.base_roles.specs.Answers.{AsRuled, WantsMemory, ExceedsAs}
use Rattle.rule_modules.specs.Periods.{Periods, Rewards, with_periods, last_ended}
use Rattle.mod_periods.specs.Kept.{Kept}
use Rattle.mod_periods.specs.Stands.{KeepsRewards}

-- What a call answers that gives what a rule gives: that, or its excess; or memory is wanting.
abbrev pub Gives : {A : Type 0} → Result A Over → Result A HookFault → Type 0
Gives rule answer = AsRuled rule answer (λ due given. given ≡ due) WantsMemory ExceedsAs

-- The same of the end of a period, with what it leaves: the records stand for what the rule leaves, and the period and
-- its ratio are told.
abbrev pub Ends : List ℕ → Rewards → List Fact → Result (Money × Periods) Over → Kept → List Fact → Result ℕ HookFault → Type 0
Ends operator r facts rule k facts2 answer = AsRuled rule answer
    (λ due period. (period ≡ last_ended due.1) × KeepsRewards k (with_periods operator due.1 r)
    × (facts2 ≡ facts ++ Period operator period due.0 ∷ [])) WantsMemory ExceedsAs

-- what stands where a limit was met
abbrev pub OnLimit : {A : Type 0} → Result A HookFault → Type 0 → Type 0
OnLimit (Err (hook.Over over)) stands = stands
OnLimit _ stands = Unit {0}
