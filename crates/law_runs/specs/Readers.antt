-- What a reader of the facts of a run's blocks may say of each payment of a reward among them.
use Rattle.std.specs.Prelude.{◌≡◌, ℕ, List, [], ◌∷◌, ◌++◌, IfOk}
use Rattle.base_coins.specs.Coins.{Money}
use Rattle.base_roles.specs.declared.facts.Fact.{Fact}
use Rattle.base_roles.specs.declared.facts.Fact.TheVariants as fact
use Rattle.base_roles.specs.Log.{Log}
use Rattle.rule_modules.specs.Chain.{State}
use Rattle.base_messages.specs.declared.block.Block.{Block}
use Rattle.rule_machine.specs.Machine.{Step, step}
use Rattle.rule_machine.specs.Promises.{Replayed, facts_of}
use Rattle.law_rewards.specs.Payments.{IsFairlyTold}

-- A block adds to the log, and each payment among its facts is that of a fair withdrawal that it logs.
pub record TellsFairly (old : State) (s : Step) : Type 0 where
  pub more : Log
  pub log_is : s.state.log ≡ old.log ++ more
  pub told : (before after : List Fact) (who operator to : List ℕ) (reward coins : Money)
      → facts_of s.report ≡ before ++ fact.Paid who operator to reward coins ∷ after
      → IsFairlyTold old.log more before who operator to reward coins

-- so does each block of a run that may follow
abbrev pub RunTellsFairly : List Block → State → Type 0
RunTellsFairly [] w = Unit {0}
RunTellsFairly (b ∷ blocks) w = IfOk (step b w) (λ s. TellsFairly w s × RunTellsFairly blocks s.state)

-- Wherever a good genesis and blocks lead to, each `Paid` that a block tells has its coins sent to the
-- payee right before; these are at most the ideal reward, the fees shared by stake, block by block, in
-- exact fractions; and above it less the slack and one whole coin, but where the record of what was
-- outstanding was exhausted, which cuts the full reward by at most the overclaim of that moment.
abbrev pub RunsTellFairly : Type 0
RunsTellFairly = (r : Replayed) → RunTellsFairly r.blocks r.start.state
