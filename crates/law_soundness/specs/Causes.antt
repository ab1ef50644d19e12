-- Why a block's beginning meets a limit: the allocation of the fees does, or the slash of a vote or of a piece of evidence.
use Rattle.std.specs.Prelude.{◌≡◌, ℕ, ◌-◌, List, ◌∷◌, ◌++◌, ◌⊎◌, Result, Ok, Err}
use Rattle.base_decimals.specs.declared.over.Over.{Over}
use Rattle.base_roles.specs.Flow.{each}
use Rattle.base_messages.specs.declared.block.Block.{Block}
use Rattle.rule_machine.specs.GenesisState.{without_facts}
use Rattle.law_soundness.specs.Kept.{begun_by}
use Rattle.rule_modules.specs.Chain.{State, allocation_step, beside_window, evidence_step, vote_step}
use Rattle.rule_modules.specs.Distribution.{distribution_told}
use Rattle.rule_modules.specs.Laws.{next_block}
use Rattle.rule_modules.specs.Slashing.{plain_slash, slashed}

-- steps in order meet a limit: the first of them that does, in the state that those before it leave
pub record MeetsLimit {A : Type 0} (f : A → State → Result State Over) (xs : List A) (w : State) (over : Over) : Type 0 where
  pub before : List A
  pub one : A
  pub after : List A
  pub middle : State
  pub parts : xs ≡ before ++ one ∷ after
  pub reached : each f before w ≡ Ok middle
  pub stops : f one middle ≡ Err over

-- the slash of a consensus address since a height, by a power and a factor, meets this limit
abbrev pub SlashLimit : List ℕ → ℕ → ℕ → ℕ → State → Over → Type 0
SlashLimit cons infraction power factor w over = slashed distribution_told plain_slash cons infraction power factor (beside_window w) ≡ Err over

-- a vote of a block does, by the slash of its downtime, once the fees are allocated
pub record VoteLimit (b : Block) (w : State) (over : Over) : Type 0 where
  pub paid : State
  pub allocated : allocation_step b.votes (without_facts (next_block b.height b.time w)) ≡ Ok paid
  pub stop : MeetsLimit vote_step b.votes paid over
  pub slash : SlashLimit stop.one.cons (stop.middle.view.ctx.height - 2) stop.one.power stop.middle.view.ctx.params.slash_fraction_downtime stop.middle over

-- a piece of evidence does, by its slash, once all votes are counted
pub record EvidenceLimit (b : Block) (w : State) (over : Over) : Type 0 where
  pub paid : State
  pub counted : State
  pub allocated : allocation_step b.votes (without_facts (next_block b.height b.time w)) ≡ Ok paid
  pub votes : each vote_step b.votes paid ≡ Ok counted
  pub stop : MeetsLimit evidence_step b.evidence counted over
  pub slash : SlashLimit stop.one.cons (stop.one.height - 1) stop.one.power stop.middle.view.ctx.params.slash_fraction_double_sign stop.middle over

-- the causes of a limit
abbrev pub LimitCause : Block → State → Over → Type 0
LimitCause b w over = (allocation_step b.votes (without_facts (next_block b.height b.time w)) ≡ Err over) ⊎ (VoteLimit b w over ⊎ EvidenceLimit b w over)

-- Each limit that a block's beginning meets has one of these causes, in every state.
abbrev pub LimitsHaveCauses : Type 0
LimitsHaveCauses = (b : Block) (w : State) (over : Over) → begun_by b w ≡ Err over → LimitCause b w over
