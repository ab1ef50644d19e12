-- The states of a block's beginning: what its parts need, and for what modules stand there.
use Rattle.std.specs.Prelude.{◌≡◌, ◌-◌, ◌*◌, ◌^◌, ◌<◌, ◌≤◌, false, List, [], ◌∷◌, map, sum, All, Ok, Some}
use Rattle.std.specs.BTreeMap.{is_at}
use Rattle.base_types.specs.Orders.{cons_cmp}
use Rattle.base_roles.specs.declared.entities.Validator.{Validator}
use Rattle.base_roles.specs.declared.messages.Evidence.{Evidence}
use Rattle.base_roles.specs.declared.messages.Vote.{Vote}
use Rattle.base_roles.specs.declared.params.Ctx.{Ctx}
use Rattle.base_roles.specs.Staked.{validator_by_cons}
use Rattle.base_messages.specs.declared.block.Block.{Block}
use Rattle.rule_modules.specs.Chain.{State}
use Rattle.rule_modules.specs.Laws.{next_block}
use Rattle.rule_modules.specs.StepLaws.{CountsBelow, IsPower}
use Rattle.rule_modules.specs.Sound.{IsSound, UnbondingsAreSound}
use Rattle.rule_machine.specs.GenesisState.{without_facts}
use Rattle.rule_machine.specs.Machine.{block_checked}
use Rattle.chain_modules.specs.declared.modules.Modules.{Modules}
use Rattle.chain_modules.specs.Kept.{KeptState, Keeps, AreSet, kept_of}

-- A block that may follow has begun: what is kept represents the state before it, which is sound, at the block's height and time.
pub record HasBegun (b : Block) (k : KeptState) (p : State) : Type 0 where
  pub keeps : Keeps k p
  pub before : State
  pub sound : IsSound before
  pub checked : block_checked b before ≡ Ok tt
  pub height : b.height < 2 ^ 63
  pub begun : p ≡ without_facts (next_block b.height b.time before)

-- votes of validators that stand, with all their power within the limit
pub record AreCast (votes : List Vote) (p : State) : Type 0 where
  pub known : All (λ t. (v : Validator) × (validator_by_cons p.mine.staked t.cons ≡ Some v)) votes
  pub power : IsPower (sum (map (λ t. t.power) votes)) p

-- votes of different consensus addresses
abbrev pub AreApart : List Vote → Type 0
AreApart [] = Unit {0}
AreApart (t ∷ ts) = All (λ u. is_at (cons_cmp u.cons) t.cons ≡ false) ts × AreApart ts

-- Within the beginning of a block, while these votes are still to come: what is kept represents a sound state; the block is not the start,
-- and all unbonding entries are older than it; the votes are of different addresses, of powers that there may be, and of records of which fewer votes were
-- counted than the height is.
pub record AreBegun (votes : List Vote) (k : KeptState) (p : State) : Type 0 where
  pub keeps : Keeps k p
  pub sound : IsSound p
  pub some : 1 ≤ p.view.ctx.height
  pub older : UnbondingsAreSound (p.view.ctx.height - 1) p.mine.unbondings
  pub apart : AreApart votes
  pub powers : All (λ t. IsPower t.power p) votes
  pub counts : All (λ t. CountsBelow t.cons p) votes

-- evidence that a block may bring
pub record MayBeBrought (c : Ctx) (e : Evidence) : Type 0 where
  pub power : e.power * c.params.power_reduction ≤ 10 ^ 18
  pub some : 1 ≤ e.height
  pub height : e.height < c.height
  pub time : e.time ≤ c.time

-- ---- what modules stand for

-- the modules may begin this block
pub record MayBegin {E : Type 0} (b : Block) (m : Modules E) : Type 0 where
  pub power : AreSet m
  pub state : State
  pub begun : HasBegun b (kept_of m) state

-- fees may be allocated among these votes
pub record MayAllocate {E : Type 0} (ts : List Vote) (m : Modules E) : Type 0 where
  pub power : AreSet m
  pub state : State
  pub begun : AreBegun ts (kept_of m) state
  pub cast : AreCast ts state

-- these votes may be counted
pub record MayVote {E : Type 0} (votes : List Vote) (m : Modules E) : Type 0 where
  pub power : AreSet m
  pub state : State
  pub begun : AreBegun votes (kept_of m) state

-- this evidence may be handled, behind all votes
pub record MayAccuse {E : Type 0} (evidence : List Evidence) (m : Modules E) : Type 0 where
  pub behind : MayVote [] m
  pub brought : All (MayBeBrought m.ground.ctx) evidence
