-- What stands behind the records of the modules: their open marks, and what was settled.
use Rattle.std.specs.Prelude.{◌≡◌, ◌≢◌, ℕ, List, [], ◌∷◌, ◌++◌}
use Rattle.base_roles.specs.declared.entities.RedelegationEntry.{RedelegationEntry}
use Rattle.base_roles.specs.declared.entities.UnbondingEntry.{UnbondingEntry}
use Rattle.base_roles.specs.declared.facts.Fact.{Fact}
use Rattle.base_roles.specs.declared.params.Ctx.{Ctx}
use Rattle.base_roles.specs.Ground.{SameMoment}
use Rattle.base_roles.specs.Holdings.{Holdings}
use Rattle.base_roles.specs.Staked.{Staked}
use Rattle.rule_modules.specs.Chain.{State, Stakes}
use Rattle.rule_modules.specs.Redelegations.{RedelegationLists}
use Rattle.rule_modules.specs.Unbondings.{UnbondingLists}
use Rattle.mod_bank.specs.Booked as bank
use Rattle.mod_staking.specs.Registered as book
use Rattle.mod_entries.specs.Kept as entries
use Rattle.mod_signing.specs.Kept as window
use Rattle.mod_distribution.specs.Kept as distr
use Rattle.mod_distribution.specs.Kept.{KeptShared}
use Rattle.chain_modules.specs.declared.modules.Modules.{Modules}
use Rattle.chain_modules.specs.Kept.{StakesSeen, HooksSeen, Parts, KeptState, StandsFor, AreSet, kept_of, kept_over}

-- ---- marks

-- what staking has at its open marks, the latest last
pub record StakeMarks : Type 0 where
  pub staked : List Staked
  pub unbondings : List UnbondingLists
  pub redelegations : List RedelegationLists

-- what the hooks have at theirs
pub record HookMarks : Type 0 where
  pub shared : List KeptShared
  pub signings : List window.Kept

-- what each module has at its open marks
pub record Marks : Type 0 where
  pub bank : List Holdings
  pub stakes : StakeMarks
  pub hooks : HookMarks

abbrev pub stakes_marks : StakesSeen → StakeMarks
stakes_marks s = record { staked = s.staking.marks; unbondings = s.unbondings.marks; redelegations = s.redelegations.marks }

abbrev pub hooks_marks : {E : Type 0} → HooksSeen E → HookMarks
hooks_marks h = record { shared = h.first.first.marks; signings = h.second.marks }

abbrev pub marks_of : {E : Type 0} → Modules E → Marks
marks_of m = record { bank = m.ground.bank.marks; stakes = stakes_marks m.stakes; hooks = hooks_marks m.hooks }

-- the marks with one more, of what stands now
abbrev pub stakes_opened : StakesSeen → StakeMarks
stakes_opened s = record {
  staked = s.staking.marks ++ s.staking.staked ∷ [];
  unbondings = s.unbondings.marks ++ s.unbondings.lists ∷ [];
  redelegations = s.redelegations.marks ++ s.redelegations.lists ∷ [];
}

abbrev pub hooks_opened : {E : Type 0} → HooksSeen E → HookMarks
hooks_opened h = record { shared = h.first.first.marks ++ h.first.first.kept ∷ []; signings = h.second.marks ++ h.second.kept ∷ [] }

abbrev pub opened : {E : Type 0} → Modules E → Marks
opened m = record { bank = m.ground.bank.marks ++ m.ground.bank.holdings ∷ []; stakes = stakes_opened m.stakes; hooks = hooks_opened m.hooks }

-- no mark is open
abbrev pub no_marks : Marks
no_marks = record {
  bank = [];
  stakes = record { staked = []; unbondings = []; redelegations = [] };
  hooks = record { shared = []; signings = [] };
}

-- each module has an open mark
pub record AreOpen (m : Marks) : Type 0 where
  pub bank : m.bank ≢ []
  pub staked : m.stakes.staked ≢ []
  pub unbondings : m.stakes.unbondings ≢ []
  pub redelegations : m.stakes.redelegations ≢ []
  pub shared : m.hooks.shared ≢ []
  pub signings : m.hooks.signings ≢ []

-- the latest mark of staking is closed
pub record AreStakesClosed (old new : StakeMarks) : Type 0 where
  pub staked : (last : Staked) × (new.staked ++ last ∷ [] ≡ old.staked)
  pub unbondings : (last : UnbondingLists) × (new.unbondings ++ last ∷ [] ≡ old.unbondings)
  pub redelegations : (last : RedelegationLists) × (new.redelegations ++ last ∷ [] ≡ old.redelegations)

-- the latest mark of each module is closed
pub record AreClosed (old new : Marks) : Type 0 where
  pub bank : (last : Holdings) × (new.bank ++ last ∷ [] ≡ old.bank)
  pub stakes : AreStakesClosed old.stakes new.stakes
  pub shared : (last : KeptShared) × (new.hooks.shared ++ last ∷ [] ≡ old.hooks.shared)
  pub signings : (last : window.Kept) × (new.hooks.signings ++ last ∷ [] ≡ old.hooks.signings)

-- ---- what was settled

abbrev pub hooks_kept : {E : Type 0} → HooksSeen E → KeptShared × window.Kept
hooks_kept h = (h.first.first.kept, h.second.kept)

abbrev pub stakes_settled : StakesSeen → Stakes
stakes_settled s = record { staked = s.staking.settled; unbondings = s.unbondings.settled; redelegations = s.redelegations.settled }

abbrev pub hooks_settled : {E : Type 0} → HooksSeen E → KeptShared × window.Kept
hooks_settled h = (h.first.first.settled, h.second.settled)

abbrev pub settled_of : {E : Type 0} → Modules E → Parts
settled_of m = record {
  bank = m.ground.bank.settled;
  stakes = stakes_settled m.stakes;
  shared = m.hooks.first.first.settled;
  signings = m.hooks.second.settled;
}

-- what was settled over a context
abbrev pub settled_over : {E : Type 0} → Ctx → Modules E → KeptState
settled_over ctx m = kept_over (settled_of m) ctx []

-- ---- what a call leaves whatever it answers

-- what stays while records change: the open marks, what was settled, and the tokens of one unit of power
pub record Behind : Type 0 where
  pub bank : bank.Behind
  pub staking : book.Behind
  pub unbondings : entries.Behind (List ℕ × List ℕ) UnbondingEntry
  pub redelegations : entries.Behind (List ℕ × List ℕ × List ℕ) RedelegationEntry
  pub shared : distr.Behind
  pub signings : window.Behind

abbrev pub behind_of : {E : Type 0} → Modules E → Behind
behind_of m = record {
  bank = bank.behind m.ground.bank;
  staking = book.behind m.stakes.staking;
  unbondings = entries.behind m.stakes.unbondings;
  redelegations = entries.behind m.stakes.redelegations;
  shared = distr.behind m.hooks.first.first;
  signings = window.behind m.hooks.second;
}

-- facts were only put at the end
abbrev pub Follow : List Fact → List Fact → Type 0
Follow old new = (more : List Fact) × (new ≡ old ++ more)

-- What a step leaves of the modules whatever it answers, so that what it changed can be taken back: what stands behind the
-- records, the context, and the facts that were told before.
pub record GoOn {E : Type 0} (old new : Modules E) : Type 0 where
  pub behind : behind_of new ≡ behind_of old
  pub ctx : new.ground.ctx ≡ old.ground.ctx
  pub facts : Follow old.ground.facts new.ground.facts

-- The same of messages, of which one may replace the parameters: the moment stays, and what never changes of the parameters.
pub record MessagesGoOn {E : Type 0} (old new : Modules E) : Type 0 where
  pub behind : behind_of new ≡ behind_of old
  pub moment : SameMoment old.ground.ctx new.ground.ctx
  pub facts : Follow old.ground.facts new.ground.facts

-- ---- between two blocks

-- Modules between two blocks: they stand for some state of the machine, no mark is open, and no fact is left.
pub record AreAtRest {E : Type 0} (m : Modules E) : Type 0 where
  pub power : AreSet m
  pub state : State
  pub stands : StandsFor (kept_of m) state
  pub unmarked : marks_of m ≡ no_marks
  pub no_facts : m.ground.facts ≡ []
