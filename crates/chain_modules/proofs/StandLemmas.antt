-- The states for which what is kept stands.
use Rattle.std.proofs.Common.{◌≡◌, ◌∙◌, [], sym, ap, subst}
use Rattle.base_roles.specs.World.{View}
use Rattle.rule_modules.specs.{Chain.State, Sound.IsSound}
use Rattle.rule_machine.specs.GenesisState.{without_facts}
use Rattle.chain_modules.specs.Kept.{KeptState, Keeps, StandsFor, StandsWhole}

-- the same kept, the same states
pub stands_same : (k k2 : KeptState) (p : State) → k2 ≡ k → StandsFor k p → StandsFor k2 p
stands_same k k2 p e s = subst (λ x. StandsFor x p) (sym e) s

pub whole_same : (k k2 : KeptState) (p : State) → k2 ≡ k → StandsWhole k p → StandsWhole k2 p
whole_same k k2 p e s = subst (λ x. StandsWhole x p) (sym e) s

-- what stands whole stands
pub stands_for : (k : KeptState) (p : State) → StandsWhole k p → StandsFor k p
stands_for k p s = record { keeps = s.keeps; sound = s.sound }

-- ---- without facts

-- what is kept without facts
abbrev pub cleared : KeptState → KeptState
cleared k = record k { view = record k.view { facts = [] } }

-- soundness reads no facts
pub sound_cleared : (p : State) → IsSound p → IsSound (without_facts p)
sound_cleared p s = record {
  ground = record { params = s.ground.params; time = s.ground.time; height = s.ground.height; bank = s.ground.bank };
  few = record { some = s.few.some; few = s.few.few; all = s.few.all };
  staked = s.staked;
  accounts = record { bonded = s.accounts.bonded; not_bonded = s.accounts.not_bonded; distribution = s.accounts.distribution };
  stands = s.stands;
  purses = s.purses;
  rewards = s.rewards;
  payees = s.payees;
  window = s.window;
  recorded = s.recorded;
  unbondings = s.unbondings;
  redelegations = s.redelegations;
}

pub keeps_cleared : (k : KeptState) (p : State) → Keeps k p → Keeps (cleared k) (without_facts p)
keeps_cleared k p s = record {
  stakes = s.stakes;
  shared = s.shared;
  signings = s.signings;
  view = λ i. record { bank = (s.view i).bank; ctx = (s.view i).ctx; facts = [] };
}

pub whole_cleared : (k : KeptState) (p : State) → StandsWhole k p → StandsWhole (cleared k) (without_facts p)
whole_cleared k p s = record { keeps = keeps_cleared k p s.keeps; sound = sound_cleared p s.sound; whole = s.whole }

-- a state without facts begins as itself
pub begins_so : (k : KeptState) (p : State) → k.view.facts ≡ [] → StandsWhole k p → without_facts p ≡ p
begins_so k p none s = λ i. record { mine = p.mine; hooks = p.hooks; view = record { bank = p.view.bank; ctx = p.view.ctx; facts = (sym none ∙ sym (ap (λ (u : View). u.facts) s.keeps.view)) i }; log = p.log }
