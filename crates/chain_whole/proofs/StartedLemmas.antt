-- Modules behind all of a genesis: what they keep without the facts that they told.
use Rattle.std.proofs.Common.{◌≡◌, ◌∙◌, ◌^◌, ◌<◌, List, [], length, None, Result, Ok, Err, sym, ap, subst, IfOk, IfErr}
use Rattle.base_roles.specs.{declared.{facts.Fact.Fact, refusal.Refusal.Refusal}, World.View}
use Rattle.base_messages.specs.declared.genesis.{Genesis.Genesis, GenesisDelegation.GenesisDelegation}
use Rattle.rule_modules.specs.Chain.{State}
use Rattle.rule_machine.specs.{GenesisConditions.start_condition, GenesisState.{Start, without_facts}}
use Rattle.rule_machine.specs.Promises.{IsGoodGenesis}
use Rattle.chain_modules.specs.declared.modules.Modules.{Modules}
use Rattle.chain_modules.specs.Kept.{KeptState, StandsFor, kept_of, kept_over, parts_of}
use Rattle.chain_modules.{specs.Marks.{AreAtRest, marks_of, no_marks}, proofs.StandLemmas.{cleared, keeps_cleared}}
use Rattle.chain_whole.specs.{Answers.Starts, declared.fault.ChainFault.ChainFault}
use Rattle.chain_whole.specs.Founding.{HaveStarted, StakeWorld, started_with}
use Rattle.chain_whole.proofs.FoundingLemmas.{Founded, founded}

-- a genesis without a condition is good, of a list of delegations that is short enough
pub good_start : (g : Genesis) (ds : List GenesisDelegation) → start_condition g ≡ None → ds ≡ g.delegations → length ds < 10 ^ 18 → IsGoodGenesis g
good_start g ds none same few = record { no_condition = none; few = subst (λ (l : List GenesisDelegation). length l < 10 ^ 18) same few }

-- what is kept once no facts are left
pub once_cleared : {E : Type 0} (m : Modules E) (facts : List Fact) → facts ≡ [] → kept_over (parts_of m) m.ground.ctx facts ≡ cleared (kept_of m)
once_cleared m facts none = ap (kept_over (parts_of m) m.ground.ctx) none

same_world : (a b : StakeWorld) → ◌≡◌ {A = Result StakeWorld Refusal} (Ok a) (Ok b) → a ≡ b
same_world a b e = cc

-- a state that is started, after these facts were told
abbrev started_as : State → List Fact → Result Start Refusal
started_as p facts = Ok (record { facts = facts; state = p })

module _ {E : Type 0} (g : Genesis) (good : IsGoodGenesis g) (m : Modules E) (h : HaveStarted g m) where
  -- what the genesis leads to is what the modules represent
  led : Founded g h.world
  led = let f = founded g good in subst (Founded g) (same_world f.0 h.world (sym f.1.gives ∙ h.leads)) f.1

  pub stands_started : (k : KeptState) → k ≡ cleared (kept_of m) → StandsFor k (without_facts (started_with g h.world))
  stands_started k e = subst (λ x. StandsFor x (without_facts (started_with g h.world))) (sym e) (record {
    keeps = keeps_cleared (kept_of m) (started_with g h.world) h.keeps;
    sound = led.sound;
  })

  pub starts : (facts : List Fact) (k : KeptState) → facts ≡ m.ground.facts → k ≡ cleared (kept_of m) → Starts g facts k
  starts facts k same e = (
    without_facts (started_with g h.world),
    led.started ∙ ap (started_as (without_facts (started_with g h.world))) (ap (λ (v : View). v.facts) h.keeps.view ∙ sym same),
    stands_started k e,
  )

  pub at_rest : (last : Modules E) → kept_of last ≡ cleared (kept_of m) → last.stakes.staking.power_reduction ≡ m.stakes.staking.power_reduction → marks_of last ≡ no_marks → AreAtRest last
  at_rest last same power unmarked = record {
    power = power ∙ h.power ∙ ap (λ (k : KeptState). k.view.ctx.params.power_reduction) (sym same);
    state = without_facts (started_with g h.world);
    stands = stands_started (kept_of last) same;
    unmarked = unmarked;
    no_facts = ap (λ (k : KeptState). k.view.facts) same;
  }

-- ---- what founding told, beside the modules

pub founded_ok : {E : Type 0} (Q : Modules E → List Fact → Type 0) (first : Result (Modules E × List Fact) ChainFault) (told : Result (List Fact) ChainFault) (m : Modules E)
    → IfOk first (λ f. f.0 ≡ m) → IfOk first (λ f. told ≡ Ok f.1) → IfOk told (λ facts. Q m facts) → IfOk first (λ f. Q f.0 f.1)
founded_ok Q (Ok f) told m same from holds = subst (λ x. Q x f.1) (sym same) (subst (λ r. IfOk r (λ facts. Q m facts)) from holds)
founded_ok Q (Err fault) told m same from holds = tt

pub founded_err : {E : Type 0} (P : ChainFault → Type 0) (first : Result (Modules E × List Fact) ChainFault) (told : Result (List Fact) ChainFault)
    → IfErr first (λ f. told ≡ Err f) → IfErr told P → IfErr first P
founded_err P (Ok f) told from holds = tt
founded_err P (Err fault) told from holds = subst (λ r. IfErr r P) from holds
