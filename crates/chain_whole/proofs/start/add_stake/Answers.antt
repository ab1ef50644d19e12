use Rattle.std.proofs.Common.{◌∙◌, sym, ap}
use Rattle.base_roles.specs.declared.params.Ctx.{Ctx}
use Rattle.chain_modules.{specs.Kept.kept_of, proofs.MarkLemmas.then_on}
use Rattle.chain_whole.proofs.{HearLemmas.stake_heard, FoundingLemmas.{set_made, set_sure}}
use Rattle.chain_whole.proofs.start.add_stake.Goals as goal

pub add_validators-requires-clause-starts : goal.add_validators-requires-clause-starts
add_validators-requires-clause-starts g c = c.requires.good.no_condition

pub update_set-requires : goal.update_set-requires
update_set-requires g c = record { scene = c.in_ok-add_delegations.ensures.added.scene }

pub returns-in_err-add_delegations-clause-go_on : goal.returns-in_err-add_delegations-clause-go_on
returns-in_err-add_delegations-clause-go_on g c = then_on c.args.modules.now c.add_validators.new.modules c.add_delegations.new.modules c.add_validators.ensures.go_on c.add_delegations.ensures.go_on

pub returns-in-Ok-clause-started : goal.returns-in-Ok-clause-started
returns-in-Ok-clause-started g c =
    let on = c.update_set.ensures.go_on in
    let adding = c.in_ok-add_delegations.ensures.added in
    set_made c.args.genesis.now c.add_delegations.new.modules c.update_set.new.modules adding
    (ap (λ b. b.staking.power_reduction) on.behind ∙ adding.scene.power ∙ ap (λ (x : Ctx). x.params.power_reduction) (sym on.ctx))
    c.in-Ok.ensures.leads

pub returns-in-Ok-clause-go_on : goal.returns-in-Ok-clause-go_on
returns-in-Ok-clause-go_on g c =
    then_on c.args.modules.now c.add_delegations.new.modules c.update_set.new.modules
    (then_on c.args.modules.now c.add_validators.new.modules c.add_delegations.new.modules c.add_validators.ensures.go_on c.add_delegations.ensures.go_on) c.update_set.ensures.go_on

pub never_over-requires : goal.never_over-requires
never_over-requires g c = set_sure c.args.genesis.now c.add_delegations.new.modules (kept_of c.update_set.new.modules) c.in-Err.fault c.requires.good c.in_ok-add_delegations.ensures.added c.in-Err.ensures.leads

pub returns-in-Err-clause-go_on : goal.returns-in-Err-clause-go_on
returns-in-Err-clause-go_on g c =
    then_on c.args.modules.now c.add_delegations.new.modules c.update_set.new.modules
    (then_on c.args.modules.now c.add_validators.new.modules c.add_delegations.new.modules c.add_validators.ensures.go_on c.add_delegations.ensures.go_on) c.update_set.ensures.go_on

pub returns-in-Ok-clause-heard : goal.returns-in-Ok-clause-heard
returns-in-Ok-clause-heard g c =
    stake_heard g.E.Extra.heard g.E.Extra.hears c.args.genesis.now c.args.modules.now c.add_validators.new.modules c.add_delegations.new.modules c.update_set.new.modules c.in_ok-add_validators.ensures.heard c.in_ok-add_delegations.ensures.heard c.in-Ok.ensures.heard
