use Rattle.std.proofs.Common.{◌≡◌, ◌∙◌, refl, sym, ap, subst, Ok}
use Rattle.base_roles.specs.{Ground.seen, Lent.Unbonds, Staked.validator_at, StakeChanges.HasShares}
use Rattle.rule_modules.specs.{Answers.Leaves, EntrySlashes.burned_at_target}
use Rattle.mod_staking.specs.Calls.{behind_log}
use Rattle.mod_redelegation.proofs.{BurntLemmas.slashed-none, GoesOnLemmas.goes-none}
use Rattle.mod_redelegation.proofs.TargetLemmas.{some_target, own_target, none_burned, some_burned}
use Rattle.mod_redelegation.proofs.slashing.burn_at_target.Goals as goal

pub unbond_and_burn-requires-clause-stands : goal.unbond_and_burn-requires-clause-stands
unbond_and_burn-requires-clause-stands g c =
    let k = g.D.Unbonder.stake (g.D.Unbonder.held c.args.delegations.now) in
    let own = own_target c.target_of-found.result c.in-Some.t c.args.target.now c.target_of-found.ensures.own c.in-Some.is in
    ap (validator_at k) own ∙ (some_target c.args.part (validator_at k c.args.target.now) c.in-Some.t (sym c.target_of-found.ensures.found ∙ c.in-Some.is)).1

pub unbond_and_burn-requires-clause-shares : goal.unbond_and_burn-requires-clause-shares
unbond_and_burn-requires-clause-shares g c =
    let k = g.D.Unbonder.stake (g.D.Unbonder.held c.args.delegations.now) in
    let own = own_target c.target_of-found.result c.in-Some.t c.args.target.now c.target_of-found.ensures.own c.in-Some.is in
    subst (λ o. HasShares k c.args.delegator.now o c.args.part) (sym own) (c.requires.shares (some_target c.args.part (validator_at k c.args.target.now) c.in-Some.t (sym c.target_of-found.ensures.found ∙ c.in-Some.is)).0)

pub returns-clause-told : goal.returns-clause-told
returns-clause-told g c = λ h o log.
    let holdings = g.B.Bank.holdings in
    let holds = g.H.StakingHooks.holds in
    let held = g.D.Unbonder.held in
    let lent : Unbonds g.D.Unbonder.Held g.H.StakingHooks.Held = record { stake = g.D.Unbonder.stake; unbond = g.D.Unbonder.unbonds g.H.StakingHooks.Held g.H.StakingHooks.tells.told } in
    let d = held c.args.delegations.now in
    let w = behind_log log d h (seen holdings c.args.g.now) in
    let is = some_burned lent c.args.delegator.now c.args.part w (validator_at (g.D.Unbonder.stake d) c.args.target.now) c.in-Some.t (sym c.target_of-found.ensures.found ∙ c.in-Some.is) in
    subst (λ r. Leaves r (held c.unbond_and_burn.new.delegations) (holds c.unbond_and_burn.new.hooks) (seen holdings c.unbond_and_burn.new.g) c.unbond_and_burn.result) (sym is) (c.unbond_and_burn.ensures.told h o log)

pub returns-in-None-clause-told : goal.returns-in-None-clause-told
returns-in-None-clause-told g c = λ h o log.
    let holds = g.H.StakingHooks.holds in
    let lent : Unbonds g.D.Unbonder.Held g.H.StakingHooks.Held = record { stake = g.D.Unbonder.stake; unbond = g.D.Unbonder.unbonds g.H.StakingHooks.Held g.H.StakingHooks.tells.told } in
    let d = g.D.Unbonder.held c.args.delegations.now in
    let v = seen g.B.Bank.holdings c.args.g.now in
    let is = none_burned lent c.args.delegator.now c.args.part (behind_log log d h v) (validator_at (g.D.Unbonder.stake d) c.args.target.now) (sym c.target_of-found.ensures.found ∙ c.in-None.is) in
    subst (λ r. Leaves r d (holds c.args.hooks.now) v (Ok tt)) (sym is) (refl, o, refl)

pub returns-in-None-clause-slashed : goal.returns-in-None-clause-slashed
returns-in-None-clause-slashed g c = slashed-none (seen g.B.Bank.holdings c.args.g.now) (g.D.Unbonder.stake (g.D.Unbonder.held c.args.delegations.now))

pub returns-in-None-clause-goes_on : goal.returns-in-None-clause-goes_on
returns-in-None-clause-goes_on g c = goes-none g.B.Bank.marks g.B.Bank.most_steps g.H.StakingHooks.marks g.D.Unbonder.marks c.args.g.now c.args.hooks.now c.args.delegations.now
