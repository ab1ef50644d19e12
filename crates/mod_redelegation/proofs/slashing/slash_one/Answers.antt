use Rattle.std.proofs.Common.{◌∙◌, refl, sym, subst, Ok}
use Rattle.base_roles.specs.{Ground.seen, Lent.{Unbonds, Following}}
use Rattle.rule_modules.specs.EntrySlashes.{is_hit, entry_hit}
use Rattle.mod_staking.specs.Calls.{behind_log}
use Rattle.mod_redelegation.{specs.Scenes.LeavesBoth, proofs.{BothLemmas.both-none, GoesOnLemmas.both_go-none}}
use Rattle.mod_redelegation.proofs.TargetLemmas.{cond_true, cond_false}
use Rattle.mod_redelegation.proofs.slashing.slash_one.Goals as goal

pub returns-clause-told : goal.returns-clause-told
returns-clause-told g c = λ h o log.
    let holdings = g.B.Bank.holdings in
    let holds = g.H.StakingHooks.holds in
    let held = g.D.Unbonder.held in
    let lent : Unbonds g.D.Unbonder.Held g.H.StakingHooks.Held = record { stake = g.D.Unbonder.stake; unbond = g.D.Unbonder.unbonds g.H.StakingHooks.Held g.H.StakingHooks.tells.told } in
    let following : Following g.U.UnbondingSlash.Held = record { follow = g.U.UnbondingSlash.follows } in
    let u = g.U.UnbondingSlash.held c.args.unbondings.now in
    let e = c.args.entry.now in
    let w = behind_log log (held c.args.delegations.now) h (seen holdings c.args.g.now) in
    let is = cond_true (is_hit c.args.infraction c.args.g.now.ctx.time e.created e.completes) (entry_hit lent following c.args.delegator.now c.args.target.now c.args.factor e u w) (Ok (u, w)) (sym c.is_hit.ensures ∙ c.if-not-is_hit.false) in
    subst (λ r. LeavesBoth r (g.U.UnbondingSlash.held c.slash_hit.new.unbondings) (held c.slash_hit.new.delegations) (holds c.slash_hit.new.hooks) (seen holdings c.slash_hit.new.g) c.slash_hit.result) (sym is) (c.slash_hit.ensures.told h o log)

pub returns-then-not-is_hit-clause-told : goal.returns-then-not-is_hit-clause-told
returns-then-not-is_hit-clause-told g c = λ h o log.
    let holds = g.H.StakingHooks.holds in
    let lent : Unbonds g.D.Unbonder.Held g.H.StakingHooks.Held = record { stake = g.D.Unbonder.stake; unbond = g.D.Unbonder.unbonds g.H.StakingHooks.Held g.H.StakingHooks.tells.told } in
    let following : Following g.U.UnbondingSlash.Held = record { follow = g.U.UnbondingSlash.follows } in
    let u = g.U.UnbondingSlash.held c.args.unbondings.now in
    let d = g.D.Unbonder.held c.args.delegations.now in
    let e = c.args.entry.now in
    let v = seen g.B.Bank.holdings c.args.g.now in
    let w = behind_log log d h v in
    let is = cond_false (is_hit c.args.infraction v.ctx.time e.created e.completes) (entry_hit lent following c.args.delegator.now c.args.target.now c.args.factor e u w) (Ok (u, w)) (sym c.is_hit.ensures ∙ c.if-not-is_hit.true) in
    subst (λ r. LeavesBoth r u d (holds c.args.hooks.now) v (Ok tt)) (sym is) (refl, refl, o, refl)

pub returns-then-not-is_hit-clause-slashed : goal.returns-then-not-is_hit-clause-slashed
returns-then-not-is_hit-clause-slashed g c =
    both-none (seen g.B.Bank.holdings c.args.g.now) (g.D.Unbonder.stake (g.D.Unbonder.held c.args.delegations.now)) (g.U.UnbondingSlash.owed (g.U.UnbondingSlash.held c.args.unbondings.now))

pub returns-then-not-is_hit-clause-goes_on : goal.returns-then-not-is_hit-clause-goes_on
returns-then-not-is_hit-clause-goes_on g c =
    both_go-none g.B.Bank.marks g.B.Bank.most_steps g.H.StakingHooks.marks g.D.Unbonder.marks g.U.UnbondingSlash.marks c.args.g.now c.args.hooks.now c.args.delegations.now c.args.unbondings.now
