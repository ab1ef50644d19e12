use Rattle.std.proofs.Common.{◌≡◌, ◌∙◌, sym, ap, subst, rules, Ok, Err}
use Rattle.base_roles.specs.{Ground.seen, Lent.{Unbonds, Following, IsAsTold}, Staked.validator_at}
use Rattle.base_roles.proofs.StakeLemmas.{on_ok, on_both}
use Rattle.rule_modules.specs.Answers.{Leaves}
use Rattle.rule_modules.specs.EntrySlashes.{part_of, part_left, burned_at_target, entry_hit, shares_hit}
use Rattle.mod_staking.specs.Calls.{behind_log}
use Rattle.mod_redelegation.specs.{Scenes.LeavesBoth, Slashed.part_hit}
use Rattle.mod_redelegation.proofs.BothLemmas.{entries-held, lent-followed, both-scene, both-slashed}
use Rattle.mod_redelegation.proofs.GoesOnLemmas.{goes-none, both_go-followed}
use Rattle.mod_redelegation.proofs.{HitLemmas.{hit-is, leaves_both, both_no_memory}, PartLemmas.has_part}
use Rattle.mod_redelegation.proofs.slashing.slash_hit.Goals as goal

pub slash_followed-requires-clause-in_order : goal.slash_followed-requires-clause-in_order
slash_followed-requires-clause-in_order g c = c.requires.scene.stand.1.1.in_order

pub slash_followed-requires-clause-account : goal.slash_followed-requires-clause-account
slash_followed-requires-clause-account g c =
    entries-held g.H.StakingHooks.tells (g.H.StakingHooks.holds c.args.hooks.now) g.D.Unbonder.sound g.D.Unbonder.stake g.U.UnbondingSlash.sound g.U.UnbondingSlash.owed (seen g.B.Bank.holdings c.args.g.now) (g.D.Unbonder.held c.args.delegations.now)
    (g.U.UnbondingSlash.held c.args.unbondings.now) c.requires.scene

pub burn_at_target-requires-clause-scene : goal.burn_at_target-requires-clause-scene
burn_at_target-requires-clause-scene g c =
    lent-followed g.H.StakingHooks.tells (g.H.StakingHooks.holds c.args.hooks.now) g.D.Unbonder.sound g.D.Unbonder.stake g.U.UnbondingSlash.sound g.U.UnbondingSlash.owed (seen g.B.Bank.holdings c.args.g.now) (g.D.Unbonder.held c.args.delegations.now)
    (g.U.UnbondingSlash.held c.args.unbondings.now) c.requires.scene (seen g.B.Bank.holdings c.slash_followed.new.g) (g.U.UnbondingSlash.held c.slash_followed.new.self) c.slash_followed.ensures.undone.ctx c.in_ok-lost.ensures.burned c.in_ok-lost.ensures.in_order

pub burn_at_target-requires-clause-shares : goal.burn_at_target-requires-clause-shares
burn_at_target-requires-clause-shares g c =
    has_part (g.D.Unbonder.stake (g.D.Unbonder.held c.args.delegations.now)) c.args.delegator.now c.args.target.now c.part_left-left.result c.part_hit-part.result (c.part_hit-part.ensures ∙ ap (part_hit c.part_left-left.result) c.shares_of-held.ensures)

pub returns-clause-told : goal.returns-clause-told
returns-clause-told g c = λ h o log.
    let holdings = g.B.Bank.holdings in
    let holds = g.H.StakingHooks.holds in
    let held = g.D.Unbonder.held in
    let lent : Unbonds g.D.Unbonder.Held g.H.StakingHooks.Held = record { stake = g.D.Unbonder.stake; unbond = g.D.Unbonder.unbonds g.H.StakingHooks.Held g.H.StakingHooks.tells.told } in
    let following : Following g.U.UnbondingSlash.Held = record { follow = g.U.UnbondingSlash.follows } in
    let delegator = c.args.delegator.now in
    let target = c.args.target.now in
    let e = c.args.entry.now in
    let u = g.U.UnbondingSlash.held c.args.unbondings.now in
    let u1 = g.U.UnbondingSlash.held c.slash_followed.new.self in
    let d = held c.args.delegations.now in
    let v1 = seen holdings c.slash_followed.new.g in
    let w = behind_log log d h (seen holdings c.args.g.now) in
    let w1 = behind_log log d h v1 in
    let told = c.in_ok-lost.ensures.told in
    let count = c.part_of-count.ensures.value in
    let left : part_left c.args.factor e.shares_dst (part_of c.args.factor e.initial) c.in_ok-lost.lost ≡ Ok c.part_left-left.result = ap (λ n. part_left c.args.factor e.shares_dst n c.in_ok-lost.lost) (sym count) ∙ c.part_left-left.ensures in
    let is = hit-is lent following delegator target c.args.factor e u w c.in_ok-lost.lost u1 v1 c.part_left-left.result (subst (λ n. IsAsTold (g.U.UnbondingSlash.follows delegator target e.created n u (seen holdings c.args.g.now)) u1 v1 c.in_ok-lost.lost) count told) left in
    let part : c.part_hit-part.result ≡ shares_hit lent delegator target c.part_left-left.result w1 = c.part_hit-part.ensures ∙ ap (part_hit c.part_left-left.result) c.shares_of-held.ensures in
    let burned = subst (λ n. Leaves (burned_at_target lent (validator_at (g.D.Unbonder.stake d) target) delegator n w1) (held c.burn_at_target.new.delegations) (holds c.burn_at_target.new.hooks) (seen holdings c.burn_at_target.new.g) c.burn_at_target.result) part
    (c.burn_at_target.ensures.told h o log) in
    subst (λ r. LeavesBoth r u1 (held c.burn_at_target.new.delegations) (holds c.burn_at_target.new.hooks) (seen holdings c.burn_at_target.new.g) c.burn_at_target.result) (sym is)
    (leaves_both _ u1 (held c.burn_at_target.new.delegations) (holds c.burn_at_target.new.hooks) (seen holdings c.burn_at_target.new.g) c.burn_at_target.result burned)

pub returns-clause-scene : goal.returns-clause-scene
returns-clause-scene g c =
    let holdings = g.B.Bank.holdings in
    let v2 = seen holdings c.burn_at_target.new.g in
    let d2 = g.D.Unbonder.held c.burn_at_target.new.delegations in
    on_both c.burn_at_target.result
    (λ slashed scene. both-scene g.H.StakingHooks.tells (g.H.StakingHooks.holds c.args.hooks.now) g.D.Unbonder.sound g.D.Unbonder.stake g.U.UnbondingSlash.sound g.U.UnbondingSlash.owed (seen holdings c.args.g.now) (g.D.Unbonder.held c.args.delegations.now)
    (g.U.UnbondingSlash.held c.args.unbondings.now) c.requires.scene (seen holdings c.slash_followed.new.g) (g.U.UnbondingSlash.held c.slash_followed.new.self) c.slash_followed.ensures.undone.ctx c.in_ok-lost.ensures.burned v2 d2 slashed
    (g.H.StakingHooks.holds c.burn_at_target.new.hooks) c.burn_at_target.ensures.goes_on.undone.ctx c.in_ok-lost.ensures.sound scene)
    c.burn_at_target.ensures.slashed c.burn_at_target.ensures.scene

pub returns-clause-slashed : goal.returns-clause-slashed
returns-clause-slashed g c =
    let holdings = g.B.Bank.holdings in
    on_ok c.burn_at_target.result
    (λ slashed. both-slashed g.H.StakingHooks.tells (g.H.StakingHooks.holds c.args.hooks.now) g.D.Unbonder.sound g.D.Unbonder.stake g.U.UnbondingSlash.sound g.U.UnbondingSlash.owed (seen holdings c.args.g.now) (g.D.Unbonder.held c.args.delegations.now)
    (g.U.UnbondingSlash.held c.args.unbondings.now) c.requires.scene (seen holdings c.slash_followed.new.g) (g.U.UnbondingSlash.held c.slash_followed.new.self) c.slash_followed.ensures.undone.ctx c.in_ok-lost.ensures.burned
    (seen holdings c.burn_at_target.new.g) (g.D.Unbonder.held c.burn_at_target.new.delegations) slashed) c.burn_at_target.ensures.slashed

pub returns-clause-goes_on : goal.returns-clause-goes_on
returns-clause-goes_on g c =
    both_go-followed g.B.Bank.marks g.B.Bank.most_steps g.H.StakingHooks.marks g.D.Unbonder.marks g.U.UnbondingSlash.marks c.args.g.now c.slash_followed.new.g c.burn_at_target.new.g c.args.hooks.now c.burn_at_target.new.hooks
    c.args.delegations.now c.burn_at_target.new.delegations c.args.unbondings.now c.slash_followed.new.self c.slash_followed.ensures.undone c.slash_followed.ensures.bank c.slash_followed.ensures.marks c.burn_at_target.ensures.goes_on

pub returns-in_err-lost-clause-told : goal.returns-in_err-lost-clause-told
returns-in_err-lost-clause-told g c = λ h o log.
    let holds = g.H.StakingHooks.holds in
    let lent : Unbonds g.D.Unbonder.Held g.H.StakingHooks.Held = record { stake = g.D.Unbonder.stake; unbond = g.D.Unbonder.unbonds g.H.StakingHooks.Held g.H.StakingHooks.tells.told } in
    let following : Following g.U.UnbondingSlash.Held = record { follow = g.U.UnbondingSlash.follows } in
    let u = g.U.UnbondingSlash.held c.args.unbondings.now in
    let u1 = g.U.UnbondingSlash.held c.slash_followed.new.self in
    let d = g.D.Unbonder.held c.args.delegations.now in
    let v1 = seen g.B.Bank.holdings c.slash_followed.new.g in
    let w = behind_log log d h (seen g.B.Bank.holdings c.args.g.now) in
    let rule = entry_hit lent following c.args.delegator.now c.args.target.now c.args.factor c.args.entry.now u w in
    let given : c.from_residual.result ≡ Err c.in_err-lost.field-0.0 = search rules in
    subst (LeavesBoth rule u1 d (holds c.args.hooks.now) v1) (sym (given ∙ ap (λ f. Err f) c.in_err-lost.ensures.fault)) (both_no_memory rule u1 d (holds c.args.hooks.now) v1)

pub returns-in_err-lost-clause-goes_on : goal.returns-in_err-lost-clause-goes_on
returns-in_err-lost-clause-goes_on g c =
    both_go-followed g.B.Bank.marks g.B.Bank.most_steps g.H.StakingHooks.marks g.D.Unbonder.marks g.U.UnbondingSlash.marks c.args.g.now c.slash_followed.new.g c.slash_followed.new.g c.args.hooks.now c.args.hooks.now
    c.args.delegations.now c.args.delegations.now c.args.unbondings.now c.slash_followed.new.self c.slash_followed.ensures.undone c.slash_followed.ensures.bank c.slash_followed.ensures.marks
    (goes-none g.B.Bank.marks g.B.Bank.most_steps g.H.StakingHooks.marks g.D.Unbonder.marks c.slash_followed.new.g c.args.hooks.now c.args.delegations.now)
