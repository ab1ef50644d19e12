use Rattle.std.proofs.Common.{◌≡◌, ◌+◌, drop, refl, sym, subst, rules, Err}
use Rattle.base_roles.specs.{Ground.seen, Lent.{Unbonds, Following}}
use Rattle.rule_modules.specs.EntrySlashes.{targets_slashed}
use Rattle.mod_staking.specs.Calls.{behind_log}
use Rattle.mod_entries.proofs.CountLemmas.{next_of, drop_end}
use Rattle.mod_redelegation.{specs.{Scenes.LeavesBoth, Slashed.entry_slashed}, proofs.BothLemmas.{both-none, both-then}}
use Rattle.mod_redelegation.proofs.GoesOnLemmas.{both_go-none, both_go-then}
use Rattle.mod_redelegation.proofs.ReachedLemmas.{reached-first, reached-next, reached-err, reached-last, targets-next, targets-end}
use Rattle.mod_redelegation.proofs.slashing.slash_all.Goals as goal

pub loop-entry-init : goal.loop-entry-init
loop-entry-init g c =
    let holdings = g.B.Bank.holdings in
    let told = g.H.StakingHooks.tells.told in
    let holds = g.H.StakingHooks.holds in
    let held = g.D.Unbonder.held in
    let lent : Unbonds g.D.Unbonder.Held g.H.StakingHooks.Held = record { stake = g.D.Unbonder.stake; unbond = g.D.Unbonder.unbonds g.H.StakingHooks.Held told } in
    let following : Following g.U.UnbondingSlash.Held = record { follow = g.U.UnbondingSlash.follows } in
    let v = seen holdings c.args.g.now in
    let d = held c.args.delegations.now in
    let u = g.U.UnbondingSlash.held c.args.unbondings.now in
    let slashed = targets_slashed lent following c.args.delegator.now c.args.target.now c.args.infraction c.args.factor c.args.entries.now in
    record {
      told = λ h o log. reached-first (slashed u (behind_log log d h v)) slashed u d (holds c.args.hooks.now) v h log o refl;
      scene = c.requires.scene;
      slashed = both-none v (g.D.Unbonder.stake d) (g.U.UnbondingSlash.owed u);
      goes_on = both_go-none g.B.Bank.marks g.B.Bank.most_steps g.H.StakingHooks.marks g.D.Unbonder.marks g.U.UnbondingSlash.marks c.args.g.now c.args.hooks.now c.args.delegations.now c.args.unbondings.now;
    }

pub slash_one-requires-clause-scene : goal.slash_one-requires-clause-scene
slash_one-requires-clause-scene g c = c.loop-entry.invariant.scene

pub loop-entry-preserved : goal.loop-entry-preserved
loop-entry-preserved g c =
    let holdings = g.B.Bank.holdings in
    let told = g.H.StakingHooks.tells.told in
    let holds = g.H.StakingHooks.holds in
    let held = g.D.Unbonder.held in
    let lent : Unbonds g.D.Unbonder.Held g.H.StakingHooks.Held = record { stake = g.D.Unbonder.stake; unbond = g.D.Unbonder.unbonds g.H.StakingHooks.Held told } in
    let following : Following g.U.UnbondingSlash.Held = record { follow = g.U.UnbondingSlash.follows } in
    let h0 = c.loop-entry.invariant in
    let del = c.args.delegator.now in
    let target = c.args.target.now in
    let entries = c.args.entries.now in
    let v0 = seen holdings c.args.g.now in
    let v1 = seen holdings c.loop-entry.g in
    let v2 = seen holdings c.slash_one.new.g in
    let d0 = held c.args.delegations.now in
    let u0 = g.U.UnbondingSlash.held c.args.unbondings.now in
    let d1 = held c.loop-entry.delegations in
    let u1 = g.U.UnbondingSlash.held c.loop-entry.unbondings in
    let d2 = held c.slash_one.new.delegations in
    let u2 = g.U.UnbondingSlash.held c.slash_one.new.unbondings in
    let e = c.entry-item.result in
    let rest = drop c.loop-entry.entry-index entries in
    let later = drop (c.loop-entry.entry-index + 1) entries in
    let whole = targets_slashed lent following del target c.args.infraction c.args.factor entries in
    let left = targets_slashed lent following del target c.args.infraction c.args.factor rest in
    let next = targets_slashed lent following del target c.args.infraction c.args.factor later in
    let one = entry_slashed lent following del target c.args.infraction c.args.factor e in
    let is = targets-next lent following c.args.infraction c.args.factor del target rest e later (next_of entries c.loop-entry.entry-index e c.loop-entry-test.true c.entry-item.is) in
    record {
      told = λ h o log. reached-next (whole u0 (behind_log log d0 h v0)) left u1 d1 (holds c.loop-entry.hooks) v1 (h0.told h o log) one next is u2 d2 (holds c.slash_one.new.hooks) v2 c.in_ok-slash_one.ensures.told;
      scene = c.in_ok-slash_one.ensures.scene;
      slashed = both-then v0 v1 v2 (g.D.Unbonder.stake d0) (g.D.Unbonder.stake d1) (g.D.Unbonder.stake d2) (g.U.UnbondingSlash.owed u0) (g.U.UnbondingSlash.owed u1) (g.U.UnbondingSlash.owed u2) h0.goes_on.undone.ctx h0.slashed c.in_ok-slash_one.ensures.slashed;
      goes_on = both_go-then g.B.Bank.marks g.B.Bank.most_steps g.H.StakingHooks.marks g.D.Unbonder.marks g.U.UnbondingSlash.marks c.args.g.now c.loop-entry.g c.slash_one.new.g c.args.hooks.now c.loop-entry.hooks c.slash_one.new.hooks
          c.args.delegations.now c.loop-entry.delegations c.slash_one.new.delegations c.args.unbondings.now c.loop-entry.unbondings c.slash_one.new.unbondings h0.goes_on c.slash_one.ensures.goes_on;
    }

pub returns-clause-told : goal.returns-clause-told
returns-clause-told g c = λ h o log.
    let holdings = g.B.Bank.holdings in
    let told = g.H.StakingHooks.tells.told in
    let holds = g.H.StakingHooks.holds in
    let held = g.D.Unbonder.held in
    let lent : Unbonds g.D.Unbonder.Held g.H.StakingHooks.Held = record { stake = g.D.Unbonder.stake; unbond = g.D.Unbonder.unbonds g.H.StakingHooks.Held told } in
    let following : Following g.U.UnbondingSlash.Held = record { follow = g.U.UnbondingSlash.follows } in
    let entries = c.args.entries.now in
    let rest = drop c.loop-entry.entry-index entries in
    let slashed = targets_slashed lent following c.args.delegator.now c.args.target.now c.args.infraction c.args.factor in
    reached-last (slashed entries (g.U.UnbondingSlash.held c.args.unbondings.now) (behind_log log (held c.args.delegations.now) h (seen holdings c.args.g.now))) (slashed rest) (g.U.UnbondingSlash.held c.loop-entry.unbondings) (held c.loop-entry.delegations) (holds c.loop-entry.hooks) (seen holdings c.loop-entry.g)
    (c.loop-entry.invariant.told h o log) (targets-end lent following c.args.infraction c.args.factor c.args.delegator.now c.args.target.now rest (drop_end entries c.loop-entry.entry-index c.loop-entry-test.false))

pub returns-clause-scene : goal.returns-clause-scene
returns-clause-scene g c = c.loop-entry.invariant.scene

pub returns-clause-slashed : goal.returns-clause-slashed
returns-clause-slashed g c = c.loop-entry.invariant.slashed

pub returns-clause-goes_on : goal.returns-clause-goes_on
returns-clause-goes_on g c = c.loop-entry.invariant.goes_on

pub returns-in_err-slash_one-clause-told : goal.returns-in_err-slash_one-clause-told
returns-in_err-slash_one-clause-told g c = λ h o log.
    let holdings = g.B.Bank.holdings in
    let told = g.H.StakingHooks.tells.told in
    let holds = g.H.StakingHooks.holds in
    let held = g.D.Unbonder.held in
    let lent : Unbonds g.D.Unbonder.Held g.H.StakingHooks.Held = record { stake = g.D.Unbonder.stake; unbond = g.D.Unbonder.unbonds g.H.StakingHooks.Held told } in
    let following : Following g.U.UnbondingSlash.Held = record { follow = g.U.UnbondingSlash.follows } in
    let h0 = c.loop-entry.invariant in
    let del = c.args.delegator.now in
    let target = c.args.target.now in
    let entries = c.args.entries.now in
    let v0 = seen holdings c.args.g.now in
    let v1 = seen holdings c.loop-entry.g in
    let v2 = seen holdings c.slash_one.new.g in
    let d0 = held c.args.delegations.now in
    let u0 = g.U.UnbondingSlash.held c.args.unbondings.now in
    let d1 = held c.loop-entry.delegations in
    let u1 = g.U.UnbondingSlash.held c.loop-entry.unbondings in
    let d2 = held c.slash_one.new.delegations in
    let u2 = g.U.UnbondingSlash.held c.slash_one.new.unbondings in
    let e = c.entry-item.result in
    let rest = drop c.loop-entry.entry-index entries in
    let later = drop (c.loop-entry.entry-index + 1) entries in
    let whole = targets_slashed lent following del target c.args.infraction c.args.factor entries in
    let left = targets_slashed lent following del target c.args.infraction c.args.factor rest in
    let next = targets_slashed lent following del target c.args.infraction c.args.factor later in
    let one = entry_slashed lent following del target c.args.infraction c.args.factor e in
    let is = targets-next lent following c.args.infraction c.args.factor del target rest e later (next_of entries c.loop-entry.entry-index e c.loop-entry-test.true c.entry-item.is) in
    let fault = c.in_err-slash_one.field-0.0 in
    let given : c.from_residual.result ≡ Err fault = search rules in
    subst (LeavesBoth (whole u0 (behind_log log d0 h v0)) u2 d2 (holds c.slash_one.new.hooks) v2) (sym given)
    (reached-err (whole u0 (behind_log log d0 h v0)) left u1 d1 (holds c.loop-entry.hooks) v1 (h0.told h o log) one next is u2 d2 (holds c.slash_one.new.hooks) v2 fault c.in_err-slash_one.ensures.told)

pub returns-in_err-slash_one-clause-goes_on : goal.returns-in_err-slash_one-clause-goes_on
returns-in_err-slash_one-clause-goes_on g c =
    both_go-then g.B.Bank.marks g.B.Bank.most_steps g.H.StakingHooks.marks g.D.Unbonder.marks g.U.UnbondingSlash.marks c.args.g.now c.loop-entry.g c.slash_one.new.g c.args.hooks.now c.loop-entry.hooks c.slash_one.new.hooks
    c.args.delegations.now c.loop-entry.delegations c.slash_one.new.delegations c.args.unbondings.now c.loop-entry.unbondings c.slash_one.new.unbondings c.loop-entry.invariant.goes_on c.slash_one.ensures.goes_on
