use Rattle.std.proofs.Common.{◌^◌, ◌≤◌, sym, subst, All}
use Rattle.std.proofs.lemmas.List.Elements.{All-weaker}
use Rattle.base_roles.specs.{Ground.seen, Lent.{Unbonds, Following}, Orders.triple_cmp}
use Rattle.rule_modules.specs.{EntrySlashes.targets_slashed, Sound.RedelegationIsSound}
use Rattle.mod_staking.specs.Calls.{behind_log}
use Rattle.mod_entries.specs.Lists.{list_at}
use Rattle.mod_redelegation.{specs.Scenes.LeavesBoth, proofs.EntryLemmas.own-sound}
use Rattle.mod_redelegation.proofs.redelegations.Redelegations.slash_at.Goals as goal

pub slash_all-requires-clause-initials : goal.slash_all-requires-clause-initials
slash_all-requires-clause-initials g c =
    let r = c.args.self.now.lists in
    let h = c.requires.entries in
    subst (All (λ e. e.initial ≤ 10 ^ 18)) (sym c.list_at-entries.ensures) (All-weaker (RedelegationIsSound h.0) (λ e. e.initial ≤ 10 ^ 18) (λ e s. s.initial) (list_at triple_cmp r c.args.key.now) (own-sound h.0 r h.1 c.args.key.now))

pub returns-clause-told : goal.returns-clause-told
returns-clause-told g c = λ h o log.
    let holdings = g.B.Bank.holdings in
    let held = g.D.Unbonder.held in
    let lent : Unbonds g.D.Unbonder.Held g.H.StakingHooks.Held = record { stake = g.D.Unbonder.stake; unbond = g.D.Unbonder.unbonds g.H.StakingHooks.Held g.H.StakingHooks.tells.told } in
    let following : Following g.U.UnbondingSlash.Held = record { follow = g.U.UnbondingSlash.follows } in
    let w = behind_log log (held c.args.delegations.now) h (seen holdings c.args.g.now) in
    subst (λ es. LeavesBoth (targets_slashed lent following c.args.key.now.0 c.args.key.now.2 c.args.infraction c.args.factor es (g.U.UnbondingSlash.held c.args.unbondings.now) w) (g.U.UnbondingSlash.held c.slash_all.new.unbondings)
    (held c.slash_all.new.delegations) (g.H.StakingHooks.holds c.slash_all.new.hooks) (seen holdings c.slash_all.new.g) c.slash_all.result)
    c.list_at-entries.ensures (c.slash_all.ensures.told h o log)
