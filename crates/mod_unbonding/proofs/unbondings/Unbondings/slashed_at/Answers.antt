use Rattle.std.proofs.Common.{◌≡◌, ◌^◌, ◌≤◌, Some, sym, subst, All}
use Rattle.std.proofs.lemmas.List.Elements.{All-weaker}
use Rattle.base_roles.specs.{Entries.at, Orders.pair_cmp}
use Rattle.rule_modules.specs.Sound.{UnbondingIsSound}
use Rattle.mod_unbonding.proofs.EntriesLemmas.{holds_at}
use Rattle.mod_unbonding.proofs.unbondings.Unbondings.slashed_at.Goals as goal

pub slashed-requires-clause-initials : goal.slashed-requires-clause-initials
slashed-requires-clause-initials g c =
    let u = c.args.self.now.lists in
    let h = c.requires.entries in
    let found : at pair_cmp u c.args.key.now ≡ Some c.in-Some.list.now = sym c.in-Some.ensures.value in
    let sound = holds_at (λ p. All (UnbondingIsSound h.0) p.1) u h.1.ascend h.1.entries c.args.key.now c.in-Some.list.now found in
    subst (All (λ e. e.initial ≤ 10 ^ 18)) (sym c.as_slice.ensures) (All-weaker (UnbondingIsSound h.0) (λ e. e.initial ≤ 10 ^ 18) (λ e s. s.initial) c.in-Some.list.now sound)
