use Rattle.std.proofs.Common.{◌≡◌, ◌^◌, ◌≤◌, Some, length, sym, subst, All}
use Rattle.std.proofs.lemmas.List.Elements.{All-weaker}
use Rattle.base_roles.specs.{Entries.at, Orders.pair_cmp}
use Rattle.rule_modules.specs.Sound.{UnbondingIsSound}
use Rattle.mod_unbonding.proofs.EntriesLemmas.{holds_at}
use Rattle.mod_unbonding.proofs.unbondings.Unbondings.burned_at.Goals as goal

pub burned_of-requires-clause-few : goal.burned_of-requires-clause-few
burned_of-requires-clause-few g c =
    let u = c.args.self.now.lists in
    let h = c.requires.entries in
    let found : at pair_cmp u c.args.key.now ≡ Some c.in-Some.list.now = sym c.in-Some.ensures.value in
    subst (λ es. length es ≤ 100) (sym c.as_slice.ensures) (holds_at (λ p. length p.1 ≤ 100) u h.1.ascend h.1.most c.args.key.now c.in-Some.list.now found)

pub burned_of-requires-clause-initials : goal.burned_of-requires-clause-initials
burned_of-requires-clause-initials g c =
    let u = c.args.self.now.lists in
    let h = c.requires.entries in
    let found : at pair_cmp u c.args.key.now ≡ Some c.in-Some.list.now = sym c.in-Some.ensures.value in
    let sound = holds_at (λ p. All (UnbondingIsSound h.0) p.1) u h.1.ascend h.1.entries c.args.key.now c.in-Some.list.now found in
    subst (All (λ e. e.initial ≤ 10 ^ 18)) (sym c.as_slice.ensures) (All-weaker (UnbondingIsSound h.0) (λ e. e.initial ≤ 10 ^ 18) (λ e s. s.initial) c.in-Some.list.now sound)
