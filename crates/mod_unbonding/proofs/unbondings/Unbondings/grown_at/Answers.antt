use Rattle.std.proofs.Common.{◌≡◌, ℕ, ◌^◌, ◌≤◌, Some, sym, subst, arith, All}
use Rattle.std.proofs.lemmas.List.Elements.{All-weaker}
use Rattle.base_roles.specs.{declared.entities.UnbondingEntry.UnbondingEntry, Entries.at, Orders.pair_cmp}
use Rattle.rule_modules.specs.Sound.{UnbondingIsSound}
use Rattle.mod_unbonding.proofs.EntriesLemmas.{holds_at}
use Rattle.mod_unbonding.proofs.unbondings.Unbondings.grown_at.Goals as goal

initial_most : (height : ℕ) (e : UnbondingEntry) → UnbondingIsSound height e → e.initial ≤ 10 ^ 18
initial_most height e h = h.initial

balance_most : (height : ℕ) (e : UnbondingEntry) → UnbondingIsSound height e → e.balance ≤ 10 ^ 18
balance_most height e h = let b = h.balance in let i = h.initial in omega (arith, b, i)

pub grown-requires-clause-initials : goal.grown-requires-clause-initials
grown-requires-clause-initials g c =
    let u = c.args.self.now.lists in
    let h = c.requires.entries in
    let found : at pair_cmp u c.args.key.now ≡ Some c.in-Some.list.now = sym c.in-Some.ensures.value in
    let sound = holds_at (λ p. All (UnbondingIsSound h.0) p.1) u h.1.ascend h.1.entries c.args.key.now c.in-Some.list.now found in
    subst (All (λ e. e.initial ≤ 10 ^ 18)) (sym c.as_slice.ensures) (All-weaker (UnbondingIsSound h.0) (λ e. e.initial ≤ 10 ^ 18) (initial_most h.0) c.in-Some.list.now sound)

pub grown-requires-clause-balances : goal.grown-requires-clause-balances
grown-requires-clause-balances g c =
    let u = c.args.self.now.lists in
    let h = c.requires.entries in
    let found : at pair_cmp u c.args.key.now ≡ Some c.in-Some.list.now = sym c.in-Some.ensures.value in
    let sound = holds_at (λ p. All (UnbondingIsSound h.0) p.1) u h.1.ascend h.1.entries c.args.key.now c.in-Some.list.now found in
    subst (All (λ e. e.balance ≤ 10 ^ 18)) (sym c.as_slice.ensures) (All-weaker (UnbondingIsSound h.0) (λ e. e.balance ≤ 10 ^ 18) (balance_most h.0) c.in-Some.list.now sound)
