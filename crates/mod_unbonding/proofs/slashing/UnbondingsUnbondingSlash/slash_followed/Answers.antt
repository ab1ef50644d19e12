use Rattle.std.proofs.Common.{◌∙◌, ◌+◌, ◌≤◌, sym, ap, subst}
use Rattle.base_roles.specs.{Ground.seen, Lent.IsBurned}
use Rattle.rule_modules.specs.{EntrySlashes.entries_followed, Owed.entry_balances}
use Rattle.rule_modules.specs.Unbondings.{entries_of, with_entries}
use Rattle.mod_unbonding.{specs.Calls.AreSoundLists, proofs.CompletedLemmas.still_in_order}
use Rattle.mod_unbonding.proofs.FollowedLemmas.{followed-most, followed-sound, followed-owed, can_burn, burned-followed}
use Rattle.mod_unbonding.proofs.slashing.UnbondingsUnbondingSlash.slash_followed.Goals as goal

pub follow_at-requires-clause-backed : goal.follow_at-requires-clause-backed
follow_at-requires-clause-backed g c = c.requires.in_order.bank

pub follow_at-requires-clause-enough : goal.follow_at-requires-clause-enough
follow_at-requires-clause-enough g c =
    can_burn c.args.delegator.now c.args.operator.now c.args.from c.args.g.now.ctx.time c.args.tokens c.args.self.now.lists c.requires.sound (seen g.B.Bank.holdings c.args.g.now) c.requires.in_order c.requires.account

pub returns-clause-told : goal.returns-clause-told
returns-clause-told g c = (c.in_ok-sum.ensures.sum, ap (λ k. k.lists) c.in_ok-sum.ensures.lists, c.in_ok-sum.ensures.ground)

pub returns-clause-most : goal.returns-clause-most
returns-clause-most g c =
    subst (λ n. n ≤ c.args.tokens) (sym c.in_ok-sum.ensures.sum) (followed-most c.args.from c.args.g.now.ctx.time (entries_of c.args.self.now.lists c.args.delegator.now c.args.operator.now) c.args.tokens)

pub returns-clause-burned : goal.returns-clause-burned
returns-clause-burned g c =
    let u = c.args.self.now.lists in
    let v = seen g.B.Bank.holdings c.args.g.now in
    let left = with_entries c.args.delegator.now c.args.operator.now (entries_followed c.args.from c.args.g.now.ctx.time c.args.tokens (entries_of u c.args.delegator.now c.args.operator.now)).1 u in
    let once = burned-followed c.args.delegator.now c.args.operator.now c.args.from c.args.g.now.ctx.time c.args.tokens u c.requires.sound v c.requires.in_order c.requires.account in
    subst (λ x. IsBurned v (seen g.B.Bank.holdings c.follow_at.new.g) (entry_balances u) (entry_balances x)) (sym (ap (λ k. k.lists) c.in_ok-sum.ensures.lists))
    (subst (λ x. IsBurned v x (entry_balances u) (entry_balances left)) (sym c.in_ok-sum.ensures.ground) once)

pub returns-clause-sum : goal.returns-clause-sum
returns-clause-sum g c =
    let u = c.args.self.now.lists in
    let left = with_entries c.args.delegator.now c.args.operator.now (entries_followed c.args.from c.args.g.now.ctx.time c.args.tokens (entries_of u c.args.delegator.now c.args.operator.now)).1 u in
    ap (λ x. entry_balances x + c.in_ok-sum.sum) (ap (λ k. k.lists) c.in_ok-sum.ensures.lists)
    ∙ ap (λ n. entry_balances left + n) c.in_ok-sum.ensures.sum
    ∙ followed-owed c.args.delegator.now c.args.operator.now c.args.from c.args.g.now.ctx.time c.args.tokens c.args.self.now.lists c.requires.sound

pub returns-clause-sound : goal.returns-clause-sound
returns-clause-sound g c =
    subst AreSoundLists (sym (ap (λ k. k.lists) c.in_ok-sum.ensures.lists))
    (followed-sound c.args.delegator.now c.args.operator.now c.args.from c.args.g.now.ctx.time c.args.tokens c.args.self.now.lists c.requires.sound)

pub returns-clause-in_order : goal.returns-clause-in_order
returns-clause-in_order g c =
    still_in_order (seen g.B.Bank.holdings c.args.g.now) (seen g.B.Bank.holdings c.follow_at.new.g) c.follow_at.ensures.undone.ctx c.follow_at.ensures.backed c.requires.in_order
