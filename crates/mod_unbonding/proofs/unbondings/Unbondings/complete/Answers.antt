use Rattle.std.proofs.Common.{◌≡◌, ◌∙◌, ◌+◌, ◌*◌, ◌≤◌, drop, length, refl, sym, ap, subst, arith}
use Rattle.base_roles.specs.{Ground.seen, declared.entities.UnbondingEntry.UnbondingEntry}
use Rattle.rule_modules.specs.{Amounts.count_where, Unbondings.{entries_of, is_mature}, EntrySlashes.unbonding_made}
use Rattle.mod_entries.{specs.{Kept.Kept, Walked.{keys_where, is_due, mature_entries}}, proofs.CountLemmas.next_of}
use Rattle.mod_entries.proofs.{DueLemmas.due_few, UndoneLemmas.{undone-none, undone-then}}
use Rattle.mod_unbonding.{specs.Walked.{Key, paid_at}, proofs.WalkedLemmas.{length_next, stepped-next}}
use Rattle.mod_unbonding.proofs.CompletedLemmas.{IsCompleting, completing-none, completing-one, can_pay, mature-one, u3, due-seen, completed-all, cost-first, cost-next, cost-all, cost-stopped}
use Rattle.mod_unbonding.proofs.unbondings.Unbondings.complete.Goals as goal

pub loop-key-init : goal.loop-key-init
loop-key-init g c =
    let u = c.args.self.now.lists in
    let v = seen g.B.Bank.holdings c.args.g.now in
    let keys = c.deref-key-items.result.now in
    let now = c.args.g.now.ctx.time in
    let due = length (keys_where (is_due unbonding_made now) c.self.inside.entries.lists) in
    let same : length keys ≡ due = ap length (c.deref-key-items.ensures.value ∙ c.in_ok-keys.ensures.keys) in
    record {
      told = refl;
      stands = completing-none u v c.requires.entries c.requires.in_order;
      undone = undone-none g.B.Bank.marks c.args.g.now;
      bank = refl;
      behind = refl;
      spent = refl;
      cost = λ few. cost-first c.due.new.steps c.args.steps.now (length keys) due (mature_entries unbonding_made now u) c.due.ensures.cost same;
    }

pub pay-requires-clause-backed : goal.pay-requires-clause-backed
pay-requires-clause-backed g c = c.loop-key.invariant.stands.in_order.bank

pub pay-requires-clause-enough : goal.pay-requires-clause-enough
pay-requires-clause-enough g c =
    let holdings = g.B.Bank.holdings in
    can_pay c.args.self.now.lists (seen holdings c.args.g.now) c.requires.account c.loop-key.self.lists (seen holdings c.loop-key.g) c.loop-key.invariant.stands c.key-item.result

pub loop-key-preserved : goal.loop-key-preserved
loop-key-preserved g c =
    let holdings = g.B.Bank.holdings in
    let u = c.args.self.now.lists in
    let v = seen holdings c.args.g.now in
    let u2 = c.loop-key.self.lists in
    let v2 = seen holdings c.loop-key.g in
    let v3 = seen holdings c.pay.new.g in
    let key = c.key-item.result in
    let keys = c.deref-key-items.result.now in
    let h = c.loop-key.invariant in
    let lists = ap (λ k. k.lists) c.in_ok-pay.ensures.lists in
    let ground = c.in_ok-pay.ensures.ground in
    let left = next_of keys c.loop-key.key-index key c.loop-key-test.true c.key-item.is in
    let one = completing-one u v c.requires.account u2 v2 h.stands key in
    let now = c.args.g.now.ctx.time in
    let same = ap (λ k. k.time) h.stands.ctx in
    let fall = subst (λ x. mature_entries unbonding_made now x + count_where (is_mature now) (entries_of u2 key.0 key.1) ≡ mature_entries unbonding_made now u2) (sym lists) (mature-one u v c.requires.account u2 v2 h.stands key now same) in
    let n = length_next (drop c.loop-key.key-index keys) (drop (c.loop-key.key-index + 1) keys) key left in
    record {
      told = stepped-next paid_at (drop c.loop-key.key-index keys) (drop (c.loop-key.key-index + 1) keys) key u2 c.pay.new.self.lists v2 v3 left lists ground ∙ h.told;
      stands = subst (λ x. IsCompleting u v x v3) (sym lists) (subst (λ y. IsCompleting u v (u3 u v c.requires.account u2 v2 h.stands key) y) (sym ground) one);
      undone = undone-then g.B.Bank.marks c.args.g.now c.loop-key.g c.pay.new.g h.undone c.pay.ensures.undone;
      bank = c.pay.ensures.bank ∙ h.bank;
      behind = c.pay.ensures.behind ∙ h.behind;
      spent = ap (λ k. k.spent) c.in_ok-pay.ensures.lists ∙ h.spent;
      cost = λ few.
          let few_now = subst (λ t. t ≤ 8) (sym h.bank) few in
          let cost = subst (λ t. c.pay.new.steps ≤ c.loop-key.steps + (6 + 8 * count_where (is_mature t) (entries_of u2 key.0 key.1))) same (c.pay.ensures.cost few_now) in
          cost-next c.loop-key.steps c.pay.new.steps (count_where (is_mature now) (entries_of u2 key.0 key.1)) (length keys) (length (drop c.loop-key.key-index keys)) (length (drop (c.loop-key.key-index + 1) keys)) c.args.steps.now
          (mature_entries unbonding_made now u) (mature_entries unbonding_made now u2) (mature_entries unbonding_made now c.pay.new.self.lists) cost fall n (h.cost few);
    }

pub returns-clause-lists : goal.returns-clause-lists
returns-clause-lists g c =
    let holdings = g.B.Bank.holdings in
    ap (λ p. p.0) (completed-all c.deref-key-items.result.now c.loop-key.key-index c.args.self.now.lists (seen holdings c.args.g.now) c.loop-key.self.lists (seen holdings c.loop-key.g) c.loop-key.invariant.told c.loop-key-test.false (c.deref-key-items.ensures.value ∙ c.in_ok-keys.ensures.keys ∙ due-seen c.args.g.now.ctx.time _ _ c.self.view_is) c.requires.entries)

pub returns-clause-ground : goal.returns-clause-ground
returns-clause-ground g c =
    let holdings = g.B.Bank.holdings in
    ap (λ p. p.1) (completed-all c.deref-key-items.result.now c.loop-key.key-index c.args.self.now.lists (seen holdings c.args.g.now) c.loop-key.self.lists (seen holdings c.loop-key.g) c.loop-key.invariant.told c.loop-key-test.false (c.deref-key-items.ensures.value ∙ c.in_ok-keys.ensures.keys ∙ due-seen c.args.g.now.ctx.time _ _ c.self.view_is) c.requires.entries)

pub returns-clause-entries : goal.returns-clause-entries
returns-clause-entries g c = c.loop-key.invariant.stands.entries

pub returns-clause-in_order : goal.returns-clause-in_order
returns-clause-in_order g c = c.loop-key.invariant.stands.in_order

pub returns-clause-accounts : goal.returns-clause-accounts
returns-clause-accounts g c = c.loop-key.invariant.stands.accounts

pub returns-clause-cost : goal.returns-clause-cost
returns-clause-cost g c = λ few.
    let u = c.args.self.now.lists in
    let now = c.args.g.now.ctx.time in
    let keys = c.deref-key-items.result.now in
    let few_keys = subst (λ n. n ≤ mature_entries unbonding_made now u) (sym (ap length (c.deref-key-items.ensures.value ∙ c.in_ok-keys.ensures.keys ∙ due-seen c.args.g.now.ctx.time _ _ c.self.view_is))) (due_few unbonding_made now u) in
    cost-all c.loop-key.steps (length keys) (length (drop c.loop-key.key-index keys)) c.args.steps.now (mature_entries unbonding_made now u) (mature_entries unbonding_made now c.loop-key.self.lists) few_keys (c.loop-key.invariant.cost few)

pub returns-in_err-keys-clause-cost : goal.returns-in_err-keys-clause-cost
returns-in_err-keys-clause-cost g c = λ few.
    let now = c.args.g.now.ctx.time in
    let found = c.due.ensures.cost in
    let due = due_few unbonding_made now c.self.inside.entries.lists in
    let same = ap (λ (k : Kept Key UnbondingEntry). mature_entries unbonding_made now k.lists) c.self.view_is in
    omega (arith, found, due, same)

pub returns-in_err-pay-clause-cost : goal.returns-in_err-pay-clause-cost
returns-in_err-pay-clause-cost g c = λ few.
    let holdings = g.B.Bank.holdings in
    let u = c.args.self.now.lists in
    let v = seen holdings c.args.g.now in
    let u2 = c.loop-key.self.lists in
    let v2 = seen holdings c.loop-key.g in
    let key = c.key-item.result in
    let keys = c.deref-key-items.result.now in
    let h = c.loop-key.invariant in
    let now = c.args.g.now.ctx.time in
    let same = ap (λ k. k.time) h.stands.ctx in
    let few_now = subst (λ t. t ≤ 8) (sym h.bank) few in
    let cost = subst (λ t. c.pay.new.steps ≤ c.loop-key.steps + (6 + 8 * count_where (is_mature t) (entries_of u2 key.0 key.1))) same (c.pay.ensures.cost few_now) in
    let fall = mature-one u v c.requires.account u2 v2 h.stands key now same in
    let n = length_next (drop c.loop-key.key-index keys) (drop (c.loop-key.key-index + 1) keys) key (next_of keys c.loop-key.key-index key c.loop-key-test.true c.key-item.is) in
    let few_keys = subst (λ n. n ≤ mature_entries unbonding_made now u) (sym (ap length (c.deref-key-items.ensures.value ∙ c.in_ok-keys.ensures.keys ∙ due-seen c.args.g.now.ctx.time _ _ c.self.view_is))) (due_few unbonding_made now u) in
    cost-stopped c.loop-key.steps c.pay.new.steps (count_where (is_mature now) (entries_of u2 key.0 key.1)) (length keys) (length (drop c.loop-key.key-index keys)) (length (drop (c.loop-key.key-index + 1) keys)) c.args.steps.now (mature_entries unbonding_made now u)
    (mature_entries unbonding_made now u2) _ cost fall n few_keys (h.cost few)
