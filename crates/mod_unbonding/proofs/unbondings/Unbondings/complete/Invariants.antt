use Rattle.std.proofs.Common.{◌≡◌, ◌+◌, ◌*◌, ◌≤◌, drop, length}
use Rattle.base_roles.specs.{Ground.{seen, CanBeUndone}, Orders.pair_cmp}
use Rattle.rule_modules.specs.EntrySlashes.{unbonding_made}
use Rattle.mod_entries.specs.{Kept.behind, Walked.{stepped, mature_entries}}
use Rattle.mod_unbonding.{specs.Walked.paid_at, proofs.CompletedLemmas.IsCompleting}
use Rattle.mod_unbonding.proofs.unbondings.Unbondings.complete.Given as goal

abbrev pub invariant-loop-key : goal.invariant-loop-key
invariant-loop-key g l =
    let holdings = g.B.Bank.holdings in
    let rest = drop l.key-index l.key-items in
    let now = l.fn.g.ctx.time in
    record {
      told : stepped pair_cmp paid_at rest l.self.lists (seen holdings l.g) ≡ stepped pair_cmp paid_at l.key-items l.fn.self.lists (seen holdings l.fn.g);
      stands : IsCompleting l.fn.self.lists (seen holdings l.fn.g) l.self.lists (seen holdings l.g);
      undone : CanBeUndone g.B.Bank.marks l.fn.g l.g;
      bank : g.B.Bank.most_steps l.g.bank ≡ g.B.Bank.most_steps l.fn.g.bank;
      behind : behind l.self ≡ behind l.fn.self;
      spent : l.self.spent ≡ l.fn.self.spent;
      cost : g.B.Bank.most_steps l.fn.g.bank ≤ 8 → l.steps + 6 * length rest + 8 * mature_entries unbonding_made now l.self.lists ≤ l.fn.steps + 1 + 7 * length l.key-items + 8 * mature_entries unbonding_made now l.fn.self.lists;
    }
