use Rattle.std.proofs.Common.{◌≡◌, ◌+◌, ◌*◌, ◌≤◌, drop, length}
use Rattle.mod_entries.specs.Kept.{behind}
use Rattle.mod_redelegation.{specs.Calls.AreSoundLists, proofs.CompletedLemmas.completed_at}
use Rattle.mod_redelegation.proofs.redelegations.Redelegations.complete.Given as goal

abbrev pub invariant-loop-key : goal.invariant-loop-key
invariant-loop-key g l = record {
  told : completed_at l.now (drop l.key-index l.key-items) l.self.lists ≡ completed_at l.now l.key-items l.fn.self.lists;
  entries : AreSoundLists l.self.lists;
  cost : l.steps + 5 * length (drop l.key-index l.key-items) ≤ l.fn.steps + 6 * length l.key-items + 1;
  behind : behind l.self ≡ behind l.fn.self;
  spent : l.self.spent ≡ l.fn.self.spent;
}
