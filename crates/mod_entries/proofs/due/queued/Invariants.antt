use Rattle.std.proofs.Common.{◌≡◌, ◌+◌, ◌≤◌, ◌++◌, length}
use Rattle.base_records.proofs.WalkLemmas.{left_of}
use Rattle.mod_entries.specs.Queue.{completion_cmp, due_in}
use Rattle.mod_entries.proofs.due.queued.Given as goal

abbrev pub invariant-loop-place : goal.invariant-loop-place
invariant-loop-place g l = record {
  told : l.keys.items ++ due_in l.now (left_of (completion_cmp g.K.Ord.cmp) l.queue.entries l.after) ≡ due_in l.now l.queue.entries;
  cost : l.steps ≤ l.fn.steps + length l.keys.items;
}

abbrev pub decreases-loop-place : goal.decreases-loop-place
decreases-loop-place g l = length (left_of (completion_cmp g.K.Ord.cmp) l.queue.entries l.after)
