use Rattle.std.proofs.Common.{◌≡◌, ◌+◌, ◌≤◌, ◌++◌, length}
use Rattle.std.specs.Map.{keys_of}
use Rattle.base_records.proofs.WalkLemmas.{left_of}
use Rattle.mod_entries.specs.Sources.{from_operator}
use Rattle.mod_entries.proofs.sources.keys_from.Given as goal

abbrev pub invariant-loop-key : goal.invariant-loop-key
invariant-loop-key g l =
    let own = from_operator g.K.EntryKey.source l.operator l.lists.entries in
    record {
      told : l.keys.items ++ keys_of (left_of g.K.Ord.cmp own l.after) ≡ keys_of own;
      cost : l.steps + length (left_of g.K.Ord.cmp own l.after) ≤ l.fn.steps + length own;
    }

abbrev pub decreases-loop-key : goal.decreases-loop-key
decreases-loop-key g l = length (left_of g.K.Ord.cmp (from_operator g.K.EntryKey.source l.operator l.lists.entries) l.after)
