use Rattle.std.proofs.Common.{◌≡◌, ◌+◌, ◌*◌, ◌^◌, ◌≤◌, length}
use Rattle.base_records.proofs.WalkLemmas.{left_of}
use Rattle.rule_modules.specs.EntrySlashes.{counted}
use Rattle.mod_entries.specs.{Slashed.all_counted, Sources.from_operator}
use Rattle.mod_entries.proofs.entries.Entries.counted.Given as goal

abbrev pub invariant-loop-key : goal.invariant-loop-key
invariant-loop-key g l =
    let own = from_operator g.K.EntryKey.source l.operator l.self.lists in
    let rest = left_of g.K.Ord.cmp own l.after in
    record {
      told : counted (l.sum + all_counted g.K.EntryKey.source g.E.Entry.made l.operator l.infraction l.factor l.now rest) ≡ counted (all_counted g.K.EntryKey.source g.E.Entry.made l.operator l.infraction l.factor l.now own);
      most : l.sum ≤ 10 ^ 18;
      cost : l.steps + 2 * length rest ≤ l.fn.steps + 2 * length own;
    }

abbrev pub decreases-loop-key : goal.decreases-loop-key
decreases-loop-key g l = length (left_of g.K.Ord.cmp (from_operator g.K.EntryKey.source l.operator l.self.lists) l.after)
