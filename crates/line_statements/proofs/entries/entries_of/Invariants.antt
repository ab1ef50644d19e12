use Rattle.std.proofs.Common.{◌≡◌}
use Rattle.serde_json.specs.Events.{items_len}
use Rattle.line_json.specs.Nested.{each_element, with_front}
use Rattle.line_statements.specs.Entries.{entry_of}
use Rattle.line_statements.proofs.entries.entries_of.Given as goal

abbrev pub invariant-loop-element : goal.invariant-loop-element
invariant-loop-element g l =
    with_front l.entries.items (each_element entry_of (g.N.Tree.left l.elements)) ≡ each_element entry_of (g.N.Tree.left l.initial.elements)

abbrev pub decreases-loop-element : goal.decreases-loop-element
decreases-loop-element g l = items_len (g.N.Tree.left l.elements)
