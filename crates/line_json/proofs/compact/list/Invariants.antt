use Rattle.std.proofs.Common.{length}
use Rattle.line_json.proofs.CompactLemmas.{IsReadUpTo}
use Rattle.line_json.proofs.compact.list.Given as goal

-- with whatever elements stand from here on, the list is of those read and of these
abbrev pub invariant-elements : goal.invariant-elements
invariant-elements g l = IsReadUpTo (g.T.FromTree.reading l.fn.form) g.T.FromCompact.deep l.fn.text l.values.items l.left

abbrev pub decreases-elements : goal.decreases-elements
decreases-elements g l = length l.left
