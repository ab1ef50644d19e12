use Rattle.std.proofs.Common.{sym, subst}
use Rattle.line_json.{specs.Tape.AreElements, proofs.PlaceLemmas.{last_element, next_element}}
use Rattle.line_json.proofs.place.PlaceTree.next.Goals.{in-Some, in-None}
use Rattle.line_json.proofs.place.PlaceTree.next.Goals as goal

pub invariant_of-result : goal.invariant_of-result
invariant_of-result c = (next_element c.elements.inside.items c.next.new.self c.in-Some.element c.elements.invariant c.in-Some.ensures.value).0

pub invariant_of-elements : goal.invariant_of-elements
invariant_of-elements c = elim c.match-next.branch [
  | in-Some w ↦ (next_element c.elements.inside.items c.next.new.self w.in-Some.element c.elements.invariant w.in-Some.ensures.value).1
  | in-None w ↦ subst AreElements (sym w.in-None.ensures.stays) c.elements.invariant
]

pub returns : goal.returns
returns c = elim c.match-next.branch [
  | in-Some w ↦ rw (w.result-is, ← c.elements.view_is) (next_element c.elements.inside.items c.next.new.self w.in-Some.element c.elements.invariant w.in-Some.ensures.value).2
  | in-None w ↦ rw (w.result-is, ← c.elements.view_is) (last_element c.elements.inside.items c.next.new.self c.elements.invariant w.in-None.ensures.value)
]
