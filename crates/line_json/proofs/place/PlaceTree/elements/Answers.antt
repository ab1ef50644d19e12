use Rattle.std.proofs.Common.{◌∙◌, ap}
use Rattle.serde_json.specs.Find.{as_array}
use Rattle.line_json.{specs.Tape.tree_at, proofs.PlaceLemmas.{elements_there, no_elements_there}}
use Rattle.line_json.proofs.place.PlaceTree.elements.Goals as goal

pub invariant_of-result : goal.invariant_of-result
invariant_of-result c = (elements_there c.self.inside.element c.self.invariant c.in-Some.items c.in-Some.ensures).0

pub returns-in-Some : goal.returns-in-Some
returns-in-Some c = (elements_there c.self.inside.element c.self.invariant c.in-Some.items c.in-Some.ensures).1 ∙ ap (λ ts. as_array (tree_at ts)) c.self.view_is

pub returns-in-None : goal.returns-in-None
returns-in-None c = no_elements_there c.self.inside.element c.self.invariant c.in-None.ensures ∙ ap (λ ts. as_array (tree_at ts)) c.self.view_is
