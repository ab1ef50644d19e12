use Rattle.std.proofs.Common.{◌∙◌, ap}
use Rattle.serde_json.specs.Find.{get}
use Rattle.line_json.{specs.Tape.tree_at, proofs.PlaceLemmas.{found_there, found_nowhere}}
use Rattle.line_json.proofs.place.PlaceTree.get.Goals as goal

pub invariant_of-result : goal.invariant_of-result
invariant_of-result c = (found_there c.self.inside.element c.self.invariant c.args.name.now c.in-Some.element c.in-Some.ensures).0

pub returns-in-Some : goal.returns-in-Some
returns-in-Some c = (found_there c.self.inside.element c.self.invariant c.args.name.now c.in-Some.element c.in-Some.ensures).1 ∙ ap (λ ts. get c.args.name.now (tree_at ts)) c.self.view_is

pub returns-in-None : goal.returns-in-None
returns-in-None c = found_nowhere c.self.inside.element c.self.invariant c.args.name.now c.in-None.ensures ∙ ap (λ ts. get c.args.name.now (tree_at ts)) c.self.view_is
