use Rattle.std.proofs.Common.{◌∙◌, ap}
use Rattle.serde_json.specs.Find.{as_bool}
use Rattle.line_json.{specs.Tape.tree_at, proofs.PlaceLemmas.boolean_there}
use Rattle.line_json.proofs.place.PlaceTree.as_bool.Goals as goal

pub returns : goal.returns
returns c = boolean_there c.self.inside.element c.self.invariant _ c.as_bool.ensures ∙ ap (λ ts. as_bool (tree_at ts)) c.self.view_is
