use Rattle.std.proofs.Common.{◌∙◌, ap}
use Rattle.serde_json.specs.Find.{as_str}
use Rattle.line_json.{specs.Tape.tree_at, proofs.PlaceLemmas.string_there}
use Rattle.line_json.proofs.place.PlaceTree.as_str.Goals as goal

pub returns : goal.returns
returns c = string_there c.self.inside.element c.self.invariant _ c.as_str.ensures ∙ ap (λ ts. as_str (tree_at ts)) c.self.view_is
