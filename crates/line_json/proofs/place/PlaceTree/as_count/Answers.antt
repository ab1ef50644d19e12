use Rattle.std.proofs.Common.{◌∙◌, ap, Some, None}
use Rattle.line_json.{specs.{Members.as_count, Tape.tree_at}, proofs.PlaceLemmas.count_there}
use Rattle.line_json.proofs.place.PlaceTree.as_count.Goals as goal

pub returns-in-Some : goal.returns-in-Some
returns-in-Some c = c.count_of.ensures ∙ count_there c.self.inside.element c.self.invariant (Some c.in-Some.text.now) c.in-Some.ensures ∙ ap (λ ts. as_count (tree_at ts)) c.self.view_is

pub returns-in-None : goal.returns-in-None
returns-in-None c = count_there c.self.inside.element c.self.invariant None c.in-None.ensures ∙ ap (λ ts. as_count (tree_at ts)) c.self.view_is
