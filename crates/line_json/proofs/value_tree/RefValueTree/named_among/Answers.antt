use Rattle.std.proofs.Common.{rules, ◌≡◌, Some, refl}
use Rattle.serde_json.specs.{View.{view, members_view}, Find.as_object}
use Rattle.line_json.{specs.Members.texts_of, proofs.ReadingLemmas.are_among-keys}
use Rattle.line_json.proofs.value_tree.RefValueTree.named_among.Goals as goal

pub returns-in-Some : goal.returns-in-Some
returns-in-Some c =
    let here : as_object (view c.args.self.now.now) ≡ Some (members_view c.in-Some.map.now.entries) = search rules in
    rw (here, are_among-keys (texts_of c.args.names.now) c.in-Some.map.now.entries, ← c.are_among.ensures) refl
