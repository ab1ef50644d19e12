use Rattle.std.proofs.Common.{◌≡◌, ◌∙◌, ap, sym, subst, true}
use Rattle.line_json.{specs.{Reading.Gives, Tape.{is_plain, IsTree, tree_at}}, proofs.TapeLemmas.plain_tape}
use Rattle.line_json.proofs.ReadingLemmas.{walked}
use Rattle.line_json.proofs.reading.read_by_tape.Goals as goal

pub of-place-requires : goal.of-place-requires
of-place-requires g c =
    let plain : is_plain 127 c.in-Ok.tape ≡ true = ap (is_plain 127) (sym c.nodes.ensures.tokens) ∙ sym c.is_plain.ensures ∙ c.if-not-is_plain.false in
    let told = plain_tape c.args.text.now c.in-Ok.tape c.in-Ok.ensures.ok.0 c.in-Ok.ensures.ok.1 c.in-Ok.ensures.value plain in
    subst IsTree (sym c.root.ensures.same) (told.0, told.1)

pub returns : goal.returns
returns g c =
    let plain : is_plain 127 c.in-Ok.tape ≡ true = ap (is_plain 127) (sym c.nodes.ensures.tokens) ∙ sym c.is_plain.ensures ∙ c.if-not-is_plain.false in
    let told = plain_tape c.args.text.now c.in-Ok.tape c.in-Ok.ensures.ok.0 c.in-Ok.ensures.ok.1 c.in-Ok.ensures.value plain in
    let place : c.of-place.result ≡ c.in-Ok.tape = c.of-place.ensures ∙ c.root.ensures.same in
    walked (λ value. value) c.from_tree.result (g.T.FromTree.reading c.args.form) c.args.text.now c.in-Ok.tape told.0 c.utf8.text told.1 told.2
    (subst (λ ts. Gives (λ value. value) c.from_tree.result ((g.T.FromTree.reading c.args.form) (tree_at ts))) place c.from_tree.ensures)
