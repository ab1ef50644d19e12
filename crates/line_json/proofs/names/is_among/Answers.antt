use Rattle.std.proofs.Common.{◌≡◌, ◌∙◌, sym, bytes_eq, true, [], Bor, List, ℕ}
use Rattle.std.{specs.List.list_any, proofs.lemmas.List.Folds.list_any_at}
use Rattle.line_json.proofs.ReadingLemmas.{list_any-map}
use Rattle.line_json.proofs.names.is_among.Goals as goal

pub returns-then-eq : goal.returns-then-eq
returns-then-eq c =
    let none : Bor (List ℕ) = record { ref_ptr = (0, 0); now = [] } in
    let found : list_any (λ n. bytes_eq n.now c.args.name.now) c.args.names.now ≡ true =
    list_any_at _ c.args.names.now c.loop-known.known-index none c.loop-known-test.true (sym c.eq.ensures ∙ c.if-eq.true) in
    sym (list_any-map _ _ c.args.names.now ∙ found)
