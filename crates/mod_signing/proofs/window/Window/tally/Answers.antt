use Rattle.std.proofs.Common.{◌∙◌, ◌/◌, ◌%◌, refl, sym, ap, subst, arith}
use Rattle.mod_signing.{specs.Calls.{IsRow, one_more, ring_at}, proofs.CallLemmas.{counted_is, misses_few, misses_if}}
use Rattle.mod_signing.proofs.window.Window.tally.Goals as goal

pub counted-requires-clause-misses : goal.counted-requires-clause-misses
counted-requires-clause-misses g c = λ e.
    let place = c.args.entry.now.info.counted % c.args.window in
    misses_if c.args.self.now.kept c.args.cons.now c.args.entry.now.info c.args.entry.now.places c.requires.entry c.args.window c.requires.kept place c.row-row.result
    (subst (λ w. IsRow (place / 128) c.row-row.result (ring_at w.kept c.args.cons.now)) c.self.view_is c.row-row.ensures.row) (sym c.is_missed-was_missed.ensures ∙ e)

pub counted-requires-clause-bounded : goal.counted-requires-clause-bounded
counted-requires-clause-bounded g c =
    let few = misses_few c.args.self.now.kept c.args.cons.now c.args.entry.now.info c.args.entry.now.places c.requires.entry c.args.window c.requires.kept in
    omega (arith, few, c.requires.counted)

pub returns-clause-info : goal.returns-clause-info
returns-clause-info g c = λ k e s votes.
    let place = c.args.entry.now.info.counted % c.args.window in
    c.counted.ensures ∙ ap (λ t. one_more t c.args.missed c.args.entry.now.info) c.is_missed-was_missed.ensures
    ∙ counted_is c.args.self.now.kept c.args.cons.now c.args.entry.now.info c.args.entry.now.places c.requires.entry c.args.window c.requires.some c.args.missed place c.row-row.result refl
    (subst (λ w. IsRow (place / 128) c.row-row.result (ring_at w.kept c.args.cons.now)) c.self.view_is c.row-row.ensures.row) k e s votes

pub returns-clause-row : goal.returns-clause-row
returns-clause-row g c =
    let place = c.args.entry.now.info.counted % c.args.window in
    subst (λ w. IsRow (place / 128) c.row-row.result (ring_at w.kept c.args.cons.now)) c.self.view_is c.row-row.ensures.row
