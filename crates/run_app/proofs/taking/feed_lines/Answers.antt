use Rattle.std.proofs.Common.{◌∙◌, arith, refl, Ok}
use Rattle.run_app.{specs.Parts.HasNoEnd, proofs.ModeLemmas.quiet_at}
use Rattle.run_app.proofs.TakingLemmas.{extend_may, extend_unwritten, piece_end, piece_end_stops, piece_first, piece_line, piece_number, piece_stops}
use Rattle.run_app.proofs.taking.feed_lines.Goals as goal

pub loop-end-init : goal.loop-end-init
loop-end-init g c = record {
  fed = λ x t h. piece_first (g.T.TakesLines.takes c.args.form) x t _ _ _ _ h;
  later = omega arith;
  quiet = refl;
}

pub end_line-requires-clause-number : goal.end_line-requires-clause-number
end_line-requires-clause-number g c =
    let h = c.requires.fed in
    let most = piece_number (g.T.TakesLines.takes c.args.form) h.0 h.1 _ _ _ _ _ _ _ _ h.2 (c.loop-end.invariant.fed h.0 h.1 h.2) in
    omega (arith, c.requires.number, most)

pub end_line-requires-clause-short : goal.end_line-requires-clause-short
end_line-requires-clause-short g c =
    let h = c.requires.fed in
    (c.loop-end.invariant.fed h.0 h.1 h.2).fed.short

pub returns-in-Err-clause-stop : goal.returns-in-Err-clause-stop
returns-in-Err-clause-stop g c = λ x t h.
    let f = c.loop-end.invariant.fed x t h in
    piece_stops (g.T.TakesLines.takes c.args.form) (g.T.TakesLines.stops c.args.form) x t _ _ _ _ _ _ _ c.in-Err.status f c.in-Some.ensures.end (c.in-Err.ensures.stop x _ f.fed)

pub loop-end-preserved : goal.loop-end-preserved
loop-end-preserved g c = record {
  fed = λ x t h.
      let f = c.loop-end.invariant.fed x t h in
      rw c.after-rest.ensures (piece_line (g.T.TakesLines.takes c.args.form) x t _ _ _ _ _ _ _ _ _ f c.in-Some.ensures.end (c.in_default-end_line.ensures.fed x _ f.fed));
  later = omega (arith, c.loop-end.invariant.later, c.end_line.ensures.later);
  quiet = c.in_default-end_line.ensures.quiet ∙ c.loop-end.invariant.quiet;
}

pub extend-requires : goal.extend-requires
extend-requires g c =
    let h = c.requires.fed in
    record { short = (c.loop-end.invariant.fed h.0 h.1 h.2).fed.short }

pub returns-in-Ok-clause-fed : goal.returns-in-Ok-clause-fed
returns-in-Ok-clause-fed g c = λ x t h.
    let none : HasNoEnd c.loop-end.rest.now = rw c.in_default.is at c.end_of_line.ensures.none in
    piece_end (g.T.TakesLines.takes c.args.form) (Ok tt) x t _ _ _ _ _ _ (c.loop-end.invariant.fed x t h) none c.in-Ok.ensures.line c.in-Ok.ensures.short

pub returns-in-Err-extend-clause-stop : goal.returns-in-Err-extend-clause-stop
returns-in-Err-extend-clause-stop g c = λ x t h.
    let none : HasNoEnd c.loop-end.rest.now = rw c.in_default.is at c.end_of_line.ensures.none in
    rw c.status_of.ensures
    (piece_end_stops (g.T.TakesLines.takes c.args.form) (g.T.TakesLines.stops c.args.form) x t _ _ _ _ _ c.in-Err-extend.stop (c.loop-end.invariant.fed x t h) none c.in-Err-extend.ensures.err)

pub returns-in-Err-extend-clause-may : goal.returns-in-Err-extend-clause-may
returns-in-Err-extend-clause-may g c = rw c.status_of.ensures (extend_may c.in-Err-extend.stop _ _ _ c.in-Err-extend.ensures.err)

pub returns-in-Err-extend-clause-cause : goal.returns-in-Err-extend-clause-cause
returns-in-Err-extend-clause-cause g c = λ e. absurd (extend_unwritten c.in-Err-extend.stop _ _ _ c.in-Err-extend.ensures.err (rw c.status_of.ensures at e))

pub returns-in-Err-extend-clause-quiet : goal.returns-in-Err-extend-clause-quiet
returns-in-Err-extend-clause-quiet g c = quiet_at _ _ c.loop-end.invariant.quiet
