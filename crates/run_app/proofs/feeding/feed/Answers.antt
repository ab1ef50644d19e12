use Rattle.std.proofs.Common.{◌∙◌, ◌+◌, ◌++◌, ◌∷◌, [], refl, arith, append-nil, append_assoc, take, drop}
use Rattle.run_app.{specs.Parts.HasNoEnd, proofs.CountLemmas.{all_keeps, all_writes}}
use Rattle.run_app.proofs.PartLemmas.{piece_extends, piece_number, piece_stops, rest_fed, rest_of, taken_on}
use Rattle.run_app.proofs.feeding.feed.Goals as goal

pub loop-end-init : goal.loop-end-init
loop-end-init g c = record {
  at = ([], refl, λ b taken end from k. (end, rw (append-nil taken) k));
  write_quiet = refl;
  keep_quiet = refl;
  honest = λ h. h;
}

pub end_line-requires-clause-number : goal.end_line-requires-clause-number
end_line-requires-clause-number g c =
    let r = c.requires.fed in
    let a = c.loop-end.invariant.at in
    let f = (a.2 r.0 r.1 r.2 r.3 r.4).1 in
    let most = piece_number r.1 _ a.0 _ _ _ a.1 r.4.stands.number_is f.stands.number_is in
    omega (arith, c.requires.number, most)

pub end_line-requires-clause-fed : goal.end_line-requires-clause-fed
end_line-requires-clause-fed g c =
    let r = c.requires.fed in
    let a = c.loop-end.invariant.at in
    let f = a.2 r.0 r.1 r.2 r.3 r.4 in
    (r.0, r.1 ++ a.0, f.0, r.3, f.1)

pub returns-in-Err-clause-stops : goal.returns-in-Err-clause-stops
returns-in-Err-clause-stops g c = λ b taken end from k.
    let a = c.loop-end.invariant.at in
    let f = a.2 b taken end from k in
    piece_stops c.args.form c.args.every b.first _ _ taken _ a.0 _ (drop (c.in-Some.end + 1) c.loop-end.rest.now) from _ c.in-Err.stop (rest_of _ a.0 _ c.in-Some.end a.1 c.in-Some.ensures.end) (c.in-Err.ensures.stops b (taken ++ a.0) f.0 from f.1)

pub loop-end-preserved : goal.loop-end-preserved
loop-end-preserved g c =
    let a = c.loop-end.invariant.at in
    record {
      at = (
        a.0 ++ (take c.in-Some.end c.loop-end.rest.now ++ 10 ∷ []),
        rw c.after-rest.ensures (taken_on _ a.0 _ c.in-Some.end a.1 c.in-Some.ensures.end),
        λ b taken end from k.
            let f = a.2 b taken end from k in
            let t = c.in_default-end_line.ensures.fed b (taken ++ a.0) f.0 from f.1 in
            (t.0, rw (append_assoc taken a.0 (take c.in-Some.end c.loop-end.rest.now ++ 10 ∷ [])) at t.1),
      );
      write_quiet = c.in_default-end_line.ensures.writes ∙ c.loop-end.invariant.write_quiet;
      keep_quiet = c.in_default-end_line.ensures.keeps ∙ c.loop-end.invariant.keep_quiet;
      honest = λ h. c.loop-end.invariant.honest (c.end_line.ensures.honest h);
    }

pub returns-clause-fed : goal.returns-clause-fed
returns-clause-fed g c = λ b taken end from k.
    let a = c.loop-end.invariant.at in
    let f = a.2 b taken end from k in
    let none : HasNoEnd c.loop-end.rest.now = rw c.in_default.is at c.end_of_line.ensures.none in
    rest_fed c.args.form c.args.every b taken _ a.0 _ f.0 _ _ _ _ _ from _ _ _ _ _ c.extend.result a.1 none f.1 c.extend.ensures.line c.extend.ensures.short

pub returns-clause-stops : goal.returns-clause-stops
returns-clause-stops g c = λ b taken end from k.
    let a = c.loop-end.invariant.at in
    let f = a.2 b taken end from k in
    let none : HasNoEnd c.loop-end.rest.now = rw c.in_default.is at c.end_of_line.ensures.none in
    piece_extends c.args.form c.args.every b taken _ a.0 _ f.0 _ _ _ _ _ from _ _ _ _ c.extend.result a.1 none f.1 c.extend.ensures.err

pub returns-in-Err-clause-writes : goal.returns-in-Err-clause-writes
returns-in-Err-clause-writes g c = rw (← c.loop-end.invariant.write_quiet) c.in-Err.ensures.writes

pub returns-in-Err-clause-keeps : goal.returns-in-Err-clause-keeps
returns-in-Err-clause-keeps g c = rw (← c.loop-end.invariant.keep_quiet) c.in-Err.ensures.keeps

pub returns-clause-writes : goal.returns-clause-writes
returns-clause-writes g c = rw c.loop-end.invariant.write_quiet (all_writes c.extend.result _ _ _ _ c.extend.ensures.err)

pub returns-clause-keeps : goal.returns-clause-keeps
returns-clause-keeps g c = rw c.loop-end.invariant.keep_quiet (all_keeps c.extend.result _ _ _ _ c.extend.ensures.err)

pub extend-requires : goal.extend-requires
extend-requires g c =
    let r = c.requires.fed in
    record { short = (c.loop-end.invariant.at.2 r.0 r.1 r.2 r.3 r.4).1.short }
