use Rattle.std.proofs.Common.{◌≡◌, ◌+◌, ◌<◌, ◌++◌, length, drop, refl, arith, append_assoc}
use Rattle.line_json.specs.{Line.line_of, Facts.fact_data, Written.text_of_facts}
use Rattle.line_json.proofs.ListLemmas.{drop_next, found_within}
use Rattle.line_json.proofs.lines.push_facts.Goals.{in-Some+in_ok-push_fact, in_default}
use Rattle.line_json.proofs.lines.push_facts.Goals as goal

pub loop-place-preserved : goal.loop-place-preserved
loop-place-preserved c =
    let within : c.loop-place.place < length c.args.facts.now = omega (arith, c.loop-place-test.true, c.len-place-end.ensures) in
    elim c.match-at.branch [
      | in-Some+in_ok-push_fact w ↦
          (let next : text_of_facts c.args.form c.args.height (drop c.loop-place.place c.args.facts.now)
          ≡ line_of (fact_data c.args.form c.args.height w.in-Some.fact.now) ++ text_of_facts c.args.form c.args.height (drop (c.loop-place.place + 1) c.args.facts.now)
          = rw (drop_next c.args.facts.now c.loop-place.place w.in-Some.fact.now w.in-Some.ensures) refl in
          rw (w.out-is, w.in_ok-push_fact.ensures.ok, append_assoc, ← next) c.loop-place.invariant)
      | in_default w ↦ absurd (found_within c.args.facts.now c.loop-place.place within w.in_default.ensures)
    ]
