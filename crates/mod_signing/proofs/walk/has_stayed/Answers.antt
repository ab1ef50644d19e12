use Rattle.std.proofs.Common.{◌≡◌, ◌∙◌, ◌<◌, true, false, sym, ap, subst, arith}
use Rattle.std.proofs.lemmas.Grind.{common_steps}
use Rattle.mod_signing.specs.Rings.{is_set}
use Rattle.mod_signing.proofs.LoopLemmas.{StayFrom, stay_all, stay_at_end, stay_differs, stay_more}
use Rattle.mod_signing.proofs.walk.has_stayed.Goals as goal

pub loop-left-init : goal.loop-left-init
loop-left-init g c = record { within = omega arith; stay = stay_at_end c.args.rows.now.settled c.args.rows.now.entries c.args.cons.now c.args.places }

pub loop-left-preserved : goal.loop-left-preserved
loop-left-preserved g c =
    let yes : c.agree.result ≡ true = grind (arith, common_steps, c.if-not-agree.false) in
    let some : 0 < c.loop-left.left = omega arith in
    record {
      within = omega arith;
      stay = stay_more c.loop-left.left some c.args.rows.now.settled c.args.rows.now.entries c.args.cons.now c.args.places c.loop-left.invariant.stay
          (λ q l. ap (λ r. is_set r q) (sym c.settled_row.ensures) ∙ c.agree.ensures.yes yes q l ∙ ap (λ r. is_set r q) c.row_of-row.ensures);
    }

pub returns-then-not-agree-clause-no : goal.returns-then-not-agree-clause-no
returns-then-not-agree-clause-no g c = λ _.
    let no : c.agree.result ≡ false = grind (arith, common_steps, c.if-not-agree.true) in
    let some : 0 < c.loop-left.left = omega arith in
    let d = c.agree.ensures.no no in
    stay_differs c.loop-left.left some c.args.rows.now.settled c.args.rows.now.entries c.args.cons.now c.args.places d.0 c.loop-left.invariant.within d.1.0
    (λ e. d.1.1 (ap (λ r. is_set r d.0) c.settled_row.ensures ∙ e ∙ sym (ap (λ r. is_set r d.0) c.row_of-row.ensures)))

pub returns-clause-yes : goal.returns-clause-yes
returns-clause-yes g c = λ _.
    let none : c.loop-left.left ≡ 0 = omega arith in
    let t = c.args.rows.now in
    stay_all t.settled t.entries c.args.cons.now c.args.places (subst (λ n. StayFrom t.settled t.entries c.args.cons.now n c.args.places) none c.loop-left.invariant.stay)
