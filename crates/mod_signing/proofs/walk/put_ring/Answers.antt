use Rattle.std.proofs.Common.{◌≡◌, ◌∙◌, ◌+◌, ◌/◌, ◌%◌, ◌≤◌, length, refl, sym, ap, inl, subst, arith}
use Rattle.base_table.specs.Tabled.{value_at}
use Rattle.mod_signing.specs.Rings.{ring_of, row_cmp}
use Rattle.mod_signing.proofs.LoopLemmas.{IsBegun, begun_all, begun_more, next_whole, still_whole}
use Rattle.mod_signing.proofs.{TableLemmas.ring_other, TouchedLemmas.row-touched}
use Rattle.mod_signing.proofs.walk.put_ring.Goals as goal

pub loop-from-init : goal.loop-from-init
loop-from-init g c = record {
  within = omega arith;
  whole = inl refl;
  begun = λ p l. absurd (omega (arith, l));
  others = λ other places h. refl;
  marks = refl;
  settled = refl;
  touched = λ other number h. refl;
}

pub loop-from-preserved : goal.loop-from-preserved
loop-from-preserved g c =
    let votes = c.as_slice-votes.result.now in
    let from = c.loop-from.from in
    let some = c.min-some.result in
    let put = c.in_ok-put.ensures.ok in
    let cons = c.args.cons.now in
    let row = c.row_from-row.result in
    let whole : from % 128 ≡ 0 = still_whole from (length votes) c.loop-from.invariant.whole c.loop-from-test.true in
    let few : some ≤ 128 = omega (arith, c.min-some.ensures) in
    record {
      within = omega (arith, c.min-some.ensures, c.loop-from.invariant.within);
      whole = next_whole from some (length votes) whole c.loop-from.invariant.within (omega (arith, c.min-some.ensures));
      begun = subst (λ t. IsBegun t.entries cons votes (from + some)) (sym put) (begun_more c.loop-from.rows.entries cons votes from some row whole few c.loop-from.invariant.begun c.row_from-row.ensures);
      others = λ other places h. ap (λ t. ring_of t.entries other places) put ∙ ring_other c.loop-from.rows.entries (from / 128) cons other row h places ∙ c.loop-from.invariant.others other places h;
      marks = ap (λ t. t.marks) put ∙ c.loop-from.invariant.marks;
      settled = ap (λ t. t.settled) put ∙ c.loop-from.invariant.settled;
      touched = λ other number h.
          ap (λ t. value_at row_cmp t.touched (number, other)) put ∙ row-touched c.loop-from.rows.touched c.loop-from.rows.settled cons (from / 128) other number h ∙ c.loop-from.invariant.touched other number h;
    }

pub returns-in_err-put-clause-others : goal.returns-in_err-put-clause-others
returns-in_err-put-clause-others g c = λ other places h. ap (λ t. ring_of t.entries other places) c.in_err-put.ensures.err ∙ c.loop-from.invariant.others other places h

pub returns-in_err-put-clause-marks : goal.returns-in_err-put-clause-marks
returns-in_err-put-clause-marks g c = ap (λ t. t.marks) c.in_err-put.ensures.err ∙ c.loop-from.invariant.marks

pub returns-in_err-put-clause-settled : goal.returns-in_err-put-clause-settled
returns-in_err-put-clause-settled g c = ap (λ t. t.settled) c.in_err-put.ensures.err ∙ c.loop-from.invariant.settled

pub returns-in_err-put-clause-touched : goal.returns-in_err-put-clause-touched
returns-in_err-put-clause-touched g c = λ other number h. ap (λ t. value_at row_cmp t.touched (number, other)) c.in_err-put.ensures.err ∙ c.loop-from.invariant.touched other number h

pub returns-clause-ring : goal.returns-clause-ring
returns-clause-ring g c =
    let votes = c.as_slice-votes.result.now in
    let end : c.loop-from.from ≡ length votes = omega (arith, c.loop-from.invariant.within) in
    subst (λ vs. ring_of c.loop-from.rows.entries c.args.cons.now (length vs) ≡ vs) c.as_slice-votes.ensures
    (begun_all c.loop-from.rows.entries c.args.cons.now votes (subst (IsBegun c.loop-from.rows.entries c.args.cons.now votes) end c.loop-from.invariant.begun))
