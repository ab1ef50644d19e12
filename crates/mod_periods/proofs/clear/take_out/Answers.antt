use Rattle.std.proofs.Common.{ap, ◌∙◌, arith, length}
use Rattle.mod_periods.{specs.Kept.others, proofs.ClearLemmas.{removed-shorter, removed-others}}
use Rattle.mod_periods.proofs.clear.take_out.Goals as goal

pub loop-key-smaller : goal.loop-key-smaller
loop-key-smaller g c =
    let found = rw c.in-Some.is at c.in_ok-key.ensures.found in
    let gone = ap (λ t. length t.entries) c.in_ok-remove.ensures.ok in
    let shorter = removed-shorter g.K.Ord.cmp g.met.K.Ord.total c.loop-key.table.entries c.in-Some.key found in
    omega (arith, gone, shorter)

pub loop-key-preserved : goal.loop-key-preserved
loop-key-preserved g c =
    let own = rw c.in-Some.is at c.in_ok-key.ensures.own in
    record {
      left = ap (λ t. others g.K.Keyed.operator_of c.args.operator.now t.entries) c.in_ok-remove.ensures.ok
          ∙ removed-others g.K.Ord.cmp g.met.K.Ord.total g.K.Keyed.operator_of g.K.Keyed.first_of g.met.K.Keyed.grouped c.args.operator.now c.loop-key.table.entries c.in-Some.key own
          ∙ c.loop-key.invariant.left;
      marks = ap (λ t. t.marks) c.in_ok-remove.ensures.ok ∙ c.loop-key.invariant.marks;
      settled = ap (λ t. t.settled) c.in_ok-remove.ensures.ok ∙ c.loop-key.invariant.settled;
    }
