use Rattle.std.proofs.Common.{◌≡◌, false, subst, arith}
use Rattle.mod_signing.proofs.LoopLemmas.{IsWritten, written_more}
use Rattle.mod_signing.proofs.walk.row_from.Goals as goal

pub loop-place-preserved : goal.loop-place-preserved
loop-place-preserved c =
    written_more c.args.votes.now c.args.from c.loop-place.place c.loop-place.row c.with_place-row.result false c.loop-place.invariant c.with_place-row.ensures.here c.with_place-row.ensures.others (omega arith) (omega arith)

pub returns : goal.returns
returns c =
    let end : c.loop-place.place ≡ c.args.some = omega arith in
    subst (λ n. IsWritten c.args.votes.now c.args.from n c.loop-place.row) end c.loop-place.invariant
