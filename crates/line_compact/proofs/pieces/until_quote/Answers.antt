use Rattle.std.proofs.Common.{arith, sym}
use Rattle.line_compact.{specs.Pieces.stands_for_itself, proofs.PieceLemmas.{cut_at, one_more_passes}}
use Rattle.line_compact.proofs.pieces.until_quote.Goals as goal

pub loop-at-preserved : goal.loop-at-preserved
loop-at-preserved c = (
  omega (arith, c.loop-at-test.true),
  one_more_passes stands_for_itself c.args.text.now c.loop-at.at c.loop-at-test.true (sym c.if-stands_for_itself.ensures) c.loop-at.invariant.1,
)

pub returns-then-text-at-eq34 : goal.returns-then-text-at-eq34
returns-then-text-at-eq34 c = (
  cut_at c.args.text.now c.loop-at.at 34 (omega (arith, c.if-at-text.true)) c.if-text-at-eq34.true,
  c.loop-at.invariant.1,
)
