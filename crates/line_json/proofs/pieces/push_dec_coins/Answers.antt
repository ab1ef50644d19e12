use Rattle.std.proofs.Common.{◌<◌, length, arith}
use Rattle.line_json.{specs.Values.{coin_data, decimal_data}, proofs.ListLemmas.found_within}
use Rattle.line_json.proofs.PieceLemmas.{element_appended}
use Rattle.line_json.proofs.pieces.push_dec_coins.Goals.{in-Some+in_ok-push_dec_coin, in_default}
use Rattle.line_json.proofs.pieces.push_dec_coins.Goals as goal

pub loop-place-preserved : goal.loop-place-preserved
loop-place-preserved c =
    let within : c.loop-place.place < length c.args.coins.now = omega (arith, c.loop-place-test.true, c.len-place-end.ensures.len) in
    elim c.match-at.branch [
      | in-Some+in_ok-push_dec_coin w ↦
          rw (w.out-is, w.later-is) (element_appended (coin_data decimal_data) _ _ _ _ c.args.coins.now c.loop-place.place _ w.in-Some.ensures w.in_ok-push_dec_coin.ensures.ok c.loop-place.invariant)
      | in_default w ↦ absurd (found_within c.args.coins.now c.loop-place.place within w.in_default.ensures)
    ]
