use Rattle.std.proofs.Common.{◌≡◌, ◌++◌, drop}
use Rattle.serde_json.specs.Written.{compact_text}
use Rattle.line_json.{specs.Values.{coin_data, dec_coins_data, decimal_data}, proofs.PieceLemmas.elements_text}
use Rattle.line_json.proofs.pieces.push_dec_coins.Given as goal

abbrev pub invariant-loop-place : goal.invariant-loop-place
invariant-loop-place l =
    l.out.items ++ elements_text (coin_data decimal_data) l.later (drop l.place l.coins) ≡ l.fn.out.items ++ compact_text (dec_coins_data l.coins)
