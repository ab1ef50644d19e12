use Rattle.std.proofs.Common.{◌≡◌, ◌++◌, drop}
use Rattle.serde_json.specs.Written.{compact_text}
use Rattle.line_json.{specs.Values.{coin_data, coins_data, whole_data}, proofs.PieceLemmas.elements_text}
use Rattle.line_json.proofs.pieces.push_coins.Given as goal

abbrev pub invariant-loop-place : goal.invariant-loop-place
invariant-loop-place l =
    l.out.items ++ elements_text (coin_data whole_data) l.later (drop l.place l.coins) ≡ l.fn.out.items ++ compact_text (coins_data l.coins)
