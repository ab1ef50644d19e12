use Rattle.std.proofs.Common.{◌≡◌, ◌++◌, drop}
use Rattle.line_json.specs.{Told.data_tokens, Values.{coin_data, coins_data, whole_data}}
use Rattle.line_json.proofs.WritingLemmas.{values_tokens}
use Rattle.line_json.proofs.writing.push_coins.Given as goal

abbrev pub invariant-loop-place : goal.invariant-loop-place
invariant-loop-place l =
    (l.writer.before ≡ l.fn.writer.before)
    × (l.writer.tokens ++ values_tokens (coin_data whole_data) (drop l.place l.coins) ≡ l.fn.writer.tokens ++ data_tokens (coins_data l.coins))
