use Rattle.std.proofs.Common.{◌≡◌, ◌++◌, drop}
use Rattle.line_json.specs.{Told.data_tokens, Values.{coin_data, dec_coins_data, decimal_data}}
use Rattle.line_json.proofs.WritingLemmas.{values_tokens}
use Rattle.line_json.proofs.writing.push_dec_coins.Given as goal

abbrev pub invariant-loop-place : goal.invariant-loop-place
invariant-loop-place l =
    (l.writer.before ≡ l.fn.writer.before)
    × (l.writer.tokens ++ values_tokens (coin_data decimal_data) (drop l.place l.coins) ≡ l.fn.writer.tokens ++ data_tokens (dec_coins_data l.coins))
