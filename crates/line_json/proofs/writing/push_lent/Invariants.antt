use Rattle.std.proofs.Common.{◌≡◌, ◌++◌, drop}
use Rattle.line_json.specs.{Told.{coins_seen, data_tokens}, Values.{coin_data, coins_data, whole_data}}
use Rattle.line_json.proofs.WritingLemmas.{values_tokens}
use Rattle.line_json.proofs.writing.push_lent.Given as goal

abbrev pub invariant-loop-denom : goal.invariant-loop-denom
invariant-loop-denom l =
    (l.writer.before ≡ l.fn.writer.before)
    × (l.writer.tokens ++ values_tokens (coin_data whole_data) (coins_seen (drop l.denom-index l.lent)) ≡ l.fn.writer.tokens ++ data_tokens (coins_data (coins_seen l.lent)))
