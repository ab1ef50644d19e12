use Rattle.serde_json.specs.{Data.string, Written.{comma_if, compact_text}}
use Rattle.line_json.{specs.Values.decimal_data, proofs.{OnWritten.written_on_literals, PieceLemmas.coin_appended}}
use Rattle.line_json.proofs.pieces.push_dec_coin.Goals as goal

pub returns-clause-ok : goal.returns-clause-ok
unfolding written_on_literals
returns-clause-ok c =
    coin_appended c.args.out.now.items (comma_if c.args.later) (compact_text (decimal_data c.args.amount)) (compact_text (string c.args.denom.now))
    c.in_ok-push_comma.ensures.ok c.in_ok-push_piece.ensures.ok c.in_ok-push_decimal.ensures.ok c.in_ok-push_piece-2.ensures.ok c.in_ok-push_denom.ensures.ok c.in_ok-push_piece-3.ensures.ok
