use Rattle.line_json.{specs.Members.amount_of, proofs.CompactLemmas.word_spelled}
use Rattle.line_json.proofs.compact.long_amount.Goals as goal

pub returns : goal.returns
returns c = word_spelled amount_of c.in_ok-digits.digits.now c.in_ok-word.word.now c.in_ok-number.number c.in_ok-digits.ensures c.in_ok-word.ensures c.in_ok-number.ensures
