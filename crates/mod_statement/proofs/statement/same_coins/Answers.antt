use Rattle.mod_statement.proofs.Amounts.{same_answer}
use Rattle.mod_statement.proofs.statement.same_coins.Goals as goal

pub returns : goal.returns
returns c =
    same_answer c.args.coins.now c.args.other.now _ _ _ c.is_at_most-below.ensures.money c.is_at_most-above.ensures.money
    c.is_at_most-below.ensures.answer c.is_at_most-above.ensures.answer c.all_hold.ensures
