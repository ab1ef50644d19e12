use Rattle.mod_statement.proofs.Amounts.{right_answer}
use Rattle.mod_statement.proofs.statement.Statement.is_right.Goals as goal

pub returns : goal.returns
returns c =
    right_answer c.args.self.now c.args.due.now _ _ _ _ _ _ c.same_coins-same_low.ensures c.same_coins-same_high.ensures c.same_coins-same_slack.ensures
    c.is_at_most-at_most.ensures.answer c.is_covered-at_least.ensures c.all_hold.ensures
