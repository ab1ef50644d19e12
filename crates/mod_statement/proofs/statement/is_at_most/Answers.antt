use Rattle.std.proofs.Common.{subst}
use Rattle.base_coins.specs.Coins.{IsMoney, amount_of}
use Rattle.mod_statement.proofs.Amounts.{answers}
use Rattle.mod_statement.proofs.statement.is_at_most.Goals as goal

pub returns-clause-answer : goal.returns-clause-answer
returns-clause-answer c =
    answers (amount_of c.args.most.now) c.as_slice.result.now c.args.coins.now c.are_at_most.result
    c.as_slice.ensures.value c.as_slice.ensures.money c.are_at_most.ensures

pub returns-clause-money : goal.returns-clause-money
returns-clause-money c = subst IsMoney c.as_slice.ensures.value c.as_slice.ensures.money
