use Rattle.std.proofs.Common.{◌+◌}
use Rattle.base_coins.specs.Coins.{amount_of}
use Rattle.mod_statement.proofs.Amounts.{answers}
use Rattle.mod_statement.proofs.statement.is_covered.Goals as goal

pub returns : goal.returns
returns c =
    answers (λ d. amount_of c.args.one.now d + amount_of c.args.other.now d) c.as_slice.result.now c.args.coins.now c.are_covered.result
    c.as_slice.ensures.value c.as_slice.ensures.money c.are_covered.ensures
