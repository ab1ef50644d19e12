use Rattle.run_app.proofs.{AnswerLemmas.begins, LineLemmas.unless_so}
use Rattle.std.proofs.Common.{refl}
use Rattle.run_app.proofs.line.begin.Goals as goal

pub returns-in-Ok-push_line_of_genesis-clause-ok : goal.returns-in-Ok-push_line_of_genesis-clause-ok
returns-in-Ok-push_line_of_genesis-clause-ok c =
    begins c.args.form _ _ c.in-Ok.genesis _ c.in-Ok-genesis.chain c.in-Ok-supply.supply _ _ c.in-Ok.ensures c.in-Ok-genesis.ensures.starts c.in-Ok-genesis.ensures.chain c.in-Ok-supply.ensures.coins c.in-Ok-push_line_of_genesis.ensures.text

pub returns-in-Err-clause-stays : goal.returns-in-Err-clause-stays
returns-in-Err-clause-stays c = unless_so _ _ refl

pub returns-in-Err-genesis-clause-stays : goal.returns-in-Err-genesis-clause-stays
returns-in-Err-genesis-clause-stays c = unless_so _ _ refl
