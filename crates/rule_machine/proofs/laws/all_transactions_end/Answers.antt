use Rattle.rule_machine.{specs.Messages.effect_of, proofs.EndLemmas.transactions_end_by}
use Rattle.rule_machine.proofs.laws.all_transactions_end.Goals as goal

pub returns : goal.returns
returns c = transactions_end_by effect_of
