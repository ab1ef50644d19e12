use Rattle.rule_machine.proofs.EndLemmas.{plain_messages_name_conditions}
use Rattle.rule_machine.proofs.laws.plain_messages_name_conditions.Goals as goal

pub returns : goal.returns
returns c = plain_messages_name_conditions c.refusals_name_conditions.ensures
