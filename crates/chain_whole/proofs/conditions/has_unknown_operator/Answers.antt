use Rattle.std.proofs.Common.{◌∙◌}
use Rattle.base_messages.specs.declared.genesis.{GenesisDelegation.GenesisDelegation, GenesisValidator.GenesisValidator}
use Rattle.chain_whole.proofs.ConditionLemmas.{not_among}
use Rattle.chain_whole.proofs.conditions.has_unknown_operator.Goals as goal

pub returns : goal.returns
returns c = not_among (λ (d : GenesisDelegation). d.validator) (λ (v : GenesisValidator). v.operator) c.args.delegations.now c.args.validators.now c.deref.result.now c.deref-2.result.now c.in_ok-are_among.field-0
    (c.deref.ensures.value ∙ c.in_ok-delegated.ensures) (c.deref-2.ensures.value ∙ c.in_ok-operators.ensures) c.in_ok-are_among.ensures
