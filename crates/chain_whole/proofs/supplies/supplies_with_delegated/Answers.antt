use Rattle.std.proofs.Common.{◌∙◌, List, [], ap, subst}
use Rattle.base_messages.specs.declared.genesis.GenesisAccount.{GenesisAccount}
use Rattle.rule_machine.specs.Genesis.{supplies_with}
use Rattle.chain_whole.{specs.Supplies.IsHigh, proofs.ConditionLemmas.{at_none, at_some}}
use Rattle.chain_whole.proofs.DelegatedLemmas.{high_accounts}
use Rattle.chain_whole.proofs.supplies.supplies_with_delegated.Goals as goal

pub returns-in-None : goal.returns-in-None
returns-in-None c = high_accounts c.args.genesis.now (subst (λ (l : List GenesisAccount). IsHigh (supplies_with l [])) c.as_slice-accounts.ensures (at_none _ _ c.in_ok-supplies_of.field-0 c.in-None.is c.in_ok-supplies_of.ensures))

pub join_delegated-requires-clause-accounts : goal.join_delegated-requires-clause-accounts
join_delegated-requires-clause-accounts c =
    let left = at_some _ _ c.in_ok-supplies_of.field-0 c.in-Some.supplies c.in-Some.is c.in_ok-supplies_of.ensures in
    left.0 ∙ ap (λ (l : List GenesisAccount). supplies_with l []) c.as_slice-accounts.ensures

pub join_delegated-requires-clause-low : goal.join_delegated-requires-clause-low
join_delegated-requires-clause-low c = (at_some _ _ c.in_ok-supplies_of.field-0 c.in-Some.supplies c.in-Some.is c.in_ok-supplies_of.ensures).1
