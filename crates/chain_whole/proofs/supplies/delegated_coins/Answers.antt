use Rattle.std.proofs.Common.{◌^◌, ◌≤◌, List, sym, subst}
use Rattle.base_messages.specs.declared.genesis.GenesisDelegation.{GenesisDelegation}
use Rattle.chain_whole.proofs.DelegatedLemmas.{amounts, delegated_most, total_known}
use Rattle.chain_whole.proofs.supplies.delegated_coins.Goals as goal

pub unwrap-amount-requires : goal.unwrap-amount-requires
unwrap-amount-requires c = total_known _ c.total_delegated.result (amounts c.as_slice.result.now) c.total_delegated.ensures
    (subst (λ (l : List GenesisDelegation). amounts l ≤ 10 ^ 18) (sym c.as_slice.ensures) (delegated_most c.args.genesis.now c.requires.starts))
