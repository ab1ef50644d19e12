-- The report of a state is that of its items.
use Rattle.std.proofs.Common.{◌≡◌, ◌∙◌, List, map, None, ap}
use Rattle.std.specs.Map.{values_of}
use Rattle.base_roles.specs.declared.items.Item.{Item}
use Rattle.base_messages.specs.declared.report.Pending.{Pending}
use Rattle.rule_modules.specs.{Chain.State, Purses.purse_of, Sound.IsSound}
use Rattle.rule_machine.specs.{Items.IsInKeyOrder, Report.{accounts_in, report_of}}
use Rattle.line_report.specs.Groups.{pending_of, report_from, validators_of, with_purses}
use Rattle.line_report.specs.Laws.{AreItemsOf, StatesAreReported}
use Rattle.line_report.proofs.GroupLemmas.{balance_group, delegation_group, pending_group, pool_group, purse_group, redelegation_group, signing_group, supply_group, unbonding_group, validator_group, with_purses_is}

module _ (w : State) (items : List Item) (ok : IsInKeyOrder w) (are : AreItemsOf w items) where
  validators_are : validators_of None items ≡ map (λ v. (v, purse_of w.hooks.0.purses v.operator)) (values_of w.mine.staked.validators)
  validators_are = (λ i. with_purses (purse_group w items are ok i) (validator_group w items are ok i)) ∙ with_purses_is w w.mine.staked.validators ok.operators

  -- whatever pending rewards come with them
  reported : (pending : List Pending) → report_from items pending ≡ record (report_of w) { pending = pending_of None pending }
  reported pending = λ i. record {
    supply = supply_group w items are ok i;
    accounts = ap accounts_in (balance_group w items are ok) i;
    validators = validators_are i;
    delegations = delegation_group w items are ok i;
    pending = pending_of None pending;
    unbondings = unbonding_group w items are ok i;
    redelegations = redelegation_group w items are ok i;
    signing = signing_group w items are ok i;
    pool = pool_group w items are i;
  }

in_key_order : (w : State) → IsSound w → IsInKeyOrder w
in_key_order w sound = record {
  balances = sound.ground.bank.balances_ascend;
  supplies = sound.ground.bank.supplies_ascend;
  validators = sound.staked.validators_ascend;
  operators = sound.staked.operators;
  delegations = sound.staked.delegations_ascend;
  unbondings = sound.unbondings.ascend;
  redelegations = sound.redelegations.ascend;
  signing = sound.window.ascend;
  purses = sound.purses.ascend;
}

pub states_are_reported : StatesAreReported
states_are_reported = record {
  whole = λ w items pending ok are p. reported w items ok are pending ∙ ap (λ ps. record (report_of w) { pending = ps }) (pending_group w pending p);
  in_order = in_key_order;
}
