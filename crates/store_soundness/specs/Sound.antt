-- The eight tests together: records that pass them are those of a sound state.
use Rattle.std.specs.Prelude.{◌&&◌, Bool, None}
use Rattle.store_soundness.specs.Accounts.{holds_stake, holds_rewards}
use Rattle.store_soundness.specs.Entries.{are_unbondings_sound, are_redelegations_sound}
use Rattle.store_soundness.specs.Events.{are_events_sound}
use Rattle.store_soundness.specs.Histories.{are_counted, do_ratios_grow}
use Rattle.store_records.specs.Plain.{PlainSeen}
use Rattle.store_soundness.specs.Ranges.{is_context_sound, are_backed, are_validators_sound, are_currents_in_range, are_few}
use Rattle.store_soundness.specs.Shares.{are_shares_delegated, are_cons_distinct}
use Rattle.store_soundness.specs.Signing.{are_recorded, are_signings_sound}
use Rattle.store_soundness.specs.Standing.{stands_for_stakes}

-- ranges, supplies and denominations
abbrev pub are_values_sound : PlainSeen → Bool
are_values_sound r =
    is_context_sound r.ctx
    && are_backed r.lists.bank.balances r.lists.bank.supplies
    && are_validators_sound r.ctx.height r.lists.staked.validators
    && are_currents_in_range r.lists.shared.currents
    && are_few r

-- validators and delegations, and what the accounts owe
abbrev pub are_stakes_sound : PlainSeen → Bool
are_stakes_sound r =
    are_shares_delegated r.lists.staked.validators r.lists.staked.delegations
    && are_cons_distinct r.lists.staked.validators
    && holds_stake r
    && holds_rewards r

-- distribution
abbrev pub are_rewards_sound : PlainSeen → Bool
are_rewards_sound r =
    stands_for_stakes r.ctx.height r.lists
    && are_counted r.lists.shared
    && do_ratios_grow None r.lists.shared.histories
    && are_events_sound r.ctx.height r.lists.shared

-- signing records and entries
abbrev pub are_others_sound : PlainSeen → Bool
are_others_sound r =
    are_recorded r.lists.staked.validators r.lists.signings
    && are_signings_sound r.ctx.height r.ctx.params.signed_blocks_window r.lists.signings
    && are_unbondings_sound r.ctx.height r.lists.unbondings
    && are_redelegations_sound r.ctx.height r.lists.redelegations

-- the records are those of a sound state
abbrev pub is_sound : PlainSeen → Bool
is_sound r = are_values_sound r && are_stakes_sound r && are_rewards_sound r && are_others_sound r
