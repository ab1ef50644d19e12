-- What tests decide of the plain state of records, and what records that were gathered meet. Each
-- test is true exactly where its part of soundness holds.
use Rattle.std.specs.Prelude.{◌≡◌, ℕ, ◌^◌, ◌<◌, ◌&&◌, true, List, All, IfSome, IsSome}
use Rattle.std.specs.Bool.{Decides}
use Rattle.base_types.specs.Orders.{addr_cmp}
use Rattle.base_roles.specs.declared.items.Item.{Item}
use Rattle.base_roles.specs.Entries.{at}
use Rattle.base_roles.specs.Ground.{IsInOrder}
use Rattle.base_roles.specs.Staked.{lists_of}
use Rattle.rule_modules.specs.Chain.{shared_in, window_in}
use Rattle.rule_modules.specs.Owed.{HoldsWhatIsOwed}
use Rattle.rule_modules.specs.Sound.{denominations_of, AreAtMost, StandsFor, ValidatorIsSound, StakedIsSound, UnbondingsAreSound, RedelegationsAreSound, WindowIsSound, AreRecorded}
use Rattle.law_records.specs.Coins.{AreCoins}
use Rattle.store_soundness.specs.Accounts.{holds_stake, holds_rewards}
use Rattle.store_soundness.specs.Entries.{are_unbondings_sound, are_redelegations_sound}
use Rattle.store_records.specs.Gathering.{records_in}
use Rattle.store_records.specs.Plain.{SharedSeen, PlainSeen, AreAscending}
use Rattle.store_soundness.specs.Ranges.{is_context_sound, are_backed, are_validators_sound, are_few}
use Rattle.store_soundness.specs.Shares.{are_shares_delegated, are_cons_distinct}
use Rattle.store_soundness.specs.Signing.{are_recorded, are_signings_sound}
use Rattle.store_soundness.specs.Standing.{have_keys}
use Rattle.store_records.specs.States.{state_of}

-- the keys of gathered records ascend, and validators stand under their operators
abbrev pub RecordsAscend : Type 0
RecordsAscend = (items : List Item) → IfSome (records_in items) (λ r. AreAscending r.lists)

-- the ground is in order: parameters, time and height in their ranges, and each supply the sum of
-- its balances
abbrev pub GroundIsDecided : Type 0
GroundIsDecided = (r : PlainSeen) → AreAscending r.lists
    → Decides (is_context_sound r.ctx && are_backed r.lists.bank.balances r.lists.bank.supplies)
    (IsInOrder (state_of r).view)

-- each record of an ended period is of an operator of whom a period runs
abbrev pub HistoriesBelong : SharedSeen → Type 0
HistoriesBelong s = All (λ h. IsSome (at addr_cmp s.currents h.0.0)) s.histories

-- at most 1,000,000 denominations are named
abbrev pub FewIsDecided : Type 0
FewIsDecided = (r : PlainSeen) → HistoriesBelong r.lists.shared
    → Decides (are_few r) (AreAtMost 1_000_000 (denominations_of (state_of r)))

-- each validator by itself is sound
abbrev pub ValidatorsAreDecided : Type 0
ValidatorsAreDecided = (r : PlainSeen)
    → Decides (are_validators_sound r.ctx.height r.lists.staked.validators)
    (All (λ e. ValidatorIsSound r.ctx.height e.1) (state_of r).mine.staked.validators)

-- validators and delegations are sound together; shares are decimals, which are below 10^38
abbrev pub StakedIsDecided : Type 0
StakedIsDecided = (r : PlainSeen) → AreAscending r.lists
    → All (λ e. e.1.shares < 10 ^ 38) r.lists.staked.validators
    → Decides
    (are_validators_sound r.ctx.height r.lists.staked.validators
    && are_shares_delegated r.lists.staked.validators r.lists.staked.delegations
    && are_cons_distinct r.lists.staked.validators)
    (StakedIsSound r.ctx.height (state_of r).mine.staked)

-- over supplies that are sums of balances, the accounts hold what they owe
abbrev pub AccountsAreDecided : Type 0
AccountsAreDecided = (r : PlainSeen) → AreAscending r.lists → AreCoins r
    → are_backed r.lists.bank.balances r.lists.bank.supplies ≡ true
    → Decides (holds_stake r && holds_rewards r) (HoldsWhatIsOwed (state_of r))

-- distribution stands for validators and delegations
abbrev pub StandingIsDecided : Type 0
StandingIsDecided =
    (r : PlainSeen)
    → Decides (have_keys r.lists)
    (StandsFor (shared_in (state_of r)) (lists_of (state_of r).mine.staked))

-- entries are sound
abbrev pub EntriesAreDecided : Type 0
EntriesAreDecided = (r : PlainSeen) → AreAscending r.lists
    → Decides
    (are_unbondings_sound r.ctx.height r.lists.unbondings
    && are_redelegations_sound r.ctx.height r.lists.redelegations)
    (UnbondingsAreSound r.ctx.height (state_of r).mine.unbondings
    × RedelegationsAreSound r.ctx.height (state_of r).mine.redelegations)

-- each validator that is bonded or unbonding has a signing record
abbrev pub RecordingIsDecided : Type 0
RecordingIsDecided = (r : PlainSeen)
    → Decides (are_recorded r.lists.staked.validators r.lists.signings)
    (AreRecorded (state_of r).mine.staked (window_in (state_of r)))

-- signing records that pass are sound
abbrev pub SigningIsSoundByTests : Type 0
SigningIsSoundByTests = (r : PlainSeen) → AreAscending r.lists
    → are_signings_sound r.ctx.height r.ctx.params.signed_blocks_window r.lists.signings ≡ true
    → WindowIsSound r.ctx.height (window_in (state_of r))
