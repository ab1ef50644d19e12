-- Worked rows of the eight tests: the records of a state after three blocks pass them all, in any
-- order, and with one record changed just one test fails.
use Rattle.std.specs.Prelude.{◌≡◌, ℕ, ◌+◌, ◌-◌, ◌*◌, ◌^◌, ◌==◌, if◌then◌else◌, Bool, true, false, List, [], ◌∷◌, ◌++◌, map, reverse, Option, Some, None, option_map, Result, Ok}
use Rattle.std.specs.BTreeMap.{is_at}
use Rattle.std.specs.List.{filter_map}
use Rattle.base_types.specs.declared.account.Account.{Account}
use Rattle.base_types.specs.declared.account.Account.TheVariants as account
use Rattle.base_types.specs.declared.account.Module.TheVariants as holder
use Rattle.base_types.specs.Orders.{account_cmp}
use Rattle.base_coins.specs.Coins.{Money}
use Rattle.base_roles.specs.declared.entities.SigningInfo.{SigningInfo}
use Rattle.base_roles.specs.declared.entities.UnbondingEntry.{UnbondingEntry}
use Rattle.base_roles.specs.declared.entities.Validator.{Validator}
use Rattle.base_roles.specs.declared.items.Item.{Item}
use Rattle.base_roles.specs.declared.items.Item.TheVariants as item
use Rattle.base_roles.specs.declared.params.Params.{Params}
use Rattle.base_roles.specs.declared.refusal.Refusal.{Refusal}
use Rattle.base_roles.specs.Ground.{end_of_blocks}
use Rattle.base_roles.specs.Flow.{◌>>=◌}
use Rattle.rule_modules.specs.Chain.{State}
use Rattle.rule_modules.specs.Fixtures.{addr, cons, user, uatom, coins, decimals}
use Rattle.rule_machine.specs.Items.{items_of}
use Rattle.rule_histories.specs.LifeRows.{two_powers, first, second, third}
use Rattle.rule_histories.specs.WholeRows.{ran}
use Rattle.store_soundness.specs.Accounts.{holds_stake, holds_rewards}
use Rattle.store_soundness.specs.Entries.{are_unbondings_sound, are_redelegations_sound}
use Rattle.store_soundness.specs.Events.{are_events_sound}
use Rattle.store_records.specs.Gathering.{records_in}
use Rattle.store_soundness.specs.Histories.{are_counted, do_ratios_grow}
use Rattle.store_records.specs.Plain.{PlainSeen, listed}
use Rattle.store_soundness.specs.Ranges.{is_context_sound, are_backed, are_validators_sound, are_currents_in_range, are_few}
use Rattle.store_soundness.specs.Shares.{are_shares_delegated, are_cons_distinct}
use Rattle.store_soundness.specs.Signing.{are_recorded, are_signings_sound}
use Rattle.store_soundness.specs.Sound.{is_sound}
use Rattle.store_soundness.specs.Standing.{stands_for_stakes}
use Rattle.store_records.specs.States.{state_of}

-- the items after three blocks: two validators, the second slashed and unbonding; three
-- delegations, an unbonding entry
abbrev pub of_three : {A : Type 0} → (List Item → A) → Result A Refusal
of_three f = ran two_powers (first ∷ second ∷ third ∷ []) (λ r. f (items_of r.state))

-- the numbers of the tests that fail
abbrev pub failing : ℕ → List Bool → List ℕ
failing n [] = []
failing n (true ∷ bs) = failing (n + 1) bs
failing n (false ∷ bs) = n ∷ failing (n + 1) bs

abbrev pub tests_of : PlainSeen → List Bool
tests_of r =
    is_context_sound r.ctx
    ∷ are_backed r.lists.bank.balances r.lists.bank.supplies
    ∷ are_validators_sound r.ctx.height r.lists.staked.validators
    ∷ are_currents_in_range r.lists.shared.currents
    ∷ are_few r
    ∷ are_shares_delegated r.lists.staked.validators r.lists.staked.delegations
    ∷ are_cons_distinct r.lists.staked.validators
    ∷ holds_stake r
    ∷ holds_rewards r
    ∷ stands_for_stakes r.ctx.height r.lists
    ∷ are_counted r.lists.shared
    ∷ do_ratios_grow None r.lists.shared.histories
    ∷ are_events_sound r.ctx.height r.lists.shared
    ∷ are_recorded r.lists.staked.validators r.lists.signings
    ∷ are_signings_sound r.ctx.height r.ctx.params.signed_blocks_window r.lists.signings
    ∷ are_unbondings_sound r.ctx.height r.lists.unbondings
    ∷ are_redelegations_sound r.ctx.height r.lists.redelegations
    ∷ []

-- the tests, numbered from 1, that fail of items; nothing where they are no records
abbrev pub fail_of : List Item → Option (List ℕ)
fail_of items = option_map (λ r. failing 1 (tests_of r)) (records_in items)

-- those that fail once each item was changed
abbrev pub fails_with : (Item → Item) → Result (Option (List ℕ)) Refusal
fails_with f = of_three (λ items. fail_of (map f items))

-- those that fail with some items left out
abbrev pub fails_without : (Item → Option Item) → Result (Option (List ℕ)) Refusal
fails_without f = of_three (λ items. fail_of (filter_map f items))

-- ---- what passes

-- the records pass, from the first to the last and from the last to the first; and their plain
-- state has these items
abbrev pub RecordsPass : Type 0
RecordsPass =
    (of_three fail_of ≡ Ok (Some []))
    × (of_three (λ items. fail_of (reverse items)) ≡ Ok (Some []))
    × (of_three (λ items. option_map is_sound (records_in items)) ≡ Ok (Some true))
    × (of_three (λ items. option_map (λ r. items_of (state_of r)) (records_in (reverse items)))
    ≡ of_three (λ items. Some items))
    × (of_three (λ items. option_map listed (records_in (reverse items)))
    ≡ of_three (λ items. Some items))

-- an item twice, one item fewer, and a second pool
abbrev pub KeysStandOnce : Type 0
KeysStandOnce =
    (of_three (λ items. records_in (items ++ items)) ≡ Ok None)
    × (of_three (λ items. records_in (item.Pool [] ∷ items)) ≡ Ok None)
    × (records_in (item.Head 0 0 ∷ []) ≡ None)

-- ---- what fails

-- a change of the items of one kind
abbrev pub head_at : ℕ → ℕ → Item → Item
head_at height time (item.Head h t) = item.Head height time
head_at height time i = i

abbrev pub params_by : (Params → Params) → Item → Item
params_by f (item.Parameters p) = item.Parameters (f p)
params_by f i = i

abbrev pub supply_more : ℕ → Item → Item
supply_more n (item.Supply denom amount) = item.Supply denom (amount + n)
supply_more n i = i

-- an account has so much more of each
abbrev pub balance_more : Account → ℕ → Item → Item
balance_more who n (item.Balance holds denom amount) =
    item.Balance holds denom (if is_at (account_cmp who) holds then amount + n else amount)
balance_more who n i = i

abbrev pub validators_by : (Validator → Validator) → Item → Item
validators_by f (item.Validator v) = item.Validator (f v)
validators_by f i = i

abbrev pub shares_more : ℕ → Item → Item
shares_more n (item.Delegation operator delegator shares) =
    item.Delegation operator delegator (shares + n)
shares_more n i = i

abbrev pub unbondings_by : (UnbondingEntry → UnbondingEntry) → Item → Item
unbondings_by f (item.Unbonding delegator operator entries) =
    item.Unbonding delegator operator (map f entries)
unbondings_by f i = i

abbrev pub signings_by : (SigningInfo → SigningInfo) → Item → Item
signings_by f (item.Signing c info ring) = item.Signing c (f info) ring
signings_by f i = i

abbrev pub pool_more : ℕ → Item → Item
pool_more n (item.Pool coins) = item.Pool (map (λ c. (c.0, c.1 + n)) coins)
pool_more n i = i

abbrev pub currents_more : ℕ → Item → Item
currents_more n (item.CurrentPeriod operator period) = item.CurrentPeriod operator (period + n)
currents_more n i = i

abbrev pub counts_more : ℕ → Item → Item
counts_more n (item.Historical operator period h) =
    item.Historical operator period (record h { count = h.count + n })
counts_more n i = i

-- the ratios of a period
abbrev pub ratio_of : ℕ → Money → Item → Item
ratio_of which ratio (item.Historical operator period h) =
    item.Historical operator period (if period == which then record h { ratio = ratio } else h)
ratio_of which ratio i = i

abbrev pub starts_at : ℕ → Item → Item
starts_at height (item.Start operator delegator info) =
    item.Start operator delegator (record info { height = height })
starts_at height i = i

abbrev pub event_of : ℕ → ℕ → Item → Item
event_of height fraction (item.Event operator e) =
    item.Event operator (record e { height = height; fraction = fraction })
event_of height fraction i = i

-- a supply of one coin more, and one coin more of user 9, are each no sum; both together are
abbrev pub ValuesFail : Type 0
ValuesFail =
    (fails_with (head_at 3 end_of_blocks) ≡ Ok (Some (1 ∷ [])))
    × (fails_with (params_by (λ p. record p { max_entries = 101 })) ≡ Ok (Some (1 ∷ [])))
    × (fails_with (supply_more 1) ≡ Ok (Some (2 ∷ [])))
    × (fails_with (balance_more (user 9) 1) ≡ Ok (Some (2 ∷ [])))
    × (of_three (λ items. fail_of (map (λ i. balance_more (user 9) 1 (supply_more 1 i)) items))
    ≡ Ok (Some []))
    × (fails_with
    (validators_by (λ v. record v { commission = record v.commission { max_rate = 10 ^ 18 + 1 } }))
    ≡ Ok (Some (3 ∷ [])))
    × (fails_with (validators_by (λ v. record v { unbonding_height = 4 })) ≡ Ok (Some (3 ∷ [])))

-- one unit of shares more in each delegation; one consensus address of both
abbrev pub StakesFail : Type 0
StakesFail =
    (fails_with (shares_more 1) ≡ Ok (Some (6 ∷ [])))
    × (fails_with (validators_by (λ v. record v { cons = cons 1 })) ≡ Ok (Some (7 ∷ [])))

-- one coin more in each account of modules and in the supply; one unit more in the pool
abbrev pub AccountsFail : Type 0
AccountsFail =
    (of_three
    (λ items. fail_of
    (map (λ i. balance_more (account.Module holder.Bonded) 1 (supply_more 1 i)) items))
    ≡ Ok (Some (8 ∷ [])))
    × (of_three
    (λ items. fail_of
    (map (λ i. balance_more (account.Module holder.NotBonded) 1 (supply_more 1 i)) items))
    ≡ Ok (Some (8 ∷ [])))
    × (of_three
    (λ items. fail_of
    (map (λ i. balance_more (account.Module holder.Distribution) 1 (supply_more 1 i)) items))
    ≡ Ok (Some (9 ∷ [])))
    × (fails_with (pool_more 1) ≡ Ok (Some (9 ∷ [])))

-- without purses nothing is outstanding, either
abbrev pub is_no_purse : Item → Option Item
is_no_purse (item.Purse operator purse) = None
is_no_purse i = Some i

-- a start above the last height; no purses
abbrev pub StandingFails : Type 0
StandingFails =
    (fails_with (starts_at 4) ≡ Ok (Some (10 ∷ [])))
    × (fails_with (starts_at 3) ≡ Ok (Some []))
    × (fails_without is_no_purse ≡ Ok (Some (9 ∷ 10 ∷ [])))

-- one reference more; each period one later, so that the last ended one has no record; a ratio of
-- one unit below the others
abbrev pub HistoriesFail : Type 0
HistoriesFail =
    (fails_with (counts_more 1) ≡ Ok (Some (11 ∷ [])))
    × (fails_with (currents_more 1) ≡ Ok (Some (11 ∷ [])))
    × (fails_with (ratio_of 4 []) ≡ Ok (Some (12 ∷ [])))

-- a slash of more than all; one above the last height
abbrev pub EventsFail : Type 0
EventsFail =
    (fails_with (event_of 3 (10 ^ 18 + 1)) ≡ Ok (Some (13 ∷ [])))
    × (fails_with (event_of 4 0) ≡ Ok (Some (13 ∷ [])))

-- without signing records
abbrev pub is_no_signing : Item → Option Item
is_no_signing (item.Signing c info ring) = None
is_no_signing i = Some i

-- no record of a bonded validator; one more missed, one more counted, more counted than heights
abbrev pub SigningFails : Type 0
SigningFails =
    (fails_without is_no_signing ≡ Ok (Some (14 ∷ [])))
    × (fails_with (signings_by (λ info. record info { missed = info.missed + 1 }))
    ≡ Ok (Some (15 ∷ [])))
    × (fails_with (signings_by (λ info. record info { counted = info.counted + 1 }))
    ≡ Ok (Some (15 ∷ [])))
    × (fails_with (signings_by (λ info. record info { start = 2 ^ 63 })) ≡ Ok (Some (15 ∷ [])))

-- a balance above the initial amount, which the account holds; an entry above the last height;
-- redelegations without entries
abbrev pub EntriesFail : Type 0
EntriesFail =
    (fails_with (unbondings_by (λ e. record e { initial = e.balance - 1 })) ≡ Ok (Some (16 ∷ [])))
    × (fails_with (unbondings_by (λ e. record e { created = 4 })) ≡ Ok (Some (16 ∷ [])))
    × (of_three (λ items. fail_of (item.Redelegation (addr 1) (addr 1) (addr 2) [] ∷ items))
    ≡ Ok (Some (17 ∷ [])))
