-- The first point: values are in their ranges, each supply is the sum of its balances, and there
-- are at most 1,000,000 denominations.
use Rattle.std.specs.Prelude.{ℕ, ◌^◌, ◌==◌, ◌&&◌, ◌||◌, nat_lt, nat_le, Bool, List, [], ◌∷◌, map, length, is_some}
use Rattle.std.specs.BTreeMap.{is_at}
use Rattle.std.specs.BTreeSet.{insert_key}
use Rattle.std.specs.List.{list_all}
use Rattle.base_types.specs.Orders.{denom_cmp}
use Rattle.base_coins.specs.Coins.{Money}
use Rattle.base_roles.specs.declared.entities.Historical.{Historical}
use Rattle.base_roles.specs.declared.entities.Purse.{Purse}
use Rattle.base_roles.specs.declared.entities.Validator.{Validator}
use Rattle.base_roles.specs.declared.params.Ctx.{Ctx}
use Rattle.base_roles.specs.Entries.{at, sum_where}
use Rattle.base_roles.specs.Ground.{end_of_blocks}
use Rattle.base_roles.specs.Holdings.{Balances}
use Rattle.rule_modules.specs.Sound.{names_in}
use Rattle.base_roles.specs.Ranges.{is_within}
use Rattle.rule_machine.specs.Genesis.{are_in_range}
use Rattle.store_records.specs.Plain.{PlainSeen}
use Rattle.store_soundness.specs.Tally.{tallied}

-- parameters, time and height are in their ranges
abbrev pub is_context_sound : Ctx → Bool
is_context_sound c =
    are_in_range c.params && (nat_lt c.time end_of_blocks && nat_lt c.height (2 ^ 63))

-- the balances of a denomination together
abbrev pub balances_of : Balances → List ℕ → ℕ
balances_of balances d = sum_where (λ place. is_at (denom_cmp d) place.1) balances

-- the balances of each denomination together, as they are added one after another
abbrev pub balance_totals : Balances → Money → Money
balance_totals balances totals = tallied denom_cmp (λ e. e.0.1) (λ e. e.1) balances totals

-- a supply is from 1 to 10^18, and so much is held
abbrev pub is_supply_sound : ℕ → ℕ → Bool
is_supply_sound supply held = is_within 1 (10 ^ 18) supply && (held == supply)

-- each supply is so, where these are the totals that are held
abbrev pub are_supplies_sound : (List ℕ → ℕ) → Money → Bool
are_supplies_sound held supplies = list_all (λ c. is_supply_sound c.1 (held c.0)) supplies

-- a balance is not 0, and of a denomination that has a supply
abbrev pub is_balance_sound : Money → List ℕ → ℕ → Bool
is_balance_sound supplies denom amount = nat_lt 0 amount && is_some (at denom_cmp supplies denom)

abbrev pub are_balances_sound : Money → Balances → Bool
are_balances_sound supplies balances = list_all (λ e. is_balance_sound supplies e.0.1 e.1) balances

-- each supply is the sum of its balances
abbrev pub are_backed : Balances → Money → Bool
are_backed balances supplies =
    are_supplies_sound (balances_of balances) supplies && are_balances_sound supplies balances

-- A validator: rates within its highest, no more tokens than there can be, and none without shares;
-- it did not begin to unbond above the last height.
abbrev pub is_validator_sound : ℕ → Validator → Bool
is_validator_sound height v =
    nat_le v.commission.max_rate (10 ^ 18)
    && nat_le v.commission.rate v.commission.max_rate
    && nat_le v.commission.max_change v.commission.max_rate
    && nat_le v.tokens (10 ^ 18)
    && (nat_lt 0 v.shares || (v.tokens == 0))
    && nat_le v.unbonding_height height

abbrev pub are_validators_sound : ℕ → List (List ℕ × Validator) → Bool
are_validators_sound height validators = list_all (λ e. is_validator_sound height e.1) validators

-- each period that runs is from 1 to 10^18
abbrev pub are_currents_in_range : List (List ℕ × ℕ) → Bool
are_currents_in_range currents = list_all (λ e. is_within 1 (10 ^ 18) e.1) currents

-- ---- denominations

-- names with further ones, each once
abbrev pub with_names : List (List ℕ) → List (List ℕ) → List (List ℕ)
with_names some [] = some
with_names some (name ∷ names) = with_names (insert_key denom_cmp some name) names

-- names with those of a purse
abbrev pub with_purse_names : List (List ℕ) → Purse → List (List ℕ)
with_purse_names some p =
    with_names (with_names (with_names some (names_in p.outstanding)) (names_in p.commission))
    (names_in p.current)

-- names with those of purses
abbrev pub with_purses : List (List ℕ) → List (List ℕ × Purse) → List (List ℕ)
with_purses some [] = some
with_purses some (e ∷ purses) = with_purses (with_purse_names some e.1) purses

-- names with those of ratios
abbrev pub with_ratios : List (List ℕ) → List ((List ℕ × ℕ) × Historical) → List (List ℕ)
with_ratios some [] = some
with_ratios some (e ∷ histories) = with_ratios (with_names some (names_in e.1.ratio)) histories

-- all denominations that balances, the pool, purses and ratios name, each once
abbrev pub names_of : PlainSeen → List (List ℕ)
names_of r =
    let held = with_names [] (map (λ e. e.0.1) r.lists.bank.balances) in
    with_ratios (with_purses (with_names held (names_in r.pool)) r.lists.shared.purses)
    r.lists.shared.histories

-- at most 1,000,000 denominations are named
abbrev pub are_few : PlainSeen → Bool
are_few r = nat_le (length (names_of r)) 1_000_000
