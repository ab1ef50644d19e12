-- The validators and delegations of the tests, as items.
use Rattle.std.specs.Prelude.{ℕ, ◌*◌, ◌^◌, List, [], ◌∷◌, replicate}
use Rattle.base_types.specs.declared.status.BondStatus.{BondStatus}
use Rattle.base_types.specs.declared.status.BondStatus.TheVariants.{Bonded, Unbonding}
use Rattle.base_roles.specs.declared.items.Item.{Item}
use Rattle.base_roles.specs.declared.items.Item.TheVariants as item
use Rattle.base_roles.specs.Items.{no_validator}

-- a validator of so many tokens, and of shares in hundredths
abbrev pub validator : ℕ → BondStatus → ℕ → ℕ → Item
validator byte status tokens hundredths =
    item.Validator (record (no_validator (replicate 20 byte)) {
      status = status;
      tokens = tokens;
      shares = hundredths * 10 ^ 16;
    })

-- shares of a delegator at an operator, in hundredths
abbrev pub delegation : ℕ → ℕ → ℕ → Item
delegation operator delegator hundredths =
    item.Delegation (replicate 20 operator) (replicate 20 delegator) (hundredths * 10 ^ 16)

-- A bonded validator with three delegators, one that is not bonded, and a bonded one that was
-- slashed, with four, of whom one is a delegator of the first as well.
abbrev pub staked : List Item
staked =
    validator 33 Bonded 1000000 100000000
    ∷ validator 34 Unbonding 40 4000
    ∷ validator 133 Bonded 22 2288
    ∷ delegation 33 33 60000000
    ∷ delegation 33 45 30000000
    ∷ delegation 33 51 10000000
    ∷ delegation 34 51 4000
    ∷ delegation 133 45 100
    ∷ delegation 133 133 1664
    ∷ delegation 133 149 440
    ∷ delegation 133 169 84
    ∷ []
