-- Worked rows of tallies.
use Rattle.std.specs.Prelude.{◌≡◌, ℕ, ◌-◌, ◌*◌, ◌^◌, List, [], ◌∷◌, ◌++◌, None}
use Rattle.base_types.specs.declared.status.BondStatus.{BondStatus}
use Rattle.base_types.specs.declared.status.BondStatus.TheVariants.{Bonded, Unbonding}
use Rattle.base_roles.specs.declared.items.Item.{Item}
use Rattle.base_roles.specs.declared.items.Item.TheVariants as item
use Rattle.base_roles.specs.Items.{no_validator}
use Rattle.rule_modules.specs.Fixtures.{addr}
use Rattle.mod_tally.specs.declared.choice.Choice.TheVariants.{Yes, Abstain, No, Veto}
use Rattle.mod_tally.specs.declared.outcome.Tally.{Tally}
use Rattle.mod_tally.specs.Ballots.{Cast, chosen_in}
use Rattle.mod_tally.specs.Exact.{exact_of, values_of_total}
use Rattle.mod_tally.specs.Taken.{staked_in}
use Rattle.mod_tally.specs.Tally.{tally_of}

-- a whole number of shares or tokens as a raw number
abbrev pub units : ℕ → ℕ
units n = n * 10 ^ 18

-- a validator of so many tokens and shares
abbrev pub validator : ℕ → BondStatus → ℕ → ℕ → Item
validator n status tokens shares = item.Validator (record (no_validator (addr n)) {
  status = status;
  tokens = tokens;
  shares = units shares;
})

-- shares of a delegator at an operator
abbrev pub delegation : ℕ → ℕ → ℕ → Item
delegation operator delegator shares =
    item.Delegation (addr operator) (addr delegator) (units shares)

-- the tally of ballots over these items
abbrev pub counted : List Item → Cast → Tally
counted items ballots = tally_of (staked_in items) (chosen_in ballots)

-- a validator of 1,000,000 shares: its operator has 600,000, its delegators 300,000 and 100,000
abbrev pub three_delegators : ℕ → List Item
three_delegators tokens =
    validator 1 Bonded tokens 1000000
    ∷ delegation 1 1 600000
    ∷ delegation 1 2 300000
    ∷ delegation 1 3 100000
    ∷ []

-- the operator chooses yes, the delegator of 300,000 no
abbrev pub yes_and_no : Cast
yes_and_no = (addr 1, Yes) ∷ (addr 2, No) ∷ []

-- the operator's ballot counts for what the third delegator has, too
abbrev pub OperatorVotesForOthers : Type 0
OperatorVotesForOthers = counted (three_delegators 1000000) yes_and_no
    ≡ record { yes = units 700000; abstain = 0; no = units 300000; veto = 0; bonded = 1000000 }

-- a slash of a twentieth takes as much of each stake
abbrev pub AfterASlash : Type 0
AfterASlash = counted (three_delegators 950000) yes_and_no
    ≡ record { yes = units 665000; abstain = 0; no = units 285000; veto = 0; bonded = 950000 }

-- the operator's later ballot stands in place of its first
abbrev pub LastBallotCounts : Type 0
LastBallotCounts = counted (three_delegators 1000000) (yes_and_no ++ (addr 1, Abstain) ∷ [])
    ≡ record { yes = 0; abstain = units 700000; no = units 300000; veto = 0; bonded = 1000000 }

-- without the operator's ballot nobody votes for the third delegator
abbrev pub DelegatorsAlone : Type 0
DelegatorsAlone = counted (three_delegators 1000000) ((addr 2, Veto) ∷ (addr 9, Yes) ∷ [])
    ≡ record { yes = 0; abstain = 0; no = 0; veto = units 300000; bonded = 1000000 }

-- without ballots the choices have nothing, and the tokens are bonded all the same
abbrev pub NoBallots : Type 0
NoBallots = counted (three_delegators 1000000) []
    ≡ record { yes = 0; abstain = 0; no = 0; veto = 0; bonded = 1000000 }

-- Stake at a validator that is not bonded counts for nothing, and neither does a bonded validator
-- without shares; what a delegator has at two bonded validators counts at both.
abbrev pub OnlyBondedStakeCounts : Type 0
OnlyBondedStakeCounts =
    counted
    (delegation 2 3 40
    ∷ validator 1 Bonded 100 100
    ∷ delegation 1 3 60
    ∷ delegation 1 1 40
    ∷ validator 2 Unbonding 40 40
    ∷ validator 4 Bonded 0 0
    ∷ validator 5 Bonded 30 20
    ∷ delegation 5 3 20
    ∷ [])
    ((addr 3, Yes) ∷ (addr 2, No) ∷ (addr 4, Veto) ∷ [])
    ≡ record { yes = units 90; abstain = 0; no = 0; veto = 0; bonded = 130 }

-- one token of three equal delegations
abbrev pub one_token : List Item
one_token = validator 1 Bonded 1 3 ∷ delegation 1 1 1 ∷ delegation 1 2 1 ∷ delegation 1 3 1 ∷ []

-- Each of three values is a third, rounded: together they are a unit less than the token. Two
-- thirds that the operator votes for are rounded once.
abbrev pub EachValueIsRounded : Type 0
EachValueIsRounded =
    (counted one_token ((addr 3, Yes) ∷ (addr 1, Yes) ∷ (addr 2, Yes) ∷ [])
    ≡ record { yes = units 1 - 1; abstain = 0; no = 0; veto = 0; bonded = 1 })
    × (counted one_token ((addr 1, No) ∷ [])
    ≡ record { yes = 0; abstain = 0; no = units 1; veto = 0; bonded = 1 })
