-- The count of ballots by stake (Cosmos SDK: `Tally` of `x/gov/keeper`). A delegator's ballot
-- counts for its own stake, and an operator's for the stake of all its delegators who cast none.
use Rattle.std.specs.Prelude.{ℕ, ◌+◌, ◌-◌, ◌&&◌, nat_lt, if◌then◌else◌, Bool, List, is_some}
use Rattle.std.specs.List.{filter, sum_by}
use Rattle.std.specs.Map.{values_of}
use Rattle.base_shares.specs.Shares.{value_even_of}
use Rattle.base_roles.specs.declared.entities.Validator.{Validator}
use Rattle.base_roles.specs.Orders.{same_addr}
use Rattle.base_roles.specs.Staked.{Staked, is_bonded, bonded_tokens}
use Rattle.mod_tally.specs.declared.choice.Choice.{Choice}
use Rattle.mod_tally.specs.declared.choice.Choice.TheVariants.{Yes, Abstain, No, Veto}
use Rattle.mod_tally.specs.declared.outcome.Tally.{Tally}
use Rattle.mod_tally.specs.Ballots.{Chosen, is_for}

-- shares, by operator and delegator
abbrev pub Delegations : Type 0
Delegations = List ((List ℕ × List ℕ) × ℕ)

-- the delegations to an operator
abbrev pub delegations_to : List ℕ → Delegations → Delegations
delegations_to operator ds = filter (λ d. same_addr d.0.0 operator) ds

-- those whose delegator chose this
abbrev pub those_for : Chosen → Choice → Delegations → Delegations
those_for chosen choice ds = filter (λ d. is_for (chosen d.0.1) choice) ds

-- those whose delegator cast a ballot
abbrev pub those_cast : Chosen → Delegations → Delegations
those_cast chosen ds = filter (λ d. is_some (chosen d.0.1)) ds

-- shares together
abbrev pub shares_in : Delegations → ℕ
shares_in ds = sum_by (λ d. d.1) ds

-- what a part of a validator's shares is worth
abbrev pub worth : Validator → ℕ → ℕ
worth v part = value_even_of v.tokens v.shares part

-- a validator's shares less those of all delegators with a ballot
abbrev pub shares_left : Chosen → Delegations → Validator → ℕ
shares_left chosen ds v = v.shares - shares_in (those_cast chosen (delegations_to v.operator ds))

-- what delegators of a validator give to a choice
abbrev pub from_delegators : Chosen → Choice → Delegations → Validator → ℕ
from_delegators chosen choice ds v =
    sum_by (λ d. worth v d.1) (those_for chosen choice (delegations_to v.operator ds))

-- what its operator gives to a choice
abbrev pub from_operator : Chosen → Choice → Delegations → Validator → ℕ
from_operator chosen choice ds v =
    if is_for (chosen v.operator) choice then worth v (shares_left chosen ds v) else 0

-- the stake of a validator that is given to a choice
abbrev pub stake_for : Chosen → Choice → Delegations → Validator → ℕ
stake_for chosen choice ds v =
    from_delegators chosen choice ds v + from_operator chosen choice ds v

-- a bonded validator with shares
abbrev pub counts : Validator → Bool
counts v = is_bonded v.status && nat_lt 0 v.shares

-- the bonded validators with shares
abbrev pub counted_of : Staked → List Validator
counted_of s = filter counts (values_of s.validators)

-- the stake that is given to a choice, in units of 10^-18
abbrev pub total_of : Staked → Chosen → Choice → ℕ
total_of s chosen choice = sum_by (stake_for chosen choice s.delegations) (counted_of s)

-- the tally of what voters chose
abbrev pub tally_of : Staked → Chosen → Tally
tally_of s chosen = record {
  yes = total_of s chosen Yes;
  abstain = total_of s chosen Abstain;
  no = total_of s chosen No;
  veto = total_of s chosen Veto;
  bonded = bonded_tokens s;
}
