-- The lines of the report: an object for each thing that it tells, whose `kind` says what it is.
use Rattle.std.specs.Prelude.{ℕ, List, [], ◌∷◌, ◌++◌, map, codes, true, Option, Some, None}
use Rattle.std.specs.List.{flat_map}
use Rattle.serde_json.specs.Data.{Data, Members, boolean, object, string}
use Rattle.base_types.specs.declared.account.Account.{Account}
use Rattle.base_bech32.specs.declared.form.Form.{Form}
use Rattle.base_coins.specs.Coins.{Money}
use Rattle.base_roles.specs.declared.entities.Purse.{Purse}
use Rattle.base_roles.specs.declared.entities.RedelegationEntry.{RedelegationEntry}
use Rattle.base_roles.specs.declared.entities.SigningInfo.{SigningInfo}
use Rattle.base_roles.specs.declared.entities.UnbondingEntry.{UnbondingEntry}
use Rattle.base_roles.specs.declared.entities.Validator.{Validator}
use Rattle.base_messages.specs.declared.report.Pending.{Pending}
use Rattle.rule_machine.specs.Report.{Report}
use Rattle.line_json.specs.Facts.{between}
use Rattle.line_json.specs.Line.{line_of, members_of}
use Rattle.line_json.specs.Values.{account_data, coins_data, cons_data, count_data, dec_coins_data, decimal_data, moment_data, operator_data, status_name, user_data, whole_data}

-- the members of an object of a kind
abbrev pub kind_members : List ℕ → List (List ℕ × Data) → Members
kind_members kind ms = members_of ((codes "kind", string kind) ∷ ms)

abbrev pub of_kind : List ℕ → List (List ℕ × Data) → Data
of_kind kind ms = object (kind_members kind ms)

-- how much there is of each denomination
abbrev pub supply_line : Money → Data
supply_line supply = of_kind (codes "supply") ((codes "coins", coins_data supply) ∷ [])

-- what an account holds
abbrev pub account_line : Form → Account × Money → Data
account_line f a = of_kind (codes "account") ((codes "address", account_data f a.0) ∷ (codes "coins", coins_data a.1) ∷ [])

-- a validator's own members
abbrev pub validator_members : Form → Validator → List (List ℕ × Data) → List (List ℕ × Data)
validator_members f v ms =
    (codes "operator", operator_data f v.operator) ∷ (codes "cons", cons_data f v.cons)
    ∷ (codes "status", string (status_name v.status)) ∷ (codes "jailed", boolean v.jailed)
    ∷ (codes "tokens", whole_data v.tokens) ∷ (codes "shares", decimal_data v.shares)
    ∷ (codes "rate", decimal_data v.commission.rate) ∷ ms

-- a validator, with its commission and all that is outstanding to it and its delegators
abbrev pub validator_line : Form → Validator × Purse → Data
validator_line f v =
    of_kind (codes "validator") (validator_members f v.0
    ((codes "commission", dec_coins_data v.1.commission) ∷ (codes "outstanding", dec_coins_data v.1.outstanding) ∷ []))

-- the shares of a delegator at an operator
abbrev pub delegation_line : Form → (List ℕ × List ℕ) × ℕ → Data
delegation_line f d = of_kind (codes "delegation") (between f d.0.0 d.0.1 ((codes "shares", decimal_data d.1) ∷ []))

-- the coins of a pending reward, or that their computation meets the limit of decimals
abbrev pub reward_members : Option Money → List (List ℕ × Data)
reward_members None = (codes "limit", boolean true) ∷ []
reward_members (Some coins) = (codes "coins", dec_coins_data coins) ∷ []

-- what a withdrawal would be paid from
abbrev pub pending_line : Form → Pending → Data
pending_line f p = of_kind (codes "pending") (between f p.delegator p.operator (reward_members p.coins))

-- when an entry was made and when it is complete, and what came out of the delegation
abbrev pub entry_members : ℕ → ℕ → ℕ → List (List ℕ × Data) → List (List ℕ × Data)
entry_members created completes initial ms =
    (codes "created", count_data created) ∷ (codes "completes", moment_data completes)
    ∷ (codes "initial", whole_data initial) ∷ ms

-- an unbonding entry of a delegator and an operator
abbrev pub unbonding_line : Form → List ℕ × List ℕ → UnbondingEntry → Data
unbonding_line f who e =
    of_kind (codes "unbonding") (between f who.0 who.1 (entry_members e.created e.completes e.initial
    ((codes "balance", whole_data e.balance) ∷ [])))

-- a redelegation entry of a delegator, a source and a target
abbrev pub redelegation_line : Form → List ℕ × List ℕ × List ℕ → RedelegationEntry → Data
redelegation_line f who e =
    of_kind (codes "redelegation") ((codes "delegator", user_data f who.0) ∷ (codes "source", operator_data f who.1)
    ∷ (codes "target", operator_data f who.2) ∷ entry_members e.created e.completes e.initial
    ((codes "shares", decimal_data e.shares_dst) ∷ []))

-- a line for each entry
abbrev pub unbonding_lines : Form → (List ℕ × List ℕ) × List UnbondingEntry → List Data
unbonding_lines f u = map (unbonding_line f u.0) u.1

abbrev pub redelegation_lines : Form → (List ℕ × List ℕ × List ℕ) × List RedelegationEntry → List Data
redelegation_lines f r = map (redelegation_line f r.0) r.1

-- what is known of the votes of a consensus address
abbrev pub signing_line : Form → List ℕ × SigningInfo → Data
signing_line f s =
    of_kind (codes "signing") ((codes "cons", cons_data f s.0) ∷ (codes "start", count_data s.1.start)
    ∷ (codes "counted", count_data s.1.counted) ∷ (codes "missed", count_data s.1.missed)
    ∷ (codes "jailed_until", moment_data s.1.jailed_until) ∷ (codes "tombstoned", boolean s.1.tombstoned) ∷ [])

-- the community pool
abbrev pub pool_line : Money → Data
pool_line pool = of_kind (codes "pool") ((codes "coins", dec_coins_data pool) ∷ [])

-- the lines of a report, in the order of its groups
abbrev pub lines_of : Form → Report → List Data
lines_of f r =
    supply_line r.supply ∷ (map (account_line f) r.accounts ++ (map (validator_line f) r.validators
    ++ (map (delegation_line f) r.delegations ++ (map (pending_line f) r.pending ++ (flat_map (unbonding_lines f) r.unbondings
    ++ (flat_map (redelegation_lines f) r.redelegations ++ (map (signing_line f) r.signing ++ pool_line r.pool ∷ [])))))))

-- what is written of lines
abbrev pub text_of : List Data → List ℕ
text_of lines = flat_map line_of lines
