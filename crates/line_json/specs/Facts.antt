-- The lines of facts.
use Rattle.std.specs.Prelude.{ℕ, List, [], ◌∷◌, codes}
use Rattle.serde_json.specs.Data.{Data, string}
use Rattle.base_bech32.specs.declared.form.Form.{Form}
use Rattle.base_coins.specs.Coins.{Money}
use Rattle.base_roles.specs.declared.facts.Fact.{Fact}
use Rattle.base_roles.specs.declared.facts.Fact.TheVariants as fact
use Rattle.line_json.specs.Line.{told_at}
use Rattle.line_json.specs.Values.{whole_data, decimal_data, count_data, coins_data, dec_coins_data, user_data, operator_data, account_data, module_data, status_name}

-- the kind by which a fact is told
abbrev pub fact_kind : Fact → List ℕ
fact_kind (fact.Transfer from to coins) = codes "transfer"
fact_kind (fact.Burn from coin) = codes "burn"
fact_kind (fact.Allocated validator share) = codes "allocated"
fact_kind (fact.Pooled coins) = codes "pooled"
fact_kind (fact.Period validator period ratio) = codes "period"
fact_kind (fact.Started delegator validator period stake) = codes "started"
fact_kind (fact.Slashed validator fraction burned) = codes "slashed"
fact_kind (fact.Paid delegator validator to reward coins) = codes "paid"
fact_kind (fact.Commission validator to coins) = codes "commission"
fact_kind (fact.Changed validator status) = codes "status"
fact_kind (fact.Jailed validator) = codes "jailed"
fact_kind (fact.Unjailed validator) = codes "unjailed"
fact_kind (fact.Tombstoned validator) = codes "tombstoned"
fact_kind (fact.Removed validator) = codes "removed"
fact_kind (fact.ParamsChanged authority) = codes "params"

-- members of a fact about a validator
abbrev pub about : Form → List ℕ → List (List ℕ × Data) → List (List ℕ × Data)
about f validator ms = (codes "validator", operator_data f validator) ∷ ms

-- members of a fact about a delegator at a validator
abbrev pub between : Form → List ℕ → List ℕ → List (List ℕ × Data) → List (List ℕ × Data)
between f delegator validator ms = (codes "delegator", user_data f delegator) ∷ about f validator ms

-- members of a payment of coins to an address
abbrev pub paid_to : Form → List ℕ → Money → List (List ℕ × Data) → List (List ℕ × Data)
paid_to f to coins ms = (codes "to", user_data f to) ∷ (codes "coins", coins_data coins) ∷ ms

-- what is told of a fact beside its height and kind
abbrev pub fact_members : Form → Fact → List (List ℕ × Data)
fact_members f (fact.Transfer from to coins) =
    (codes "from", account_data f from) ∷ (codes "to", account_data f to) ∷ (codes "coins", coins_data coins) ∷ []
fact_members f (fact.Burn from coin) =
    (codes "from", module_data from) ∷ (codes "denom", string coin.denom)
    ∷ (codes "amount", whole_data coin.amount) ∷ []
fact_members f (fact.Allocated validator share) = about f validator ((codes "coins", dec_coins_data share) ∷ [])
fact_members f (fact.Pooled coins) = (codes "coins", dec_coins_data coins) ∷ []
fact_members f (fact.Period validator period ratio) =
    about f validator ((codes "period", count_data period) ∷ (codes "ratio", dec_coins_data ratio) ∷ [])
fact_members f (fact.Started delegator validator period stake) =
    between f delegator validator ((codes "period", count_data period) ∷ (codes "stake", decimal_data stake) ∷ [])
fact_members f (fact.Slashed validator fraction burned) =
    about f validator ((codes "fraction", decimal_data fraction) ∷ (codes "burned", whole_data burned) ∷ [])
fact_members f (fact.Paid delegator validator to reward coins) =
    between f delegator validator (paid_to f to coins ((codes "reward", dec_coins_data reward) ∷ []))
fact_members f (fact.Commission validator to coins) = about f validator (paid_to f to coins [])
fact_members f (fact.Changed validator status) = about f validator ((codes "status", string (status_name status)) ∷ [])
fact_members f (fact.Jailed validator) = about f validator []
fact_members f (fact.Unjailed validator) = about f validator []
fact_members f (fact.Tombstoned validator) = about f validator []
fact_members f (fact.Removed validator) = about f validator []
fact_members f (fact.ParamsChanged authority) = (codes "authority", user_data f authority) ∷ []

-- what is told of a fact of a block of this height
abbrev pub fact_data : Form → ℕ → Fact → Data
fact_data f height fact = told_at height (fact_kind fact) (fact_members f fact)
