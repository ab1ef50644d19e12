-- The words that ask a question: of a kind alone, or of a kind and an address.
use Rattle.std.specs.Prelude.{ℕ, if◌then◌else◌, List, bytes_eq, codes, Option, Some, None, option_and_then, option_map}
use Rattle.base_bech32.specs.declared.form.Form.{Form}
use Rattle.base_types.specs.declared.account.Account.{Account}
use Rattle.line_json.specs.Addresses.{account_in, cons_in, operator_asked}
use Rattle.line_report.specs.declared.question.Query.{Query}
use Rattle.line_report.specs.declared.question.Query.TheVariants as question

-- a question of this kind, of no address
abbrev pub kind_asked : List ℕ → Option Query
kind_asked what =
    if bytes_eq what (codes "supply") then Some question.Supply
    else (if bytes_eq what (codes "pool") then Some question.Pool
    else (if bytes_eq what (codes "validators") then Some question.Validators else None))

-- a question of this kind, of an account
abbrev pub of_account : List ℕ → Account → Option Query
of_account what who =
    if bytes_eq what (codes "account") then Some (question.Account who)
    else (if bytes_eq what (codes "delegations") then Some (question.Delegations who)
    else (if bytes_eq what (codes "rewards") then Some (question.Rewards who)
    else (if bytes_eq what (codes "unbondings") then Some (question.Unbondings who)
    else (if bytes_eq what (codes "redelegations") then Some (question.Redelegations who) else None))))

-- A question of this kind, of the address that the text spells in this form: of signing a consensus address, of a validator
-- its operator, of all others an account. Each of these but the first may be a module.
abbrev pub address_asked : Form → List ℕ → List ℕ → Option Query
address_asked form what text =
    if bytes_eq what (codes "signing")
    then option_map (λ cons. question.Signing cons) (cons_in form text)
    else (if bytes_eq what (codes "validator")
    then option_map (λ who. question.Validator who) (operator_asked form text)
    else option_and_then (λ who. of_account what who) (account_in form text))
