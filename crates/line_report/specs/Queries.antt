-- The lines that answer a question.
use Rattle.std.specs.Prelude.{ℕ, List, [], ◌∷◌, map, Bool, true, false, if◌then◌else◌, Option, Some, None}
use Rattle.std.specs.List.{flat_map}
use Rattle.serde_json.specs.Data.{Data}
use Rattle.base_types.specs.Accounts.{account_bytes}
use Rattle.base_bech32.specs.declared.form.Form.{Form}
use Rattle.base_roles.specs.declared.items.Item.{Item}
use Rattle.base_messages.specs.declared.report.Pending.{Pending}
use Rattle.line_report.specs.declared.question.Query.{Query}
use Rattle.line_report.specs.declared.question.Query.TheVariants as query
use Rattle.line_report.specs.Groups.{accounts_of, delegations_of, pending_of, pool_of, redelegations_of, signing_of, supply_of, unbondings_of, validators_of}
use Rattle.line_report.specs.Lines.{account_line, delegation_line, pending_line, pool_line, redelegation_lines, signing_line, supply_line, text_of, unbonding_lines, validator_line}

-- the report's lines of the kind that is asked for, of all or of an address
abbrev pub lines_asked : Form → List Item → List Pending → Query → List Data
lines_asked f items pending query.Supply = supply_line (supply_of items) ∷ []
lines_asked f items pending query.Pool = pool_line (pool_of items) ∷ []
lines_asked f items pending query.Validators = map (validator_line f) (validators_of None items)
lines_asked f items pending (query.Account a) = map (account_line f) (accounts_of (Some (account_bytes a)) items)
lines_asked f items pending (query.Validator a) = map (validator_line f) (validators_of (Some (account_bytes a)) items)
lines_asked f items pending (query.Delegations a) = map (delegation_line f) (delegations_of (Some (account_bytes a)) items)
lines_asked f items pending (query.Rewards a) = map (pending_line f) (pending_of (Some (account_bytes a)) pending)
lines_asked f items pending (query.Unbondings a) = flat_map (unbonding_lines f) (unbondings_of (Some (account_bytes a)) items)
lines_asked f items pending (query.Redelegations a) = flat_map (redelegation_lines f) (redelegations_of (Some (account_bytes a)) items)
lines_asked f items pending (query.Signing cons) = map (signing_line f) (signing_of (Some cons) items)

-- a question about an address
abbrev pub names_address : Query → Bool
names_address query.Supply = false
names_address query.Pool = false
names_address query.Validators = false
names_address _ = true

-- the text of lines; None where there is none
abbrev pub text_if_any : List Data → Option (List ℕ)
text_if_any [] = None
text_if_any (line ∷ lines) = Some (text_of (line ∷ lines))

-- the answer: None exactly where no line belongs to the address
abbrev pub answer_of : Form → List Item → List Pending → Query → Option (List ℕ)
answer_of f items pending what =
    if names_address what then text_if_any (lines_asked f items pending what)
    else Some (text_of (lines_asked f items pending what))
