-- The lines of a report with what they are labelled by, and the lines that a question asks for.
use Rattle.std.specs.Prelude.{ℕ, List, [], ◌∷◌, ◌++◌, map, codes, Bool, ◌&&◌, bytes_eq, filter}
use Rattle.std.specs.List.{flat_map}
use Rattle.serde_json.specs.Data.{Data}
use Rattle.base_types.specs.Accounts.{account_bytes}
use Rattle.base_bech32.specs.declared.form.Form.{Form}
use Rattle.rule_machine.specs.Report.{Report}
use Rattle.line_report.specs.declared.question.Query.{Query}
use Rattle.line_report.specs.declared.question.Query.TheVariants as query
use Rattle.line_report.specs.Lines.{account_line, delegation_line, pending_line, pool_line, redelegation_lines, signing_line, supply_line, unbonding_lines, validator_line}

-- A line, its kind, and the bytes of the address that it belongs to: an account's, an operator's, a delegator's or a
-- consensus address. The supply and the pool belong to none.
pub record Labelled : Type 0 where
  pub kind : List ℕ
  pub address : List ℕ
  pub line : Data

-- a line of a kind for each element
abbrev pub labelled_by : {A : Type 0} → List ℕ → (A → List ℕ) → (A → Data) → List A → List Labelled
labelled_by kind address line xs = map (λ x. record { kind = kind; address = address x; line = line x }) xs

-- lines of a kind for each element
abbrev pub all_labelled_by : {A : Type 0} → List ℕ → (A → List ℕ) → (A → List Data) → List A → List Labelled
all_labelled_by kind address lines xs = flat_map (λ x. map (λ line. record { kind = kind; address = address x; line = line }) (lines x)) xs

-- the lines of a report, in its order
abbrev pub labelled_lines : Form → Report → List Labelled
labelled_lines f r =
    record { kind = codes "supply"; address = []; line = supply_line r.supply }
    ∷ (labelled_by (codes "account") (λ a. account_bytes a.0) (account_line f) r.accounts
    ++ (labelled_by (codes "validator") (λ v. v.0.operator) (validator_line f) r.validators
    ++ (labelled_by (codes "delegation") (λ d. d.0.0) (delegation_line f) r.delegations
    ++ (labelled_by (codes "pending") (λ p. p.delegator) (pending_line f) r.pending
    ++ (all_labelled_by (codes "unbonding") (λ u. u.0.0) (unbonding_lines f) r.unbondings
    ++ (all_labelled_by (codes "redelegation") (λ u. u.0.0) (redelegation_lines f) r.redelegations
    ++ (labelled_by (codes "signing") (λ s. s.0) (signing_line f) r.signing
    ++ record { kind = codes "pool"; address = []; line = pool_line r.pool } ∷ [])))))))

-- the line is of this kind
abbrev pub is_of_kind : List ℕ → Labelled → Bool
is_of_kind kind l = bytes_eq kind l.kind

-- and belongs to this address
abbrev pub belongs_to : List ℕ → List ℕ → Labelled → Bool
belongs_to kind address l = is_of_kind kind l && bytes_eq address l.address

-- whether a line answers a question
abbrev pub answers : Query → Labelled → Bool
answers query.Supply l = is_of_kind (codes "supply") l
answers query.Pool l = is_of_kind (codes "pool") l
answers query.Validators l = is_of_kind (codes "validator") l
answers (query.Account a) l = belongs_to (codes "account") (account_bytes a) l
answers (query.Validator a) l = belongs_to (codes "validator") (account_bytes a) l
answers (query.Delegations a) l = belongs_to (codes "delegation") (account_bytes a) l
answers (query.Rewards a) l = belongs_to (codes "pending") (account_bytes a) l
answers (query.Unbondings a) l = belongs_to (codes "unbonding") (account_bytes a) l
answers (query.Redelegations a) l = belongs_to (codes "redelegation") (account_bytes a) l
answers (query.Signing cons) l = belongs_to (codes "signing") cons l

-- the lines of a report that answer a question, in the report's order
abbrev pub answering_lines : Form → Report → Query → List Data
answering_lines f r what = map (λ l. l.line) (filter (answers what) (labelled_lines f r))
