-- The answer of a state to a question, and what it needs: of the pending rewards only those of the
-- delegator that is asked for.
use Rattle.std.specs.Prelude.{◌≡◌, ℕ, List, ◌++◌, Bool, false, if◌then◌else◌, Option, Some, All}
use Rattle.std.specs.List.Sorted.{IsPermutation}
use Rattle.base_types.specs.Accounts.{account_bytes}
use Rattle.base_bech32.specs.declared.form.Form.{Form}
use Rattle.base_roles.specs.declared.items.Item.{Item}
use Rattle.base_messages.specs.declared.report.Pending.{Pending}
use Rattle.rule_modules.specs.Chain.{State}
use Rattle.rule_machine.specs.Items.{IsInKeyOrder}
use Rattle.rule_machine.specs.Report.{Report, pending_of, report_of}
use Rattle.line_report.specs.declared.question.Query.{Query}
use Rattle.line_report.specs.declared.question.Query.TheVariants as query
use Rattle.line_report.specs.Labels.{answering_lines}
use Rattle.line_report.specs.Laws.{AreItemsOf}
use Rattle.line_report.specs.Lines.{text_of}
use Rattle.line_report.specs.Queries.{answer_of, names_address, text_if_any}
use Rattle.line_report.specs.Telling.{is_asked}

-- what a report answers: its lines that answer the question, None exactly where no line belongs to
-- the address
abbrev pub answered_by : Form → Report → Query → Option (List ℕ)
answered_by f r what =
    if names_address what then text_if_any (answering_lines f r what)
    else Some (text_of (answering_lines f r what))

-- a pending reward is of the delegator that is asked for
abbrev pub is_pending_asked : Query → Pending → Bool
is_pending_asked (query.Rewards who) p = is_asked (Some (account_bytes who)) p.delegator
is_pending_asked _ p = false

-- The pending rewards of a state, in whatever order. Those that are not asked for may be missing.
pub record ArePendingOf (w : State) (what : Query) (pending : List Pending) : Type 0 where
  pub missing : List Pending
  pub unasked : All (λ p. is_pending_asked what p ≡ false) missing
  pub rest : IsPermutation (pending_of w) (pending ++ missing)

-- The items of a state and its pending rewards, each in whatever order, answer as the state's report
-- does.
abbrev pub StatesAreAsked : Type 0
StatesAreAsked =
    (f : Form) (w : State) (items : List Item) (pending : List Pending) (what : Query) → IsInKeyOrder w
    → AreItemsOf w items → ArePendingOf w what pending
    → answer_of f items pending what ≡ answered_by f (report_of w) what
