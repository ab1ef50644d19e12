-- Laws of reports and answers, as statements.
use Rattle.std.specs.Prelude.{◌≡◌, List, [], ◌++◌, map, All}
use Rattle.std.specs.List.Sorted.{IsPermutation}
use Rattle.base_bech32.specs.declared.form.Form.{Form}
use Rattle.base_roles.specs.declared.items.Item.{Item}
use Rattle.base_roles.specs.declared.items.Item.TheVariants as item
use Rattle.base_messages.specs.declared.report.Pending.{Pending}
use Rattle.rule_modules.specs.Chain.{State}
use Rattle.rule_modules.specs.Sound.{IsSound}
use Rattle.rule_machine.specs.Items.{IsInKeyOrder, items_of}
use Rattle.rule_machine.specs.Report.{Report, pending_of, report_of}
use Rattle.line_report.specs.declared.question.Query.{Query}
use Rattle.line_report.specs.Groups.{report_from}
use Rattle.line_report.specs.Labels.{answering_lines, labelled_lines}
use Rattle.line_report.specs.Lines.{lines_of}
use Rattle.line_report.specs.Queries.{lines_asked}

-- ---- the report of a state

-- an item that no line is told from
abbrev pub IsUnread : Item → Type 0
IsUnread (item.Head height time) = Unit {0}
IsUnread (item.Parameters params) = Unit {0}
IsUnread (item.Pool []) = Unit {0}
IsUnread (item.Withdraw delegator to) = Unit {0}
IsUnread (item.CurrentPeriod operator period) = Unit {0}
IsUnread (item.Historical operator period history) = Unit {0}
IsUnread (item.Start operator delegator info) = Unit {0}
IsUnread (item.Event operator event) = Unit {0}
IsUnread _ = ⊥

-- The items of a state, in whatever order. Those that no line is told from may be missing.
pub record AreItemsOf (w : State) (items : List Item) : Type 0 where
  pub missing : List Item
  pub unread : All IsUnread missing
  pub rest : IsPermutation (items_of w) (items ++ missing)

pub record StatesAreReported : Type 0 where
  -- The items and the pending rewards of a state, each in whatever order, are reported as the machine reports the state.
  pub whole : (w : State) (items : List Item) (pending : List Pending) → IsInKeyOrder w → AreItemsOf w items
      → IsPermutation (pending_of w) pending → report_from items pending ≡ report_of w
  -- Sound states are in order.
  pub in_order : (w : State) → IsSound w → IsInKeyOrder w

-- ---- answers

pub record AnswersAreLines : Type 0 where
  -- The labelled lines of a report are its lines,
  pub labelled : (f : Form) (r : Report) → map (λ l. l.line) (labelled_lines f r) ≡ lines_of f r
  -- and a question is answered by those of them that answer it, in the report's order.
  pub answered : (f : Form) (items : List Item) (pending : List Pending) (what : Query) → lines_asked f items pending what ≡ answering_lines f (report_from items pending) what
