-- That the rows of a store decide all later answers: states that have the same rows answer alike.
use Rattle.std.specs.Prelude.{◌≡◌, ℕ, ◌+◌, ◌^◌, ◌<◌, List, length}
use Rattle.base_messages.specs.declared.block.Block.{Block}
use Rattle.rule_modules.specs.Chain.{State}
use Rattle.rule_machine.specs.Items.{items_of}
use Rattle.rule_machine.specs.Machine.{Run, run_of}
use Rattle.rule_machine.specs.Promises.{AreInput}
use Rattle.rule_machine.specs.Report.{report_of}
use Rattle.store_resuming.specs.Restored.{HaveSameRows, IsStorable}

-- Two runs that nobody tells apart: their blocks report the same, they end at the same fault, or at none, and the states
-- in which they end have the same items, and so the same rows in each format, and the same report.
pub record AreOneRun (a b : Run) : Type 0 where
  pub reports : a.reports ≡ b.reports
  pub fault : a.fault ≡ b.fault
  pub items : items_of a.state ≡ items_of b.state
  pub report : report_of a.state ≡ report_of b.state

-- So it is with blocks from two states that a keeper can hold and whose rows are the same, as long as there are heights:
-- what rows do not tell of a state, as votes behind the window, ratios to which nothing refers and the log, no answer
-- depends on.
abbrev pub RowsDecideAnswers : Type 0
RowsDecideAnswers =
    (blocks : List Block) (p q : State) → IsStorable p → IsStorable q → HaveSameRows p q → AreInput blocks
    → p.view.ctx.height + length blocks < 2 ^ 63 → AreOneRun (run_of blocks p) (run_of blocks q)
