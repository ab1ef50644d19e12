-- Laws of written lines: the facts of a report are read back from its text.
use Rattle.std.specs.Prelude.{◌≡◌, ℕ, ◌+◌, List, ◌++◌, map, All, Some}
use Rattle.std.specs.List.{flat_map}
use Rattle.serde_json.specs.Written.{compact_text}
use Rattle.base_bech32.specs.declared.form.Form.{Form}
use Rattle.base_coins.specs.Coins.{Money}
use Rattle.base_roles.specs.declared.facts.Fact.{Fact}
use Rattle.base_messages.specs.declared.report.BlockReport.{BlockReport}
use Rattle.base_roles.specs.Holdings.{supply_of}
use Rattle.rule_modules.specs.Laws.{burned_in}
use Rattle.rule_machine.specs.Promises.{Replayed, facts_of, run_in}
use Rattle.line_json.specs.Facts.{fact_data}
use Rattle.line_json.specs.Written.{text_of_block, text_of_genesis}
use Rattle.law_lines.specs.Ranges.{IsCount, IsFact, IsReport}
use Rattle.law_lines.specs.Reading.{fact_in, facts_in}

-- The line of a fact, without its end, is read as the fact, at the height of its block.
abbrev pub FactsAreRead : Type 0
FactsAreRead = (f : Form) (height : ℕ) (told : Fact) → IsCount height → IsFact told
    → fact_in f (compact_text (fact_data f height told)) ≡ Some (height, told)

-- the facts of a report, in their order, each at the height of the block
abbrev pub told_of : BlockReport → List (ℕ × Fact)
told_of block = map (λ told. (block.height, told)) (facts_of block)

-- The text of a block tells exactly the facts of its report.
abbrev pub BlocksAreRead : Type 0
BlocksAreRead = (f : Form) (block : BlockReport) → IsReport block → facts_in f (text_of_block f block) ≡ told_of block

-- The texts of blocks, one after another, tell exactly the facts of their reports.
abbrev pub ReportsAreRead : Type 0
ReportsAreRead = (f : Form) (blocks : List BlockReport) → All IsReport blocks
    → facts_in f (flat_map (text_of_block f) blocks) ≡ flat_map told_of blocks

-- The text of a genesis in front of others tells no fact.
abbrev pub GenesesTellNoFact : Type 0
GenesesTellNoFact = (f : Form) (supply : Money) (rest : List ℕ)
    → facts_in f (text_of_genesis supply ++ rest) ≡ facts_in f rest

-- the facts that a text tells, without their heights
abbrev pub facts_told : Form → List ℕ → List Fact
facts_told f text = map (λ t. t.1) (facts_in f text)

-- Of each denomination, what is there after blocks and what their written lines say was burned come to what was there
-- at the genesis.
abbrev pub SuppliesFallByWrittenBurns : Type 0
SuppliesFallByWrittenBurns = (f : Form) (r : Replayed) (d : List ℕ) → All IsReport (run_in r).reports
    → supply_of (run_in r).state.view.bank d + burned_in d (facts_told f (flat_map (text_of_block f) (run_in r).reports))
    ≡ supply_of r.start.state.view.bank d
