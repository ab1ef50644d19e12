-- What the lines of the generated input are read as: its genesis, and its blocks.
use Rattle.std.specs.Prelude.{◌≡◌, ℕ, ◌≤◌, List, [], ◌∷◌, Ok}
use Rattle.base_bech32.specs.declared.form.Form.{Form}
use Rattle.base_messages.specs.declared.block.Block.{Block}
use Rattle.base_messages.specs.declared.genesis.Genesis.{Genesis}
use Rattle.line_json.specs.Block.{block_of}
use Rattle.line_json.specs.Genesis.{genesis_of}
use Rattle.line_json.specs.Lines.{lines_of}
use Rattle.run_generated.specs.Input.{blocks_of, first_genesis}
use Rattle.run_generated.specs.Writing.{generated_text}

-- the lines spell these blocks, one each
abbrev pub SpellInTurn : Form → List (List ℕ) → List Block → Type 0
SpellInTurn f [] [] = Unit {0}
SpellInTurn f [] (b ∷ blocks) = ⊥
SpellInTurn f (line ∷ lines) [] = ⊥
SpellInTurn f (line ∷ lines) (b ∷ blocks) = (block_of f line ≡ Ok b) × SpellInTurn f lines blocks

-- A text is read as a genesis and blocks: cut into lines, the first spells the genesis, and the others the blocks.
pub record IsReadAs (f : Form) (text : List ℕ) (genesis : Genesis) (blocks : List Block) : Type 0 where
  pub first : List ℕ
  pub others : List (List ℕ)
  pub lines : lines_of text ≡ first ∷ others
  pub genesis_is : genesis_of f first ≡ Ok genesis
  pub blocks_are : SpellInTurn f others blocks

-- The generated input is read as what was generated.
abbrev pub GeneratedIsRead : Type 0
GeneratedIsRead =
    (f : Form) (seed many : ℕ) → many ≤ 100000 → IsReadAs f (generated_text f seed many) first_genesis (blocks_of seed many)
