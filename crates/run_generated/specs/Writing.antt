-- What a call leaves that writes the generated input.
use Rattle.std.specs.Prelude.{◌≡◌, ℕ, ◌+◌, List, ◌++◌, flat_map, Option, Some}
use Rattle.base_bech32.specs.declared.form.Form.{Form}
use Rattle.run_generated.specs.Drawing.{in_turn, numbers_from}
use Rattle.run_generated.specs.Input.{block_drawn}
use Rattle.run_generated.specs.Lines.{block_line, generated_lines}
use Rattle.base_messages.specs.declared.block.Block.{Block}

-- the generated input, of so many blocks: its lines, one behind another
abbrev pub generated_text : Form → ℕ → ℕ → List ℕ
generated_text f seed many = flat_map (λ line. line) (generated_lines f seed many)

-- the lines of blocks, one behind another
abbrev pub blocks_text : Form → List Block → List ℕ
blocks_text f blocks = flat_map (block_line f) blocks

-- those of so many blocks that are drawn behind so many others, from this state on
abbrev pub drawn_text : Form → ℕ → ℕ → ℕ → List ℕ
drawn_text f before many x = blocks_text f (in_turn block_drawn (numbers_from (before + 1) many) x).value

-- what was written grew by all of the text
abbrev pub Grows : Option (List ℕ) → Option (List ℕ) → List ℕ → Type 0
Grows written written' text = (old : List ℕ) → written ≡ Some old → written' ≡ Some (old ++ text)

-- a front of the text, perhaps all of it
pub record IsFront (front text : List ℕ) : Type 0 where
  pub rest : List ℕ
  pub text_is : text ≡ front ++ rest

-- what was written grew by a front of the text
abbrev pub GrowsInPart : Option (List ℕ) → Option (List ℕ) → List ℕ → Type 0
GrowsInPart written written' text =
    (old : List ℕ) → written ≡ Some old → (front : List ℕ) × IsFront front text × (written' ≡ Some (old ++ front))
