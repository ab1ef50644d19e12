-- That a run that commits at each block says what is said where each line is committed alone.
use Rattle.std.specs.Prelude.{◌≡◌, ◌⊎◌, ℕ, ◌+◌, List, [], ◌∷◌, ◌++◌, length, Ok}
use Rattle.base_bech32.specs.declared.form.Form.{Form}
use Rattle.run_app.specs.declared.status.Status.{Status}
use Rattle.run_app.specs.Counts.{Moved, ReadMoved, is_read_fault}
use Rattle.run_app.specs.Machine.{Standing, line_answer}
use Rattle.run_app.specs.Runs.{AreAnswered, Batched}
use Rattle.run_app.specs.Stops.{LacksOfLast}

-- Behind the first lines, whose texts are `done`, one further line is answered by the text `due`.
pub record AnsweredNext (form : Form) (n : ℕ) (s : Standing) (lines : List (List ℕ)) (done : List ℕ) (middle : Standing) (due : List ℕ) (end : Standing) : Type 0 where
  pub before : List (List ℕ)
  pub line : List ℕ
  pub after : List (List ℕ)
  pub lines_are : lines ≡ before ++ line ∷ after
  pub answered : AreAnswered form n s before done middle
  pub answer_is : line_answer form (n + length before) middle line ≡ Ok (record { text = due; standing = end })

-- Each of these lines has its answer. The texts of all but the last one were written, and that one's but for this lacking part.
pub record LacksOfOne (form : Form) (first : Standing) (lines : List (List ℕ)) (text lacking : List ℕ) : Type 0 where
  pub before : List (List ℕ)
  pub line : List ℕ
  pub middle : Standing
  pub end : Standing
  pub done : List ℕ
  pub front : List ℕ
  pub lines_are : lines ≡ before ++ line ∷ []
  pub answered : AreAnswered form 1 first before done middle
  pub answer_is : line_answer form (1 + length before) middle line ≡ Ok (record { text = front ++ lacking; standing = end })
  pub text_is : text ≡ done ++ front

-- each of these lines has its answer, whose texts were all written
abbrev pub AreWritten : Form → Standing → List (List ℕ) → List ℕ → Type 0
AreWritten form first lines text = (end : Standing) × AreAnswered form 1 first lines text end

-- A batch of at most one line is a line.
abbrev pub BatchesAreLines : Type 0
BatchesAreLines = (form : Form) (n : ℕ) (s : Standing) (lines : List (List ℕ)) (done : List ℕ) (middle : Standing) (due : List ℕ) (end : Standing)
    → (Batched form 1 n s lines done middle due end → AnsweredNext form n s lines done middle due end)
    × (AnsweredNext form n s lines done middle due end → Batched form 1 n s lines done middle due end)

-- Where at most the last line's text lacks a part, all texts were written, or all but a part of the last line's.
abbrev pub OneLineLacks : Type 0
OneLineLacks = (form : Form) (first : Standing) (lines : List (List ℕ)) (text lacking : List ℕ)
    → (LacksOfLast form 1 first lines text lacking → ((lacking ≡ []) × AreWritten form first lines text) ⊎ LacksOfOne form first lines text lacking)
    × (((lacking ≡ []) × AreWritten form first lines text) ⊎ LacksOfOne form first lines text lacking → LacksOfLast form 1 first lines text lacking)

-- The count of the source's faults moves as those of the sink and the keeper do.
abbrev pub ReadsMoveAsOthers : Type 0
ReadsMoveAsOthers = (status : Status) (before now : ℕ)
    → (ReadMoved 1 status before now → Moved (is_read_fault status) before now)
    × (Moved (is_read_fault status) before now → ReadMoved 1 status before now)

-- At N = 1 each record that speaks of N lines speaks of one.
pub record EachLineAlone : Type 0 where
  pub batches : BatchesAreLines
  pub lacks : OneLineLacks
  pub reads : ReadsMoveAsOthers
