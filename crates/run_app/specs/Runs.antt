-- What a run over lines writes, and how it may stop.
use Rattle.std.specs.Prelude.{◌≡◌, ℕ, ◌+◌, ◌<◌, ◌≤◌, List, [], ◌∷◌, ◌++◌, length, Option, Some, None, Result, Ok, Err}
use Rattle.base_bech32.specs.declared.form.Form.{Form}
use Rattle.base_io.specs.Outside.{IsPart}
use Rattle.run_app.specs.declared.status.LineStop.{LineStop}
use Rattle.run_app.specs.Machine.{Standing, Answer, line_answer, report_of}

-- the whole output, up to the first fault, and that fault
pub record Ran : Type 0 where
  pub text : List ℕ
  pub fault : Option LineStop

abbrev pub before : List ℕ → Ran → Ran
before text ran = record { text = text ++ ran.text; fault = ran.fault }

abbrev pub ran_after : Result Answer LineStop → (Standing → Ran) → Ran
ran_after (Ok answer) next = before answer.text (next answer.standing)
ran_after (Err fault) next = record { text = []; fault = Some fault }

abbrev pub ran_report : Result (List ℕ) LineStop → Ran
ran_report (Ok text) = record { text = text; fault = None }
ran_report (Err fault) = record { text = []; fault = Some fault }

-- what is written for the lines from this number and from where the chain stands, and for the report after them
abbrev pub ran_from : Form → ℕ → Standing → List (List ℕ) → Ran
ran_from form n s [] = ran_report (report_of form s)
ran_from form n s (line ∷ lines) = ran_after (line_answer form n s line) (λ next. ran_from form (n + 1) next lines)

-- each of the lines has an answer; their texts, one after the other, are this text, and this is what they lead to
abbrev pub AreAnswered : Form → ℕ → Standing → List (List ℕ) → List ℕ → Standing → Type 0
AreAnswered form n s [] text end = (text ≡ []) × (end ≡ s)
AreAnswered form n s (line ∷ lines) text end =
    (answer : Answer) × (rest : List ℕ) × (line_answer form n s line ≡ Ok answer) × (text ≡ answer.text ++ rest) × AreAnswered form (n + 1) answer.standing lines rest end

-- ---- what a run leaves

-- In each record below, `Left s t` says what a run leaves in its keeper, where `s` stands for the last lines that were committed,
-- and `t` for those that were to be: it is `s`, unless a commit failed.

-- Behind the first lines, whose texts are `done`, a batch of at least one and at most N further lines is answered; their texts are `due`.
pub record Batched (form : Form) (every n : ℕ) (s : Standing) (lines : List (List ℕ)) (done : List ℕ) (middle : Standing) (due : List ℕ) (end : Standing) : Type 0 where
  pub before : List (List ℕ)
  pub batch : List (List ℕ)
  pub after : List (List ℕ)
  pub lines_are : lines ≡ before ++ (batch ++ after)
  pub some : 0 < length batch
  pub few : length batch ≤ every
  pub answered : AreAnswered form n s before done middle
  pub answered_batch : AreAnswered form (n + length before) middle batch due end

-- the first of the lines that has a fault has this one, and the texts of those before it were written
pub record Named (form : Form) (Left : Standing → Standing → Type 0) (n : ℕ) (s : Standing) (lines : List (List ℕ)) (text : List ℕ) (fault : LineStop) : Type 0 where
  pub before : List (List ℕ)
  pub line : List ℕ
  pub after : List (List ℕ)
  pub middle : Standing
  pub lines_are : lines ≡ before ++ line ∷ after
  pub answered : AreAnswered form n s before text middle
  pub fault_is : line_answer form (n + length before) middle line ≡ Err fault
  pub left : Left middle middle

-- the texts of the lines before a batch were written, and a part of those of the batch, which was committed
pub record Wrote (form : Form) (every : ℕ) (Left : Standing → Standing → Type 0) (n : ℕ) (s : Standing) (lines : List (List ℕ)) (text : List ℕ) : Type 0 where
  pub done : List ℕ
  pub middle : Standing
  pub due : List ℕ
  pub end : Standing
  pub front : List ℕ
  pub batched : Batched form every n s lines done middle due end
  pub part : IsPart front due
  pub text_is : text ≡ done ++ front
  pub left : Left end end

-- the texts of the lines before a batch were written, and what the batch leads to was not committed
pub record Unkept (form : Form) (every : ℕ) (Left : Standing → Standing → Type 0) (n : ℕ) (s : Standing) (lines : List (List ℕ)) (text : List ℕ) : Type 0 where
  pub middle : Standing
  pub due : List ℕ
  pub end : Standing
  pub batched : Batched form every n s lines text middle due end
  pub left : Left middle end

-- the texts of the first lines were written
pub record Held (form : Form) (Left : Standing → Standing → Type 0) (n : ℕ) (s : Standing) (lines : List (List ℕ)) (text : List ℕ) : Type 0 where
  pub before : List (List ℕ)
  pub after : List (List ℕ)
  pub middle : Standing
  pub lines_are : lines ≡ before ++ after
  pub answered : AreAnswered form n s before text middle
  pub left : Left middle middle

-- the texts of all lines were written
pub record Answered (form : Form) (Left : Standing → Standing → Type 0) (n : ℕ) (s : Standing) (lines : List (List ℕ)) (text : List ℕ) : Type 0 where
  pub end : Standing
  pub answered : AreAnswered form n s lines text end
  pub left : Left end end

-- the texts of all lines were written, and a part of the report
pub record Reported (form : Form) (Left : Standing → Standing → Type 0) (n : ℕ) (s : Standing) (lines : List (List ℕ)) (text : List ℕ) : Type 0 where
  pub end : Standing
  pub done : List ℕ
  pub report : List ℕ
  pub front : List ℕ
  pub answered : AreAnswered form n s lines done end
  pub report_is : report_of form end ≡ Ok report
  pub part : IsPart front report
  pub text_is : text ≡ done ++ front
  pub left : Left end end

-- the texts of all lines were written, and they lead to no report, by this fault
pub record Lacking (form : Form) (Left : Standing → Standing → Type 0) (n : ℕ) (s : Standing) (lines : List (List ℕ)) (text : List ℕ) (fault : LineStop) : Type 0 where
  pub end : Standing
  pub answered : AreAnswered form n s lines text end
  pub fault_is : report_of form end ≡ Err fault
  pub left : Left end end

-- the texts of all lines were written, and the whole report
pub record Finished (form : Form) (Left : Standing → Standing → Type 0) (n : ℕ) (s : Standing) (lines : List (List ℕ)) (text : List ℕ) : Type 0 where
  pub end : Standing
  pub done : List ℕ
  pub answered : AreAnswered form n s lines done end
  pub ran : ran_from form n s lines ≡ record { text = text; fault = None }
  pub left : Left end end
