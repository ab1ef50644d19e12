-- What a run took and wrote, at each status.
use Rattle.std.specs.Prelude.{◌≡◌, ℕ, ◌+◌, ◌^◌, ◌≤◌, ◌⊎◌, ◌<◌, List, [], ◌∷◌, ◌++◌, length, Option, Some, None}
use Rattle.base_bech32.specs.declared.form.Form.{Form}
use Rattle.run_app.specs.declared.status.Status.{Status}
use Rattle.run_app.specs.declared.status.Status.TheVariants.{Done, Usage, BadInput, Limit, ReadFault, WriteFault, KeepFault, NoMemory, BadStore, WrongStore, NotFound, NoPast}
use Rattle.run_app.specs.declared.status.LimitKind.TheVariants.{Line, Input, Ratio}
use Rattle.run_app.specs.declared.status.LineStop.TheVariants as stop
use Rattle.run_app.specs.Lines.{whole_from, rest_from, lines_of}
use Rattle.run_app.specs.Machine.{longest, Standing}
use Rattle.run_app.specs.Runs.{Ran, ran_from, Named, Wrote, Unkept, Held, Answered, Reported, Lacking, Finished}
use Rattle.run_app.specs.Told.{TakesFrom}
use Rattle.run_generated.specs.Writing.{Grows}

-- What the machine answers to an input, from where a run begins: the whole output, or the output up to the first fault and that
-- fault.
abbrev pub answer_from : Form → Standing → List ℕ → Ran
answer_from form first input = ran_from form 1 first (lines_of input)

-- the same of a run that begins with a genesis
abbrev pub answer_to : Form → List ℕ → Ran
answer_to form input = answer_from form None input

-- how many bytes an input may have
abbrev pub most_bytes : ℕ
most_bytes = 2 ^ 40

-- these are the lines that have ended, where these bytes were taken and those are left
abbrev pub AreEnded : List (List ℕ) → List ℕ → List ℕ → Type 0
AreEnded lines taken rest = (lines ≡ whole_from [] taken) ⊎ ((rest ≡ []) × (lines ≡ lines_of taken))

-- as many bytes were taken as an input may have, and one more came, at which the line was not too long
pub record Passed (form : Form) (first : Standing) (Left : Standing → Standing → Type 0) (n : ℕ) (taken text : List ℕ) : Type 0 where
  pub bytes : List ℕ
  pub byte : ℕ
  pub taken_is : taken ≡ bytes ++ byte ∷ []
  pub full : length bytes ≡ most_bytes
  pub answered : Answered form Left 1 first (whole_from [] bytes) text
  pub number : n ≡ 1 + length (whole_from [] bytes)
  pub line : (byte ≡ 10) ⊎ (length (rest_from [] bytes) < longest)

-- From an input of which these bytes were taken and those are left, a run that began at the first standing, and commits at each Nth block,
-- wrote this text and ended so. What it left in its keeper is told by `L`.
abbrev pub Ends : Form → ℕ → Standing → (Standing → Standing → Type 0) → List ℕ → List ℕ → Status → List ℕ → Type 0
Ends form every first L taken rest Done text = (rest ≡ []) × (length taken ≤ most_bytes) × Finished form L 1 first (lines_of taken) text
Ends form every first L taken rest (BadInput n fault) text = (length taken ≤ most_bytes)
    × (((lines : List (List ℕ)) × AreEnded lines taken rest × Named form L 1 first lines text (stop.BadInput n fault))
    ⊎ ((rest ≡ []) × Lacking form L 1 first (lines_of taken) text (stop.BadInput n fault)))
Ends form every first L taken rest (Limit n Line) text = (length taken ≤ most_bytes + 1) × ((more : List ℕ) → Named form L 1 first (lines_of (taken ++ more)) text (stop.Long n))
Ends form every first L taken rest (Limit n Input) text = Passed form first L n taken text
Ends form every first L taken rest (Limit n (Ratio over)) text = (length taken ≤ most_bytes) × (lines : List (List ℕ)) × AreEnded lines taken rest × Named form L 1 first lines text (stop.Ratio n over)
Ends form every first L taken rest ReadFault text = (length taken ≤ most_bytes) × Answered form L 1 first (whole_from [] taken) text
Ends form every first L taken rest WriteFault text = (length taken ≤ most_bytes)
    × (((lines : List (List ℕ)) × AreEnded lines taken rest × Wrote form every L 1 first lines text)
    ⊎ ((rest ≡ []) × Reported form L 1 first (lines_of taken) text)
    ⊎ ((rest ≡ []) × Finished form L 1 first (lines_of taken) text))
Ends form every first L taken rest KeepFault text = (length taken ≤ most_bytes) × (lines : List (List ℕ)) × AreEnded lines taken rest × Unkept form every L 1 first lines text
Ends form every first L taken rest NoMemory text = (length taken ≤ most_bytes)
    × (((lines : List (List ℕ)) × AreEnded lines taken rest × (Wrote form every L 1 first lines text ⊎ Held form L 1 first lines text ⊎ Unkept form every L 1 first lines text))
    ⊎ ((rest ≡ []) × Reported form L 1 first (lines_of taken) text))
Ends form every first L taken rest _ text = ⊥

-- There are bytes that were taken, a rest that is left, and a text that was written, as the source and the sink tell them where they
-- do, by which a run ended so.
abbrev pub RunEnds : Form → ℕ → Standing → (Standing → Standing → Type 0) → Option (List ℕ) → Option (List ℕ) → Option (List ℕ) → Option (List ℕ) → Status → Type 0
RunEnds form every first L left left' written written' status =
    (taken : List ℕ) × (rest : List ℕ) × (text : List ℕ)
    × TakesFrom left left' taken rest × Grows written written' text × Ends form every first L taken rest status text

-- a source that tells, and an input of the form, within its limits, from where a run begins
pub record IsUntroubled (form : Form) (first : Standing) (left : Option (List ℕ)) : Type 0 where
  pub input : List ℕ
  pub left_is : left ≡ Some input
  pub good : (answer_from form first input).fault ≡ None
  pub short : length input ≤ most_bytes

-- a run that has begun ends by no status of one that did not
abbrev pub HasBegun : Status → Type 0
HasBegun Usage = ⊥
HasBegun BadStore = ⊥
HasBegun (WrongStore is_empty) = ⊥
HasBegun NotFound = ⊥
HasBegun (NoPast base last) = ⊥
HasBegun _ = Unit {0}

-- the fact holds, unless the run ended by a fault of the source
abbrev pub UnlessReadFault : Status → Type 0 → Type 0
UnlessReadFault ReadFault P = Unit {0}
UnlessReadFault _ P = P

-- the fact holds, unless the run ended by a fault of the sink
abbrev pub UnlessWriteFault : Status → Type 0 → Type 0
UnlessWriteFault WriteFault P = Unit {0}
UnlessWriteFault _ P = P
