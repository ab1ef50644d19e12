-- Lines of an input that are taken one after another: each leads from one standing to the next, or stops the run.
use Rattle.std.specs.Prelude.{◌≡◌, ℕ, ◌+◌, ◌≤◌, ◌<◌, ◌⊎◌, List, [], ◌∷◌, ◌++◌, length, Option, Result, Ok, Err}
use Rattle.run_app.specs.declared.status.Status.{Status}
use Rattle.run_app.specs.declared.status.Status.TheVariants.{BadInput, Limit, ReadFault, WriteFault, NoMemory}
use Rattle.run_app.specs.declared.status.LimitKind.TheVariants.{Line, Input}
use Rattle.run_app.specs.Lines.{whole_from, rest_from, lines_of}
use Rattle.run_app.specs.Machine.{longest}
use Rattle.run_app.specs.Outcome.{AreEnded, UnlessWriteFault, most_bytes}
use Rattle.run_app.specs.Told.{TakesFrom}

-- ---- lines

-- `takes n line x y` says that the line of this number leads from one standing to another.
module _ {X : Type 0} (takes : ℕ → List ℕ → X → X → Type 0) where
  -- lines from this number on lead from one standing to another
  abbrev pub Leads : ℕ → List (List ℕ) → X → X → Type 0
  Leads n [] x y = y ≡ x
  Leads n (line ∷ lines) x y = (z : X) × takes n line x z × Leads (n + 1) lines z y

  -- Lines lead to where one of them stops the run. `stops n line x y` says that the line of this
  -- number does, and what that leaves.
  pub record Halts (stops : ℕ → List ℕ → X → X → Type 0) (lines : List (List ℕ)) (x y : X) : Type 0 where
    pub before : List (List ℕ)
    pub line : List ℕ
    pub after : List (List ℕ)
    pub middle : X
    pub lines_are : lines ≡ before ++ line ∷ after
    pub leads : Leads 1 before x middle
    pub stop : stops (1 + length before) line middle y

  -- the first of the lines lead so far, and no further
  pub record Pauses (lines : List (List ℕ)) (x y : X) : Type 0 where
    pub before : List (List ℕ)
    pub after : List (List ℕ)
    pub lines_are : lines ≡ before ++ after
    pub leads : Leads 1 before x y

  -- The first lines lead so far, and the next one, whose number is `n`, is over its limit, whatever
  -- comes behind these bytes.
  pub record MeetsLong (n : ℕ) (taken : List ℕ) (x y : X) : Type 0 where
    pub before : List (List ℕ)
    pub number_is : n ≡ 1 + length before
    pub leads : Leads 1 before x y
    pub long :
        (more : List ℕ)
        → (line : List ℕ) × (after : List (List ℕ)) × (lines_of (taken ++ more) ≡ before ++ line ∷ after)
        × (longest < length line)

  -- ---- bytes

  -- These bytes were taken: the lines that have ended lead so far, and this has come of the next
  -- line, whose number is `n`.
  pub record IsFed (x : X) (taken : List ℕ) (n : ℕ) (line : List ℕ) (y : X) : Type 0 where
    pub leads : Leads 1 (whole_from [] taken) x y
    pub number_is : n ≡ 1 + length (whole_from [] taken)
    pub line_is : line ≡ rest_from [] taken
    pub short : length line ≤ longest

  -- ---- an input

  -- a line is too long
  pub record IsTooLong (status : Status) (taken : List ℕ) (x y : X) : Type 0 where
    pub number : ℕ
    pub status_is : status ≡ Limit number Line
    pub short : length taken ≤ most_bytes + 1
    pub meets : MeetsLong number taken x y

  -- As many bytes were taken as an input may have, and one more came, at which the line was not too
  -- long.
  pub record IsTooMuch (status : Status) (taken : List ℕ) (x y : X) : Type 0 where
    pub number : ℕ
    pub status_is : status ≡ Limit number Input
    pub bytes : List ℕ
    pub byte : ℕ
    pub taken_is : taken ≡ bytes ++ byte ∷ []
    pub full : length bytes ≡ most_bytes
    pub leads : Leads 1 (whole_from [] bytes) x y
    pub number_is : number ≡ 1 + length (whole_from [] bytes)
    pub line : (byte ≡ 10) ⊎ (length (rest_from [] bytes) < longest)

  -- the source failed, or memory was wanting
  pub record IsCut (status : Status) (taken : List ℕ) (x y : X) : Type 0 where
    pub short : length taken ≤ most_bytes
    pub cut :
        ((status ≡ ReadFault) × Leads 1 (whole_from [] taken) x y)
        ⊎ ((status ≡ NoMemory) × Pauses (whole_from [] taken) x y)

  -- There are bytes, as the source tells them where it does: it was taken to its end, and its lines
  -- lead so far.
  abbrev pub TakesAll : Option (List ℕ) → Option (List ℕ) → X → X → Type 0
  TakesAll left left' x y =
      (taken : List ℕ) × TakesFrom left left' taken [] × (length taken ≤ most_bytes)
      × Leads 1 (lines_of taken) x y

module _ {X : Type 0} (takes : ℕ → List ℕ → X → X → Type 0) (stops : Status → ℕ → List ℕ → X → X → Type 0) where
  -- These bytes stop the run so, whatever comes behind them: a line in them does, or one that is too
  -- long; or memory was wanting between two lines.
  abbrev pub StopsSo : Status → List ℕ → X → X → Type 0
  StopsSo status taken x y =
      Halts takes (stops status) (whole_from [] taken) x y
      ⊎ ((n : ℕ) × (status ≡ Limit n Line) × MeetsLong takes n taken x y)
      ⊎ ((status ≡ NoMemory) × Pauses takes (whole_from [] taken) x y)

  -- a line of an input, of which these bytes were taken and those are left, stops the run
  pub record HaltsIn (status : Status) (taken rest : List ℕ) (x y : X) : Type 0 where
    pub lines : List (List ℕ)
    pub short : length taken ≤ most_bytes
    pub ended : AreEnded lines taken rest
    pub halts : Halts takes (stops status) lines x y

  -- why an input, of which these bytes were taken and those are left, was not taken whole
  abbrev pub IsUntaken : Status → List ℕ → List ℕ → X → X → Type 0
  IsUntaken status taken rest x y =
      HaltsIn status taken rest x y ⊎ IsTooLong takes status taken x y
      ⊎ IsTooMuch takes status taken x y ⊎ IsCut takes status taken x y

  -- There are bytes and a rest, as the source tells them where it does: it was not taken whole.
  abbrev pub TakesPart : Status → Option (List ℕ) → Option (List ℕ) → X → X → Type 0
  TakesPart status left left' x y =
      (taken : List ℕ) × (rest : List ℕ) × TakesFrom left left' taken rest
      × IsUntaken status taken rest x y

-- ---- statuses

-- a line may stop a run so
abbrev pub MayStop : Status → Type 0
MayStop (BadInput n fault) = Unit {0}
MayStop (Limit n kind) = Unit {0}
MayStop WriteFault = Unit {0}
MayStop NoMemory = Unit {0}
MayStop _ = ⊥

-- an input that is not taken whole may end a run so
abbrev pub MayEnd : Status → Type 0
MayEnd status = MayStop status ⊎ (status ≡ ReadFault)

-- the fact holds, unless the sink failed
abbrev pub UnlessUnwritten : {X : Type 0} → Result X Status → Type 0 → Type 0
UnlessUnwritten (Ok x) P = P
UnlessUnwritten (Err status) P = UnlessWriteFault status P
