-- The ballots of an input: each line is one, and a line that is none stops the run.
use Rattle.std.specs.Prelude.{◌≡◌, ℕ, ◌+◌, ◌≤◌, ◌<◌, ◌⊎◌, List, [], ◌∷◌, ◌++◌, length, nat_lt, if◌then◌else◌, Option, Result, Ok, Err}
use Rattle.base_bech32.specs.declared.form.Form.{Form}
use Rattle.base_coins.specs.Steps.{◌>>=◌}
use Rattle.base_messages.specs.declared.faults.LineFault.{LineFault}
use Rattle.base_roles.specs.Entries.{at, with}
use Rattle.base_types.specs.Orders.{addr_cmp}
use Rattle.line_ballots.specs.declared.ballot.Ballot.{Ballot}
use Rattle.line_ballots.specs.Ballots.{ballot_of}
use Rattle.mod_tally.specs.declared.choice.Choice.{Choice}
use Rattle.mod_tally.specs.Ballots.{Cast, chosen_in}
use Rattle.run_app.specs.declared.status.Status.{Status}
use Rattle.run_app.specs.declared.status.Status.TheVariants.{BadInput, Limit, ReadFault, NoMemory}
use Rattle.run_app.specs.declared.status.LimitKind.TheVariants.{Line, Input}
use Rattle.run_app.specs.declared.status.LineStop.{LineStop}
use Rattle.run_app.specs.declared.status.LineStop.TheVariants as stop
use Rattle.run_app.specs.Lines.{whole_from, rest_from, lines_of}
use Rattle.run_app.specs.Machine.{longest, not_read}
use Rattle.run_app.specs.Outcome.{AreEnded, UnlessReadFault, most_bytes}
use Rattle.run_app.specs.Told.{TakesFrom}

-- ---- lines

abbrev pub ballot_or_stop : ℕ → Result Ballot LineFault → Result Ballot LineStop
ballot_or_stop n (Ok ballot) = Ok ballot
ballot_or_stop n (Err fault) = Err (not_read n fault)

-- the ballot of the line of this number: nothing is read from a line over its limit
unfoldable pub ballot_at : Form → ℕ → List ℕ → Result Ballot LineStop
ballot_at form n line =
    if nat_lt longest (length line) then Err (stop.Long n) else ballot_or_stop n (ballot_of form line)

-- The ballots that lines from this number on cast, in their order; or why the first line that is
-- no ballot stops the run.
abbrev pub cast_from : Form → ℕ → List (List ℕ) → Result Cast LineStop
cast_from form n [] = Ok []
cast_from form n (line ∷ lines) =
    ballot_at form n line >>= λ b. cast_from form (n + 1) lines >>= λ later. Ok ((b.voter, b.choice) ∷ later)

-- the same of an input
abbrev pub cast_in : Form → List ℕ → Result Cast LineStop
cast_in form input = cast_from form 1 (lines_of input)

-- ---- what is kept of ballots

-- of each voter its last choice, by voter
abbrev pub Kept : Type 0
Kept = List (List ℕ × Choice)

-- The lines are ballots, and these are kept of them.
pub record AreKept (form : Form) (lines : List (List ℕ)) (kept : Kept) : Type 0 where
  pub cast : Cast
  pub read : cast_from form 1 lines ≡ Ok cast
  pub last : (voter : List ℕ) → at addr_cmp kept voter ≡ chosen_in cast voter

-- a ballot is due, and was cast
abbrev pub IsCast : Result Ballot LineStop → Kept → Kept → Type 0
IsCast due kept kept' =
    (b : Ballot) × (due ≡ Ok b) × (kept' ≡ with addr_cmp kept b.voter b.choice)

-- why a line within its limit is no ballot of which this is due; memory may always be wanting
abbrev pub IsNone : LineStop → Result Ballot LineStop → Type 0
IsNone (stop.BadInput n fault) due = due ≡ Err (stop.BadInput n fault)
IsNone (stop.Long n) due = ⊥
IsNone (stop.Ratio n over) due = ⊥
IsNone stop.Write due = ⊥
IsNone stop.Keep due = ⊥
IsNone stop.NoMemory due = Unit {0}

-- ---- bytes

-- These bytes were taken: the lines that have ended are ballots, which were cast, and this has come
-- of the next line, whose number is `n`.
pub record AreTaken (form : Form) (taken : List ℕ) (n : ℕ) (line : List ℕ) (kept : Kept) : Type 0 where
  pub kept_are : AreKept form (whole_from [] taken) kept
  pub number_is : n ≡ 1 + length (whole_from [] taken)
  pub line_is : line ≡ rest_from [] taken
  pub short : length line ≤ longest

-- these bytes stop a run, whatever comes behind them
abbrev pub StopsIn : Form → LineStop → List ℕ → Type 0
StopsIn form (stop.BadInput n fault) taken = cast_from form 1 (whole_from [] taken) ≡ Err (stop.BadInput n fault)
StopsIn form (stop.Long n) taken = (more : List ℕ) → cast_in form (taken ++ more) ≡ Err (stop.Long n)
StopsIn form (stop.Ratio n over) taken = ⊥
StopsIn form stop.Write taken = ⊥
StopsIn form stop.Keep taken = ⊥
StopsIn form stop.NoMemory taken = Unit {0}

-- ---- an input

-- As many bytes were taken as an input may have, and one more came, at which the line was not too
-- long. The lines that had ended are ballots.
pub record PassesBallots (form : Form) (n : ℕ) (taken : List ℕ) : Type 0 where
  pub bytes : List ℕ
  pub byte : ℕ
  pub cast : Cast
  pub taken_is : taken ≡ bytes ++ byte ∷ []
  pub full : length bytes ≡ most_bytes
  pub read : cast_from form 1 (whole_from [] bytes) ≡ Ok cast
  pub number : n ≡ 1 + length (whole_from [] bytes)
  pub line : (byte ≡ 10) ⊎ (length (rest_from [] bytes) < longest)

-- Why an input of which these bytes were taken and those are left was not read to its end, or not
-- all of its lines are ballots.
abbrev pub IsUncounted : Form → Status → List ℕ → List ℕ → Type 0
IsUncounted form (BadInput n fault) taken rest =
    (length taken ≤ most_bytes)
    × (lines : List (List ℕ)) × AreEnded lines taken rest
    × (cast_from form 1 lines ≡ Err (stop.BadInput n fault))
IsUncounted form (Limit n Line) taken rest =
    (length taken ≤ most_bytes + 1)
    × ((more : List ℕ) → cast_in form (taken ++ more) ≡ Err (stop.Long n))
IsUncounted form (Limit n Input) taken rest = PassesBallots form n taken
IsUncounted form ReadFault taken rest =
    (length taken ≤ most_bytes)
    × (cast : Cast) × (cast_from form 1 (whole_from [] taken) ≡ Ok cast)
IsUncounted form NoMemory taken rest = length taken ≤ most_bytes
IsUncounted form _ taken rest = ⊥

-- There are bytes, as the source tells them where it does: it was read to its end, and these are
-- kept of its ballots.
abbrev pub AllAreKept : Form → Option (List ℕ) → Option (List ℕ) → Kept → Type 0
AllAreKept form left left' kept =
    (taken : List ℕ) × TakesFrom left left' taken [] × (length taken ≤ most_bytes) × AreKept form (lines_of taken) kept

-- Or it was not, or not all of its lines are ballots.
abbrev pub AreUncounted : Form → Option (List ℕ) → Option (List ℕ) → Status → Type 0
AreUncounted form left left' status =
    (taken : List ℕ) × (rest : List ℕ) × TakesFrom left left' taken rest × IsUncounted form status taken rest

-- a run may end so at an input that was not counted
abbrev pub IsOfBallots : Status → Type 0
IsOfBallots (BadInput n fault) = Unit {0}
IsOfBallots (Limit n kind) = Unit {0}
IsOfBallots ReadFault = Unit {0}
IsOfBallots NoMemory = Unit {0}
IsOfBallots _ = ⊥

-- the fact holds, unless the source failed
abbrev pub UnlessUnread : {X : Type 0} → Result X Status → Type 0 → Type 0
UnlessUnread (Ok x) P = P
UnlessUnread (Err status) P = UnlessReadFault status P
