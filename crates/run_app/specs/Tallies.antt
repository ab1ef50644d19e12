-- How a run ends that counts ballots over the rows of its keeper: of the command `tally`.
use Rattle.std.specs.Prelude.{◌≡◌, ℕ, ◌≤◌, ◌⊎◌, List, [], length, Option, Some, Ok}
use Rattle.base_bech32.specs.declared.form.Form.{Form}
use Rattle.base_io.specs.Rows.{Pair}
use Rattle.base_roles.specs.Staked.{Staked}
use Rattle.line_ballots.specs.Ballots.{text_of_tally}
use Rattle.mod_tally.specs.Ballots.{Cast, chosen_in}
use Rattle.mod_tally.specs.Tally.{tally_of}
use Rattle.rule_modules.specs.Chain.{State}
use Rattle.store_resuming.specs.Restored.{AreLoaded, AreStateRows, HaveSameRows, IsStorable}
use Rattle.run_app.specs.declared.status.Status.{Status}
use Rattle.run_app.specs.Ballots.{IsUncounted, cast_in}
use Rattle.run_app.specs.Kept.{AreLeft}
use Rattle.run_app.specs.Outcome.{most_bytes}
use Rattle.run_app.specs.Seen.{KeeperTold, SinkTold, SourceTold}
use Rattle.run_app.specs.Resumes.{FitsState, IsUnresumed}
use Rattle.run_app.specs.Told.{TakesFrom}
use Rattle.run_app.specs.Writes.{IsWritten, Leaves}
use Rattle.run_generated.specs.Writing.{Grows}

-- what is written of ballots over validators and delegations: the line of their tally
abbrev pub text_of_cast : Staked → Cast → List ℕ
text_of_cast s cast = text_of_tally (tally_of s (chosen_in cast))

-- An input was read to its end, each of its lines is a ballot, and the line of their tally is to be
-- written.
pub record IsCounted (form : Form) (s : Staked) (taken rest : List ℕ) (status : Status) (text : List ℕ) : Type 0 where
  pub cast : Cast
  pub end : rest ≡ []
  pub short : length taken ≤ most_bytes
  pub read : cast_in form taken ≡ Ok cast
  pub written : IsWritten (text_of_cast s cast) status text

-- Or it was not read to its end, or not all of its lines are ballots: then nothing is written.
abbrev pub CountEnds : Form → Staked → List ℕ → List ℕ → Status → List ℕ → Type 0
CountEnds form s taken rest status text =
    IsCounted form s taken rest status text ⊎ (IsUncounted form status taken rest × (text ≡ []))

-- There are bytes that were taken, a rest that is left, and a text that was written, as the source
-- and the sink tell them where they do, by which ballots were counted so.
abbrev pub Counts : Form → Staked → Option (List ℕ) → Option (List ℕ) → Option (List ℕ) → Option (List ℕ) → Status → Type 0
Counts form s left left' written written' status =
    (taken : List ℕ) × (rest : List ℕ) × (text : List ℕ)
    × TakesFrom left left' taken rest × Grows written written' text × CountEnds form s taken rest status text

-- A run counted over the rows of its keeper: they are those of a state in one format or the other,
-- and of each state of the same rows the validators and delegations are counted over.
pub record Tallied (form : Form) (left left' written written' : Option (List ℕ)) (rows rows' : Option (List Pair)) (honest' : Type 0) (status : Status) : Type 0 where
  pub first : State
  pub storable : IsStorable first
  pub loaded : AreLoaded rows rows' honest' (λ now. AreStateRows now first)
  pub counts :
      (p : State) → IsStorable p → HaveSameRows p first
      → Counts form p.mine.staked left left' written written' status

-- A tally leaves all rows. It counts over them; or no chain comes of them, and it takes and writes
-- nothing.
abbrev pub TallyEnds : Form → SourceTold → SinkTold → KeeperTold → Status → Type 0
TallyEnds form source sink keeper status =
    AreLeft keeper
    × (Tallied form source.left source.left' sink.written sink.written' keeper.rows keeper.rows' keeper.honest' status
    ⊎ (IsUnresumed status keeper.rows keeper.rows' keeper.honest' × Leaves source sink (λ text. text ≡ [])))

-- a source that tells, and an input within its limit, of which each line is a ballot
pub record AreBallots (form : Form) (left : Option (List ℕ)) : Type 0 where
  pub input : List ℕ
  pub cast : Cast
  pub left_is : left ≡ Some input
  pub good : cast_in form input ≡ Ok cast
  pub short : length input ≤ most_bytes

-- and the rows are those of a state
abbrev pub TalliesCalmly : Form → Option (List ℕ) → Option (List Pair) → Type 0 → ℕ → ℕ → Type 0
TalliesCalmly form left rows honest' faults faults' =
    AreBallots form left × ((p : State) × FitsState p rows honest' faults faults')
