-- The records that the calls of F1 act on, and what each leaves of them whatever it answers.
use Rattle.std.specs.Prelude.{◌≡◌, true, List, ℕ, Result, OnOk, OnErr, IsErr, is_some}
use Rattle.mod_periods.specs.Kept.{Kept, Recorded, behind, current_of, info_of, keeping, spent_now}
use Rattle.mod_periods.specs.Stands.{IsKept}

-- The records stand for plain ones, and a validator has begun.
pub record HasPeriods (k : Kept) (operator : List ℕ) : Type 0 where
  -- the records stand for plain ones
  pub kept : IsKept k
  -- a period of the validator runs
  pub initialised : is_some (current_of k operator) ≡ true

-- The records stand for plain ones, and the rewards of a delegation are started.
pub record IsStarted (k : Kept) (delegator operator : List ℕ) : Type 0 where
  -- the records stand for plain ones
  pub kept : IsKept k
  -- it stands where the delegation's rewards begin
  pub started : is_some (info_of k delegator operator) ≡ true

-- What a change of the tables leaves whatever it answers.
pub record LeavesBehind (old new : Recorded) : Type 0 where
  -- the open marks, and what stood at the last settling, stay
  pub behind : behind new ≡ behind old
  -- once memory was wanting in a change, it stays so
  pub spent : old.spent ≡ true → new.spent ≡ true

-- What a call leaves of the records whatever it answers.
pub record RecordsGoOn {A E : Type 0} (old new : Recorded) (answer : Result A E) : Type 0 where
  -- what stands behind the records stays
  pub left : LeavesBehind old new
  -- once memory was wanting in a change, the call fails
  pub spent_answer : old.spent ≡ true → IsErr answer
  -- where the call succeeds, memory was not wanting in it
  pub unspent : OnOk answer (new.spent ≡ old.spent)

-- What a change of one entry leaves whatever it answers: these records, or where memory is wanting
-- those that stood.
pub record Changes {A E : Type 0} (k : Kept) (old new : Recorded) (answer : Result A E)
    : Type 0 where
  -- where it succeeds, these records
  pub ok : OnOk answer (new ≡ keeping k old)
  -- where it fails, those that stood, and from now on memory was wanting in a change
  pub err : OnErr answer (new ≡ spent_now old)
  -- once memory was wanting in a change, it fails
  pub spent : old.spent ≡ true → IsErr answer
