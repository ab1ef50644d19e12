-- Runs that were to keep a history, and do not begin.
use Rattle.std.proofs.Common.{◌≡◌, inl, inr, ℕ, false, List, Option, IfSome, Result, Err, refl, subst, IsErrOf, IsSome}
use Rattle.base_bech32.specs.declared.form.Form.{Form}
use Rattle.base_io.specs.{Outside.Rose, Rows.Pair}
use Rattle.run_words.specs.declared.mode.Mode.{Mode}
use Rattle.run_words.specs.declared.mode.Mode.TheVariants.{Replay, Resume, Query, Tally, Check, Statement, Gen, Trial}
use Rattle.store_history.specs.{declared.{history.History.History, loading.OpenFault.OpenFault}, History.IsHistory}
use Rattle.store_history.specs.Opened.{OnLoaded, UnlessFailed}
use Rattle.store_history.specs.declared.loading.OpenFault.TheVariants as unopened
use Rattle.run_app.specs.declared.status.Status.{Status, TheVariants.{Done, Usage, BadStore}}
use Rattle.run_app.specs.Counts.{Moved, is_keep_fault, is_read_fault, is_write_fault}
use Rattle.run_app.specs.{Histories.{IsCommitting, IsUnopened, status_of_open}, Modes.ModeEnds, Unkept.ModeUnkept}
use Rattle.run_app.{specs.Seen.{keeper_told, sink_told, source_told}, proofs.ModeLemmas.nothing_done}

-- how a history was not read
abbrev unread : OpenFault → Result History OpenFault
unread f = Err f

pub is_unopened : (f : OpenFault) (rows rows' : Option (List Pair)) (honest' : Type 0) → OnLoaded (unread f) (honest' → IsSome rows → IsSome rows') → (IsErrOf (unread f) unopened.BadHistory → IfSome rows' (λ now. IsHistory now → ⊥))
    → IsUnopened (status_of_open f) rows rows' honest'
is_unopened unopened.Failed rows rows' honest' told bad = tt
is_unopened unopened.BadHistory rows rows' honest' told bad = record { are = bad refl; told = told }
is_unopened unopened.NoMemory rows rows' honest' told bad = tt

pub mode_unopened : (f : OpenFault) (m : Mode) (left w : Option (List ℕ)) → IsCommitting m → (IsErrOf (unread f) unopened.BadHistory → ⊥) → ModeUnkept m (source_told left left) (sink_told w w) (status_of_open f) × (status_of_open f ≡ BadStore → ⊥)
mode_unopened unopened.Failed Replay left w commits never = (λ e. absurd cc, λ e. absurd cc)
mode_unopened unopened.Failed Resume left w commits never = ((tt, nothing_done left w), λ e. absurd cc)
mode_unopened unopened.Failed (Query what) left w commits never = absurd commits
mode_unopened unopened.Failed Tally left w commits never = absurd commits
mode_unopened unopened.Failed Check left w commits never = absurd commits
mode_unopened unopened.Failed (Statement delegator operator) left w commits never = absurd commits
mode_unopened unopened.Failed (Gen seed count) left w commits never = absurd commits
mode_unopened unopened.Failed (Trial seed count) left w commits never = absurd commits
mode_unopened unopened.BadHistory m left w commits never = absurd (never refl)
mode_unopened unopened.NoMemory Replay left w commits never = (λ e. absurd cc, λ e. absurd cc)
mode_unopened unopened.NoMemory Resume left w commits never = ((tt, nothing_done left w), λ e. absurd cc)
mode_unopened unopened.NoMemory (Query what) left w commits never = absurd commits
mode_unopened unopened.NoMemory Tally left w commits never = absurd commits
mode_unopened unopened.NoMemory Check left w commits never = absurd commits
mode_unopened unopened.NoMemory (Statement delegator operator) left w commits never = absurd commits
mode_unopened unopened.NoMemory (Gen seed count) left w commits never = absurd commits
mode_unopened unopened.NoMemory (Trial seed count) left w commits never = absurd commits

-- a run over a keeper that keeps nothing does not end on a bad store
pub never_bad_store : (form : Form) (every : ℕ) (m : Mode) (left left' w w' : Option (List ℕ)) (rows rows' : Option (List Pair)) (honest' : Type 0) (leaves leaves' : List Pair → Type 0) (s : Status) → IsCommitting m → ModeEnds form every m (source_told left left') (sink_told w w') (keeper_told rows rows' honest' leaves leaves') s
    → ModeUnkept m (source_told left left') (sink_told w w') s → s ≡ BadStore → ⊥
never_bad_store form every Replay left left' w w' rows rows' honest' leaves leaves' s commits ends unkept e = by (subst (λ (t : Status). ModeEnds form every Replay (source_told left left') (sink_told w w') (keeper_told rows rows' honest' leaves leaves') t) e ends)
  where
    by : ModeEnds form every Replay (source_told left left') (sink_told w w') (keeper_told rows rows' honest' leaves leaves') BadStore → ⊥
    by (inl r) = r.5
    by (inr u) = u.0
never_bad_store form every Resume left left' w w' rows rows' honest' leaves leaves' s commits ends unkept e = (subst (λ (t : Status). ModeUnkept Resume (source_told left left') (sink_told w w') t) e unkept).0
never_bad_store form every (Query what) left left' w w' rows rows' honest' leaves leaves' s commits ends unkept e = commits
never_bad_store form every Tally left left' w w' rows rows' honest' leaves leaves' s commits ends unkept e = commits
never_bad_store form every Check left left' w w' rows rows' honest' leaves leaves' s commits ends unkept e = commits
never_bad_store form every (Statement delegator operator) left left' w w' rows rows' honest' leaves leaves' s commits ends unkept e = commits
never_bad_store form every (Gen seed count) left left' w w' rows rows' honest' leaves leaves' s commits ends unkept e = commits
never_bad_store form every (Trial seed count) left left' w w' rows rows' honest' leaves leaves' s commits ends unkept e = commits

-- ---- by which statuses

pub unopened_busy : (f : OpenFault) → status_of_open f ≡ Usage → ⊥
unopened_busy unopened.Failed e = cc
unopened_busy unopened.BadHistory e = cc
unopened_busy unopened.NoMemory e = cc

pub unopened_unread : (f : OpenFault) → is_read_fault (status_of_open f) ≡ false
unopened_unread unopened.Failed = refl
unopened_unread unopened.BadHistory = refl
unopened_unread unopened.NoMemory = refl

pub unopened_writes : (f : OpenFault) (count : ℕ) (P : Type 0) → Moved (is_write_fault (status_of_open f)) count count × (status_of_open f ≡ Done → P)
unopened_writes unopened.Failed count P = (refl, λ e. absurd cc)
unopened_writes unopened.BadHistory count P = (refl, λ e. absurd cc)
unopened_writes unopened.NoMemory count P = (refl, λ e. absurd cc)

pub unopened_keeps : (f : OpenFault) (before now : ℕ) → (IsErrOf (unread f) unopened.Failed → Rose before now) → UnlessFailed (unread f) (now ≡ before) → Moved (is_keep_fault (status_of_open f)) before now
unopened_keeps unopened.Failed before now cause quiet = cause refl
unopened_keeps unopened.BadHistory before now cause quiet = quiet
unopened_keeps unopened.NoMemory before now cause quiet = quiet
