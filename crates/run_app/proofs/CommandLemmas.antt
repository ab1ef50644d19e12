-- How a run of each command ends.
use Rattle.std.proofs.Common.{◌≡◌, ◌⊎◌, inl, inr, sym, subst, refl, ℕ, Bool, false, List, Option, Some, None}
use Rattle.base_bech32.specs.declared.form.Form.{Form}
use Rattle.base_io.specs.{Outside.Rose, Rows.Pair}
use Rattle.run_generated.specs.Writing.{generated_text}
use Rattle.run_trial.specs.Trial.{trial_of}
use Rattle.run_words.specs.declared.{fault.WordsFault.WordsFault, mode.{Command.Command, Mode.Mode}}
use Rattle.run_words.specs.declared.mode.Mode.TheVariants.{Replay, Resume, Query, Tally, Check, Statement, Gen, Trial}
use Rattle.run_words.specs.declared.fault.WordsFault.TheVariants as words
use Rattle.run_app.specs.declared.status.Status.{Status}
use Rattle.run_app.specs.declared.status.Status.TheVariants.{Done, Usage, BadInput, Limit, ReadFault, WriteFault, KeepFault, NoMemory, BadStore, WrongStore, NotFound, NoPast}
use Rattle.run_app.specs.declared.performing.Way.{Way, TheVariants.{Plain, Kept, Past}}
use Rattle.run_app.specs.Commands.{CommandEnds, CommandUnkept, IsUntroubledBy, WayEnds, WayUnkept, way_of}
use Rattle.run_app.specs.{Counts.{IsOfWords, Moved, ReadMoved, is_keep_fault, is_write_fault}, Ending.status_of_words}
use Rattle.run_app.specs.{Kept.AreSome, Modes.{IsTried, IsUntroubledAt, ModeEnds}, Unkept.ModeUnkept, Writes.IsWritten}
use Rattle.run_app.specs.Seen.{keeper_told, sink_told, source_told}
use Rattle.run_app.proofs.{CheckLemmas.{check_unbegun, untroubled_check}, DriveLemmas.untroubled_run}
use Rattle.run_app.proofs.ModeLemmas.{finds_none, nothing, nothing_done, rows_left, same_rows, tried_without_memory, unbegun_replay, untouched, written_to_end}
use Rattle.run_app.proofs.ResumeLemmas.{untroubled_query, untroubled_resume}
use Rattle.run_app.proofs.{StatingLemmas.{statement_unbegun, untroubled_statement}, TallyLemmas.untroubled_tally}

-- before anything is taken, a run may end where memory is wanting, and leaves all as it was
mode_unbegun : (form : Form) (every : ℕ) (m : Mode) (left w : Option (List ℕ)) (rows : Option (List Pair)) (honest : Type 0) (leaves : List Pair → Type 0) → ModeEnds form every m (source_told left left) (sink_told w w) (keeper_told rows rows honest leaves leaves) NoMemory
mode_unbegun form every Replay left w rows honest leaves = inr (tt, nothing_done left w, rows_left rows rows honest leaves leaves (same_rows rows) (λ h l x. x))
mode_unbegun form every Resume left w rows honest leaves = inr (inl (tt, nothing_done left w, rows_left rows rows honest leaves leaves (same_rows rows) (λ h l x. x)))
mode_unbegun form every (Query what) left w rows honest leaves = (refl, (rows_left rows rows honest leaves leaves (same_rows rows) (λ h l x. x), inr (tt, nothing w _ refl)))
mode_unbegun form every Tally left w rows honest leaves = (rows_left rows rows honest leaves leaves (same_rows rows) (λ h l x. x), inr (tt, nothing_done left w))
mode_unbegun form every Check left w rows honest leaves = (check_unbegun form left w, untouched rows leaves)
mode_unbegun form every (Statement delegator operator) left w rows honest leaves = (statement_unbegun form delegator operator left w, untouched rows leaves)
mode_unbegun form every (Gen seed count) left w rows honest leaves = ((refl, nothing w _ (record { rest = generated_text form seed count; text_is = refl })), untouched rows leaves)
mode_unbegun form every (Trial seed count) left w rows honest leaves = ((refl, tried_without_memory (trial_of seed count) w), untouched rows leaves)

way_unbegun : (form : Form) (every : ℕ) (way : Way) (left w : Option (List ℕ)) (rows : Option (List Pair)) (honest : Type 0) (leaves : List Pair → Type 0) → WayEnds form every way (source_told left left) (sink_told w w) (keeper_told rows rows honest leaves leaves) NoMemory
way_unbegun form every (Plain m) left w rows honest leaves = mode_unbegun form every m left w rows honest leaves
way_unbegun form every (Kept m) left w rows honest leaves = inr (tt, nothing_done left w, rows_left rows rows honest leaves leaves (same_rows rows) (λ h l x. x))
way_unbegun form every (Past height what) left w rows honest leaves = (refl, (rows_left rows rows honest leaves leaves (same_rows rows) (λ h l x. x), inr (tt, nothing w _ refl)))

ends_unbegun : (o : Option Command) (left w : Option (List ℕ)) (rows : Option (List Pair)) (honest : Type 0) (leaves : List Pair → Type 0) → CommandEnds o (source_told left left) (sink_told w w) (keeper_told rows rows honest leaves leaves) NoMemory
ends_unbegun None left w rows honest leaves = (nothing_done left w, untouched rows leaves)
ends_unbegun (Some c) left w rows honest leaves = way_unbegun c.form c.every (way_of c) left w rows honest leaves

-- ---- words that ask for nothing

pub ends_unasked : (f : WordsFault) (o : Option Command) (left w : Option (List ℕ)) (rows : Option (List Pair)) (honest : Type 0) (leaves : List Pair → Type 0) → (f ≡ words.Usage → o ≡ None) → CommandEnds o (source_told left left) (sink_told w w) (keeper_told rows rows honest leaves leaves) (status_of_words f)
ends_unasked words.Usage o left w rows honest leaves none = subst (λ p. CommandEnds p (source_told left left) (sink_told w w) (keeper_told rows rows honest leaves leaves) Usage) (sym (none refl)) (nothing_done left w, untouched rows leaves)
ends_unasked words.NoMemory o left w rows honest leaves none = ends_unbegun o left w rows honest leaves

pub is_of_no_command : (f : WordsFault) (o : Option Command) → (f ≡ words.Usage → o ≡ None) → IsOfWords o (status_of_words f)
is_of_no_command words.Usage o none = none refl
is_of_no_command words.NoMemory o none = tt

pub read_unasked : (every : ℕ) (f : WordsFault) (count : ℕ) → ReadMoved every (status_of_words f) count count
read_unasked every words.Usage count = refl
read_unasked every words.NoMemory count = inl refl

pub write_unasked : (f : WordsFault) (count : ℕ) (P : Type 0) → Moved (is_write_fault (status_of_words f)) count count × (status_of_words f ≡ Done → P)
write_unasked words.Usage count P = (refl, λ e. absurd cc)
write_unasked words.NoMemory count P = (refl, λ e. absurd cc)

pub kept_unasked : (f : WordsFault) (count : ℕ) → Moved (is_keep_fault (status_of_words f)) count count
kept_unasked words.Usage count = refl
kept_unasked words.NoMemory count = refl

pub complete_unasked : (f : WordsFault) (o : Option Command) (left : Option (List ℕ)) (keeps : Bool) (rows : Option (List Pair)) (honest' : Type 0) (faults faults' : ℕ) → (f ≡ words.Usage → o ≡ None) → IsUntroubledBy o left keeps rows honest' faults faults'
    → (status_of_words f ≡ Done) ⊎ (status_of_words f ≡ NoMemory)
complete_unasked words.Usage o left keeps rows honest' faults faults' none calm = absurd (subst (λ (p : Option Command). IsUntroubledBy p left keeps rows honest' faults faults') (none refl) calm)
complete_unasked words.NoMemory o left keeps rows honest' faults faults' none calm = inr refl

-- the same over a keeper that keeps nothing
mode_unkept : (m : Mode) (left w : Option (List ℕ)) → ModeUnkept m (source_told left left) (sink_told w w) NoMemory
mode_unkept Replay left w = λ e. absurd cc
mode_unkept Resume left w = (tt, nothing_done left w)
mode_unkept (Query what) left w = (tt, nothing_done left w)
mode_unkept Tally left w = (tt, nothing_done left w)
mode_unkept Check left w = tt
mode_unkept (Statement delegator operator) left w = tt
mode_unkept (Gen seed count) left w = tt
mode_unkept (Trial seed count) left w = tt

way_unkept : (way : Way) (left w : Option (List ℕ)) → WayUnkept way (source_told left left) (sink_told w w) NoMemory
way_unkept (Plain m) left w = mode_unkept m left w
way_unkept (Kept m) left w = (mode_unkept m left w, λ e. absurd cc)
way_unkept (Past height what) left w = (tt, nothing_done left w)

unkept_unbegun : (o : Option Command) (left w : Option (List ℕ)) → CommandUnkept o (source_told left left) (sink_told w w) NoMemory
unkept_unbegun None left w = tt
unkept_unbegun (Some c) left w = way_unkept (way_of c) left w

pub unkept_unasked : (f : WordsFault) (o : Option Command) (left w : Option (List ℕ)) → (f ≡ words.Usage → o ≡ None) → CommandUnkept o (source_told left left) (sink_told w w) (status_of_words f)
unkept_unasked words.Usage o left w none = subst (λ p. CommandUnkept p (source_told left left) (sink_told w w) Usage) (sym (none refl)) tt
unkept_unasked words.NoMemory o left w none = unkept_unbegun o left w

-- ---- runs that come to their end

pub untroubled_command : (form : Form) (every : ℕ) (m : Mode) (left left' w w' : Option (List ℕ)) (keeps : Bool) (rows rows' : Option (List Pair)) (honest' : Type 0) (leaves leaves' : List Pair → Type 0) (faults faults' : ℕ) (s : Status) → ModeEnds form every m (source_told left left') (sink_told w w') (keeper_told rows rows' honest' leaves leaves') s
    → IsUntroubledAt form m left keeps rows honest' faults faults' → (s ≡ Usage → ⊥) → (s ≡ ReadFault → ⊥) → (s ≡ WriteFault → ⊥) → (s ≡ KeepFault → Rose faults faults') → (keeps ≡ false → ModeUnkept m (source_told left left') (sink_told w w') s) → (s ≡ Done) ⊎ (s ≡ NoMemory)
untroubled_command form every Replay left left' w w' keeps rows rows' honest' leaves leaves' faults faults' s (inl ends) calm busy read write keep unkept =
    untroubled_run form every _ None left left' w w' s ends calm.0 busy read write (λ e. calm.1.quiet (keep e))
untroubled_command form every Replay left left' w w' keeps rows rows' honest' leaves leaves' faults faults' s (inr ends) calm busy read write keep unkept =
    unbegun_replay s (AreSome rows rows' honest') ends.0 (λ e. finds_none keeps rows rows' honest' calm.1.none calm.1.honest ends.2.rows_are (λ off. unkept off e)) (λ e. calm.1.quiet (keep e))
untroubled_command form every Resume left left' w w' keeps rows rows' honest' leaves leaves' faults faults' s ends calm busy read write keep unkept =
    untroubled_resume form every left left' w w' rows rows' honest' leaves leaves' faults faults' s ends calm busy read write keep
untroubled_command form every (Query what) left left' w w' keeps rows rows' honest' leaves leaves' faults faults' s ends calm busy read write keep unkept =
    untroubled_query form what w w' rows rows' honest' leaves leaves' faults faults' s ends.1 calm write keep
untroubled_command form every Tally left left' w w' keeps rows rows' honest' leaves leaves' faults faults' s ends calm busy read write keep unkept =
    untroubled_tally form left left' w w' rows rows' honest' leaves leaves' faults faults' s ends calm read write keep
untroubled_command form every Check left left' w w' keeps rows rows' honest' leaves leaves' faults faults' s ends calm busy read write keep unkept =
    untroubled_check form left left' w w' s ends.0 calm read write
untroubled_command form every (Statement delegator operator) left left' w w' keeps rows rows' honest' leaves leaves' faults faults' s ends calm busy read write keep unkept =
    untroubled_statement form delegator operator left left' w w' s ends.0 calm read write
untroubled_command form every (Gen seed count) left left' w w' keeps rows rows' honest' leaves leaves' faults faults' s ends calm busy read write keep unkept =
    let e = ends.0.1 in
    written_to_end (generated_text form seed count) e.0 s e.2 write
untroubled_command form every (Trial seed count) left left' w w' keeps rows rows' honest' leaves leaves' faults faults' s ends calm busy read write keep unkept =
    let e = ends.0.1 in
    let told : IsWritten calm.0 s e.0 = subst (λ d. IsTried d s e.0) calm.1 e.2 in
    written_to_end calm.0 e.0 s told write

-- words are no command, or are one
never_asked : (o : Option Command) (c : Command) → o ≡ Some c → o ≡ None → ⊥
never_asked o c some none = absurd cc

pub is_of_command : (s : Status) (o : Option Command) (c : Command) → o ≡ Some c → (s ≡ Usage → ⊥) → IsOfWords o s
is_of_command Done o c some busy = never_asked o c some
is_of_command Usage o c some busy = absurd (busy refl)
is_of_command (BadInput n fault) o c some busy = never_asked o c some
is_of_command (Limit n kind) o c some busy = never_asked o c some
is_of_command ReadFault o c some busy = never_asked o c some
is_of_command WriteFault o c some busy = never_asked o c some
is_of_command KeepFault o c some busy = never_asked o c some
is_of_command NoMemory o c some busy = tt
is_of_command BadStore o c some busy = never_asked o c some
is_of_command (WrongStore is_empty) o c some busy = never_asked o c some
is_of_command NotFound o c some busy = never_asked o c some
is_of_command (NoPast base last) o c some busy = never_asked o c some
