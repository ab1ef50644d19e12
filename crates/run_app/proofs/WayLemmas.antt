-- How runs end in each way in which words ask for a command.
use Rattle.std.proofs.Common.{◌≡◌, ◌⊎◌, inl, inr, true≢false, ℕ, Bool, true, false, List, [], Option, Some, None, IfSome, refl, sym, subst, IsSome}
use Rattle.base_bech32.specs.declared.form.Form.{Form}
use Rattle.base_io.specs.{Outside.Rose, Rows.{Makes, Pair}}
use Rattle.run_words.specs.declared.mode.{Command.Command, Mode.Mode}
use Rattle.run_words.specs.declared.mode.Mode.TheVariants.{Replay, Resume, Query, Tally, Check, Statement, Gen, Trial}
use Rattle.store_history.specs.{Held.{ShowsLeft, shown}, History.IsHistory}
use Rattle.store_history.proofs.KeepingLemmas.{holds_still, shown_makes, shown_some, shown_stop, some_shown}
use Rattle.run_app.specs.declared.{performing.Way.{Way, TheVariants.{Plain, Kept, Past}}, status.Status.Status}
use Rattle.run_app.specs.declared.status.Status.TheVariants.{Done, Usage, BadInput, Limit, ReadFault, WriteFault, KeepFault, NoMemory, BadStore, WrongStore, NotFound, NoPast}
use Rattle.run_app.specs.Commands.{WayEnds, WayIsUntroubled, WayStops, WayUnkept, way_in, way_of}
use Rattle.run_app.specs.{Histories.{IsCommitting, IsUnopened}, Kept.AreLeft}
use Rattle.run_app.specs.{Modes.{HasFewBlocks, IsUntroubledAt, ModeEnds}, Stops.ModeStops, Writes.Adds}
use Rattle.run_app.{specs.Seen.{keeper_told, sink_told, source_told}, proofs.CommandLemmas.untroubled_command}
use Rattle.run_app.proofs.{PastLemmas.past_ends, SinceLemmas.mode_before, StopLemmas.{mode_stops, unbegun_stops}}

-- ---- the way of a command

abbrev pub CommitsIfKept : Way → Type 0
CommitsIfKept (Plain m) = Unit {0}
CommitsIfKept (Kept m) = IsCommitting m
CommitsIfKept (Past height what) = Unit {0}

abbrev HasFewInWay : Way → Type 0
HasFewInWay (Plain m) = HasFewBlocks m
HasFewInWay (Kept m) = HasFewBlocks m
HasFewInWay (Past height what) = Unit {0}

in_commits : (keep : Bool) (past : Option ℕ) (m : Mode) → CommitsIfKept (way_in keep past m)
in_commits true past Replay = tt
in_commits false past Replay = tt
in_commits true past Resume = tt
in_commits false past Resume = tt
in_commits keep (Some height) (Query what) = tt
in_commits keep None (Query what) = tt
in_commits keep past Tally = tt
in_commits keep past Check = tt
in_commits keep past (Statement delegator operator) = tt
in_commits keep past (Gen seed count) = tt
in_commits keep past (Trial seed count) = tt

in_few : (keep : Bool) (past : Option ℕ) (m : Mode) → HasFewBlocks m → HasFewInWay (way_in keep past m)
in_few true past Replay few = tt
in_few false past Replay few = tt
in_few true past Resume few = tt
in_few false past Resume few = tt
in_few keep (Some height) (Query what) few = tt
in_few keep None (Query what) few = tt
in_few keep past Tally few = tt
in_few keep past Check few = tt
in_few keep past (Statement delegator operator) few = tt
in_few keep past (Gen seed count) few = few
in_few keep past (Trial seed count) few = few

pub way_commits : (c : Command) → CommitsIfKept (way_of c)
way_commits c = in_commits c.keep c.past c.mode

pub kept_commits : (c : Command) (m : Mode) → way_of c ≡ Kept m → IsCommitting m
kept_commits c m is = subst CommitsIfKept is (way_commits c)

pub plain_few : (c : Command) (m : Mode) → HasFewBlocks c.mode → way_of c ≡ Plain m → HasFewBlocks m
plain_few c m few is = subst HasFewInWay is (in_few c.keep c.past c.mode few)

pub committing_few : (m : Mode) → IsCommitting m → HasFewBlocks m
committing_few Replay commits = tt
committing_few Resume commits = tt
committing_few (Query what) commits = absurd commits
committing_few Tally commits = absurd commits
committing_few Check commits = absurd commits
committing_few (Statement delegator operator) commits = absurd commits
committing_few (Gen seed count) commits = absurd commits
committing_few (Trial seed count) commits = absurd commits

-- ---- over visible rows

shown_left : (rows rows' : Option (List Pair)) (honest' : Type 0) (leaves leaves' : List Pair → Type 0) → AreLeft (keeper_told rows rows' honest' leaves leaves') → AreLeft (keeper_told (shown rows) (shown rows') honest' (ShowsLeft leaves) (ShowsLeft leaves'))
shown_left rows rows' honest' leaves leaves' are = record { rows_are = shown_makes (λ ps. ps) (λ ps. ps) rows rows' (λ ps is. refl) are.rows_are; stop = λ h. shown_stop leaves leaves' (are.stop h) }

-- a run over the visible rows that a load left is one over those before it
pub kept_before : (form : Form) (every : ℕ) (m : Mode) → IsCommitting m → (left left' w w' : Option (List ℕ)) (rows mid told' : Option (List Pair)) (honest between : Type 0) (leaves at leaves' : List Pair → Type 0) (s : Status)
    → Makes (λ before. before) rows mid → (between → IsSome rows → IsSome mid) → (between → (l : List Pair) → at l → leaves l) → (honest → between)
    → ModeEnds form every m (source_told left left') (sink_told w w') (keeper_told (shown mid) (shown told') honest (ShowsLeft at) (ShowsLeft leaves')) s → ModeEnds form every m (source_told left left') (sink_told w w') (keeper_told (shown rows) (shown told') honest (ShowsLeft leaves) (ShowsLeft leaves')) s
kept_before form every m commits left left' w w' rows mid told' honest between leaves at leaves' s same still back later ends =
    mode_before (shown rows) (shown mid) honest (shown_makes (λ ps. ps) (λ ps. ps) rows mid (λ ps is. refl) same) (λ h some. shown_some mid (still (later h) (some_shown rows some))) (shown told') (ShowsLeft leaves) (ShowsLeft at) (ShowsLeft leaves')
    (λ h. shown_stop leaves at (back (later h))) form every m commits left left' w w' s ends

-- ---- what a stop leaves

unopened_stops : (form : Form) (every : ℕ) (m : Mode) (left w w' : Option (List ℕ)) (rows rows' : Option (List Pair)) (honest' : Type 0) (leaves leaves' : List Pair → Type 0) → Adds w w' (λ text. text ≡ []) → AreLeft (keeper_told rows rows' honest' leaves leaves') → ModeStops form every m left w w' rows honest' leaves leaves'
unopened_stops form every Replay left w w' rows rows' honest' leaves leaves' none are = unbegun_stops form every None left w w' rows rows' honest' leaves leaves' none are
unopened_stops form every Resume left w w' rows rows' honest' leaves leaves' none are = λ f p storable told. unbegun_stops form every (Some p) left w w' rows rows' honest' leaves leaves' none are
unopened_stops form every (Query what) left w w' rows rows' honest' leaves leaves' none are = λ good now may. are.stop good now may
unopened_stops form every Tally left w w' rows rows' honest' leaves leaves' none are = λ good now may. are.stop good now may
unopened_stops form every Check left w w' rows rows' honest' leaves leaves' none are = λ good now may. are.stop good now may
unopened_stops form every (Statement delegator operator) left w w' rows rows' honest' leaves leaves' none are = λ good now may. are.stop good now may
unopened_stops form every (Gen seed count) left w w' rows rows' honest' leaves leaves' none are = λ good now may. are.stop good now may
unopened_stops form every (Trial seed count) left w w' rows rows' honest' leaves leaves' none are = λ good now may. are.stop good now may

pub way_stops : (form : Form) (every : ℕ) (way : Way) (left left' w w' : Option (List ℕ)) (rows rows' : Option (List Pair)) (honest' : Type 0) (leaves leaves' : List Pair → Type 0) (s : Status) → WayEnds form every way (source_told left left') (sink_told w w') (keeper_told rows rows' honest' leaves leaves') s → WayStops form every way left w w' rows honest' leaves leaves'
way_stops form every (Plain m) left left' w w' rows rows' honest' leaves leaves' s ends = mode_stops form every m left left' w w' rows rows' honest' leaves leaves' s ends
way_stops form every (Kept m) left left' w w' rows rows' honest' leaves leaves' s (inl k) = mode_stops form 1 m left left' w w' (shown rows) (shown rows') honest' (ShowsLeft leaves) (ShowsLeft leaves') s k.ends
way_stops form every (Kept m) left left' w w' rows rows' honest' leaves leaves' s (inr (why, none, are)) =
    unopened_stops form 1 m left w w' (shown rows) (shown rows') honest' (ShowsLeft leaves) (ShowsLeft leaves') none.1 (shown_left rows rows' honest' leaves leaves' are)
way_stops form every (Past height what) left left' w w' rows rows' honest' leaves leaves' s ends = λ good now may. ends.1.0.stop good now may

-- ---- runs that come to their end

-- a keeper that fits a command that keeps what it replaces
record FitsKept (keeps : Bool) (rows : Option (List Pair)) (honest' : Type 0) (faults faults' : ℕ) : Type 0 where
  honest : honest'
  quiet : ¬ Rose faults faults'
  told : (keeps ≡ false) ⊎ IsSome rows

was_told : (rows : Option (List Pair)) (ps : List Pair) → shown rows ≡ Some ps → IsSome rows
was_told rows ps e = some_shown rows (subst (λ (o : Option (List Pair)). IsSome o) (sym e) refl)

kept_fits : (form : Form) (m : Mode) → IsCommitting m → (left : Option (List ℕ)) (keeps : Bool) (rows : Option (List Pair)) (honest' : Type 0) (faults faults' : ℕ) → IsUntroubledAt form m left keeps (shown rows) honest' faults faults' → FitsKept keeps rows honest' faults faults'
kept_fits form Replay commits left keeps rows honest' faults faults' calm = record { honest = calm.1.honest; quiet = calm.1.quiet; told = elim calm.1.none [ inl off ↦ inl off | inr e ↦ inr (was_told rows _ e) ] }
kept_fits form Resume commits left keeps rows honest' faults faults' calm = record { honest = calm.2.honest; quiet = calm.2.quiet; told = inr (was_told rows _ calm.2.rows_are.1) }
kept_fits form (Query what) commits left keeps rows honest' faults faults' calm = absurd commits
kept_fits form Tally commits left keeps rows honest' faults faults' calm = absurd commits
kept_fits form Check commits left keeps rows honest' faults faults' calm = absurd commits
kept_fits form (Statement delegator operator) commits left keeps rows honest' faults faults' calm = absurd commits
kept_fits form (Gen seed count) commits left keeps rows honest' faults faults' calm = absurd commits
kept_fits form (Trial seed count) commits left keeps rows honest' faults faults' calm = absurd commits

bad_history : (rows rows' : Option (List Pair)) → Makes (λ before. before) rows rows' → IsSome rows' → IfSome rows' (λ now. ¬ IsHistory now) → IfSome rows IsHistory → ⊥
bad_history rows None same some bad good = true≢false (sym some)
bad_history rows (Some now) same some bad good = bad (holds_still IsHistory rows (Some now) same good)

unopened_ends : (s : Status) (keeps : Bool) (rows rows' : Option (List Pair)) (honest' : Type 0) (faults faults' : ℕ) → IsUnopened s rows rows' honest' → FitsKept keeps rows honest' faults faults' → Makes (λ before. before) rows rows' → IfSome rows IsHistory
    → (keeps ≡ false → s ≡ BadStore → ⊥) → (s ≡ KeepFault → Rose faults faults') → (s ≡ Done) ⊎ (s ≡ NoMemory)
unopened_ends Done keeps rows rows' honest' faults faults' h fits same good unkept keep = absurd h
unopened_ends Usage keeps rows rows' honest' faults faults' h fits same good unkept keep = absurd h
unopened_ends (BadInput n f) keeps rows rows' honest' faults faults' h fits same good unkept keep = absurd h
unopened_ends (Limit n kind) keeps rows rows' honest' faults faults' h fits same good unkept keep = absurd h
unopened_ends ReadFault keeps rows rows' honest' faults faults' h fits same good unkept keep = absurd h
unopened_ends WriteFault keeps rows rows' honest' faults faults' h fits same good unkept keep = absurd h
unopened_ends KeepFault keeps rows rows' honest' faults faults' h fits same good unkept keep = absurd (fits.quiet (keep refl))
unopened_ends NoMemory keeps rows rows' honest' faults faults' h fits same good unkept keep = inr refl
unopened_ends BadStore keeps rows rows' honest' faults faults' h fits same good unkept keep = elim fits.told [
  | inl off ↦ absurd (unkept off refl)
  | inr some ↦ absurd (bad_history rows rows' same (h.told fits.honest some) h.are good)
]
unopened_ends (WrongStore is_empty) keeps rows rows' honest' faults faults' h fits same good unkept keep = absurd h
unopened_ends NotFound keeps rows rows' honest' faults faults' h fits same good unkept keep = absurd h
unopened_ends (NoPast base last) keeps rows rows' honest' faults faults' h fits same good unkept keep = absurd h

pub untroubled_way : (form : Form) (every : ℕ) (way : Way) → CommitsIfKept way → (left left' w w' : Option (List ℕ)) (keeps : Bool) (rows rows' : Option (List Pair)) (honest' : Type 0) (leaves leaves' : List Pair → Type 0) (faults faults' : ℕ) (s : Status)
    → WayEnds form every way (source_told left left') (sink_told w w') (keeper_told rows rows' honest' leaves leaves') s → WayIsUntroubled form way left keeps rows honest' faults faults' → (s ≡ Usage → ⊥) → (s ≡ ReadFault → ⊥) → (s ≡ WriteFault → ⊥) → (s ≡ KeepFault → Rose faults faults') → (keeps ≡ false → WayUnkept way (source_told left left') (sink_told w w') s)
    → (s ≡ Done) ⊎ (s ≡ NoMemory)
untroubled_way form every (Plain m) commits left left' w w' keeps rows rows' honest' leaves leaves' faults faults' s ends calm busy read write keep unkept =
    untroubled_command form every m left left' w w' keeps rows rows' honest' leaves leaves' faults faults' s ends calm busy read write keep unkept
untroubled_way form every (Kept m) commits left left' w w' keeps rows rows' honest' leaves leaves' faults faults' s (inl k) calm busy read write keep unkept =
    untroubled_command form 1 m left left' w w' keeps (shown rows) (shown rows') honest' (ShowsLeft leaves) (ShowsLeft leaves') faults faults' s k.ends calm.0 busy read write keep (λ off. (unkept off).0)
untroubled_way form every (Kept m) commits left left' w w' keeps rows rows' honest' leaves leaves' faults faults' s (inr (why, none, are)) calm busy read write keep unkept =
    unopened_ends s keeps rows rows' honest' faults faults' why (kept_fits form m commits left keeps rows honest' faults faults' calm.0) are.rows_are calm.1 (λ off. (unkept off).1) keep
untroubled_way form every (Past height what) commits left left' w w' keeps rows rows' honest' leaves leaves' faults faults' s ends calm busy read write keep unkept =
    past_ends form height what rows rows' honest' faults faults' calm ends.1.0.rows_are left left' w w' leaves leaves' s ends.1 write (λ e. calm.quiet (keep e))
