-- A run over rows that a load left is a run over the rows before it.
use Rattle.std.proofs.Common.{◌≡◌, ◌⊎◌, inl, inr, true≢false, ℕ, List, Option, Some, None, IfSome, refl, sym, subst, IsSome}
use Rattle.base_bech32.specs.declared.form.Form.{Form}
use Rattle.base_io.specs.Rows.{Makes, Pair}
use Rattle.run_words.specs.declared.mode.Mode.{Mode}
use Rattle.run_words.specs.declared.mode.Mode.TheVariants.{Replay, Resume, Query, Tally, Check, Statement, Gen, Trial}
use Rattle.store_history.proofs.KeepingLemmas.{makes_later, told_back}
use Rattle.store_resuming.specs.Restored.{AreLoaded, AreStateRows, old_rows_of, rows_of}
use Rattle.run_app.specs.declared.status.Status.{Status}
use Rattle.run_app.specs.declared.status.Status.TheVariants.{Done, Usage, BadInput, Limit, ReadFault, WriteFault, KeepFault, NoMemory, BadStore, WrongStore, NotFound, NoPast}
use Rattle.run_app.specs.declared.status.{LimitKind.TheVariants.{Line, Input, Ratio, Bound}, LineStop.LineStop}
use Rattle.run_app.specs.{Histories.IsCommitting, Kept.{AreLeft, AreSome, BeganOnRows, IsUnbegun, LeftIn}}
use Rattle.run_app.specs.{Machine.Standing, Modes.{ModeEnds, ReplayEnds}, Outcome.{Ends, Passed, RunEnds}}
use Rattle.run_app.specs.Resumes.{GoesOn, IsUnmigrated, IsUnresumed, ResumeEnds}
use Rattle.run_app.specs.Runs.{Answered, Finished, Held, Lacking, Named, Reported, Unkept, Wrote}
use Rattle.run_app.specs.Seen.{keeper_told, sink_told, source_told}

-- ---- what is left of a run, by something weaker

module _ (form : Form) (every : ℕ) (first : Standing) (L L' : Standing → Standing → Type 0) (leads : (s t : Standing) → L s t → L' s t) where
  named : (n : ℕ) (s : Standing) (lines : List (List ℕ)) (text : List ℕ) (fault : LineStop) → Named form L n s lines text fault → Named form L' n s lines text fault
  named n s lines text fault r = record {
    before = r.before;
    line = r.line;
    after = r.after;
    middle = r.middle;
    lines_are = r.lines_are;
    answered = r.answered;
    fault_is = r.fault_is;
    left = leads r.middle r.middle r.left;
  }

  wrote : (n : ℕ) (s : Standing) (lines : List (List ℕ)) (text : List ℕ) → Wrote form every L n s lines text → Wrote form every L' n s lines text
  wrote n s lines text r = record { done = r.done; middle = r.middle; due = r.due; end = r.end; front = r.front; batched = r.batched; part = r.part; text_is = r.text_is; left = leads r.end r.end r.left }

  unkept : (n : ℕ) (s : Standing) (lines : List (List ℕ)) (text : List ℕ) → Unkept form every L n s lines text → Unkept form every L' n s lines text
  unkept n s lines text r = record { middle = r.middle; due = r.due; end = r.end; batched = r.batched; left = leads r.middle r.end r.left }

  held : (n : ℕ) (s : Standing) (lines : List (List ℕ)) (text : List ℕ) → Held form L n s lines text → Held form L' n s lines text
  held n s lines text r = record {
    before = r.before;
    after = r.after;
    middle = r.middle;
    lines_are = r.lines_are;
    answered = r.answered;
    left = leads r.middle r.middle r.left;
  }

  answered : (n : ℕ) (s : Standing) (lines : List (List ℕ)) (text : List ℕ) → Answered form L n s lines text → Answered form L' n s lines text
  answered n s lines text r = record { end = r.end; answered = r.answered; left = leads r.end r.end r.left }

  reported : (n : ℕ) (s : Standing) (lines : List (List ℕ)) (text : List ℕ) → Reported form L n s lines text → Reported form L' n s lines text
  reported n s lines text r = record {
    end = r.end;
    done = r.done;
    report = r.report;
    front = r.front;
    answered = r.answered;
    report_is = r.report_is;
    part = r.part;
    text_is = r.text_is;
    left = leads r.end r.end r.left;
  }

  lacking : (n : ℕ) (s : Standing) (lines : List (List ℕ)) (text : List ℕ) (fault : LineStop) → Lacking form L n s lines text fault → Lacking form L' n s lines text fault
  lacking n s lines text fault r = record { end = r.end; answered = r.answered; fault_is = r.fault_is; left = leads r.end r.end r.left }

  finished : (n : ℕ) (s : Standing) (lines : List (List ℕ)) (text : List ℕ) → Finished form L n s lines text → Finished form L' n s lines text
  finished n s lines text r = record { end = r.end; done = r.done; answered = r.answered; ran = r.ran; left = leads r.end r.end r.left }

  passed : (n : ℕ) (taken text : List ℕ) → Passed form first L n taken text → Passed form first L' n taken text
  passed n taken text r = record {
    bytes = r.bytes;
    byte = r.byte;
    taken_is = r.taken_is;
    full = r.full;
    answered = answered 1 first _ text r.answered;
    number = r.number;
    line = r.line;
  }

  ends : (taken rest : List ℕ) (status : Status) (text : List ℕ) → Ends form every first L taken rest status text → Ends form every first L' taken rest status text
  ends taken rest Done text e = (e.0, e.1, finished 1 first _ text e.2)
  ends taken rest Usage text e = absurd e
  ends taken rest (BadInput n fault) text e =
      (e.0, elim e.1 [ inl it ↦ inl (it.0, it.1, named 1 first it.0 text _ it.2) | inr it ↦ inr (it.0, lacking 1 first _ text _ it.1) ])
  ends taken rest (Limit n Line) text e = (e.0, λ more. named 1 first _ text _ (e.1 more))
  ends taken rest (Limit n Input) text e = passed n taken text e
  ends taken rest (Limit n (Ratio over)) text e = (e.0, e.1, e.2, named 1 first e.1 text _ e.3)
  ends taken rest (Limit n (Bound over)) text e = absurd e
  ends taken rest ReadFault text e = (e.0, answered 1 first _ text e.1)
  ends taken rest WriteFault text e = (
    e.0,
    elim e.1 [
      | inl it ↦ inl (it.0, it.1, wrote 1 first it.0 text it.2)
      | inr it ↦ inr (elim it [ inl r ↦ inl (r.0, reported 1 first _ text r.1) | inr f ↦ inr (f.0, finished 1 first _ text f.1) ])
    ],
  )
  ends taken rest KeepFault text e = (e.0, e.1, e.2, unkept 1 first e.1 text e.3)
  ends taken rest NoMemory text e = (
    e.0,
    elim e.1 [
      | inl it ↦
          inl (
            it.0,
            it.1,
            elim it.2 [
              | inl w ↦ inl (wrote 1 first it.0 text w)
              | inr o ↦ inr (elim o [ inl h ↦ inl (held 1 first it.0 text h) | inr u ↦ inr (unkept 1 first it.0 text u) ])
            ],
          )
      | inr r ↦ inr (r.0, reported 1 first _ text r.1)
    ],
  )
  ends taken rest BadStore text e = absurd e
  ends taken rest (WrongStore is_empty) text e = absurd e
  ends taken rest NotFound text e = absurd e
  ends taken rest (NoPast base last) text e = absurd e

  pub weaker_run : (left left' w w' : Option (List ℕ)) (status : Status) → RunEnds form every first L left left' w w' status → RunEnds form every first L' left left' w w' status
  weaker_run left left' w w' status r = (r.0, r.1, r.2, r.3, r.4, ends r.0 r.1 status r.2 r.5)

-- ---- rows that a load left

if_so : (o : Option (List Pair)) (P Q : List Pair → Type 0) → ((now : List Pair) → P now → Q now) → IfSome o P → IfSome o Q
if_so None P Q f h = tt
if_so (Some now) P Q f h = f now h

same_told : (after now : List Pair) → Some now ≡ Some after → after ≡ now
same_told after now e = cc

module _ (rows mid : Option (List Pair)) (honest' : Type 0) (same : Makes (λ before. before) rows mid) (still : honest' → IsSome rows → IsSome mid) where
  -- what is told of them while the keeper is honest
  loaded_before : (P : List Pair → Type 0) → (honest' → IfSome mid P) → honest' → IfSome rows P
  loaded_before P h honest = by rows mid same (still honest) (h honest)
    where
      by : (rows mid : Option (List Pair)) → Makes (λ before. before) rows mid → (IsSome rows → IsSome mid) → IfSome mid P → IfSome rows P
      by None mid same still p = tt
      by (Some now) None same still p = absurd (true≢false (sym (still refl)))
      by (Some now) (Some after) same still p = subst P (same_told after now (told_back (Some now) (Some after) after same refl)) p

  still_loaded : (told' : Option (List Pair)) (P : List Pair → Type 0) → AreLoaded mid told' honest' P → AreLoaded rows told' honest' P
  still_loaded told' P l = record { are = l.are; told = λ h some. l.told h (still h some) }

  module _ (told' : Option (List Pair)) (leaves at leaves' : List Pair → Type 0) (back : honest' → (left : List Pair) → at left → leaves left) where
    left_before : AreLeft (keeper_told mid told' honest' at leaves') → AreLeft (keeper_told rows told' honest' leaves leaves')
    left_before l = record { rows_are = makes_later (λ before. before) rows mid told' same l.rows_are; stop = λ h left may. back h left (l.stop h left may) }

    began_before : (first : Standing) → BeganOnRows (record { first = first; rows = mid }) → BeganOnRows (record { first = first; rows = rows })
    began_before first b = (b.0, told_back rows mid _ same b.1)

    left_in_before : (first s t : Standing) → LeftIn (record { first = first; rows = mid }) told' honest' leaves' s t → LeftIn (record { first = first; rows = rows }) told' honest' leaves' s t
    left_in_before first s t l = record { rows = if_so told' _ _ (λ now h. (began_before first h.0, h.1)) l.rows; stop = λ h some. l.stop h (still h some) }

    run_before : (form : Form) (every : ℕ) (first : Standing) (left left' w w' : Option (List ℕ)) (status : Status) → RunEnds form every first (LeftIn (record { first = first; rows = mid }) told' honest' leaves') left left' w w' status
        → RunEnds form every first (LeftIn (record { first = first; rows = rows }) told' honest' leaves') left left' w w' status
    run_before form every first = weaker_run form every first _ _ (left_in_before first)

    unbegun_before : (status : Status) → IsUnbegun status (AreSome mid told' honest') → IsUnbegun status (AreSome rows told' honest')
    unbegun_before Done h = absurd h
    unbegun_before Usage h = absurd h
    unbegun_before (BadInput n fault) h = absurd h
    unbegun_before (Limit n kind) h = absurd h
    unbegun_before ReadFault h = absurd h
    unbegun_before WriteFault h = absurd h
    unbegun_before KeepFault h = tt
    unbegun_before NoMemory h = tt
    unbegun_before BadStore h = absurd h
    unbegun_before (WrongStore is_empty) h = (h.0, record { some = h.1.some; told = λ honest some. h.1.told honest (still honest some) })
    unbegun_before NotFound h = absurd h
    unbegun_before (NoPast base last) h = absurd h

    unresumed_before : (status : Status) → IsUnresumed status mid told' honest' → IsUnresumed status rows told' honest'
    unresumed_before Done h = absurd h
    unresumed_before Usage h = absurd h
    unresumed_before (BadInput n fault) h = absurd h
    unresumed_before (Limit n kind) h = absurd h
    unresumed_before ReadFault h = absurd h
    unresumed_before WriteFault h = absurd h
    unresumed_before KeepFault h = tt
    unresumed_before NoMemory h = tt
    unresumed_before BadStore h = still_loaded told' _ h
    unresumed_before (WrongStore is_empty) h = (h.0, still_loaded told' _ h.1)
    unresumed_before NotFound h = absurd h
    unresumed_before (NoPast base last) h = absurd h

    went_on_before : (form : Form) (every : ℕ) (left left' w w' : Option (List ℕ)) (status : Status) → GoesOn form every left left' w w' mid told' honest' leaves' status → GoesOn form every left left' w w' rows told' honest' leaves' status
    went_on_before form every left left' w w' status g = record {
      first = g.first;
      storable = g.storable;
      loaded = loaded_before (λ now. AreStateRows now g.first) g.loaded;
      ends = λ p storable alike. run_before form every (Some p) left left' w w' status (g.ends p storable alike);
    }

    unmigrated_before : (status : Status) → IsUnmigrated status mid told' honest' at leaves' → IsUnmigrated status rows told' honest' leaves leaves'
    unmigrated_before status u = record {
      first = u.first;
      storable = u.storable;
      why = u.why;
      loaded = loaded_before (λ now. now ≡ old_rows_of u.first) u.loaded;
      rows_are = makes_later (λ before. before) rows mid told' same u.rows_are;
      stop = λ h some left may. by h left (u.stop h (still h some) left may);
    }
      where
        by : honest' → (left : List Pair) → at left ⊎ (left ≡ rows_of u.first) → leaves left ⊎ (left ≡ rows_of u.first)
        by h left (inl may) = inl (back h left may)
        by h left (inr new) = inr new

    replay_before : (form : Form) (every : ℕ) (left left' w w' : Option (List ℕ)) (status : Status) → ReplayEnds form every (source_told left left') (sink_told w w') (keeper_told mid told' honest' at leaves') status → ReplayEnds form every (source_told left left') (sink_told w w') (keeper_told rows told' honest' leaves leaves') status
    replay_before form every left left' w w' status (inl ends) = inl (run_before form every None left left' w w' status ends)
    replay_before form every left left' w w' status (inr ends) = inr (unbegun_before status ends.0, ends.1, left_before ends.2)

    resume_before : (form : Form) (every : ℕ) (left left' w w' : Option (List ℕ)) (status : Status) → ResumeEnds form every (source_told left left') (sink_told w w') (keeper_told mid told' honest' at leaves') status → ResumeEnds form every (source_told left left') (sink_told w w') (keeper_told rows told' honest' leaves leaves') status
    resume_before form every left left' w w' status (inl g) = inl (went_on_before form every left left' w w' status g)
    resume_before form every left left' w w' status (inr (inl ends)) = inr (inl (unresumed_before status ends.0, ends.1, left_before ends.2))
    resume_before form every left left' w w' status (inr (inr ends)) = inr (inr (unmigrated_before status ends.0, ends.1))

    pub mode_before : (form : Form) (every : ℕ) (m : Mode) → IsCommitting m → (left left' w w' : Option (List ℕ)) (status : Status) → ModeEnds form every m (source_told left left') (sink_told w w') (keeper_told mid told' honest' at leaves') status → ModeEnds form every m (source_told left left') (sink_told w w') (keeper_told rows told' honest' leaves leaves') status
    mode_before form every Replay commits left left' w w' status ends = replay_before form every left left' w w' status ends
    mode_before form every Resume commits left left' w w' status ends = resume_before form every left left' w w' status ends
    mode_before form every (Query what) commits left left' w w' status ends = absurd commits
    mode_before form every Tally commits left left' w w' status ends = absurd commits
    mode_before form every Check commits left left' w w' status ends = absurd commits
    mode_before form every (Statement delegator operator) commits left left' w w' status ends = absurd commits
    mode_before form every (Gen seed count) commits left left' w w' status ends = absurd commits
    mode_before form every (Trial seed count) commits left left' w w' status ends = absurd commits
