-- Ballots that are counted over the rows of a keeper.
use Rattle.std.proofs.Common.{◌≡◌, ◌∙◌, ◌⊎◌, inl, inr, ℕ, ◌+◌, ◌≤◌, List, [], ◌∷◌, ◌++◌, length, length-append, Option, Result, Ok, Err, refl, ap, subst, arith}
use Rattle.base_bech32.specs.declared.form.Form.{Form}
use Rattle.base_io.specs.{Outside.Rose, Rows.{Makes, Pair}}
use Rattle.base_roles.specs.{declared.items.Item.Item, Entries.at, Staked.Staked}
use Rattle.base_types.specs.Orders.{addr_cmp}
use Rattle.chain_modules.specs.Kept.{StandsFor}
use Rattle.chain_whole.specs.Chained.{Chained}
use Rattle.line_ballots.specs.Ballots.{text_of_tally}
use Rattle.mod_tally.specs.{declared.{outcome.{Tally.{Tally as Totals}}}, Ballots.{Cast, Chosen, chosen_in}}
use Rattle.mod_tally.specs.{Laws.IsTallied, Taken.staked_in, Tally.tally_of}
use Rattle.rule_machine.specs.Items.{items_of}
use Rattle.rule_modules.specs.{Chain.State, Sound.IsSound}
use Rattle.store_resuming.specs.{declared.fault.RestoreFault.RestoreFault, Restored.{AreLoaded, AreStateRows}}
use Rattle.store_resuming.specs.Restoring.{IsChainOf, IsUnrestored}
use Rattle.run_app.specs.declared.status.Status.{Status}
use Rattle.run_app.specs.declared.status.Status.TheVariants.{Done, Usage, BadInput, Limit, ReadFault, WriteFault, KeepFault, NoMemory, BadStore, WrongStore, NotFound, NoPast}
use Rattle.run_app.specs.declared.status.{LimitKind.TheVariants.{Line, Input, Ratio, Bound}, LineStop.LineStop}
use Rattle.run_app.specs.Ballots.{AllAreKept, AreUncounted, IsOfBallots, IsUncounted, Kept, cast_from, cast_in}
use Rattle.run_app.specs.{Lines.lines_of, Outcome.most_bytes, Resumes.status_of_restore}
use Rattle.run_app.specs.{Tallies.{Counts, TalliesCalmly, TallyEnds, text_of_cast}, Writes.{IsWritten, Writes}}
use Rattle.run_app.{specs.Seen.{keeper_told, sink_told, source_told}, proofs.BallotLemmas.stopped_front}
use Rattle.run_app.proofs.ModeLemmas.{nothing, nothing_done, rows_left, written_to_end}
use Rattle.run_app.proofs.{ResumeLemmas.{alike_of, never_unresumed, unresumed, were_loaded}, RunLemmas.no_growth}
use Rattle.run_app.proofs.StopLemmas.{ended_first}
use Rattle.run_app.specs.declared.status.LineStop.TheVariants as stop

-- ---- the line of a tally

-- a tally over the items of a state is one over its validators and delegations; its line begins a text
pub tally_told : (w : State) (items : List Item) (t : Totals) (chosen : Chosen) (before text : List ℕ) → IsTallied w → items ≡ items_of w → t ≡ tally_of (staked_in items) chosen → before ≡ [] → text ≡ before ++ text_of_tally t
    → text ≡ text_of_tally (tally_of w.mine.staked chosen)
tally_told w items t chosen before text law is counted none written =
    written ∙ ap (λ (b : List ℕ). b ++ text_of_tally t) none ∙ ap text_of_tally (counted ∙ ap (λ (s : Staked). tally_of s chosen) (ap staked_in is ∙ law.told))

-- what is kept of ballots counts as what was cast
text_of_kept : (s : Staked) (cast : Cast) (kept : Kept) → ((voter : List ℕ) → at addr_cmp kept voter ≡ chosen_in cast voter) → text_of_tally (tally_of s (at addr_cmp kept)) ≡ text_of_cast s cast
text_of_kept s cast kept h =
    let same : ◌≡◌ {A = Chosen} (at addr_cmp kept) (chosen_in cast) = λ i voter. h voter i in
    ap (λ (chosen : Chosen). text_of_tally (tally_of s chosen)) same

pub written_as : (text whole : List ℕ) (w w' : Option (List ℕ)) (s : Status) → text ≡ whole → Writes text w w' s → Writes whole w w' s
written_as text whole w w' s is h = subst (λ (t : List ℕ). Writes t w w' s) is h

pub unwritten : (whole : List ℕ) (w : Option (List ℕ)) → Writes whole w w NoMemory
unwritten whole w = nothing w _ (record { rest = whole; text_is = refl })

-- ---- an input that was counted, or not

pub counted_all : (form : Form) (s : Staked) (left left' w w' : Option (List ℕ)) (kept : Kept) (status : Status) → AllAreKept form left left' kept → Writes (text_of_tally (tally_of s (at addr_cmp kept))) w w' status → Counts form s left left' w w' status
counted_all form s left left' w w' kept status a e =
    let written : IsWritten (text_of_cast s a.3.cast) status e.0 = subst (λ (whole : List ℕ). IsWritten whole status e.0) (text_of_kept s a.3.cast kept a.3.last) e.2 in
    (a.0, [], e.0, a.1, e.1, inl (record { cast = a.3.cast; end = refl; short = a.2; read = a.3.read; written = written }))

pub counted_none : (form : Form) (s : Staked) (left left' w : Option (List ℕ)) (status : Status) → AreUncounted form left left' status → Counts form s left left' w w status
counted_none form s left left' w status u = (u.0, u.1, [], u.2, no_growth w, inr (u.3, refl))

-- statuses that an input that was not counted does not end by
pub uncounted_busy : (s : Status) → IsOfBallots s → s ≡ Usage → ⊥
uncounted_busy s of e = subst IsOfBallots e of

pub uncounted_undone : (s : Status) → IsOfBallots s → s ≡ Done → ⊥
uncounted_undone s of e = subst IsOfBallots e of

pub uncounted_kept : (s : Status) → IsOfBallots s → s ≡ KeepFault → ⊥
uncounted_kept s of e = subst IsOfBallots e of

pub uncounted_unwritten : (s : Status) → IsOfBallots s → s ≡ WriteFault → ⊥
uncounted_unwritten s of e = subst IsOfBallots e of

-- ---- the rows

module _ (form : Form) (left left' w w' : Option (List ℕ)) (rows rows' : Option (List Pair)) (honest' : Type 0) (leaves leaves' : List Pair → Type 0) (same : Makes (λ before. before) rows rows') (stop : honest' → (l : List Pair) → leaves' l → leaves l) where
  pub tallied : (s : Status) (chain : Chained) → IsChainOf (AreLoaded rows rows' honest') chain → ((p : State) → IsSound p → StandsFor chain.kept p → Counts form p.mine.staked left left' w w' s) → TallyEnds form (source_told left left') (sink_told w w') (keeper_told rows rows' honest' leaves leaves') s
  tallied s chain c counts = (
    rows_left rows rows' honest' leaves leaves' same stop,
    inl (record { first = c.first; storable = c.storable; loaded = c.rows_are; counts = λ p q alike. counts p q.sound (c.stands p q alike) }),
  )

pub not_tallied : (form : Form) (f : RestoreFault) (left w : Option (List ℕ)) (rows rows' : Option (List Pair)) (honest' : Type 0) (leaves leaves' : List Pair → Type 0) → IsUnrestored rows rows' honest' f → Makes (λ before. before) rows rows' → (honest' → (l : List Pair) → leaves' l → leaves l)
    → TallyEnds form (source_told left left) (sink_told w w) (keeper_told rows rows' honest' leaves leaves') (status_of_restore f)
not_tallied form f left w rows rows' honest' leaves leaves' h same stop = (rows_left rows rows' honest' leaves leaves' same stop, inr (unresumed f rows rows' honest' h, nothing_done left w))

-- ---- runs that come to their end

never_both : (r : Result Cast LineStop) (cast : Cast) (why : LineStop) → r ≡ Ok cast → r ≡ Err why → ⊥
never_both r cast why good bad = absurd cc

module _ (form : Form) (input taken rest : List ℕ) (cast : Cast) (good : cast_in form input ≡ Ok cast) (short : length input ≤ most_bytes) (is : input ≡ taken ++ rest) where
  -- ballots within the limit are all counted
  never_uncounted : (s : Status) → IsUncounted form s taken rest → (s ≡ ReadFault → ⊥) → (s ≡ Done) ⊎ (s ≡ NoMemory)
  never_uncounted Done h read = inl refl
  never_uncounted Usage h read = absurd h
  never_uncounted (BadInput n fault) h read =
      let more = ended_first h.1 taken rest h.2 in
      absurd (never_both (cast_in form input) cast (stop.BadInput n fault) good (ap (cast_from form 1) (ap lines_of is ∙ more.1) ∙ stopped_front form 1 h.1 more.0 (stop.BadInput n fault) h.3))
  never_uncounted (Limit n Line) h read = absurd (never_both (cast_in form input) cast (stop.Long n) good (ap (cast_in form) is ∙ h.1 rest))
  never_uncounted (Limit n Input) h read =
      let one : length taken ≡ most_bytes + 1 = ap length h.taken_is ∙ length-append h.bytes (h.byte ∷ []) ∙ ap (λ (m : ℕ). m + 1) h.full in
      let all : length input ≡ length taken + length rest = ap length is ∙ length-append taken rest in
      absurd (omega arith)
  never_uncounted (Limit n (Ratio over)) h read = absurd h
  never_uncounted (Limit n (Bound over)) h read = absurd h
  never_uncounted ReadFault h read = absurd (read refl)
  never_uncounted WriteFault h read = absurd h
  never_uncounted KeepFault h read = absurd h
  never_uncounted NoMemory h read = inr refl
  never_uncounted BadStore h read = absurd h
  never_uncounted (WrongStore is_empty) h read = absurd h
  never_uncounted NotFound h read = absurd h
  never_uncounted (NoPast base last) h read = absurd h

pub untroubled_tally : (form : Form) (left left' w w' : Option (List ℕ)) (rows rows' : Option (List Pair)) (honest' : Type 0) (leaves leaves' : List Pair → Type 0) (faults faults' : ℕ) (s : Status) → TallyEnds form (source_told left left') (sink_told w w') (keeper_told rows rows' honest' leaves leaves') s → TalliesCalmly form left rows honest' faults faults'
    → (s ≡ ReadFault → ⊥) → (s ≡ WriteFault → ⊥) → (s ≡ KeepFault → Rose faults faults') → (s ≡ Done) ⊎ (s ≡ NoMemory)
untroubled_tally form left left' w w' rows rows' honest' leaves leaves' faults faults' s (kept, inl tally) calm read write keep =
    let b = calm.0 in
    let p = calm.1.0 in
    let fits = calm.1.1 in
    let alike = alike_of p tally.first rows honest' faults faults' fits (were_loaded rows rows' honest' (λ now. AreStateRows now tally.first) tally.loaded kept.rows_are fits.honest) in
    let e = tally.counts p fits.storable alike in
    let told = e.3 b.input b.left_is in
    elim e.5 [
      | inl c ↦ written_to_end _ e.2 s c.written write
      | inr u ↦ never_uncounted form b.input e.0 e.1 b.cast b.good b.short told.0 s u.0 read
    ]
untroubled_tally form left left' w w' rows rows' honest' leaves leaves' faults faults' s (kept, inr none) calm read write keep =
    never_unresumed calm.1.0 rows rows' honest' faults faults' calm.1.1 kept.rows_are s none.0 keep
