-- Questions of a past height: what is answered, and when none is.
use Rattle.std.proofs.Common.{◌≡◌, ◌≢◌, ◌∙◌, ◌⊎◌, inl, inr, true≢false, ℕ, ◌<◌, true, false, List, [], Option, Some, None, IfSome, Err, refl, sym, ap, subst, arith, IsSome}
use Rattle.base_bech32.specs.declared.form.Form.{Form}
use Rattle.base_io.specs.{Changes.Rises, Rows.{Makes, Pair}}
use Rattle.chain_modules.specs.Kept.{StandsFor}
use Rattle.chain_whole.specs.Chained.{Chained}
use Rattle.line_report.specs.{declared.question.Query.Query, Asking.answered_by}
use Rattle.rule_machine.specs.Report.{report_of}
use Rattle.rule_modules.specs.Chain.{State}
use Rattle.store_history.specs.{declared.going_back.PastFault.PastFault, Answers.{IsOutside, IsWithin, Tells}}
use Rattle.store_history.{specs.History.{ArePast, IsHistory, base_of, last_of}, proofs.PastLemmas.is_one}
use Rattle.store_history.specs.declared.going_back.PastFault.TheVariants as past
use Rattle.store_resuming.specs.declared.fault.RestoreFault.{RestoreFault}
use Rattle.store_resuming.specs.Restored.{AreLoaded, AreOfNone, AreStateRows, HaveSameRows}
use Rattle.store_resuming.specs.Restoring.{InOrder, IsChainOf, IsNoChain, IsUnrestored}
use Rattle.store_resuming.specs.declared.fault.RestoreFault.TheVariants as fault
use Rattle.run_app.specs.declared.status.Status.{Status}
use Rattle.run_app.specs.declared.status.Status.TheVariants.{Done, Usage, BadInput, Limit, ReadFault, WriteFault, KeepFault, NoMemory, BadStore, WrongStore, NotFound, NoPast}
use Rattle.run_app.specs.Counts.{Moved, is_keep_fault, is_read_fault, is_write_fault}
use Rattle.run_app.specs.Histories.{AreBadAt, AreRowsAt, AskedAt, FitsPast, IsRefusedAt, IsUnasked, PastAnswers, PastEnds, TellPast, status_of_past}
use Rattle.run_app.specs.{Resumes.{Answers, IsAnswered, status_of_restore}, Writes.Adds, Seen.{keeper_told, sink_told}}
use Rattle.run_app.proofs.ModeLemmas.{written_to_end}

-- ---- the past rows of a list

-- what is known of past rows that were told
abbrev WereTold : List Pair → ℕ → List Pair → Type 0
WereTold rows height stood = Rises rows → ((last : ℕ) × IsWithin rows height last) × ArePast rows height stood

pub asked_at : (form : Form) (height : ℕ) (what : Query) (rows stood : List Pair) (chain : Chained) (w w' : Option (List ℕ)) (s : Status) → WereTold rows height stood → IsChainOf (InOrder stood) chain
    → ((p : State) → StandsFor chain.kept p → Answers (answered_by form (report_of p) what) w w' s) → AskedAt form height what (InOrder rows) w w' s
asked_at form height what rows stood chain w w' s told c answers = record {
  first = c.first;
  storable = c.storable;
  rows_are = λ up. let r = told up in (stood, record { within = r.0; are = r.1 }, c.rows_are r.1.rises);
  answered = λ p storable alike. answers p (c.stands p storable alike);
}

pub refused_past : (height : ℕ) (rows : List Pair) (f : PastFault) → (Rises rows → Tells rows height (Err f)) → IsRefusedAt height (InOrder rows) (status_of_past f)
refused_past height rows past.BadHistory h = λ up. inl (h up)
refused_past height rows (past.NoPast base last) h = h
refused_past height rows past.NoMemory h = tt

pub refused_chain : (height : ℕ) (rows stood : List Pair) (e : RestoreFault) → WereTold rows height stood → IsNoChain AreOfNone stood e → IsRefusedAt height (InOrder rows) (status_of_restore e)
refused_chain height rows stood fault.Failed told none = absurd none
refused_chain height rows stood fault.NoMemory told none = tt
refused_chain height rows stood fault.Empty told none = absurd none
refused_chain height rows stood fault.Unsound told none = λ up. let r = told up in inr (stood, record { within = r.0; are = r.1 }, none r.1.rises)

-- ---- by which statuses

pub past_busy : (f : PastFault) → status_of_past f ≡ Usage → ⊥
past_busy past.BadHistory e = cc
past_busy (past.NoPast base last) e = cc
past_busy past.NoMemory e = cc

pub past_unread : (f : PastFault) → is_read_fault (status_of_past f) ≡ false
past_unread past.BadHistory = refl
past_unread (past.NoPast base last) = refl
past_unread past.NoMemory = refl

pub past_unkept : (f : PastFault) → is_keep_fault (status_of_past f) ≡ false
past_unkept past.BadHistory = refl
past_unkept (past.NoPast base last) = refl
past_unkept past.NoMemory = refl

pub past_writes : (f : PastFault) (count : ℕ) (P : Type 0) → Moved (is_write_fault (status_of_past f)) count count × (status_of_past f ≡ Done → P)
past_writes past.BadHistory count P = (refl, λ e. absurd cc)
past_writes (past.NoPast base last) count P = (refl, λ e. absurd cc)
past_writes past.NoMemory count P = (refl, λ e. absurd cc)

-- the chain of rows in memory fails by no keeper
pub chain_unkept : (stood : List Pair) (e : RestoreFault) → IsNoChain AreOfNone stood e → is_keep_fault (status_of_restore e) ≡ false
chain_unkept stood fault.Failed none = absurd none
chain_unkept stood fault.NoMemory none = refl
chain_unkept stood fault.Empty none = absurd none
chain_unkept stood fault.Unsound none = refl

-- ---- rows that were not loaded, or are none

pub not_loaded : (height : ℕ) (f : RestoreFault) (rows rows' : Option (List Pair)) (honest' : Type 0) → f ≢ fault.Unsound → IsUnrestored rows rows' honest' f → IsUnasked height (status_of_restore f) rows rows' honest'
not_loaded height fault.Failed rows rows' honest' unjudged h = tt
not_loaded height fault.NoMemory rows rows' honest' unjudged h = tt
not_loaded height fault.Empty rows rows' honest' unjudged h = (refl, h)
not_loaded height fault.Unsound rows rows' honest' unjudged h = absurd (unjudged refl)

-- ---- rows that were loaded

module _ (rows rows' : Option (List Pair)) (honest' : Type 0) (list : List Pair) (are : IfSome rows' (λ now. list ≡ now)) (up : IfSome rows' Rises) (told : honest' → IsSome rows → IsSome rows') where
  in_order : (P : List Pair → Type 0) → InOrder list P → AreLoaded rows rows' honest' P
  in_order P h = record { are = by rows' are up; told = told }
    where
      by : (o : Option (List Pair)) → IfSome o (λ now. list ≡ now) → IfSome o Rises → IfSome o P
      by None same rises = tt
      by (Some now) same rises = subst P same (h (subst (λ (ps : List Pair). Rises ps) (sym same) rises))

  unasked : (height : ℕ) → list ≢ [] → (s : Status) → IsRefusedAt height (InOrder list) s → IsUnasked height s rows rows' honest'
  unasked height some Done h = absurd h
  unasked height some Usage h = absurd h
  unasked height some (BadInput n f) h = absurd h
  unasked height some (Limit n kind) h = absurd h
  unasked height some ReadFault h = absurd h
  unasked height some WriteFault h = absurd h
  unasked height some KeepFault h = absurd h
  unasked height some NoMemory h = tt
  unasked height some BadStore h = in_order (λ now. (now ≢ []) × AreBadAt height now) (λ rises. (some, h rises))
  unasked height some (WrongStore is_empty) h = absurd h
  unasked height some NotFound h = absurd h
  unasked height some (NoPast base last) h = in_order (λ now. IsOutside now height base last) h

  pub past_loaded : (form : Form) (height : ℕ) (what : Query) (w w' : Option (List ℕ)) (s : Status) → list ≢ [] → PastAnswers form height what (InOrder list) w w' s
      → AskedAt form height what (AreLoaded rows rows' honest') w w' s ⊎ (IsUnasked height s rows rows' honest' × Adds w w' (λ text. text ≡ []))
  past_loaded form height what w w' s some (inl a) = inl (record { first = a.first; storable = a.storable; rows_are = in_order (AreRowsAt height a.first) a.rows_are; answered = a.answered })
  past_loaded form height what w w' s some (inr (why, none)) = inr (unasked height some s why, none)

-- ---- questions that come to their end

told_now : (rows rows' : Option (List Pair)) (now : List Pair) (P : List Pair → Type 0) → rows ≡ Some now → Makes (λ before. before) rows rows' → IsSome rows' → IfSome rows' P → P now
told_now rows None now P is same some h = absurd (true≢false (sym some))
told_now rows (Some after) now P is same some h =
    let e : after ≡ now = same_now after now (sym is ∙ same.1 ∙ ap (λ (r : List Pair). Some r) (sym same.2)) in
    subst P e h
  where
    same_now : (after now : List Pair) → Some now ≡ Some after → after ≡ now
    same_now after now e = cc

-- past rows are told one way
same_past : (now stood other : List Pair) (height : ℕ) → TellPast now height stood → TellPast now height other → stood ≡ other
same_past now stood other height a b = is_one now height stood other a.are b.are

same_last : (a b : ℕ) (o : Option ℕ) → o ≡ Some a → o ≡ Some b → a ≡ b
same_last a b o e f = cc

not_outside : (now : List Pair) (height base last last' : ℕ) → IsWithin now height last' → IsOutside now height base last → ⊥
not_outside now height base last last' within outside =
    let same : last ≡ last' = same_last last last' (last_of now) outside.last_is within.last_is in
    let base_is : base ≡ base_of now last' = outside.base_is ∙ ap (base_of now) same in
    by outside.outside same base_is
  where
    by : (height < base) ⊎ (last < height) → last ≡ last' → base ≡ base_of now last' → ⊥
    by (inl below) same base_is = let low = within.low in omega (arith, below, low, base_is)
    by (inr above) same base_is = let high = within.high in omega (arith, above, high, same)

no_last : (now : List Pair) (last : ℕ) → now ≡ [] → last_of now ≡ Some last → ⊥
no_last now last none is = let e : last_of [] ≡ Some last = subst (λ (ps : List Pair). last_of ps ≡ Some last) none is in cc

headless : (now : List Pair) (height last : ℕ) → IsWithin now height last → (IsHistory now → last_of now ≡ None) → ⊥
headless now height last within bad = let e : None ≡ Some last = sym (bad within.history) ∙ within.last_is in cc

module _ (form : Form) (height : ℕ) (what : Query) (rows rows' : Option (List Pair)) (honest' : Type 0) (faults faults' : ℕ) (fits : FitsPast form height what rows honest' faults faults') (same : Makes (λ before. before) rows rows') where
  told_then : (P : List Pair → Type 0) → AreLoaded rows rows' honest' P → P fits.now
  told_then P l = told_now rows rows' fits.now P fits.rows_are same (l.told fits.honest (subst (λ (o : Option (List Pair)). IsSome o) (sym fits.rows_are) refl)) l.are

  unasked_ends : (s : Status) → IsUnasked height s rows rows' honest' → (s ≡ KeepFault → ⊥) → (s ≡ Done) ⊎ (s ≡ NoMemory)
  unasked_ends Done h keep = absurd h
  unasked_ends Usage h keep = absurd h
  unasked_ends (BadInput n f) h keep = absurd h
  unasked_ends (Limit n kind) h keep = absurd h
  unasked_ends ReadFault h keep = absurd h
  unasked_ends WriteFault h keep = absurd h
  unasked_ends KeepFault h keep = absurd (keep refl)
  unasked_ends NoMemory h keep = inr refl
  unasked_ends BadStore h keep = absurd (bad (told_then (λ now. (now ≢ []) × AreBadAt height now) h).1)
    where
      bad : AreBadAt height fits.now → ⊥
      bad (inl none) = let w = fits.at.1.within in headless fits.now height w.0 w.1 none
      bad (inr (stood, tell, none)) =
          let one : fits.at.0 ≡ stood = same_past fits.now fits.at.0 stood height fits.at.1 tell in
          none fits.state fits.storable (subst (λ (ps : List Pair). AreStateRows ps fits.state) one fits.at.2)
  unasked_ends (WrongStore is_empty) h keep =
      let w = fits.at.1.within in
      absurd (no_last fits.now w.0 (told_then (λ now. now ≡ []) h.1) w.1.last_is)
  unasked_ends NotFound h keep = absurd h
  unasked_ends (NoPast base last) h keep =
      let w = fits.at.1.within in
      absurd (not_outside fits.now height base last w.0 w.1 (told_then (λ now. IsOutside now height base last) h))

  asked_ends : (w w' : Option (List ℕ)) (s : Status) → AskedAt form height what (AreLoaded rows rows' honest') w w' s → (s ≡ WriteFault → ⊥) → (s ≡ Done) ⊎ (s ≡ NoMemory)
  asked_ends w w' s a write =
      let there = told_then (AreRowsAt height a.first) a.rows_are in
      let one : there.0 ≡ fits.at.0 = same_past fits.now there.0 fits.at.0 height there.1 fits.at.1 in
      let alike : HaveSameRows fits.state a.first = (fits.at.0, fits.at.2, subst (λ (ps : List Pair). AreStateRows ps a.first) one there.2) in
      let told = a.answered fits.state fits.storable alike in
      let text : IsAnswered (Some fits.answer.0) s told.0 = subst (λ (o : Option (List ℕ)). IsAnswered o s told.0) fits.answer.1 told.2 in
      written_to_end fits.answer.0 told.0 s text write

  pub past_ends : (left left' w w' : Option (List ℕ)) (leaves leaves' : List Pair → Type 0) (s : Status) → PastEnds form height what (sink_told w w') (keeper_told rows rows' honest' leaves leaves') s → (s ≡ WriteFault → ⊥) → (s ≡ KeepFault → ⊥) → (s ≡ Done) ⊎ (s ≡ NoMemory)
  past_ends left left' w w' leaves leaves' s (are, inl a) write keep = asked_ends w w' s a write
  past_ends left left' w w' leaves leaves' s (are, inr (why, none)) write keep = unasked_ends s why keep
