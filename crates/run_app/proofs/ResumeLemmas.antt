-- Runs that go on from the rows of their keeper.
use Rattle.std.proofs.Common.{◌≡◌, ◌≢◌, ◌∙◌, ◌⊎◌, inl, inr, ℕ, true, false, true≢false, List, [], ◌∷◌, Option, Some, None, Result, Ok, Err, IfSome, refl, sym, ap, subst, Ordering, Less, Equal, Greater, IsErrOf}
use Rattle.std.specs.{Prelude.⊤, List.AllByRecursion, Ordering.match_ordering}
use Rattle.base_bech32.specs.declared.form.Form.{Form}
use Rattle.chain_whole.specs.Chained.{Chained}
use Rattle.base_io.specs.{declared.{keeper.{Change.Change, KeepFault.{KeepFault as Unkept}}}, Outside.Rose}
use Rattle.base_io.specs.Rows.{Makes, Pair, key_cmp, put}
use Rattle.base_io.specs.Changes.{ChangeRows, ChangesRows, IsOrdinary, LeavesRows, changed}
use Rattle.base_roles.specs.declared.items.Item.{Item}
use Rattle.rule_machine.specs.{Items.items_of, Report.report_of}
use Rattle.chain_modules.specs.Kept.{StandsFor}
use Rattle.line_report.specs.{declared.question.Query.Query, Asking.answered_by}
use Rattle.store_resuming.specs.declared.fault.RestoreFault.{RestoreFault}
use Rattle.store_resuming.specs.Restored.{AreLoaded, AreOfNone, AreStateRows, HaveSameRows, IsStorable, old_rows_of, rows_of, state_rows}
use Rattle.store_resuming.specs.Restoring.{AreBrought, AreMigrated, IsChainOf, IsOfNothing, IsRestored, IsUnrestored, UnlessFailed}
use Rattle.store_resuming.proofs.RestoreLemmas.{formats_same, same_itself}
use Rattle.store_resuming.specs.declared.fault.RestoreFault.TheVariants as fault
use Rattle.store_commits.specs.Commits.{Commits, LeadTo}
use Rattle.store_rows.specs.{declared.format.Format.{Format, TheVariants.Second}, Rows.row_in}
use Rattle.rule_modules.specs.Chain.{State}
use Rattle.store_items.specs.Stored.{AreStored, rows_as, rows_in}
use Rattle.run_app.specs.declared.status.Status.{Status}
use Rattle.run_app.specs.declared.status.Status.TheVariants.{Done, Usage, BadInput, Limit, ReadFault, WriteFault, KeepFault, NoMemory, BadStore, WrongStore, NotFound, NoPast}
use Rattle.run_app.specs.Counts.{Moved, is_keep_fault, is_read_fault, is_write_fault}
use Rattle.run_app.specs.{Kept.{Began, BeganOnRows, Keeping, LeftIn}, Outcome.RunEnds}
use Rattle.run_app.specs.Resumes.{Answers, AsksCalmly, FitsState, GoesOn, IsAnswered, IsUnresumed, QueryEnds, ResumeEnds, ResumesCalmly, on_rows_of, status_of_restore}
use Rattle.run_app.specs.{Unkept.IsOfNoRows, Writes.Writes, Seen.{keeper_told, sink_told, source_told}}
use Rattle.run_app.proofs.{DriveLemmas.untroubled_run, ModeLemmas.{nothing, nothing_done, rows_left, written_to_end}}

-- ---- rows that were loaded

-- rows that an honest keeper had are those that it told as they were loaded
pub were_loaded : (rows told : Option (List Pair)) (honest : Type 0) (P : List Pair → Type 0) → AreLoaded rows told honest P → Makes (λ before. before) rows told → honest → IfSome rows P
were_loaded None told honest P loaded same h = tt
were_loaded (Some r) None honest P loaded same h = absurd (true≢false (sym (loaded.told h refl)))
were_loaded (Some r) (Some now) honest P loaded same h =
    let is : r ≡ same.0 = some_same same.1 in
    subst P (same.2 ∙ sym is) loaded.are
  where
    some_same : Some r ≡ Some same.0 → r ≡ same.0
    some_same e = cc

pub at_rows : (rows : Option (List Pair)) (now : List Pair) (P : List Pair → Type 0) → rows ≡ Some now → IfSome rows P → P now
at_rows rows now P is h = subst (λ (o : Option (List Pair)). IfSome o P) is h

-- ---- a run that goes on

-- rows that one call left, and then another
left_twice : (rows told told' : Option (List Pair)) → Makes (λ before. before) rows told → Makes (λ before. before) told told' → Makes (λ before. before) rows told'
left_twice rows told None a b = tt
left_twice rows told (Some now) a b =
    let m = subst (λ (o : Option (List Pair)). Makes (λ before. before) rows o) b.1 a in
    (m.0, m.1, b.2 ∙ m.2)

if_told : (o : Option (List Pair)) (P Q : List Pair → Type 0) → IfSome o P → ((now : List Pair) → P now → Q now) → IfSome o Q
if_told None P Q h f = tt
if_told (Some now) P Q h f = f now h

abbrev unmade : Unkept → Result ⊤ Unkept
unmade why = Err why

-- where a commit fails there are changes
pub never_none : (list : List Change) (why : Unkept) → (list ≡ [] → unmade why ≡ Ok tt) → list ≡ [] → ⊥
never_none list why h none = let e : unmade why ≡ Ok tt = h none in cc

module _ (form : Form) (rows told : Option (List Pair)) (honest : Type 0) (chain : Chained) (list : List Change) (r : IsRestored (AreLoaded rows told honest) chain list) (same : Makes (λ before. before) rows told) where
  abbrev first : State
  first = r.restored.first

  -- the changes lead to the rows of each state that the chain stands for
  leads : (p : State) → IsStorable p → HaveSameRows p first → LeadTo (items_of p) list told
  leads p q alike = record { stored = λ some. q.stored; rows = by r.brought }
    where
      alike_too : rows_of first ≡ rows_in (items_of p)
      alike_too = sym (formats_same p first q r.restored.storable alike Second)

      by : AreBrought (AreLoaded rows told honest) first list → IfSome told (λ now. changed list now ≡ rows_in (items_of p))
      by (inl (are, none)) = if_told told (λ now. now ≡ rows_of first) (λ now. changed list now ≡ rows_in (items_of p)) are.are (λ now is. ap (λ (l : List Change). changed l now) none ∙ is ∙ alike_too)
      by (inr (are, ordinary)) = if_told told (AreMigrated first list) (λ now. changed list now ≡ rows_in (items_of p)) are.are (λ now m. ap (changed list) m.0 ∙ m.1.reached ∙ alike_too)

  pub leads_first : LeadTo (items_of first) list told
  leads_first = leads first r.restored.storable (same_itself first)

  -- each change changes the rows, and every keeper takes them
  pub each_changes : ChangeRows list told
  each_changes now is = by r.brought
    where
      by : AreBrought (AreLoaded rows told honest) first list → AllByRecursion (ChangesRows now) list
      by (inl (are, none)) = subst (AllByRecursion (ChangesRows now)) (sym none) tt
      by (inr (are, ordinary)) =
          let m : AreMigrated first list now = subst (λ (o : Option (List Pair)). IfSome o (AreMigrated first list)) is are.are in
          subst (λ (ps : List Pair). AllByRecursion (ChangesRows ps) list) (sym m.0) m.1.changing

  pub all_taken : (list ≡ []) ⊎ IsOrdinary list
  all_taken = by r.brought
    where
      by : AreBrought (AreLoaded rows told honest) first list → (list ≡ []) ⊎ IsOrdinary list
      by (inl (are, none)) = inl none
      by (inr (are, ordinary)) = inr ordinary

  module _ (told' : Option (List Pair)) (honest' : Type 0) (leaves leaves' : List Pair → Type 0) where
    -- rows that were brought to the format that is written
    module _ (settled : LeavesRows leaves told) (commits : (items : List Item) → LeadTo items list told → Commits (Ok tt) items told told' honest honest' leaves leaves') where
      pub resumed : (p : State) → IsStorable p → HaveSameRows p first → Keeping (on_rows_of p rows) (Some chain) told' honest' leaves' (Some p) (Some p)
      resumed p q alike = record {
        stands = r.restored.stands p q alike;
        same = subst (λ m. StandsFor m p) (sym r.restored.settled) (r.restored.stands p q alike);
        held = record { stored = k.stored; rows = held told' k.ok };
        began = began told' k.ok;
        tells = λ h some. k.told h (r.restored.rows_are.told (k.back h) some);
        settled = k.settled settled;
      }
        where
          k : Commits (Ok tt) (items_of p) told told' honest honest' leaves leaves'
          k = commits (items_of p) (leads p q alike)

          held : (o : Option (List Pair)) → Makes (λ before. rows_in (items_of p)) told o → IfSome o (λ now. now ≡ rows_in (items_of p))
          held None m = tt
          held (Some now) m = m.2

          began : (o : Option (List Pair)) → Makes (λ before. rows_in (items_of p)) told o → IfSome o (λ now. BeganOnRows (on_rows_of p rows))
          began None m = tt
          began (Some now) m =
              let (f, are) = subst (λ (o : Option (List Pair)). IfSome o (λ now. AreStateRows now first)) m.1 r.restored.rows_are.are in
              let was = subst (λ (o : Option (List Pair)). Makes (λ before. before) rows o) m.1 same in
              (f, was.1 ∙ ap Some (sym was.2 ∙ are ∙ sym (formats_same p first q r.restored.storable alike f)))

      pub resumed_first : Keeping (on_rows_of first rows) (Some chain) told' honest' leaves' (Some first) (Some first)
      resumed_first = resumed first r.restored.storable (same_itself first)

      module _ (every : ℕ) (left left' w w' : Option (List ℕ)) (rows' : Option (List Pair)) (honest'' : Type 0) (leaves'' : List Pair → Type 0) (s : Status) where
        pub went_on : (honest'' → honest') → (honest' → honest)
            → ((b : Began) → Keeping b (Some chain) told' honest' leaves' b.first b.first → RunEnds form every b.first (LeftIn b rows' honest'' leaves'') left left' w w' s)
            → GoesOn form every left left' w w' rows rows' honest'' leaves'' s
        went_on later back ends = record {
          first = first;
          storable = r.restored.storable;
          loaded = λ h. were_loaded rows told honest (λ now. AreStateRows now first) r.restored.rows_are same (back (later h));
          ends = λ p q alike. ends (on_rows_of p rows) (resumed p q alike);
        }

    -- or were not
    pub not_brought : (every : ℕ) (before : List Pair → Type 0) (why : Unkept) (left w : Option (List ℕ)) (s : Status) → (s ≡ KeepFault) ⊎ (s ≡ NoMemory) → (list ≡ [] → ⊥) → Commits (Err why) (items_of first) told told' honest honest' leaves leaves' → (honest → (l : List Pair) → leaves l → before l)
        → ResumeEnds form every (source_told left left) (sink_told w w) (keeper_told rows told' honest' before leaves') s
    not_brought every before why left w s is some k stop = inr (inr (
      record {
        first = first;
        storable = r.restored.storable;
        why = is;
        loaded = λ h. were_loaded rows told honest (λ now. now ≡ old_rows_of first) (old r.brought) same (k.back h);
        rows_are = left_twice rows told told' same k.err;
        stop = λ h told_first l may. by (k.back h) l (k.stop h (r.restored.rows_are.told (k.back h) told_first) l may);
      },
      nothing_done left w,
    ))
      where
        old : AreBrought (AreLoaded rows told honest) first list → AreLoaded rows told honest (λ now. now ≡ old_rows_of first)
        old (inl (are, none)) = absurd (some none)
        old (inr (are, ordinary)) = record { are = if_told told (AreMigrated first list) (λ now. now ≡ old_rows_of first) are.are (λ now m. m.0); told = are.told }

        by : honest → (l : List Pair) → leaves l ⊎ ((l ≡ rows_in (items_of first)) × AreStored (items_of first)) → before l ⊎ (l ≡ rows_of first)
        by h l (inl may) = inl (stop h l may)
        by h l (inr new) = inr new.0

-- ---- a run of which no chain comes

abbrev pub failed : {X : Type 0} → RestoreFault → Result X RestoreFault
failed f = Err f

pub unresumed : (f : RestoreFault) (rows rows' : Option (List Pair)) (honest' : Type 0) → IsUnrestored rows rows' honest' f → IsUnresumed (status_of_restore f) rows rows' honest'
unresumed fault.Failed rows rows' honest' h = tt
unresumed fault.NoMemory rows rows' honest' h = tt
unresumed fault.Empty rows rows' honest' h = (refl, h)
unresumed fault.Unsound rows rows' honest' h = h

pub not_resumed : (form : Form) (every : ℕ) (f : RestoreFault) (left w : Option (List ℕ)) (rows rows' : Option (List Pair)) (honest' : Type 0) (leaves leaves' : List Pair → Type 0) → IsUnrestored rows rows' honest' f → Makes (λ before. before) rows rows' → (honest' → (l : List Pair) → leaves' l → leaves l)
    → ResumeEnds form every (source_told left left) (sink_told w w) (keeper_told rows rows' honest' leaves leaves') (status_of_restore f)
not_resumed form every f left w rows rows' honest' leaves leaves' h same stop = inr (inl (unresumed f rows rows' honest' h, nothing_done left w, rows_left rows rows' honest' leaves leaves' same stop))

pub not_asked : (form : Form) (f : RestoreFault) (what : Query) (w : Option (List ℕ)) (rows rows' : Option (List Pair)) (honest' : Type 0) (leaves leaves' : List Pair → Type 0) → IsUnrestored rows rows' honest' f → Makes (λ before. before) rows rows' → (honest' → (l : List Pair) → leaves' l → leaves l)
    → QueryEnds form what (sink_told w w) (keeper_told rows rows' honest' leaves leaves') (status_of_restore f)
not_asked form f what w rows rows' honest' leaves leaves' h same stop = (rows_left rows rows' honest' leaves leaves' same stop, inr (unresumed f rows rows' honest' h, nothing w _ refl))

-- nor does one come of a keeper that keeps nothing, and nothing is said of its rows
pub no_rows_found : (f : RestoreFault) → IsOfNothing (failed {X = ⊤} f) → IsOfNoRows (status_of_restore f)
no_rows_found fault.Failed h = tt
no_rows_found fault.NoMemory h = tt
no_rows_found fault.Empty h = refl
no_rows_found fault.Unsound h = absurd h

-- statuses that it does not end by
pub unresumed_busy : (f : RestoreFault) → status_of_restore f ≡ Usage → ⊥
unresumed_busy fault.Failed e = absurd cc
unresumed_busy fault.NoMemory e = absurd cc
unresumed_busy fault.Empty e = absurd cc
unresumed_busy fault.Unsound e = absurd cc

pub unresumed_unread : (f : RestoreFault) → is_read_fault (status_of_restore f) ≡ false
unresumed_unread fault.Failed = refl
unresumed_unread fault.NoMemory = refl
unresumed_unread fault.Empty = refl
unresumed_unread fault.Unsound = refl

pub unresumed_writes : (f : RestoreFault) (count : ℕ) (P : Type 0) → Moved (is_write_fault (status_of_restore f)) count count × (status_of_restore f ≡ Done → P)
unresumed_writes fault.Failed count P = (refl, λ e. absurd cc)
unresumed_writes fault.NoMemory count P = (refl, λ e. absurd cc)
unresumed_writes fault.Empty count P = (refl, λ e. absurd cc)
unresumed_writes fault.Unsound count P = (refl, λ e. absurd cc)

pub unresumed_keeps : {X : Type 0} (f : RestoreFault) (before now : ℕ) → (IsErrOf (failed {X = X} f) fault.Failed → Rose before now) → UnlessFailed (failed {X = ⊤} f) (now ≡ before) → Moved (is_keep_fault (status_of_restore f)) before now
unresumed_keeps fault.Failed before now cause quiet = cause refl
unresumed_keeps fault.NoMemory before now cause quiet = quiet
unresumed_keeps fault.Empty before now cause quiet = quiet
unresumed_keeps fault.Unsound before now cause quiet = quiet

-- ---- answers

pub answered_some : (due : Option (List ℕ)) (text : List ℕ) (w w' : Option (List ℕ)) (s : Status) → Some text ≡ due → Writes text w w' s → Answers due w w' s
answered_some due text w w' s is h = subst (λ (o : Option (List ℕ)). Answers o w w' s) is h

pub answered_none : (due : Option (List ℕ)) (w : Option (List ℕ)) → None ≡ due → Answers due w w NotFound
answered_none due w is = subst (λ (o : Option (List ℕ)). Answers o w w NotFound) is (nothing w _ (inl refl, refl))

pub answered_without_memory : (due : Option (List ℕ)) (w : Option (List ℕ)) → Answers due w w NoMemory
answered_without_memory (Some whole) w = nothing w _ (record { rest = whole; text_is = refl })
answered_without_memory None w = nothing w _ (inr refl, refl)

pub asked : (form : Form) (what : Query) (w w' : Option (List ℕ)) (rows rows' : Option (List Pair)) (honest' : Type 0) (leaves leaves' : List Pair → Type 0) (s : Status) (chain : Chained) → IsChainOf (AreLoaded rows rows' honest') chain → Makes (λ before. before) rows rows' → (honest' → (l : List Pair) → leaves' l → leaves l)
    → ((p : State) → StandsFor chain.kept p → Answers (answered_by form (report_of p) what) w w' s) → QueryEnds form what (sink_told w w') (keeper_told rows rows' honest' leaves leaves') s
asked form what w w' rows rows' honest' leaves leaves' s chain c same stop answers = (
  rows_left rows rows' honest' leaves leaves' same stop,
  inl (record { first = c.first; storable = c.storable; loaded = c.rows_are; answered = λ p q alike. answers p (c.stands p q alike) }),
)

-- ---- runs that come to their end

-- a state has rows
put_some : (new : Pair) (ps : List Pair) → put new ps ≢ []
put_some new [] e = absurd cc
put_some new (p ∷ ps) e = by (key_cmp p.0 new.0) e
  where
    by : (o : Ordering) → match_ordering o (p ∷ put new ps) (new ∷ ps) (new ∷ p ∷ ps) ≡ [] → ⊥
    by Less f = absurd cc
    by Equal f = absurd cc
    by Greater f = absurd cc

no_items : (f : Format) (items : List Item) → rows_as f items ≡ [] → items ≡ []
no_items f [] e = refl
no_items f (i ∷ items) e = absurd (put_some (row_in f i) (rows_as f items) e)

has_rows : (f : Format) (p : State) → state_rows f p ≢ []
has_rows f p e = let none : items_of p ≡ [] = no_items f (items_of p) e in absurd cc

module _ (p : State) (rows rows' : Option (List Pair)) (honest' : Type 0) (faults faults' : ℕ) (fits : FitsState p rows honest' faults faults') (same : Makes (λ before. before) rows rows') where
  -- the rows of a state are not refused
  pub never_unresumed : (s : Status) → IsUnresumed s rows rows' honest' → (s ≡ KeepFault → Rose faults faults') → (s ≡ Done) ⊎ (s ≡ NoMemory)
  never_unresumed Done h keep = inl refl
  never_unresumed Usage h keep = absurd h
  never_unresumed (BadInput n fault) h keep = absurd h
  never_unresumed (Limit n kind) h keep = absurd h
  never_unresumed ReadFault h keep = absurd h
  never_unresumed WriteFault h keep = absurd h
  never_unresumed KeepFault h keep = absurd (fits.quiet (keep refl))
  never_unresumed NoMemory h keep = inr refl
  never_unresumed BadStore h keep =
      let P : List Pair → Type 0 = λ now. (now ≢ []) × AreOfNone now in
      let (f, is) = fits.rows_are in
      absurd ((at_rows rows (state_rows f p) P is (were_loaded rows rows' honest' P h same fits.honest)).1 p fits.storable (f, refl))
  never_unresumed (WrongStore is_empty) h keep =
      let P : List Pair → Type 0 = λ now. now ≡ [] in
      let (f, is) = fits.rows_are in
      absurd (has_rows f p (at_rows rows (state_rows f p) P is (were_loaded rows rows' honest' P h.1 same fits.honest)))
  never_unresumed NotFound h keep = absurd h
  never_unresumed (NoPast base last) h keep = absurd h

-- rows that fit a state, and are those of another, are of both
pub alike_of : (p first : State) (rows : Option (List Pair)) (honest' : Type 0) (faults faults' : ℕ) → FitsState p rows honest' faults faults' → IfSome rows (λ now. AreStateRows now first) → HaveSameRows p first
alike_of p first rows honest' faults faults' fits loaded =
    let (f, is) = fits.rows_are in
    (state_rows f p, (f, refl), at_rows rows (state_rows f p) (λ now. AreStateRows now first) is loaded)

pub untroubled_resume : (form : Form) (every : ℕ) (left left' w w' : Option (List ℕ)) (rows rows' : Option (List Pair)) (honest' : Type 0) (leaves leaves' : List Pair → Type 0) (faults faults' : ℕ) (s : Status) → ResumeEnds form every (source_told left left') (sink_told w w') (keeper_told rows rows' honest' leaves leaves') s → ResumesCalmly form left rows honest' faults faults'
    → (s ≡ Usage → ⊥) → (s ≡ ReadFault → ⊥) → (s ≡ WriteFault → ⊥) → (s ≡ KeepFault → Rose faults faults') → (s ≡ Done) ⊎ (s ≡ NoMemory)
untroubled_resume form every left left' w w' rows rows' honest' leaves leaves' faults faults' s (inl goes) calm busy read write keep =
    let fits = calm.2 in
    let alike = alike_of calm.0 goes.first rows honest' faults faults' fits (goes.loaded fits.honest) in
    untroubled_run form every _ (Some calm.0) left left' w w' s (goes.ends calm.0 fits.storable alike) calm.1 busy read write (λ e. fits.quiet (keep e))
untroubled_resume form every left left' w w' rows rows' honest' leaves leaves' faults faults' s (inr (inl ends)) calm busy read write keep =
    never_unresumed calm.0 rows rows' honest' faults faults' calm.2 ends.2.rows_are s ends.0 keep
untroubled_resume form every left left' w w' rows rows' honest' leaves leaves' faults faults' s (inr (inr ends)) calm busy read write keep = elim ends.0.why [
  | inl failed ↦ absurd (calm.2.quiet (keep failed))
  | inr wanting ↦ inr wanting
]

answered_to_end : (text written : List ℕ) (s : Status) (due : Option (List ℕ)) → due ≡ Some text → IsAnswered due s written → (s ≡ WriteFault → ⊥) → (s ≡ Done) ⊎ (s ≡ NoMemory)
answered_to_end text written s due is h write = written_to_end text written s (subst (λ (o : Option (List ℕ)). IsAnswered o s written) is h) write

pub untroubled_query : (form : Form) (what : Query) (w w' : Option (List ℕ)) (rows rows' : Option (List Pair)) (honest' : Type 0) (leaves leaves' : List Pair → Type 0) (faults faults' : ℕ) (s : Status) → QueryEnds form what (sink_told w w') (keeper_told rows rows' honest' leaves leaves') s → AsksCalmly form what rows honest' faults faults'
    → (s ≡ WriteFault → ⊥) → (s ≡ KeepFault → Rose faults faults') → (s ≡ Done) ⊎ (s ≡ NoMemory)
untroubled_query form what w w' rows rows' honest' leaves leaves' faults faults' s (left, inl answers) calm write keep =
    let p = calm.0 in
    let fits = calm.1 in
    let alike = alike_of p answers.first rows honest' faults faults' fits (were_loaded rows rows' honest' (λ now. AreStateRows now answers.first) answers.loaded left.rows_are fits.honest) in
    let e = answers.answered p fits.storable alike in
    answered_to_end calm.2.0 e.0 s (answered_by form (report_of p) what) calm.2.1 e.2 write
untroubled_query form what w w' rows rows' honest' leaves leaves' faults faults' s (left, inr none) calm write keep =
    never_unresumed calm.0 rows rows' honest' faults faults' calm.1 left.rows_are s none.0 keep
