-- Statements of an input, line by line.
use Rattle.std.proofs.Common.{◌≡◌, ◌∙◌, ◌⊎◌, inl, inr, ℕ, ◌+◌, ◌<◌, ◌≤◌, Bool, le-ltb, lt-ltb, List, [], ◌∷◌, ◌++◌, append-nil, append_assoc, length, length-append, Option, Some, None, Result, Ok, Err, refl, sym, ap, subst, arith, add-zero}
use Rattle.base_bech32.specs.declared.form.Form.{Form}
use Rattle.base_io.specs.Calls.{Stays}
use Rattle.base_messages.specs.declared.faults.LineFault.{LineFault}
use Rattle.base_messages.specs.declared.faults.LineFault.TheVariants as why
use Rattle.line_json.specs.Reading.{Gives}
use Rattle.line_statements.specs.Statements.{statement_of, text_of_answer}
use Rattle.mod_statement.specs.declared.{fault.StatementFault.StatementFault, statement.Statement.Statement}
use Rattle.mod_statement.specs.{Answers.{IsAnswer, IsFaultOf}, Bounds.bounds_of}
use Rattle.mod_statement.specs.declared.fault.StatementFault.TheVariants as fault
use Rattle.run_app.specs.declared.status.Status.{Status}
use Rattle.run_app.specs.declared.status.Status.TheVariants.{Done, Usage, BadInput, Limit, ReadFault, WriteFault, KeepFault, NoMemory, BadStore, WrongStore, NotFound, NoPast}
use Rattle.run_app.specs.declared.status.LimitKind.TheVariants.{Line, Input, Ratio, Bound}
use Rattle.run_app.specs.Checks.{AreChecked, CheckEnds, ChecksAll, ChecksCalmly, ChecksSo, CutsCheck, HaltsCheck, IsChecked, IsUnanswered, StopsCheck, TakesCheck, WritesPart, fault_at, fault_of, fault_of_bounds, not_bounded}
use Rattle.run_app.specs.{Ending.status_of, Lines.{whole_from, lines_of}, Machine.{longest, not_read}}
use Rattle.run_app.specs.Outcome.{AreEnded, most_bytes}
use Rattle.run_app.specs.Taking.{Halts, IsUntaken, Leads, MayEnd, MayStop, MeetsLong, Pauses, TakesAll, TakesPart}
use Rattle.run_app.{specs.Seen.{sink_told, source_told}, proofs.DriveLemmas.{told_first, told_rest}}
use Rattle.run_app.proofs.StopLemmas.{ended_first}
use Rattle.run_generated.specs.Writing.{Grows}

-- ---- one line

-- the line is within its limit
within : (form : Form) (n : ℕ) (line : List ℕ) → length line ≤ longest → fault_at form n line ≡ fault_of n (statement_of form line)
unfolding fault_at
within form n line short = rw (le-ltb longest (length line) short) refl

-- the line is over it
over : (form : Form) (n : ℕ) (line : List ℕ) → longest < length line → fault_at form n line ≡ Some (Limit n Line)
unfolding fault_at
over form n line h = rw (lt-ltb longest (length line) h) refl

-- the statement was read, and checked
pub checked_so : (form : Form) (n : ℕ) (line before text : List ℕ) (s : Statement) (right : Bool) → length line ≤ longest → statement_of form line ≡ Ok s → IsAnswer s right → before ≡ [] → text ≡ before ++ text_of_answer n right → IsChecked form n line text
checked_so form n line before text s right short read answer none is = record {
  statement = s;
  right = right;
  short = short;
  statement_is = read;
  answer = answer;
  text_is = is ∙ ap (λ (b : List ℕ). b ++ text_of_answer n right) none;
}

-- it was not read
pub unread_so : (form : Form) (n : ℕ) (line : List ℕ) (fault : LineFault) → length line ≤ longest → Gives {X = Statement} {Y = Statement} (λ statement. statement) (Err fault) (statement_of form line) → IsUnanswered form n line (status_of (not_read n fault))
unread_so form n line why.NotJson short read = within form n line short ∙ ap (fault_of n) read
unread_so form n line (why.BadShape member) short read = within form n line short ∙ ap (fault_of n) read
unread_so form n line why.NoMemory short read = tt

-- it has no bounds
pub unbounded_so : (form : Form) (n : ℕ) (line : List ℕ) (s : Statement) (f : StatementFault) → length line ≤ longest → statement_of form line ≡ Ok s → IsFaultOf (bounds_of s.entries s.removals s.ratio) f → IsUnanswered form n line (not_bounded n f)
unbounded_so form n line s (fault.Over over) short read h = within form n line short ∙ ap (fault_of n) read ∙ ap (fault_of_bounds n) h
unbounded_so form n line s fault.NoSpan short read h = within form n line short ∙ ap (fault_of n) read ∙ ap (fault_of_bounds n) h
unbounded_so form n line s fault.NoMemory short read h = tt

pub unanswered_may : (form : Form) (n : ℕ) (line : List ℕ) (status : Status) → IsUnanswered form n line status → MayStop status
unanswered_may form n line Done h = absurd h
unanswered_may form n line Usage h = absurd h
unanswered_may form n line (BadInput m f) h = tt
unanswered_may form n line (Limit m kind) h = tt
unanswered_may form n line ReadFault h = absurd h
unanswered_may form n line WriteFault h = absurd h
unanswered_may form n line KeepFault h = absurd h
unanswered_may form n line NoMemory h = tt
unanswered_may form n line BadStore h = absurd h
unanswered_may form n line (WrongStore is_empty) h = absurd h
unanswered_may form n line NotFound h = absurd h
unanswered_may form n line (NoPast base last) h = absurd h

-- it is no fault of the sink
pub unanswered_unwritten : (form : Form) (n : ℕ) (line : List ℕ) (status : Status) → IsUnanswered form n line status → ◌≡◌ {A = Result (Unit {0}) Status} (Err status) (Err WriteFault) → ⊥
unanswered_unwritten form n line status h e =
    let same : status ≡ WriteFault = cc in
    subst (IsUnanswered form n line) same h

-- ---- lines one after another

module _ (form : Form) where
  -- the lines before one are answered, and that one is not
  record Unanswered (status : Status) (lines : List (List ℕ)) (text : List ℕ) : Type 0 where
    before : List (List ℕ)
    line : List ℕ
    after : List (List ℕ)
    lines_are : lines ≡ before ++ line ∷ after
    checked : AreChecked form 1 before text
    stop : IsUnanswered form (1 + length before) line status

  abbrev Halted : Status → List (List ℕ) → List ℕ → Type 0
  Halted status lines text = Unanswered status lines text ⊎ (((status ≡ WriteFault) ⊎ (status ≡ NoMemory)) × CutsCheck form lines text)

  unanswered_ends : (status : Status) (taken rest text : List ℕ) (lines : List (List ℕ)) → length taken ≤ most_bytes → AreEnded lines taken rest → Unanswered status lines text → ChecksSo form status taken rest text
  unanswered_ends Done taken rest text lines short ended u = absurd u.stop
  unanswered_ends Usage taken rest text lines short ended u = absurd u.stop
  unanswered_ends (BadInput m f) taken rest text lines short ended u = (short, lines, ended, record { before = u.before; line = u.line; after = u.after; lines_are = u.lines_are; checked = u.checked; stop = u.stop })
  unanswered_ends (Limit m Line) taken rest text lines short ended u = absurd u.stop
  unanswered_ends (Limit m Input) taken rest text lines short ended u = absurd u.stop
  unanswered_ends (Limit m (Ratio over)) taken rest text lines short ended u = absurd u.stop
  unanswered_ends (Limit m (Bound over)) taken rest text lines short ended u = (short, lines, ended, record { before = u.before; line = u.line; after = u.after; lines_are = u.lines_are; checked = u.checked; stop = u.stop })
  unanswered_ends ReadFault taken rest text lines short ended u = absurd u.stop
  unanswered_ends WriteFault taken rest text lines short ended u = absurd u.stop
  unanswered_ends KeepFault taken rest text lines short ended u = absurd u.stop
  unanswered_ends NoMemory taken rest text lines short ended u = (short, lines, ended, inr (record { before = u.before; after = u.line ∷ u.after; lines_are = u.lines_are; checked = u.checked }))
  unanswered_ends BadStore taken rest text lines short ended u = absurd u.stop
  unanswered_ends (WrongStore is_empty) taken rest text lines short ended u = absurd u.stop
  unanswered_ends NotFound taken rest text lines short ended u = absurd u.stop
  unanswered_ends (NoPast base last) taken rest text lines short ended u = absurd u.stop

  halted_ends : (status : Status) (taken rest text : List ℕ) (lines : List (List ℕ)) → length taken ≤ most_bytes → AreEnded lines taken rest → Halted status lines text → ChecksSo form status taken rest text
  halted_ends status taken rest text lines short ended (inl u) = unanswered_ends status taken rest text lines short ended u
  halted_ends status taken rest text lines short ended (inr (inl e, cuts)) = subst (λ (s : Status). ChecksSo form s taken rest text) (sym e) (short, inl (lines, ended, cuts))
  halted_ends status taken rest text lines short ended (inr (inr e, cuts)) = subst (λ (s : Status). ChecksSo form s taken rest text) (sym e) (short, lines, ended, inl cuts)

module _ {C : Type 0} (form : Form) where
  -- what a line that is answered leads to, of whatever answers it
  abbrev Takes : ℕ → List ℕ → C × Option (List ℕ) → C × Option (List ℕ) → Type 0
  Takes n line x y = TakesCheck form n line x.1 y.1

  abbrev Stops : Status → ℕ → List ℕ → C × Option (List ℕ) → C × Option (List ℕ) → Type 0
  Stops status n line x y = HaltsCheck form status n line x.1 y.1

  texts_written : (n : ℕ) (lines : List (List ℕ)) (x y : C × Option (List ℕ)) → Leads Takes n lines x y → (text : List ℕ) × AreChecked form n lines text × Grows x.1 y.1 text
  texts_written n [] x y h = ([], refl, λ old told. ap (λ (p : C × Option (List ℕ)). p.1) h ∙ told ∙ ap Some (sym (append-nil old)))
  texts_written n (line ∷ lines) x y h =
      let first : TakesCheck form n line x.1 h.0.1 = h.1 in
      let rest = texts_written (n + 1) lines h.0 y h.2 in
      (first.0 ++ rest.0, (first.0, rest.0, first.1, refl, rest.1), λ old told. rest.2 (old ++ first.0) (first.2 old told) ∙ ap Some (append_assoc old first.0 rest.0))

  halted : (status : Status) (lines : List (List ℕ)) (x y : C × Option (List ℕ)) → Halts Takes (Stops status) lines x y → (text : List ℕ) × Grows x.1 y.1 text × Halted form status lines text
  halted status lines x y h = by (texts_written 1 h.before x h.middle h.leads) h.stop
    where
      by : ((text : List ℕ) × AreChecked form 1 h.before text × Grows x.1 h.middle.1 text) → HaltsCheck form status (1 + length h.before) h.line h.middle.1 y.1 → (text : List ℕ) × Grows x.1 y.1 text × Halted form status lines text
      by front (inl u) = (
        front.0,
        λ old told. u.1 ∙ front.2 old told,
        inl (record { before = h.before; line = h.line; after = h.after; lines_are = h.lines_are; checked = front.1; stop = u.0 }),
      )
      by front (inr w) =
          let part : WritesPart form (1 + length h.before) h.line h.middle.1 y.1 = w.1 in
          let added = part.2 in (
            front.0 ++ added.0,
            λ old told. added.2 (old ++ front.0) (front.2 old told) ∙ ap Some (append_assoc old front.0 added.0),
            inr (
              w.0,
              record {
                before = h.before;
                line = h.line;
                after = h.after;
                lines_are = h.lines_are;
                done = front.0;
                answer = part.0;
                front = added.0;
                checked = front.1;
                one = part.1;
                part = added.1;
                text_is = refl;
              },
            ),
          )

  -- ---- an input

  -- a line that is too long stops the run
  long_stops : (n : ℕ) (taken more : List ℕ) (x y : C × Option (List ℕ)) (h : MeetsLong Takes n taken x y) (text : List ℕ) → AreChecked form 1 h.before text → StopsCheck form (Limit n Line) (lines_of (taken ++ more)) text
  long_stops n taken more x y h text checked =
      let l = h.long more in
      record {
        before = h.before;
        line = l.0;
        after = l.1;
        lines_are = l.2;
        checked = checked;
        stop = over form (1 + length h.before) l.0 l.3 ∙ ap (λ (m : ℕ). Some (Limit m Line)) (sym h.number_is);
      }

  untaken_ends : (status : Status) (taken rest : List ℕ) (x y : C × Option (List ℕ)) → IsUntaken Takes Stops status taken rest x y → (text : List ℕ) × Grows x.1 y.1 text × ChecksSo form status taken rest text
  untaken_ends status taken rest x y (inl h) =
      let t = halted status h.lines x y h.halts in
      (t.0, t.1, halted_ends form status taken rest t.0 h.lines h.short h.ended t.2)
  untaken_ends status taken rest x y (inr (inl h)) =
      let m = h.meets in
      let t = texts_written 1 m.before x y m.leads in
      (t.0, t.2, subst (λ (s : Status). ChecksSo form s taken rest t.0) (sym h.status_is) (h.short, λ more. long_stops h.number taken more x y m t.0 t.1))
  untaken_ends status taken rest x y (inr (inr (inl h))) =
      let t = texts_written 1 (whole_from [] h.bytes) x y h.leads in (
        t.0,
        t.2,
        subst (λ (s : Status). ChecksSo form s taken rest t.0) (sym h.status_is)
            (record { bytes = h.bytes; byte = h.byte; taken_is = h.taken_is; full = h.full; checked = t.1; number = h.number_is; line = h.line }),
      )
  untaken_ends status taken rest x y (inr (inr (inr h))) = by h.cut
    where
      by : ((status ≡ ReadFault) × Leads Takes 1 (whole_from [] taken) x y) ⊎ ((status ≡ NoMemory) × Pauses Takes (whole_from [] taken) x y) → (text : List ℕ) × Grows x.1 y.1 text × ChecksSo form status taken rest text
      by (inl (e, leads)) =
          let t = texts_written 1 (whole_from [] taken) x y leads in
          (t.0, t.2, subst (λ (s : Status). ChecksSo form s taken rest t.0) (sym e) (h.short, t.1))
      by (inr (e, p)) =
          let t = texts_written 1 p.before x y p.leads in (
            t.0,
            t.2,
            subst (λ (s : Status). ChecksSo form s taken rest t.0) (sym e)
                (h.short, whole_from [] taken, inl refl, inr (record { before = p.before; after = p.after; lines_are = p.lines_are; checked = t.1 })),
          )

  -- ---- a source and a sink

  pub checks_all : (c c' : C) (left left' w w' : Option (List ℕ)) → TakesAll Takes left left' (c, w) (c', w') → ChecksAll form left left' w w'
  checks_all c c' left left' w w' all =
      let t = texts_written 1 (lines_of all.0) (c, w) (c', w') all.3 in
      (all.0, t.0, all.1, t.2, all.2, t.1)

  pub checks_part : (c c' : C) (left left' w w' : Option (List ℕ)) (status : Status) → TakesPart Takes Stops status left left' (c, w) (c', w') → CheckEnds form (source_told left left') (sink_told w w') status
  checks_part c c' left left' w w' status part =
      let t = untaken_ends status part.0 part.1 (c, w) (c', w') part.3 in
      (part.0, part.1, t.0, part.2, t.1, t.2)

-- all lines were answered, and the sink was flushed
pub done_ends : (form : Form) (left left' w w' w'' : Option (List ℕ)) → ChecksAll form left left' w w' → Stays w' w'' → CheckEnds form (source_told left left') (sink_told w w'') Done
done_ends form left left' w w' w'' all same = (all.0, [], all.1, all.2, λ old told. same (old ++ all.1) (all.3 old told), (refl, all.4, all.5))

-- or it could not be
pub unflushed_ends : (form : Form) (left left' w w' w'' : Option (List ℕ)) → ChecksAll form left left' w w' → Stays w' w'' → CheckEnds form (source_told left left') (sink_told w w'') WriteFault
unflushed_ends form left left' w w' w'' all same = (all.0, [], all.1, all.2, λ old told. same (old ++ all.1) (all.3 old told), (all.4, inr (refl, all.5)))

-- before anything is taken, memory may be wanting
pub check_unbegun : (form : Form) (left w : Option (List ℕ)) → CheckEnds form (source_told left left) (sink_told w w) NoMemory
check_unbegun form left w =
    let none = told_rest left [] left (told_first left) in (
      [],
      none.0,
      [],
      none.1,
      λ old told. told ∙ ap Some (sym (append-nil old)),
      (omega arith, [], inl refl, inr (record { before = []; after = []; lines_are = refl; checked = refl })),
    )

-- ---- statuses

-- an input that was not taken whole does not end a run by these
never_may : (status : Status) → (MayStop status → ⊥) → (status ≡ ReadFault → ⊥) → MayEnd status → ⊥
never_may status h k (inl m) = h m
never_may status h k (inr e) = k e

pub may_end_busy : (status : Status) → MayEnd status → status ≡ Usage → ⊥
may_end_busy status may e = never_may Usage (λ m. m) (λ r. absurd cc) (subst MayEnd e may)

pub may_end_kept : (status : Status) → MayEnd status → status ≡ KeepFault → ⊥
may_end_kept status may e = never_may KeepFault (λ m. m) (λ r. absurd cc) (subst MayEnd e may)

pub may_end_undone : (status : Status) → MayEnd status → status ≡ Done → ⊥
may_end_undone status may e = never_may Done (λ m. m) (λ r. absurd cc) (subst MayEnd e may)

-- ---- runs that come to their end

one_checked : (form : Form) (n : ℕ) (before : List (List ℕ)) (line : List ℕ) (after : List (List ℕ)) (text : List ℕ) → AreChecked form n (before ++ line ∷ after) text → (t : List ℕ) × IsChecked form (n + length before) line t
one_checked form n [] line after text h = (h.0, subst (λ (m : ℕ). IsChecked form m line h.0) (sym (add-zero n)) h.2)
one_checked form n (b ∷ before) line after text h =
    let r = one_checked form (n + 1) before line after h.1 h.4 in
    let more : n + 1 + length before ≡ n + length (b ∷ before) = omega arith in
    (r.0, subst (λ (m : ℕ). IsChecked form m line r.0) more r.1)

-- a line that is answered has no fault
faultless : (form : Form) (n : ℕ) (line text : List ℕ) → IsChecked form n line text → fault_at form n line ≡ None
faultless form n line text c = within form n line c.short ∙ ap (fault_of n) c.statement_is ∙ ap (fault_of_bounds n) c.answer.due_is

never_both : (r : Option Status) (status : Status) → r ≡ None → r ≡ Some status → ⊥
never_both r status good bad = absurd cc

module _ (form : Form) (input taken rest : List ℕ) (good_text : List ℕ) (good : AreChecked form 1 (lines_of input) good_text) (short : length input ≤ most_bytes) (is : input ≡ taken ++ rest) where
  -- no line of the input stops the run
  never_stops : (status : Status) (lines more : List (List ℕ)) (text : List ℕ) → lines_of (taken ++ rest) ≡ lines ++ more → StopsCheck form status lines text → ⊥
  never_stops status lines more text are stops =
      let all : lines_of input ≡ stops.before ++ stops.line ∷ (stops.after ++ more) =
      ap lines_of is ∙ are ∙ ap (λ (ls : List (List ℕ)). ls ++ more) stops.lines_are ∙ append_assoc stops.before (stops.line ∷ stops.after) more in
      let one = one_checked form 1 stops.before stops.line (stops.after ++ more) good_text (subst (λ (ls : List (List ℕ)). AreChecked form 1 ls good_text) all good) in
      never_both (fault_at form (1 + length stops.before) stops.line) status (faultless form (1 + length stops.before) stops.line one.0 one.1) stops.stop

  never_stopped : (status : Status) (text : List ℕ) (lines : List (List ℕ)) → AreEnded lines taken rest → StopsCheck form status lines text → ⊥
  never_stopped status text lines ended stops = let m = ended_first lines taken rest ended in never_stops status lines m.0 text m.1 stops

  untroubled : (status : Status) (text : List ℕ) → ChecksSo form status taken rest text → (status ≡ ReadFault → ⊥) → (status ≡ WriteFault → ⊥) → (status ≡ Done) ⊎ (status ≡ NoMemory)
  untroubled Done text h read write = inl refl
  untroubled Usage text h read write = absurd h
  untroubled (BadInput n f) text h read write = absurd (never_stopped (BadInput n f) text h.1 h.2 h.3)
  untroubled (Limit n Line) text h read write = absurd (never_stops (Limit n Line) (lines_of (taken ++ rest)) [] text (sym (append-nil (lines_of (taken ++ rest)))) (h.1 rest))
  untroubled (Limit n Input) text h read write =
      let one : length taken ≡ most_bytes + 1 = ap length h.taken_is ∙ length-append h.bytes (h.byte ∷ []) ∙ ap (λ (m : ℕ). m + 1) h.full in
      let all : length input ≡ length taken + length rest = ap length is ∙ length-append taken rest in
      absurd (omega arith)
  untroubled (Limit n (Ratio over)) text h read write = absurd h
  untroubled (Limit n (Bound over)) text h read write = absurd (never_stopped (Limit n (Bound over)) text h.1 h.2 h.3)
  untroubled ReadFault text h read write = absurd (read refl)
  untroubled WriteFault text h read write = absurd (write refl)
  untroubled KeepFault text h read write = absurd h
  untroubled NoMemory text h read write = inr refl
  untroubled BadStore text h read write = absurd h
  untroubled (WrongStore is_empty) text h read write = absurd h
  untroubled NotFound text h read write = absurd h
  untroubled (NoPast base last) text h read write = absurd h

pub untroubled_check : (form : Form) (left left' w w' : Option (List ℕ)) (status : Status) → CheckEnds form (source_told left left') (sink_told w w') status → ChecksCalmly form left → (status ≡ ReadFault → ⊥) → (status ≡ WriteFault → ⊥) → (status ≡ Done) ⊎ (status ≡ NoMemory)
untroubled_check form left left' w w' status ends calm read write =
    let moved = ends.3 calm.input calm.left_is in
    untroubled form calm.input ends.0 ends.1 calm.text calm.good calm.short moved.0 status ends.2 ends.5 read write
