-- What a stop may leave behind a run, whatever the status by which it ended.
use Rattle.std.proofs.Common.{inl, inr, ◌≡◌, ◌∙◌, ◌⊎◌, ℕ, ◌+◌, List, [], ◌∷◌, ◌++◌, Option, Some, None, Ok, refl, sym, ap, subst, append_assoc, IfSome, IsSome, append-nil, arith}
use Rattle.base_bech32.specs.declared.form.Form.{Form}
use Rattle.run_generated.specs.Writing.{IsFront}
use Rattle.base_io.specs.{Outside.IsPart, Rows.Pair}
use Rattle.store_resuming.specs.Restored.{AreStateRows, HaveSameRows, IsStorable, rows_of, state_rows}
use Rattle.store_resuming.proofs.RestoreLemmas.{formats_same}
use Rattle.store_rows.specs.declared.format.Format.{Format, TheVariants.{First, Second}}
use Rattle.rule_modules.specs.Chain.{State}
use Rattle.run_words.specs.declared.mode.{Command.Command, Mode.Mode}
use Rattle.run_words.specs.declared.mode.Mode.TheVariants.{Replay, Resume, Query, Tally, Check, Statement, Gen, Trial}
use Rattle.run_app.specs.declared.status.{LimitKind.TheVariants.{Line, Input, Ratio, Bound}, Status.Status}
use Rattle.run_app.specs.declared.status.Status.TheVariants.{Done, Usage, BadInput, Limit, ReadFault, WriteFault, KeepFault, NoMemory, BadStore, WrongStore, NotFound, NoPast}
use Rattle.run_app.specs.{declared.status.LineStop.LineStop, Kept.{AreLeft, AreRowsOf, LeftIn}}
use Rattle.run_app.specs.{Lines.{lines_of, lines_from, whole_from, rest_from}, Machine.Standing}
use Rattle.run_app.specs.{Modes.{ModeEnds, ReplayEnds}, Outcome.{AreEnded, Ends, Passed, RunEnds}}
use Rattle.run_app.specs.Runs.{AreAnswered, Batched, Named, Wrote, Unkept, Held, Answered, Reported, Lacking, Finished}
use Rattle.run_app.specs.{Resumes.ResumeEnds, declared.performing.Way.{Way, TheVariants.{Plain, Kept, Past}}}
use Rattle.run_app.specs.Commands.{CommandStops, WayStops, way_of}
use Rattle.run_app.specs.{Stops.{AreRowsBehind, LacksOfLast, ModeStops, RunStops}, Told.IsToldAs, Writes.Adds}
use Rattle.run_app.{specs.Seen.{keeper_told, sink_told, source_told}, proofs.CutLemmas.lines-append}
use Rattle.run_app.proofs.{RunLemmas.{answered-append, no_growth}, WholeLemmas.{Reports, reports}}
use Rattle.store_history.specs.Held.{ShowsLeft, shown}

-- ---- fronts of texts

all_of : (text : List ℕ) → IsFront text text
all_of text = record { rest = []; text_is = sym (append-nil text) }

part_of : (front text : List ℕ) → IsPart front text → IsFront front text
part_of front text p = record { rest = p.rest; text_is = p.bytes_are }

-- ---- lines

-- the lines that have ended are a front of all
pub ended_first : (lines : List (List ℕ)) (taken rest : List ℕ) → AreEnded lines taken rest → (more : List (List ℕ)) × (lines_of (taken ++ rest) ≡ lines ++ more)
ended_first lines taken rest (inl is) = (lines_from (rest_from [] taken) rest, lines-append taken [] rest ∙ ap (λ (l : List (List ℕ)). l ++ lines_from (rest_from [] taken) rest) (sym is))
ended_first lines taken rest (inr h) = ([], ap lines_of (ap (λ (r : List ℕ). taken ++ r) h.0 ∙ append-nil taken) ∙ sym h.1 ∙ sym (append-nil lines))

-- at the end of the input all lines are those of what was taken
all_taken : (taken rest : List ℕ) → rest ≡ [] → lines_of (taken ++ rest) ≡ lines_of taken ++ []
all_taken taken rest none = ap lines_of (ap (λ (r : List ℕ). taken ++ r) none ∙ append-nil taken) ∙ sym (append-nil (lines_of taken))

-- all answers were written
pub none_lacks : (form : Form) (every : ℕ) (first : Standing) (lines : List (List ℕ)) (text : List ℕ) (end : Standing) → AreAnswered form 1 first lines text end → LacksOfLast form every first lines text []
none_lacks form every first lines text end good = record {
  before = lines;
  last = [];
  middle = end;
  end = end;
  done = text;
  due = [];
  front = [];
  lines_are = sym (append-nil lines);
  few = omega arith;
  answered = good;
  answered_last = (refl, refl);
  text_is = sym (append-nil text);
  due_lacks = refl;
}

module _ (form : Form) (every : ℕ) (first : Standing) (input : List ℕ) (left : List Pair) (L : Standing → Standing → Type 0) (stop : (s t : Standing) → L s t → AreRowsOf left s ⊎ AreRowsOf left t) where
  -- where one and the same standing may be left
  only : (s : Standing) → L s s → AreRowsOf left s
  only s l = onlywith (stop s s l) where
    onlywith : AreRowsOf left s ⊎ AreRowsOf left s → AreRowsOf left s
    onlywith (inl e) = e
    onlywith (inr e) = e

  -- the texts of these lines were written
  just : (lines more : List (List ℕ)) (text : List ℕ) (end : Standing) → lines_of input ≡ lines ++ more → AreAnswered form 1 first lines text end → AreRowsOf left end → AreRowsBehind form every first input text left
  just lines more text end are good is = record { lines = lines; more = more; end = end; answers = text; lines_are = are; answered = good; kept = is; written = inl ([], none_lacks form every first lines text end good) }

  named : (lines more : List (List ℕ)) (text : List ℕ) (fault : LineStop) → lines_of input ≡ lines ++ more → Named form L 1 first lines text fault → AreRowsBehind form every first input text left
  named lines more text fault are w = just w.before (w.line ∷ (w.after ++ more)) text w.middle (are ∙ ap (λ (l : List (List ℕ)). l ++ more) w.lines_are ∙ append_assoc w.before (w.line ∷ w.after) more) w.answered (only w.middle w.left)

  regroup : (a b c d : List (List ℕ)) → (a ++ (b ++ c)) ++ d ≡ (a ++ b) ++ (c ++ d)
  regroup a b c d = simp append_assoc

  -- the batch was committed, and a front of its texts was written
  ahead : (lines more : List (List ℕ)) (text done : List ℕ) (middle : Standing) (due : List ℕ) (end : Standing) (front lacking : List ℕ) → lines_of input ≡ lines ++ more → Batched form every 1 first lines done middle due end → AreRowsOf left end → text ≡ done ++ front → due ≡ front ++ lacking → AreRowsBehind form every first input text left
  ahead lines more text done middle due end front lacking are b kept_is text_is due_is = record {
    lines = b.before ++ b.batch;
    more = b.after ++ more;
    end = end;
    answers = done ++ due;
    lines_are = are ∙ ap (λ (l : List (List ℕ)). l ++ more) b.lines_are ∙ regroup b.before b.batch b.after more;
    answered = answered-append form 1 first b.before b.batch done middle due end b.answered b.answered_batch;
    kept = kept_is;
    written = inl (lacking, record { before = b.before; last = b.batch; middle = middle; end = end; done = done; due = due; front = front; lines_are = refl; few = b.few; answered = b.answered; answered_last = b.answered_batch; text_is = text_is; due_lacks = due_is });
  }

  wrote : (lines more : List (List ℕ)) (text : List ℕ) → lines_of input ≡ lines ++ more → Wrote form every L 1 first lines text → AreRowsBehind form every first input text left
  wrote lines more text are w = ahead lines more text w.done w.middle w.due w.end w.front w.part.rest are w.batched (only w.end w.left) w.text_is w.part.bytes_are

  -- what was to be committed may be there or not
  unkept : (lines more : List (List ℕ)) (text : List ℕ) → lines_of input ≡ lines ++ more → Unkept form every L 1 first lines text → AreRowsBehind form every first input text left
  unkept lines more text are w = by (stop w.middle w.end w.left)
    where
      by : AreRowsOf left w.middle ⊎ AreRowsOf left w.end → AreRowsBehind form every first input text left
      by (inl e) = just w.batched.before ((w.batched.batch ++ w.batched.after) ++ more) text w.middle (are ∙ ap (λ (l : List (List ℕ)). l ++ more) w.batched.lines_are ∙ append_assoc w.batched.before (w.batched.batch ++ w.batched.after) more) w.batched.answered e
      by (inr e) = ahead lines more text text w.middle w.due w.end [] w.due are w.batched e (sym (append-nil text)) refl

  held : (lines more : List (List ℕ)) (text : List ℕ) → lines_of input ≡ lines ++ more → Held form L 1 first lines text → AreRowsBehind form every first input text left
  held lines more text are w = just w.before (w.after ++ more) text w.middle (are ∙ ap (λ (l : List (List ℕ)). l ++ more) w.lines_are ∙ append_assoc w.before w.after more) w.answered (only w.middle w.left)

  answered : (lines more : List (List ℕ)) (text : List ℕ) → lines_of input ≡ lines ++ more → Answered form L 1 first lines text → AreRowsBehind form every first input text left
  answered lines more text are w = just lines more text w.end are w.answered (only w.end w.left)

  lacking : (lines more : List (List ℕ)) (text : List ℕ) (fault : LineStop) → lines_of input ≡ lines ++ more → Lacking form L 1 first lines text fault → AreRowsBehind form every first input text left
  lacking lines more text fault are w = just lines more text w.end are w.answered (only w.end w.left)

  reported : (lines : List (List ℕ)) (text : List ℕ) → lines_of input ≡ lines ++ [] → Reported form L 1 first lines text → AreRowsBehind form every first input text left
  reported lines text are w = record {
    lines = lines;
    more = [];
    end = w.end;
    answers = w.done;
    lines_are = are;
    answered = w.answered;
    kept = only w.end w.left;
    written = inr (refl, record { report = w.report; front = w.front; report_is = w.report_is; part = part_of w.front w.report w.part; text_is = w.text_is });
  }

  -- the standing to which lines lead is one
  one_end : (n : ℕ) (s : Standing) (lines : List (List ℕ)) (a b : List ℕ) (e f : Standing) → AreAnswered form n s lines a e → AreAnswered form n s lines b f → e ≡ f
  one_end n s [] a b e f g h = g.1 ∙ sym h.1
  one_end n s (line ∷ lines) a b e f g h =
      let same : Ok g.0 ≡ Ok h.0 = sym g.2 ∙ h.2 in
      let same2 : g.0 ≡ h.0 = cc in
      one_end (n + 1) h.0.standing lines g.1 h.1 e f (subst (λ (x : _). AreAnswered form (n + 1) x.standing lines g.1 e) same2 g.4) h.4

  finished : (lines : List (List ℕ)) (text : List ℕ) → lines_of input ≡ lines ++ [] → Finished form L 1 first lines text → AreRowsBehind form every first input text left
  finished lines text are w =
      let r : Reports form 1 first lines text = reports form lines 1 first text w.ran in
      record {
        lines = lines;
        more = [];
        end = r.end;
        answers = r.done;
        lines_are = are;
        answered = r.answered;
        kept = subst (AreRowsOf left) (one_end 1 first lines w.done r.done w.end r.end w.answered r.answered) (only w.end w.left);
        written = inr (refl, record { report = r.last; front = r.last; report_is = r.report_is; part = all_of r.last; text_is = r.text_is });
      }

  passed : (n : ℕ) (taken rest text : List ℕ) → input ≡ taken ++ rest → Passed form first L n taken text → AreRowsBehind form every first input text left
  passed n taken rest text are p =
      let whole : input ≡ p.bytes ++ (p.byte ∷ rest) = are ∙ ap (λ (t : List ℕ). t ++ rest) p.taken_is ∙ append_assoc p.bytes (p.byte ∷ []) rest in
      answered (whole_from [] p.bytes) (lines_from (rest_from [] p.bytes) (p.byte ∷ rest)) text (ap lines_of whole ∙ lines-append p.bytes [] (p.byte ∷ rest)) p.answered

  module _ (taken rest text : List ℕ) (input_is : input ≡ taken ++ rest) where
    here : (lines more : List (List ℕ)) → lines_of (taken ++ rest) ≡ lines ++ more → lines_of input ≡ lines ++ more
    here lines more e = ap lines_of input_is ∙ e

    ended : (lines : List (List ℕ)) → AreEnded lines taken rest → (more : List (List ℕ)) × (lines_of input ≡ lines ++ more)
    ended lines h = let f = ended_first lines taken rest h in (f.0, here lines f.0 f.1)

    whole : rest ≡ [] → lines_of input ≡ lines_of taken ++ []
    whole none = here (lines_of taken) [] (all_taken taken rest none)

    pub stopped : (status : Status) → Ends form every first L taken rest status text → AreRowsBehind form every first input text left
    stopped Done h = finished (lines_of taken) text (whole h.0) h.2
    stopped Usage h = absurd h
    stopped (BadInput n fault) (short, inl h) = let m = ended h.0 h.1 in named h.0 m.0 text _ m.1 h.2
    stopped (BadInput n fault) (short, inr h) = lacking (lines_of taken) [] text _ (whole h.0) h.1
    stopped (Limit n Line) h = named (lines_of (taken ++ rest)) [] text _ (here (lines_of (taken ++ rest)) [] (sym (append-nil (lines_of (taken ++ rest))))) (h.1 rest)
    stopped (Limit n Input) h = passed n taken rest text input_is h
    stopped (Limit n (Ratio over)) h = let m = ended h.1 h.2 in named h.1 m.0 text _ m.1 h.3
    stopped (Limit n (Bound over)) h = absurd h
    stopped ReadFault h = let m = ended (whole_from [] taken) (inl refl) in answered (whole_from [] taken) m.0 text m.1 h.1
    stopped WriteFault (short, inl h) = let m = ended h.0 h.1 in wrote h.0 m.0 text m.1 h.2
    stopped WriteFault (short, inr (inl h)) = reported (lines_of taken) text (whole h.0) h.1
    stopped WriteFault (short, inr (inr h)) = finished (lines_of taken) text (whole h.0) h.1
    stopped KeepFault h = let m = ended h.1 h.2 in unkept h.1 m.0 text m.1 h.3
    stopped NoMemory (short, inl (lines, are, inl h)) = let m = ended lines are in wrote lines m.0 text m.1 h
    stopped NoMemory (short, inl (lines, are, inr (inl h))) = let m = ended lines are in held lines m.0 text m.1 h
    stopped NoMemory (short, inl (lines, are, inr (inr h))) = let m = ended lines are in unkept lines m.0 text m.1 h
    stopped NoMemory (short, inr h) = reported (lines_of taken) text (whole h.0) h.1
    stopped BadStore h = absurd h
    stopped (WrongStore is_empty) h = absurd h
    stopped NotFound h = absurd h
    stopped (NoPast base last) h = absurd h

-- so of a run over a keeper that is honest to its end, whose rows were told as it began
pub run_stops : (form : Form) (every : ℕ) (first : Standing) (left left' written written' : Option (List ℕ)) (rows told : Option (List Pair)) (honest : Type 0) (leaves leaves' : List Pair → Type 0) (status : Status) → RunEnds form every first (LeftIn (record { first = first; rows = rows }) told honest leaves') left left' written written' status → RunStops form every first left written written' rows honest leaves leaves'
run_stops form every first left left' written written' rows told honest leaves leaves' status e = λ good some. (
  e.0 ++ e.1,
  e.2,
  (λ input is. (e.3 input is).0),
  e.4,
  λ now may. inr (stopped form every first (e.0 ++ e.1) now (LeftIn (record { first = first; rows = rows }) told honest leaves') (λ s t l. l.stop good some now may) e.0 e.1 e.2 refl status e.5),
)

-- there is an input
told_input : (left : Option (List ℕ)) → (input : List ℕ) × IsToldAs left input
told_input None = ([], λ told is. absurd cc)
told_input (Some input) = (input, λ told is. let same : input ≡ told = cc in sym same)

-- and of one that did not begin
pub unbegun_stops : (form : Form) (every : ℕ) (first : Standing) (left written written' : Option (List ℕ)) (rows told : Option (List Pair)) (honest : Type 0) (leaves leaves' : List Pair → Type 0) → Adds written written' (λ text. text ≡ []) → AreLeft (keeper_told rows told honest leaves leaves') → RunStops form every first left written written' rows honest leaves leaves'
unbegun_stops form every first left written written' rows told honest leaves leaves' adds are = λ good some.
    let i = told_input left in
    (i.0, adds.0, i.1, adds.1, λ now may. inl (are.stop good now may, adds.2))

pub replay_stops : (form : Form) (every : ℕ) (left left' written written' : Option (List ℕ)) (rows rows' : Option (List Pair)) (honest' : Type 0) (leaves leaves' : List Pair → Type 0) (status : Status) → ReplayEnds form every (source_told left left') (sink_told written written') (keeper_told rows rows' honest' leaves leaves') status → RunStops form every None left written written' rows honest' leaves leaves'
replay_stops form every left left' written written' rows rows' honest' leaves leaves' status (inl ends) = run_stops form every None left left' written written' rows rows' honest' leaves leaves' status ends
replay_stops form every left left' written written' rows rows' honest' leaves leaves' status (inr (why, same, are)) = unbegun_stops form every None left written written' rows rows' honest' leaves leaves' same.1 are

-- and of one that did not bring the rows of a state to the format that is written
module _ (form : Form) (every : ℕ) (p first : State) (storable : IsStorable p) (storable_too : IsStorable first) (alike : HaveSameRows p first) where
  brought_rows : (left : List Pair) → left ≡ rows_of first → AreRowsOf left (Some p)
  brought_rows left is = (is ∙ sym (formats_same p first storable storable_too alike Second), storable.stored)

  unmigrated_stops : (left written written' : Option (List ℕ)) (rows : Option (List Pair)) (honest : Type 0) (leaves leaves' : List Pair → Type 0) → Adds written written' (λ text. text ≡ [])
      → (honest → IsSome rows → (now : List Pair) → leaves' now → leaves now ⊎ (now ≡ rows_of first)) → RunStops form every (Some p) left written written' rows honest leaves leaves'
  unmigrated_stops left written written' rows honest leaves leaves' adds stop = λ good some.
      let i = told_input left in
      (i.0, adds.0, i.1, adds.1, λ now may. by i.0 adds.0 adds.2 now (stop good some now may))
    where
      by : (input text : List ℕ) → text ≡ [] → (now : List Pair) → leaves now ⊎ (now ≡ rows_of first) → (leaves now × (text ≡ [])) ⊎ AreRowsBehind form every (Some p) input text now
      by input text none now (inl may) = inl (may, none)
      by input text none now (inr is) = inr (record {
        lines = [];
        more = lines_of input;
        end = Some p;
        answers = [];
        lines_are = refl;
        answered = (refl, refl);
        kept = brought_rows now is;
        written = inl ([], subst (λ (t : List ℕ). LacksOfLast form every (Some p) [] t []) (sym none) (none_lacks form every (Some p) [] [] (Some p) (refl, refl)));
      })

resume_stops : (form : Form) (every : ℕ) (left left' written written' : Option (List ℕ)) (rows rows' : Option (List Pair)) (honest' : Type 0) (leaves leaves' : List Pair → Type 0) (status : Status) → ResumeEnds form every (source_told left left') (sink_told written written') (keeper_told rows rows' honest' leaves leaves') status → (f : Format) (p : State) → IsStorable p → rows ≡ Some (state_rows f p) → RunStops form every (Some p) left written written' rows honest' leaves leaves'
resume_stops form every left left' written written' rows rows' honest' leaves leaves' status (inl goes) = λ f p storable told good some.
    let of : AreStateRows (state_rows f p) goes.first = subst (λ (r : Option (List Pair)). IfSome r (λ now. AreStateRows now goes.first)) told (goes.loaded good) in
    run_stops form every (Some p) left left' written written' rows rows' honest' leaves leaves' status (goes.ends p storable (state_rows f p, (f, refl), of)) good some
resume_stops form every left left' written written' rows rows' honest' leaves leaves' status (inr (inl (why, same, are))) = λ f p storable told. unbegun_stops form every (Some p) left written written' rows rows' honest' leaves leaves' same.1 are
resume_stops form every left left' written written' rows rows' honest' leaves leaves' status (inr (inr (none, same))) = λ f p storable told good some.
    let of : state_rows f p ≡ state_rows First none.first = subst (λ (r : Option (List Pair)). IfSome r (λ now. now ≡ state_rows First none.first)) told (none.loaded good) in
    unmigrated_stops form every p none.first storable none.storable (state_rows f p, (f, refl), (First, of)) left written written' rows honest' leaves leaves' same.1 none.stop good some

-- so of each command
pub mode_stops : (form : Form) (every : ℕ) (mode : Mode) (left left' written written' : Option (List ℕ)) (rows rows' : Option (List Pair)) (honest' : Type 0) (leaves leaves' : List Pair → Type 0) (status : Status) → ModeEnds form every mode (source_told left left') (sink_told written written') (keeper_told rows rows' honest' leaves leaves') status → ModeStops form every mode left written written' rows honest' leaves leaves'
mode_stops form every Replay left left' written written' rows rows' honest' leaves leaves' status ends = replay_stops form every left left' written written' rows rows' honest' leaves leaves' status ends
mode_stops form every Resume left left' written written' rows rows' honest' leaves leaves' status ends = resume_stops form every left left' written written' rows rows' honest' leaves leaves' status ends
mode_stops form every (Query what) left left' written written' rows rows' honest' leaves leaves' status ends = λ good now may. ends.1.0.stop good now may
mode_stops form every Tally left left' written written' rows rows' honest' leaves leaves' status ends = λ good now may. ends.0.stop good now may
mode_stops form every Check left left' written written' rows rows' honest' leaves leaves' status ends = λ good now may. ends.1.stop now may
mode_stops form every (Statement delegator operator) left left' written written' rows rows' honest' leaves leaves' status ends = λ good now may. ends.1.stop now may
mode_stops form every (Gen seed count) left left' written written' rows rows' honest' leaves leaves' status ends = λ good now may. ends.1.stop now may
mode_stops form every (Trial seed count) left left' written written' rows rows' honest' leaves leaves' status ends = λ good now may. ends.1.stop now may

-- where nothing was called, a stop leaves what it could leave before
still : (form : Form) (every : ℕ) (first : Standing) (left written : Option (List ℕ)) (rows : Option (List Pair)) (honest : Type 0) (leaves : List Pair → Type 0) → RunStops form every first left written written rows honest leaves leaves
still form every first left written rows honest leaves = λ good some. let i = told_input left in (i.0, [], i.1, no_growth written, λ now may. inl (may, refl))

mode_unbegun : (form : Form) (every : ℕ) (mode : Mode) (left written : Option (List ℕ)) (rows : Option (List Pair)) (honest : Type 0) (leaves : List Pair → Type 0) → ModeStops form every mode left written written rows honest leaves leaves
mode_unbegun form every Replay left written rows honest leaves = still form every None left written rows honest leaves
mode_unbegun form every Resume left written rows honest leaves = λ f p storable told. still form every (Some p) left written rows honest leaves
mode_unbegun form every (Query what) left written rows honest leaves = λ good now may. may
mode_unbegun form every Tally left written rows honest leaves = λ good now may. may
mode_unbegun form every Check left written rows honest leaves = λ good now may. may
mode_unbegun form every (Statement delegator operator) left written rows honest leaves = λ good now may. may
mode_unbegun form every (Gen seed count) left written rows honest leaves = λ good now may. may
mode_unbegun form every (Trial seed count) left written rows honest leaves = λ good now may. may

way_unbegun : (form : Form) (every : ℕ) (way : Way) (left written : Option (List ℕ)) (rows : Option (List Pair)) (honest : Type 0) (leaves : List Pair → Type 0) → WayStops form every way left written written rows honest leaves leaves
way_unbegun form every (Plain m) left written rows honest leaves = mode_unbegun form every m left written rows honest leaves
way_unbegun form every (Kept m) left written rows honest leaves = mode_unbegun form 1 m left written (shown rows) honest (ShowsLeft leaves)
way_unbegun form every (Past height what) left written rows honest leaves = λ good now may. may

pub stops_unbegun : (o : Option Command) (left written : Option (List ℕ)) (rows : Option (List Pair)) (honest : Type 0) (leaves : List Pair → Type 0) → CommandStops o left written written rows honest leaves leaves
stops_unbegun None left written rows honest leaves = λ good now may. may
stops_unbegun (Some c) left written rows honest leaves = way_unbegun c.form c.every (way_of c) left written rows honest leaves
