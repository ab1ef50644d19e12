-- One line, one end of a line, one piece of the input, and the end of the input.
use Rattle.std.proofs.Common.{inl, inr, ◌≡◌, ◌∙◌, ℕ, ◌+◌, ◌<◌, ◌≤◌, Bool, true, false, ◌==◌, cond, lt-ltb, List, [], ◌∷◌, ◌++◌, length, take, drop, slice_index, Option, Some, None, Result, Ok, Err, IfErr, IfSome, IfNone, OnOk, refl, sym, ap, subst, append_assoc, arith, length-append, append-nil, take-append-drop}
use Rattle.std.specs.Prelude.{⊤}
use Rattle.memchr.specs.Find.{IsFirstByte, is_byte}
use Rattle.base_bech32.specs.declared.form.Form.{Form}
use Rattle.base_io.specs.{Outside.Rose, Rows.Pair}
use Rattle.chain_whole.specs.Chained.{Chained}
use Rattle.run_app.specs.declared.status.LineStop.{LineStop, TheVariants.{BadInput, Long, Ratio, Write, Keep, NoMemory}}
use Rattle.run_app.specs.{declared.status.{EndStop.EndStop, InputFault.InputFault, Status.Status}, Kept.{Began, LeftIn}}
use Rattle.run_app.specs.Lines.{whole_from, rest_from, last_line, lines_from, lines_of}
use Rattle.run_app.specs.{Machine.{Standing, longest, line_answer}, Outcome.{Ends, most_bytes}}
use Rattle.run_app.specs.Runs.{before, ran_from, AreAnswered, Answered, Held, Lacking, Reported, Finished}
use Rattle.run_app.specs.Parts.{EndsSo, Fed, FinishAs, FinishStatus, FinishStops, Finishes, Grows, HasNoEnd, IsAt, IsFault, Loses, NotExtended, PartStops, Stands, UnlessNoMemory, status_at_end}
use Rattle.run_app.proofs.CutLemmas.{whole-append, rest-append, lines-append, whole_none, rest_none, whole_one, rest_one, whole_no_longer, no_end_before}
use Rattle.run_app.proofs.RunLemmas.{ran-append, answered-append, grows_on, no_growth}
use Rattle.run_app.proofs.WaitLemmas.{loses_more, stands_lost}
use Rattle.run_app.specs.declared.status.Status.TheVariants as status
use Rattle.run_app.specs.declared.status.EndStop.TheVariants as ends

-- ---- the first end of a line

ne_true : (test : Bool) → ¬ (test ≡ true) → test ≡ false
ne_true true h = absurd (h refl)
ne_true false h = refl

take_whole : (bytes : List ℕ) → take (length bytes) bytes ≡ bytes
take_whole [] = refl
take_whole (b ∷ bytes) = ap (λ (t : List ℕ). b ∷ t) (take_whole bytes)

pub found_before : (bytes : List ℕ) (r : Option ℕ) → IsFirstByte (is_byte 10) bytes r → IfSome r (λ i. HasNoEnd (take i bytes))
found_before bytes None h = tt
found_before bytes (Some i) h = no_end_before i bytes (let lt : i < length bytes = h.0.high in omega arith) (λ k lt. ne_true (slice_index bytes k == 10) (h.0.before k (omega arith) lt))

pub found_none : (bytes : List ℕ) (r : Option ℕ) → IsFirstByte (is_byte 10) bytes r → IfNone r (HasNoEnd bytes)
found_none bytes None h = subst HasNoEnd (take_whole bytes) (no_end_before (length bytes) bytes (omega arith) (λ k lt. ne_true (slice_index bytes k == 10) (h k (omega arith) lt)))
found_none bytes (Some i) h = tt

-- ---- a line that is too long

pub answer_long : (form : Form) (n : ℕ) (s : Standing) (line : List ℕ) → longest < length line → line_answer form n s line ≡ Err (Long n)
unfolding line_answer
answer_long form n s line h = rw (lt-ltb longest (length line) h) refl

-- The line that has begun, which follows others, is too long whatever comes behind it.
long_step : (form : Form) (test : Bool) (before : List (List ℕ)) (end : Standing) (line more : List ℕ) (b : ℕ) → longest < length line → IsAt form before end (before ++ lines_from (line ++ b ∷ []) more) (Long (1 + length before))
    → IsAt form before end (before ++ (cond test (line ∷ whole_from [] more) (whole_from (line ++ b ∷ []) more) ++ last_line (cond test (rest_from [] more) (rest_from (line ++ b ∷ []) more)))) (Long (1 + length before))
long_step form true before end line more b h k = record { line = line; after = whole_from [] more ++ last_line (rest_from [] more); lines_are = refl; fault_is = answer_long form (1 + length before) end line h }
long_step form false before end line more b h k = k

pub too_long : (form : Form) (before : List (List ℕ)) (end : Standing) (more line : List ℕ) → longest < length line → IsAt form before end (before ++ lines_from line more) (Long (1 + length before))
too_long form before end [] [] h = absurd (omega (arith, h))
too_long form before end [] (x ∷ line) h = record { line = x ∷ line; after = []; lines_are = refl; fault_is = answer_long form (1 + length before) end (x ∷ line) h }
too_long form before end (b ∷ more) line h =
    long_step form (b == 10) before end line more b h (too_long form before end more (line ++ b ∷ []) (rw (length-append line (b ∷ [])) (omega (arith, h))))

-- the same by its number, of the bytes that were taken
pub long_at : (form : Form) (taken bytes : List ℕ) (end : Standing) (line : List ℕ) (n m : ℕ) → m ≡ n → n ≡ 1 + length (whole_from [] taken) → line ≡ rest_from [] taken → HasNoEnd bytes → longest < length (line ++ bytes)
    → (more : List ℕ) → IsAt form (whole_from [] taken) end (lines_of ((taken ++ bytes) ++ more)) (Long m)
long_at form taken bytes end line n m same number line_is none long more =
    let before : List (List ℕ) = whole_from [] taken in
    let at : IsAt form before end (before ++ lines_from (line ++ bytes) more) (Long (1 + length before)) = too_long form before end more (line ++ bytes) long in
    let rest : lines_from line (bytes ++ more) ≡ lines_from (line ++ bytes) more = lines-append bytes line more ∙ rw (whole_none bytes line none, rest_none bytes line none) refl in
    let all : lines_of ((taken ++ bytes) ++ more) ≡ before ++ lines_from (line ++ bytes) more =
    ap lines_of (append_assoc taken bytes more) ∙ lines-append taken [] (bytes ++ more) ∙ ap (λ (l : List ℕ). before ++ lines_from l (bytes ++ more)) (sym line_is) ∙ ap (λ (l : List (List ℕ)). before ++ l) rest in
    rw (same, number, all) at

-- ---- a line that has a fault

-- a fault of the line is why the run stops there
pub fault_stops : (form : Form) (every : ℕ) (first : Standing) (L : Standing → Standing → Type 0) (W : List (List ℕ) → Standing → Type 0) (lines : List (List ℕ)) (end : Standing) (line : List ℕ) (n : ℕ) (from w : Option (List ℕ)) (why : LineStop) → n ≡ 1 + length lines → IsFault why (line_answer form n end line)
    → UnlessNoMemory why (W lines end) → Loses form every first L (lines ++ line ∷ []) from w NoMemory → PartStops form every first L W (λ (more : List (List ℕ)). lines ++ line ∷ more) (lines ++ line ∷ []) from w why
fault_stops form every first L W lines end line n from w (BadInput m fault) number of stands lost = (lines, end, stands, record { line = line; after = []; lines_are = refl; fault_is = rw number at of })
fault_stops form every first L W lines end line n from w (Ratio m over) number of stands lost = (lines, end, stands, record { line = line; after = []; lines_are = refl; fault_is = rw number at of })
fault_stops form every first L W lines end line n from w (Long m) number of stands lost = absurd of
fault_stops form every first L W lines end line n from w Write number of stands lost = absurd of
fault_stops form every first L W lines end line n from w Keep number of stands lost = absurd of
fault_stops form every first L W lines end line n from w NoMemory number of stands lost = lost

-- one that is over its limit
pub long_stops : (form : Form) (every : ℕ) (first : Standing) (L : Standing → Standing → Type 0) (W : List (List ℕ) → Standing → Type 0) (lines : List (List ℕ)) (end : Standing) (line : List ℕ) (n : ℕ) (from w : Option (List ℕ)) → n ≡ 1 + length lines → longest < length line → W lines end
    → PartStops form every first L W (λ (more : List (List ℕ)). lines ++ line ∷ more) (lines ++ line ∷ []) from w (Long n)
long_stops form every first L W lines end line n from w number long stands = (
  lines,
  line ∷ [],
  end,
  stands,
  refl,
  λ more. record { line = line; after = more; lines_are = refl; fault_is = rw number (answer_long form (1 + length lines) end line long) },
)

-- where lines are lost
pub lost_stops : (form : Form) (every : ℕ) (first : Standing) {X : Type 0} (L : Standing → Standing → Type 0) (W : List (List ℕ) → Standing → Type 0) (all : X → List (List ℕ)) (ended : List (List ℕ)) (from w : Option (List ℕ)) (why : LineStop) → Loses form every first L ended from w why → PartStops form every first L W all ended from w why
lost_stops form every first L W all ended from w Write h = h
lost_stops form every first L W all ended from w Keep h = h
lost_stops form every first L W all ended from w NoMemory h = h
lost_stops form every first L W all ended from w (BadInput m fault) h = absurd h
lost_stops form every first L W all ended from w (Long m) h = absurd h
lost_stops form every first L W all ended from w (Ratio m over) h = absurd h

-- ---- the stop of a part is the stop of more

at_more : (form : Form) (before : List (List ℕ)) (end : Standing) (ended more : List (List ℕ)) (fault : LineStop) → IsAt form before end ended fault → IsAt form before end (ended ++ more) fault
at_more form before end ended more fault a = record { line = a.line; after = a.after ++ more; lines_are = ap (λ (l : List (List ℕ)). l ++ more) a.lines_are ∙ append_assoc before (a.line ∷ a.after) more; fault_is = a.fault_is }

pub stops_more : (form : Form) (every : ℕ) (first : Standing) {X Y : Type 0} (L : Standing → Standing → Type 0) (W : List (List ℕ) → Standing → Type 0) (all : X → List (List ℕ)) (all' : Y → List (List ℕ)) (f : Y → X) (ended more ended' : List (List ℕ)) (from w : Option (List ℕ)) (why : LineStop)
    → ((y : Y) → all' y ≡ all (f y)) → ended' ≡ ended ++ more → PartStops form every first L W all ended from w why → PartStops form every first L W all' ended' from w why
stops_more form every first L W all all' f ended more ended' from w (BadInput m fault) same e h = (h.0, h.1, h.2, rw e (at_more form h.0 h.1 ended more (BadInput m fault) h.3))
stops_more form every first L W all all' f ended more ended' from w (Ratio m over) same e h = (h.0, h.1, h.2, rw e (at_more form h.0 h.1 ended more (Ratio m over) h.3))
stops_more form every first L W all all' f ended more ended' from w (Long m) same e h = (
  h.0,
  h.1 ++ more,
  h.2,
  h.3,
  e ∙ ap (λ (l : List (List ℕ)). l ++ more) h.4 ∙ append_assoc h.0 h.1 more,
  λ y. rw (same y) (h.5 (f y)),
)
stops_more form every first L W all all' f ended more ended' from w Write same e h = rw e (loses_more form every first L ended more from w Write h)
stops_more form every first L W all all' f ended more ended' from w Keep same e h = rw e (loses_more form every first L ended more from w Keep h)
stops_more form every first L W all all' f ended more ended' from w NoMemory same e h = rw e (loses_more form every first L ended more from w NoMemory h)

-- ---- the end of a line

-- bytes that are not added to the line stop the run
pub extend_stops : (form : Form) (every : ℕ) (b : Began) (taken bytes behind : List ℕ) (end : Standing) (n : ℕ) (line : List ℕ) (chain : Option Chained) (waiting : ℕ) (held : List ℕ) (from w : Option (List ℕ)) (told : Option (List Pair)) (honest : Type 0) (leaves : List Pair → Type 0) (why : LineStop)
    → Fed form every b taken end n line chain waiting held from w told honest leaves → HasNoEnd bytes → NotExtended why n line bytes
    → PartStops form every b.first (LeftIn b told honest leaves) (λ lines last. Stands form every b lines last n chain waiting held from w told honest leaves) (λ (more : List ℕ). lines_of ((taken ++ (bytes ++ behind)) ++ more)) (whole_from [] (taken ++ (bytes ++ behind))) from w why
extend_stops form every b taken bytes behind end n line chain waiting held from w told honest leaves (Long m) k none h = (
  whole_from [] taken,
  whole_from (rest_from [] taken) (bytes ++ behind),
  end,
  k.stands,
  whole-append taken [] (bytes ++ behind),
  λ more. rw (ap (λ (t : List ℕ). lines_of (t ++ more)) (sym (append_assoc taken bytes behind)) ∙ ap lines_of (append_assoc (taken ++ bytes) behind more))
      (long_at form taken bytes end line n m h.0 k.stands.number_is k.line_is none h.1 (behind ++ more)),
)
extend_stops form every b taken bytes behind end n line chain waiting held from w told honest leaves NoMemory k none h =
    rw (whole-append taken [] (bytes ++ behind)) (stands_lost form every b (whole_from [] taken) end n chain waiting held from w told honest leaves (whole_from (rest_from [] taken) (bytes ++ behind)) k.stands)
extend_stops form every b taken bytes behind end n line chain waiting held from w told honest leaves (BadInput m fault) k none h = absurd h
extend_stops form every b taken bytes behind end n line chain waiting held from w told honest leaves (Ratio m over) k none h = absurd h
extend_stops form every b taken bytes behind end n line chain waiting held from w told honest leaves Write k none h = absurd h
extend_stops form every b taken bytes behind end n line chain waiting held from w told honest leaves Keep k none h = absurd h

-- the lines that ended, with that which ends now
ended_now : (taken bytes line : List ℕ) → line ≡ rest_from [] taken ++ bytes → HasNoEnd bytes → whole_from [] (taken ++ (bytes ++ 10 ∷ [])) ≡ whole_from [] taken ++ line ∷ []
ended_now taken bytes line is none = whole-append taken [] (bytes ++ 10 ∷ []) ∙ ap (λ (l : List (List ℕ)). whole_from [] taken ++ l) (whole_one bytes (rest_from [] taken) none ∙ ap (λ (l : List ℕ). l ∷ []) (sym is))

-- and all there will be
all_now : (taken bytes line more : List ℕ) → line ≡ rest_from [] taken ++ bytes → HasNoEnd bytes → lines_of ((taken ++ (bytes ++ 10 ∷ [])) ++ more) ≡ whole_from [] taken ++ line ∷ lines_of more
all_now taken bytes line more is none =
    lines-append (taken ++ (bytes ++ 10 ∷ [])) [] more ∙ rw (rest-append taken [] (bytes ++ 10 ∷ []), rest_one bytes (rest_from [] taken) none, ended_now taken bytes line is none) (append_assoc (whole_from [] taken) (line ∷ []) (lines_of more))

-- what stops the line stops the bytes up to its end
pub line_stops : (form : Form) (every : ℕ) (first : Standing) (L : Standing → Standing → Type 0) (W : List (List ℕ) → Standing → Type 0) (taken bytes line : List ℕ) (from w : Option (List ℕ)) (why : LineStop) → line ≡ rest_from [] taken ++ bytes → HasNoEnd bytes
    → PartStops form every first L W (λ (more : List (List ℕ)). whole_from [] taken ++ line ∷ more) (whole_from [] taken ++ line ∷ []) from w why → PartStops form every first L W (λ (more : List ℕ). lines_of ((taken ++ (bytes ++ 10 ∷ [])) ++ more)) (whole_from [] (taken ++ (bytes ++ 10 ∷ []))) from w why
line_stops form every first L W taken bytes line from w why is none h =
    stops_more form every first L W (λ (more : List (List ℕ)). whole_from [] taken ++ line ∷ more) (λ (more : List ℕ). lines_of ((taken ++ (bytes ++ 10 ∷ [])) ++ more)) (λ more. lines_of more) (whole_from [] taken ++ line ∷ []) [] (whole_from [] (taken ++ (bytes ++ 10 ∷ []))) from w why
    (λ more. all_now taken bytes line more is none) (ended_now taken bytes line is none ∙ sym (append-nil (whole_from [] taken ++ line ∷ []))) h

module _ (form : Form) (every : ℕ) (b : Began) (taken : List ℕ) (end : Standing) (n : ℕ) (chain : Option Chained) (waiting : ℕ) (held : List ℕ) (from w : Option (List ℕ)) (told : Option (List Pair)) (honest : Type 0) (leaves : List Pair → Type 0) where
  -- a line was taken, and the next one has not begun
  pub line_fed : (bytes line empty : List ℕ) → line ≡ rest_from [] taken ++ bytes → HasNoEnd bytes → empty ≡ [] → Stands form every b (whole_from [] taken ++ line ∷ []) end n chain waiting held from w told honest leaves
      → Fed form every b (taken ++ (bytes ++ 10 ∷ [])) end n empty chain waiting held from w told honest leaves
  line_fed bytes line empty is none nothing k = record {
    stands = rw (ended_now taken bytes line is none) k;
    line_is = nothing ∙ sym (rest-append taken [] (bytes ++ 10 ∷ []) ∙ rest_one bytes (rest_from [] taken) none);
    short = rw nothing (omega arith);
  }

  -- bytes without an end came to the line
  pub bytes_fed : (bytes line line' : List ℕ) → HasNoEnd bytes → line' ≡ line ++ bytes → length line' ≤ longest → Fed form every b taken end n line chain waiting held from w told honest leaves → Fed form every b (taken ++ bytes) end n line' chain waiting held from w told honest leaves
  bytes_fed bytes line line' none is short k = record {
    stands = rw (whole-append taken [] bytes, whole_none bytes (rest_from [] taken) none, append-nil (whole_from [] taken)) k.stands;
    line_is = is ∙ ap (λ (l : List ℕ). l ++ bytes) k.line_is ∙ sym (rest-append taken [] bytes ∙ rest_none bytes (rest_from [] taken) none);
    short = short;
  }

-- ---- a piece, line by line

-- the rest begins with bytes and the end of a line
pub parted : (rest : List ℕ) (i : ℕ) → drop i rest ≡ 10 ∷ drop (i + 1) rest → rest ≡ (take i rest ++ 10 ∷ []) ++ drop (i + 1) rest
parted rest i e = sym (take-append-drop i rest) ∙ ap (λ (t : List ℕ). take i rest ++ t) e ∙ sym (append_assoc (take i rest) (10 ∷ []) (drop (i + 1) rest))

-- all of the piece but the rest was taken
pub taken_on : (piece done rest : List ℕ) (i : ℕ) → piece ≡ done ++ rest → drop i rest ≡ 10 ∷ drop (i + 1) rest → piece ≡ (done ++ (take i rest ++ 10 ∷ [])) ++ drop (i + 1) rest
taken_on piece done rest i are e = are ∙ ap (λ (t : List ℕ). done ++ t) (parted rest i e) ∙ sym (append_assoc done (take i rest ++ 10 ∷ []) (drop (i + 1) rest))

-- the line that ends now, and what is behind it
pub rest_of : (piece done rest : List ℕ) (i : ℕ) → piece ≡ done ++ rest → drop i rest ≡ 10 ∷ drop (i + 1) rest → piece ≡ done ++ ((take i rest ++ 10 ∷ []) ++ drop (i + 1) rest)
rest_of piece done rest i are e = are ∙ ap (λ (t : List ℕ). done ++ t) (parted rest i e)

-- what stops a part of the piece stops the piece
pub piece_stops : (form : Form) (every : ℕ) (first : Standing) (L : Standing → Standing → Type 0) (W : List (List ℕ) → Standing → Type 0) (taken piece done now behind : List ℕ) (from w : Option (List ℕ)) (why : LineStop) → piece ≡ done ++ (now ++ behind)
    → PartStops form every first L W (λ (more : List ℕ). lines_of (((taken ++ done) ++ now) ++ more)) (whole_from [] ((taken ++ done) ++ now)) from w why → PartStops form every first L W (λ (more : List ℕ). lines_of ((taken ++ piece) ++ more)) (whole_from [] (taken ++ piece)) from w why
piece_stops form every first L W taken piece done now behind from w why are h =
    let whole : taken ++ piece ≡ ((taken ++ done) ++ now) ++ behind = ap (λ (t : List ℕ). taken ++ t) are ∙ simp append_assoc in
    stops_more form every first L W (λ (more : List ℕ). lines_of (((taken ++ done) ++ now) ++ more)) (λ (more : List ℕ). lines_of ((taken ++ piece) ++ more)) (λ more. behind ++ more) (whole_from [] ((taken ++ done) ++ now)) (whole_from (rest_from [] ((taken ++ done) ++ now)) behind) (whole_from [] (taken ++ piece)) from w why
    (λ more. ap (λ (t : List ℕ). lines_of (t ++ more)) whole ∙ ap lines_of (append_assoc ((taken ++ done) ++ now) behind more))
    (ap (whole_from []) whole ∙ whole-append ((taken ++ done) ++ now) [] behind) h

-- what is behind the last end begins the next line, or stops the piece
module _ (form : Form) (every : ℕ) (b : Began) (taken piece done rest : List ℕ) (end : Standing) (n : ℕ) (line : List ℕ) (chain : Option Chained) (waiting : ℕ) (held : List ℕ) (from w : Option (List ℕ)) (told : Option (List Pair)) (honest : Type 0) (leaves : List Pair → Type 0) where
  pub rest_fed : (line' : List ℕ) (r : Result ⊤ LineStop) → piece ≡ done ++ rest → HasNoEnd rest → Fed form every b (taken ++ done) end n line chain waiting held from w told honest leaves → OnOk r (line' ≡ line ++ rest) → OnOk r (length line' ≤ longest)
      → OnOk r ((next : Standing) × Fed form every b (taken ++ piece) next n line' chain waiting held from w told honest leaves)
  rest_fed line' (Err why) are none k is short = tt
  rest_fed line' (Ok x) are none k is short =
      let whole : taken ++ piece ≡ (taken ++ done) ++ rest = ap (λ (t : List ℕ). taken ++ t) are ∙ sym (append_assoc taken done rest) in
      (end, rw whole (bytes_fed form every b (taken ++ done) end n chain waiting held from w told honest leaves rest line line' none is short k))

  pub piece_extends : (r : Result ⊤ LineStop) → piece ≡ done ++ rest → HasNoEnd rest → Fed form every b (taken ++ done) end n line chain waiting held from w told honest leaves → IfErr r (λ why. NotExtended why n line rest)
      → IfErr r (PartStops form every b.first (LeftIn b told honest leaves) (λ lines last. Stands form every b lines last n chain waiting held from w told honest leaves) (λ (more : List ℕ). lines_of ((taken ++ piece) ++ more)) (whole_from [] (taken ++ piece)) from w)
  piece_extends (Ok x) are none k h = tt
  piece_extends (Err why) are none k h =
      piece_stops form every b.first (LeftIn b told honest leaves) (λ lines last. Stands form every b lines last n chain waiting held from w told honest leaves) taken piece done (rest ++ []) [] from w why
      (are ∙ ap (λ (t : List ℕ). done ++ t) (sym (append-nil rest) ∙ sym (append-nil (rest ++ []))))
      (extend_stops form every b (taken ++ done) rest [] end n line chain waiting held from w told honest leaves why k none h)

-- no more lines end than there are bytes, so the number fits
pub piece_number : (taken piece done rest : List ℕ) (n n' : ℕ) → piece ≡ done ++ rest → n ≡ 1 + length (whole_from [] taken) → n' ≡ 1 + length (whole_from [] (taken ++ done)) → n' + length rest ≤ n + length piece
piece_number taken piece done rest n n' are is is' =
    let lines : length (whole_from [] (taken ++ done)) ≡ length (whole_from [] taken) + length (whole_from (rest_from [] taken) done) = ap length (whole-append taken [] done) ∙ length-append (whole_from [] taken) (whole_from (rest_from [] taken) done) in
    let few : length (whole_from (rest_from [] taken) done) ≤ length done = whole_no_longer done (rest_from [] taken) in
    let size : length piece ≡ length done + length rest = ap length are ∙ length-append done rest in
    omega (arith, lines, few, size, is, is')

pub number_fits : (taken : List ℕ) (n : ℕ) → n ≡ 1 + length (whole_from [] taken) → n ≤ 1 + length taken
number_fits taken n is = let h : length (whole_from [] taken) ≤ length taken = whole_no_longer taken [] in omega (arith, is, h)

-- ---- the end of the input

pub last-some : (line : List ℕ) → 0 < length line → last_line line ≡ line ∷ []
last-some [] h = absurd (omega arith)
last-some (b ∷ line) h = refl

-- no line is left
pub last-none : (line : List ℕ) → length line ≡ 0 → last_line line ≡ []
last-none [] h = refl
last-none (b ∷ line) h = absurd (omega (arith, h))

-- what is told of a report alone says nothing of a keeper
abbrev pub untold : Standing → Standing → Type 0
untold s t = Unit {0}

answered_all : (form : Form) (n m : ℕ) (s s' : Standing) (lines : List (List ℕ)) (text' text : List ℕ) (end : Standing) → AreAnswered form n s lines text' s' → AreAnswered form m s' [] text end → AreAnswered form n s lines (text' ++ text) end
answered_all form n m s s' lines text' text end good none =
    subst (λ (ls : List (List ℕ)). AreAnswered form n s ls (text' ++ text) end) (append-nil lines) (answered-append form n s lines [] text' s' text end good none)

module _ (form : Form) (L : Standing → Standing → Type 0) (n : ℕ) (s s' : Standing) (lines : List (List ℕ)) (text' : List ℕ) (good : AreAnswered form n s lines text' s') (left : L s' s') where
  -- no lines lead on
  same_end : (text : List ℕ) (end : Standing) → AreAnswered form 1 s' [] text end → L end end
  same_end text end none = subst (λ x. L x x) (sym none.1) left

  reported : (text : List ℕ) → Reported form untold 1 s' [] text → Reported form L n s lines (text' ++ text)
  reported text h = record {
    end = h.end;
    done = text' ++ h.done;
    report = h.report;
    front = h.front;
    answered = answered_all form n 1 s s' lines text' h.done h.end good h.answered;
    report_is = h.report_is;
    part = h.part;
    text_is = ap (λ (t : List ℕ). text' ++ t) h.text_is ∙ sym (append_assoc text' h.done h.front);
    left = same_end h.done h.end h.answered;
  }

  finished : (text : List ℕ) → Finished form untold 1 s' [] text → Finished form L n s lines (text' ++ text)
  finished text h = record {
    end = h.end;
    done = text' ++ h.done;
    answered = answered_all form n 1 s s' lines text' h.done h.end good h.answered;
    ran = ap (ran_from form n s) (sym (append-nil lines)) ∙ ran-append form n s lines [] text' s' good ∙ ap (before text') h.ran;
    left = same_end h.done h.end h.answered;
  }

  lacking : (text : List ℕ) (m : ℕ) (fault : InputFault) → Lacking form untold 1 s' [] text (BadInput m fault) → Lacking form L n s lines (text' ++ text) (BadInput m fault)
  lacking text m fault h = record { end = h.end; answered = answered_all form n 1 s s' lines text' text h.end good h.answered; fault_is = h.fault_is; left = same_end text h.end h.answered }

  held : (text : List ℕ) → Answered form untold 1 s' [] text → Held form L n s lines (text' ++ text)
  held text h = record { before = lines; after = []; middle = h.end; lines_are = sym (append-nil lines); answered = answered_all form n 1 s s' lines text' text h.end good h.answered; left = same_end text h.end h.answered }

-- what the report gives, behind lines that were written, is how the run ends
module _ (form : Form) (every : ℕ) (L : Standing → Standing → Type 0) (first end : Standing) (taken text' : List ℕ) (short : length taken ≤ most_bytes) (good : AreAnswered form 1 first (lines_of taken) text' end) (left : L end end) where
  finish_as : (s : Status) (text : List ℕ) → FinishAs form untold 1 end [] s text → Ends form every first L taken [] s (text' ++ text)
  finish_as status.Done text h = (refl, short, finished form L 1 first end (lines_of taken) text' good left text h)
  finish_as (status.BadInput m fault) text h = (short, inr (refl, lacking form L 1 first end (lines_of taken) text' good left text m fault h))
  finish_as status.WriteFault text (inl h) = (short, inr (inl (refl, reported form L 1 first end (lines_of taken) text' good left text h)))
  finish_as status.WriteFault text (inr h) = (short, inr (inr (refl, finished form L 1 first end (lines_of taken) text' good left text h)))
  finish_as status.NoMemory text (inl h) = (short, inr (refl, reported form L 1 first end (lines_of taken) text' good left text h))
  finish_as status.NoMemory text (inr h) = (short, inl (lines_of taken, inr (refl, refl), inr (inl (held form L 1 first end (lines_of taken) text' good left text h))))
  finish_as status.Usage text h = absurd h
  finish_as (status.Limit n kind) text h = absurd h
  finish_as status.ReadFault text h = absurd h
  finish_as status.KeepFault text h = absurd h
  finish_as status.BadStore text h = absurd h
  finish_as (status.WrongStore is_empty) text h = absurd h
  finish_as status.NotFound text h = absurd h
  finish_as (status.NoPast base last) text h = absurd h

  pub finish_ends : (from w w' : Option (List ℕ)) (s : Status) → Grows from w text' → FinishStatus form untold 1 end [] w w' s → EndsSo form every first L taken [] from w' s
  finish_ends from w w' s grows f = (text' ++ f.0, grows_on from w w' text' f.0 grows f.1, finish_as s f.0 f.2)

-- how the report ends
pub end_status : (form : Form) (s : Standing) (w w' : Option (List ℕ)) (stop : EndStop) → FinishStops form untold 1 s [] w w' stop → FinishStatus form untold 1 s [] w w' (status_at_end stop)
end_status form s w w' (ends.Lacking m fault) h = h
end_status form s w w' ends.Report h = (h.0, h.1, inl h.2)
end_status form s w w' ends.Flush h = (h.0, h.1, inr h.2)
end_status form s w w' ends.NoMemory h = h

pub done_status : (form : Form) (s : Standing) (w w' : Option (List ℕ)) → Finishes form untold 1 s [] w w' → FinishStatus form untold 1 s [] w w' status.Done
done_status form s w w' f = (f.0, f.2, f.1)

-- nothing was written of the report, and memory was wanting
pub nothing_reported : (form : Form) (s : Standing) (written : Option (List ℕ)) → FinishStops form untold 1 s [] written written ends.NoMemory
nothing_reported form s written = ([], no_growth written, inr (record { end = s; answered = (refl, refl); left = tt }))

-- ---- counts of faults

-- a count that has not fallen, and then rose, rose
pub rose_later : (a b c : ℕ) → a ≤ b → Rose b c → Rose a c
rose_later a b c le (inl lt) = inl (omega (arith, le, lt))
rose_later a b c le (inr full) = inr full
