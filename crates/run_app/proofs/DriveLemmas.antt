-- Where a run stands, and how it ends.
use Rattle.std.proofs.Common.{◌⊎◌, inl, inr, ◌≡◌, ◌≢◌, ◌∙◌, ℕ, ◌+◌, ◌<◌, ◌≤◌, List, [], ◌∷◌, ◌++◌, length, Option, Some, None, Result, Ok, Err, IfSome, MatchResult, refl, sym, ap, subst, append_assoc, arith, take, drop, length-append, ne_eqb, slice_index_or, false, append-nil, take-append-drop}
use Rattle.base_bech32.specs.declared.form.Form.{Form}
use Rattle.base_io.specs.{Calls.{Takes, Stays}, Rows.Pair}
use Rattle.chain_whole.specs.Chained.{Chained}
use Rattle.run_app.specs.declared.{progress.Ending.Ending, status.Status.Status}
use Rattle.run_app.specs.declared.status.Status.TheVariants.{Done, Usage, BadInput, Limit, ReadFault, WriteFault, KeepFault, NoMemory, BadStore, WrongStore, NotFound, NoPast}
use Rattle.run_app.specs.declared.status.{LimitKind.TheVariants.{Line, Input, Ratio, Bound}, LineStop.LineStop}
use Rattle.run_app.specs.{Kept.{Began, Keeping, LeftIn}, Ending.status_of}
use Rattle.run_app.specs.{Lines.{whole_from, rest_from, last_line, lines_from, lines_of}, Machine.{Standing, longest}}
use Rattle.run_app.specs.Runs.{Ran, ran_from, AreAnswered, Named, Lacking}
use Rattle.run_app.specs.Outcome.{Ends, HasBegun, RunEnds, answer_from, most_bytes, AreEnded, IsUntroubled}
use Rattle.run_app.specs.Parts.{EndsSo, Fed, Grows, IsAt, IsPaused, LongOnly, Loses, PartStops, PausedBefore, Pauses, Stands, ending_of}
use Rattle.run_app.{specs.Told.{TakesFrom, Told}, proofs.CutLemmas.lines-append}
use Rattle.run_app.proofs.{PartLemmas.{last-some, last-none, long_at}, RunLemmas.ran-append}
use Rattle.run_app.proofs.WaitLemmas.{all_written, loses_more, stands_fewer, stands_more, start_waits}
use Rattle.run_app.specs.declared.progress.Ending.TheVariants as ending
use Rattle.run_app.specs.declared.status.LineStop.TheVariants as stops

abbrev pub TookBytes : ℕ → List ℕ → Option (List ℕ) → Option (List ℕ) → Type 0
TookBytes m piece left left' = IfSome left (λ bytes. Takes m bytes piece left')

-- ---- what is told of the bytes that were taken

pub told_first : (first : Option (List ℕ)) → Told first [] first
told_first first = λ input told. (input, refl, told)

pub told_more : (first : Option (List ℕ)) (t : List ℕ) (left left' : Option (List ℕ)) (m : ℕ) (piece : List ℕ) → Told first t left → TookBytes m piece left left' → Told first (t ++ take m piece) left'
told_more first t left left' m piece at took = λ input told.
    let a = at input told in
    let moves : Takes m a.0 piece left' = rw a.2 at took in
    let whole : take m piece ++ drop m a.0 ≡ a.0 = ap (λ (l : List ℕ). l ++ drop m a.0) moves.piece ∙ take-append-drop m a.0 in
    (drop m a.0, a.1 ∙ ap (λ (r : List ℕ). t ++ r) (sym whole) ∙ sym (append_assoc t (take m piece) (drop m a.0)), moves.rest)

pub told_still : (first : Option (List ℕ)) (t : List ℕ) (left left' : Option (List ℕ)) → Told first t left → Stays left left' → Told first t left'
told_still first t left left' at same = λ input told. let a = at input told in (a.0, a.1, same a.0 a.2)

-- there is a rest
pub told_rest : (first : Option (List ℕ)) (t : List ℕ) (left : Option (List ℕ)) → Told first t left → (rest : List ℕ) × TakesFrom first left t rest
told_rest None t left at = ([], λ input told. absurd cc)
told_rest (Some whole) t left at =
    let a = at whole refl in
    (a.0, λ input told. let same : whole ≡ input = cc in subst (λ (i : List ℕ). (i ≡ t ++ a.0) × (left ≡ Some a.0)) same (a.1, a.2))

-- at the end of the source there is none
pub told_all : (first : Option (List ℕ)) (t : List ℕ) (left left' : Option (List ℕ)) (piece : List ℕ) → Told first t left → IfSome left (λ bytes. bytes ≡ []) → TookBytes 0 piece left left' → TakesFrom first left' t []
told_all first t left left' piece at end took = λ input told.
    let a = at input told in
    let none : a.0 ≡ [] = rw a.2 at end in
    let moves : Takes 0 a.0 piece left' = rw a.2 at took in
    (a.1 ∙ ap (λ (r : List ℕ). t ++ r) none, moves.rest ∙ ap Some none)

-- ---- where a run stands

-- a line that has a fault, behind lines that were written
pub named_at : (form : Form) (before : List (List ℕ)) (end : Standing) (lines : List (List ℕ)) (fault : LineStop) (first : Standing) (L : Standing → Standing → Type 0) (text : List ℕ) → IsAt form before end lines fault → AreAnswered form 1 first before text end → L end end → Named form L 1 first lines text fault
named_at form before end lines fault first L text at good left = record { before = before; line = at.line; after = at.after; middle = end; lines_are = at.lines_are; answered = good; fault_is = at.fault_is; left = left }

-- where it begins
pub fed_first : (form : Form) (every : ℕ) (b : Began) (number : ℕ) (line : List ℕ) (chain : Option Chained) (waiting : ℕ) (held : List ℕ) (w : Option (List ℕ)) (told : Option (List Pair)) (honest : Type 0) (leaves : List Pair → Type 0)
    → 0 < every → number ≡ 1 → line ≡ [] → waiting ≡ 0 → held ≡ [] → Keeping b chain told honest leaves b.first b.first → Fed form every b [] b.first number line chain waiting held w w told honest leaves
fed_first form every b number line chain waiting held w told honest leaves some one empty none nothing kept = record {
  stands = record { settled = b.first; number_is = one; waits = start_waits form every b.first waiting held w some none nothing; kept = kept };
  line_is = empty;
  short = rw empty (omega arith);
}

module _ (form : Form) (every : ℕ) (b : Began) (taken : List ℕ) (end : Standing) (number : ℕ) (line : List ℕ) (chain : Option Chained) (waiting : ℕ) (held : List ℕ) (from w : Option (List ℕ)) (told : Option (List Pair)) (honest : Type 0) (leaves : List Pair → Type 0) (k : Fed form every b taken end number line chain waiting held from w told honest leaves) where
  pub fed_more : Fed form (every + 1) b taken end number line chain waiting held from w told honest leaves
  fed_more = record { stands = stands_more form every b (whole_from [] taken) end number chain waiting held from w told honest leaves k.stands; line_is = k.line_is; short = k.short }

  -- what waited was released
  pub fed_released : (number' : ℕ) (line' : List ℕ) (chain' : Option Chained) (waiting' : ℕ) (held' : List ℕ) (w' : Option (List ℕ)) (told' : Option (List Pair)) (honest' : Type 0) (leaves' : List Pair → Type 0) → line' ≡ line → Stands form 1 b (whole_from [] taken) end number' chain' waiting' held' from w' told' honest' leaves'
      → Fed form 1 b taken end number' line' chain' waiting' held' from w' told' honest' leaves'
  fed_released number' line' chain' waiting' held' w' told' honest' leaves' same stands = record { stands = stands; line_is = same ∙ k.line_is; short = rw same k.short }

-- where none wait fewer do
pub fed_fewer : (form : Form) (every : ℕ) (b : Began) (taken : List ℕ) (end : Standing) (number : ℕ) (line : List ℕ) (chain : Option Chained) (waiting : ℕ) (held : List ℕ) (from w : Option (List ℕ)) (told : Option (List Pair)) (honest : Type 0) (leaves : List Pair → Type 0) → 0 < every → Fed form 1 b taken end number line chain waiting held from w told honest leaves
    → Fed form every b taken end number line chain waiting held from w told honest leaves
fed_fewer form every b taken end number line chain waiting held from w told honest leaves some k =
    let few : waiting < 1 = k.stands.waits.few in
    record { stands = stands_fewer form 1 b (whole_from [] taken) end number chain waiting held from w told honest leaves every (omega (arith, few, some)) k.stands; line_is = k.line_is; short = k.short }

-- ---- lines that are lost end a run

pub loses_ends : (form : Form) (every : ℕ) (first : Standing) (L : Standing → Standing → Type 0) (taken rest : List ℕ) (lines : List (List ℕ)) (from w : Option (List ℕ)) (why : LineStop) → length taken ≤ most_bytes → AreEnded lines taken rest → Loses form every first L lines from w why → EndsSo form every first L taken rest from w (status_of why)
loses_ends form every first L taken rest lines from w stops.Write short ended h = (h.0, h.1, (short, inl (lines, ended, h.2)))
loses_ends form every first L taken rest lines from w stops.Keep short ended h = (h.0, h.1, (short, lines, ended, h.2))
loses_ends form every first L taken rest lines from w stops.NoMemory short ended h = (h.0, h.1, (short, inl (lines, ended, h.2)))
loses_ends form every first L taken rest lines from w (stops.BadInput m fault) short ended h = absurd h
loses_ends form every first L taken rest lines from w (stops.Long m) short ended h = absurd h
loses_ends form every first L taken rest lines from w (stops.Ratio m over) short ended h = absurd h

-- ---- where no more lines are taken

-- a line that has a fault
module _ (form : Form) (every : ℕ) (first : Standing) (L : Standing → Standing → Type 0) (W : List (List ℕ) → Standing → Type 0) (taken rest : List ℕ) (ended : List (List ℕ)) (from w : Option (List ℕ)) (short : length taken ≤ most_bytes) (are : AreEnded ended taken rest) where
  fault_at : (before : List (List ℕ)) (end : Standing) (fault : LineStop) → IsAt form before end ended fault → (more : List (List ℕ)) × AreEnded (before ++ more) taken rest × IsAt form before end (before ++ more) fault
  fault_at before end fault at = (at.line ∷ at.after, subst (λ (l : List (List ℕ)). AreEnded l taken rest) at.lines_are are, record { line = at.line; after = at.after; lines_are = refl; fault_is = at.fault_is })

  pub stop_paused : (why : LineStop) → PartStops form every first L W (λ (more : List ℕ). lines_of (taken ++ more)) ended from w why → MatchResult (ending_of why) (IsPaused form taken rest W) (EndsSo form every first L taken rest from w)
  stop_paused (stops.BadInput m fault) h =
      let at = fault_at h.0 h.1 (stops.BadInput m fault) h.3 in
      record { short = short; lines = h.0; more = at.0; end = h.1; ended = at.1; waits = h.2; why = at.2 }
  stop_paused (stops.Ratio m over) h =
      let at = fault_at h.0 h.1 (stops.Ratio m over) h.3 in
      record { short = short; lines = h.0; more = at.0; end = h.1; ended = at.1; waits = h.2; why = at.2 }
  stop_paused (stops.Long m) h = record { short = short; lines = h.0; more = h.1; end = h.2; ended = subst (λ (l : List (List ℕ)). AreEnded l taken rest) h.4 are; waits = h.3; why = h.5 }
  stop_paused stops.Write h = loses_ends form every first L taken rest ended from w stops.Write short are h
  stop_paused stops.Keep h = loses_ends form every first L taken rest ended from w stops.Keep short are h
  stop_paused stops.NoMemory h = loses_ends form every first L taken rest ended from w stops.NoMemory short are h

-- the last line, which came without its end, is not too long
pub last_stops : (form : Form) (every : ℕ) (first : Standing) (L : Standing → Standing → Type 0) (W : List (List ℕ) → Standing → Type 0) (taken line : List ℕ) (lines ended : List (List ℕ)) (from w : Option (List ℕ)) (why : LineStop) → length line ≤ longest → LongOnly why line
    → PartStops form every first L W (λ (more : List (List ℕ)). lines ++ line ∷ more) ended from w why → PartStops form every first L W (λ (more : List ℕ). lines_of (taken ++ more)) ended from w why
last_stops form every first L W taken line lines ended from w (stops.BadInput m fault) short long h = h
last_stops form every first L W taken line lines ended from w (stops.Ratio m over) short long h = h
last_stops form every first L W taken line lines ended from w (stops.Long m) short long h = absurd (omega (arith, short, long))
last_stops form every first L W taken line lines ended from w stops.Write short long h = h
last_stops form every first L W taken line lines ended from w stops.Keep short long h = h
last_stops form every first L W taken line lines ended from w stops.NoMemory short long h = h

-- with it the lines are all
pub with_last : (taken line : List ℕ) → line ≡ rest_from [] taken → 0 < length line → lines_of taken ≡ whole_from [] taken ++ line ∷ []
with_last taken line is some = ap (λ (l : List ℕ). whole_from [] taken ++ last_line l) (sym is) ∙ ap (λ (l : List (List ℕ)). whole_from [] taken ++ l) (last-some line some)

pub without_last : (taken line : List ℕ) → line ≡ rest_from [] taken → length line ≡ 0 → lines_of taken ≡ whole_from [] taken
without_last taken line is none = ap (λ (l : List ℕ). whole_from [] taken ++ last_line l) (sym is) ∙ ap (λ (l : List (List ℕ)). whole_from [] taken ++ l) (last-none line none) ∙ append-nil (whole_from [] taken)

-- a fault of the source
pub read_paused : (form : Form) (W : List (List ℕ) → Standing → Type 0) (taken rest : List ℕ) (end : Standing) → length taken ≤ most_bytes → W (whole_from [] taken) end → IsPaused form taken rest W (ending.Before ReadFault)
read_paused form W taken rest end short waits = record { short = short; lines = whole_from [] taken; more = []; end = end; ended = inl (append-nil (whole_from [] taken)); waits = waits; why = refl }

-- the bytes were those of the source
pub paused_from : (form : Form) (every : ℕ) (first : Standing) (L : Standing → Standing → Type 0) (W : List (List ℕ) → Standing → Type 0) (left left' from w : Option (List ℕ)) (taken rest : List ℕ) (r : Result Ending Status) → TakesFrom left left' taken rest
    → MatchResult r (IsPaused form taken rest W) (EndsSo form every first L taken rest from w) → MatchResult r (Pauses form left left' W) (RunEnds form every first L left left' from w)
paused_from form every first L W left left' from w taken rest (Ok e) told h = (taken, rest, told, h)
paused_from form every first L W left left' from w taken rest (Err status) told h = (taken, rest, h.0, told, h.1, h.2)

pub ends_from : (form : Form) (every : ℕ) (first : Standing) (L : Standing → Standing → Type 0) (left left' from w : Option (List ℕ)) (taken rest : List ℕ) (status : Status) → TakesFrom left left' taken rest → EndsSo form every first L taken rest from w status → RunEnds form every first L left left' from w status
ends_from form every first L left left' from w taken rest status told h = (taken, rest, h.0, told, h.1, h.2)

-- ---- as many bytes were taken as an input may have

-- what waited was lost
pub limit_lost : (form : Form) (every : ℕ) (s0 : Standing) (L : Standing → Standing → Type 0) (taken : List ℕ) (first left from w : Option (List ℕ)) (why : LineStop) → length taken ≡ most_bytes → Told first taken left → Loses form every s0 L (whole_from [] taken) from w why → RunEnds form every s0 L first left from w (status_of why)
limit_lost form every s0 L taken first left from w why full told h =
    let r = told_rest first taken left told in
    ends_from form every s0 L first left from w taken r.0 (status_of why) r.1 (loses_ends form every s0 L taken r.0 (whole_from [] taken) from w why (omega (arith, full)) (inl refl) h)

-- what waited was released
module _ (form : Form) (every : ℕ) (b : Began) (taken : List ℕ) (end : Standing) (number : ℕ) (line : List ℕ) (chain : Option Chained) (waiting : ℕ) (held : List ℕ) (from w : Option (List ℕ)) (told : Option (List Pair)) (honest : Type 0) (leaves : List Pair → Type 0) (full : length taken ≡ most_bytes) (k : Fed form 1 b taken end number line chain waiting held from w told honest leaves) (first : Option (List ℕ)) where
  abbrev pub L : Standing → Standing → Type 0
  L = LeftIn b told honest leaves

  -- the source failed
  pub read_ends : (left left' : Option (List ℕ)) → Told first taken left → Stays left left' → RunEnds form every b.first L first left' from w ReadFault
  read_ends left left' at same =
      let a = all_written form 1 b (whole_from [] taken) end number chain waiting held from w told honest leaves k.stands in
      let r = told_rest first taken left' (told_still first taken left left' at same) in
      (taken, r.0, a.0, r.1, a.1, (omega (arith, full), record { end = end; answered = a.2; left = a.3 }))

  module _ (left left' : Option (List ℕ)) (piece : List ℕ) (c : ℕ) (at : Told first taken left) (took : TookBytes 1 piece left left') (one : take 1 piece ≡ c ∷ []) where
    told_one : Told first (taken ++ c ∷ []) left'
    told_one = subst (λ (x : List ℕ). Told first (taken ++ x) left') one (told_more first taken left left' 1 piece at took)

    size : length (taken ++ c ∷ []) ≤ most_bytes + 1
    size = rw (length-append taken (c ∷ [])) (omega (arith, full))

    -- one byte more comes, at which the line is too long
    pub long_ends : c ≢ 10 → length line ≡ longest → RunEnds form every b.first L first left' from w (Limit number Line)
    long_ends ne most =
        let a = all_written form 1 b (whole_from [] taken) end number chain waiting held from w told honest leaves k.stands in
        let r = told_rest first (taken ++ c ∷ []) left' told_one in
        let long : longest < length (line ++ c ∷ []) = rw (length-append line (c ∷ [])) (omega (arith, most)) in (
          taken ++ c ∷ [],
          r.0,
          a.0,
          r.1,
          a.1,
          (
            size,
            λ more. (let at = long_at form taken (c ∷ []) end line number number refl k.stands.number_is k.line_is (ne_eqb c 10 ne, tt) long more in named_at form (whole_from [] taken) end (lines_of ((taken ++ c ∷ []) ++ more)) (stops.Long number) b.first L a.0 at a.2 a.3),
          ),
        )

    -- or it is not
    pub pass_ends : (c ≡ 10) ⊎ (length line < longest) → RunEnds form every b.first L first left' from w (Limit number Input)
    pass_ends short =
        let a = all_written form 1 b (whole_from [] taken) end number chain waiting held from w told honest leaves k.stands in
        let r = told_rest first (taken ++ c ∷ []) left' told_one in (
          taken ++ c ∷ [],
          r.0,
          a.0,
          r.1,
          a.1,
          record { bytes = taken; byte = c; taken_is = refl; full = full; answered = record { end = end; answered = a.2; left = a.3 }; number = k.stands.number_is; line = rw (← k.line_is) short },
        )

-- ---- what waited was released

-- some lines were answered
pub pause_first : (form : Form) (left left' : Option (List ℕ)) (W : List (List ℕ) → Standing → Type 0) (e : Ending) → Pauses form left left' W e → (lines : List (List ℕ)) × (end : Standing) × W lines end
pause_first form left left' W ending.End p = (lines_of p.0, p.3.2, p.3.3)
pause_first form left left' W (ending.Before status) p = (p.3.lines, p.3.end, p.3.waits)

-- or it was lost
pub pause_lost : (form : Form) (every : ℕ) (first : Standing) (L : Standing → Standing → Type 0) (W : List (List ℕ) → Standing → Type 0) (left left' from w : Option (List ℕ)) (why : LineStop) (e : Ending) → Pauses form left left' W e → ((lines : List (List ℕ)) (end : Standing) → W lines end → Loses form every first L lines from w why)
    → RunEnds form every first L left left' from w (status_of why)
pause_lost form every first L W left left' from w why ending.End p lost =
    ends_from form every first L left left' from w p.0 p.1 (status_of why) p.2
    (loses_ends form every first L p.0 p.1 (lines_of p.0) from w why p.3.1 (inr (p.3.0, refl)) (lost (lines_of p.0) p.3.2 p.3.3))
pause_lost form every first L W left left' from w why (ending.Before status) p lost =
    ends_from form every first L left left' from w p.0 p.1 (status_of why) p.2
    (loses_ends form every first L p.0 p.1 (p.3.lines ++ p.3.more) from w why p.3.short p.3.ended (loses_more form every first L p.3.lines p.3.more from w why (lost p.3.lines p.3.end p.3.waits)))

-- the lines before a fault were written
module _ (form : Form) (every : ℕ) (first : Standing) (L : Standing → Standing → Type 0) (W : List (List ℕ) → Standing → Type 0) (taken rest text : List ℕ) where
  paused_as : (status : Status) (p : PausedBefore form taken rest W status) → AreAnswered form 1 first p.lines text p.end → L p.end p.end → Ends form every first L taken rest status text
  paused_as (BadInput n fault) p good left = (p.short, inl (p.lines ++ p.more, p.ended, named_at form p.lines p.end (p.lines ++ p.more) (stops.BadInput n fault) first L text p.why good left))
  paused_as (Limit n Line) p good left = (let short : length taken ≤ most_bytes = p.short in omega (arith, short), λ more. named_at form p.lines p.end (lines_of (taken ++ more)) (stops.Long n) first L text (p.why more) good left)
  paused_as (Limit n (Ratio over)) p good left = (p.short, p.lines ++ p.more, p.ended, named_at form p.lines p.end (p.lines ++ p.more) (stops.Ratio n over) first L text p.why good left)
  paused_as (Limit n Input) p good left = absurd p.why
  paused_as (Limit n (Bound over)) p good left = absurd p.why
  paused_as ReadFault p good left = (p.short, record { end = p.end; answered = subst (λ (l : List (List ℕ)). AreAnswered form 1 first l text p.end) p.why good; left = left })
  paused_as Done p good left = absurd p.why
  paused_as Usage p good left = absurd p.why
  paused_as WriteFault p good left = absurd p.why
  paused_as KeepFault p good left = absurd p.why
  paused_as NoMemory p good left = absurd p.why
  paused_as BadStore p good left = absurd p.why
  paused_as (WrongStore is_empty) p good left = absurd p.why
  paused_as NotFound p good left = absurd p.why
  paused_as (NoPast base last) p good left = absurd p.why

pub pause_ends : (form : Form) (every : ℕ) (first : Standing) (L : Standing → Standing → Type 0) (W : List (List ℕ) → Standing → Type 0) (left left' from w : Option (List ℕ)) (status : Status) → Pauses form left left' W (ending.Before status)
    → ((lines : List (List ℕ)) (end : Standing) → W lines end → (text : List ℕ) × Grows from w text × AreAnswered form 1 first lines text end × L end end) → RunEnds form every first L left left' from w status
pause_ends form every first L W left left' from w status p written =
    let a = written p.3.lines p.3.end p.3.waits in
    (p.0, p.1, a.0, p.2, a.1, paused_as form every first L W p.0 p.1 a.0 status p.3 a.2 a.3)

pub first_of : (piece : List ℕ) (d : ℕ) → 0 < length piece → take 1 piece ≡ slice_index_or piece 0 d ∷ []
first_of [] d h = absurd (omega arith)
first_of (x ∷ piece) d h = refl

pub byte_or : (b : ℕ) (line : List ℕ) → (b ≡ 10) ⊎ (length line ≢ longest) → length line ≤ longest → (b ≡ 10) ⊎ (length line < longest)
byte_or b line (inl e) h = inl e
byte_or b line (inr ne) h = inr (omega arith)

-- ---- a run whose source and sink do not fail comes to its end

named_ran : (form : Form) (L : Standing → Standing → Type 0) (n : ℕ) (s : Standing) (lines : List (List ℕ)) (text : List ℕ) (fault : LineStop) → Named form L n s lines text fault → (ran_from form n s lines).fault ≡ Some fault
named_ran form L n s lines text fault w = rw w.lines_are (ap (λ (r : Ran). r.fault) (ran-append form n s w.before (w.line ∷ w.after) text w.middle w.answered) ∙ rw w.fault_is refl)

lacking_ran : (form : Form) (L : Standing → Standing → Type 0) (n : ℕ) (s : Standing) (lines : List (List ℕ)) (text : List ℕ) (fault : LineStop) → Lacking form L n s lines text fault → (ran_from form n s lines).fault ≡ Some fault
lacking_ran form L n s lines text fault w = ap (λ (ls : List (List ℕ)). (ran_from form n s ls).fault) (sym (append-nil lines)) ∙ ap (λ (r : Ran). r.fault) (ran-append form n s lines [] text w.end w.answered) ∙ rw w.fault_is refl

at_end : (taken rest : List ℕ) → rest ≡ [] → taken ++ rest ≡ taken
at_end taken rest none = ap (λ (r : List ℕ). taken ++ r) none ∙ append-nil taken

named_more : (form : Form) (L : Standing → Standing → Type 0) (s0 : Standing) (lines more : List (List ℕ)) (text : List ℕ) (fault : LineStop) → Named form L 1 s0 lines text fault → Named form L 1 s0 (lines ++ more) text fault
named_more form L s0 lines more text fault w = record {
  before = w.before;
  line = w.line;
  after = w.after ++ more;
  middle = w.middle;
  lines_are = ap (λ (l : List (List ℕ)). l ++ more) w.lines_are ∙ append_assoc w.before (w.line ∷ w.after) more;
  answered = w.answered;
  fault_is = w.fault_is;
  left = w.left;
}

ended_fault : (form : Form) (L : Standing → Standing → Type 0) (s0 : Standing) (taken rest : List ℕ) (lines : List (List ℕ)) (text : List ℕ) (fault : LineStop) → AreEnded lines taken rest → Named form L 1 s0 lines text fault → (answer_from form s0 (taken ++ rest)).fault ≡ Some fault
ended_fault form L s0 taken rest lines text fault (inl e) w =
    let all : lines_of (taken ++ rest) ≡ lines ++ lines_from (rest_from [] taken) rest = lines-append taken [] rest ∙ ap (λ (l : List (List ℕ)). l ++ lines_from (rest_from [] taken) rest) (sym e) in
    rw all (named_ran form L 1 s0 (lines ++ lines_from (rest_from [] taken) rest) text fault (named_more form L s0 lines (lines_from (rest_from [] taken) rest) text fault w))
ended_fault form L s0 taken rest lines text fault (inr (none, e)) w =
    let w2 : Named form L 1 s0 (lines_of taken) text fault = rw e at w in
    rw (at_end taken rest none) (named_ran form L 1 s0 (lines_of taken) text fault w2)

untroubled_end : (form : Form) (every : ℕ) (L : Standing → Standing → Type 0) (s0 : Standing) (input taken rest text : List ℕ) (status : Status) → input ≡ taken ++ rest → Ends form every s0 L taken rest status text → (answer_from form s0 input).fault ≡ None → length input ≤ most_bytes → (status ≡ Usage → ⊥) → (status ≡ ReadFault → ⊥) → (status ≡ WriteFault → ⊥) → (status ≡ KeepFault → ⊥) → (status ≡ Done) ⊎ (status ≡ NoMemory)
untroubled_end form every L s0 input taken rest text Done e h good short u r w k = inl refl
untroubled_end form every L s0 input taken rest text NoMemory e h good short u r w k = inr refl
untroubled_end form every L s0 input taken rest text Usage e h good short u r w k = absurd h
untroubled_end form every L s0 input taken rest text ReadFault e h good short u r w k = absurd (r refl)
untroubled_end form every L s0 input taken rest text WriteFault e h good short u r w k = absurd (w refl)
untroubled_end form every L s0 input taken rest text KeepFault e h good short u r w k = absurd (k refl)
untroubled_end form every L s0 input taken rest text BadStore e h good short u r w k = absurd h
untroubled_end form every L s0 input taken rest text (WrongStore is_empty) e h good short u r w k = absurd h
untroubled_end form every L s0 input taken rest text NotFound e h good short u r w k = absurd h
untroubled_end form every L s0 input taken rest text (NoPast base last) e h good short u r w k = absurd h
untroubled_end form every L s0 input taken rest text (BadInput n fault) e (most, inl (lines, ended, named)) good short u r w k =
    let f : (answer_from form s0 input).fault ≡ Some (stops.BadInput n fault) = rw e (ended_fault form L s0 taken rest lines text (stops.BadInput n fault) ended named) in cc
untroubled_end form every L s0 input taken rest text (BadInput n fault) e (most, inr (none, lacking)) good short u r w k =
    let f : (answer_from form s0 input).fault ≡ Some (stops.BadInput n fault) = rw (e, at_end taken rest none) (lacking_ran form L 1 s0 (lines_of taken) text (stops.BadInput n fault) lacking) in cc
untroubled_end form every L s0 input taken rest text (Limit n Line) e h good short u r w k =
    let f : (answer_from form s0 input).fault ≡ Some (stops.Long n) = rw e (named_ran form L 1 s0 (lines_of (taken ++ rest)) text (stops.Long n) (h.1 rest)) in cc
untroubled_end form every L s0 input taken rest text (Limit n (Ratio over)) e (most, lines, ended, named) good short u r w k =
    let f : (answer_from form s0 input).fault ≡ Some (stops.Ratio n over) = rw e (ended_fault form L s0 taken rest lines text (stops.Ratio n over) ended named) in cc
untroubled_end form every L s0 input taken rest text (Limit n (Bound over)) e h good short u r w k = absurd h
untroubled_end form every L s0 input taken rest text (Limit n Input) e h good short u r w k =
    let size : length input ≡ length h.bytes + length (h.byte ∷ []) + length rest = ap length (e ∙ ap (λ (t : List ℕ). t ++ rest) h.taken_is) ∙ length-append (h.bytes ++ h.byte ∷ []) rest ∙ ap (λ (m : ℕ). m + length rest) (length-append h.bytes (h.byte ∷ [])) in
    let full : length h.bytes ≡ most_bytes = h.full in
    absurd (omega arith)

pub untroubled_run : (form : Form) (every : ℕ) (L : Standing → Standing → Type 0) (first : Standing) (left left' w w' : Option (List ℕ)) (status : Status) → RunEnds form every first L left left' w w' status → IsUntroubled form first left → (status ≡ Usage → ⊥) → (status ≡ ReadFault → ⊥) → (status ≡ WriteFault → ⊥) → (status ≡ KeepFault → ⊥) → (status ≡ Done) ⊎ (status ≡ NoMemory)
untroubled_run form every L first left left' w w' status e calm u r wr k =
    let told = e.3 calm.input calm.left_is in
    untroubled_end form every L first calm.input e.0 e.1 e.2 status told.0 e.5 calm.good calm.short u r wr k

-- ---- a run that has begun

pub begun_busy : (s : Status) → HasBegun s → s ≡ Usage → ⊥
begun_busy s h e = subst HasBegun e h

pub begun_unkept : (s : Status) → HasBegun s → s ≡ WrongStore false → ⊥
begun_unkept s h e = subst HasBegun e h
