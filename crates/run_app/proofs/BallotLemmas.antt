-- The ballots of an input, line by line.
use Rattle.std.proofs.Common.{◌≡◌, ◌≢◌, ◌∙◌, ◌⊎◌, inl, inr, ℕ, suc, ◌+◌, ◌<◌, ◌≤◌, Bool, true, false, cond, ◌==◌, le-ltb, lt-ltb, List, [], ◌∷◌, ◌++◌, append-nil, append_assoc, length, length-append, take, drop, Option, Some, None, Result, Ok, Err, OnOk, IfErr, IfSome, refl, sym, ap, subst, arith, add-zero, ne_eqb}
use Rattle.std.specs.Option.{option_or}
use Rattle.base_bech32.specs.declared.form.Form.{Form}
use Rattle.base_coins.specs.Steps.{◌>>=◌}
use Rattle.base_io.specs.Calls.{Stays}
use Rattle.base_messages.specs.declared.faults.LineFault.{LineFault}
use Rattle.base_messages.specs.declared.faults.LineFault.TheVariants as why
use Rattle.base_roles.specs.{Entries.{at, with}, Orders.same_addr}
use Rattle.base_types.specs.Orders.{addr_cmp}
use Rattle.line_ballots.specs.{declared.ballot.Ballot.Ballot, Ballots.ballot_of}
use Rattle.line_json.specs.Reading.{Gives}
use Rattle.mod_tally.{specs.{declared.choice.Choice.Choice, Ballots.{Cast, chosen_in}}, proofs.Casting.cast_next}
use Rattle.run_app.specs.declared.status.Status.{Status, TheVariants.{Limit, ReadFault}}
use Rattle.run_app.specs.declared.status.{LimitKind.TheVariants.{Line, Input}, LineStop.LineStop}
use Rattle.run_app.specs.Ballots.{AllAreKept, AreKept, AreTaken, AreUncounted, IsCast, IsNone, IsOfBallots, IsUncounted, Kept, StopsIn, ballot_at, ballot_or_stop, cast_from, cast_in}
use Rattle.run_app.specs.{Ending.status_of, Lines.{whole_from, rest_from, last_line, lines_from, lines_of}}
use Rattle.run_app.specs.{Machine.{longest, not_read}, Outcome.most_bytes, Parts.{HasNoEnd, NotExtended}, Told.Told}
use Rattle.run_app.proofs.DriveLemmas.{TookBytes, told_all, told_more, told_rest, told_still}
use Rattle.run_app.proofs.PartLemmas.{last-some, parted}
use Rattle.run_app.proofs.CutLemmas.{lines-append, rest-append, rest_none, rest_one, whole-append, whole_no_longer, whole_none, whole_one}
use Rattle.run_app.specs.declared.status.LineStop.TheVariants as stop

-- ---- one line

-- the line is within its limit
within : (form : Form) (n : ℕ) (line : List ℕ) → length line ≤ longest → ballot_at form n line ≡ ballot_or_stop n (ballot_of form line)
unfolding ballot_at
within form n line short = rw (le-ltb longest (length line) short) refl

-- the line is over it
over : (form : Form) (n : ℕ) (line : List ℕ) → longest < length line → ballot_at form n line ≡ Err (stop.Long n)
unfolding ballot_at
over form n line h = rw (lt-ltb longest (length line) h) refl

-- ---- lines one after another

-- these ballots, and behind them those of lines
abbrev behind : Cast → Result Cast LineStop → Result Cast LineStop
behind front later = later >>= λ l. Ok (front ++ l)

behind_none : (r : Result Cast LineStop) → behind [] r ≡ r
behind_none (Ok c) = refl
behind_none (Err e) = refl

next_behind : (due : Result Ballot LineStop) (q r : Result Cast LineStop)
    → (due >>= λ b. (q >>= λ c. behind c r) >>= λ l. Ok ((b.voter, b.choice) ∷ l)) ≡ ((due >>= λ b. q >>= λ c. Ok ((b.voter, b.choice) ∷ c)) >>= λ c. behind c r)
next_behind (Err e) q r = refl
next_behind (Ok b) (Err e) r = refl
next_behind (Ok b) (Ok c) (Err e) = refl
next_behind (Ok b) (Ok c) (Ok d) = refl

cast-append : (form : Form) (n : ℕ) (xs ys : List (List ℕ)) → cast_from form n (xs ++ ys) ≡ (cast_from form n xs >>= λ c. behind c (cast_from form (n + length xs) ys))
cast-append form n [] ys = ap (λ m. cast_from form m ys) (sym (add-zero n)) ∙ sym (behind_none (cast_from form (n + 0) ys))
cast-append form n (x ∷ xs) ys =
    let more : n + 1 + length xs ≡ n + suc (length xs) = omega arith in
    ap (λ (r : Result Cast LineStop). ballot_at form n x >>= λ b. r >>= λ l. Ok ((b.voter, b.choice) ∷ l)) (cast-append form (n + 1) xs ys)
    ∙ next_behind (ballot_at form n x) (cast_from form (n + 1) xs) (cast_from form (n + 1 + length xs) ys)
    ∙ ap (λ m. cast_from form n (x ∷ xs) >>= λ c. behind c (cast_from form m ys)) more

-- lines that stop a run stop it whatever comes behind them
pub stopped_front : (form : Form) (n : ℕ) (xs ys : List (List ℕ)) (why : LineStop) → cast_from form n xs ≡ Err why → cast_from form n (xs ++ ys) ≡ Err why
stopped_front form n xs ys why h = rw (cast-append form n xs ys, h) refl

-- and behind ballots lines stop it as they do alone
stopped_behind : (form : Form) (n : ℕ) (xs ys : List (List ℕ)) (c : Cast) (why : LineStop) → cast_from form n xs ≡ Ok c → cast_from form (n + length xs) ys ≡ Err why → cast_from form n (xs ++ ys) ≡ Err why
stopped_behind form n xs ys c why h k = rw (cast-append form n xs ys, h, k) refl

-- a ballot behind ballots
one_behind : (form : Form) (n : ℕ) (xs : List (List ℕ)) (line : List ℕ) (c : Cast) (b : Ballot) → cast_from form n xs ≡ Ok c → ballot_at form (n + length xs) line ≡ Ok b → cast_from form n (xs ++ line ∷ []) ≡ Ok (c ++ (b.voter, b.choice) ∷ [])
one_behind form n xs line c b h k = rw (cast-append form n xs (line ∷ []), h, k) refl

-- a line that is none, behind ballots
none_behind : (form : Form) (n : ℕ) (xs : List (List ℕ)) (line : List ℕ) (c : Cast) (why : LineStop) → cast_from form n xs ≡ Ok c → ballot_at form (n + length xs) line ≡ Err why → cast_from form n (xs ++ line ∷ []) ≡ Err why
none_behind form n xs line c why h k = rw (cast-append form n xs (line ∷ []), h, k) refl

-- ---- of each voter the last

or_assoc : (a b c : Option Choice) → option_or (option_or a b) c ≡ option_or a (option_or b c)
or_assoc (Some x) b c = refl
or_assoc None b c = refl

chosen-append : (c : Cast) (b : List ℕ × Choice) (voter : List ℕ) → chosen_in (c ++ b ∷ []) voter ≡ option_or (chosen_in (b ∷ []) voter) (chosen_in c voter)
chosen-append [] (v, choice) voter = sym (or_none_last (chosen_in ((v, choice) ∷ []) voter))
  where
    or_none_last : (a : Option Choice) → option_or a None ≡ a
    or_none_last None = refl
    or_none_last (Some x) = refl
chosen-append (e ∷ c) b voter =
    let last : Option Choice = cond (same_addr e.0 voter) (Some e.1) None in
    ap (λ (o : Option Choice). option_or o last) (chosen-append c b voter) ∙ or_assoc (chosen_in (b ∷ []) voter) (chosen_in c voter) last

last_kept : (kept : Kept) (c : Cast) (b : Ballot) → ((voter : List ℕ) → at addr_cmp kept voter ≡ chosen_in c voter) → (voter : List ℕ) → at addr_cmp (with addr_cmp kept b.voter b.choice) voter ≡ chosen_in (c ++ (b.voter, b.choice) ∷ []) voter
last_kept kept c b h voter =
    cast_next (b.voter, b.choice) [] kept voter
    ∙ ap (option_or (chosen_in ((b.voter, b.choice) ∷ []) voter)) (h voter)
    ∙ sym (chosen-append c (b.voter, b.choice) voter)

kept_none : (form : Form) → AreKept form [] []
kept_none form = record { cast = []; read = refl; last = λ voter. refl }

kept_more : (form : Form) (lines : List (List ℕ)) (line : List ℕ) (n : ℕ) (kept kept' : Kept) → AreKept form lines kept → n ≡ 1 + length lines → IsCast (ballot_at form n line) kept kept' → AreKept form (lines ++ line ∷ []) kept'
kept_more form lines line n kept kept' h number c =
    let due : ballot_at form (1 + length lines) line ≡ Ok c.0 = ap (λ m. ballot_at form m line) (sym number) ∙ c.1 in
    record {
      cast = h.cast ++ (c.0.voter, c.0.choice) ∷ [];
      read = one_behind form 1 lines line h.cast c.0 h.read due;
      last = λ voter. ap (λ (k : Kept). at addr_cmp k voter) c.2 ∙ last_kept kept h.cast c.0 h.last voter;
    }

-- ---- a call that read a line

-- the ballot that was read
pub cast_so : (form : Form) (n : ℕ) (line : List ℕ) (b : Ballot) (kept kept' : Kept) → length line ≤ longest → ballot_of form line ≡ Ok b → kept' ≡ with addr_cmp kept b.voter b.choice → IsCast (ballot_at form n line) kept kept'
cast_so form n line b kept kept' short read is = (b, within form n line short ∙ ap (ballot_or_stop n) read, is)

-- none was
pub none_so : (form : Form) (n : ℕ) (line : List ℕ) (fault : LineFault) → length line ≤ longest → Gives {X = Ballot} {Y = Ballot} (λ ballot. ballot) (Err fault) (ballot_of form line) → IsNone (not_read n fault) (ballot_at form n line)
none_so form n line why.NotJson short read = within form n line short ∙ ap (ballot_or_stop n) read
none_so form n line (why.BadShape member) short read = within form n line short ∙ ap (ballot_or_stop n) read
none_so form n line why.NoMemory short read = tt

-- ---- bytes

pub taken_first : (form : Form) (n : ℕ) (line : List ℕ) (kept : Kept) → n ≡ 1 → line ≡ [] → kept ≡ [] → AreTaken form [] n line kept
taken_first form n line kept one empty none = record {
  kept_are = subst (AreKept form []) (sym none) (kept_none form);
  number_is = one;
  line_is = empty;
  short = rw empty (omega arith);
}

-- no more lines end than there are bytes
pub taken_number : (form : Form) (t : List ℕ) (n : ℕ) (line : List ℕ) (kept : Kept) → AreTaken form t n line kept → n ≤ 1 + length t
taken_number form t n line kept h =
    let few : length (whole_from [] t) ≤ length t = whole_no_longer t [] in
    let is : n ≡ 1 + length (whole_from [] t) = h.number_is in
    omega arith

-- bytes without an end
pub taken_more : (form : Form) (t : List ℕ) (n : ℕ) (line : List ℕ) (kept : Kept) (bytes line' : List ℕ) → AreTaken form t n line kept → HasNoEnd bytes → line' ≡ line ++ bytes → length line' ≤ longest → AreTaken form (t ++ bytes) n line' kept
taken_more form t n line kept bytes line' h none is short =
    let same : whole_from [] (t ++ bytes) ≡ whole_from [] t =
    whole-append t [] bytes ∙ ap (λ (ls : List (List ℕ)). whole_from [] t ++ ls) (whole_none bytes (rest_from [] t) none) ∙ append-nil (whole_from [] t) in
    record {
      kept_are = subst (λ (ls : List (List ℕ)). AreKept form ls kept) (sym same) h.kept_are;
      number_is = h.number_is ∙ ap (λ (ls : List (List ℕ)). 1 + length ls) (sym same);
      line_is = is ∙ ap (λ (l : List ℕ). l ++ bytes) h.line_is ∙ sym (rest-append t [] bytes ∙ rest_none bytes (rest_from [] t) none);
      short = short;
    }

-- the lines that have ended, with bytes that end one more
pub one_more : (t : List ℕ) (line bytes : List ℕ) → line ≡ rest_from [] t → HasNoEnd bytes → whole_from [] (t ++ (bytes ++ 10 ∷ [])) ≡ whole_from [] t ++ (line ++ bytes) ∷ []
one_more t line bytes is none =
    whole-append t [] (bytes ++ 10 ∷ [])
    ∙ ap (λ (ls : List (List ℕ)). whole_from [] t ++ ls) (whole_one bytes (rest_from [] t) none ∙ ap (λ (l : List ℕ). (l ++ bytes) ∷ []) (sym is))

pub taken_line : (form : Form) (t : List ℕ) (n : ℕ) (line : List ℕ) (kept kept' : Kept) (bytes line' : List ℕ) → AreTaken form t n line kept → HasNoEnd bytes → line' ≡ line ++ bytes → IsCast (ballot_at form n line') kept kept' → AreTaken form (t ++ (bytes ++ 10 ∷ [])) (n + 1) [] kept'
taken_line form t n line kept kept' bytes line' h none is c =
    let more : whole_from [] (t ++ (bytes ++ 10 ∷ [])) ≡ whole_from [] t ++ (line ++ bytes) ∷ [] = one_more t line bytes h.line_is none in
    let cast : IsCast (ballot_at form n (line ++ bytes)) kept kept' = subst (λ (l : List ℕ). IsCast (ballot_at form n l) kept kept') is c in
    let size : length (whole_from [] t ++ (line ++ bytes) ∷ []) ≡ length (whole_from [] t) + 1 = length-append (whole_from [] t) ((line ++ bytes) ∷ []) in
    record {
      kept_are = subst (λ (ls : List (List ℕ)). AreKept form ls kept') (sym more) (kept_more form (whole_from [] t) (line ++ bytes) n kept kept' h.kept_are h.number_is cast);
      number_is = rw (more, size) (let k : n ≡ 1 + length (whole_from [] t) = h.number_is in omega arith);
      line_is = sym (rest-append t [] (bytes ++ 10 ∷ []) ∙ rest_one bytes (rest_from [] t) none);
      short = omega arith;
    }

-- ---- stops

-- bytes that stop a run stop it whatever comes behind them
pub stops_behind : (form : Form) (why : LineStop) (t more : List ℕ) → StopsIn form why t → StopsIn form why (t ++ more)
stops_behind form (stop.BadInput n fault) t more h = ap (cast_from form 1) (whole-append t [] more) ∙ stopped_front form 1 (whole_from [] t) (whole_from (rest_from [] t) more) (stop.BadInput n fault) h
stops_behind form (stop.Long n) t more h = λ m. ap (cast_in form) (append_assoc t more m) ∙ h (more ++ m)
stops_behind form (stop.Ratio n over) t more h = h
stops_behind form stop.Write t more h = h
stops_behind form stop.Keep t more h = h
stops_behind form stop.NoMemory t more h = h

pub line_stops : (form : Form) (t : List ℕ) (n : ℕ) (line : List ℕ) (kept : Kept) (bytes line' : List ℕ) (why : LineStop) → AreTaken form t n line kept → HasNoEnd bytes → line' ≡ line ++ bytes → IsNone why (ballot_at form n line') → StopsIn form why (t ++ (bytes ++ 10 ∷ []))
line_stops form t n line kept bytes line' (stop.BadInput m fault) h none is due =
    let at_line : ballot_at form (1 + length (whole_from [] t)) (line ++ bytes) ≡ Err (stop.BadInput m fault) = (λ i. ballot_at form (sym h.number_is i) (sym is i)) ∙ due in
    ap (cast_from form 1) (one_more t line bytes h.line_is none) ∙ none_behind form 1 (whole_from [] t) (line ++ bytes) h.kept_are.cast (stop.BadInput m fault) h.kept_are.read at_line
line_stops form t n line kept bytes line' (stop.Long m) h none is due = absurd due
line_stops form t n line kept bytes line' (stop.Ratio m over) h none is due = absurd due
line_stops form t n line kept bytes line' stop.Write h none is due = absurd due
line_stops form t n line kept bytes line' stop.Keep h none is due = absurd due
line_stops form t n line kept bytes line' stop.NoMemory h none is due = tt

-- a line that is too long, whatever comes behind what came of it
first_over : (form : Form) (n : ℕ) (line : List ℕ) (after : List (List ℕ)) → longest < length line → cast_from form n (line ∷ after) ≡ Err (stop.Long n)
first_over form n line after h = rw (over form n line h) refl

over_step : (form : Form) (test : Bool) (n b : ℕ) (line more : List ℕ) → longest < length line → cast_from form n (lines_from (line ++ b ∷ []) more) ≡ Err (stop.Long n)
    → cast_from form n (cond test (line ∷ whole_from [] more) (whole_from (line ++ b ∷ []) more) ++ last_line (cond test (rest_from [] more) (rest_from (line ++ b ∷ []) more))) ≡ Err (stop.Long n)
over_step form true n b line more h k = first_over form n line (whole_from [] more ++ last_line (rest_from [] more)) h
over_step form false n b line more h k = k

over_from : (form : Form) (more line : List ℕ) (n : ℕ) → longest < length line → cast_from form n (lines_from line more) ≡ Err (stop.Long n)
over_from form [] [] n h = absurd (omega arith)
over_from form [] (x ∷ line) n h = first_over form n (x ∷ line) [] h
over_from form (b ∷ more) line n h = over_step form (b == 10) n b line more h (over_from form more (line ++ b ∷ []) n (rw (length-append line (b ∷ [])) (omega arith)))

long_in : (form : Form) (t : List ℕ) (n : ℕ) (line : List ℕ) (kept : Kept) (bytes more : List ℕ) → AreTaken form t n line kept → HasNoEnd bytes → longest < length (line ++ bytes) → cast_in form (t ++ (bytes ++ more)) ≡ Err (stop.Long n)
long_in form t n line kept bytes more h none long =
    let lines : lines_of (t ++ (bytes ++ more)) ≡ whole_from [] t ++ lines_from (line ++ bytes) more =
    lines-append t [] (bytes ++ more)
    ∙ ap (λ (ls : List (List ℕ)). whole_from [] t ++ ls)
    (lines-append bytes (rest_from [] t) more
    ∙ (λ i. whole_none bytes (rest_from [] t) none i ++ lines_from (rest_none bytes (rest_from [] t) none i) more)
    ∙ ap (λ (l : List ℕ). lines_from (l ++ bytes) more) (sym h.line_is)) in
    ap (cast_from form 1) lines
    ∙ stopped_behind form 1 (whole_from [] t) (lines_from (line ++ bytes) more) h.kept_are.cast (stop.Long n) h.kept_are.read
    (ap (λ m. cast_from form m (lines_from (line ++ bytes) more)) (sym h.number_is) ∙ over_from form more (line ++ bytes) n long)

pub extend_stops : (form : Form) (t : List ℕ) (n : ℕ) (line : List ℕ) (kept : Kept) (bytes behind : List ℕ) (why : LineStop) → AreTaken form t n line kept → HasNoEnd bytes → NotExtended why n line bytes → StopsIn form why (t ++ (bytes ++ behind))
extend_stops form t n line kept bytes behind (stop.BadInput m fault) h none long = absurd long
extend_stops form t n line kept bytes behind (stop.Long m) h none long = λ more.
    ap (cast_in form) (append_assoc t (bytes ++ behind) more ∙ ap (λ (l : List ℕ). t ++ l) (append_assoc bytes behind more))
    ∙ long_in form t n line kept bytes (behind ++ more) h none long.1
    ∙ ap (λ k. Err (stop.Long k)) (sym long.0)
extend_stops form t n line kept bytes behind (stop.Ratio m over) h none long = absurd long
extend_stops form t n line kept bytes behind stop.Write h none long = absurd long
extend_stops form t n line kept bytes behind stop.Keep h none long = absurd long
extend_stops form t n line kept bytes behind stop.NoMemory h none long = tt

-- ---- a piece, line by line

-- all of the piece but the rest was taken
pub record AreFed (form : Form) (t piece rest : List ℕ) (n : ℕ) (line : List ℕ) (kept : Kept) : Type 0 where
  pub done : List ℕ
  pub piece_is : piece ≡ done ++ rest
  pub taken : AreTaken form (t ++ done) n line kept

pub fed_first : (form : Form) (t piece : List ℕ) (n : ℕ) (line : List ℕ) (kept : Kept) → AreTaken form t n line kept → AreFed form t piece piece n line kept
fed_first form t piece n line kept h = record { done = []; piece_is = refl; taken = subst (λ (l : List ℕ). AreTaken form l n line kept) (sym (append-nil t)) h }

pub fed_line : (form : Form) (t piece rest : List ℕ) (i n : ℕ) (line : List ℕ) (kept : Kept) (n' : ℕ) (line' : List ℕ) (kept' : Kept) → (f : AreFed form t piece rest n line kept) → drop i rest ≡ 10 ∷ drop (i + 1) rest
    → AreTaken form ((t ++ f.done) ++ (take i rest ++ 10 ∷ [])) n' line' kept' → AreFed form t piece (drop (i + 1) rest) n' line' kept'
fed_line form t piece rest i n line kept n' line' kept' f e h = record {
  done = f.done ++ (take i rest ++ 10 ∷ []);
  piece_is = f.piece_is ∙ ap (λ (l : List ℕ). f.done ++ l) (parted rest i e) ∙ sym (append_assoc f.done (take i rest ++ 10 ∷ []) (drop (i + 1) rest));
  taken = subst (λ (l : List ℕ). AreTaken form l n' line' kept') (append_assoc t f.done (take i rest ++ 10 ∷ [])) h;
}

-- no more lines end than there are bytes, so the number fits
pub fed_number : (form : Form) (t piece rest : List ℕ) (n0 n : ℕ) (line0 line : List ℕ) (kept0 kept : Kept) → AreTaken form t n0 line0 kept0 → AreFed form t piece rest n line kept → n + length rest ≤ n0 + length piece
fed_number form t piece rest n0 n line0 line kept0 kept h f =
    let more : whole_from [] (t ++ f.done) ≡ whole_from [] t ++ whole_from (rest_from [] t) f.done = whole-append t [] f.done in
    let a : length (whole_from (rest_from [] t) f.done) ≤ length f.done = whole_no_longer f.done (rest_from [] t) in
    let b : length (whole_from [] (t ++ f.done)) ≡ length (whole_from [] t) + length (whole_from (rest_from [] t) f.done) = ap length more ∙ length-append (whole_from [] t) (whole_from (rest_from [] t) f.done) in
    let c : n ≡ 1 + length (whole_from [] (t ++ f.done)) = f.taken.number_is in
    let d : n0 ≡ 1 + length (whole_from [] t) = h.number_is in
    let e : length piece ≡ length f.done + length rest = ap length f.piece_is ∙ length-append f.done rest in
    omega arith

pub fed_stops : (form : Form) (t piece rest : List ℕ) (i n : ℕ) (line : List ℕ) (kept : Kept) (why : LineStop) → (f : AreFed form t piece rest n line kept) → drop i rest ≡ 10 ∷ drop (i + 1) rest
    → StopsIn form why ((t ++ f.done) ++ (take i rest ++ 10 ∷ [])) → StopsIn form why (t ++ piece)
fed_stops form t piece rest i n line kept why f e h =
    let whole : ((t ++ f.done) ++ (take i rest ++ 10 ∷ [])) ++ drop (i + 1) rest ≡ t ++ piece =
    append_assoc (t ++ f.done) (take i rest ++ 10 ∷ []) (drop (i + 1) rest)
    ∙ ap (λ (l : List ℕ). (t ++ f.done) ++ l) (sym (parted rest i e))
    ∙ append_assoc t f.done rest
    ∙ ap (λ (l : List ℕ). t ++ l) (sym f.piece_is) in
    subst (StopsIn form why) whole (stops_behind form why ((t ++ f.done) ++ (take i rest ++ 10 ∷ [])) (drop (i + 1) rest) h)

pub fed_end : (form : Form) (r : Result (Unit {0}) LineStop) (t piece rest : List ℕ) (n : ℕ) (line line' : List ℕ) (kept : Kept) → AreFed form t piece rest n line kept → HasNoEnd rest → OnOk r (line' ≡ line ++ rest) → OnOk r (length line' ≤ longest)
    → OnOk r (AreTaken form (t ++ piece) n line' kept)
fed_end form (Err why) t piece rest n line line' kept f none is short = tt
fed_end form (Ok x) t piece rest n line line' kept f none is short =
    subst (λ (l : List ℕ). AreTaken form l n line' kept) (append_assoc t f.done rest ∙ ap (λ (l : List ℕ). t ++ l) (sym f.piece_is))
    (taken_more form (t ++ f.done) n line kept rest line' f.taken none is short)

pub fed_end_stops : (form : Form) (r : Result (Unit {0}) LineStop) (t piece rest : List ℕ) (n : ℕ) (line : List ℕ) (kept : Kept) → AreFed form t piece rest n line kept → HasNoEnd rest → IfErr r (λ why. NotExtended why n line rest) → IfErr r (λ why. StopsIn form why (t ++ piece))
fed_end_stops form (Ok x) t piece rest n line kept f none h = tt
fed_end_stops form (Err why) t piece rest n line kept f none h =
    let whole : (t ++ f.done) ++ (rest ++ []) ≡ t ++ piece =
    ap (λ (l : List ℕ). (t ++ f.done) ++ l) (append-nil rest) ∙ append_assoc t f.done rest ∙ ap (λ (l : List ℕ). t ++ l) (sym f.piece_is) in
    subst (StopsIn form why) whole (extend_stops form (t ++ f.done) n line kept rest [] why f.taken none h)

-- ---- the end of the input

pub all_with : (t line : List ℕ) → line ≡ rest_from [] t → 0 < length line → lines_of t ≡ whole_from [] t ++ line ∷ []
all_with t line is some = ap (λ (l : List ℕ). whole_from [] t ++ last_line l) (sym is) ∙ ap (λ (ls : List (List ℕ)). whole_from [] t ++ ls) (last-some line some)

pub ended_some : (form : Form) (t : List ℕ) (n : ℕ) (line : List ℕ) (kept kept' : Kept) → AreTaken form t n line kept → 0 < length line → IsCast (ballot_at form n line) kept kept' → AreKept form (lines_of t) kept'
ended_some form t n line kept kept' h some c =
    subst (λ (ls : List (List ℕ)). AreKept form ls kept') (sym (all_with t line h.line_is some)) (kept_more form (whole_from [] t) line n kept kept' h.kept_are h.number_is c)

pub ended_stops : (form : Form) (t : List ℕ) (n : ℕ) (line : List ℕ) (kept : Kept) (why : LineStop) → length t ≤ most_bytes → AreTaken form t n line kept → 0 < length line → IsNone why (ballot_at form n line) → IsUncounted form (status_of why) t []
ended_stops form t n line kept (stop.BadInput m fault) most h some due =
    let at_line : ballot_at form (1 + length (whole_from [] t)) line ≡ Err (stop.BadInput m fault) = ap (λ k. ballot_at form k line) (sym h.number_is) ∙ due in (
      most,
      lines_of t,
      inr (refl, refl),
      ap (cast_from form 1) (all_with t line h.line_is some) ∙ none_behind form 1 (whole_from [] t) line h.kept_are.cast (stop.BadInput m fault) h.kept_are.read at_line,
    )
ended_stops form t n line kept (stop.Long m) most h some due = absurd due
ended_stops form t n line kept (stop.Ratio m over) most h some due = absurd due
ended_stops form t n line kept stop.Write most h some due = absurd due
ended_stops form t n line kept stop.Keep most h some due = absurd due
ended_stops form t n line kept stop.NoMemory most h some due = most

-- ---- a source

-- the source failed
pub unread : (form : Form) (first : Option (List ℕ)) (t : List ℕ) (n : ℕ) (line : List ℕ) (kept : Kept) (left left' : Option (List ℕ)) → Told first t left → AreTaken form t n line kept → length t ≤ most_bytes → Stays left left' → AreUncounted form first left' ReadFault
unread form first t n line kept left left' at h most same =
    let r = told_rest first t left' (told_still first t left left' at same) in
    (t, r.0, r.1, (most, h.kept_are.cast, h.kept_are.read))

-- bytes stopped the run
stops_uncounted : (form : Form) (why : LineStop) (t rest : List ℕ) → length t ≤ most_bytes → StopsIn form why t → IsUncounted form (status_of why) t rest
stops_uncounted form (stop.BadInput m fault) t rest most h = (most, whole_from [] t, inl refl, h)
stops_uncounted form (stop.Long m) t rest most h = (omega arith, h)
stops_uncounted form (stop.Ratio m over) t rest most h = absurd h
stops_uncounted form stop.Write t rest most h = absurd h
stops_uncounted form stop.Keep t rest most h = absurd h
stops_uncounted form stop.NoMemory t rest most h = most

pub stopped : (form : Form) (first : Option (List ℕ)) (t : List ℕ) (left : Option (List ℕ)) (why : LineStop) → Told first t left → length t ≤ most_bytes → StopsIn form why t → AreUncounted form first left (status_of why)
stopped form first t left why at most h =
    let r = told_rest first t left at in
    (t, r.0, r.1, stops_uncounted form why t r.0 most h)

-- the source came to its end
pub all_kept : (form : Form) (r : Result (Unit {0}) Status) (first : Option (List ℕ)) (t : List ℕ) (left left' : Option (List ℕ)) (piece : List ℕ) (kept : Kept) → Told first t left → IfSome left (λ bytes. bytes ≡ []) → TookBytes 0 piece left left' → length t ≤ most_bytes → OnOk r (AreKept form (lines_of t) kept) → OnOk r (AllAreKept form first left' kept)
all_kept form (Err s) first t left left' piece kept at end took most h = tt
all_kept form (Ok x) first t left left' piece kept at end took most h = (t, told_all first t left left' piece at end took, most, h)

-- but not all of its lines are ballots
pub all_uncounted : (form : Form) (r : Result (Unit {0}) Status) (first : Option (List ℕ)) (t : List ℕ) (left left' : Option (List ℕ)) (piece : List ℕ) → Told first t left → IfSome left (λ bytes. bytes ≡ []) → TookBytes 0 piece left left' → IfErr r (λ status. IsUncounted form status t []) → IfErr r (AreUncounted form first left')
all_uncounted form (Ok x) first t left left' piece at end took h = tt
all_uncounted form (Err s) first t left left' piece at end took h = (t, [], told_all first t left left' piece at end took, h)

-- one byte more than an input may have
pub over_long : (form : Form) (first : Option (List ℕ)) (t : List ℕ) (n : ℕ) (line : List ℕ) (kept : Kept) (left left' : Option (List ℕ)) (piece : List ℕ) (b : ℕ) → Told first t left → AreTaken form t n line kept → TookBytes 1 piece left left' → take 1 piece ≡ b ∷ [] → length t ≤ most_bytes → b ≢ 10 → length line ≡ longest
    → AreUncounted form first left' (Limit n Line)
over_long form first t n line kept left left' piece b at h took one most ne full =
    let none : HasNoEnd (b ∷ []) = (ne_eqb b 10 ne, tt) in
    let long : longest < length (line ++ b ∷ []) = rw (length-append line (b ∷ [])) (omega arith) in
    let r = told_rest first (t ++ b ∷ []) left' (subst (λ (x : List ℕ). Told first (t ++ x) left') one (told_more first t left left' 1 piece at took)) in (
      t ++ b ∷ [],
      r.0,
      r.1,
      (rw (length-append t (b ∷ [])) (omega arith), λ more. ap (cast_in form) (append_assoc t (b ∷ []) more) ∙ long_in form t n line kept (b ∷ []) more h none long),
    )

pub over_input : (form : Form) (first : Option (List ℕ)) (t : List ℕ) (n : ℕ) (line : List ℕ) (kept : Kept) (left left' : Option (List ℕ)) (piece : List ℕ) (b : ℕ) → Told first t left → AreTaken form t n line kept → TookBytes 1 piece left left' → take 1 piece ≡ b ∷ [] → length t ≡ most_bytes → (b ≡ 10) ⊎ (length line < longest)
    → AreUncounted form first left' (Limit n Input)
over_input form first t n line kept left left' piece b at h took one full short =
    let r = told_rest first (t ++ b ∷ []) left' (subst (λ (x : List ℕ). Told first (t ++ x) left') one (told_more first t left left' 1 piece at took)) in (
      t ++ b ∷ [],
      r.0,
      r.1,
      record { bytes = t; byte = b; cast = h.kept_are.cast; taken_is = refl; full = full; read = h.kept_are.read; number = h.number_is; line = rw (← h.line_is) short },
    )

-- ---- statuses

-- a run that a line stops ends so
pub line_of_ballots : (why : LineStop) (due : Result Ballot LineStop) → IsNone why due → IsOfBallots (status_of why)
line_of_ballots (stop.BadInput m fault) due h = tt
line_of_ballots (stop.Long m) due h = absurd h
line_of_ballots (stop.Ratio m over) due h = absurd h
line_of_ballots stop.Write due h = absurd h
line_of_ballots stop.Keep due h = absurd h
line_of_ballots stop.NoMemory due h = tt

pub line_unread : (why : LineStop) (due : Result Ballot LineStop) → IsNone why due → ◌≡◌ {A = Result (Unit {0}) Status} (Err (status_of why)) (Err ReadFault) → ⊥
line_unread (stop.BadInput m fault) due h e = absurd cc
line_unread (stop.Long m) due h e = absurd h
line_unread (stop.Ratio m over) due h e = absurd h
line_unread stop.Write due h e = absurd h
line_unread stop.Keep due h e = absurd h
line_unread stop.NoMemory due h e = absurd cc

-- and one that bytes stop
pub bytes_of_ballots : (form : Form) (why : LineStop) (t : List ℕ) → StopsIn form why t → IsOfBallots (status_of why)
bytes_of_ballots form (stop.BadInput m fault) t h = tt
bytes_of_ballots form (stop.Long m) t h = tt
bytes_of_ballots form (stop.Ratio m over) t h = absurd h
bytes_of_ballots form stop.Write t h = absurd h
bytes_of_ballots form stop.Keep t h = absurd h
bytes_of_ballots form stop.NoMemory t h = tt
