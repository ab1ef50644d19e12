-- Lines of an input that are taken one after another.
use Rattle.std.proofs.Common.{◌≡◌, ◌≢◌, ◌∙◌, ◌⊎◌, inl, inr, ℕ, ◌+◌, ◌<◌, ◌≤◌, Bool, true, false, cond, ◌==◌, List, [], ◌∷◌, ◌++◌, append-nil, append_assoc, length, length-append, take, drop, Option, Result, Ok, Err, OnOk, IfErr, IfSome, refl, sym, ap, subst, arith, add-zero, ne_eqb}
use Rattle.base_io.specs.Calls.{Stays}
use Rattle.run_app.specs.declared.status.Status.{Status, TheVariants.{Limit, ReadFault, WriteFault}}
use Rattle.run_app.specs.{declared.status.{LimitKind.TheVariants.{Line, Input}, LineStop.LineStop}, Ending.status_of}
use Rattle.run_app.specs.{Lines.{whole_from, rest_from, last_line, lines_from, lines_of}, Machine.longest}
use Rattle.run_app.specs.{Outcome.most_bytes, Parts.{HasNoEnd, NotExtended}}
use Rattle.run_app.specs.Taking.{Halts, IsFed, IsUntaken, Leads, MayEnd, MayStop, MeetsLong, Pauses, StopsSo, TakesAll, TakesPart}
use Rattle.run_app.{specs.Told.Told, proofs.BallotLemmas.{all_with, one_more}}
use Rattle.run_app.proofs.CutLemmas.{lines-append, rest-append, rest_none, rest_one, whole-append, whole_no_longer, whole_none}
use Rattle.run_app.proofs.DriveLemmas.{TookBytes, told_all, told_more, told_rest, told_still}
use Rattle.run_app.proofs.PartLemmas.{last-none, parted}
use Rattle.run_app.specs.declared.status.LineStop.TheVariants as stop

-- ---- a line that is too long

-- the first of the lines is over its limit
abbrev FirstIsLong : List (List ℕ) → Type 0
FirstIsLong ls = (l : List ℕ) × (after : List (List ℕ)) × (ls ≡ l ∷ after) × (longest < length l)

long_step : (test : Bool) (b : ℕ) (line more : List ℕ) → longest < length line → FirstIsLong (lines_from (line ++ b ∷ []) more)
    → FirstIsLong (cond test (line ∷ whole_from [] more) (whole_from (line ++ b ∷ []) more) ++ last_line (cond test (rest_from [] more) (rest_from (line ++ b ∷ []) more)))
long_step true b line more h k = (line, whole_from [] more ++ last_line (rest_from [] more), refl, h)
long_step false b line more h k = k

long_first : (more line : List ℕ) → longest < length line → FirstIsLong (lines_from line more)
long_first [] [] h = absurd (omega arith)
long_first [] (x ∷ line) h = (x ∷ line, [], refl, h)
long_first (b ∷ more) line h = long_step (b == 10) b line more h (long_first more (line ++ b ∷ []) (rw (length-append line (b ∷ [])) (omega arith)))

-- the lines of bytes behind which come some without an end, and more
cut_behind : (t line bytes more : List ℕ) → line ≡ rest_from [] t → HasNoEnd bytes → lines_of (t ++ (bytes ++ more)) ≡ whole_from [] t ++ lines_from (line ++ bytes) more
cut_behind t line bytes more is none =
    lines-append t [] (bytes ++ more)
    ∙ ap (λ (ls : List (List ℕ)). whole_from [] t ++ ls)
    (lines-append bytes (rest_from [] t) more
    ∙ (λ i. whole_none bytes (rest_from [] t) none i ++ lines_from (rest_none bytes (rest_from [] t) none i) more)
    ∙ ap (λ (l : List ℕ). lines_from (l ++ bytes) more) (sym is))

-- a piece, of which these bytes were done, with what came before it
piece_whole : (t piece done rest : List ℕ) → piece ≡ done ++ rest → (t ++ done) ++ rest ≡ t ++ piece
piece_whole t piece done rest is = append_assoc t done rest ∙ ap (λ (l : List ℕ). t ++ l) (sym is)

-- ---- lines one after another

module _ {X : Type 0} (takes : ℕ → List ℕ → X → X → Type 0) where
  pub leads_on : (n : ℕ) (xs ys : List (List ℕ)) (x z y : X) → Leads takes n xs x z → Leads takes (n + length xs) ys z y → Leads takes n (xs ++ ys) x y
  leads_on n [] ys x z y h k = subst (λ (m : ℕ). Leads takes m ys x y) (add-zero n) (subst (λ (w : X). Leads takes (n + 0) ys w y) h k)
  leads_on n (l ∷ xs) ys x z y h k =
      let more : n + length (l ∷ xs) ≡ n + 1 + length xs = omega arith in
      (h.0, h.1, leads_on (n + 1) xs ys h.0 z y h.2 (subst (λ (m : ℕ). Leads takes m ys z y) more k))

  -- one line more
  leads_one : (n m : ℕ) (xs : List (List ℕ)) (line : List ℕ) (x z y : X) → Leads takes n xs x z → m ≡ n + length xs → takes m line z y → Leads takes n (xs ++ line ∷ []) x y
  leads_one n m xs line x z y h is t = leads_on n xs (line ∷ []) x z y h (y, subst (λ (k : ℕ). takes k line z y) is t, refl)

  -- ---- bytes

  pub fed_none : (x : X) (n : ℕ) (line : List ℕ) → n ≡ 1 → line ≡ [] → IsFed takes x [] n line x
  fed_none x n line one empty = record { leads = refl; number_is = one; line_is = empty; short = rw empty (omega arith) }

  -- no more lines end than there are bytes
  pub fed_number : (x : X) (t : List ℕ) (n : ℕ) (line : List ℕ) (y : X) → IsFed takes x t n line y → n ≤ 1 + length t
  fed_number x t n line y h =
      let few : length (whole_from [] t) ≤ length t = whole_no_longer t [] in
      let is : n ≡ 1 + length (whole_from [] t) = h.number_is in
      omega arith

  -- bytes without an end
  fed_more : (x : X) (t : List ℕ) (n : ℕ) (line : List ℕ) (y : X) (bytes line' : List ℕ) → IsFed takes x t n line y → HasNoEnd bytes → line' ≡ line ++ bytes → length line' ≤ longest → IsFed takes x (t ++ bytes) n line' y
  fed_more x t n line y bytes line' h none is short =
      let same : whole_from [] (t ++ bytes) ≡ whole_from [] t =
      whole-append t [] bytes ∙ ap (λ (ls : List (List ℕ)). whole_from [] t ++ ls) (whole_none bytes (rest_from [] t) none) ∙ append-nil (whole_from [] t) in
      record {
        leads = subst (λ (ls : List (List ℕ)). Leads takes 1 ls x y) (sym same) h.leads;
        number_is = h.number_is ∙ ap (λ (ls : List (List ℕ)). 1 + length ls) (sym same);
        line_is = is ∙ ap (λ (l : List ℕ). l ++ bytes) h.line_is ∙ sym (rest-append t [] bytes ∙ rest_none bytes (rest_from [] t) none);
        short = short;
      }

  -- bytes that end a line, which was taken
  pub fed_line : (x : X) (t : List ℕ) (n : ℕ) (line : List ℕ) (y z : X) (bytes line' : List ℕ) → IsFed takes x t n line y → HasNoEnd bytes → line' ≡ line ++ bytes → takes n line' y z → IsFed takes x (t ++ (bytes ++ 10 ∷ [])) (n + 1) [] z
  fed_line x t n line y z bytes line' h none is took =
      let more : whole_from [] (t ++ (bytes ++ 10 ∷ [])) ≡ whole_from [] t ++ (line ++ bytes) ∷ [] = one_more t line bytes h.line_is none in
      let one : takes n (line ++ bytes) y z = subst (λ (l : List ℕ). takes n l y z) is took in
      let size : length (whole_from [] t ++ (line ++ bytes) ∷ []) ≡ length (whole_from [] t) + 1 = length-append (whole_from [] t) ((line ++ bytes) ∷ []) in
      record {
        leads = subst (λ (ls : List (List ℕ)). Leads takes 1 ls x z) (sym more) (leads_one 1 n (whole_from [] t) (line ++ bytes) x y z h.leads h.number_is one);
        number_is = rw (more, size) (let k : n ≡ 1 + length (whole_from [] t) = h.number_is in omega arith);
        line_is = sym (rest-append t [] (bytes ++ 10 ∷ []) ∙ rest_one bytes (rest_from [] t) none);
        short = omega arith;
      }

  -- ---- a piece, line by line

  -- all of the piece but the rest was taken
  pub record IsFedTo (x : X) (t piece rest : List ℕ) (n : ℕ) (line : List ℕ) (y : X) : Type 0 where
    pub done : List ℕ
    pub piece_is : piece ≡ done ++ rest
    pub fed : IsFed takes x (t ++ done) n line y

  pub piece_first : (x : X) (t piece : List ℕ) (n : ℕ) (line : List ℕ) (y : X) → IsFed takes x t n line y → IsFedTo x t piece piece n line y
  piece_first x t piece n line y h = record { done = []; piece_is = refl; fed = subst (λ (l : List ℕ). IsFed takes x l n line y) (sym (append-nil t)) h }

  pub piece_line : (x : X) (t piece rest : List ℕ) (i n : ℕ) (line : List ℕ) (y : X) (n' : ℕ) (line' : List ℕ) (z : X) → (f : IsFedTo x t piece rest n line y) → drop i rest ≡ 10 ∷ drop (i + 1) rest
      → IsFed takes x ((t ++ f.done) ++ (take i rest ++ 10 ∷ [])) n' line' z → IsFedTo x t piece (drop (i + 1) rest) n' line' z
  piece_line x t piece rest i n line y n' line' z f e h = record {
    done = f.done ++ (take i rest ++ 10 ∷ []);
    piece_is = f.piece_is ∙ ap (λ (l : List ℕ). f.done ++ l) (parted rest i e) ∙ sym (append_assoc f.done (take i rest ++ 10 ∷ []) (drop (i + 1) rest));
    fed = subst (λ (l : List ℕ). IsFed takes x l n' line' z) (append_assoc t f.done (take i rest ++ 10 ∷ [])) h;
  }

  -- so the number fits
  pub piece_number : (x : X) (t piece rest : List ℕ) (n0 n : ℕ) (line0 line : List ℕ) (y0 y : X) → IsFed takes x t n0 line0 y0 → IsFedTo x t piece rest n line y → n + length rest ≤ n0 + length piece
  piece_number x t piece rest n0 n line0 line y0 y h f =
      let more : whole_from [] (t ++ f.done) ≡ whole_from [] t ++ whole_from (rest_from [] t) f.done = whole-append t [] f.done in
      let a : length (whole_from (rest_from [] t) f.done) ≤ length f.done = whole_no_longer f.done (rest_from [] t) in
      let b : length (whole_from [] (t ++ f.done)) ≡ length (whole_from [] t) + length (whole_from (rest_from [] t) f.done) = ap length more ∙ length-append (whole_from [] t) (whole_from (rest_from [] t) f.done) in
      let c : n ≡ 1 + length (whole_from [] (t ++ f.done)) = f.fed.number_is in
      let d : n0 ≡ 1 + length (whole_from [] t) = h.number_is in
      let e : length piece ≡ length f.done + length rest = ap length f.piece_is ∙ length-append f.done rest in
      omega arith

  pub piece_end : (r : Result (Unit {0}) LineStop) (x : X) (t piece rest : List ℕ) (n : ℕ) (line line' : List ℕ) (y : X) → IsFedTo x t piece rest n line y → HasNoEnd rest → OnOk r (line' ≡ line ++ rest) → OnOk r (length line' ≤ longest)
      → OnOk r (IsFed takes x (t ++ piece) n line' y)
  piece_end (Err why) x t piece rest n line line' y f none is short = tt
  piece_end (Ok u) x t piece rest n line line' y f none is short =
      subst (λ (l : List ℕ). IsFed takes x l n line' y) (piece_whole t piece f.done rest f.piece_is) (fed_more x (t ++ f.done) n line y rest line' f.fed none is short)

  -- ---- the end of the input

  pub ended_none : (x : X) (t : List ℕ) (n : ℕ) (line : List ℕ) (y : X) → IsFed takes x t n line y → length line ≡ 0 → Leads takes 1 (lines_of t) x y
  ended_none x t n line y h none =
      let all : lines_of t ≡ whole_from [] t = ap (λ (l : List ℕ). whole_from [] t ++ last_line l) (sym h.line_is) ∙ ap (λ (ls : List (List ℕ)). whole_from [] t ++ ls) (last-none line none) ∙ append-nil (whole_from [] t) in
      subst (λ (ls : List (List ℕ)). Leads takes 1 ls x y) (sym all) h.leads

  pub ended_some : (x : X) (t : List ℕ) (n : ℕ) (line : List ℕ) (y z : X) → IsFed takes x t n line y → 0 < length line → takes n line y z → Leads takes 1 (lines_of t) x z
  ended_some x t n line y z h some took =
      subst (λ (ls : List (List ℕ)). Leads takes 1 ls x z) (sym (all_with t line h.line_is some)) (leads_one 1 n (whole_from [] t) line x y z h.leads h.number_is took)

  pub all_taken : (r : Result (Unit {0}) Status) (first : Option (List ℕ)) (t : List ℕ) (left left' : Option (List ℕ)) (piece : List ℕ) (x y : X) → Told first t left → IfSome left (λ bytes. bytes ≡ []) → TookBytes 0 piece left left' → length t ≤ most_bytes
      → OnOk r (Leads takes 1 (lines_of t) x y) → OnOk r (TakesAll takes first left' x y)
  all_taken (Err s) first t left left' piece x y at end took most h = tt
  all_taken (Ok u) first t left left' piece x y at end took most h = (t, told_all first t left left' piece at end took, most, h)

-- ---- stops

module _ {X : Type 0} (takes : ℕ → List ℕ → X → X → Type 0) (stops : Status → ℕ → List ℕ → X → X → Type 0) where
  -- lines that halt do so whatever comes behind them
  halts_behind : (S : ℕ → List ℕ → X → X → Type 0) (lines all more : List (List ℕ)) (x y : X) → all ≡ lines ++ more → Halts takes S lines x y → Halts takes S all x y
  halts_behind S lines all more x y is h = record {
    before = h.before;
    line = h.line;
    after = h.after ++ more;
    middle = h.middle;
    lines_are = is ∙ ap (λ (ls : List (List ℕ)). ls ++ more) h.lines_are ∙ append_assoc h.before (h.line ∷ h.after) more;
    leads = h.leads;
    stop = h.stop;
  }

  pauses_behind : (lines all more : List (List ℕ)) (x y : X) → all ≡ lines ++ more → Pauses takes lines x y → Pauses takes all x y
  pauses_behind lines all more x y is h = record {
    before = h.before;
    after = h.after ++ more;
    lines_are = is ∙ ap (λ (ls : List (List ℕ)). ls ++ more) h.lines_are ∙ append_assoc h.before h.after more;
    leads = h.leads;
  }

  meets_behind : (n : ℕ) (t more : List ℕ) (x y : X) → MeetsLong takes n t x y → MeetsLong takes n (t ++ more) x y
  meets_behind n t more x y h = record {
    before = h.before;
    number_is = h.number_is;
    leads = h.leads;
    long = λ m. subst (λ (l : List ℕ). (line : List ℕ) × (after : List (List ℕ)) × (lines_of l ≡ h.before ++ line ∷ after) × (longest < length line)) (sym (append_assoc t more m)) (h.long (more ++ m));
  }

  -- bytes that stop a run stop it whatever comes behind them
  stops_behind : (status : Status) (t more : List ℕ) (x y : X) → StopsSo takes stops status t x y → StopsSo takes stops status (t ++ more) x y
  stops_behind status t more x y (inl h) = inl (halts_behind (stops status) (whole_from [] t) (whole_from [] (t ++ more)) (whole_from (rest_from [] t) more) x y (whole-append t [] more) h)
  stops_behind status t more x y (inr (inl h)) = inr (inl (h.0, h.1, meets_behind h.0 t more x y h.2))
  stops_behind status t more x y (inr (inr h)) = inr (inr (h.0, pauses_behind (whole_from [] t) (whole_from [] (t ++ more)) (whole_from (rest_from [] t) more) x y (whole-append t [] more) h.1))

  -- a line that ends stops the run
  pub line_stops : (x : X) (t : List ℕ) (n : ℕ) (line : List ℕ) (y z : X) (bytes line' : List ℕ) (status : Status) → IsFed takes x t n line y → HasNoEnd bytes → line' ≡ line ++ bytes → stops status n line' y z → StopsSo takes stops status (t ++ (bytes ++ 10 ∷ [])) x z
  line_stops x t n line y z bytes line' status h none is due = inl (record {
    before = whole_from [] t;
    line = line ++ bytes;
    after = [];
    middle = y;
    lines_are = one_more t line bytes h.line_is none;
    leads = h.leads;
    stop = subst (λ (m : ℕ). stops status m (line ++ bytes) y z) h.number_is (subst (λ (l : List ℕ). stops status n l y z) is due);
  })

  -- a line that has become too long
  meets_long : (x : X) (t : List ℕ) (n m : ℕ) (line : List ℕ) (y : X) (bytes behind : List ℕ) → IsFed takes x t n line y → HasNoEnd bytes → m ≡ n → longest < length (line ++ bytes) → MeetsLong takes m (t ++ (bytes ++ behind)) x y
  meets_long x t n m line y bytes behind h none number long = record {
    before = whole_from [] t;
    number_is = number ∙ h.number_is;
    leads = h.leads;
    long = λ more.
        let f = long_first (behind ++ more) (line ++ bytes) long in
        let all : (t ++ (bytes ++ behind)) ++ more ≡ t ++ (bytes ++ (behind ++ more)) = append_assoc t (bytes ++ behind) more ∙ ap (λ (l : List ℕ). t ++ l) (append_assoc bytes behind more) in
        (f.0, f.1, ap lines_of all ∙ cut_behind t line bytes (behind ++ more) h.line_is none ∙ ap (λ (ls : List (List ℕ)). whole_from [] t ++ ls) f.2, f.3);
  }

  -- bytes that a line could not take
  pub extend_stops : (x : X) (t : List ℕ) (n : ℕ) (line : List ℕ) (y : X) (bytes behind : List ℕ) (why : LineStop) → IsFed takes x t n line y → HasNoEnd bytes → NotExtended why n line bytes → StopsSo takes stops (status_of why) (t ++ (bytes ++ behind)) x y
  extend_stops x t n line y bytes behind (stop.BadInput m fault) h none long = absurd long
  extend_stops x t n line y bytes behind (stop.Long m) h none long =
      inr (inl (m, refl, meets_long x t n m line y bytes behind h none long.0 long.1))
  extend_stops x t n line y bytes behind (stop.Ratio m over) h none long = absurd long
  extend_stops x t n line y bytes behind stop.Write h none long = absurd long
  extend_stops x t n line y bytes behind stop.Keep h none long = absurd long
  extend_stops x t n line y bytes behind stop.NoMemory h none long =
      inr (inr (
        refl,
        record {
          before = whole_from [] t;
          after = whole_from (rest_from [] t) (bytes ++ behind);
          lines_are = whole-append t [] (bytes ++ behind);
          leads = h.leads;
        },
      ))

  pub piece_stops : (x : X) (t piece rest : List ℕ) (i n : ℕ) (line : List ℕ) (y z : X) (status : Status) → (f : IsFedTo takes x t piece rest n line y) → drop i rest ≡ 10 ∷ drop (i + 1) rest
      → StopsSo takes stops status ((t ++ f.done) ++ (take i rest ++ 10 ∷ [])) x z → StopsSo takes stops status (t ++ piece) x z
  piece_stops x t piece rest i n line y z status f e h =
      let whole : ((t ++ f.done) ++ (take i rest ++ 10 ∷ [])) ++ drop (i + 1) rest ≡ t ++ piece =
      append_assoc (t ++ f.done) (take i rest ++ 10 ∷ []) (drop (i + 1) rest)
      ∙ ap (λ (l : List ℕ). (t ++ f.done) ++ l) (sym (parted rest i e))
      ∙ piece_whole t piece f.done rest f.piece_is in
      subst (λ (l : List ℕ). StopsSo takes stops status l x z) whole (stops_behind status ((t ++ f.done) ++ (take i rest ++ 10 ∷ [])) (drop (i + 1) rest) x z h)

  pub piece_end_stops : (x : X) (t piece rest : List ℕ) (n : ℕ) (line : List ℕ) (y : X) (why : LineStop) → IsFedTo takes x t piece rest n line y → HasNoEnd rest → NotExtended why n line rest → StopsSo takes stops (status_of why) (t ++ piece) x y
  piece_end_stops x t piece rest n line y why f none h =
      let whole : (t ++ f.done) ++ (rest ++ []) ≡ t ++ piece = ap (λ (l : List ℕ). (t ++ f.done) ++ l) (append-nil rest) ∙ piece_whole t piece f.done rest f.piece_is in
      subst (λ (l : List ℕ). StopsSo takes stops (status_of why) l x y) whole (extend_stops x (t ++ f.done) n line y rest [] why f.fed none h)

  -- the last line stops the run
  pub ended_stops : (x : X) (t : List ℕ) (n : ℕ) (line : List ℕ) (y z : X) (status : Status) → length t ≤ most_bytes → IsFed takes x t n line y → 0 < length line → stops status n line y z → IsUntaken takes stops status t [] x z
  ended_stops x t n line y z status most h some due = inl (record {
    lines = lines_of t;
    short = most;
    ended = inr (refl, refl);
    halts = record {
      before = whole_from [] t;
      line = line;
      after = [];
      middle = y;
      lines_are = all_with t line h.line_is some;
      leads = h.leads;
      stop = subst (λ (m : ℕ). stops status m line y z) h.number_is due;
    };
  })

  -- ---- a source

  -- bytes stopped the run
  stopped_bytes : (status : Status) (t rest : List ℕ) (x y : X) → length t ≤ most_bytes → StopsSo takes stops status t x y → IsUntaken takes stops status t rest x y
  stopped_bytes status t rest x y most (inl h) = inl (record { lines = whole_from [] t; short = most; ended = inl refl; halts = h })
  stopped_bytes status t rest x y most (inr (inl h)) = inr (inl (record { number = h.0; status_is = h.1; short = omega arith; meets = h.2 }))
  stopped_bytes status t rest x y most (inr (inr h)) = inr (inr (inr (record { short = most; cut = inr h })))

  pub stopped : (status : Status) (first : Option (List ℕ)) (t : List ℕ) (left : Option (List ℕ)) (x y : X) → Told first t left → length t ≤ most_bytes → StopsSo takes stops status t x y → TakesPart takes stops status first left x y
  stopped status first t left x y at most h =
      let r = told_rest first t left at in
      (t, r.0, r.1, stopped_bytes status t r.0 x y most h)

  -- the source failed
  pub unread : (first : Option (List ℕ)) (t : List ℕ) (n : ℕ) (line : List ℕ) (left left' : Option (List ℕ)) (x y : X) → Told first t left → IsFed takes x t n line y → length t ≤ most_bytes → Stays left left' → TakesPart takes stops ReadFault first left' x y
  unread first t n line left left' x y at h most same =
      let r = told_rest first t left' (told_still first t left left' at same) in
      (t, r.0, r.1, inr (inr (inr (record { short = most; cut = inl (refl, h.leads) }))))

  -- the source came to its end, and its last line stopped the run
  pub part_taken : (r : Result (Unit {0}) Status) (first : Option (List ℕ)) (t : List ℕ) (left left' : Option (List ℕ)) (piece : List ℕ) (x y : X) → Told first t left → IfSome left (λ bytes. bytes ≡ []) → TookBytes 0 piece left left'
      → IfErr r (λ status. IsUntaken takes stops status t [] x y) → IfErr r (λ status. TakesPart takes stops status first left' x y)
  part_taken (Ok u) first t left left' piece x y at end took h = tt
  part_taken (Err status) first t left left' piece x y at end took h = (t, [], told_all first t left left' piece at end took, h)

  -- one byte more than an input may have
  pub over_long : (first : Option (List ℕ)) (t : List ℕ) (n : ℕ) (line : List ℕ) (x y : X) (left left' : Option (List ℕ)) (piece : List ℕ) (b : ℕ) → Told first t left → IsFed takes x t n line y → TookBytes 1 piece left left' → take 1 piece ≡ b ∷ [] → length t ≤ most_bytes → b ≢ 10 → length line ≡ longest
      → TakesPart takes stops (Limit n Line) first left' x y
  over_long first t n line x y left left' piece b at h took one most ne full =
      let none : HasNoEnd (b ∷ []) = (ne_eqb b 10 ne, tt) in
      let long : longest < length (line ++ b ∷ []) = rw (length-append line (b ∷ [])) (omega arith) in
      let r = told_rest first (t ++ b ∷ []) left' (subst (λ (l : List ℕ). Told first (t ++ l) left') one (told_more first t left left' 1 piece at took)) in (
        t ++ b ∷ [],
        r.0,
        r.1,
        inr (inl (record {
          number = n;
          status_is = refl;
          short = rw (length-append t (b ∷ [])) (omega arith);
          meets = meets_long x t n n line y (b ∷ []) [] h none refl long;
        })),
      )

  pub over_input : (first : Option (List ℕ)) (t : List ℕ) (n : ℕ) (line : List ℕ) (x y : X) (left left' : Option (List ℕ)) (piece : List ℕ) (b : ℕ) → Told first t left → IsFed takes x t n line y → TookBytes 1 piece left left' → take 1 piece ≡ b ∷ [] → length t ≡ most_bytes → (b ≡ 10) ⊎ (length line < longest)
      → TakesPart takes stops (Limit n Input) first left' x y
  over_input first t n line x y left left' piece b at h took one full short =
      let r = told_rest first (t ++ b ∷ []) left' (subst (λ (l : List ℕ). Told first (t ++ l) left') one (told_more first t left left' 1 piece at took)) in (
        t ++ b ∷ [],
        r.0,
        r.1,
        inr (inr (inl (record { number = n; status_is = refl; bytes = t; byte = b; taken_is = refl; full = full; leads = h.leads; number_is = h.number_is; line = rw (← h.line_is) short }))),
      )

-- ---- statuses

pub extend_may : (why : LineStop) (n : ℕ) (line bytes : List ℕ) → NotExtended why n line bytes → MayStop (status_of why)
extend_may (stop.BadInput m fault) n line bytes h = tt
extend_may (stop.Long m) n line bytes h = tt
extend_may (stop.Ratio m over) n line bytes h = tt
extend_may stop.Write n line bytes h = tt
extend_may stop.Keep n line bytes h = absurd h
extend_may stop.NoMemory n line bytes h = tt

-- a line that could not take bytes is no fault of the sink
pub extend_unwritten : (why : LineStop) (n : ℕ) (line bytes : List ℕ) → NotExtended why n line bytes → ◌≡◌ {A = Result (Unit {0}) Status} (Err (status_of why)) (Err WriteFault) → ⊥
extend_unwritten (stop.BadInput m fault) n line bytes h e = absurd h
extend_unwritten (stop.Long m) n line bytes h e = absurd cc
extend_unwritten (stop.Ratio m over) n line bytes h e = absurd h
extend_unwritten stop.Write n line bytes h e = absurd h
extend_unwritten stop.Keep n line bytes h e = absurd h
extend_unwritten stop.NoMemory n line bytes h e = absurd cc

pub stop_may_end : (r : Result (Unit {0}) Status) → IfErr r MayStop → IfErr r MayEnd
stop_may_end (Ok u) h = tt
stop_may_end (Err status) h = inl h
