-- A pair that is followed through a block, step by step, and the statements of its payments.
use Rattle.std.proofs.Common.{◌≡◌, ◌∙◌, ℕ, ◌+◌, ◌≤◌, Bool, true, false, List, [], ◌∷◌, ◌++◌, append-nil, append_assoc, drop, length, slice_get, refl, sym, ap, subst, arith, Option, Some, Result, Ok, Err, if◌then◌else◌}
use Rattle.std.proofs.lemmas.List.{drop_all}
use Rattle.base_coins.specs.Steps.{◌>>=◌}
use Rattle.base_messages.specs.declared.report.{BlockReport.BlockReport, TxReport.TxReport}
use Rattle.base_roles.specs.declared.{entities.Validator.Validator, facts.Fact.Fact}
use Rattle.base_roles.specs.declared.facts.Fact.TheVariants as fact
use Rattle.mod_statement.specs.declared.{fault.StatementFault.StatementFault, statement.Statement.Statement}
use Rattle.mod_statement.specs.Answers.{IsFaultOf}
use Rattle.mod_statement.specs.declared.fault.StatementFault.TheVariants as fault
use Rattle.mod_recorder.specs.declared.note.Note.{Note}
use Rattle.rule_machine.specs.Promises.{facts_of}
use Rattle.mod_tracking.specs.declared.tracker.Pair.{Pair}
use Rattle.mod_tracking.specs.Stating.{Follows, StillDue, statement_of, statements_of, told_in}
use Rattle.mod_tracking.specs.Tracking.{Followed, Payment, Tracked, Walk, block_followed, fact_followed, fact_taken, facts_walked, followed, is_pair, last_walked, note_taken, notes_before, notes_behind, notes_taken, once_more, one_walked, paid, stands_before, unpaid, walk_of}
use Rattle.mod_tracking.proofs.Lists.{from_place}

-- ---- results

same_ok : {A E : Type 0} (x y : A) → ◌≡◌ {A = Result A E} (Ok x) (Ok y) → x ≡ y
same_ok x y h = cc

never_both : {A E : Type 0} (x : A) (e : E) → ◌≡◌ {A = Result A E} (Ok x) (Err e) → ⊥
never_both x e h = cc

-- what a step came to whose next one came to something
both_ok : {A B E : Type 0} (r : Result A E) (k : A → Result B E) (y : B) → (r >>= k) ≡ Ok y → (x : A) × (r ≡ Ok x) × (k x ≡ Ok y)
both_ok (Ok x) k y h = (x, refl, h)
both_ok (Err e) k y h = absurd (never_both y e (sym h))

-- a fault of a step is one of all
pub fault_then : {A B : Type 0} (r : Result A StatementFault) (k : A → Result B StatementFault) (f : StatementFault) → IsFaultOf r f → IsFaultOf (r >>= k) f
fault_then r k (fault.Over over) h = ap (λ q. q >>= k) h
fault_then r k fault.NoSpan h = ap (λ q. q >>= k) h
fault_then r k fault.NoMemory h = tt

-- memory may always be wanting
pub wanting : {A : Type 0} (r : Result A StatementFault) (f : StatementFault) → f ≡ fault.NoMemory → IsFaultOf r f
wanting r f h = subst (IsFaultOf r) (sym h) tt

-- ---- the statements of payments

module _ (p : Pair) (height : ℕ) where
  -- those of some, and of others behind them
  joined : (a b : List Payment) (xs ys : List Statement) → statements_of p height a ≡ Ok xs → statements_of p height b ≡ Ok ys → statements_of p height (a ++ b) ≡ Ok (xs ++ ys)
  joined [] b xs ys h k = k ∙ ap (λ l. Ok (l ++ ys)) (same_ok [] xs h)
  joined (x ∷ a) b xs ys h k =
      let one = both_ok (statement_of p height x) (λ first. statements_of p height a >>= λ rest. Ok (first ∷ rest)) xs h in
      let two = both_ok (statements_of p height a) (λ rest. Ok (one.0 ∷ rest)) xs one.2 in
      ap (λ r. r >>= λ first. statements_of p height (a ++ b) >>= λ rest. Ok (first ∷ rest)) one.1
      ∙ ap (λ r. r >>= λ rest. Ok (one.0 ∷ rest)) (joined a b two.0 ys two.1 k)
      ∙ ap (λ l. Ok (l ++ ys)) (same_ok (one.0 ∷ two.0) xs two.2)

  rest_stops : (s : Statement) (q : Result (List Statement) StatementFault) (e : StatementFault) → (q >>= λ rest. Ok (s ∷ rest)) ≡ Err e → q ≡ Err e
  rest_stops s (Ok xs) e h = absurd (never_both (s ∷ xs) e h)
  rest_stops s (Err d) e h = h

  -- the first that has none stops those behind it
  stops_first : (a b : List Payment) (e : StatementFault) → statements_of p height a ≡ Err e → statements_of p height (a ++ b) ≡ Err e
  stops_first [] b e h = absurd (never_both [] e h)
  stops_first (x ∷ a) b e h = by (statement_of p height x) h (stops_first a b e)
    where
      by : (r : Result Statement StatementFault) → (r >>= λ first. statements_of p height a >>= λ rest. Ok (first ∷ rest)) ≡ Err e
          → (statements_of p height a ≡ Err e → statements_of p height (a ++ b) ≡ Err e) → (r >>= λ first. statements_of p height (a ++ b) >>= λ rest. Ok (first ∷ rest)) ≡ Err e
      by (Ok s) g k = ap (λ q. q >>= λ rest. Ok (s ∷ rest)) (k (rest_stops s (statements_of p height a) e g))
      by (Err d) g k = g

  stops_later : (a b : List Payment) (xs : List Statement) (e : StatementFault) → statements_of p height a ≡ Ok xs → statements_of p height b ≡ Err e → statements_of p height (a ++ b) ≡ Err e
  stops_later [] b xs e h k = k
  stops_later (x ∷ a) b xs e h k =
      let one = both_ok (statement_of p height x) (λ first. statements_of p height a >>= λ rest. Ok (first ∷ rest)) xs h in
      let two = both_ok (statements_of p height a) (λ rest. Ok (one.0 ∷ rest)) xs one.2 in
      ap (λ r. r >>= λ first. statements_of p height (a ++ b) >>= λ rest. Ok (first ∷ rest)) one.1
      ∙ ap (λ r. r >>= λ rest. Ok (one.0 ∷ rest)) (stops_later a b two.0 e two.1 k)

  -- a fault among payments, behind some that have statements
  faulty : (a b c : List Payment) (xs : List Statement) (f : StatementFault) → statements_of p height a ≡ Ok xs → IsFaultOf (statements_of p height b) f → IsFaultOf (statements_of p height (a ++ (b ++ c))) f
  faulty a b c xs (fault.Over over) h k = stops_later a (b ++ c) xs (fault.Over over) h (stops_first b c (fault.Over over) k)
  faulty a b c xs fault.NoSpan h k = stops_later a (b ++ c) xs fault.NoSpan h (stops_first b c fault.NoSpan k)
  faulty a b c xs fault.NoMemory h k = tt

-- ---- notes

module _ (p : Pair) where
  -- one that stands before a fact
  pub taken_before : (n : ℕ) (m : Note) (ms : List Note) (t : Tracked) → stands_before n m ≡ true → notes_taken p (notes_before n (m ∷ ms)) t ≡ notes_taken p (notes_before n ms) (note_taken p m t)
  taken_before n m ms t h = ap (λ b. notes_taken p (if b then m ∷ notes_before n ms else []) t) h

  pub passed_before : (n : ℕ) (m : Note) (ms : List Note) → stands_before n m ≡ true → notes_behind n (m ∷ ms) ≡ notes_behind n ms
  passed_before n m ms h = ap (λ b. if b then notes_behind n ms else m ∷ ms) h

  -- and one that does not
  pub none_before : (n : ℕ) (m : Note) (ms : List Note) (t : Tracked) → stands_before n m ≡ false → notes_taken p (notes_before n (m ∷ ms)) t ≡ t
  none_before n m ms t h = ap (λ b. notes_taken p (if b then m ∷ notes_before n ms else []) t) h

  pub all_behind : (n : ℕ) (m : Note) (ms : List Note) → stands_before n m ≡ false → notes_behind n (m ∷ ms) ≡ m ∷ ms
  all_behind n m ms h = ap (λ b. if b then notes_behind n ms else m ∷ ms) h

  module _ (n : ℕ) (notes : List Note) (place : ℕ) (t target : Tracked) (rest : List Note)
      (so : notes_taken p (notes_before n (drop place notes)) t ≡ target) (left : notes_behind n (drop place notes) ≡ rest) where
    -- the next note stands before the fact, and is taken
    pub note_goes : (m : Note) (t2 : Tracked) → slice_get notes place ≡ Some m → stands_before n m ≡ true → t2 ≡ note_taken p m t
        → (notes_taken p (notes_before n (drop (place + 1) notes)) t2 ≡ target) × (notes_behind n (drop (place + 1) notes) ≡ rest)
    note_goes m t2 at here is =
        let later : List Note = drop (place + 1) notes in (
          ap (notes_taken p (notes_before n later)) is ∙ sym (taken_before n m later t here) ∙ sym (ap (λ l. notes_taken p (notes_before n l) t) (from_place notes place m at)) ∙ so,
          sym (passed_before n m later here) ∙ sym (ap (notes_behind n) (from_place notes place m at)) ∙ left,
        )

    -- it does not
    pub note_stops : (m : Note) → slice_get notes place ≡ Some m → stands_before n m ≡ false → (t ≡ target) × (drop place notes ≡ rest)
    note_stops m at here =
        let later : List Note = drop (place + 1) notes in
        let is : drop place notes ≡ m ∷ later = from_place notes place m at in (
          sym (none_before n m later t here) ∙ sym (ap (λ l. notes_taken p (notes_before n l) t) is) ∙ so,
          is ∙ sym (all_behind n m later here) ∙ sym (ap (notes_behind n) is) ∙ left,
        )

    -- there is none
    pub notes_end : length notes ≤ place → (t ≡ target) × (drop (length notes) notes ≡ rest)
    notes_end le =
        let none : drop place notes ≡ [] = drop_all place notes le in (
          sym (ap (λ l. notes_taken p (notes_before n l) t) none) ∙ so,
          drop_all (length notes) notes (omega arith) ∙ sym (ap (notes_behind n) none) ∙ left,
        )

  module _ (notes : List Note) (place : ℕ) (t target : Tracked) (so : notes_taken p (drop place notes) t ≡ target) where
    -- the next of all that come is taken
    pub rest_goes : (m : Note) (t2 : Tracked) → slice_get notes place ≡ Some m → t2 ≡ note_taken p m t → notes_taken p (drop (place + 1) notes) t2 ≡ target
    rest_goes m t2 at is = ap (notes_taken p (drop (place + 1) notes)) is ∙ sym (ap (λ l. notes_taken p l t) (from_place notes place m at)) ∙ so

    -- or there is none
    pub rest_ends : length notes ≤ place → t ≡ target
    rest_ends le = sym (ap (λ l. notes_taken p l t) (drop_all place notes le)) ∙ so

-- ---- facts

module _ (p : Pair) (v : Option Validator) where
  -- earlier payments stay
  fact_behind : (f : Fact) (t : Tracked) (pays : List Payment)
      → fact_followed p v f (followed t pays) ≡ followed (fact_followed p v f (unpaid t)).tracked (pays ++ (fact_followed p v f (unpaid t)).payments)
  fact_behind (fact.Paid who operator to reward coins) t pays = by (is_pair p who operator)
    where
      by : (b : Bool) → (if b then paid reward (followed t pays) else followed t pays)
          ≡ followed (if b then paid reward (unpaid t) else unpaid t).tracked (pays ++ (if b then paid reward (unpaid t) else unpaid t).payments)
      by true = refl
      by false = ap (followed t) (sym (append-nil pays))
  fact_behind f t pays = ap (followed (fact_taken p v f t)) (sym (append-nil pays))

  -- so do they through facts
  one_later : (n : ℕ) (f : Fact) (w : Walk) → (later : List Payment) × ((one_walked p v n f w).followed.payments ≡ w.followed.payments ++ later)
  one_later n f w =
      let t : Tracked = notes_taken p (notes_before n w.notes) w.followed.tracked in
      ((fact_followed p v f (unpaid t)).payments, ap (λ x. x.payments) (fact_behind f t w.followed.payments))

  all_later : (n : ℕ) (fs : List Fact) (w : Walk) → (later : List Payment) × ((facts_walked p v n fs w).followed.payments ≡ w.followed.payments ++ later)
  all_later n [] w = ([], sym (append-nil w.followed.payments))
  all_later n (f ∷ fs) w =
      let one = one_later n f w in
      let rest = all_later (once_more n) fs (one_walked p v n f w) in
      (one.0 ++ rest.0, rest.1 ∙ ap (λ l. l ++ rest.0) one.1 ∙ append_assoc w.followed.payments one.0 rest.0)

  module _ (height : ℕ) where
    -- before anything is taken
    pub due_first : (facts : List Fact) (notes : List Note) (t : Tracked) (made : List Statement) → StillDue p v height (block_followed p v facts notes t) made facts 0 notes t made
    due_first facts notes t made = record { payments = []; more = []; due_is = refl; stated = refl; made_is = sym (append-nil made) }

    module _ (due : Followed) (old : List Statement) (f : Fact) (fs : List Fact) (n : ℕ) (notes : List Note) (t : Tracked) (made : List Statement)
        (s : StillDue p v height due old (f ∷ fs) n notes t made) (t1 : Tracked) (t1_is : t1 ≡ notes_taken p (notes_before n notes) t) where
      -- the walk over the fact, behind its notes
      walked : one_walked p v n f (walk_of (followed t s.payments) notes)
          ≡ walk_of (followed (fact_followed p v f (unpaid t1)).tracked (s.payments ++ (fact_followed p v f (unpaid t1)).payments)) (notes_behind n notes)
      walked =
          subst (λ (x : Tracked). one_walked p v n f (walk_of (followed t s.payments) notes)
          ≡ walk_of (followed (fact_followed p v f (unpaid x)).tracked (s.payments ++ (fact_followed p v f (unpaid x)).payments)) (notes_behind n notes))
          (sym t1_is) (ap (λ x. walk_of x (notes_behind n notes)) (fact_behind f (notes_taken p (notes_before n notes) t) s.payments))

      -- the fact is taken
      pub one_taken : (rest : List Note) (t2 : Tracked) (made2 : List Statement) → rest ≡ notes_behind n notes → Follows p height (fact_followed p v f (unpaid t1)) t2 made made2
          → StillDue p v height due old fs (once_more n) rest t2 made2
      one_taken rest t2 made2 rest_is g =
          let pays : List Payment = (fact_followed p v f (unpaid t1)).payments in record {
            payments = s.payments ++ pays;
            more = s.more ++ g.more;
            due_is = s.due_is ∙ ap (λ w. last_walked p (facts_walked p v (once_more n) fs w))
                (walked ∙ ap (λ x. walk_of (followed x (s.payments ++ pays)) (notes_behind n notes)) (sym g.tracked_is)
                ∙ ap (walk_of (followed t2 (s.payments ++ pays))) (sym rest_is));
            stated = joined p height s.payments pays s.more g.more s.stated g.stated;
            made_is = g.made_is ∙ ap (λ l. l ++ g.more) s.made_is ∙ append_assoc old s.more g.more;
          }

      -- or its payment has no statement
      pub one_stops : (e : StatementFault) → IsFaultOf (statements_of p height (fact_followed p v f (unpaid t1)).payments) e → IsFaultOf (statements_of p height due.payments) e
      one_stops e h =
          let pays : List Payment = (fact_followed p v f (unpaid t1)).payments in
          let later = all_later (once_more n) fs (one_walked p v n f (walk_of (followed t s.payments) notes)) in
          let is : due.payments ≡ s.payments ++ (pays ++ later.0) =
          ap (λ x. x.payments) s.due_is ∙ later.1 ∙ ap (λ x. x.followed.payments ++ later.0) walked ∙ append_assoc s.payments pays later.0 in
          subst (λ l. IsFaultOf (statements_of p height l) e) (sym is) (faulty p height s.payments pays later.0 s.more e s.stated h)

    -- all is taken but the last notes
    pub due_last : (due : Followed) (old : List Statement) (n : ℕ) (notes : List Note) (t t1 : Tracked) (made : List Statement) → StillDue p v height due old [] n notes t made → t1 ≡ notes_taken p notes t → Follows p height due t1 old made
    due_last due old n notes t t1 made s t1_is = record {
      more = s.more;
      tracked_is = t1_is ∙ ap (λ x. x.tracked) (sym s.due_is);
      stated = ap (λ x. statements_of p height x.payments) s.due_is ∙ s.stated;
      made_is = s.made_is;
    }

-- ---- the facts of a block

same_told : (g : List TxReport → List Fact) → g [] ≡ [] → ((t : TxReport) (ts : List TxReport) → g (t ∷ ts) ≡ t.facts ++ g ts) → (ts : List TxReport) → g ts ≡ told_in ts
same_told g none more [] = none
same_told g none more (t ∷ ts) = more t ts ∙ ap (λ l. t.facts ++ l) (same_told g none more ts)

told_by_parts : (begun ended : List Fact) (g : List TxReport → List Fact) → g [] ≡ [] → ((t : TxReport) (ts : List TxReport) → g (t ∷ ts) ≡ t.facts ++ g ts) → (ts : List TxReport)
    → (begun ++ g ts) ++ ended ≡ begun ++ (told_in ts ++ (ended ++ []))
told_by_parts begun ended g none more ts =
    append_assoc begun (g ts) ended ∙ ap (λ l. begun ++ (l ++ ended)) (same_told g none more ts) ∙ ap (λ l. begun ++ (told_in ts ++ l)) (sym (append-nil ended))

-- those of its beginning, its transactions and its end
block_told : (height time : ℕ) (begun ended : List Fact) (ts : List TxReport)
    → facts_of (record { height = height; time = time; begun = begun; txs = ts; ended = ended }) ≡ begun ++ (told_in ts ++ (ended ++ []))
block_told height time begun ended = told_by_parts begun ended _ refl (λ t us. refl)

-- before anything of a block is taken, whose transactions are these
pub block_due : (p : Pair) (v : Option Validator) (r : BlockReport) (txs : List TxReport) → txs ≡ r.txs → (notes : List Note) (t : Tracked) (made : List Statement)
    → StillDue p v r.height (block_followed p v (facts_of r) notes t) made (r.begun ++ (told_in txs ++ (r.ended ++ []))) 0 notes t made
block_due p v r txs same notes t made =
    subst (λ (fs : List Fact). StillDue p v r.height (block_followed p v (facts_of r) notes t) made fs 0 notes t made)
    (block_told r.height r.time r.begun r.ended r.txs ∙ ap (λ (ts : List TxReport). r.begun ++ (told_in ts ++ (r.ended ++ []))) (sym same)) (due_first p v r.height (facts_of r) notes t made)
