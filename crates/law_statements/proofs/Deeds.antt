-- What is followed of a pair within a block meets the log: each thing that is told, noted and logged, one after another.
use Rattle.std.proofs.Common.{◌≡◌, ◌∙◌, ℕ, ◌+◌, ◌^◌, ◌<◌, ◌≤◌, Bool, true, false, List, [], ◌∷◌, ◌++◌, append-nil, append_assoc, drop, length, length-append, refl, sym, ap, subst, arith, Option, Some, None, ◌&&◌, if◌then◌else◌}
use Rattle.std.proofs.lemmas.Grind.{common_steps}
use Rattle.base_coins.specs.Coins.{Money, amount_of, IsMoney}
use Rattle.base_roles.specs.{declared.{entities.Validator.Validator, facts.Fact.Fact}, Log.{Log, LogEntry}}
use Rattle.base_roles.specs.Orders.{same_addr}
use Rattle.base_roles.specs.declared.facts.Fact.TheVariants as fact
use Rattle.base_roles.specs.Log as log
use Rattle.rule_modules.specs.Ideal.{history_of}
use Rattle.law_rewards.{specs.Withdrawals.{raised_in, reward_paid}, proofs.Following.own_addr}
use Rattle.mod_statement.specs.declared.entry.Entry.{Entry, TheVariants.{Started, Allocated, Ended, Slashed, Touched}}
use Rattle.mod_recorder.specs.declared.note.Note.{Note}
use Rattle.mod_tracking.specs.declared.tracker.Pair.{Pair}
use Rattle.mod_tracking.specs.Tracking.{Followed, Payment, Tracked, allocation, block_followed, fact_followed, is_pair, note_taken, once_more, own_taken, paid, period_ended, started, touched, untracked, with_entry}
use Rattle.law_statements.proofs.Meeting.{AreOfOneKind, Stands, stands_commission, stands_elsewhere, stands_left, stands_less, stands_made, stands_more, stands_started, stands_started_by, stands_touched, stands_withdrawn, stands_withdrawn_by}
use Rattle.law_statements.proofs.Walks.{AreWithin, fact_last, note_last, within_last, within_more}

-- ---- lists

drop_more : (n : ℕ) (xs : List Note) (m : Note) → n ≤ length xs → drop n (xs ++ m ∷ []) ≡ drop n xs ++ m ∷ []
drop_more n xs m h = grind (arith, common_steps, h)

longer_by : {A : Type 0} (xs : List A) (x : A) → length (xs ++ x ∷ []) ≡ length xs + 1
longer_by xs x = length-append xs (x ∷ [])

module _ (p : Pair) (v : Option Validator) (t0 : Tracked) (n0 : ℕ) (base : Log) where
  -- A payment of the pair is that of a withdrawal behind the log of before the block, with what stands by the log up to it.
  pub record IsPaidIn (more : Log) (pay : Payment) : Type 0 where
    pub earlier : Log
    pub later : Log
    pub to : List ℕ
    pub full : Money
    pub outstanding : Money
    pub parts : more ≡ earlier ++ (p.operator, log.withdrawn p.delegator to full outstanding) ∷ later
    pub reward_is : pay.reward ≡ reward_paid full outstanding
    pub stands : Stands 0 p (base ++ earlier) pay.rests_on

  abbrev pub ArePaidIn : Log → List Payment → Type 0
  ArePaidIn more [] = Unit {0}
  ArePaidIn more (pay ∷ pays) = IsPaidIn more pay × ArePaidIn more pays

  -- What stands of the pair behind these facts of the block and these notes meets this log.
  pub record Meets (b : ℕ) (notes : List Note) (facts : List Fact) (l : Log) : Type 0 where
    pub due : Followed
    pub due_is : block_followed p v facts (drop n0 notes) t0 ≡ due
    pub more : Log
    pub log_is : l ≡ base ++ more
    pub within : AreWithin (length facts) (drop n0 notes)
    pub many : n0 ≤ length notes
    pub few : due.tracked.removals ≤ length notes
    pub stands : Stands b p l due.tracked
    pub payments : ArePaidIn more due.payments

  -- ---- the log grows

  paid_on : (more : Log) (e : List ℕ × LogEntry) (pay : Payment) → IsPaidIn more pay → IsPaidIn (more ++ e ∷ []) pay
  paid_on more e pay h = record {
    earlier = h.earlier;
    later = h.later ++ e ∷ [];
    to = h.to;
    full = h.full;
    outstanding = h.outstanding;
    parts = ap (λ (l : Log). l ++ e ∷ []) h.parts ∙ append_assoc h.earlier ((p.operator, log.withdrawn p.delegator h.to h.full h.outstanding) ∷ h.later) (e ∷ []);
    reward_is = h.reward_is;
    stands = h.stands;
  }

  all_paid_on : (more : Log) (e : List ℕ × LogEntry) (pays : List Payment) → ArePaidIn more pays → ArePaidIn (more ++ e ∷ []) pays
  all_paid_on more e [] h = tt
  all_paid_on more e (pay ∷ pays) h = (paid_on more e pay h.0, all_paid_on more e pays h.1)

  one_paid_more : (more : Log) (pays : List Payment) (pay : Payment) → ArePaidIn more pays → IsPaidIn more pay → ArePaidIn more (pays ++ pay ∷ [])
  one_paid_more more [] pay h k = (k, tt)
  one_paid_more more (x ∷ pays) pay h k = (h.0, one_paid_more more pays pay h.1 k)

  logged_behind : (l more : Log) (e : List ℕ × LogEntry) → l ≡ base ++ more → l ++ e ∷ [] ≡ base ++ (more ++ e ∷ [])
  logged_behind l more e h = ap (λ (x : Log). x ++ e ∷ []) h ∙ append_assoc base more (e ∷ [])

  -- ---- a fact comes

  module _ (b : ℕ) (notes : List Note) (facts : List Fact) (l : Log) (m : Meets b notes facts l) (f : Fact) (small : length facts < 2 ^ 64) where
    told : block_followed p v (facts ++ f ∷ []) (drop n0 notes) t0 ≡ fact_followed p v f m.due
    told = fact_last p v facts (drop n0 notes) t0 f m.within small ∙ ap (fact_followed p v f) m.due_is

    within_told : AreWithin (length (facts ++ f ∷ [])) (drop n0 notes)
    within_told = within_more (length facts) (length (facts ++ f ∷ [])) (drop n0 notes) (omega (arith, longer_by facts f)) m.within

    -- one that is nothing to the pair
    pub meets_told : ((w : Followed) → fact_followed p v f w ≡ w) → Meets b notes (facts ++ f ∷ []) l
    meets_told nothing = record {
      due = m.due;
      due_is = told ∙ nothing m.due;
      more = m.more;
      log_is = m.log_is;
      within = within_told;
      many = m.many;
      few = m.few;
      stands = m.stands;
      payments = m.payments;
    }

    -- one that is logged beside it, by which something else stands
    meets_logged : (c : ℕ) (t : Tracked) (e : List ℕ × LogEntry) → fact_followed p v f m.due ≡ record m.due { tracked = t } → t.removals ≡ m.due.tracked.removals → Stands c p (l ++ e ∷ []) t
        → Meets c notes (facts ++ f ∷ []) (l ++ e ∷ [])
    meets_logged c t e is same stands = record {
      due = record m.due { tracked = t };
      due_is = told ∙ is;
      more = m.more ++ e ∷ [];
      log_is = logged_behind l m.more e m.log_is;
      within = within_told;
      many = m.many;
      few = omega (arith, same, m.few);
      stands = stands;
      payments = all_paid_on m.more e m.due.payments m.payments;
    }

  -- ---- deeds that a fact tells and the log has

  module _ (b : ℕ) (notes : List Note) (facts : List Fact) (l : Log) (m : Meets b notes facts l) (small : length facts < 2 ^ 64) where
    abbrev history : List LogEntry
    history = history_of p.operator l []

    -- the end of a period of the validator, whose ratio is the last with the increment
    pub meets_ended : (period : ℕ) (ratio increment : Money) (tokens : ℕ) → ((d : List ℕ) → amount_of ratio d ≡ raised_in d history + amount_of increment d)
        → Meets b notes (facts ++ fact.Period p.operator period ratio ∷ []) (l ++ (p.operator, log.ended period increment tokens) ∷ [])
    meets_ended period ratio increment tokens is =
        let e : LogEntry = log.ended period increment tokens in
        let kind : AreOfOneKind e Ended = record { stays = λ es. refl; same = refl; spans = λ who s. refl; counts = refl; untouched_is = refl; money = tt } in
        meets_logged b notes facts l m (fact.Period p.operator period ratio) small b (period_ended ratio m.due.tracked) (p.operator, e)
        (ap (λ (q : Bool). record m.due { tracked = if q then period_ended ratio m.due.tracked else m.due.tracked }) (own_addr p.operator)) refl
        (stands_more p l b m.due.tracked e Ended ratio kind is m.stands)

    -- an allocation to the validator, of which so much is the delegators'
    pub meets_allocated : (val : Validator) (share rest : Money) → v ≡ Some val → allocation (Some val) share m.due.tracked ≡ with_entry (Allocated rest val.tokens) m.due.tracked → IsMoney rest
        → Meets b notes (facts ++ fact.Allocated p.operator share ∷ []) (l ++ (p.operator, log.allocated share rest val.tokens) ∷ [])
    meets_allocated val share rest there is money =
        let e : LogEntry = log.allocated share rest val.tokens in
        let kind : AreOfOneKind e (Allocated rest val.tokens) = record { stays = λ es. refl; same = refl; spans = λ who s. refl; counts = refl; untouched_is = refl; money = money } in
        meets_logged b notes facts l m (fact.Allocated p.operator share) small b (with_entry (Allocated rest val.tokens) m.due.tracked) (p.operator, e)
        (ap (λ (q : Bool). record m.due { tracked = if q then allocation v share m.due.tracked else m.due.tracked }) (own_addr p.operator)
        ∙ ap (λ (o : Option Validator). record m.due { tracked = allocation o share m.due.tracked }) there
        ∙ ap (λ (t : Tracked). record m.due { tracked = t }) is) refl
        (stands_more p l b m.due.tracked e (Allocated rest val.tokens) m.due.tracked.ratio kind (λ d. m.stands.ratio d ∙ none (raised_in d history)) m.stands)
      where
        none : (n : ℕ) → n ≡ n + 0
        none n = omega arith

    -- a payment of the pair, with the withdrawal that is logged
    pub meets_paid : (to : List ℕ) (full outstanding coins : Money)
        → Meets b notes (facts ++ fact.Paid p.delegator p.operator to (reward_paid full outstanding) coins ∷ []) (l ++ (p.operator, log.withdrawn p.delegator to full outstanding) ∷ [])
    meets_paid to full outstanding coins =
        let reward : Money = reward_paid full outstanding in
        let e : List ℕ × LogEntry = (p.operator, log.withdrawn p.delegator to full outstanding) in
        let pay : Payment = record { reward = reward; rests_on = m.due.tracked } in
        let own : is_pair p p.delegator p.operator ≡ true = (λ i. own_addr p.delegator i && own_addr p.operator i) in
        record {
          due = paid reward m.due;
          due_is = told b notes facts l m (fact.Paid p.delegator p.operator to reward coins) small ∙ ap (λ (q : Bool). if q then paid reward m.due else m.due) own;
          more = m.more ++ e ∷ [];
          log_is = logged_behind l m.more e m.log_is;
          within = within_told b notes facts l m (fact.Paid p.delegator p.operator to reward coins) small;
          many = m.many;
          few = m.few;
          stands = stands_withdrawn p l b m.due.tracked to full outstanding m.stands;
          payments = one_paid_more (m.more ++ e ∷ []) m.due.payments pay (all_paid_on m.more e m.due.payments m.payments) (record {
            earlier = m.more;
            later = [];
            to = to;
            full = full;
            outstanding = outstanding;
            parts = refl;
            reward_is = refl;
            stands = at_base m.due.tracked (fewer m.due.tracked m.stands);
          });
        }
      where
        fewer : (t : Tracked) → Stands b p l t → Stands 0 p l t
        fewer t h = stands_less b p l t h

        at_base : (t : Tracked) → Stands 0 p l t → Stands 0 p (base ++ m.more) t
        at_base t h = subst (λ (x : Log). Stands 0 p x t) m.log_is h

  -- ---- a note comes

  module _ (b : ℕ) (notes : List Note) (facts : List Fact) (l : Log) (m : Meets b notes facts l) (n : Note) (place : n.facts ≡ length facts) (small : length facts < 2 ^ 64) where
    noted : block_followed p v facts (drop n0 (notes ++ n ∷ [])) t0 ≡ record m.due { tracked = note_taken p n m.due.tracked }
    noted =
        ap (λ (ns : List Note). block_followed p v facts ns t0) (drop_more n0 notes n m.many)
        ∙ note_last p v facts (drop n0 notes) t0 n place small
        ∙ ap (λ (w : Followed). record w { tracked = note_taken p n w.tracked }) m.due_is

    within_noted : AreWithin (length facts) (drop n0 (notes ++ n ∷ []))
    within_noted = subst (AreWithin (length facts)) (sym (drop_more n0 notes n m.many)) (within_last (length facts) (drop n0 notes) n m.within (omega (arith, place)))

    -- by which something else stands
    meets_noted_as : (c : ℕ) (t : Tracked) → note_taken p n m.due.tracked ≡ t → t.removals ≤ length notes + 1 → Stands c p l t → Meets c (notes ++ n ∷ []) facts l
    meets_noted_as c t is few stands = record {
      due = record m.due { tracked = t };
      due_is = noted ∙ ap (λ (x : Tracked). record m.due { tracked = x }) is;
      more = m.more;
      log_is = m.log_is;
      within = within_noted;
      many = omega (arith, m.many, longer_by notes n);
      few = omega (arith, few, longer_by notes n);
      stands = stands;
      payments = m.payments;
    }

    -- of another validator
    pub meets_noted_elsewhere : same_addr n.operator p.operator ≡ false → Meets b (notes ++ n ∷ []) facts l
    meets_noted_elsewhere apart =
        meets_noted_as b m.due.tracked (ap (λ (q : Bool). if q then own_taken p.delegator n.delegator n.entry m.due.tracked else m.due.tracked) apart) (omega (arith, m.few)) m.stands

    -- by which something else stands, beside what is logged
    meets_both : (c : ℕ) (t : Tracked) (e : List ℕ × LogEntry) → note_taken p n m.due.tracked ≡ t → t.removals ≤ length notes + 1 → Stands c p (l ++ e ∷ []) t → Meets c (notes ++ n ∷ []) facts (l ++ e ∷ [])
    meets_both c t e is few stands = record {
      due = record m.due { tracked = t };
      due_is = noted ∙ ap (λ (x : Tracked). record m.due { tracked = x }) is;
      more = m.more ++ e ∷ [];
      log_is = logged_behind l m.more e m.log_is;
      within = within_noted;
      many = omega (arith, m.many, longer_by notes n);
      few = omega (arith, few, longer_by notes n);
      stands = stands;
      payments = all_paid_on m.more e m.due.payments m.payments;
    }

    -- of another validator, beside what is logged of it
    pub meets_both_elsewhere : (e : LogEntry) → same_addr n.operator p.operator ≡ false → Meets b (notes ++ n ∷ []) facts (l ++ (n.operator, e) ∷ [])
    meets_both_elsewhere e apart =
        meets_both b m.due.tracked (n.operator, e) (ap (λ (q : Bool). if q then own_taken p.delegator n.delegator n.entry m.due.tracked else m.due.tracked) apart) (omega (arith, m.few))
        (stands_elsewhere p l b m.due.tracked n.operator e apart m.stands)

  -- ---- an entry is logged alone

  module _ (b : ℕ) (notes : List Note) (facts : List Fact) (l : Log) (m : Meets b notes facts l) where
    meets_log : (c : ℕ) (e : List ℕ × LogEntry) → Stands c p (l ++ e ∷ []) m.due.tracked → Meets c notes facts (l ++ e ∷ [])
    meets_log c e stands = record {
      due = m.due;
      due_is = m.due_is;
      more = m.more ++ e ∷ [];
      log_is = logged_behind l m.more e m.log_is;
      within = m.within;
      many = m.many;
      few = m.few;
      stands = stands;
      payments = all_paid_on m.more e m.due.payments m.payments;
    }

    -- of another validator
    pub meets_log_elsewhere : (operator : List ℕ) (e : LogEntry) → same_addr operator p.operator ≡ false → Meets b notes facts (l ++ (operator, e) ∷ [])
    meets_log_elsewhere operator e apart = meets_log b (operator, e) (stands_elsewhere p l b m.due.tracked operator e apart m.stands)

    -- a payment of commission
    pub meets_commission : (coins : Money) → Meets b notes facts (l ++ (p.operator, log.commission coins) ∷ [])
    meets_commission coins = meets_log b (p.operator, log.commission coins) (stands_commission p l b m.due.tracked coins m.stands)

    -- a withdrawal of another's
    pub meets_withdrawn_by : (who to : List ℕ) (full outstanding : Money) → same_addr who p.delegator ≡ false → Meets b notes facts (l ++ (p.operator, log.withdrawn who to full outstanding) ∷ [])
    meets_withdrawn_by who to full outstanding other = meets_log b (p.operator, log.withdrawn who to full outstanding) (stands_withdrawn_by p l b m.due.tracked who to full outstanding other m.stands)

    -- where shares may leave once more, they may not
    pub meets_less : Meets 0 notes facts l
    meets_less = record {
      due = m.due;
      due_is = m.due_is;
      more = m.more;
      log_is = m.log_is;
      within = m.within;
      many = m.many;
      few = m.few;
      stands = stands_less b p l m.due.tracked m.stands;
      payments = m.payments;
    }

  -- shares leave, which were about to change
  pub meets_left : (notes : List Note) (facts : List Fact) (l : Log) → Meets 1 notes facts l → Meets 0 notes facts (l ++ (p.operator, log.left) ∷ [])
  meets_left notes facts l m = meets_log 1 notes facts l m 0 (p.operator, log.left) (stands_left p l m.due.tracked m.stands)

  -- ---- notes of the validator

  -- a note behind so many facts
  abbrev pub note_of : ℕ → Option (List ℕ) → Option Entry → Note
  note_of n who entry = record { operator = p.operator; delegator = who; facts = n; entry = entry }

  module _ (b : ℕ) (notes : List Note) (facts : List Fact) (l : Log) (m : Meets b notes facts l) (small : length facts < 2 ^ 64) where
    own_note : (who : Option (List ℕ)) (entry : Option Entry) → note_taken p (note_of (length facts) who entry) m.due.tracked ≡ own_taken p.delegator who entry m.due.tracked
    own_note who entry = ap (λ (q : Bool). if q then own_taken p.delegator who entry m.due.tracked else m.due.tracked) (own_addr p.operator)

    -- shares are about to change
    pub meets_touched : (who : Option (List ℕ)) → length notes + 1 < 2 ^ 64 → Meets 1 (notes ++ note_of (length facts) who (Some Touched) ∷ []) facts l
    meets_touched who fewer =
        let more : once_more m.due.tracked.removals ≡ m.due.tracked.removals + 1 = omega (arith, m.few, fewer) in
        meets_noted_as b notes facts l m (note_of (length facts) who (Some Touched)) refl small 1 (touched m.due.tracked) (own_note who (Some Touched)) (omega (arith, m.few, more))
        (stands_touched b p l m.due.tracked (once_more m.due.tracked.removals) more m.stands)

    -- tokens are slashed, as it is logged
    pub meets_slashed : (burn tokens fraction : ℕ)
        → Meets b (notes ++ note_of (length facts) None (Some (Slashed burn tokens)) ∷ []) facts (l ++ (p.operator, log.slashed burn tokens fraction) ∷ [])
    meets_slashed burn tokens fraction =
        let e : LogEntry = log.slashed burn tokens fraction in
        let x : Entry = Slashed burn tokens in
        let kind : AreOfOneKind e x = record { stays = λ es. refl; same = refl; spans = λ who s. refl; counts = refl; untouched_is = refl; money = tt } in
        meets_both b notes facts l m (note_of (length facts) None (Some x)) refl small b (with_entry x m.due.tracked) (p.operator, e) (own_note None (Some x)) (omega (arith, m.few))
        (stands_more p l b m.due.tracked e x m.due.tracked.ratio kind (λ d. m.stands.ratio d ∙ none (raised_in d (history_of p.operator l []))) m.stands)
      where
        none : (n : ℕ) → n ≡ n + 0
        none n = omega arith

    -- the validator is made
    pub meets_made : Meets 0 (notes ++ note_of (length facts) None None ∷ []) facts (l ++ (p.operator, log.made) ∷ [])
    meets_made = meets_both b notes facts l m (note_of (length facts) None None) refl small 0 untracked (p.operator, log.made) (own_note None None) (omega arith) (stands_made p l)

    -- rewards begin, of the pair's delegator
    pub meets_started : (shares tokens total stake : ℕ) → b ≤ 1
        → Meets b (notes ++ note_of (length facts) (Some p.delegator) (Some (Started shares tokens total)) ∷ []) facts (l ++ (p.operator, log.started p.delegator shares tokens total stake) ∷ [])
    meets_started shares tokens total stake once =
        let x : Entry = Started shares tokens total in
        let new : Tracked = started shares tokens total m.due.tracked in
        meets_both b notes facts l m (note_of (length facts) (Some p.delegator) (Some x)) refl small b new (p.operator, log.started p.delegator shares tokens total stake)
        (own_note (Some p.delegator) (Some x) ∙ ap (λ (q : Bool). if q then new else m.due.tracked) (own_addr p.delegator)) (omega (arith, m.few))
        (stands_started p l b m.due.tracked shares tokens total stake once m.stands)

    -- or of another
    pub meets_started_by : (who : List ℕ) (shares tokens total stake : ℕ) → same_addr who p.delegator ≡ false
        → Meets b (notes ++ note_of (length facts) (Some who) (Some (Started shares tokens total)) ∷ []) facts (l ++ (p.operator, log.started who shares tokens total stake) ∷ [])
    meets_started_by who shares tokens total stake other =
        let x : Entry = Started shares tokens total in
        let new : Tracked = started shares tokens total m.due.tracked in
        meets_both b notes facts l m (note_of (length facts) (Some who) (Some x)) refl small b m.due.tracked (p.operator, log.started who shares tokens total stake)
        (own_note (Some who) (Some x) ∙ ap (λ (q : Bool). if q then new else m.due.tracked) other) (omega (arith, m.few))
        (stands_started_by p l b m.due.tracked who shares tokens total stake other m.stands)
