-- What stands of a pair within a block that a recorder hears: what a fact, an entry of the log and a note make of it, and what distribution
-- does at the hooks of staking.
use Rattle.std.proofs.Common.{◌≡◌, ◌∙◌, ℕ, ◌+◌, ◌^◌, ◌<◌, ◌≤◌, ◌==◌, Bool, true, false, cond, List, [], ◌∷◌, ◌++◌, append_assoc, length, length-append, refl, sym, ap, subst, arith, Option, Some, None, Ok, ◌&&◌, if◌then◌else◌, unwrap_or}
use Rattle.base_types.specs.{declared.{account.{Account.{Account as Holder}, Module.Module}}, Orders.addr_cmp}
use Rattle.base_coins.specs.Coins.{Money, IsMoney, coins_added}
use Rattle.base_roles.specs.declared.{entities.{Purse.Purse, Validator.Validator}, facts.Fact.Fact}
use Rattle.base_roles.specs.{Entries.{at, with}, Holdings.{burn_told, transfer_told}, Items.no_purse}
use Rattle.base_roles.specs.{Log.{Log, LogEntry}, Orders.same_addr, World.View}
use Rattle.base_roles.specs.declared.facts.Fact.TheVariants as fact
use Rattle.base_roles.specs.Log as log
use Rattle.rule_modules.specs.{Amounts.is_empty, Distribution.{Shared, ended}}
use Rattle.rule_modules.specs.Periods.{Periods, initial_records, last_ended, periods_of, ratio_at}
use Rattle.rule_modules.specs.Purses.{pooled_told, purse_of}
use Rattle.law_rewards.{specs.Withdrawals.reward_paid, proofs.Claims.periods_with}
use Rattle.law_rewards.proofs.{Entries.{addr_is, put_elsewhere, put_there}, Following.{other_addr, own_addr}}
use Rattle.mod_statement.specs.declared.entry.Entry.TheVariants.{Started, Slashed, Touched}
use Rattle.mod_recorder.specs.{declared.note.Note.Note, Notes.{Noted, counted}}
use Rattle.mod_tracking.specs.declared.tracker.Pair.{Pair}
use Rattle.mod_tracking.specs.Tracking.{Followed, Tracked, fact_followed, is_pair, paid, period_ended}
use Rattle.law_statements.proofs.Deeds.{Meets, meets_both_elsewhere, meets_commission, meets_ended, meets_left, meets_less, meets_log_elsewhere, meets_made, meets_noted_elsewhere, meets_paid, meets_slashed, meets_started, meets_started_by, meets_told, meets_touched, meets_withdrawn_by}
use Rattle.law_statements.proofs.Ties.{EndParts, IsTied, end_parts, next_ratio, tied_ended, tied_elsewhere}

module _ (p : Pair) (v : Option Validator) (t0 : Tracked) (n0 : ℕ) (base : Log) (earlier : List Fact) where
  -- fewer notes, and facts of the block, than are counted
  abbrev pub AreSmall : Noted → List Fact → Type 0
  AreSmall r facts = (length r.notes < 2 ^ 64) × (length (earlier ++ facts) < 2 ^ 64)

  -- Behind the facts of earlier parts of the block, and these: what stands of the pair meets the log, where notes and facts are few.
  pub record Holds (b : ℕ) (r : Noted) (facts : List Fact) (l : Log) : Type 0 where
    pub before : AreSmall r facts → r.before ≡ length earlier
    pub meets : AreSmall r facts → Meets p v t0 n0 base b r.notes (earlier ++ facts) l

  -- shares of the pair's validator may leave once more, where they are about to change
  abbrev pub touch : List ℕ → ℕ
  touch operator = cond (same_addr operator p.operator) 1 0

  -- ---- sizes

  one_told : (facts : List Fact) (f : Fact) → length (earlier ++ (facts ++ f ∷ [])) ≡ length (earlier ++ facts) + 1
  one_told facts f = ap length (sym (append_assoc earlier facts (f ∷ []))) ∙ length-append (earlier ++ facts) (f ∷ [])

  fewer_facts : (r : Noted) (facts : List Fact) (f : Fact) → AreSmall r (facts ++ f ∷ []) → AreSmall r facts
  fewer_facts r facts f s = (s.0, omega (arith, s.1, one_told facts f))

  -- with one more note
  abbrev with_note : Noted → Note → Noted
  with_note r n = record r { notes = r.notes ++ n ∷ [] }

  one_noted : (r : Noted) (n : Note) → length (r.notes ++ n ∷ []) ≡ length r.notes + 1
  one_noted r n = length-append r.notes (n ∷ [])

  fewer_notes : (r : Noted) (n : Note) (facts : List Fact) → AreSmall (with_note r n) facts → AreSmall r facts
  fewer_notes r n facts s = (omega (arith, s.0, one_noted r n), s.1)

  -- behind so many facts a note is made
  pub counted_small : (a b : ℕ) (xs : List Fact) → a ≡ length earlier → length (earlier ++ xs) < 2 ^ 64 → counted a (length xs) ≡ length (earlier ++ xs)
  counted_small a b xs is small = by (length-append earlier xs)
    where
      by : length (earlier ++ xs) ≡ length earlier + length xs → counted a (length xs) ≡ length (earlier ++ xs)
      by all = omega (arith, is, small, all)

  -- ---- facts

  -- a fact that is nothing to the pair
  abbrev pub IsQuiet : Fact → Type 0
  IsQuiet f = (w : Followed) → fact_followed p v f w ≡ w

  -- where it is told, by a log that may then grow
  pub told_with : (b c : ℕ) (r : Noted) (facts : List Fact) (l m : Log) (f : Fact) → ((small : length (earlier ++ facts) < 2 ^ 64) → Meets p v t0 n0 base b r.notes (earlier ++ facts) l → Meets p v t0 n0 base c r.notes ((earlier ++ facts) ++ f ∷ []) m)
      → Holds b r facts l → Holds c r (facts ++ f ∷ []) m
  told_with b c r facts l m f next h = record {
    before = λ s. h.before (fewer_facts r facts f s);
    meets = λ s. subst (λ (fs : List Fact). Meets p v t0 n0 base c r.notes fs m) (append_assoc earlier facts (f ∷ [])) (next (fewer_facts r facts f s).1 (h.meets (fewer_facts r facts f s)));
  }

  pub holds_told : (b : ℕ) (r : Noted) (facts : List Fact) (l : Log) (f : Fact) → IsQuiet f → Holds b r facts l → Holds b r (facts ++ f ∷ []) l
  holds_told b r facts l f quiet = told_with b b r facts l l f (λ small m. meets_told p v t0 n0 base b r.notes (earlier ++ facts) l m f small quiet)

  pub holds_pooled : (b : ℕ) (r : Noted) (facts : List Fact) (l : Log) (coins : Money) → Holds b r facts l → Holds b r (pooled_told coins facts) l
  holds_pooled b r facts l coins h = by (is_empty coins)
    where
      by : (e : Bool) → Holds b r (if e then facts else facts ++ fact.Pooled coins ∷ []) l
      by true = h
      by false = holds_told b r facts l (fact.Pooled coins) (λ w. refl) h

  pub holds_sent : (b : ℕ) (r : Noted) (facts : List Fact) (l : Log) (from to : Holder) (coins : Money) → Holds b r facts l → Holds b r (transfer_told from to coins facts) l
  holds_sent b r facts l from to [] h = h
  holds_sent b r facts l from to (c ∷ cs) h = holds_told b r facts l (fact.Transfer from to (c ∷ cs)) (λ w. refl) h

  pub holds_burnt : (b : ℕ) (r : Noted) (facts : List Fact) (l : Log) (from : Module) (d : List ℕ) (n : ℕ) → Holds b r facts l → Holds b r (burn_told from d n facts) l
  holds_burnt b r facts l from d n h = by (n == 0)
    where
      by : (e : Bool) → Holds b r (if e then facts else facts ++ fact.Burn from (record { denom = d; amount = n }) ∷ []) l
      by true = h
      by false = holds_told b r facts l (fact.Burn from (record { denom = d; amount = n })) (λ w. refl) h

  -- ---- entries of the log

  pub holds_less : (b : ℕ) (r : Noted) (facts : List Fact) (l : Log) → Holds b r facts l → Holds 0 r facts l
  holds_less b r facts l h = record { before = h.before; meets = λ s. meets_less p v t0 n0 base b r.notes (earlier ++ facts) l (h.meets s) }

  pub holds_log_elsewhere : (b : ℕ) (r : Noted) (facts : List Fact) (l : Log) (operator : List ℕ) (e : LogEntry) → same_addr operator p.operator ≡ false → Holds b r facts l → Holds b r facts (l ++ (operator, e) ∷ [])
  holds_log_elsewhere b r facts l operator e apart h =
      record { before = h.before; meets = λ s. meets_log_elsewhere p v t0 n0 base b r.notes (earlier ++ facts) l (h.meets s) operator e apart }

  -- shares leave a validator, of which they were about to change
  pub holds_left : (operator : List ℕ) (r : Noted) (facts : List Fact) (l : Log) → Holds (touch operator) r facts l → Holds 0 r facts (l ++ (operator, log.left) ∷ [])
  holds_left operator r facts l = by (same_addr operator p.operator) refl
    where
      by : (b : Bool) → same_addr operator p.operator ≡ b → Holds (cond b 1 0) r facts l → Holds 0 r facts (l ++ (operator, log.left) ∷ [])
      by true is h =
          subst (λ (o : List ℕ). Holds 0 r facts (l ++ (o, log.left) ∷ [])) (sym (addr_is operator p.operator is))
          (record { before = h.before; meets = λ s. meets_left p v t0 n0 base r.notes (earlier ++ facts) l (h.meets s) })
      by false is h = holds_log_elsewhere 0 r facts l operator log.left is h

  -- commission is paid
  pub holds_commission : (operator : List ℕ) (coins : Money) (r : Noted) (facts : List Fact) (l : Log) → Holds 0 r facts l → Holds 0 r facts (l ++ (operator, log.commission coins) ∷ [])
  holds_commission operator coins r facts l h = by (same_addr operator p.operator) refl
    where
      by : (b : Bool) → same_addr operator p.operator ≡ b → Holds 0 r facts (l ++ (operator, log.commission coins) ∷ [])
      by true is =
          subst (λ (o : List ℕ). Holds 0 r facts (l ++ (o, log.commission coins) ∷ [])) (sym (addr_is operator p.operator is))
          (record { before = h.before; meets = λ s. meets_commission p v t0 n0 base 0 r.notes (earlier ++ facts) l (h.meets s) coins })
      by false is = holds_log_elsewhere 0 r facts l operator (log.commission coins) is h

  -- ---- the end of a period

  -- the records of distribution on which the validator's ratio rests, and the log
  abbrev pub Tied : Shared → Log → Type 0
  Tied d l = IsTied p.operator (periods_of d.rewards p.operator) (purse_of d.purses p.operator).current l

  abbrev pub AreTied : List ℕ → Shared → Log → Type 0
  AreTied operator d l = same_addr operator p.operator ≡ true → Tied d l

  module _ (val : Validator) (d : Shared) (u : View) (z : ℕ × Shared × View × Log) (e : ended val d u ≡ Ok z) (b : ℕ) (r : Noted) (l : Log) where
    parts : EndParts val d u z
    parts = end_parts val d u z e

    abbrev ps : Periods
    ps = periods_of d.rewards val.operator

    abbrev entry : LogEntry
    entry = log.ended (last_ended (periods_with ps parts.ratio)) parts.increment val.tokens

    abbrev told_first : List Fact
    told_first = pooled_told parts.lost u.facts

    abbrev told_end : Fact
    told_end = fact.Period val.operator (last_ended (periods_with ps parts.ratio)) parts.ratio

    -- the facts and the entry that it adds
    facts_are : z.2.facts ≡ told_first ++ told_end ∷ []
    facts_are = sym (ap (λ (x : ℕ × Shared × View × Log). x.2.facts) parts.is)

    log_is : z.3 ≡ (val.operator, entry) ∷ []
    log_is = sym (ap (λ (x : ℕ × Shared × View × Log). x.3) parts.is)

    ended_elsewhere : same_addr val.operator p.operator ≡ false → Holds b r u.facts l → Holds b r (told_first ++ told_end ∷ []) (l ++ (val.operator, entry) ∷ [])
    ended_elsewhere apart h =
        holds_log_elsewhere b r (told_first ++ told_end ∷ []) l val.operator entry apart
        (holds_told b r told_first l told_end
        (λ w. ap (λ (q : Bool). record w { tracked = if q then period_ended parts.ratio w.tracked else w.tracked }) apart)
        (holds_pooled b r u.facts l parts.lost h))

    ended_own : val.operator ≡ p.operator → Tied d l → Holds b r u.facts l → Holds b r (told_first ++ told_end ∷ []) (l ++ (val.operator, entry) ∷ [])
    ended_own is tied h =
        subst (λ (o : List ℕ). Holds b r (told_first ++ fact.Period o (last_ended (periods_with ps parts.ratio)) parts.ratio ∷ []) (l ++ (o, entry) ∷ [])) (sym is)
        (told_with b b r told_first l (l ++ (p.operator, entry) ∷ []) (fact.Period p.operator (last_ended (periods_with ps parts.ratio)) parts.ratio)
        (λ small m. meets_ended p v t0 n0 base b r.notes (earlier ++ told_first) l m small (last_ended (periods_with ps parts.ratio)) parts.ratio parts.increment val.tokens
        (next_ratio p.operator (periods_of d.rewards p.operator) (purse_of d.purses p.operator).current l tied parts.increment parts.ratio
        (parts.money (subst (λ (o : List ℕ). IsMoney (purse_of d.purses o).current) (sym is) tied.money))
        (subst (λ (o : List ℕ). coins_added (ratio_at (periods_of d.rewards o).ratios (last_ended (periods_of d.rewards o))) parts.increment ≡ Ok parts.ratio) is parts.sum)))
        (holds_pooled b r u.facts l parts.lost h))

    pub holds_ended : AreTied val.operator d l → Holds b r u.facts l → Holds b r z.2.facts (l ++ z.3)
    holds_ended tied h =
        subst (λ (fs : List Fact). Holds b r fs (l ++ z.3)) (sym facts_are)
        (subst (λ (m : Log). Holds b r (told_first ++ told_end ∷ []) (l ++ m)) (sym log_is) (by (same_addr val.operator p.operator) refl))
      where
        by : (q : Bool) → same_addr val.operator p.operator ≡ q → Holds b r (told_first ++ told_end ∷ []) (l ++ (val.operator, entry) ∷ [])
        by true is = ended_own (addr_is val.operator p.operator is) (tied is) h
        by false is = ended_elsewhere is h

    -- ---- what the ratio then rests on

    periods_now : z.1.rewards.periods ≡ with addr_cmp d.rewards.periods val.operator (periods_with ps parts.ratio)
    periods_now = sym (ap (λ (x : ℕ × Shared × View × Log). x.1.rewards.periods) parts.is)

    purses_now : z.1.purses.purses ≡ with addr_cmp d.purses.purses val.operator parts.purse
    purses_now = sym (ap (λ (x : ℕ × Shared × View × Log). x.1.purses.purses) parts.is) ∙ parts.purses_are

    own_now : val.operator ≡ p.operator → Tied d l → Tied z.1 (l ++ (val.operator, entry) ∷ [])
    own_now is tied =
        let new : Periods = periods_with (periods_of d.rewards p.operator) parts.ratio in
        let there : at addr_cmp z.1.rewards.periods p.operator ≡ Some (periods_with ps parts.ratio) =
        ap (λ es. at addr_cmp es p.operator) periods_now ∙ ap (λ (o : List ℕ). at addr_cmp (with addr_cmp d.rewards.periods o (periods_with ps parts.ratio)) p.operator) is ∙ put_there p.operator (periods_with ps parts.ratio) d.rewards.periods in
        let purse : at addr_cmp z.1.purses.purses p.operator ≡ Some parts.purse =
        ap (λ es. at addr_cmp es p.operator) purses_now ∙ ap (λ (o : List ℕ). at addr_cmp (with addr_cmp d.purses.purses o parts.purse) p.operator) is ∙ put_there p.operator parts.purse d.purses.purses in
        let tie : IsTied p.operator new [] (l ++ (p.operator, log.ended (last_ended new) parts.increment val.tokens) ∷ []) =
        tied_ended p.operator (periods_of d.rewards p.operator) (purse_of d.purses p.operator).current l tied parts.increment parts.ratio
        (parts.money (subst (λ (o : List ℕ). IsMoney (purse_of d.purses o).current) (sym is) tied.money))
        (subst (λ (o : List ℕ). coins_added (ratio_at (periods_of d.rewards o).ratios (last_ended (periods_of d.rewards o))) parts.increment ≡ Ok parts.ratio) is parts.sum) val.tokens in
        let here : IsTied p.operator (periods_with ps parts.ratio) parts.purse.current (l ++ (val.operator, entry) ∷ []) =
        subst (λ (c : Money). IsTied p.operator (periods_with ps parts.ratio) c (l ++ (val.operator, entry) ∷ [])) (sym parts.emptied)
        (subst (λ (o : List ℕ). IsTied p.operator (periods_with (periods_of d.rewards o) parts.ratio) [] (l ++ (o, log.ended (last_ended (periods_with (periods_of d.rewards o) parts.ratio)) parts.increment val.tokens) ∷ [])) (sym is) tie) in
        subst (λ (q : Option Periods). IsTied p.operator (unwrap_or q initial_records) (purse_of z.1.purses p.operator).current (l ++ (val.operator, entry) ∷ [])) (sym there)
        (subst (λ (q : Option Purse). IsTied p.operator (periods_with ps parts.ratio) (unwrap_or q no_purse).current (l ++ (val.operator, entry) ∷ [])) (sym purse) here)

    elsewhere_now : same_addr p.operator val.operator ≡ false → same_addr val.operator p.operator ≡ false → Tied d l → Tied z.1 (l ++ (val.operator, entry) ∷ [])
    elsewhere_now apart apart' tied =
        let there : at addr_cmp z.1.rewards.periods p.operator ≡ at addr_cmp d.rewards.periods p.operator =
        ap (λ es. at addr_cmp es p.operator) periods_now ∙ put_elsewhere val.operator p.operator (periods_with ps parts.ratio) d.rewards.periods apart in
        let purse : at addr_cmp z.1.purses.purses p.operator ≡ at addr_cmp d.purses.purses p.operator =
        ap (λ es. at addr_cmp es p.operator) purses_now ∙ put_elsewhere val.operator p.operator parts.purse d.purses.purses apart in
        subst (λ (q : Option Periods). IsTied p.operator (unwrap_or q initial_records) (purse_of z.1.purses p.operator).current (l ++ (val.operator, entry) ∷ [])) (sym there)
        (subst (λ (q : Option Purse). IsTied p.operator (periods_of d.rewards p.operator) (unwrap_or q no_purse).current (l ++ (val.operator, entry) ∷ [])) (sym purse)
        (tied_elsewhere p.operator l val.operator entry (periods_of d.rewards p.operator) (purse_of d.purses p.operator).current apart' tied))

    pub ended_tied : Tied d l → Tied z.1 (l ++ z.3)
    ended_tied tied = subst (λ (m : Log). Tied z.1 (l ++ m)) (sym log_is) (by (same_addr val.operator p.operator) refl)
      where
        never : true ≡ false → ⊥
        never h = cc

        other : same_addr val.operator p.operator ≡ false → val.operator ≡ p.operator → ⊥
        other is same = never (sym (ap (λ (o : List ℕ). same_addr o p.operator) same ∙ own_addr p.operator) ∙ is)

        by : (q : Bool) → same_addr val.operator p.operator ≡ q → Tied z.1 (l ++ (val.operator, entry) ∷ [])
        by true is = own_now (addr_is val.operator p.operator is) tied
        by false is = elsewhere_now (other_addr p.operator val.operator (λ same. other is (sym same))) is tied

  -- ---- notes

  module _ (b : ℕ) (r : Noted) (facts : List Fact) (l : Log) (h : Holds b r facts l) where
    -- a note that is made behind these facts
    noted_with : (c : ℕ) (m : Log) (note : ℕ → Note) → ((n : Note) (place : n.facts ≡ length (earlier ++ facts)) (is : n ≡ note (length (earlier ++ facts))) (small : length (earlier ++ facts) < 2 ^ 64) (fewer : length r.notes + 1 < 2 ^ 64)
        → Meets p v t0 n0 base b r.notes (earlier ++ facts) l → Meets p v t0 n0 base c (r.notes ++ n ∷ []) (earlier ++ facts) m)
        → ((k : ℕ) → (note k).facts ≡ k) → Holds c (with_note r (note (counted r.before (length facts)))) facts m
    noted_with c m note next at_place =
        let n : Note = note (counted r.before (length facts)) in
        record {
          before = λ s. h.before (fewer_notes r n facts s);
          meets = λ s. (
              let t : AreSmall r facts = fewer_notes r n facts s in
              let same : counted r.before (length facts) ≡ length (earlier ++ facts) = counted_small r.before 0 facts (h.before t) t.1 in
              next n (at_place (counted r.before (length facts)) ∙ same) (ap note same) t.1 (omega (arith, s.0, one_noted r n)) (h.meets t));
        }

    -- shares of a validator are about to change
    pub holds_touched : (operator who : List ℕ) → b ≡ 0
        → Holds (touch operator) (with_note r (record { operator = operator; delegator = Some who; facts = counted r.before (length facts); entry = Some Touched })) facts l
    holds_touched operator who none = by (same_addr operator p.operator) refl
      where
        note : List ℕ → ℕ → Note
        note o k = record { operator = o; delegator = Some who; facts = k; entry = Some Touched }

        by : (q : Bool) → same_addr operator p.operator ≡ q → Holds (cond q 1 0) (with_note r (note operator (counted r.before (length facts)))) facts l
        by true is =
            subst (λ (o : List ℕ). Holds 1 (with_note r (note o (counted r.before (length facts)))) facts l) (sym (addr_is operator p.operator is))
            (noted_with 1 l (note p.operator) (λ n place same small fewer m.
            subst (λ (x : Note). Meets p v t0 n0 base 1 (r.notes ++ x ∷ []) (earlier ++ facts) l) (sym same) (meets_touched p v t0 n0 base b r.notes (earlier ++ facts) l m small (Some who) fewer)) (λ k. refl))
        by false is =
            noted_with 0 l (note operator) (λ n place same small fewer m.
            subst (λ (c : ℕ). Meets p v t0 n0 base c (r.notes ++ n ∷ []) (earlier ++ facts) l) none
            (meets_noted_elsewhere p v t0 n0 base b r.notes (earlier ++ facts) l m n place small (ap (λ (x : Note). same_addr x.operator p.operator) same ∙ is))) (λ k. refl)

    -- tokens of a validator are slashed, as it is logged
    pub holds_slashed : (operator : List ℕ) (burn tokens fraction : ℕ)
        → Holds b (with_note r (record { operator = operator; delegator = None; facts = counted r.before (length facts); entry = Some (Slashed burn tokens) })) facts (l ++ (operator, log.slashed burn tokens fraction) ∷ [])
    holds_slashed operator burn tokens fraction = by (same_addr operator p.operator) refl
      where
        e : LogEntry
        e = log.slashed burn tokens fraction

        note : List ℕ → ℕ → Note
        note o k = record { operator = o; delegator = None; facts = k; entry = Some (Slashed burn tokens) }

        by : (q : Bool) → same_addr operator p.operator ≡ q → Holds b (with_note r (note operator (counted r.before (length facts)))) facts (l ++ (operator, e) ∷ [])
        by true is =
            subst (λ (o : List ℕ). Holds b (with_note r (note o (counted r.before (length facts)))) facts (l ++ (o, e) ∷ [])) (sym (addr_is operator p.operator is))
            (noted_with b (l ++ (p.operator, e) ∷ []) (note p.operator) (λ n place same small fewer m.
            subst (λ (x : Note). Meets p v t0 n0 base b (r.notes ++ x ∷ []) (earlier ++ facts) (l ++ (p.operator, e) ∷ [])) (sym same) (meets_slashed p v t0 n0 base b r.notes (earlier ++ facts) l m small burn tokens fraction)) (λ k. refl))
        by false is =
            noted_with b (l ++ (operator, e) ∷ []) (note operator) (λ n place same small fewer m.
            subst (λ (o : List ℕ). Meets p v t0 n0 base b (r.notes ++ n ∷ []) (earlier ++ facts) (l ++ (o, e) ∷ [])) (ap (λ (x : Note). x.operator) same)
            (meets_both_elsewhere p v t0 n0 base b r.notes (earlier ++ facts) l m n place small e (ap (λ (x : Note). same_addr x.operator p.operator) same ∙ is))) (λ k. refl)

    -- rewards of a delegation begin, as it is logged
    pub holds_begun : (operator who : List ℕ) (shares tokens total stake : ℕ) → b ≤ 1
        → Holds b (with_note r (record { operator = operator; delegator = Some who; facts = counted r.before (length facts); entry = Some (Started shares tokens total) })) facts (l ++ (operator, log.started who shares tokens total stake) ∷ [])
    holds_begun operator who shares tokens total stake once = by (same_addr operator p.operator) refl
      where
        e : List ℕ → LogEntry
        e w = log.started w shares tokens total stake

        note : List ℕ → List ℕ → ℕ → Note
        note o w k = record { operator = o; delegator = Some w; facts = k; entry = Some (Started shares tokens total) }

        own : (q : Bool) → same_addr who p.delegator ≡ q → Holds b (with_note r (note p.operator who (counted r.before (length facts)))) facts (l ++ (p.operator, e who) ∷ [])
        own true is =
            subst (λ (w : List ℕ). Holds b (with_note r (note p.operator w (counted r.before (length facts)))) facts (l ++ (p.operator, e w) ∷ [])) (sym (addr_is who p.delegator is))
            (noted_with b (l ++ (p.operator, e p.delegator) ∷ []) (note p.operator p.delegator) (λ n place same small fewer m.
            subst (λ (x : Note). Meets p v t0 n0 base b (r.notes ++ x ∷ []) (earlier ++ facts) (l ++ (p.operator, e p.delegator) ∷ [])) (sym same)
            (meets_started p v t0 n0 base b r.notes (earlier ++ facts) l m small shares tokens total stake once)) (λ k. refl))
        own false is =
            noted_with b (l ++ (p.operator, e who) ∷ []) (note p.operator who) (λ n place same small fewer m.
            subst (λ (x : Note). Meets p v t0 n0 base b (r.notes ++ x ∷ []) (earlier ++ facts) (l ++ (p.operator, e who) ∷ [])) (sym same)
            (meets_started_by p v t0 n0 base b r.notes (earlier ++ facts) l m small who shares tokens total stake is)) (λ k. refl)

        by : (q : Bool) → same_addr operator p.operator ≡ q → Holds b (with_note r (note operator who (counted r.before (length facts)))) facts (l ++ (operator, e who) ∷ [])
        by true is =
            subst (λ (o : List ℕ). Holds b (with_note r (note o who (counted r.before (length facts)))) facts (l ++ (o, e who) ∷ [])) (sym (addr_is operator p.operator is)) (own (same_addr who p.delegator) refl)
        by false is =
            noted_with b (l ++ (operator, e who) ∷ []) (note operator who) (λ n place same small fewer m.
            subst (λ (o : List ℕ). Meets p v t0 n0 base b (r.notes ++ n ∷ []) (earlier ++ facts) (l ++ (o, e who) ∷ [])) (ap (λ (x : Note). x.operator) same)
            (meets_both_elsewhere p v t0 n0 base b r.notes (earlier ++ facts) l m n place small (e who) (ap (λ (x : Note). same_addr x.operator p.operator) same ∙ is))) (λ k. refl)

    -- a validator is made, as it is logged
    pub holds_made : (operator : List ℕ) → b ≡ 0
        → Holds 0 (with_note r (record { operator = operator; delegator = None; facts = counted r.before (length facts); entry = None })) facts (l ++ (operator, log.made) ∷ [])
    holds_made operator none = by (same_addr operator p.operator) refl
      where
        note : List ℕ → ℕ → Note
        note o k = record { operator = o; delegator = None; facts = k; entry = None }

        by : (q : Bool) → same_addr operator p.operator ≡ q → Holds 0 (with_note r (note operator (counted r.before (length facts)))) facts (l ++ (operator, log.made) ∷ [])
        by true is =
            subst (λ (o : List ℕ). Holds 0 (with_note r (note o (counted r.before (length facts)))) facts (l ++ (o, log.made) ∷ [])) (sym (addr_is operator p.operator is))
            (noted_with 0 (l ++ (p.operator, log.made) ∷ []) (note p.operator) (λ n place same small fewer m.
            subst (λ (x : Note). Meets p v t0 n0 base 0 (r.notes ++ x ∷ []) (earlier ++ facts) (l ++ (p.operator, log.made) ∷ [])) (sym same) (meets_made p v t0 n0 base b r.notes (earlier ++ facts) l m small)) (λ k. refl))
        by false is =
            noted_with 0 (l ++ (operator, log.made) ∷ []) (note operator) (λ n place same small fewer m.
            subst (λ (c : ℕ). Meets p v t0 n0 base c (r.notes ++ n ∷ []) (earlier ++ facts) (l ++ (operator, log.made) ∷ [])) none
            (subst (λ (o : List ℕ). Meets p v t0 n0 base b (r.notes ++ n ∷ []) (earlier ++ facts) (l ++ (o, log.made) ∷ [])) (ap (λ (x : Note). x.operator) same)
            (meets_both_elsewhere p v t0 n0 base b r.notes (earlier ++ facts) l m n place small log.made (ap (λ (x : Note). same_addr x.operator p.operator) same ∙ is)))) (λ k. refl)

  -- ---- a withdrawal

  -- a payment, as it is logged
  module _ (b : ℕ) (r : Noted) (facts : List Fact) (l : Log) (h : Holds b r facts l) (operator who to : List ℕ) (full outstanding coins : Money) where
    abbrev withdrawn : LogEntry
    withdrawn = log.withdrawn who to full outstanding

    abbrev payment : Fact
    payment = fact.Paid who operator to (reward_paid full outstanding) coins

    -- of another pair
    other_paid : is_pair p who operator ≡ false → Holds b r facts (l ++ (operator, withdrawn) ∷ []) → Holds b r (facts ++ payment ∷ []) (l ++ (operator, withdrawn) ∷ [])
    other_paid apart = holds_told b r facts (l ++ (operator, withdrawn) ∷ []) payment (λ w. ap (λ (q : Bool). if q then paid (reward_paid full outstanding) w else w) apart)

    pub holds_paid : Holds b r (facts ++ payment ∷ []) (l ++ (operator, withdrawn) ∷ [])
    holds_paid = by (same_addr operator p.operator) refl
      where
        -- of the pair's validator
        own : (q : Bool) → same_addr who p.delegator ≡ q → operator ≡ p.operator → Holds b r (facts ++ payment ∷ []) (l ++ (operator, withdrawn) ∷ [])
        own true is same =
            subst (λ (o : List ℕ). Holds b r (facts ++ fact.Paid who o to (reward_paid full outstanding) coins ∷ []) (l ++ (o, withdrawn) ∷ [])) (sym same)
            (subst (λ (w : List ℕ). Holds b r (facts ++ fact.Paid w p.operator to (reward_paid full outstanding) coins ∷ []) (l ++ (p.operator, log.withdrawn w to full outstanding) ∷ [])) (sym (addr_is who p.delegator is))
            (told_with b b r facts l (l ++ (p.operator, log.withdrawn p.delegator to full outstanding) ∷ []) (fact.Paid p.delegator p.operator to (reward_paid full outstanding) coins)
            (λ small m. meets_paid p v t0 n0 base b r.notes (earlier ++ facts) l m small to full outstanding coins) h))
        own false is same =
            other_paid (ap (λ (q : Bool). q && same_addr operator p.operator) is)
            (subst (λ (o : List ℕ). Holds b r facts (l ++ (o, withdrawn) ∷ [])) (sym same)
            (record { before = h.before; meets = λ s. meets_withdrawn_by p v t0 n0 base b r.notes (earlier ++ facts) l (h.meets s) who to full outstanding is }))

        no_pair : (x y : Bool) → y ≡ false → x && y ≡ false
        no_pair true y e = e
        no_pair false y e = refl

        by : (q : Bool) → same_addr operator p.operator ≡ q → Holds b r (facts ++ payment ∷ []) (l ++ (operator, withdrawn) ∷ [])
        by true is = own (same_addr who p.delegator) refl (addr_is operator p.operator is)
        by false is =
            other_paid (no_pair (same_addr who p.delegator) (same_addr operator p.operator) is) (holds_log_elsewhere b r facts l operator withdrawn is h)
