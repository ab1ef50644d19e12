-- What is followed of a pair meets what its validator's log has, whatever comes next of the two.
use Rattle.std.proofs.Common.{◌≡◌, ◌∙◌, ℕ, ◌+◌, ◌*◌, ◌≤◌, Bool, true, false, List, [], ◌∷◌, ◌++◌, append-nil, refl, sym, ap, subst, arith, Option, Some, None, All, cond, count_by, map, if◌then◌else◌}
use Rattle.std.proofs.lemmas.List.{Elements.{All-nil, All-cons, All-head, All-tail}, Sums.sum_by-cons}
use Rattle.base_coins.specs.Coins.{Money, amount_of}
use Rattle.base_shares.specs.Burns.{ratio_of}
use Rattle.base_roles.specs.{Log.{Log, LogEntry}, Orders.same_addr}
use Rattle.base_roles.specs.Log as log
use Rattle.rule_modules.specs.Amounts.{count_where}
use Rattle.rule_modules.specs.Ideal.{Span, behind, history_of, is_left, longer, span_of, span_with}
use Rattle.law_rewards.{specs.Withdrawals.{raised_in, risen}, proofs.Entries.{history_behind, history_elsewhere}}
use Rattle.law_rewards.proofs.Following.{now_is, own_addr}
use Rattle.mod_statement.specs.declared.entry.Entry.{Entry, TheVariants.{Started, Allocated, Ended, Slashed, Touched}}
use Rattle.mod_statement.specs.Entries.{HasMoney, is_touch}
use Rattle.mod_tracking.specs.{declared.tracker.Pair.Pair, Tracking.{Tracked, behind_start, untracked}}
use Rattle.law_statements.specs.Resting.{IsSpanOf, RestsOnLog, entries_in, untouched}

-- ---- lists with one more

untouched_more : (es : List Entry) (e : Entry) → untouched (es ++ e ∷ []) ≡ untouched es ++ untouched (e ∷ [])
untouched_more [] e = refl
untouched_more (Touched ∷ es) e = untouched_more es e
untouched_more (Started shares tokens total ∷ es) e = ap (λ l. Started shares tokens total ∷ l) (untouched_more es e)
untouched_more (Allocated coins tokens ∷ es) e = ap (λ l. Allocated coins tokens ∷ l) (untouched_more es e)
untouched_more (Ended ∷ es) e = ap (λ l. Ended ∷ l) (untouched_more es e)
untouched_more (Slashed burned tokens ∷ es) e = ap (λ l. Slashed burned tokens ∷ l) (untouched_more es e)

in_more : (ls : List LogEntry) (e : LogEntry) → entries_in (ls ++ e ∷ []) ≡ entries_in ls ++ entries_in (e ∷ [])
in_more [] e = refl
in_more (log.allocated share rest tokens ∷ ls) e = ap (λ l. Allocated rest tokens ∷ l) (in_more ls e)
in_more (log.ended period increment tokens ∷ ls) e = ap (λ l. Ended ∷ l) (in_more ls e)
in_more (log.slashed burn tokens fraction ∷ ls) e = ap (λ l. Slashed burn tokens ∷ l) (in_more ls e)
in_more (log.left ∷ ls) e = in_more ls e
in_more (log.made ∷ ls) e = in_more ls e
in_more (log.started who shares tokens all stake ∷ ls) e = in_more ls e
in_more (log.withdrawn who payee full outstanding ∷ ls) e = in_more ls e
in_more (log.commission coins ∷ ls) e = in_more ls e

from_none : (n : ℕ) → n ≡ 0 + n
from_none n = omega arith

left_more : (ls : List LogEntry) (e : LogEntry) → count_where is_left (ls ++ e ∷ []) ≡ count_where is_left ls + count_where is_left (e ∷ [])
left_more [] e = from_none (count_where is_left (e ∷ []))
left_more (x ∷ ls) e = let rest = left_more ls e in omega (arith, rest)

pub raised_more : (d : List ℕ) (ls : List LogEntry) (e : LogEntry) → raised_in d (ls ++ e ∷ []) ≡ raised_in d ls + risen d e
raised_more d [] e = sum_by-cons (λ n. n) (risen d e) [] ∙ none (risen d e)
  where
    none : (n : ℕ) → n + 0 ≡ 0 + n
    none n = omega arith
raised_more d (x ∷ ls) e =
    let one = sum_by-cons (λ n. n) (risen d x) (map (risen d) (ls ++ e ∷ [])) in
    let two = sum_by-cons (λ n. n) (risen d x) (map (risen d) ls) in
    let rest = raised_more d ls e in
    omega (arith, one, two, rest)

touches_more : (es : List Entry) (e : Entry) → count_by is_touch (es ++ e ∷ []) ≡ count_by is_touch es + count_by is_touch (e ∷ [])
touches_more [] e = from_none (count_by is_touch (e ∷ []))
touches_more (x ∷ es) e =
    let one = sum_by-cons (λ (y : Entry). cond (is_touch y) 1 0) x (es ++ e ∷ []) in
    let two = sum_by-cons (λ (y : Entry). cond (is_touch y) 1 0) x es in
    let rest = touches_more es e in
    omega (arith, one, two, rest)

money_more : (es : List Entry) (e : Entry) → All HasMoney es → HasMoney e → All HasMoney (es ++ e ∷ [])
money_more [] e h m = All-cons HasMoney e [] m (All-nil HasMoney)
money_more (x ∷ es) e h m = All-cons HasMoney x (es ++ e ∷ []) (All-head HasMoney x es h) (money_more es e (All-tail HasMoney x es h) m)

-- ---- a span and its entries

-- What stands where shares may leave so often without being about to change once more.
abbrev pub Spanned : ℕ → Option Span → List Entry → Type 0
Spanned b None es = es ≡ []
Spanned b (Some s) es = IsSpanOf s es × (count_where is_left s.entries + b ≤ count_by is_touch es + 1)

-- what stands of a pair meets a log
pub record Stands (b : ℕ) (p : Pair) (l : Log) (t : Tracked) : Type 0 where
  pub spanned : Spanned b (span_of p.delegator (history_of p.operator l []) None) t.entries
  pub removals : count_where is_left (history_of p.operator l []) + b ≤ t.removals
  pub ratio : (d : List ℕ) → amount_of t.ratio d ≡ raised_in d (history_of p.operator l [])

-- where rewards run, it rests on the log
pub rests : (b : ℕ) (p : Pair) (l : Log) (t : Tracked) (s : Span) → span_of p.delegator (history_of p.operator l []) None ≡ Some s → Stands b p l t → RestsOnLog p l t
rests b p l t s is h =
    let own : IsSpanOf s t.entries × (count_where is_left s.entries + b ≤ count_by is_touch t.entries + 1) = subst (λ (o : Option Span). Spanned b o t.entries) is h.spanned in
    record {
      span = s;
      span_is = is;
      entries = own.0;
      removals = omega (arith, h.removals);
      ratio = h.ratio;
    }

-- An entry of the log and one of a statement are of one kind: the same is told of both.
pub record AreOfOneKind (e : LogEntry) (x : Entry) : Type 0 where
  pub stays : (es : List LogEntry) → behind es e ≡ es ++ e ∷ []
  pub same : untouched (x ∷ []) ≡ entries_in (e ∷ [])
  pub spans : (who : List ℕ) (s : Option Span) → span_with who e s ≡ longer e s
  pub counts : count_where is_left (e ∷ []) ≡ 0
  pub untouched_is : count_by is_touch (x ∷ []) ≡ 0
  pub money : HasMoney x

-- both come
spanned_more : (b : ℕ) (o : Option Span) (es : List Entry) (e : LogEntry) (x : Entry) → AreOfOneKind e x → Spanned b o es → Spanned b (longer e o) (behind_start x es)
spanned_more b None es e x k h = ap (behind_start x) h
spanned_more b (Some s) es e x k h =
    let i : IsSpanOf s es = h.0 in
    let new : List Entry = Started i.shares i.tokens i.total ∷ i.rest ++ x ∷ [] in
    let is : behind_start x es ≡ new = ap (behind_start x) i.is in
    let old : count_by is_touch es ≡ count_by is_touch (Started i.shares i.tokens i.total ∷ i.rest) = ap (count_by is_touch) i.is in
    let touches : count_by is_touch (behind_start x es) ≡ count_by is_touch es =
    ap (count_by is_touch) is ∙ touches_more (Started i.shares i.tokens i.total ∷ i.rest) x ∙ ap (λ n. count_by is_touch (Started i.shares i.tokens i.total ∷ i.rest) + n) k.untouched_is ∙ no_more (count_by is_touch (Started i.shares i.tokens i.total ∷ i.rest)) ∙ sym old in
    let leaves : count_where is_left (s.entries ++ e ∷ []) ≡ count_where is_left s.entries = left_more s.entries e ∙ ap (λ n. count_where is_left s.entries + n) k.counts ∙ no_more (count_where is_left s.entries) in (
      record {
        shares = i.shares;
        tokens = i.tokens;
        total = i.total;
        rest = i.rest ++ x ∷ [];
        is = is;
        first = i.first;
        same = untouched_more i.rest x ∙ ap (λ l. l ++ untouched (x ∷ [])) i.same ∙ ap (λ l. entries_in s.entries ++ l) k.same ∙ sym (in_more s.entries e);
        few = few_now (count_where is_left (s.entries ++ e ∷ [])) (count_where is_left s.entries) (count_by is_touch (behind_start x es)) (count_by is_touch es) leaves touches i.few;
        money = subst (All HasMoney) (sym is) (money_more (Started i.shares i.tokens i.total ∷ i.rest) x (subst (All HasMoney) i.is i.money) k.money);
      },
      few_same (count_where is_left (s.entries ++ e ∷ [])) (count_where is_left s.entries) (count_by is_touch (behind_start x es)) (count_by is_touch es) b leaves touches h.1,
    )
  where
    no_more : (n : ℕ) → n + 0 ≡ n
    no_more n = omega arith

    few_now : (a a' c c' : ℕ) → a ≡ a' → c ≡ c' → a' ≤ c' + 1 → a ≤ c + 1
    few_now a a' c c' h k m = omega arith

    few_same : (a a' c c' n : ℕ) → a ≡ a' → c ≡ c' → a' + n ≤ c' + 1 → a + n ≤ c + 1
    few_same a a' c c' n h k m = omega arith

-- ---- the log and what stands of a pair, one entry after another

module _ (p : Pair) (l : Log) where
  abbrev history : List LogEntry
  history = history_of p.operator l []

  abbrev span : Option Span
  span = span_of p.delegator history None

  module _ (e : LogEntry) (stays : (es : List LogEntry) → behind es e ≡ es ++ e ∷ []) where
    -- the history and the span with one more entry
    history_is : history_of p.operator (l ++ (p.operator, e) ∷ []) [] ≡ history ++ e ∷ []
    history_is = history_behind p.operator l e [] ∙ stays history

    span_is : span_of p.delegator (history_of p.operator (l ++ (p.operator, e) ∷ []) []) None ≡ span_with p.delegator e span
    span_is = ap (λ (h : List LogEntry). span_of p.delegator h None) history_is ∙ now_is p.delegator history e span refl

    left_is : count_where is_left (history_of p.operator (l ++ (p.operator, e) ∷ []) []) ≡ count_where is_left history + count_where is_left (e ∷ [])
    left_is = ap (count_where is_left) history_is ∙ left_more history e

    raised_is : (d : List ℕ) → raised_in d (history_of p.operator (l ++ (p.operator, e) ∷ []) []) ≡ raised_in d history + risen d e
    raised_is d = ap (raised_in d) history_is ∙ raised_more d history e

  -- an entry of the log and one of a statement, of one kind, with the ratio of then
  pub stands_more : (b : ℕ) (t : Tracked) (e : LogEntry) (x : Entry) (ratio : Money) → AreOfOneKind e x → ((d : List ℕ) → amount_of ratio d ≡ raised_in d history + risen d e)
      → Stands b p l t → Stands b p (l ++ (p.operator, e) ∷ []) (record t { entries = behind_start x t.entries; ratio = ratio })
  stands_more b t e x ratio k ratio_is h = record {
    spanned = subst (λ (o : Option Span). Spanned b o (behind_start x t.entries)) (sym (span_is e k.stays ∙ k.spans p.delegator span)) (spanned_more b span t.entries e x k h.spanned);
    removals = lost (count_where is_left history) (count_where is_left (e ∷ [])) (count_where is_left (history_of p.operator (l ++ (p.operator, e) ∷ []) [])) (left_is e k.stays) k.counts h.removals;
    ratio = λ d. ratio_is d ∙ sym (raised_is e k.stays d);
  }
    where
      lost : (a c n : ℕ) → n ≡ a + c → c ≡ 0 → a + b ≤ t.removals → n + b ≤ t.removals
      lost a c n h k m = omega arith

  -- An entry of the log that no span has, and that neither raises the ratio nor tells that shares left.
  record IsBeside (e : LogEntry) : Type 0 where
    stays : (es : List LogEntry) → behind es e ≡ es ++ e ∷ []
    counts : count_where is_left (e ∷ []) ≡ 0
    rises : (d : List ℕ) → risen d e ≡ 0

  stands_with : (b : ℕ) (t t2 : Tracked) (e : LogEntry) → IsBeside e → Spanned b (span_with p.delegator e span) t2.entries → t2.removals ≡ t.removals → t2.ratio ≡ t.ratio
      → Stands b p l t → Stands b p (l ++ (p.operator, e) ∷ []) t2
  stands_with b t t2 e k spanned removals ratio h = record {
    spanned = subst (λ (o : Option Span). Spanned b o t2.entries) (sym (span_is e k.stays)) spanned;
    removals = lost (count_where is_left history) (count_where is_left (e ∷ [])) (count_where is_left (history_of p.operator (l ++ (p.operator, e) ∷ []) [])) t2.removals t.removals (left_is e k.stays) k.counts removals h.removals;
    ratio = λ d. ap (λ (m : Money). amount_of m d) ratio ∙ h.ratio d ∙ none_more (raised_in d history) (risen d e) (k.rises d) ∙ sym (raised_is e k.stays d);
  }
    where
      lost : (a c n r r' : ℕ) → n ≡ a + c → c ≡ 0 → r ≡ r' → a + b ≤ r' → n + b ≤ r
      lost a c n r r' h k m q = omega arith

      none_more : (a c : ℕ) → c ≡ 0 → a ≡ a + c
      none_more a c h = omega arith

  -- a withdrawal of the delegator's, which ends its span
  pub stands_withdrawn : (b : ℕ) (t : Tracked) (to : List ℕ) (full outstanding : Money) → Stands b p l t
      → Stands b p (l ++ (p.operator, log.withdrawn p.delegator to full outstanding) ∷ []) (record t { entries = [] })
  stands_withdrawn b t to full outstanding h =
      stands_with b t (record t { entries = [] }) (log.withdrawn p.delegator to full outstanding) (record { stays = λ es. refl; counts = refl; rises = λ d. refl })
      (subst (λ (o : Option Span). Spanned b o []) (sym (ended_own (own_addr p.delegator))) refl) refl refl h
    where
      ended_own : same_addr p.delegator p.delegator ≡ true → span_with p.delegator (log.withdrawn p.delegator to full outstanding) span ≡ None
      ended_own own = ap (λ (q : Bool). if q then None else span) own

  -- one of another's
  pub stands_withdrawn_by : (b : ℕ) (t : Tracked) (who to : List ℕ) (full outstanding : Money) → same_addr who p.delegator ≡ false → Stands b p l t
      → Stands b p (l ++ (p.operator, log.withdrawn who to full outstanding) ∷ []) t
  stands_withdrawn_by b t who to full outstanding other h =
      stands_with b t t (log.withdrawn who to full outstanding) (record { stays = λ es. refl; counts = refl; rises = λ d. refl })
      (subst (λ (o : Option Span). Spanned b o t.entries) (sym (ap (λ (q : Bool). if q then None else span) other)) h.spanned) refl refl h

  pub stands_commission : (b : ℕ) (t : Tracked) (coins : Money) → Stands b p l t → Stands b p (l ++ (p.operator, log.commission coins) ∷ []) t
  stands_commission b t coins h = stands_with b t t (log.commission coins) (record { stays = λ es. refl; counts = refl; rises = λ d. refl }) h.spanned refl refl h

  -- a start of the delegator's, which begins a span anew
  pub stands_started : (b : ℕ) (t : Tracked) (shares tokens total stake : ℕ) → b ≤ 1 → Stands b p l t
      → Stands b p (l ++ (p.operator, log.started p.delegator shares tokens total stake) ∷ []) (record t { entries = Started shares tokens total ∷ [] })
  stands_started b t shares tokens total stake few h =
      let s : Span = record { first = ratio_of (shares * tokens) total; entries = [] } in
      let new : IsSpanOf s (Started shares tokens total ∷ []) = record {
        shares = shares;
        tokens = tokens;
        total = total;
        rest = [];
        is = refl;
        first = refl;
        same = refl;
        few = omega arith;
        money = All-cons HasMoney (Started shares tokens total) [] tt (All-nil HasMoney);
      } in
      stands_with b t (record t { entries = Started shares tokens total ∷ [] }) (log.started p.delegator shares tokens total stake) (record { stays = λ es. refl; counts = refl; rises = λ d. refl })
      (subst (λ (o : Option Span). Spanned b o (Started shares tokens total ∷ [])) (sym (ap (λ (q : Bool). if q then Some s else span) (own_addr p.delegator))) (new, omega (arith, few))) refl refl h

  pub stands_started_by : (b : ℕ) (t : Tracked) (who : List ℕ) (shares tokens total stake : ℕ) → same_addr who p.delegator ≡ false → Stands b p l t
      → Stands b p (l ++ (p.operator, log.started who shares tokens total stake) ∷ []) t
  stands_started_by b t who shares tokens total stake other h =
      stands_with b t t (log.started who shares tokens total stake) (record { stays = λ es. refl; counts = refl; rises = λ d. refl })
      (subst (λ (o : Option Span). Spanned b o t.entries) (sym (ap (λ (q : Bool). if q then Some (record { first = ratio_of (shares * tokens) total; entries = [] }) else span) other)) h.spanned) refl refl h

  -- shares that left
  pub stands_left : (t : Tracked) → Stands 1 p l t → Stands 0 p (l ++ (p.operator, log.left) ∷ []) t
  stands_left t h = record {
    spanned = subst (λ (o : Option Span). Spanned 0 o t.entries) (sym (span_is log.left (λ es. refl))) (spanned_left span h.spanned);
    removals = lost (count_where is_left history) (count_where is_left (history_of p.operator (l ++ (p.operator, log.left) ∷ []) [])) (left_is log.left (λ es. refl)) h.removals;
    ratio = λ d. h.ratio d ∙ none_more (raised_in d history) ∙ sym (raised_is log.left (λ es. refl) d);
  }
    where
      lost : (a n : ℕ) → n ≡ a + 1 → a + 1 ≤ t.removals → n + 0 ≤ t.removals
      lost a n h m = omega arith

      none_more : (a : ℕ) → a ≡ a + 0
      none_more a = omega arith

      fewer : (a n c : ℕ) → n ≡ a + 1 → a + 1 ≤ c + 1 → n + 0 ≤ c + 1
      fewer a n c h m = omega arith

      fewer_now : (a n c : ℕ) → n ≡ a + 1 → a + 1 ≤ c + 1 → n ≤ c + 1
      fewer_now a n c h m = omega arith

      nothing_in : (ls : List LogEntry) → entries_in (ls ++ log.left ∷ []) ≡ entries_in ls
      nothing_in ls = in_more ls log.left ∙ append-nil (entries_in ls)

      spanned_left : (o : Option Span) → Spanned 1 o t.entries → Spanned 0 (span_with p.delegator log.left o) t.entries
      spanned_left None h = h
      spanned_left (Some s) h =
          let i : IsSpanOf s t.entries = h.0 in
          let n : count_where is_left (s.entries ++ log.left ∷ []) ≡ count_where is_left s.entries + 1 = left_more s.entries log.left in (
            record {
              shares = i.shares;
              tokens = i.tokens;
              total = i.total;
              rest = i.rest;
              is = i.is;
              first = i.first;
              same = i.same ∙ sym (nothing_in s.entries);
              few = fewer_now (count_where is_left s.entries) (count_where is_left (s.entries ++ log.left ∷ [])) (count_by is_touch t.entries) n h.1;
              money = i.money;
            },
            fewer (count_where is_left s.entries) (count_where is_left (s.entries ++ log.left ∷ [])) (count_by is_touch t.entries) n h.1,
          )

  -- entries of another validator
  pub stands_elsewhere : (b : ℕ) (t : Tracked) (operator : List ℕ) (e : LogEntry) → same_addr operator p.operator ≡ false → Stands b p l t → Stands b p (l ++ (operator, e) ∷ []) t
  stands_elsewhere b t operator e apart h =
      let same : history_of p.operator (l ++ (operator, e) ∷ []) [] ≡ history = history_elsewhere p.operator operator l e [] apart in
      record {
        spanned = subst (λ (es : List LogEntry). Spanned b (span_of p.delegator es None) t.entries) (sym same) h.spanned;
        removals = subst (λ (es : List LogEntry). count_where is_left es + b ≤ t.removals) (sym same) h.removals;
        ratio = λ d. h.ratio d ∙ ap (raised_in d) (sym same);
      }

  -- the validator is made
  pub stands_made : Stands 0 p (l ++ (p.operator, log.made) ∷ []) untracked
  stands_made =
      let none : history_of p.operator (l ++ (p.operator, log.made) ∷ []) [] ≡ [] = history_behind p.operator l log.made [] in
      record {
        spanned = subst (λ (es : List LogEntry). Spanned 0 (span_of p.delegator es None) []) (sym none) refl;
        removals = subst (λ (es : List LogEntry). count_where is_left es + 0 ≤ 0) (sym none) (omega arith);
        ratio = λ d. ap (raised_in d) (sym none);
      }

-- shares are about to change
pub stands_touched : (b : ℕ) (p : Pair) (l : Log) (t : Tracked) (removals : ℕ) → removals ≡ t.removals + 1 → Stands b p l t
    → Stands 1 p l (record t { entries = behind_start Touched t.entries; removals = removals })
stands_touched b p l t removals more h = record {
  spanned = spanned_touched (span_of p.delegator (history_of p.operator l []) None) h.spanned;
  removals = once (count_where is_left (history_of p.operator l [])) h.removals;
  ratio = h.ratio;
}
  where
    once : (a : ℕ) → a + b ≤ t.removals → a + 1 ≤ removals
    once a m = omega (arith, more)

    more_now : (a n c : ℕ) → n ≡ c + 1 → a + b ≤ c + 1 → a ≤ n + 1
    more_now a n c h m = omega arith

    more_once : (a n c : ℕ) → n ≡ c + 1 → a + b ≤ c + 1 → a + 1 ≤ n + 1
    more_once a n c h m = omega arith

    spanned_touched : (o : Option Span) → Spanned b o t.entries → Spanned 1 o (behind_start Touched t.entries)
    spanned_touched None h = ap (behind_start Touched) h
    spanned_touched (Some s) h =
        let i : IsSpanOf s t.entries = h.0 in
        let new : List Entry = Started i.shares i.tokens i.total ∷ i.rest ++ Touched ∷ [] in
        let is : behind_start Touched t.entries ≡ new = ap (behind_start Touched) i.is in
        let n : count_by is_touch (behind_start Touched t.entries) ≡ count_by is_touch t.entries + 1 =
        ap (count_by is_touch) is ∙ touches_more (Started i.shares i.tokens i.total ∷ i.rest) Touched ∙ ap (λ (es : List Entry). count_by is_touch es + 1) (sym i.is) in (
          record {
            shares = i.shares;
            tokens = i.tokens;
            total = i.total;
            rest = i.rest ++ Touched ∷ [];
            is = is;
            first = i.first;
            same = untouched_more i.rest Touched ∙ append-nil (untouched i.rest) ∙ i.same;
            few = more_now (count_where is_left s.entries) (count_by is_touch (behind_start Touched t.entries)) (count_by is_touch t.entries) n h.1;
            money = subst (All HasMoney) (sym is) (money_more (Started i.shares i.tokens i.total ∷ i.rest) Touched (subst (All HasMoney) i.is i.money) tt);
          },
          more_once (count_where is_left s.entries) (count_by is_touch (behind_start Touched t.entries)) (count_by is_touch t.entries) n h.1,
        )

-- what stands where shares may leave once more, stands where they may not
pub stands_less : (b : ℕ) (p : Pair) (l : Log) (t : Tracked) → Stands b p l t → Stands 0 p l t
stands_less b p l t h = record {
  spanned = spanned_less (span_of p.delegator (history_of p.operator l []) None) h.spanned;
  removals = less (count_where is_left (history_of p.operator l [])) t.removals h.removals;
  ratio = h.ratio;
}
  where
    less : (a c : ℕ) → a + b ≤ c → a + 0 ≤ c
    less a c k = omega arith

    spanned_less : (o : Option Span) → Spanned b o t.entries → Spanned 0 o t.entries
    spanned_less None k = k
    spanned_less (Some s) k = (k.0, less (count_where is_left s.entries) (count_by is_touch t.entries + 1) k.1)
