-- What stands of a pair through the hooks of staking, which a recorder hears behind distribution, and through staking's own changes.
use Rattle.std.proofs.Common.{◌≡◌, ◌∙◌, ℕ, ◌+◌, ◌*◌, ◌^◌, ◌<◌, ◌≤◌, ◌==◌, Bool, true, false, cond, List, [], ◌∷◌, ◌++◌, append-nil, append_assoc, refl, sym, ap, subst, arith, Option, Some, None, Result, Ok, Err, if◌then◌else◌, is_some, unwrap_or}
use Rattle.std.specs.{List.Sorted.IsStrictlySortedBy, Map.keys_of, BTreeMap.is_at}
use Rattle.std.proofs.lemmas.Cmp.{nat_list_cmp_total}
use Rattle.base_decimals.specs.declared.over.Over.{Over}
use Rattle.base_types.specs.declared.account.Account.TheVariants as account
use Rattle.base_types.specs.declared.account.Module.TheVariants as holder
use Rattle.base_types.{specs.Orders.addr_cmp, proofs.MapLemmas.{ascend-put, ascend-taken, at-taken}}
use Rattle.base_coins.specs.Coins.{Money, coins_taken, fractions, smaller_of, whole_coins}
use Rattle.base_shares.specs.{Shares.{value_cut_of, value_even_of}, Burns.recorded_fraction}
use Rattle.base_roles.specs.declared.{entities.{Purse.Purse, Validator.Validator}, facts.Fact.Fact}
use Rattle.base_roles.specs.{Entries.{at, with, without}, Flow.{◌>>=◌}, Holdings.transfer_told, Items.no_purse}
use Rattle.base_roles.specs.{Log.{Log, LogEntry}, Orders.same_addr, Pair.and_then}
use Rattle.base_roles.specs.Staked.{Staked, put_validator, validator_at}
use Rattle.base_roles.specs.{World.{View, Told, World, call, exceeds, gives, hooked, noted}, declared.calls.Hook.Hook}
use Rattle.base_roles.specs.declared.facts.Fact.TheVariants as fact
use Rattle.base_roles.specs.Log as log
use Rattle.base_roles.specs.declared.calls.Hook.TheVariants as hook
use Rattle.rule_modules.specs.Amounts.{is_empty, over_facts}
use Rattle.rule_modules.specs.Distribution.{Shared, distribution_told, ended, payee_of, paid_to, records_made, records_removed, reward_due, reward_withdrawn, slash_recorded, started, told_of, unlogged}
use Rattle.rule_modules.specs.Periods.{Periods, event_recorded, initial_records, last_ended, periods_of, reward_at, start_of}
use Rattle.rule_modules.specs.Purses.{Purses, closed, paid_out, pool_joined, pooled_told, purse_of, with_purse}
use Rattle.rule_modules.{specs.Stakes.without_validator, proofs.GoingLemmas.{same_ok, step_parts}}
use Rattle.rule_modules.proofs.SlashParts.{event_put}
use Rattle.rule_machine.specs.Listening.{shared_told}
use Rattle.law_rewards.proofs.{Entries.{addr_is, put_elsewhere, put_there}, Following.{other_addr, own_addr}}
use Rattle.law_rewards.proofs.{Hooked.{answer_of, same_told}, Slashing.{recorded_parts, rule_told}}
use Rattle.law_rewards.proofs.{Staking.removed_with, Quiet.joined_purses, Withdrawing.paid_with}
use Rattle.mod_recorder.specs.Notes.{Noted, heard}
use Rattle.mod_tracking.specs.{declared.tracker.Pair.Pair, Tracking.Tracked}
use Rattle.law_statements.proofs.Holding.{AreTied, Holds, Tied, ended_tied, holds_begun, holds_ended, holds_made, holds_paid, holds_pooled, holds_sent, holds_told, holds_touched, touch}
use Rattle.law_statements.proofs.Ties.{IsFlat, IsTied, tied_elsewhere, tied_flat, tied_made}

-- Hooks that a recorder hears, whatever stands beside: of what they hold, distribution's records and what was heard.
pub record AreHeard {H : Type 0} (told : H → Hook → View → Told H) (of : H → Shared × Noted) : Type 0 where
  pub told_is : (h g : H) (hook : Hook) (u w : View) (m : Log) → told h hook u ≡ gives g w m → shared_told heard (of h) hook u ≡ gives (of g) w m

-- two addresses are two whichever comes first
pub turned : (a b : List ℕ) → same_addr a b ≡ false → same_addr b a ≡ false
turned a b apart = other_addr b a (λ same. never (sym (ap (λ (o : List ℕ). same_addr a o) same ∙ own_addr a) ∙ apart))
  where
    never : true ≡ false → ⊥
    never h = cc

-- what distribution told, and what was heard behind it
shared_parts : (s t : Shared × Noted) (hook : Hook) (u w : View) (m : Log) → shared_told heard s hook u ≡ gives t w m → (distribution_told s.0 hook u ≡ gives t.0 w m) × (t.1 ≡ heard s.1 hook w)
shared_parts s t hook u w m e = by (distribution_told s.0 hook u) e
  where
    same_all : (x : Shared × Noted) (y z : View) (k n : Log) → Path (Told (Shared × Noted)) (gives x y k) (gives t z n) → (x ≡ t) × (y ≡ z) × (k ≡ n)
    same_all x y z k n h = (cc, cc, cc)

    by : (q : Told Shared) → and_then q (λ d x k. gives (d, heard s.1 hook x) x k) ≡ gives t w m → (q ≡ gives t.0 w m) × (t.1 ≡ heard s.1 hook w)
    by (gives d x k) h =
        let same : ((d, heard s.1 hook x) ≡ t) × (x ≡ w) × (k ≡ m) = same_all (d, heard s.1 hook x) x w k m h in (
          ap (λ (c : Shared). gives c x k) (ap (λ (y : Shared × Noted). y.0) same.0) ∙ ap (λ (y : View). gives t.0 y k) same.1 ∙ ap (λ (n : Log). gives t.0 w n) same.2,
          sym (ap (λ (y : Shared × Noted). y.1) same.0) ∙ ap (heard s.1 hook) same.1,
        )
    by (exceeds over) h = absurd cc

module _ (p : Pair) (v : Option Validator) (t0 : Tracked) (n0 : ℕ) (base : Log) (earlier : List Fact) where
  -- what a hook leaves of the pair, and of what its ratio rests on
  pub record Leaves (b : ℕ) (d : Shared) (r : Noted) (facts : List Fact) (l : Log) : Type 0 where
    pub holds : Holds p v t0 n0 base earlier b r facts l
    pub tied : Tied p v t0 n0 base earlier d l

  abbrev Keeps : ℕ → Shared → Noted → List Fact → Log → Type 0
  Keeps b d r facts l = Holds p v t0 n0 base earlier b r facts l

  abbrev Ties : Shared → Log → Type 0
  Ties d l = Tied p v t0 n0 base earlier d l

  -- a validator's period ends, where its ratio is tied
  abbrev MayEnd : Validator → Shared → Log → Type 0
  MayEnd val d l = AreTied p v t0 n0 base earlier val.operator d l

  -- other records with the same periods and current rewards
  pub same_ties : (d c : Shared) (l : Log) → at addr_cmp c.rewards.periods p.operator ≡ at addr_cmp d.rewards.periods p.operator → (purse_of c.purses p.operator).current ≡ (purse_of d.purses p.operator).current → Ties d l → Ties c l
  same_ties d c l periods current t =
      subst (λ (q : Option Periods). IsTied p.operator (unwrap_or q initial_records) (purse_of c.purses p.operator).current l) (sym periods)
      (subst (λ (m : Money). IsTied p.operator (periods_of d.rewards p.operator) m l) (sym current) t)

  -- ---- purses

  purse_put : (op : List ℕ) (x : Purse) (q : Purses) (r : Purses) → r.purses ≡ with addr_cmp q.purses op x → x.current ≡ (purse_of q op).current → (purse_of r p.operator).current ≡ (purse_of q p.operator).current
  purse_put op x q r is same = ap (λ es. (unwrap_or (at addr_cmp es p.operator) no_purse).current) is ∙ by (same_addr p.operator op) refl
    where
      by : (b : Bool) → same_addr p.operator op ≡ b → (unwrap_or (at addr_cmp (with addr_cmp q.purses op x) p.operator) no_purse).current ≡ (purse_of q p.operator).current
      by true h =
          let one : p.operator ≡ op = addr_is p.operator op h in
          ap (λ (o : List ℕ). (unwrap_or (at addr_cmp (with addr_cmp q.purses op x) o) no_purse).current) one
          ∙ ap (λ (y : Option Purse). (unwrap_or y no_purse).current) (put_there op x q.purses)
          ∙ same ∙ ap (λ (o : List ℕ). (purse_of q o).current) (sym one)
      by false h = ap (λ (y : Option Purse). (unwrap_or y no_purse).current) (put_elsewhere op p.operator x q.purses h)

  -- what a payment leaves of them, and what it pays
  paid_purses : (op : List ℕ) (full : Money) (q : Purses) (z : Money × Purses) → paid_out op full q ≡ Ok z
      → (x : Purse) × (z.1.purses ≡ with addr_cmp q.purses op x) × (x.current ≡ (purse_of q op).current) × (z.0 ≡ smaller_of full (purse_of q op).outstanding)
  paid_purses op full q z e =
      let reward : Money = smaller_of full (purse_of q op).outstanding in
      let less : Purse = record (purse_of q op) { outstanding = coins_taken (purse_of q op).outstanding reward } in
      let one : (r : Purses) × (pool_joined (fractions reward) (with_purse op less q) ≡ Ok r) × (Path (Result (Money × Purses) Over) (Ok (reward, r)) (Ok z)) =
      step_parts (pool_joined (fractions reward) (with_purse op less q)) (λ r. Ok (reward, r)) z e in
      let same : (reward, one.0) ≡ z = same_ok (reward, one.0) z one.2 in
      (less, sym (ap (λ (y : Money × Purses). y.1.purses) same) ∙ joined_purses (fractions reward) (with_purse op less q) one.0 one.1, refl, sym (ap (λ (y : Money × Purses). y.0) same))

  -- ---- a withdrawal

  -- the end of the period, and what was paid behind it
  record HasPaid (val : Validator) (who : List ℕ) (d : Shared) (u : View) (y : Money × Shared × View × Log) : Type 0 where
    z : ℕ × Shared × View × Log
    ends : ended val d u ≡ Ok z
    full : Money
    paid : Money × Purses
    pays : paid_out val.operator full z.1.purses ≡ Ok paid
    answer_is : y ≡ paid_with val who (full, z.1, z.2, z.3) paid

  has_paid : (val : Validator) (who : List ℕ) (shares : ℕ) (d : Shared) (u : View) (y : Money × Shared × View × Log) → reward_withdrawn val who shares d u ≡ Ok y → HasPaid val who d u y
  has_paid val who shares d u y e =
      let one : (q : Money × Shared × View × Log) × (reward_due val who shares d u ≡ Ok q) × ((paid_out val.operator q.0 q.1.purses >>= λ x. Ok (paid_with val who q x)) ≡ Ok y) =
      step_parts (reward_due val who shares d u) (λ q. paid_out val.operator q.0 q.1.purses >>= λ x. Ok (paid_with val who q x)) y e in
      let q : Money × Shared × View × Log = one.0 in
      let value : ℕ = value_even_of val.tokens val.shares shares in
      let two : (z : ℕ × Shared × View × Log) × (ended val d u ≡ Ok z)
      × ((reward_at (start_of z.1.rewards who val.operator) (periods_of z.1.rewards val.operator) z.0 z.2.ctx.height value >>= λ full. Ok (full, z.1, z.2, z.3)) ≡ Ok q) =
      step_parts (ended val d u) (λ z. reward_at (start_of z.1.rewards who val.operator) (periods_of z.1.rewards val.operator) z.0 z.2.ctx.height value >>= λ full. Ok (full, z.1, z.2, z.3)) q one.1 in
      let z : ℕ × Shared × View × Log = two.0 in
      let three : (full : Money) × (reward_at (start_of z.1.rewards who val.operator) (periods_of z.1.rewards val.operator) z.0 z.2.ctx.height value ≡ Ok full) × (Path (Result (Money × Shared × View × Log) Over) (Ok (full, z.1, z.2, z.3)) (Ok q)) =
      step_parts (reward_at (start_of z.1.rewards who val.operator) (periods_of z.1.rewards val.operator) z.0 z.2.ctx.height value) (λ full. Ok (full, z.1, z.2, z.3)) q two.2 in
      let same : (three.0, z.1, z.2, z.3) ≡ q = same_ok (three.0, z.1, z.2, z.3) q three.2 in
      let four : (x : Money × Purses) × (paid_out val.operator q.0 q.1.purses ≡ Ok x) × (Path (Result (Money × Shared × View × Log) Over) (Ok (paid_with val who q x)) (Ok y)) =
      step_parts (paid_out val.operator q.0 q.1.purses) (λ x. Ok (paid_with val who q x)) y one.2 in
      record {
        z = z;
        ends = two.1;
        full = three.0;
        paid = four.0;
        pays = ap (λ (k : Money × Shared × View × Log). paid_out val.operator k.0 k.1.purses) same ∙ four.1;
        answer_is = sym (same_ok (paid_with val who q four.0) y four.2) ∙ ap (λ (k : Money × Shared × View × Log). paid_with val who k four.0) (sym same);
      }

  module _ (val : Validator) (who : List ℕ) (shares : ℕ) (d : Shared) (u : View) (y : Money × Shared × View × Log) (e : reward_withdrawn val who shares d u ≡ Ok y) (b : ℕ) (r : Noted) (l : Log) where
    made : HasPaid val who d u y
    made = has_paid val who shares d u y e

    purse : (x : Purse) × (made.paid.1.purses ≡ with addr_cmp made.z.1.purses.purses val.operator x) × (x.current ≡ (purse_of made.z.1.purses val.operator).current) × (made.paid.0 ≡ smaller_of made.full (purse_of made.z.1.purses val.operator).outstanding)
    purse = paid_purses val.operator made.full made.z.1.purses made.paid made.pays

    abbrev outstanding : Money
    outstanding = (purse_of made.z.1.purses val.operator).outstanding

    abbrev to : List ℕ
    to = payee_of made.z.1 who

    abbrev withdrawn : LogEntry
    withdrawn = log.withdrawn who to made.full outstanding

    abbrev sent_facts : List Fact
    sent_facts = pooled_told (fractions made.paid.0) (transfer_told (account.Module holder.Distribution) (account.User to) (whole_coins made.paid.0) made.z.2.facts)

    facts_are : y.2.facts ≡ sent_facts ++ fact.Paid who val.operator to (smaller_of made.full outstanding) (whole_coins made.paid.0) ∷ []
    facts_are = ap (λ (x : Money × Shared × View × Log). x.2.facts) made.answer_is ∙ ap (λ (m : Money). sent_facts ++ fact.Paid who val.operator to m (whole_coins made.paid.0) ∷ []) purse.3

    log_is : y.3 ≡ made.z.3 ++ (val.operator, withdrawn) ∷ []
    log_is = ap (λ (x : Money × Shared × View × Log). x.3) made.answer_is

    pub withdrawal_holds : MayEnd val d l → Keeps b d r u.facts l → Keeps b y.1 r y.2.facts (l ++ y.3)
    withdrawal_holds tied h =
        let ended : Keeps b made.z.1 r made.z.2.facts (l ++ made.z.3) = holds_ended p v t0 n0 base earlier val d u made.z made.ends b r l tied h in
        let sends : Keeps b made.z.1 r sent_facts (l ++ made.z.3) =
        holds_pooled p v t0 n0 base earlier b r _ (l ++ made.z.3) (fractions made.paid.0)
        (holds_sent p v t0 n0 base earlier b r made.z.2.facts (l ++ made.z.3) (account.Module holder.Distribution) (account.User to) (whole_coins made.paid.0) ended) in
        subst (λ (fs : List Fact). Keeps b y.1 r fs (l ++ y.3)) (sym facts_are)
        (subst (λ (m : Log). Keeps b y.1 r (sent_facts ++ fact.Paid who val.operator to (smaller_of made.full outstanding) (whole_coins made.paid.0) ∷ []) m) (append_assoc l made.z.3 ((val.operator, withdrawn) ∷ []) ∙ ap (λ (k : Log). l ++ k) (sym log_is))
        (holds_paid p v t0 n0 base earlier b r sent_facts (l ++ made.z.3) sends val.operator who to made.full outstanding (whole_coins made.paid.0)))

    pub withdrawal_tied : Ties d l → Ties y.1 (l ++ y.3)
    withdrawal_tied t =
        let ended : Ties made.z.1 (l ++ made.z.3) = ended_tied p v t0 n0 base earlier val d u made.z made.ends b r l t in
        let now : Shared = (paid_with val who (made.full, made.z.1, made.z.2, made.z.3) made.paid).1 in
        let left : Ties now (l ++ made.z.3) = same_ties made.z.1 now (l ++ made.z.3) refl (purse_put val.operator purse.0 made.z.1.purses made.paid.1 purse.1 purse.2) ended in
        let flat : IsFlat withdrawn = record { stays = λ es. refl; rises = λ m. refl } in
        subst (λ (c : Shared). Ties c (l ++ y.3)) (sym (ap (λ (x : Money × Shared × View × Log). x.1) made.answer_is))
        (subst (λ (m : Log). Ties now m) (append_assoc l made.z.3 ((val.operator, withdrawn) ∷ []) ∙ ap (λ (k : Log). l ++ k) (sym log_is))
        (tied_flat p.operator (l ++ made.z.3) val.operator withdrawn (periods_of now.rewards p.operator) (purse_of now.purses p.operator).current flat left))

  -- ---- a slash, a start, and records that are made and removed

  -- an event is put behind the end of the period, on which no ratio rests
  pub event_ties : (val : Validator) (fraction : ℕ) (z : ℕ × Shared × View × Log) (l : Log) → Ties z.1 l → Ties (event_put val fraction z) l
  event_ties val fraction z l t = by (same_addr p.operator val.operator) refl
    where
      new : Periods
      new = event_recorded z.2.ctx.height fraction (periods_of z.1.rewards val.operator)

      by : (q : Bool) → same_addr p.operator val.operator ≡ q → Ties (event_put val fraction z) l
      by true is =
          let one : p.operator ≡ val.operator = addr_is p.operator val.operator is in
          let tie : IsTied p.operator (periods_of z.1.rewards val.operator) (purse_of z.1.purses p.operator).current l =
          subst (λ (o : List ℕ). IsTied p.operator (periods_of z.1.rewards o) (purse_of z.1.purses p.operator).current l) one t in
          let put : IsTied p.operator new (purse_of z.1.purses p.operator).current l = record { lists = tie.lists; money = tie.money; ratio = tie.ratio } in
          subst (λ (o : Option Periods). IsTied p.operator (unwrap_or o initial_records) (purse_of z.1.purses p.operator).current l)
          (sym (ap (λ (o : List ℕ). at addr_cmp (with addr_cmp z.1.rewards.periods val.operator new) o) one ∙ put_there val.operator new z.1.rewards.periods)) put
      by false apart = same_ties z.1 (event_put val fraction z) l (put_elsewhere val.operator p.operator new z.1.rewards.periods apart) refl t

  -- a removed validator's commission and what else it had
  removal_holds : (val : Validator) (d : Shared) (u : View) (c : Shared) (w : View) (m l : Log) (b : ℕ) (r : Noted) → told_of (unlogged (records_removed val d u)) ≡ gives c w m → Keeps b d r u.facts l → Keeps b c r w.facts (l ++ m)
  removal_holds val d u c w m l b r e h = by (closed val.operator d.purses) e
    where
      to : List ℕ
      to = payee_of d val.operator

      due : (coins : Money) (q : Bool) → Keeps b d r (paid_to to coins u).facts l → Keeps b d r (if q then paid_to to coins u else noted (fact.Commission val.operator to coins) (paid_to to coins u)).facts l
      due coins true k = k
      due coins false k = holds_told p v t0 n0 base earlier b r (paid_to to coins u).facts l (fact.Commission val.operator to coins) (λ x. refl) k

      by : (q : Result (Money × Money × Purses) Over) → told_of (unlogged (q >>= λ y. Ok (removed_with val d u y))) ≡ gives c w m → Keeps b c r w.facts (l ++ m)
      by (Ok y) g =
          let out : Shared × View = removed_with val d u y in
          let same : (out.0 ≡ c) × (out.1 ≡ w) × ([] ≡ m) = same_told out.0 c out.1 w [] m g in
          let first : View = paid_to to y.0 u in
          let second : View = (if is_empty y.0 then first else noted (fact.Commission val.operator to y.0) first) in
          let all : Keeps b out.0 r out.1.facts l =
          holds_pooled p v t0 n0 base earlier b r second.facts l y.1 (due y.0 (is_empty y.0) (holds_sent p v t0 n0 base earlier b r u.facts l (account.Module holder.Distribution) (account.User to) y.0 h)) in
          subst (λ (k : Log). Keeps b c r w.facts (l ++ k)) same.2
          (subst (λ (k : Log). Keeps b c r w.facts k) (sym (append-nil l)) (subst (λ (x : View). Keeps b c r x.facts l) same.1 all))
      by (Err over) g = absurd cc

  -- ---- worlds

  module _ {H : Type 0} (told : H → Hook → View → Told H) (of : H → Shared × Noted) (are : AreHeard told of) where
    abbrev pub HoldsIn : ℕ → World Staked H → Type 0
    HoldsIn b w = Holds p v t0 n0 base earlier b (of w.hooks).1 w.view.facts w.log

    abbrev pub TiedIn : World Staked H → Type 0
    TiedIn w = Tied p v t0 n0 base earlier (of w.hooks).0 w.log

    -- the ratio is tied where the validator stands
    pub record Goes (b : ℕ) (w : World Staked H) : Type 0 where
      pub ascend : IsStrictlySortedBy addr_cmp (keys_of w.mine.validators)
      pub ties : is_some (validator_at w.mine p.operator) ≡ true → TiedIn w
      pub holds : HoldsIn b w

    -- ---- a call

    pub record IsCalled (h : Hook) (w y : World Staked H) : Type 0 where
      pub more : Log
      pub given : distribution_told (of w.hooks).0 h w.view ≡ gives (of y.hooks).0 y.view more
      pub hears : (of y.hooks).1 ≡ heard (of w.hooks).1 h y.view
      pub mine : y.mine ≡ w.mine
      pub log : y.log ≡ w.log ++ more

    pub called : (h : Hook) (w y : World Staked H) → call told h w ≡ Ok y → IsCalled h w y
    called h w y e = by (told w.hooks h w.view) refl e
      where
        by : (t : Told H) → told w.hooks h w.view ≡ t → hooked t w ≡ Ok y → IsCalled h w y
        by (gives g x m) is k =
            let out : World Staked H = record { mine = w.mine; hooks = g; view = x; log = w.log ++ m } in
            let same : out ≡ y = same_ok out y k in
            let parts : (distribution_told (of w.hooks).0 h w.view ≡ gives (of g).0 x m) × ((of g).1 ≡ heard (of w.hooks).1 h x) = shared_parts (of w.hooks) (of g) h w.view x m (are.told_is w.hooks g h w.view x m is) in
            subst (λ (z : World Staked H). IsCalled h w z) same (record { more = m; given = parts.0; hears = parts.1; mine = refl; log = refl })
        by (exceeds over) is k = absurd cc

    -- what was heard, and logged, of a call
    after : (b : ℕ) (h : Hook) (w y : World Staked H) (c : IsCalled h w y) → Keeps b (of y.hooks).0 (heard (of w.hooks).1 h y.view) y.view.facts (w.log ++ c.more) → HoldsIn b y
    after b h w y c k =
        subst (λ (r : Noted). Keeps b (of y.hooks).0 r y.view.facts y.log) (sym c.hears)
        (subst (λ (l : Log). Keeps b (of y.hooks).0 (heard (of w.hooks).1 h y.view) y.view.facts l) (sym c.log) k)

    after_ties : (h : Hook) (w y : World Staked H) (c : IsCalled h w y) → Ties (of y.hooks).0 (w.log ++ c.more) → TiedIn y
    after_ties h w y c t = subst (λ (l : Log). Ties (of y.hooks).0 l) (sym c.log) t

    -- ---- the hooks

    module _ (val : Validator) (who : List ℕ) (w y : World Staked H) (e : call told (hook.Starting val who) w ≡ Ok y) where
      starting_called : IsCalled (hook.Starting val who) w y
      starting_called = called (hook.Starting val who) w y e

      starting_end : (a : ℕ) × (ended val (of w.hooks).0 w.view ≡ Ok (a, (of y.hooks).0, y.view, starting_called.more))
      starting_end = answer_of (ended val (of w.hooks).0 w.view) ((of y.hooks).0, y.view, starting_called.more) starting_called.given

      pub starting_holds : (b : ℕ) → MayEnd val (of w.hooks).0 w.log → HoldsIn b w → HoldsIn b y
      starting_holds b tied h =
          after b (hook.Starting val who) w y starting_called
          (holds_ended p v t0 n0 base earlier val (of w.hooks).0 w.view (starting_end.0, (of y.hooks).0, y.view, starting_called.more) starting_end.1 b (of w.hooks).1 w.log tied h)

      pub starting_tied : TiedIn w → TiedIn y
      starting_tied t =
          after_ties (hook.Starting val who) w y starting_called
          (ended_tied p v t0 n0 base earlier val (of w.hooks).0 w.view (starting_end.0, (of y.hooks).0, y.view, starting_called.more) starting_end.1 0 (of w.hooks).1 w.log t)

    module _ (val : Validator) (who : List ℕ) (shares : ℕ) (w y : World Staked H) (e : call told (hook.Modifying val who shares) w ≡ Ok y) where
      modifying_called : IsCalled (hook.Modifying val who shares) w y
      modifying_called = called (hook.Modifying val who shares) w y e

      modifying_end : (a : Money) × (reward_withdrawn val who shares (of w.hooks).0 w.view ≡ Ok (a, (of y.hooks).0, y.view, modifying_called.more))
      modifying_end = answer_of (reward_withdrawn val who shares (of w.hooks).0 w.view) ((of y.hooks).0, y.view, modifying_called.more) modifying_called.given

      pub modifying_holds : MayEnd val (of w.hooks).0 w.log → HoldsIn 0 w → HoldsIn (touch p v t0 n0 base earlier val.operator) y
      modifying_holds tied h =
          after (touch p v t0 n0 base earlier val.operator) (hook.Modifying val who shares) w y modifying_called
          (holds_touched p v t0 n0 base earlier 0 (of w.hooks).1 y.view.facts (w.log ++ modifying_called.more)
          (withdrawal_holds val who shares (of w.hooks).0 w.view (modifying_end.0, (of y.hooks).0, y.view, modifying_called.more) modifying_end.1 0 (of w.hooks).1 w.log tied h)
          val.operator who refl)

      pub modifying_tied : TiedIn w → TiedIn y
      modifying_tied t =
          after_ties (hook.Modifying val who shares) w y modifying_called
          (withdrawal_tied val who shares (of w.hooks).0 w.view (modifying_end.0, (of y.hooks).0, y.view, modifying_called.more) modifying_end.1 0 (of w.hooks).1 w.log t)

    module _ (val : Validator) (who : List ℕ) (shares : ℕ) (w y : World Staked H) (e : call told (hook.Modified val who shares) w ≡ Ok y) where
      modified_called : IsCalled (hook.Modified val who shares) w y
      modified_called = called (hook.Modified val who shares) w y e

      abbrev begun : Shared × View × Log
      begun = started val who shares (of w.hooks).0 w.view

      same_begun : (begun.0 ≡ (of y.hooks).0) × (begun.1 ≡ y.view) × (begun.2 ≡ modified_called.more)
      same_begun = same_told begun.0 (of y.hooks).0 begun.1 y.view begun.2 modified_called.more modified_called.given

      pub modified_holds : (b : ℕ) → b ≤ 1 → HoldsIn b w → HoldsIn b y
      modified_holds b once h =
          let told_fact : Keeps b begun.0 (of w.hooks).1 begun.1.facts w.log =
          holds_told p v t0 n0 base earlier b (of w.hooks).1 w.view.facts w.log (fact.Started who val.operator (last_ended (periods_of (of w.hooks).0.rewards val.operator)) (value_cut_of val.tokens val.shares shares)) (λ x. refl) h in
          let all : Keeps b begun.0 (heard (of w.hooks).1 (hook.Modified val who shares) begun.1) begun.1.facts (w.log ++ begun.2) =
          holds_begun p v t0 n0 base earlier b (of w.hooks).1 begun.1.facts w.log told_fact val.operator who shares val.tokens val.shares (value_cut_of val.tokens val.shares shares) once in
          after b (hook.Modified val who shares) w y modified_called
          (subst (λ (m : Log). Keeps b (of y.hooks).0 (heard (of w.hooks).1 (hook.Modified val who shares) y.view) y.view.facts (w.log ++ m)) same_begun.2
          (subst (λ (x : View). Keeps b (of y.hooks).0 (heard (of w.hooks).1 (hook.Modified val who shares) x) x.facts (w.log ++ begun.2)) same_begun.1 all))

      pub modified_tied : TiedIn w → TiedIn y
      modified_tied t =
          let flat : IsFlat (log.started who shares val.tokens val.shares (value_cut_of val.tokens val.shares shares)) = record { stays = λ es. refl; rises = λ m. refl } in
          let now : Ties begun.0 (w.log ++ begun.2) =
          tied_flat p.operator w.log val.operator (log.started who shares val.tokens val.shares (value_cut_of val.tokens val.shares shares)) (periods_of begun.0.rewards p.operator) (purse_of begun.0.purses p.operator).current flat t in
          after_ties (hook.Modified val who shares) w y modified_called
          (subst (λ (m : Log). Ties (of y.hooks).0 (w.log ++ m)) same_begun.2 (subst (λ (c : Shared). Ties c (w.log ++ begun.2)) same_begun.0 now))

    module _ (val : Validator) (w y : World Staked H) (e : call told (hook.Created val) w ≡ Ok y) where
      created_called : IsCalled (hook.Created val) w y
      created_called = called (hook.Created val) w y e

      same_made : (records_made val (of w.hooks).0 ≡ (of y.hooks).0) × (w.view ≡ y.view) × ((val.operator, log.made) ∷ [] ≡ created_called.more)
      same_made = same_told (records_made val (of w.hooks).0) (of y.hooks).0 w.view y.view ((val.operator, log.made) ∷ []) created_called.more created_called.given

      pub created_holds : HoldsIn 0 w → HoldsIn 0 y
      created_holds h =
          after 0 (hook.Created val) w y created_called
          (subst (λ (m : Log). Keeps 0 (of y.hooks).0 (heard (of w.hooks).1 (hook.Created val) y.view) y.view.facts (w.log ++ m)) same_made.2
          (subst (λ (x : View). Keeps 0 (of y.hooks).0 (heard (of w.hooks).1 (hook.Created val) x) x.facts (w.log ++ (val.operator, log.made) ∷ [])) same_made.1
          (holds_made p v t0 n0 base earlier 0 (of w.hooks).1 w.view.facts w.log h val.operator refl)))

      -- its ratio is tied, or that of the pair's as before
      pub created_tied : (same_addr p.operator val.operator ≡ false → TiedIn w) → TiedIn y
      created_tied t =
          after_ties (hook.Created val) w y created_called
          (subst (λ (m : Log). Ties (of y.hooks).0 (w.log ++ m)) same_made.2
          (subst (λ (c : Shared). Ties c (w.log ++ (val.operator, log.made) ∷ [])) same_made.0 (by (same_addr p.operator val.operator) refl)))
        where
          d : Shared
          d = (of w.hooks).0

          by : (q : Bool) → same_addr p.operator val.operator ≡ q → Ties (records_made val d) (w.log ++ (val.operator, log.made) ∷ [])
          by true is =
              let one : p.operator ≡ val.operator = addr_is p.operator val.operator is in
              let periods : at addr_cmp (records_made val d).rewards.periods p.operator ≡ Some initial_records =
              ap (λ (o : List ℕ). at addr_cmp (records_made val d).rewards.periods o) one ∙ put_there val.operator initial_records d.rewards.periods in
              let purse : at addr_cmp (records_made val d).purses.purses p.operator ≡ Some no_purse =
              ap (λ (o : List ℕ). at addr_cmp (records_made val d).purses.purses o) one ∙ put_there val.operator no_purse d.purses.purses in
              subst (λ (o : List ℕ). Ties (records_made val d) (w.log ++ (o, log.made) ∷ [])) one
              (subst (λ (o : Option Periods). IsTied p.operator (unwrap_or o initial_records) (purse_of (records_made val d).purses p.operator).current (w.log ++ (p.operator, log.made) ∷ [])) (sym periods)
              (subst (λ (o : Option Purse). IsTied p.operator initial_records (unwrap_or o no_purse).current (w.log ++ (p.operator, log.made) ∷ [])) (sym purse) (tied_made p.operator w.log)))
          by false apart =
              let other : same_addr val.operator p.operator ≡ false = turned p.operator val.operator apart in
              same_ties d (records_made val d) (w.log ++ (val.operator, log.made) ∷ []) (put_elsewhere val.operator p.operator initial_records d.rewards.periods apart)
              (ap (λ (o : Option Purse). (unwrap_or o no_purse).current) (put_elsewhere val.operator p.operator no_purse d.purses.purses apart))
              (tied_elsewhere p.operator w.log val.operator log.made (periods_of d.rewards p.operator) (purse_of d.purses p.operator).current other (t apart))

    module _ (val : Validator) (w y : World Staked H) (e : call told (hook.Removed val) w ≡ Ok y) where
      removed_called : IsCalled (hook.Removed val) w y
      removed_called = called (hook.Removed val) w y e

      pub removed_holds : (b : ℕ) → HoldsIn b w → HoldsIn b y
      removed_holds b h =
          after b (hook.Removed val) w y removed_called
          (removal_holds val (of w.hooks).0 w.view (of y.hooks).0 y.view removed_called.more w.log b (of w.hooks).1 removed_called.given h)

    module _ (val : Validator) (w y : World Staked H) (e : call told (hook.Bonded val) w ≡ Ok y) where
      bonded_called : IsCalled (hook.Bonded val) w y
      bonded_called = called (hook.Bonded val) w y e

      same_bonded : ((of w.hooks).0 ≡ (of y.hooks).0) × (w.view ≡ y.view) × ([] ≡ bonded_called.more)
      same_bonded = same_told (of w.hooks).0 (of y.hooks).0 w.view y.view [] bonded_called.more bonded_called.given

      pub bonded_holds : (b : ℕ) → HoldsIn b w → HoldsIn b y
      bonded_holds b h =
          after b (hook.Bonded val) w y bonded_called
          (subst (λ (m : Log). Keeps b (of y.hooks).0 (of w.hooks).1 y.view.facts (w.log ++ m)) same_bonded.2
          (subst (λ (l : Log). Keeps b (of y.hooks).0 (of w.hooks).1 y.view.facts l) (sym (append-nil w.log))
          (subst (λ (x : View). Keeps b (of y.hooks).0 (of w.hooks).1 x.facts w.log) same_bonded.1 h)))
