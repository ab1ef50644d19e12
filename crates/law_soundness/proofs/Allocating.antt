-- Allocating a block's fees keeps a state sound: what moves to the distribution account joins what it owes.
use Rattle.std.proofs.Common.{◌≡◌, ◌∙◌, ℕ, ◌+◌, ◌*◌, ◌^◌, ◌<◌, ◌≤◌, ◌==◌, Bool, true, false, cond, List, [], ◌∷◌, ◌++◌, map, Option, Some, None, Ok, Err, refl, sym, ap, subst, arith, ◌-◌, nat_le, nat_lt, sum, find, if◌then◌else◌, IfOk, Contains, is_some, is_eq}
use Rattle.std.proofs.{Math.Nat.{mul-le-mul_right, le_of_mul-le-mul_right}, lemmas.Bool.Decides.nat_tests}
use Rattle.std.{proofs.lemmas.List.{Elements.recursion_from_All, Sums.sum_by-cons}, specs.List.AllByRecursion}
use Rattle.std.specs.Map.{values_of}
use Rattle.base_types.specs.declared.account.Account.TheVariants as account
use Rattle.base_types.specs.declared.account.Module.TheVariants as holder
use Rattle.base_types.specs.{Orders.{addr_cmp, cons_cmp}, declared.account.Account.Account}
use Rattle.base_shares.proofs.Roundings.{cut_low}
use Rattle.base_roles.specs.declared.{entities.{Purse.Purse, Validator.Validator}, messages.Vote.Vote}
use Rattle.base_roles.specs.{declared.params.Params.Params, Owing.Lists, Log.Log, Flow.{◌>>=◌}, World.{View, sent}}
use Rattle.base_roles.specs.{Entries.at, Holdings.{balance_of, coins_of, is_short}, Items.no_purse}
use Rattle.base_roles.specs.{Staked.{Staked, lists_of, validator_by_cons, validator_at}, declared.facts.Fact.Fact}
use Rattle.base_roles.proofs.{AmountLemmas.moves_by_amounts, HoldingLemmas.balance-moved_elsewhere}
use Rattle.base_roles.specs.declared.facts.Fact.TheVariants as fact
use Rattle.base_roles.specs.Log as log
use Rattle.rule_modules.proofs.PartLemmas.{part_low, share_low, share_within, left_covers, amount_in_units}
use Rattle.rule_modules.proofs.{GoingLemmas.on_bind, TotalLemmas.{total_put, total}, OrderLemmas.addr_total}
use Rattle.rule_modules.proofs.SoundLemmas.{IsSoundAt}
use Rattle.rule_modules.specs.Allocation.{allocated, fees_allocated, shares_allocated, share_given, sharing}
use Rattle.rule_modules.specs.{Amounts.{in_units, is_empty}, Chain.{State, allocation_step, staked_in}}
use Rattle.rule_modules.specs.Distribution.{Shared}
use Rattle.rule_modules.specs.Purses.{Purses, pool_joined, pooled_told, purse_of, share_joined, with_purse}
use Rattle.base_coins.proofs.Amounts.{amount-added, amount-all, amount-by}
use Rattle.base_coins.proofs.{Order.{Rises, money_from_rises, rises_from_money}, Parts.zero_mul_cut}
use Rattle.base_coins.specs.Coins.{IsMoney, Money, amount_of, coins_added, coins_mul_cut, coins_mul_even, coins_taken}
use Rattle.base_decimals.specs.{Decimals.{below, digits_36, mul_cut_of, quo_cut_of}, Rounding.cut}
use Rattle.base_decimals.specs.declared.over.Over.{Over}
use Rattle.rule_machine.proofs.PurseLemmas.{coins-amount, coins-rise}
use Rattle.law_soundness.proofs.Burns.{total_in, SayNoMore, quiet_behind, quiet_pooled}
use Rattle.law_soundness.proofs.{Bank.{each_within, known_enough}, Hooking.stake_hooks, Lists.weaker}
use Rattle.law_soundness.proofs.{Maturing.values_stand, Moves.{HooksFit, Leaves, ground_sent, state_left, ground_told}}
use Rattle.law_soundness.proofs.Names.{IsKnown, known_added, known_mul_cut, known_mul_even, known_taken, units_known}
use Rattle.law_soundness.proofs.Periods.{Ordered, pool_after, some_unwrap}
use Rattle.law_soundness.proofs.Points.{PurseFits, StateFits, StateLeft, from_fits, to_fits}
use Rattle.law_soundness.proofs.Purses.{HasJoined, PursesFit, enough_held, has_joined, owed_of, own_purse, purse_put, shared_purses}
use Rattle.law_soundness.proofs.Steps.{and_also, on_then, weaker_if, both_if}
use Rattle.law_soundness.specs.StepLaws.{AllocationKeepsSoundness, IsSoundAfter}

-- ---- roundings

-- ---- validators by consensus address

find_all : {X : Type 0} (test : X → Bool) (Q : X → Type 0) (xs : List X) (x : X) → find test xs ≡ Some x → AllByRecursion Q xs → Q x
find_all test Q [] x e h = absurd cc
find_all test Q (y ∷ xs) x e h = by (test y) e (λ f. find_all test Q xs x f h.1)
  where
    by : (b : Bool) → cond b (Some y) (find test xs) ≡ Some x → (find test xs ≡ Some x → Q x) → Q x
    by true f rest = let same : y ≡ x = cc in subst Q same h.0
    by false f rest = rest f

-- one that is found stands under its own operator
pub found_by_cons : (height : ℕ) (s : Staked) (cons : List ℕ) (v : Validator) → IsSoundAt height s → validator_by_cons s cons ≡ Some v → validator_at s v.operator ≡ Some v
found_by_cons height s cons v h e = find_all (λ v. is_eq (cons_cmp v.cons cons)) (λ v. validator_at s v.operator ≡ Some v) (values_of s.validators) v e (values_stand height s h)

-- ---- facts

-- fees that are shared say nothing of burns
given_said : (v : Option Validator) (share : Money) (p : Purses) (facts : List Fact) → IfOk (share_given v share p facts) (λ z. SayNoMore facts z.1)
given_said None share p facts = λ d. refl
given_said (Some val) share p facts = by (is_empty share)
  where
    by : (b : Bool) → IfOk {T = Purses × List Fact × Log} {E = Over} (if b then Ok (p, facts, []) else (share_joined share val.commission.rate (purse_of p val.operator) >>= λ z.
        Ok (with_purse val.operator z.1 p, facts ++ fact.Allocated val.operator share ∷ [], (val.operator, log.allocated share z.0 val.tokens) ∷ []))) (λ z. SayNoMore facts z.1)
    by true = λ d. refl
    by false = on_bind (share_joined share val.commission.rate (purse_of p val.operator)) _ _ (λ z e. quiet_behind facts (fact.Allocated val.operator share) (λ d. refl))

shares_said : (votes : List Vote) (s : Staked) (base : Money) (total : ℕ) (left : Money) (p : Purses) (facts : List Fact) (l : Log) → IfOk (shares_allocated s base total votes left p facts l) (λ z. SayNoMore facts z.1)
shares_said [] s base total left p facts l = on_bind (pool_joined left p) _ _ (λ q e. quiet_pooled left facts)
shares_said (t ∷ ts) s base total left p facts l =
    on_bind (quo_cut_of (t.power * 10 ^ 18) (total * 10 ^ 18)) _ _ (λ part e. on_bind (coins_mul_cut base part) _ _ (λ share f.
    on_then (share_given (validator_by_cons s t.cons) share p facts) _ (λ z. SayNoMore facts z.1) _ (given_said (validator_by_cons s t.cons) share p facts) (λ z g.
    weaker_if (shares_allocated s base total ts (coins_taken left share) z.0 z.1 (l ++ z.2)) (λ y. SayNoMore z.1 y.1) (λ y. SayNoMore facts y.1)
    (shares_said ts s base total (coins_taken left share) z.0 z.1 (l ++ z.2)) (λ y h d. h d ∙ g d))))

allocated_said : (s : Staked) (params : Params) (fees : Money) (votes : List Vote) (p : Purses) (facts : List Fact) → IfOk (allocated s params fees votes p facts) (λ z. SayNoMore facts z.1)
allocated_said s params fees votes p facts =
    on_bind (coins_mul_cut (in_units fees) (10 ^ 18 - params.community_tax)) _ _ (λ base e.
    shares_said (sharing (sum (map (λ t. t.power) votes)) votes) s base (sum (map (λ t. t.power) votes)) (in_units fees) p facts [])

module _ (P : List ℕ → Type 0) (T : List ℕ → ℕ) where
  -- ---- a share

  -- a share has joined purses
  record HasGiven (share : Money) (p : Purses) (z : Purses) : Type 0 where
    purses : PursesFit P p z
    owed : (d : List ℕ) → owed_of z d ≡ owed_of p d + amount_of share d

  share_fits : (share : Money) (rate : ℕ) (p : Purse) → IsKnown P share → PurseFits P p → IfOk (share_joined share rate p) (λ z. PurseFits P z.1 × ((d : List ℕ) → amount_of z.1.outstanding d ≡ amount_of p.outstanding d + amount_of share d))
  share_fits share rate p k f =
      on_bind (coins_mul_even share rate) _ _ (λ part e. on_bind (coins_added p.commission part) _ _ (λ commission c. on_bind (coins_added p.current (coins_taken share part)) _ _ (λ current r. on_bind (coins_added p.outstanding share) _ _ (λ outstanding o.
      let own : IsKnown P part = known_mul_even P share part rate e k in
      and_also
      (record {
        outstanding = known_added P p.outstanding share outstanding o f.outstanding k;
        commission = known_added P p.commission part commission c f.commission own;
        current = known_added P p.current (coins_taken share part) current r f.current (known_taken P share part k);
      })
      (λ d. amount-added p.outstanding share outstanding d (rises_from_money p.outstanding f.outstanding.money) (rises_from_money share k.money) o)))))

  given_fits : (val : Validator) (share : Money) (p : Purses) (facts : List Fact) → IsKnown P share → Ordered P p → is_some (at addr_cmp p.purses val.operator) ≡ true → IfOk (share_given (Some val) share p facts) (λ z. HasGiven share p z.0)
  given_fits val share p facts k o there = by share k
    where
      op : List ℕ
      op = val.operator

      purse : Purse
      purse = purse_of p op

      found : at addr_cmp p.purses op ≡ Some purse
      found = some_unwrap (at addr_cmp p.purses op) no_purse there

      joined : (x : Money) → IsKnown P x → IfOk {T = Purses × List Fact × Log} {E = Over} (share_joined x val.commission.rate purse >>= λ z. Ok (with_purse op z.1 p, facts ++ fact.Allocated op x ∷ [], (op, log.allocated x z.0 val.tokens) ∷ [])) (λ z. HasGiven x p z.0)
      joined x j =
          on_then (share_joined x val.commission.rate purse) _ (λ z. PurseFits P z.1 × ((d : List ℕ) → amount_of z.1.outstanding d ≡ amount_of purse.outstanding d + amount_of x d)) _
          (share_fits x val.commission.rate purse j (own_purse P p.purses op purse found o.1)) (λ z h. record {
            purses = purse_put P p op purse z.1 found o.0 o.1 o.2 h.0;
            owed = λ d. more _ _ _ _ (amount_of p.pool d) (amount_of x d) (total_put addr_cmp addr_total (λ q. amount_of q.outstanding d) op purse z.1 p.purses o.0 found) (h.1 d);
          })
        where
          more : (t2 t a b q s : ℕ) → t2 + a ≡ t + b → b ≡ a + s → t2 + q ≡ t + q + s
          more t2 t a b q s e f = omega (arith, e, f)

      by : (x : Money) → IsKnown P x → IfOk {T = Purses × List Fact × Log} {E = Over} (if is_empty x then Ok (p, facts, []) else (share_joined x val.commission.rate purse >>= λ z. Ok (with_purse op z.1 p, facts ++ fact.Allocated op x ∷ [], (op, log.allocated x z.0 val.tokens) ∷ []))) (λ z. HasGiven x p z.0)
      by [] j = record { purses = record { ascend = o.0; purses = o.1; pool = o.2; there = λ q. refl }; owed = λ d. none (owed_of p d) }
        where
          none : (n : ℕ) → n ≡ n + 0
          none n = omega arith
      by (c ∷ cs) j = joined (c ∷ cs) j

  -- ---- all shares

  -- what is left has joined too
  record HasShared (left : Money) (p : Purses) (z : Purses) : Type 0 where
    purses : PursesFit P p z
    owed : (d : List ℕ) → owed_of z d ≡ owed_of p d + amount_of left d

  rest_joined : (left : Money) (p : Purses) (facts : List Fact) (l : Log) → IsKnown P left → Ordered P p → IfOk {T = Purses × List Fact × Log} {E = Over} (pool_joined left p >>= λ p1. Ok (p1, pooled_told left facts, l)) (λ z. HasShared left p z.0)
  rest_joined left p facts l k o =
      on_then (pool_joined left p) _ (HasJoined P left p) _ (has_joined P left p o.2 k) (λ q j. record {
        purses = pool_after P p p q (record { ascend = o.0; purses = o.1; pool = o.2; there = λ x. refl }) j.purses j.known;
        owed = λ d. more _ _ _ _ _ (ap (λ es. total addr_cmp addr_total (λ x. amount_of x.outstanding d) es) j.purses) (j.amount d);
      })
    where
      more : (t2 t p2 p1 l : ℕ) → t2 ≡ t → p2 ≡ p1 + l → t2 + p2 ≡ t + p1 + l
      more t2 t p2 p1 l e f = omega (arith, e, f)

  -- each vote is of a validator that stands, which has a purse
  abbrev pub AreKnownVotes : Staked → Purses → List Vote → Type 0
  AreKnownVotes s p votes = AllByRecursion (λ t. (v : Validator) × (validator_by_cons s t.cons ≡ Some v) × (is_some (at addr_cmp p.purses v.operator) ≡ true)) votes

  abbrev powers : List Vote → ℕ
  powers votes = sum (map (λ t. t.power) votes)

  all_shared : (votes : List Vote) (s : Staked) (base : Money) (total : ℕ) (left : Money) (p : Purses) (facts : List Fact) (l : Log) → 0 < total → IsKnown P base → IsKnown P left → Ordered P p → AreKnownVotes s p votes
      → ((d : List ℕ) → amount_of base d * powers votes ≤ amount_of left d * total) → IfOk (shares_allocated s base total votes left p facts l) (λ z. HasShared left p z.0)
  all_shared [] s base total left p facts l some k j o known covered = rest_joined left p facts l j o
  all_shared (t ∷ ts) s base total left p facts l some k j o known covered =
      on_bind (quo_cut_of (t.power * 10 ^ 18) (total * 10 ^ 18)) _ _ (λ part e. on_bind (coins_mul_cut base part) _ _ (λ share f.
      let own : IsKnown P share = known_mul_cut P base share part f k in
      let v : Validator = known.0.0 in
      let covers : (d : List ℕ) → (amount_of share d ≤ amount_of left d) × (amount_of base d * powers ts ≤ (amount_of left d - amount_of share d) * total) = λ d.
      left_covers (amount_of base d) (amount_of left d) (amount_of share d) t.power (powers ts) total some
      (share_within (amount_of base d) part (amount_of share d) t.power total (part_low t.power total part some e)
      (share_low (amount_of base d) part (amount_of share d) (amount-by (λ n. mul_cut_of n part) (zero_mul_cut part) base share d (rises_from_money base k.money) f)))
      (subst (λ m. amount_of base d * m ≤ amount_of left d * total) (sum_by-cons (λ n. n) t.power (map (λ x. x.power) ts)) (covered d)) in
      let rest : (d : List ℕ) → amount_of (coins_taken left share) d ≡ amount_of left d - amount_of share d = λ d. amount-all (λ y n. n - amount_of share y) (λ y. omega arith) left d (rises_from_money left j.money) in
      on_then (share_given (validator_by_cons s t.cons) share p facts) _ (λ z. HasGiven share p z.0) _ (subst (λ r. IfOk (share_given r share p facts) (λ z. HasGiven share p z.0)) (sym known.0.1) (given_fits v share p facts own o known.0.2)) (λ z g.
      weaker_if (shares_allocated s base total ts (coins_taken left share) z.0 z.1 (l ++ z.2)) (λ y. HasShared (coins_taken left share) z.0 y.0) (λ y. HasShared left p y.0)
      (all_shared ts s base total (coins_taken left share) z.0 z.1 (l ++ z.2) some k (known_taken P left share j) (g.purses.ascend, g.purses.purses, g.purses.pool)
      (weaker (λ t. (v : Validator) × (validator_by_cons s t.cons ≡ Some v) × (is_some (at addr_cmp p.purses v.operator) ≡ true)) (λ t. (v : Validator) × (validator_by_cons s t.cons ≡ Some v) × (is_some (at addr_cmp z.0.purses v.operator) ≡ true))
      (λ t h. (h.0, h.1, g.purses.there h.0.operator ∙ h.2)) ts known.1)
      (λ d. subst (λ m. amount_of base d * powers ts ≤ m * total) (sym (rest d)) (covers d).1))
      (λ y h. record {
        purses = record { ascend = h.purses.ascend; purses = h.purses.purses; pool = h.purses.pool; there = λ q. h.purses.there q ∙ g.purses.there q };
        owed = λ d. together _ _ _ _ _ _ (h.owed d) (g.owed d) (rest d) (covers d).0;
      }))))
    where
      together : (y z p r l s : ℕ) → y ≡ z + r → z ≡ p + s → r ≡ l - s → s ≤ l → y ≡ p + l
      together y z p r l s e f g h = omega (arith, e, f, g, h)

  -- ---- the fees of a block

  positive : (n : ℕ) → (n == 0) ≡ false → 0 < n
  positive n e = grind (arith, nat_tests)

  allocated_fits : (s : Staked) (params : Params) (fees : Money) (votes : List Vote) (p : Purses) (facts : List Fact) → IsKnown P (in_units fees) → Ordered P p → AreKnownVotes s p votes
      → IfOk (allocated s params fees votes p facts) (λ z. HasShared (in_units fees) p z.0)
  allocated_fits s params fees votes p facts k o known =
      let left = in_units fees in
      on_bind (coins_mul_cut left (10 ^ 18 - params.community_tax)) _ _ (λ base e.
      let own : IsKnown P base = known_mul_cut P left base (10 ^ 18 - params.community_tax) e k in
      by base own (λ d. share_low (amount_of left d) (10 ^ 18 - params.community_tax) (amount_of base d) (amount-by (λ n. mul_cut_of n (10 ^ 18 - params.community_tax)) (zero_mul_cut (10 ^ 18 - params.community_tax)) left base d (rises_from_money left k.money) e)) (powers votes == 0) refl)
    where
      within : (a b t : ℕ) → b * 10 ^ 18 ≤ a * (10 ^ 18 - t) → b ≤ a
      within a b t h = let less : 10 ^ 18 - t ≤ 10 ^ 18 = omega arith in let most : (10 ^ 18 - t) * a ≤ 10 ^ 18 * a = mul-le-mul_right a less in omega (arith, h, most)

      by : (base : Money) → IsKnown P base → ((d : List ℕ) → amount_of base d * 10 ^ 18 ≤ amount_of (in_units fees) d * (10 ^ 18 - params.community_tax)) → (z : Bool) → (powers votes == 0) ≡ z
          → IfOk (shares_allocated s base (powers votes) (if z then [] else votes) (in_units fees) p facts []) (λ z. HasShared (in_units fees) p z.0)
      by base own low true e = rest_joined (in_units fees) p facts [] k o
      by base own low false e =
          all_shared votes s base (powers votes) (in_units fees) p facts [] (positive (powers votes) e) own k o known (λ d. mul-le-mul_right (powers votes) (within (amount_of (in_units fees) d) (amount_of base d) params.community_tax (low d)))

  pub fees_leave : (s : Staked) (votes : List Vote) (d : Shared) (v : View) (l : Lists) → HooksFit P T v l d → AreKnownVotes s d.purses votes → IfOk (fees_allocated s votes d v) (λ z. Leaves P T v l z.0 z.1)
  fees_leave s votes d v l h known = by (nat_le v.ctx.height 1)
    where
      from : Account
      from = account.Module holder.FeeCollector

      to : Account
      to = account.Module holder.Distribution

      fees : Money
      fees = coins_of v.bank from

      rises : Rises fees
      rises = coins-rise v.bank from h.ground.order.bank

      money : IsMoney fees
      money = money_from_rises fees rises

      short : is_short v.bank from fees ≡ false
      short = enough_held fees v.bank from rises (λ x. same_most (amount_of fees x) (balance_of v.bank from x) (coins-amount v.bank from x))
        where
          same_most : (a b : ℕ) → a ≡ b → a ≤ b
          same_most a b e = omega (arith, e)

      more : (b c a u o o2 : ℕ) → c + 0 ≡ b + a → u ≡ a * 10 ^ 18 → 10 ^ 18 * b ≡ o → o2 ≡ o + u → 10 ^ 18 * c ≡ o2
      more b c a u o o2 e f g i = omega (arith, e, f, g, i)

      by : (b : Bool) → IfOk {T = Shared × View × Log} {E = Over} (if b then Ok (d, v, []) else (allocated s v.ctx.params fees votes d.purses (sent from to fees v).facts >>= λ z. Ok (record d { purses = z.0 }, record (sent from to fees v) { facts = z.1 }, z.2))) (λ z. Leaves P T v l z.0 z.1)
      by true = record { ctx = refl; ground = h.ground; bonded = λ e. refl; not_bonded = λ e. refl; owed = h.owed; shared = h.shared }
      by false =
          let sorted = h.ground.order.bank.balances_ascend in
          on_then (allocated s v.ctx.params fees votes d.purses (sent from to fees v).facts) _ (λ z. HasShared (in_units fees) d.purses z.0 × SayNoMore (sent from to fees v).facts z.1) _
          (both_if (allocated s v.ctx.params fees votes d.purses (sent from to fees v).facts) (λ z. HasShared (in_units fees) d.purses z.0) (λ z. SayNoMore (sent from to fees v).facts z.1)
          (allocated_fits s v.ctx.params fees votes d.purses (sent from to fees v).facts (units_known P fees (each_within fees v.bank from short h.ground.order.bank) (known_enough P fees v.bank from money short h.ground.held))
          (h.shared.purses_ascend, h.shared.purses, h.shared.pool) known)
          (allocated_said s v.ctx.params fees votes d.purses (sent from to fees v).facts)) (λ z k. record {
            ctx = refl;
            ground = ground_told P T (λ facts. z.1) (sent from to fees v) k.1 (ground_sent P T from to fees v h.ground money short);
            bonded = λ e. balance-moved_elsewhere fees v.bank from to (account.Module holder.Bonded) e sorted refl refl;
            not_bonded = λ e. balance-moved_elsewhere fees v.bank from to (account.Module holder.NotBonded) e sorted refl refl;
            owed = λ e. more (balance_of v.bank to e) _ (amount_of fees e) (amount_of (in_units fees) e) (owed_of d.purses e) (owed_of z.0 e) (moves_by_amounts v.bank from to fees h.ground.order.bank money short to e) (amount_in_units e fees) (h.owed e) (k.0.owed e);
            shared = shared_purses P v.ctx.height l d z.0 h.shared k.0.purses;
          })

  -- votes of validators that stand are of validators with purses
  pub with_purses : (votes : List Vote) (w : State) → StateFits P T w → AllByRecursion (λ t. (v : Validator) × (validator_by_cons w.mine.staked t.cons ≡ Some v)) votes → AreKnownVotes w.mine.staked w.hooks.0.purses votes
  with_purses votes w h known =
      weaker (λ t. (v : Validator) × (validator_by_cons w.mine.staked t.cons ≡ Some v)) (λ t. (v : Validator) × (validator_by_cons w.mine.staked t.cons ≡ Some v) × (is_some (at addr_cmp w.hooks.0.purses.purses v.operator) ≡ true))
      (λ t k. (k.0, k.1, h.stake.shared.stands.purses k.0.operator ∙ ap is_some (found_by_cons w.view.ctx.height w.mine.staked t.cons k.0 h.stake.staked k.1))) votes known

  pub allocation_fits : (votes : List Vote) (w : State) → StateFits P T w → AllByRecursion (λ t. (v : Validator) × (validator_by_cons w.mine.staked t.cons ≡ Some v)) votes → IfOk (allocation_step votes w) (StateLeft P T w)
  allocation_fits votes w h known =
      let s = w.mine.staked in
      on_then (fees_allocated s votes w.hooks.0 w.view) _ (λ z. Leaves P T w.view (lists_of s) z.0 z.1) _
      (fees_leave s votes w.hooks.0 w.view (lists_of s) (stake_hooks P T 0 _ (lists_of s) (staked_in w) h.stake)
      (with_purses votes w h known))
      (λ z k. state_left P T w z.0 z.1 z.2 h k)

pub allocation_keeps_soundness : AllocationKeepsSoundness
allocation_keeps_soundness votes w s known =
    let P : List ℕ → Type 0 = Contains s.few.some in
    let T : List ℕ → ℕ = total_in w.view in
    weaker_if (allocation_step votes w) (StateLeft P T w) (IsSoundAfter w) (allocation_fits P T votes w (to_fits w s) (recursion_from_All (λ t. (v : Validator) × (validator_by_cons w.mine.staked t.cons ≡ Some v)) votes known.known))
    (λ x k. from_fits x s.few.some T s.few.few k.fits)
