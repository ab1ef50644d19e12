-- What stands of a pair through the rules of staking that call hooks: delegating, unbonding, and what is made, bonded and removed.
use Rattle.std.proofs.Common.{◌≡◌, ◌∙◌, ℕ, ◌+◌, ◌-◌, ◌≤◌, ◌==◌, Bool, true, false, cond, List, [], ◌∷◌, ◌++◌, append-nil, refl, sym, ap, subst, arith, Option, Some, None, Result, Ok, Err, ◌&&◌, ◌||◌, if◌then◌else◌, is_some, nat_le, nat_lt, unwrap_or}
use Rattle.std.specs.{List.Sorted.IsStrictlySortedBy, Map.{keys_of, lookup, remove_entry, values_of}, BTreeMap.is_at}
use Rattle.std.proofs.lemmas.Cmp.{nat_list_cmp_total}
use Rattle.base_decimals.specs.declared.over.Over.{Over}
use Rattle.base_types.specs.declared.{account.{Account.{Account as Holder}}, status.BondStatus.BondStatus}
use Rattle.base_types.specs.declared.status.BondStatus.TheVariants.{Bonded, Unbonding, Unbonded}
use Rattle.base_types.specs.{Modules.module_number, Orders.addr_cmp}
use Rattle.base_types.proofs.MapLemmas.{ascend-put, ascend-taken, at-taken}
use Rattle.base_types.specs.declared.account.Account.TheVariants as account
use Rattle.base_types.specs.declared.account.Module.TheVariants as holder
use Rattle.base_coins.specs.Coins.{Money, coins_added, coins_taken, fractions, whole_coins}
use Rattle.base_shares.specs.Shares.{amount_out}
use Rattle.base_roles.specs.declared.{entities.{Purse.Purse, Validator.Validator}, facts.Fact.Fact}
use Rattle.base_roles.specs.declared.refusal.Refusal.{Refusal, TheVariants.{InsufficientFunds, Overflow}}
use Rattle.base_roles.specs.{Entries.{at, with, without}, Flow.{◌>>=◌, each, stopping}, Holdings.is_short}
use Rattle.base_roles.specs.{Items.no_purse, Log.Log, Orders.same_addr}
use Rattle.base_roles.specs.Staked.{Staked, delegation, is_unbonded, put_validator, validator_at}
use Rattle.base_roles.specs.World.{View, Told, World, call, gives, logged, noted, over_mine, over_view, sent}
use Rattle.base_roles.specs.declared.calls.Hook.{Hook}
use Rattle.base_roles.specs.declared.facts.Fact.TheVariants as fact
use Rattle.base_roles.specs.Log as log
use Rattle.base_roles.specs.declared.calls.Hook.TheVariants as hook
use Rattle.rule_modules.specs.Amounts.{bond_coins}
use Rattle.rule_modules.specs.BondedSet.{difference_moved, joined_set, joining_of, leaving_of, left_set, matured, set_updated, tokens_of, validators_matured}
use Rattle.rule_modules.specs.Delegating.{Origin, delegated, hook_before, paid_in, pool, shares_given, wallet}
use Rattle.rule_modules.specs.{Distribution.{Shared, told_of, unlogged}, Periods.periods_of}
use Rattle.rule_modules.specs.Purses.{Purses, closed, due_at_last, pool_joined, purse_of}
use Rattle.rule_modules.specs.Stakes.{changed, is_unbonding, pool_of, put_delegation, without_shares, without_validator}
use Rattle.rule_modules.specs.Unbonding.{falls_below_minimum, left_standing, put_in_jail, removed_if_empty, unbonded_shares, validator_removed}
use Rattle.rule_modules.proofs.GoingLemmas.{same_ok, step_parts}
use Rattle.law_rewards.proofs.{Beginnings.went_on, Entries.{addr_is, put_elsewhere, put_there}, Following.own_addr}
use Rattle.law_rewards.proofs.{Hooked.same_told, Quiet.{joined_purses, passed}, Staking.removed_with}
use Rattle.mod_recorder.specs.Notes.{Noted}
use Rattle.mod_tracking.specs.{declared.tracker.Pair.Pair, Tracking.Tracked}
use Rattle.law_statements.proofs.Holding.{Holds, IsQuiet, holds_left, holds_less, holds_sent, holds_told, touch}
use Rattle.law_statements.proofs.Hooks.{AreHeard, Goes, HoldsIn, IsCalled, TiedIn, bonded_holds, called, created_holds, created_tied, modified_holds, modified_tied, modifying_holds, modifying_tied, removed_holds, same_ties, starting_holds, starting_tied}
use Rattle.law_statements.proofs.Ties.{IsTied, tied_flat}

-- ---- entries by address

-- what stands at a key stays where another goes
pub gone_elsewhere : {X : Type 0} (k q : List ℕ) (es : List (List ℕ × X)) → same_addr q k ≡ false → lookup (is_at (addr_cmp q)) (remove_entry (is_at (addr_cmp k)) es) ≡ lookup (is_at (addr_cmp q)) es
gone_elsewhere k q [] apart = refl
gone_elsewhere {X} k q (e ∷ es) apart = by (same_addr k e.0) refl (gone_elsewhere k q es apart)
  where
    here : same_addr k e.0 ≡ true → same_addr q e.0 ≡ false
    here h = ap (λ (o : List ℕ). same_addr q o) (sym (addr_is k e.0 h)) ∙ apart

    by : (b : Bool) → same_addr k e.0 ≡ b → lookup (is_at (addr_cmp q)) (remove_entry (is_at (addr_cmp k)) es) ≡ lookup (is_at (addr_cmp q)) es → lookup (is_at (addr_cmp q)) (cond b es (e ∷ remove_entry (is_at (addr_cmp k)) es)) ≡ cond (same_addr q e.0) (Some e.1) (lookup (is_at (addr_cmp q)) es)
    by true h rest = ap (λ (c : Bool). cond c (Some e.1) (lookup (is_at (addr_cmp q)) es)) (sym (here h))
    by false h rest = ap (λ (o : Option X). cond (same_addr q e.0) (Some e.1) o) rest

-- nothing stands where it goes
pub gone_there : {X : Type 0} (k : List ℕ) (es : List (List ℕ × X)) → IsStrictlySortedBy addr_cmp (keys_of es) → lookup (is_at (addr_cmp k)) (remove_entry (is_at (addr_cmp k)) es) ≡ None
gone_there k es s = at-taken addr_cmp nat_list_cmp_total es k k s ∙ ap (λ b. cond b None (lookup (is_at (addr_cmp k)) es)) (own_addr k)

never_some : {X : Type 0} (o : Option X) → o ≡ None → is_some o ≡ true → ⊥
never_some o none some = absurd cc

module _ (p : Pair) (v : Option Validator) (t0 : Tracked) (n0 : ℕ) (base : Log) (earlier : List Fact)
    {H : Type 0} (told : H → Hook → View → Told H) (of : H → Shared × Noted) (are : AreHeard told of) where
  abbrev Keeps : ℕ → World Staked H → Type 0
  Keeps b w = HoldsIn p v t0 n0 base earlier told of are b w

  abbrev Ties : World Staked H → Type 0
  Ties w = TiedIn p v t0 n0 base earlier told of are w

  abbrev Runs : ℕ → World Staked H → Type 0
  Runs b w = Goes p v t0 n0 base earlier told of are b w

  -- a validator stands
  abbrev Stands : List ℕ → World Staked H → Type 0
  Stands operator w = is_some (validator_at w.mine operator) ≡ true

  -- ---- changes of staking alone

  pub goes_put : (b : ℕ) (x : Validator) (w : World Staked H) → Stands x.operator w → Runs b w → Runs b (over_mine (put_validator x) w)
  goes_put b x w there g = record {
    ascend = ascend-put addr_cmp nat_list_cmp_total w.mine.validators x.operator x g.ascend;
    ties = λ now. g.ties (by (same_addr p.operator x.operator) refl now);
    holds = g.holds;
  }
    where
      by : (q : Bool) → same_addr p.operator x.operator ≡ q → is_some (at addr_cmp (with addr_cmp w.mine.validators x.operator x) p.operator) ≡ true → Stands p.operator w
      by true is now = ap (λ (o : List ℕ). is_some (validator_at w.mine o)) (addr_is p.operator x.operator is) ∙ there
      by false is now = sym (ap is_some (put_elsewhere x.operator p.operator x w.mine.validators is)) ∙ now

  stands_put : (x : Validator) (w : World Staked H) → Stands x.operator (over_mine (put_validator x) w)
  stands_put x w = ap is_some (put_there x.operator x w.mine.validators)

  pub goes_told : (b : ℕ) (f : Fact) (w : World Staked H) → IsQuiet p v t0 n0 base earlier f → Runs b w → Runs b (over_view (noted f) w)
  goes_told b f w quiet g = record { ascend = g.ascend; ties = g.ties; holds = holds_told p v t0 n0 base earlier b (of w.hooks).1 w.view.facts w.log f quiet g.holds }

  goes_sent : (b : ℕ) (from to : Holder) (coins : Money) (w : World Staked H) → Runs b w → Runs b (over_view (sent from to coins) w)
  goes_sent b from to coins w g = record { ascend = g.ascend; ties = g.ties; holds = holds_sent p v t0 n0 base earlier b (of w.hooks).1 w.view.facts w.log from to coins g.holds }

  pub goes_less : (b : ℕ) (w : World Staked H) → Runs b w → Runs 0 w
  goes_less b w g = record { ascend = g.ascend; ties = g.ties; holds = holds_less p v t0 n0 base earlier b (of w.hooks).1 w.view.facts w.log g.holds }

  -- ---- after a call

  after_call : (b c : ℕ) (h : Hook) (w y : World Staked H) → IsCalled p v t0 n0 base earlier told of are h w y → Keeps c y → (Ties w → Ties y) → Runs b w → Runs c y
  after_call b c h w y k holds ties g = record {
    ascend = subst (λ (s : Staked). IsStrictlySortedBy addr_cmp (keys_of s.validators)) (sym k.mine) g.ascend;
    ties = λ there. ties (g.ties (ap (λ (s : Staked). is_some (validator_at s p.operator)) (sym k.mine) ∙ there));
    holds = holds;
  }

  -- the pair's ratio is tied where the validator stands
  pub may_end : (b : ℕ) (val : Validator) (w : World Staked H) → Stands val.operator w → Runs b w → same_addr val.operator p.operator ≡ true → Ties w
  may_end b val w there g is = g.ties (ap (λ (o : List ℕ). is_some (validator_at w.mine o)) (sym (addr_is val.operator p.operator is)) ∙ there)

  touch_once : (operator : List ℕ) → touch p v t0 n0 base earlier operator ≤ 1
  touch_once operator = by (same_addr operator p.operator)
    where
      by : (q : Bool) → cond q 1 0 ≤ 1
      by true = omega arith
      by false = omega arith

  -- the hook before a delegation changes
  record HasOpened (w y : World Staked H) : Type 0 where
    b : ℕ
    once : b ≤ 1
    goes : Runs b y
    mine : y.mine ≡ w.mine

  opened : (val : Validator) (who : List ℕ) (held : Option ℕ) (w y : World Staked H) → Stands val.operator w → call told (hook_before val who held) w ≡ Ok y → Runs 0 w → HasOpened w y
  opened val who None w y there e g =
      let k = called p v t0 n0 base earlier told of are (hook.Starting val who) w y e in
      record {
        b = 0;
        once = omega arith;
        goes = after_call 0 0 (hook.Starting val who) w y k (starting_holds p v t0 n0 base earlier told of are val who w y e 0 (may_end 0 val w there g) g.holds) (starting_tied p v t0 n0 base earlier told of are val who w y e) g;
        mine = k.mine;
      }
  opened val who (Some shares) w y there e g =
      let k = called p v t0 n0 base earlier told of are (hook.Modifying val who shares) w y e in
      record {
        b = touch p v t0 n0 base earlier val.operator;
        once = touch_once val.operator;
        goes = after_call 0 (touch p v t0 n0 base earlier val.operator) (hook.Modifying val who shares) w y k
            (modifying_holds p v t0 n0 base earlier told of are val who shares w y e (may_end 0 val w there g) g.holds) (modifying_tied p v t0 n0 base earlier told of are val who shares w y e) g;
        mine = k.mine;
      }

  -- the hook after it
  closed_by : (b : ℕ) (val : Validator) (who : List ℕ) (shares : ℕ) (w y : World Staked H) → b ≤ 1 → call told (hook.Modified val who shares) w ≡ Ok y → Runs b w → Runs b y
  closed_by b val who shares w y once e g =
      after_call b b (hook.Modified val who shares) w y (called p v t0 n0 base earlier told of are (hook.Modified val who shares) w y e)
      (modified_holds p v t0 n0 base earlier told of are val who shares w y e b once g.holds) (modified_tied p v t0 n0 base earlier told of are val who shares w y e) g

  -- ---- delegating

  paid_goes : (b : ℕ) (origin : Origin) (who : List ℕ) (status : BondStatus) (amount : ℕ) (u : View) (w : World Staked H) → paid_in origin who status amount w.view ≡ Ok u → Runs b w → Runs b (over_view (λ x. u) w)
  paid_goes b wallet who status amount u w e g =
      let same : sent (account.User who) (account.Module (pool_of status)) (bond_coins w.view amount) w.view ≡ u =
      same_ok _ u (passed (is_short w.view.bank (account.User who) (bond_coins w.view amount)) InsufficientFunds _ u e) in
      subst (λ (x : View). Runs b (over_view (λ y. x) w)) same (goes_sent b (account.User who) (account.Module (pool_of status)) (bond_coins w.view amount) w g)
  paid_goes b (pool from) who status amount u w e g = by (module_number (pool_of from) == module_number (pool_of status)) e
    where
      by : (q : Bool) → ◌≡◌ {A = Result View Refusal} (if q then Ok w.view else Ok (sent (account.Module (pool_of from)) (account.Module (pool_of status)) (bond_coins w.view amount) w.view)) (Ok u) → Runs b (over_view (λ y. u) w)
      by true h = subst (λ (x : View). Runs b (over_view (λ y. x) w)) (same_ok w.view u h) g
      by false h =
          subst (λ (x : View). Runs b (over_view (λ y. x) w)) (same_ok (sent (account.Module (pool_of from)) (account.Module (pool_of status)) (bond_coins w.view amount) w.view) u h)
          (goes_sent b (account.Module (pool_of from)) (account.Module (pool_of status)) (bond_coins w.view amount) w g)

  pub delegated_goes : (val : Validator) (who : List ℕ) (amount : ℕ) (origin : Origin) (w : World Staked H) (x : ℕ × World Staked H) → Stands val.operator w → delegated told val who amount origin w ≡ Ok x → Runs 0 w → Runs 0 x.1
  delegated_goes val who amount origin w x there e g =
      let held : Option ℕ = delegation w.mine who val.operator in
      let one : (issued : ℕ) × (shares_given val amount ≡ Ok issued)
      × ((stopping Overflow (call told (hook_before val who held) w) >>= λ w1. paid_in origin who val.status amount w1.view >>= λ u. stopping Overflow (call told (hook.Modified (grown issued) who (shares issued)) (put issued u w1)) >>= λ w3. Ok (issued, w3)) ≡ Ok x) =
      step_parts (shares_given val amount)
      (λ issued. stopping Overflow (call told (hook_before val who held) w) >>= λ w1. paid_in origin who val.status amount w1.view >>= λ u. stopping Overflow (call told (hook.Modified (grown issued) who (shares issued)) (put issued u w1)) >>= λ w3. Ok (issued, w3)) x e in
      let issued : ℕ = one.0 in
      let two = step_parts (stopping Overflow (call told (hook_before val who held) w))
      (λ w1. paid_in origin who val.status amount w1.view >>= λ u. stopping Overflow (call told (hook.Modified (grown issued) who (shares issued)) (put issued u w1)) >>= λ w3. Ok (issued, w3)) x one.2 in
      let w1 : World Staked H = two.0 in
      let three = step_parts (paid_in origin who val.status amount w1.view) (λ u. stopping Overflow (call told (hook.Modified (grown issued) who (shares issued)) (put issued u w1)) >>= λ w3. Ok (issued, w3)) x two.2 in
      let u : View = three.0 in
      let four = step_parts (stopping Overflow (call told (hook.Modified (grown issued) who (shares issued)) (put issued u w1))) (λ w3. Ok (issued, w3)) x three.2 in
      let w3 : World Staked H = four.0 in
      let o : HasOpened w w1 = opened val who held w w1 there (went_on Overflow (call told (hook_before val who held) w) w1 two.1) g in
      let stands : Stands val.operator w1 = ap (λ (s : Staked). is_some (validator_at s val.operator)) o.mine ∙ there in
      let paid : Runs o.b (over_view (λ y. u) w1) = paid_goes o.b origin who val.status amount u w1 three.1 o.goes in
      let set : Runs o.b (over_mine (put_validator (grown issued)) (over_view (λ y. u) w1)) = goes_put o.b (grown issued) (over_view (λ y. u) w1) stands paid in
      let both : Runs o.b (put issued u w1) = record { ascend = set.ascend; ties = set.ties; holds = set.holds } in
      let last : Runs o.b w3 = closed_by o.b (grown issued) who (shares issued) (put issued u w1) w3 o.once (went_on Overflow (call told (hook.Modified (grown issued) who (shares issued)) (put issued u w1)) w3 four.1) both in
      subst (λ (y : ℕ × World Staked H). Runs 0 y.1) (same_ok (issued, w3) x four.2) (goes_less o.b w3 last)
    where
      grown : ℕ → Validator
      grown issued = record val { tokens = val.tokens + amount; shares = val.shares + issued }

      shares : ℕ → ℕ
      shares issued = unwrap_or (delegation w.mine who val.operator) 0 + issued

      put : ℕ → View → World Staked H → World Staked H
      put issued u w1 = over_view (λ y. u) (over_mine (λ s. put_delegation who val.operator (shares issued) (put_validator (grown issued) s)) w1)

  -- ---- a validator goes

  -- what a removed validator leaves of another's ratio
  removed_ties : (val : Validator) (w y : World Staked H) → call told (hook.Removed val) w ≡ Ok y → same_addr p.operator val.operator ≡ false → Ties w → Ties y
  removed_ties val w y e apart t =
      subst (λ (l : Log). IsTied p.operator (periods_of (of y.hooks).0.rewards p.operator) (purse_of (of y.hooks).0.purses p.operator).current l) (sym k.log)
      (by (closed val.operator d.purses) refl k.given)
    where
      k : IsCalled p v t0 n0 base earlier told of are (hook.Removed val) w y
      k = called p v t0 n0 base earlier told of are (hook.Removed val) w y e

      d : Shared
      d = (of w.hooks).0

      purses_left : (z : Money × Money × Purses) → closed val.operator d.purses ≡ Ok z → z.2.purses ≡ without addr_cmp d.purses.purses val.operator
      purses_left z h =
          let due : Money = due_at_last (purse_of d.purses val.operator) in
          let left : Purses = record d.purses { purses = without addr_cmp d.purses.purses val.operator } in
          let one = step_parts (coins_added (fractions due) (coins_taken (purse_of d.purses val.operator).outstanding due)) (λ rest. pool_joined rest left >>= λ q. Ok (whole_coins due, rest, q)) z h in
          let two = step_parts (pool_joined one.0 left) (λ q. Ok (whole_coins due, one.0, q)) z one.2 in
          sym (ap (λ (x : Money × Money × Purses). x.2.purses) (same_ok (whole_coins due, one.0, two.0) z two.2)) ∙ joined_purses one.0 left two.0 two.1

      by : (q : Result (Money × Money × Purses) Over) → closed val.operator d.purses ≡ q → told_of (unlogged (q >>= λ z. Ok (removed_with val d w.view z))) ≡ gives (of y.hooks).0 y.view k.more
          → IsTied p.operator (periods_of (of y.hooks).0.rewards p.operator) (purse_of (of y.hooks).0.purses p.operator).current (w.log ++ k.more)
      by (Ok z) is h =
          let out : Shared × View = removed_with val d w.view z in
          let same = same_told out.0 (of y.hooks).0 out.1 y.view [] k.more h in
          let left : IsTied p.operator (periods_of out.0.rewards p.operator) (purse_of out.0.purses p.operator).current w.log =
          same_ties p v t0 n0 base earlier d out.0 w.log (gone_elsewhere val.operator p.operator d.rewards.periods apart)
          (ap (λ es. (unwrap_or (at addr_cmp es p.operator) no_purse).current) (purses_left z is) ∙ ap (λ (o : Option Purse). (unwrap_or o no_purse).current) (gone_elsewhere val.operator p.operator d.purses.purses apart)) t in
          subst (λ (m : Log). IsTied p.operator (periods_of (of y.hooks).0.rewards p.operator) (purse_of (of y.hooks).0.purses p.operator).current (w.log ++ m)) same.2
          (subst (λ (l : Log). IsTied p.operator (periods_of (of y.hooks).0.rewards p.operator) (purse_of (of y.hooks).0.purses p.operator).current l) (sym (append-nil w.log))
          (subst (λ (c : Shared). IsTied p.operator (periods_of c.rewards p.operator) (purse_of c.purses p.operator).current w.log) same.0 left))
      by (Err over) is h = absurd cc

  gone_goes : (b : ℕ) (val : Validator) (w y : World Staked H) → validator_removed told val w ≡ Ok y → Runs b w → Runs b y
  gone_goes b val w y e g =
      let without_it : World Staked H = over_mine (without_validator val.operator) w in
      let one = step_parts (call told (hook.Removed val) without_it) (λ x. Ok (over_view (noted (fact.Removed val.operator)) x)) y e in
      let x : World Staked H = one.0 in
      let k = called p v t0 n0 base earlier told of are (hook.Removed val) without_it x one.1 in
      let ascend : IsStrictlySortedBy addr_cmp (keys_of x.mine.validators) =
      subst (λ (s : Staked). IsStrictlySortedBy addr_cmp (keys_of s.validators)) (sym k.mine) (ascend-taken addr_cmp (is_at (addr_cmp val.operator)) w.mine.validators g.ascend) in
      let holds : Keeps b x = removed_holds p v t0 n0 base earlier told of are val without_it x one.1 b g.holds in
      subst (Runs b) (same_ok (over_view (noted (fact.Removed val.operator)) x) y one.2)
      (goes_told b (fact.Removed val.operator) x (λ f. refl) (record { ascend = ascend; ties = ties x k one.1; holds = holds }))
    where
      ties : (x : World Staked H) → IsCalled p v t0 n0 base earlier told of are (hook.Removed val) (over_mine (without_validator val.operator) w) x → call told (hook.Removed val) (over_mine (without_validator val.operator) w) ≡ Ok x → Stands p.operator x → Ties x
      ties x k h there = by (same_addr p.operator val.operator) refl (ap (λ (s : Staked). is_some (validator_at s p.operator)) (sym k.mine) ∙ there)
        where
          by : (q : Bool) → same_addr p.operator val.operator ≡ q → is_some (at addr_cmp (without addr_cmp w.mine.validators val.operator) p.operator) ≡ true → Ties x
          by true is now =
              let none : at addr_cmp (without addr_cmp w.mine.validators val.operator) p.operator ≡ None =
              ap (λ (o : List ℕ). at addr_cmp (without addr_cmp w.mine.validators o) p.operator) (sym (addr_is p.operator val.operator is)) ∙ gone_there p.operator w.mine.validators g.ascend in
              absurd (never_some (at addr_cmp (without addr_cmp w.mine.validators val.operator) p.operator) none now)
          by false apart now =
              removed_ties val (over_mine (without_validator val.operator) w) x h apart (g.ties (sym (ap is_some (gone_elsewhere val.operator p.operator w.mine.validators apart)) ∙ now))

  pub emptied_goes : (b : ℕ) (val : Validator) (w y : World Staked H) → removed_if_empty told val w ≡ Ok y → Runs b w → Runs b y
  emptied_goes b val w y e g = by (is_unbonded val.status && (val.shares == 0)) e
    where
      by : (q : Bool) → (if q then validator_removed told val w else Ok w) ≡ Ok y → Runs b y
      by true h = gone_goes b val w y h g
      by false h = subst (Runs b) (same_ok w y h) g

  -- ---- unbonding

  standing_goes : (b : ℕ) (val : Validator) (who : List ℕ) (left : ℕ) (w y : World Staked H) → b ≤ 1 → left_standing told val who left w ≡ Ok y → Runs b w → Runs b y × (y.mine.validators ≡ w.mine.validators)
  standing_goes b val who left w y once e g = by (left == 0) e
    where
      by : (q : Bool) → (if q then Ok (over_mine (without_shares who val.operator) w) else call told (hook.Modified val who left) (over_mine (put_delegation who val.operator left) w)) ≡ Ok y → Runs b y × (y.mine.validators ≡ w.mine.validators)
      by true h =
          let same : over_mine (without_shares who val.operator) w ≡ y = same_ok (over_mine (without_shares who val.operator) w) y h in
          subst (λ (x : World Staked H). Runs b x × (x.mine.validators ≡ w.mine.validators)) same (record { ascend = g.ascend; ties = g.ties; holds = g.holds }, refl)
      by false h =
          let put : World Staked H = over_mine (put_delegation who val.operator left) w in
          let k = called p v t0 n0 base earlier told of are (hook.Modified val who left) put y h in
          (closed_by b val who left put y once h (record { ascend = g.ascend; ties = g.ties; holds = g.holds }), ap (λ (s : Staked). s.validators) k.mine)

  pub unbonded_goes : (val : Validator) (who : List ℕ) (held part : ℕ) (w : World Staked H) (x : ℕ × World Staked H) → Stands val.operator w → unbonded_shares told val who held part w ≡ Ok x → Runs 0 w → Runs 0 x.1
  unbonded_goes val who held part w x there e g =
      let one = step_parts (call told (hook.Modifying val who held) w)
      (λ w1. left_standing told now who (held - part) (if falls then put_in_jail val w1 else w1) >>= λ w2. removed_if_empty told less (logged val.operator log.left (over_mine (put_validator less) w2)) >>= λ w3. Ok (out, w3)) x e in
      let w1 : World Staked H = one.0 in
      let two = step_parts (left_standing told now who (held - part) (if falls then put_in_jail val w1 else w1)) (λ w2. removed_if_empty told less (logged val.operator log.left (over_mine (put_validator less) w2)) >>= λ w3. Ok (out, w3)) x one.2 in
      let w2 : World Staked H = two.0 in
      let three = step_parts (removed_if_empty told less (logged val.operator log.left (over_mine (put_validator less) w2))) (λ w3. Ok (out, w3)) x two.2 in
      let w3 : World Staked H = three.0 in
      let k = called p v t0 n0 base earlier told of are (hook.Modifying val who held) w w1 one.1 in
      let first : Runs b w1 = after_call 0 b (hook.Modifying val who held) w w1 k
      (modifying_holds p v t0 n0 base earlier told of are val who held w w1 one.1 (may_end 0 val w there g) g.holds) (modifying_tied p v t0 n0 base earlier told of are val who held w w1 one.1) g in
      let stands : Stands val.operator w1 = ap (λ (s : Staked). is_some (validator_at s val.operator)) k.mine ∙ there in
      let jailed : Runs b (if falls then put_in_jail val w1 else w1) × Stands val.operator (if falls then put_in_jail val w1 else w1) = jails falls w1 stands first in
      let second = standing_goes b now who (held - part) (if falls then put_in_jail val w1 else w1) w2 (touch_once val.operator) two.1 jailed.0 in
      let stands2 : Stands val.operator w2 = ap (λ (vs : List (List ℕ × Validator)). is_some (at addr_cmp vs val.operator)) second.1 ∙ jailed.1 in
      let set : Runs b (over_mine (put_validator less) w2) = goes_put b less w2 stands2 second.0 in
      let gone : Runs 0 (logged val.operator log.left (over_mine (put_validator less) w2)) = leaves (over_mine (put_validator less) w2) set in
      subst (λ (y : ℕ × World Staked H). Runs 0 y.1) (same_ok (out, w3) x three.2) (emptied_goes 0 less (logged val.operator log.left (over_mine (put_validator less) w2)) w3 three.1 gone)
    where
      falls : Bool
      falls = falls_below_minimum val who (held - part)

      now : Validator
      now = record val { jailed = val.jailed || falls }

      out : ℕ
      out = amount_out val.tokens val.shares part

      less : Validator
      less = record now { tokens = val.tokens - out; shares = val.shares - part }

      b : ℕ
      b = touch p v t0 n0 base earlier val.operator

      jails : (q : Bool) (w1 : World Staked H) → Stands val.operator w1 → Runs b w1 → Runs b (if q then put_in_jail val w1 else w1) × Stands val.operator (if q then put_in_jail val w1 else w1)
      jails true w1 stands r =
          let jail : Validator = record val { jailed = true } in
          (goes_told b (fact.Jailed val.operator) (over_mine (put_validator jail) w1) (λ f. refl) (goes_put b jail w1 stands r), stands_put jail w1)
      jails false w1 stands r = (r, stands)

      leaves : (y : World Staked H) → Runs b y → Runs 0 (logged val.operator log.left y)
      leaves y r = record {
        ascend = r.ascend;
        ties = λ there. tied_flat p.operator y.log val.operator log.left (periods_of (of y.hooks).0.rewards p.operator) (purse_of (of y.hooks).0.purses p.operator).current (record { stays = λ es. refl; rises = λ d. refl }) (r.ties there);
        holds = holds_left p v t0 n0 base earlier val.operator (of y.hooks).1 y.view.facts y.log r.holds;
      }

  -- what holds of validators where the one is put, or goes, holds of what is left
  module _ (P : List (List ℕ × Validator) → Type 0) (val : Validator) (who : List ℕ) (held part : ℕ) (w : World Staked H) (x : ℕ × World Staked H)
      (put : (y : Validator) (es : List (List ℕ × Validator)) → y.operator ≡ val.operator → y.tokens ≤ val.tokens → P es → P (with addr_cmp es y.operator y))
      (gone : (es : List (List ℕ × Validator)) → P es → P (without addr_cmp es val.operator)) where
    abbrev kept_falls : Bool
    kept_falls = falls_below_minimum val who (held - part)

    abbrev kept_now : Validator
    kept_now = record val { jailed = val.jailed || kept_falls }

    abbrev kept_out : ℕ
    kept_out = amount_out val.tokens val.shares part

    abbrev kept_less : Validator
    kept_less = record kept_now { tokens = val.tokens - kept_out; shares = val.shares - part }

    jail_kept : (q : Bool) (y : World Staked H) → P y.mine.validators → P (if q then put_in_jail val y else y).mine.validators
    jail_kept true y r = put (record val { jailed = true }) y.mine.validators refl (itself val.tokens) r
      where
        itself : (n : ℕ) → n ≤ n
        itself n = omega arith
    jail_kept false y r = r

    gone_kept : (y z : World Staked H) → removed_if_empty told kept_less y ≡ Ok z → P y.mine.validators → P z.mine.validators
    gone_kept y z e r = by (is_unbonded kept_less.status && (kept_less.shares == 0)) e
      where
        by : (q : Bool) → (if q then validator_removed told kept_less y else Ok y) ≡ Ok z → P z.mine.validators
        by true g =
            let less : World Staked H = over_mine (without_validator val.operator) y in
            let one = step_parts (call told (hook.Removed kept_less) less) (λ t. Ok (over_view (noted (fact.Removed val.operator)) t)) z g in
            let k = called p v t0 n0 base earlier told of are (hook.Removed kept_less) less one.0 one.1 in
            subst (λ (t : World Staked H). P t.mine.validators) (same_ok (over_view (noted (fact.Removed val.operator)) one.0) z one.2)
            (subst (λ (s : Staked). P s.validators) (sym k.mine) (gone y.mine.validators r))
        by false g = subst (λ (t : World Staked H). P t.mine.validators) (same_ok y z g) r

    standing_kept : (y z : World Staked H) → left_standing told kept_now who (held - part) y ≡ Ok z → z.mine.validators ≡ y.mine.validators
    standing_kept y z e = by (held - part == 0) e
      where
        without_it : World Staked H
        without_it = over_mine (without_shares who val.operator) y

        with_it : World Staked H
        with_it = over_mine (put_delegation who val.operator (held - part)) y

        by : (q : Bool) → (if q then Ok without_it else call told (hook.Modified kept_now who (held - part)) with_it) ≡ Ok z → z.mine.validators ≡ y.mine.validators
        by true h = ap (λ (t : World Staked H). t.mine.validators) (sym (same_ok without_it z h))
        by false h = ap (λ (s : Staked). s.validators) (called p v t0 n0 base earlier told of are (hook.Modified kept_now who (held - part)) with_it z h).mine

    pub unbonded_kept : unbonded_shares told val who held part w ≡ Ok x → P w.mine.validators → P x.1.mine.validators
    unbonded_kept e r =
        let one = step_parts (call told (hook.Modifying val who held) w)
        (λ w1. left_standing told kept_now who (held - part) (if kept_falls then put_in_jail val w1 else w1) >>= λ w2. removed_if_empty told kept_less (logged val.operator log.left (over_mine (put_validator kept_less) w2)) >>= λ w3. Ok (kept_out, w3)) x e in
        let w1 : World Staked H = one.0 in
        let jailed : World Staked H = (if kept_falls then put_in_jail val w1 else w1) in
        let two = step_parts (left_standing told kept_now who (held - part) jailed) (λ w2. removed_if_empty told kept_less (logged val.operator log.left (over_mine (put_validator kept_less) w2)) >>= λ w3. Ok (kept_out, w3)) x one.2 in
        let w2 : World Staked H = two.0 in
        let three = step_parts (removed_if_empty told kept_less (logged val.operator log.left (over_mine (put_validator kept_less) w2))) (λ w3. Ok (kept_out, w3)) x two.2 in
        let k = called p v t0 n0 base earlier told of are (hook.Modifying val who held) w w1 one.1 in
        let first : P w1.mine.validators = subst (λ (s : Staked). P s.validators) (sym k.mine) r in
        let second : P w2.mine.validators = subst P (sym (standing_kept jailed w2 two.1)) (jail_kept kept_falls w1 first) in
        let third : P (with addr_cmp w2.mine.validators val.operator kept_less) = put kept_less w2.mine.validators refl (lowered val.tokens kept_out) second in
        subst (λ (t : ℕ × World Staked H). P t.1.mine.validators) (same_ok (kept_out, three.0) x three.2)
        (gone_kept (logged val.operator log.left (over_mine (put_validator kept_less) w2)) three.0 three.1 third)
      where
        lowered : (a c : ℕ) → a - c ≤ a
        lowered a c = omega arith

  -- ---- a new validator

  pub stored_goes : (val : Validator) (w y : World Staked H) → call told (hook.Created val) (over_mine (put_validator val) w) ≡ Ok y → Runs 0 w → Runs 0 y × Stands val.operator y
  stored_goes val w y e g =
      let put : World Staked H = over_mine (put_validator val) w in
      let k = called p v t0 n0 base earlier told of are (hook.Created val) put y e in
      let back : Stands p.operator y → is_some (at addr_cmp (with addr_cmp w.mine.validators val.operator val) p.operator) ≡ true = λ there. ap (λ (s : Staked). is_some (validator_at s p.operator)) (sym k.mine) ∙ there in (
        record {
          ascend = subst (λ (s : Staked). IsStrictlySortedBy addr_cmp (keys_of s.validators)) (sym k.mine) (ascend-put addr_cmp nat_list_cmp_total w.mine.validators val.operator val g.ascend);
          ties = λ there. created_tied p v t0 n0 base earlier told of are val put y e (λ apart. g.ties (sym (ap is_some (put_elsewhere val.operator p.operator val w.mine.validators apart)) ∙ back there));
          holds = created_holds p v t0 n0 base earlier told of are val put y e g.holds;
        },
        ap (λ (s : Staked). is_some (validator_at s val.operator)) k.mine ∙ stands_put val w,
      )

  -- ---- the bonded set, and validators that are mature, of which no ratio is asked

  joined_holds : (val : Validator) (w y : World Staked H) → joined_set told val w ≡ Ok y → Keeps 0 w → Keeps 0 y
  joined_holds val w y e h =
      bonded_holds p v t0 n0 base earlier told of are (record val { status = Bonded }) (changed val Bonded w) y e 0
      (holds_told p v t0 n0 base earlier 0 (of w.hooks).1 w.view.facts w.log (fact.Changed val.operator Bonded) (λ f. refl) h)

  left_holds : (val : Validator) (w y : World Staked H) → left_set told val w ≡ Ok y → Keeps 0 w → Keeps 0 y
  left_holds val w y e h =
      subst (Keeps 0) (same_ok _ y e) (holds_told p v t0 n0 base earlier 0 (of w.hooks).1 w.view.facts w.log (fact.Changed val.operator Unbonding) (λ f. refl) h)

  each_holds : (f : Validator → World Staked H → Result (World Staked H) Over) → ((x : Validator) (w y : World Staked H) → f x w ≡ Ok y → Keeps 0 w → Keeps 0 y) → (xs : List Validator) (w y : World Staked H) → each f xs w ≡ Ok y → Keeps 0 w → Keeps 0 y
  each_holds f one [] w y e h = subst (Keeps 0) (same_ok w y e) h
  each_holds f one (x ∷ xs) w y e h = let parts = step_parts (f x w) (λ t. each f xs t) y e in each_holds f one xs parts.0 y parts.2 (one x w parts.0 parts.1 h)

  pub set_holds : (w y : World Staked H) → set_updated told w ≡ Ok y → Keeps 0 w → Keeps 0 y
  set_holds w y e h =
      let reduction : ℕ = w.view.ctx.params.power_reduction in
      let most : ℕ = w.view.ctx.params.max_validators in
      let joining : List Validator = joining_of reduction most (values_of w.mine.validators) in
      let leaving : List Validator = leaving_of reduction most (values_of w.mine.validators) in
      let one = step_parts (each (joined_set told) joining w) (λ w1. each (left_set told) leaving w1 >>= λ w2. Ok (over_view (difference_moved (tokens_of joining) (tokens_of leaving)) w2)) y e in
      let two = step_parts (each (left_set told) leaving one.0) (λ w2. Ok (over_view (difference_moved (tokens_of joining) (tokens_of leaving)) w2)) y one.2 in
      let joined : Keeps 0 one.0 = each_holds (joined_set told) joined_holds joining w one.0 one.1 h in
      let left : Keeps 0 two.0 = each_holds (left_set told) left_holds leaving one.0 two.0 two.1 joined in
      subst (Keeps 0) (same_ok (over_view (difference_moved (tokens_of joining) (tokens_of leaving)) two.0) y two.2) (moved (tokens_of joining) (tokens_of leaving) two.0 left)
    where
      moved : (a c : ℕ) (x : World Staked H) → Keeps 0 x → Keeps 0 (over_view (difference_moved a c) x)
      moved a c x k = by (nat_lt c a)
        where
          by : (q : Bool) → Holds p v t0 n0 base earlier 0 (of x.hooks).1 (if q then sent (account.Module holder.NotBonded) (account.Module holder.Bonded) (bond_coins x.view (a - c)) x.view else sent (account.Module holder.Bonded) (account.Module holder.NotBonded) (bond_coins x.view (c - a)) x.view).facts x.log
          by true = holds_sent p v t0 n0 base earlier 0 (of x.hooks).1 x.view.facts x.log (account.Module holder.NotBonded) (account.Module holder.Bonded) (bond_coins x.view (a - c)) k
          by false = holds_sent p v t0 n0 base earlier 0 (of x.hooks).1 x.view.facts x.log (account.Module holder.Bonded) (account.Module holder.NotBonded) (bond_coins x.view (c - a)) k

  gone_holds : (val : Validator) (w y : World Staked H) → removed_if_empty told val w ≡ Ok y → Keeps 0 w → Keeps 0 y
  gone_holds val w y e h = by (is_unbonded val.status && (val.shares == 0)) e
    where
      by : (q : Bool) → (if q then validator_removed told val w else Ok w) ≡ Ok y → Keeps 0 y
      by true g =
          let without_it : World Staked H = over_mine (without_validator val.operator) w in
          let one = step_parts (call told (hook.Removed val) without_it) (λ x. Ok (over_view (noted (fact.Removed val.operator)) x)) y g in
          let x : World Staked H = one.0 in
          subst (Keeps 0) (same_ok (over_view (noted (fact.Removed val.operator)) x) y one.2)
          (holds_told p v t0 n0 base earlier 0 (of x.hooks).1 x.view.facts x.log (fact.Removed val.operator) (λ f. refl) (removed_holds p v t0 n0 base earlier told of are val without_it x one.1 0 h))
      by false g = subst (Keeps 0) (same_ok w y g) h

  matured_holds : (val : Validator) (w y : World Staked H) → matured told val w ≡ Ok y → Keeps 0 w → Keeps 0 y
  matured_holds val w y e h = by (is_unbonding val.status && nat_le val.unbonding_time w.view.ctx.time) e
    where
      by : (q : Bool) → (if q then removed_if_empty told (record val { status = Unbonded }) (changed val Unbonded w) else Ok w) ≡ Ok y → Keeps 0 y
      by true g =
          gone_holds (record val { status = Unbonded }) (changed val Unbonded w) y g
          (holds_told p v t0 n0 base earlier 0 (of w.hooks).1 w.view.facts w.log (fact.Changed val.operator Unbonded) (λ f. refl) h)
      by false g = subst (Keeps 0) (same_ok w y g) h

  pub maturing_holds : (w y : World Staked H) → validators_matured told w ≡ Ok y → Keeps 0 w → Keeps 0 y
  maturing_holds w y e h = each_holds (matured told) matured_holds (values_of w.mine.validators) w y e h
