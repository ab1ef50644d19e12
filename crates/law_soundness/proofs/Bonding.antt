-- The bonded set made anew keeps a state sound: those that join, those that leave, then the difference of their tokens moves.
use Rattle.std.proofs.Common.{◌≡◌, ◌∙◌, ℕ, ◌+◌, ◌*◌, ◌^◌, ◌<◌, ◌≤◌, Bool, true, false, cond, List, [], ◌∷◌, map, Some, None, Option, refl, sym, ap, subst, arith, ◌-◌, ◌&&◌, not, filter, nat_lt, if◌then◌else◌, IfOk, IsSome, is_some}
use Rattle.std.{specs.{BTreeMap.is_at, List.AllByRecursion, Map.values_of}, proofs.lemmas.Bool.Decides.nat_tests}
use Rattle.std.proofs.lemmas.List.{Elements.{All-from_recursion, recursion_from_All}, Sums.sum_by-cons}
use Rattle.base_types.specs.declared.{account.Account.Account, status.BondStatus.BondStatus}
use Rattle.base_types.specs.declared.status.BondStatus.TheVariants.{Bonded, Unbonding, Unbonded}
use Rattle.base_types.specs.Orders.{addr_cmp, cons_cmp}
use Rattle.base_types.specs.declared.account.Account.TheVariants as account
use Rattle.base_types.specs.declared.account.Module.TheVariants as holder
use Rattle.base_roles.specs.declared.facts.Fact.TheVariants as fact
use Rattle.base_roles.specs.{declared.{entities.Validator.Validator, params.Ctx.Ctx}, Flow.each}
use Rattle.base_roles.specs.{World.{View, World, sent, over_view}, Entries.at}
use Rattle.base_roles.specs.{Holdings.{IsBacked, balance_of, is_short}, Orders.{pair_cmp, same_addr}}
use Rattle.base_roles.specs.Staked.{Staked, bonded_tokens, is_bonded, is_unbonded, lists_of, other_tokens, validator_at}
use Rattle.base_roles.{specs.StakeChanges.of_bond, proofs.HoldingLemmas.balance-most}
use Rattle.law_soundness.proofs.Burns.{SayNoMore, quiet_behind}
use Rattle.law_soundness.proofs.Delegating.{others, bond_money, bond_moved, falls, has_enough, rises_to, same_sum, state_with}
use Rattle.law_soundness.proofs.Lists.{all_put, looked_up, weaker}
use Rattle.law_soundness.proofs.Maturing.{AllStand, operators_are, stand_still, values_stand}
use Rattle.law_soundness.proofs.{Moves.{ground_sent, keeps, same_bond, ground_told}, Periods.same_some}
use Rattle.law_soundness.proofs.Points.{GroundFits, IsRecorded, SharedFits, StakeFits, StateFits, StateLeft}
use Rattle.law_soundness.proofs.{Purses.there_still, Standing.relisted, Steps.{and_also, on_then, weaker_if}}
use Rattle.law_soundness.specs.StepLaws.{BondingKeepsSoundness}
use Rattle.rule_modules.specs.BondedSet.{HaveOwnOperators, placed, by_power, joined_set, left_set, set_updated, joining_of, leaving_of, difference_moved, is_in_bonded_set, stands_before, tokens_of}
use Rattle.rule_modules.specs.{Amounts.bond_coins, Chain.{Hooks, State, chain_told, set_step, staked_in}}
use Rattle.rule_modules.specs.{Owed.{entry_balances, owed_from_distribution}, Sound.{SigningIsSound, WindowIsSound}}
use Rattle.rule_modules.specs.{Unbondings.completion, Window.{Signing, Window, begun_at, signing_of, signing_started}}
use Rattle.rule_modules.proofs.OperatorLemmas.{filtered_all, filtered_own, ordered_all, ordered_own, values_own}
use Rattle.rule_modules.proofs.EntryLemmas.{ascend-put, at-put}
use Rattle.rule_modules.proofs.OrderLemmas.{cons_total, same_back, same_is, same_itself}
use Rattle.rule_modules.proofs.{SoundLemmas.{IsSoundAt, exact_addr, found-put, sound-put}, TokenLemmas.tokens-put}

-- ---- signing records

begun_sound : (height : ℕ) (r : Option Signing) → height < 2 ^ 63 → ((s : Signing) → r ≡ Some s → SigningIsSound height s) → SigningIsSound height (begun_at height r)
begun_sound height None l h = record { counted = omega arith; start = l }
begun_sound height (Some s) l h = record { counted = (h s refl).counted; start = l }

started_sound : (height : ℕ) (cons : List ℕ) (i : Window) → height < 2 ^ 63 → WindowIsSound height i → WindowIsSound height (signing_started height cons i)
started_sound height cons i l h = record {
  ascend = ascend-put cons_cmp cons_total i cons (begun_at height (signing_of i cons)) h.ascend;
  records = All-from_recursion (λ e. SigningIsSound height e.1) (signing_started height cons i)
      (all_put (λ (e : List ℕ × Signing). SigningIsSound height e.1) cons_cmp exact_addr cons (begun_at height (signing_of i cons)) i
      (begun_sound height (signing_of i cons) l (λ s f. looked_up (λ (e : List ℕ × Signing). SigningIsSound height e.1) (is_at (cons_cmp cons)) (SigningIsSound height) (λ k x t g. g) i s f each_sound)) each_sound);
}
  where
    each_sound : AllByRecursion (λ e. SigningIsSound height e.1) i
    each_sound = recursion_from_All (λ e. SigningIsSound height e.1) i h.records

still_some : (b : Bool) (x : Signing) (r : Option Signing) → IsSome r → IsSome (cond b (Some x) r)
still_some true x r h = refl
still_some false x r h = h

signing_after : (height : ℕ) (cons q : List ℕ) (i : Window) → signing_of (signing_started height cons i) q ≡ cond (is_at (cons_cmp q) cons) (Some (begun_at height (signing_of i cons))) (signing_of i q)
signing_after height cons q i = at-put cons_cmp cons_total i cons q (begun_at height (signing_of i cons))

recorded_still : (height : ℕ) (cons q : List ℕ) (i : Window) → IsSome (signing_of i q) → IsSome (signing_of (signing_started height cons i) q)
recorded_still height cons q i h = subst IsSome (sym (signing_after height cons q i)) (still_some (is_at (cons_cmp q) cons) (begun_at height (signing_of i cons)) (signing_of i q) h)

recorded_now : (height : ℕ) (cons : List ℕ) (i : Window) → IsSome (signing_of (signing_started height cons i) cons)
recorded_now height cons i = subst IsSome (sym (signing_after height cons cons i ∙ ap (λ b. cond b (Some (begun_at height (signing_of i cons))) (signing_of i cons)) (same_itself cons))) refl

-- ---- tokens that count elsewhere

joins : (s : Bool) (t x y up down : ℕ) → s ≡ false → y + cond s t 0 ≡ x + t → x + down ≡ up → y + down ≡ up + t
joins true t x y up down e f g = absurd cc
joins false t x y up down e f g = omega (arith, f, g)

joins_other : (s : Bool) (t x y up down : ℕ) → s ≡ false → y + cond (cond s false true) t 0 ≡ x + 0 → x + up ≡ down → y + (up + t) ≡ down
joins_other true t x y up down e f g = absurd cc
joins_other false t x y up down e f g = omega (arith, f, g)

leaves_set : (s : Bool) (t x y up down : ℕ) → s ≡ true → y + cond s t 0 ≡ x + 0 → x + down ≡ up → y + (down + t) ≡ up
leaves_set true t x y up down e f g = omega (arith, f, g)
leaves_set false t x y up down e f g = absurd cc

leaves_other : (s : Bool) (t x y up down : ℕ) → s ≡ true → y + cond (cond s false true) t 0 ≡ x + t → x + up ≡ down → y + up ≡ down + t
leaves_other true t x y up down e f g = omega (arith, f, g)
leaves_other false t x y up down e f g = absurd cc

-- what the set's changes leave of all but the accounts: so many tokens count among the bonded, and so many among the others
record HasShifted (w0 : World Staked Hooks) (up down : ℕ) (w : World Staked Hooks) : Type 0 where
  staked : IsSoundAt w0.view.ctx.height w.mine
  operators : (o : List ℕ) → is_some (validator_at w.mine o) ≡ is_some (validator_at w0.mine o)
  delegations : w.mine.delegations ≡ w0.mine.delegations
  shared : w.hooks.0 ≡ w0.hooks.0
  bank : w.view.bank ≡ w0.view.bank
  ctx : w.view.ctx ≡ w0.view.ctx
  said : SayNoMore w0.view.facts w.view.facts
  window : WindowIsSound w0.view.ctx.height w.hooks.1
  recorded : AllByRecursion (IsRecorded w.hooks.1) w.mine.validators
  bonded : bonded_tokens w.mine + down ≡ bonded_tokens w0.mine + up
  other : other_tokens w.mine + up ≡ other_tokens w0.mine + down

-- the same, and every other validator
record HasChanged (w0 : World Staked Hooks) (up down : ℕ) (w : World Staked Hooks) (op : List ℕ) (x : World Staked Hooks) : Type 0 where
  shifted : HasShifted w0 up down x
  others : (o : List ℕ) → same_addr op o ≡ false → validator_at x.mine o ≡ validator_at w.mine o

module _ (w0 : World Staked Hooks) (height_fits : w0.view.ctx.height < 2 ^ 63) where
  -- ---- one joins

  joined_shifts : (up down : ℕ) (w : World Staked Hooks) (v : Validator) → HasShifted w0 up down w → validator_at w.mine v.operator ≡ Some v → is_bonded v.status ≡ false → IfOk (joined_set chain_told v w) (HasChanged w0 (up + v.tokens) down w v.operator)
  joined_shifts up down w v h found not_yet =
      let u : Validator = record v { status = Bonded } in
      let own = h.staked.validators v.operator v found in
      let height = w.view.ctx.height in
      let i = signing_started height v.cons w.hooks.1 in
      record {
        shifted = record {
          staked = sound-put w0.view.ctx.height u v w.mine h.staked found (record {
            operator = refl;
            cons = refl;
            shares = refl;
            sound = record { max_rate = own.max_rate; rate = own.rate; max_change = own.max_change; tokens = own.tokens; empty = own.empty; unbonding_height = own.unbonding_height };
          });
          operators = λ o. there_still w.mine.validators v.operator o v u found ∙ h.operators o;
          delegations = h.delegations;
          shared = h.shared;
          bank = h.bank;
          ctx = h.ctx;
          said = λ d. quiet_behind w.view.facts (fact.Changed v.operator Bonded) (λ e. refl) d ∙ h.said d;
          window = subst (λ (c : Ctx). WindowIsSound w0.view.ctx.height (signing_started c.height v.cons w.hooks.1)) (sym h.ctx) (started_sound w0.view.ctx.height v.cons w.hooks.1 height_fits h.window);
          recorded = all_put (IsRecorded i) addr_cmp exact_addr v.operator u w.mine.validators (λ e. recorded_now height v.cons w.hooks.1)
              (weaker (IsRecorded w.hooks.1) (IsRecorded i) (λ e k s. recorded_still height v.cons e.1.cons w.hooks.1 (k s)) w.mine.validators h.recorded);
          bonded = joins (is_bonded v.status) v.tokens _ _ (bonded_tokens w0.mine + up) down not_yet (tokens-put is_bonded v.operator v u w.mine.validators h.staked.validators_ascend found) h.bonded ∙ regrouped (bonded_tokens w0.mine) up v.tokens;
          other = joins_other (is_bonded v.status) v.tokens _ _ up (other_tokens w0.mine + down) not_yet (tokens-put others v.operator v u w.mine.validators h.staked.validators_ascend found) h.other;
        };
        others = λ o e. found-put w.mine u o ∙ ap (λ c. cond c (Some u) (validator_at w.mine o)) (same_back o v.operator ∙ e);
      }
    where
      regrouped : (a b c : ℕ) → a + b + c ≡ a + (b + c)
      regrouped a b c = omega arith

  all_join : (vs : List Validator) (up down : ℕ) (w : World Staked Hooks) → HasShifted w0 up down w → AllStand w.mine vs → HaveOwnOperators vs → AllByRecursion (λ v. is_bonded v.status ≡ false) vs
      → IfOk (each (joined_set chain_told) vs w) (λ x. HasShifted w0 (up + tokens_of vs) down x × ((o : List ℕ) → AllByRecursion (λ v. same_addr v.operator o ≡ false) vs → validator_at x.mine o ≡ validator_at w.mine o))
  all_join [] up down w h s a b = (subst (λ n. HasShifted w0 n down w) (none up) h, λ o k. refl)
    where
      none : (n : ℕ) → n ≡ n + 0
      none n = omega arith
  all_join (v ∷ vs) up down w h s a b =
      on_then {B = World Staked Hooks} (joined_set chain_told v w) (λ x. each (joined_set chain_told) vs x) (HasChanged w0 (up + v.tokens) down w v.operator)
      (λ y. HasShifted w0 (up + tokens_of (v ∷ vs)) down y × ((o : List ℕ) → AllByRecursion (λ u. same_addr u.operator o ≡ false) (v ∷ vs) → validator_at y.mine o ≡ validator_at w.mine o)) (joined_shifts up down w v h s.0 b.0) (λ x k.
      weaker_if (each (joined_set chain_told) vs x) (λ y. HasShifted w0 (up + v.tokens + tokens_of vs) down y × ((o : List ℕ) → AllByRecursion (λ v. same_addr v.operator o ≡ false) vs → validator_at y.mine o ≡ validator_at x.mine o))
      (λ y. HasShifted w0 (up + tokens_of (v ∷ vs)) down y × ((o : List ℕ) → AllByRecursion (λ u. same_addr u.operator o ≡ false) (v ∷ vs) → validator_at y.mine o ≡ validator_at w.mine o))
      (all_join vs (up + v.tokens) down x k.shifted (stand_still w.mine x.mine v.operator vs k.others a.0 s.1) a.1 b.1)
      (λ y j. and_also (subst (λ n. HasShifted w0 n down y) (summed up v.tokens (tokens_of vs) (tokens_of (v ∷ vs)) (sum_by-cons (λ n. n) v.tokens (map (λ u. u.tokens) vs))) j.0) (λ o q. j.1 o q.1 ∙ k.others o q.0)))
    where
      summed : (u t a b : ℕ) → b ≡ t + a → u + t + a ≡ u + b
      summed u t a b e = omega (arith, e)

  -- ---- one leaves

  left_shifts : (up down : ℕ) (w : World Staked Hooks) (v : Validator) → HasShifted w0 up down w → validator_at w.mine v.operator ≡ Some v → is_bonded v.status ≡ true → IfOk (left_set chain_told v w) (HasChanged w0 up (down + v.tokens) w v.operator)
  left_shifts up down w v h found yet =
      let u : Validator = record v { unbonding_height = w.view.ctx.height; unbonding_time = completion w.view.ctx; status = Unbonding } in
      let own = h.staked.validators v.operator v found in
      record {
        shifted = record {
          staked = sound-put w0.view.ctx.height u v w.mine h.staked found (record {
            operator = refl;
            cons = refl;
            shares = refl;
            sound = record { max_rate = own.max_rate; rate = own.rate; max_change = own.max_change; tokens = own.tokens; empty = own.empty; unbonding_height = subst (λ (c : Ctx). c.height ≤ w0.view.ctx.height) (sym h.ctx) (omega arith) };
          });
          operators = λ o. there_still w.mine.validators v.operator o v u found ∙ h.operators o;
          delegations = h.delegations;
          shared = h.shared;
          bank = h.bank;
          ctx = h.ctx;
          said = λ d. quiet_behind w.view.facts (fact.Changed v.operator Unbonding) (λ e. refl) d ∙ h.said d;
          window = h.window;
          recorded = all_put (IsRecorded w.hooks.1) addr_cmp exact_addr v.operator u w.mine.validators
              (λ e. looked_up (IsRecorded w.hooks.1) (is_at (addr_cmp v.operator)) (λ x. IsRecorded w.hooks.1 (v.operator, x)) (λ o x t g. g) w.mine.validators v found h.recorded (bonded_is v.status yet)) h.recorded;
          bonded = leaves_set (is_bonded v.status) v.tokens _ _ (bonded_tokens w0.mine + up) down yet (tokens-put is_bonded v.operator v u w.mine.validators h.staked.validators_ascend found) h.bonded;
          other = leaves_other (is_bonded v.status) v.tokens _ _ up (other_tokens w0.mine + down) yet (tokens-put others v.operator v u w.mine.validators h.staked.validators_ascend found) h.other ∙ regrouped (other_tokens w0.mine) down v.tokens;
        };
        others = λ o e. found-put w.mine u o ∙ ap (λ c. cond c (Some u) (validator_at w.mine o)) (same_back o v.operator ∙ e);
      }
    where
      regrouped : (a b c : ℕ) → a + b + c ≡ a + (b + c)
      regrouped a b c = omega arith

      bonded_is : (s : BondStatus) → is_bonded s ≡ true → is_unbonded s ≡ false
      bonded_is Bonded e = refl
      bonded_is Unbonding e = refl
      bonded_is Unbonded e = absurd cc

  all_leave : (vs : List Validator) (up down : ℕ) (w : World Staked Hooks) → HasShifted w0 up down w → AllStand w.mine vs → HaveOwnOperators vs → AllByRecursion (λ v. is_bonded v.status ≡ true) vs → IfOk (each (left_set chain_told) vs w) (HasShifted w0 up (down + tokens_of vs))
  all_leave [] up down w h s a b = subst (λ n. HasShifted w0 up n w) (none down) h
    where
      none : (n : ℕ) → n ≡ n + 0
      none n = omega arith
  all_leave (v ∷ vs) up down w h s a b =
      on_then {B = World Staked Hooks} (left_set chain_told v w) (λ x. each (left_set chain_told) vs x) (HasChanged w0 up (down + v.tokens) w v.operator) (HasShifted w0 up (down + tokens_of (v ∷ vs))) (left_shifts up down w v h s.0 b.0) (λ x k.
      weaker_if (each (left_set chain_told) vs x) (HasShifted w0 up (down + v.tokens + tokens_of vs)) (HasShifted w0 up (down + tokens_of (v ∷ vs)))
      (all_leave vs up (down + v.tokens) x k.shifted (stand_still w.mine x.mine v.operator vs k.others a.0 s.1) a.1 b.1)
      (λ y j. subst (λ n. HasShifted w0 up n y) (summed down v.tokens (tokens_of vs) (tokens_of (v ∷ vs)) (sum_by-cons (λ n. n) v.tokens (map (λ u. u.tokens) vs))) j))
    where
      summed : (u t a b : ℕ) → b ≡ t + a → u + t + a ≡ u + b
      summed u t a b e = omega (arith, e)

module _ (P : List ℕ → Type 0) (T : List ℕ → ℕ) where
  ground_as : (u v : View) → u.bank ≡ v.bank → u.ctx ≡ v.ctx → SayNoMore v.facts u.facts → GroundFits P T v → GroundFits P T u
  ground_as u v b c q g = subst (GroundFits P T) (λ i. record { bank = sym b i; ctx = sym c i; facts = u.facts }) (ground_told P T (λ facts. u.facts) v q g)

  -- ---- the difference moves

  -- the accounts hold what they owe again
  moved_fits : (b n up down : ℕ) (w0 w : World Staked Hooks) → StakeFits P T b n (lists_of w0.mine) w0 → HasShifted w0 up down w → StakeFits P T b n (lists_of w.mine) (over_view (difference_moved up down) w)
  moved_fits b n up down w0 w h s = by (nat_lt down up) refl
    where
      ground : GroundFits P T w.view
      ground = ground_as w.view w0.view s.bank s.ctx s.said h.ground

      bonded : (d : List ℕ) → balance_of w.view.bank (account.Module holder.Bonded) d ≡ of_bond w.view d (bonded_tokens w0.mine + b)
      bonded d = ap (λ bank. balance_of bank (account.Module holder.Bonded) d) s.bank ∙ h.bonded d ∙ same_bond P T w.view w0.view d (bonded_tokens w0.mine + b) s.ctx

      not_bonded : (d : List ℕ) → balance_of w.view.bank (account.Module holder.NotBonded) d ≡ of_bond w.view d (other_tokens w0.mine + n)
      not_bonded d = ap (λ bank. balance_of bank (account.Module holder.NotBonded) d) s.bank ∙ h.not_bonded d ∙ same_bond P T w.view w0.view d (other_tokens w0.mine + n) s.ctx

      owed : (d : List ℕ) → 10 ^ 18 * balance_of w.view.bank (account.Module holder.Distribution) d ≡ owed_from_distribution w.hooks.0 d
      owed d = ap (λ bank. 10 ^ 18 * balance_of bank (account.Module holder.Distribution) d) s.bank ∙ h.owed d ∙ ap (λ x. owed_from_distribution x d) (sym s.shared)

      shared : SharedFits P w.view.ctx.height (lists_of w.mine) w.hooks.0
      shared =
          relisted P T w.view.ctx.height (lists_of w0.mine) (lists_of w.mine) w.hooks.0
          (subst (λ x. SharedFits P w.view.ctx.height (lists_of w0.mine) x) (sym s.shared) (subst (λ (c : Ctx). SharedFits P c.height (lists_of w0.mine) w0.hooks.0) (sym s.ctx) h.shared))
          s.operators (λ who o. ap (λ ds. is_some (at pair_cmp ds (o, who))) s.delegations)

      staked : IsSoundAt w.view.ctx.height w.mine
      staked = subst (λ (c : Ctx). IsSoundAt c.height w.mine) (sym s.ctx) s.staked

      window : WindowIsSound w.view.ctx.height w.hooks.1
      window = subst (λ (c : Ctx). WindowIsSound c.height w.hooks.1) (sym s.ctx) s.window

      backed : IsBacked w.view.bank
      backed = ground.order.bank

      most : (t b : ℕ) (who : Account) → ((d : List ℕ) → balance_of w.view.bank who d ≡ of_bond w.view d (t + b)) → t + b ≤ 10 ^ 18
      most t b who e =
          let bond = w.view.ctx.params.bond_denom in
          subst (λ m. m ≤ 10 ^ 18) (e bond ∙ ap (λ c. cond c (t + b) 0) (same_itself bond)) (balance-most w.view.bank who bond backed)

      -- the account that gives, and the one that takes
      gives_up : (x y b m : ℕ) → x ≡ y + m → x + b ≡ y + (b + m)
      gives_up x y b m e = omega (arith, e)

      takes : (x y b m : ℕ) → y ≡ x + m → x + (b + m) ≡ y + b
      takes x y b m e = omega (arith, e)

      more : (x y u d : ℕ) → nat_lt d u ≡ true → y + d ≡ x + u → y ≡ x + (u - d)
      more x y u d l e = grind (arith, nat_tests)

      less : (x y u d : ℕ) → nat_lt d u ≡ true → y + u ≡ x + d → x ≡ y + (u - d)
      less x y u d l e = grind (arith, nat_tests)

      more_back : (x y u d : ℕ) → nat_lt d u ≡ false → y + u ≡ x + d → y ≡ x + (d - u)
      more_back x y u d l e = grind (arith, nat_tests)

      less_back : (x y u d : ℕ) → nat_lt d u ≡ false → y + d ≡ x + u → x ≡ y + (d - u)
      less_back x y u d l e = grind (arith, nat_tests)

      by : (c : Bool) → nat_lt down up ≡ c
          → StakeFits P T b n (lists_of w.mine) (over_view (λ v. if c then sent (account.Module holder.NotBonded) (account.Module holder.Bonded) (bond_coins v (up - down)) v
          else sent (account.Module holder.Bonded) (account.Module holder.NotBonded) (bond_coins v (down - up)) v) w)
      by true l =
          let m : ℕ = up - down in
          let from = account.Module holder.NotBonded in
          let to = account.Module holder.Bonded in
          let gain = takes (bonded_tokens w0.mine) (bonded_tokens w.mine) b m (more (bonded_tokens w0.mine) (bonded_tokens w.mine) up down l s.bonded) in
          let loss = gives_up (other_tokens w0.mine) (other_tokens w.mine) n m (less (other_tokens w0.mine) (other_tokens w.mine) up down l s.other) in
          let held : (d : List ℕ) → balance_of w.view.bank from d ≡ of_bond w.view d (other_tokens w.mine + (n + m)) = λ d. not_bonded d ∙ ap (of_bond w.view d) loss in
          let e : is_short w.view.bank from (bond_coins w.view m) ≡ false = has_enough P T w.view from (other_tokens w.mine) n m backed (most (other_tokens w.mine) (n + m) from held) held in
          record {
            ground = ground_sent P T from to (bond_coins w.view m) w.view ground (bond_money w.view from m backed e) e;
            staked = staked;
            bonded = λ d. rises_to P T w.view d (balance_of w.view.bank to d) _ (bonded_tokens w0.mine) b m (bond_moved w.view from to m backed e to d) (bonded d) ∙ ap (of_bond w.view d) gain;
            not_bonded = λ d. falls P T w.view d (balance_of w.view.bank from d) _ (other_tokens w.mine) n m (bond_moved w.view from to m backed e from d) (held d);
            owed = λ d. ap (λ x. 10 ^ 18 * x) (same_sum P T _ _ (bond_moved w.view from to m backed e (account.Module holder.Distribution) d)) ∙ owed d;
            shared = shared;
            window = window;
            recorded = s.recorded;
          }
      by false l =
          let m : ℕ = down - up in
          let from = account.Module holder.Bonded in
          let to = account.Module holder.NotBonded in
          let gain = takes (other_tokens w0.mine) (other_tokens w.mine) n m (more_back (other_tokens w0.mine) (other_tokens w.mine) up down l s.other) in
          let loss = gives_up (bonded_tokens w0.mine) (bonded_tokens w.mine) b m (less_back (bonded_tokens w0.mine) (bonded_tokens w.mine) up down l s.bonded) in
          let held : (d : List ℕ) → balance_of w.view.bank from d ≡ of_bond w.view d (bonded_tokens w.mine + (b + m)) = λ d. bonded d ∙ ap (of_bond w.view d) loss in
          let e : is_short w.view.bank from (bond_coins w.view m) ≡ false = has_enough P T w.view from (bonded_tokens w.mine) b m backed (most (bonded_tokens w.mine) (b + m) from held) held in
          record {
            ground = ground_sent P T from to (bond_coins w.view m) w.view ground (bond_money w.view from m backed e) e;
            staked = staked;
            bonded = λ d. falls P T w.view d (balance_of w.view.bank from d) _ (bonded_tokens w.mine) b m (bond_moved w.view from to m backed e from d) (held d);
            not_bonded = λ d. rises_to P T w.view d (balance_of w.view.bank to d) _ (other_tokens w0.mine) n m (bond_moved w.view from to m backed e to d) (not_bonded d) ∙ ap (of_bond w.view d) gain;
            owed = λ d. ap (λ x. 10 ^ 18 * x) (same_sum P T _ _ (bond_moved w.view from to m backed e (account.Module holder.Distribution) d)) ∙ owed d;
            shared = shared;
            window = window;
            recorded = s.recorded;
          }

  difference_ctx : (up down : ℕ) (v : View) → (difference_moved up down v).ctx ≡ v.ctx
  difference_ctx up down v = by (nat_lt down up)
    where
      by : (c : Bool) → (if c then sent (account.Module holder.NotBonded) (account.Module holder.Bonded) (bond_coins v (up - down)) v else sent (account.Module holder.Bonded) (account.Module holder.NotBonded) (bond_coins v (down - up)) v).ctx ≡ v.ctx
      by true = refl
      by false = refl

  -- ---- the set

  both_of : (a b : Bool) → (a && b) ≡ true → (a ≡ true) × (b ≡ true)
  both_of true b e = (refl, e)
  both_of false b e = absurd cc

  not_true : (b : Bool) → not b ≡ true → b ≡ false
  not_true true e = absurd cc
  not_true false e = refl

  pub set_fits : (b n : ℕ) (w : World Staked Hooks) → StakeFits P T b n (lists_of w.mine) w → IfOk (set_updated chain_told w) (λ x. StakeFits P T b n (lists_of x.mine) x × (x.view.ctx ≡ w.view.ctx))
  set_fits b n w h =
      let p = w.view.ctx.params in
      let vs = values_of w.mine.validators in
      let height = w.view.ctx.height in
      let few = h.ground.order.height in
      let stand : AllStand w.mine vs = values_stand height w.mine h.staked in
      let apart : HaveOwnOperators vs = values_own w.mine.validators h.staked.validators_ascend (operators_are height w.mine h.staked) in
      let joins_if : Validator → Bool = λ v. is_in_bonded_set p.power_reduction p.max_validators vs v && not (is_bonded v.status) in
      let leaves_if : Validator → Bool = λ v. is_bonded v.status && not (is_in_bonded_set p.power_reduction p.max_validators vs v) in
      let joining = joining_of p.power_reduction p.max_validators vs in
      let leaving = leaving_of p.power_reduction p.max_validators vs in
      let start : HasShifted w 0 0 w = record { staked = h.staked; operators = λ o. refl; delegations = refl; shared = refl; bank = refl; ctx = refl; said = λ d. refl; window = h.window; recorded = h.recorded; bonded = refl; other = refl } in
      let of_joining : (Q : Validator → Type 0) → AllByRecursion (λ v. joins_if v ≡ true → Q v) vs → AllByRecursion Q joining = λ Q k. ordered_all p.power_reduction Q (filter joins_if vs) (filtered_all joins_if Q vs k) in
      let of_leaving : (Q : Validator → Type 0) → AllByRecursion (λ v. leaves_if v ≡ true → Q v) vs → AllByRecursion Q leaving = λ Q k. filtered_all leaves_if Q vs k in
      let each_one : (Q : Validator → Type 0) → ((v : Validator) → validator_at w.mine v.operator ≡ Some v → Q v) → AllByRecursion Q vs = λ Q f. weaker (λ v. validator_at w.mine v.operator ≡ Some v) Q f vs stand in
      let not_yet : AllByRecursion (λ v. is_bonded v.status ≡ false) joining = of_joining (λ v. is_bonded v.status ≡ false)
      (each_one (λ v. joins_if v ≡ true → is_bonded v.status ≡ false) (λ v f t. not_true (is_bonded v.status) (both_of (is_in_bonded_set p.power_reduction p.max_validators vs v) (not (is_bonded v.status)) t).1)) in
      let yet : AllByRecursion (λ v. is_bonded v.status ≡ true) leaving = of_leaving (λ v. is_bonded v.status ≡ true)
      (each_one (λ v. leaves_if v ≡ true → is_bonded v.status ≡ true) (λ v f t. (both_of (is_bonded v.status) (not (is_in_bonded_set p.power_reduction p.max_validators vs v)) t).0)) in
      let joining_stand : AllStand w.mine joining = of_joining (λ v. validator_at w.mine v.operator ≡ Some v) (each_one (λ v. joins_if v ≡ true → validator_at w.mine v.operator ≡ Some v) (λ v f t. f)) in
      let leaving_stand : AllStand w.mine leaving = of_leaving (λ v. validator_at w.mine v.operator ≡ Some v) (each_one (λ v. leaves_if v ≡ true → validator_at w.mine v.operator ≡ Some v) (λ v f t. f)) in
      on_then (each (joined_set chain_told) joining w) _ (λ x. HasShifted w (0 + tokens_of joining) 0 x × ((o : List ℕ) → AllByRecursion (λ v. same_addr v.operator o ≡ false) joining → validator_at x.mine o ≡ validator_at w.mine o)) _
      (all_join w few joining 0 0 w start joining_stand (ordered_own p.power_reduction (filter joins_if vs) (filtered_own joins_if vs apart)) not_yet) (λ x k.
      on_then (each (left_set chain_told) leaving x) _ (HasShifted w (0 + tokens_of joining) (0 + tokens_of leaving)) _
      (all_leave w few leaving (0 + tokens_of joining) 0 x k.0
      (others_stand x joining leaving k.1 joining_stand leaving_stand not_yet yet) (filtered_own leaves_if vs apart) yet) (λ y j.
      and_also (moved_fits b n (tokens_of joining) (tokens_of leaving) w y h (subst (λ m. HasShifted w m (tokens_of leaving) y) (none (tokens_of joining)) (subst (λ m. HasShifted w (0 + tokens_of joining) m y) (none (tokens_of leaving)) j)))
      (difference_ctx (tokens_of joining) (tokens_of leaving) y.view ∙ j.ctx)))
    where
      none : (m : ℕ) → 0 + m ≡ m
      none m = omega arith

      -- who leaves is none of those that join
      differ : (u v : Validator) → validator_at w.mine u.operator ≡ Some u → validator_at w.mine v.operator ≡ Some v → is_bonded u.status ≡ false → is_bonded v.status ≡ true → same_addr u.operator v.operator ≡ false
      differ u v f g a c = by_same (same_addr u.operator v.operator) refl
        where
          by_same : (s : Bool) → same_addr u.operator v.operator ≡ s → same_addr u.operator v.operator ≡ false
          by_same false e = e
          by_same true e =
              let same : u ≡ v = same_some u v (validator_at w.mine u.operator) f (ap (validator_at w.mine) (same_is u.operator v.operator e) ∙ g) in
              let both : false ≡ true = sym a ∙ ap (λ (x : Validator). is_bonded x.status) same ∙ c in
              absurd cc

      all_differ : (us : List Validator) (v : Validator) → AllStand w.mine us → validator_at w.mine v.operator ≡ Some v → AllByRecursion (λ u. is_bonded u.status ≡ false) us → is_bonded v.status ≡ true → AllByRecursion (λ u. same_addr u.operator v.operator ≡ false) us
      all_differ [] v s g a c = tt
      all_differ (u ∷ us) v s g a c = (differ u v s.0 g a.0 c, all_differ us v s.1 g a.1 c)

      others_stand : (x : World Staked Hooks) (us vs : List Validator) → ((o : List ℕ) → AllByRecursion (λ v. same_addr v.operator o ≡ false) us → validator_at x.mine o ≡ validator_at w.mine o) → AllStand w.mine us → AllStand w.mine vs
          → AllByRecursion (λ u. is_bonded u.status ≡ false) us → AllByRecursion (λ v. is_bonded v.status ≡ true) vs → AllStand x.mine vs
      others_stand x us [] k s t a c = tt
      others_stand x us (v ∷ vs) k s t a c = (k v.operator (all_differ us v s t.0 a c.0) ∙ t.0, others_stand x us vs k s t.1 a c.1)

  pub set_step_fits : (w : State) → StateFits P T w → IfOk (set_step w) (StateLeft P T w)
  set_step_fits w h =
      on_then (set_updated chain_told (staked_in w)) _ (λ x. StakeFits P T 0 (entry_balances w.mine.unbondings) (lists_of x.mine) x × (x.view.ctx ≡ w.view.ctx)) _ (set_fits 0 (entry_balances w.mine.unbondings) (staked_in w) h.stake)
      (λ x k. state_with P T w x h k.0 k.1)

pub bonding_keeps_soundness : BondingKeepsSoundness
bonding_keeps_soundness = keeps set_step (λ P T w h. set_step_fits P T w h)
