-- Unbonding shares: they leave the delegation and the validator, and the tokens that go out are owed to nobody's shares.
use Rattle.std.proofs.Common.{◌≡◌, ◌∙◌, ℕ, ◌+◌, ◌^◌, ◌<◌, ◌≤◌, ◌==◌, ◌++◌, Bool, true, false, cond, List, [], ◌∷◌, Some, None, Ok, refl, sym, ap, subst, arith, ◌-◌, ◌&&◌, ◌||◌, not, if◌then◌else◌, IfOk, IsSome, is_some, unwrap_or}
use Rattle.std.specs.{BTreeMap.is_at, List.Sorted.IsStrictlySortedBy, Map.keys_of}
use Rattle.std.proofs.lemmas.Bool.Decides.{nat_tests}
use Rattle.base_types.specs.{declared.status.BondStatus.BondStatus, Orders.addr_cmp}
use Rattle.base_shares.{proofs.Values.value_whole_most, specs.Shares.{amount_out, value_even_of}}
use Rattle.base_roles.specs.{declared.entities.Validator.Validator, Hooks.with_started, Owing.Lists, Log.Log}
use Rattle.base_roles.specs.World.{View, World, over_mine, logged, call}
use Rattle.base_roles.specs.declared.calls.Hook.TheVariants.{Modifying as modifying, Modified as modified}
use Rattle.base_roles.specs.{Entries.{at, number_at, with, with_number, without}, Orders.{pair_cmp, same_addr}}
use Rattle.base_roles.specs.Staked.{Staked, bonded_tokens, is_bonded, is_unbonded, lists_of, other_tokens, delegation, validator_at, put_validator}
use Rattle.base_roles.specs.{StakeChanges.of_bond, declared.params.Ctx.Ctx}
use Rattle.base_roles.specs.declared.facts.Fact.TheVariants as fact
use Rattle.base_roles.specs.Log as log
use Rattle.rule_modules.specs.Distribution.{Shared}
use Rattle.rule_modules.specs.Unbonding.{put_in_jail, falls_below_minimum, left_standing, unbonded_shares, removed_if_empty}
use Rattle.rule_modules.specs.{Chain.{Hooks, chain_told}, Sound.ValidatorIsSound}
use Rattle.rule_modules.specs.{Stakes.{put_delegation, without_shares}, Window.signing_of}
use Rattle.rule_modules.proofs.SoundLemmas.{found-put, IsSoundAt, at-number, exact_addr, found_itself, held_within, put_with, shares_at, sound-changed}
use Rattle.rule_modules.proofs.{OrderLemmas.same_back, TokenLemmas.tokens-put}
use Rattle.base_decimals.specs.Decimals.{trunc_of}
use Rattle.law_soundness.proofs.{Burns.quiet_behind, Hooking.{before_told, called_if, hook_gave, on_call, stake_hooks}}
use Rattle.law_soundness.proofs.{Lists.{all_put, looked_up}, Moves.{Leaves, stake_left}, Points.{IsRecorded, StakeFits}}
use Rattle.law_soundness.proofs.{Purses.there_still, Removing.{StakeLeft, removed_if_fits}}
use Rattle.law_soundness.proofs.Rewards.{pair_at, start_leaves}
use Rattle.law_soundness.proofs.Standing.{StandsFor, stake_logged, stake_relisted, stake_standing, stake_told}
use Rattle.law_soundness.proofs.Steps.{on_then}

-- ---- amounts

-- what goes out is within the tokens, and where no share is left it is all of them
pub out_within : (tokens shares part : ℕ) → 0 < shares → part ≤ shares → amount_out tokens shares part ≤ tokens
out_within tokens shares part some within = by (part == shares)
  where
    by : (b : Bool) → cond b tokens (trunc_of (value_even_of tokens shares part)) ≤ tokens
    by true = omega arith
    by false = value_whole_most tokens shares part some within

out_all : (tokens shares part : ℕ) → part ≤ shares → shares - part ≡ 0 → tokens - amount_out tokens shares part ≡ 0
out_all tokens shares part within none = by (part == shares) (same part shares within none)
  where
    same : (a b : ℕ) → a ≤ b → b - a ≡ 0 → (a == b) ≡ true
    same a b l e = grind (arith, nat_tests)

    by : (b : Bool) → b ≡ true → tokens - cond b tokens (trunc_of (value_even_of tokens shares part)) ≡ 0
    by true e = omega arith
    by false e = absurd cc

pub less_bonded : (s : Bool) (t a b x y : ℕ) → a ≤ t → y + cond s t 0 ≡ x + cond s (t - a) 0 → x + b ≡ y + (b + cond s a 0)
less_bonded true t a b x y l e = omega (arith, l, e)
less_bonded false t a b x y l e = omega (arith, l, e)

pub less_other : (s : Bool) (t a b x y : ℕ) → a ≤ t → y + cond (cond s false true) t 0 ≡ x + cond (cond s false true) (t - a) 0 → x + b ≡ y + (b + cond s 0 a)
less_other true t a b x y l e = omega (arith, l, e)
less_other false t a b x y l e = omega (arith, l, e)

abbrev others : BondStatus → Bool
others status = if is_bonded status then false else true

-- the lists with a delegation of so many shares, or without one
abbrev pub lists_left : List ℕ → List ℕ → ℕ → Lists → Lists
lists_left who op left l = record { operators = l.operators; started = λ x o. cond (same_addr who x && same_addr op o) (not (left == 0)) (l.started x o) }

-- the delegations with so many shares of one
abbrev shares_left : List ℕ → List ℕ → ℕ → Staked → Staked
shares_left who op left s = record s { delegations = with_number pair_cmp s.delegations (op, who) left }

left_there : (s : Staked) (who op : List ℕ) (left : ℕ) (x o : List ℕ) → IsStrictlySortedBy pair_cmp (keys_of s.delegations) → is_some (delegation (shares_left who op left s) x o) ≡ cond (same_addr who x && same_addr op o) (not (left == 0)) (is_some (delegation s x o))
left_there s who op left x o a = ap is_some (at-number s.delegations (op, who) (o, x) left a ∙ ap (λ b. cond b (cond (left == 0) None (Some left)) (delegation s x o)) (pair_at who op x o)) ∙ by (same_addr who x && same_addr op o) (left == 0)
  where
    by : (b z : Bool) → is_some (cond b (cond z None (Some left)) (delegation s x o)) ≡ cond b (not z) (is_some (delegation s x o))
    by true true = refl
    by true false = refl
    by false z = refl

-- the validator after it may have been jailed, and with so many shares less
abbrev pub now_of : Validator → List ℕ → ℕ → Validator
now_of v who left = record v { jailed = v.jailed || falls_below_minimum v who left }

abbrev pub less_of : Validator → List ℕ → ℕ → ℕ → Validator
less_of v who held part = record (now_of v who (held - part)) { tokens = v.tokens - amount_out v.tokens v.shares part; shares = v.shares - part }

-- the worlds in which it stands so
abbrev pub may_jail : Validator → List ℕ → ℕ → World Staked Hooks → World Staked Hooks
may_jail v who left w = if falls_below_minimum v who left then put_in_jail v w else w

abbrev pub lessened : Validator → List ℕ → ℕ → ℕ → World Staked Hooks → World Staked Hooks
lessened v who held part x = logged v.operator log.left (over_mine (put_validator (less_of v who held part)) x)

module _ (P : List ℕ → Type 0) (T : List ℕ → ℕ) where
  -- the same hooks and ground over other validators and delegations
  abbrev pub over_stake : Staked → World Staked Hooks → World Staked Hooks
  over_stake s w = record { mine = s; hooks = w.hooks; view = w.view; log = w.log }

  -- ---- shares leave

  -- a validator with fewer tokens and shares, and otherwise as one that stands
  pub record IsLess (height : ℕ) (u v : Validator) (part out : ℕ) : Type 0 where
    pub operator : u.operator ≡ v.operator
    pub cons : u.cons ≡ v.cons
    pub status : u.status ≡ v.status
    pub tokens : u.tokens ≡ v.tokens - out
    pub shares : u.shares ≡ v.shares - part
    pub sound : ValidatorIsSound height u

  stake_less : (b n : ℕ) (l : Lists) (w : World Staked Hooks) (u v : Validator) (who : List ℕ) (held part out : ℕ) → StakeFits P T b n l w → validator_at w.mine v.operator ≡ Some v → delegation w.mine who v.operator ≡ Some held
      → part ≤ held → held ≤ v.shares → out ≤ v.tokens → IsLess w.view.ctx.height u v part out
      → StakeFits P T (b + cond (is_bonded v.status) out 0) (n + cond (is_bonded v.status) 0 out) l (over_mine (λ s. put_validator u (shares_left who v.operator (held - part) s)) w)
  stake_less b n l w u v who held part out h found has within less_held enough k =
      let s = w.mine in
      let f : validator_at s u.operator ≡ Some v = ap (validator_at s) k.operator ∙ found in
      let number : number_at pair_cmp s.delegations (u.operator, who) ≡ held = ap (λ o. number_at pair_cmp s.delegations (o, who)) k.operator ∙ ap (λ r. unwrap_or r 0) has in
      let sound : IsSoundAt w.view.ctx.height (put_with u (with_number pair_cmp s.delegations (u.operator, who) (held - part)) s) =
      sound-changed w.view.ctx.height u v who (held - part) s h.staked f k.cons k.sound (left_shares u.shares v.shares _ held part k.shares number within less_held) in
      record {
        ground = h.ground;
        staked = subst (λ o. IsSoundAt w.view.ctx.height (put_with u (with_number pair_cmp s.delegations (o, who) (held - part)) s)) k.operator sound;
        bonded = λ d. h.bonded d ∙ ap (of_bond w.view d) (less_bonded (is_bonded v.status) v.tokens out b (bonded_tokens s) _ enough (counted_as is_bonded _ _ (tokens-put is_bonded u.operator v u s.validators h.staked.validators_ascend f)));
        not_bonded = λ d. h.not_bonded d ∙ ap (of_bond w.view d) (less_other (is_bonded v.status) v.tokens out n (other_tokens s) _ enough (counted_as others _ _ (tokens-put others u.operator v u s.validators h.staked.validators_ascend f)));
        owed = h.owed;
        shared = h.shared;
        window = h.window;
        recorded = all_put (IsRecorded w.hooks.1) addr_cmp exact_addr u.operator u s.validators
            (λ e. subst (λ c. IsSome (signing_of w.hooks.1 c)) (sym k.cons)
            (looked_up (IsRecorded w.hooks.1) (is_at (addr_cmp v.operator)) (λ x. IsRecorded w.hooks.1 (v.operator, x)) (λ o x t g. g) s.validators v found h.recorded (ap is_unbonded (sym k.status) ∙ e))) h.recorded;
      }
    where
      left_shares : (us vs m h p : ℕ) → us ≡ vs - p → m ≡ h → p ≤ h → h ≤ vs → us + m ≡ vs + (h - p)
      left_shares us vs m h p e f l g = omega (arith, e, f, l, g)

      counted_as : (test : BondStatus → Bool) (x y : ℕ) → y + cond (test v.status) v.tokens 0 ≡ x + cond (test u.status) u.tokens 0 → y + cond (test v.status) v.tokens 0 ≡ x + cond (test v.status) (v.tokens - out) 0
      counted_as test x y e = e ∙ (λ i. x + cond (test (k.status i)) (k.tokens i) 0)

  -- ---- jailing

  -- the validator after it may have been jailed, and what stands then
  pub record HasStood (b n : ℕ) (l : Lists) (v : Validator) (w x : World Staked Hooks) : Type 0 where
    pub now : Validator
    pub fits : StakeFits P T b n l x
    pub found : validator_at x.mine v.operator ≡ Some now
    pub same : StandsFor P T w.view.ctx.height now v
    pub delegations : x.mine.delegations ≡ w.mine.delegations
    pub operators : (o : List ℕ) → is_some (validator_at x.mine o) ≡ is_some (validator_at w.mine o)
    pub others : (o : List ℕ) → same_addr v.operator o ≡ false → validator_at x.mine o ≡ validator_at w.mine o
    pub ctx : x.view.ctx ≡ w.view.ctx

  jailed_fits : (b n : ℕ) (l : Lists) (w : World Staked Hooks) (v : Validator) (falls : Bool) → StakeFits P T b n l w → validator_at w.mine v.operator ≡ Some v → HasStood b n l v w (if falls then put_in_jail v w else w)
  jailed_fits b n l w v true h found =
      let k : ValidatorIsSound w.view.ctx.height v = h.staked.validators v.operator v found in
      let u : Validator = record v { jailed = true } in
      let same : StandsFor P T w.view.ctx.height u v = record {
        operator = refl;
        cons = refl;
        status = refl;
        tokens = refl;
        shares = refl;
        sound = record { max_rate = k.max_rate; rate = k.rate; max_change = k.max_change; tokens = k.tokens; empty = k.empty; unbonding_height = k.unbonding_height };
      } in
      record {
        now = u;
        fits = stake_told P T b n l (over_mine (put_validator u) w) (λ facts. facts ++ fact.Jailed v.operator ∷ []) (quiet_behind w.view.facts (fact.Jailed v.operator) (λ d. refl)) (stake_standing P T b n l w u v h found same);
        found = found_itself w.mine u;
        same = same;
        delegations = refl;
        operators = λ o. there_still w.mine.validators v.operator o v u found;
        others = λ o e. found-put w.mine u o ∙ ap (λ t. cond t (Some u) (validator_at w.mine o)) (same_back o v.operator ∙ e);
        ctx = refl;
      }
  jailed_fits b n l w v false h found = record {
    now = v;
    fits = h;
    found = found;
    same = record { operator = refl; cons = refl; status = refl; tokens = refl; shares = refl; sound = h.staked.validators v.operator v found };
    delegations = refl;
    operators = λ o. refl;
    others = λ o e. refl;
    ctx = refl;
  }

  -- ---- what is left of the delegation

  -- the delegation is changed, and hooks and ground fit what stood before that
  pub record HasLeft (b n : ℕ) (l : Lists) (who op : List ℕ) (left : ℕ) (w x : World Staked Hooks) : Type 0 where
    pub mine : x.mine ≡ shares_left who op left w.mine
    pub fits : StakeFits P T b n (lists_left who op left l) (over_stake w.mine x)
    pub ctx : x.view.ctx ≡ w.view.ctx

  pub left_fits : (b n : ℕ) (l : Lists) (w : World Staked Hooks) (val : Validator) (who : List ℕ) (left : ℕ) → StakeFits P T b n (with_started who val.operator false l) w → l.operators val.operator ≡ true
      → IfOk (left_standing chain_told val who left w) (HasLeft b n l who val.operator left w)
  left_fits b n l w val who left h there = by (left == 0) refl
    where
      op : List ℕ
      op = val.operator

      anew : (c x : Bool) → cond c true x ≡ cond c true (cond c false x)
      anew true x = refl
      anew false x = refl

      by : (z : Bool) → (left == 0) ≡ z → IfOk (if z then Ok (over_mine (without_shares who op) w) else call chain_told (modified val who left) (over_mine (put_delegation who op left) w)) (HasLeft b n l who op left w)
      by true e = record {
        mine = ap (λ z. record w.mine { delegations = cond z (without pair_cmp w.mine.delegations (op, who)) (with pair_cmp w.mine.delegations (op, who) left) }) (sym e);
        fits = stake_relisted P T b n (with_started who op false l) (lists_left who op left l) w h (λ o. refl) (λ x o. ap (λ z. cond (same_addr who x && same_addr op o) (not z) (l.started x o)) e);
        ctx = refl;
      }
      by false e =
          called_if (modified val who left) (over_mine (put_delegation who op left) w) (λ d u. Leaves P T w.view (with_started who op true (with_started who op false l)) d u) (HasLeft b n l who op left w) (λ u. refl)
          (start_leaves P T val who left w.view (with_started who op false l) w.hooks.0 (stake_hooks P T b n (with_started who op false l) w h) there)
          (λ d u k leaves. record {
            mine = ap (λ z. record w.mine { delegations = cond z (without pair_cmp w.mine.delegations (op, who)) (with pair_cmp w.mine.delegations (op, who) left) }) (sym e);
            fits = stake_relisted P T b n (with_started who op true (with_started who op false l)) (lists_left who op left l) (hook_gave w d u k)
                (stake_left P T b n (with_started who op false l) (with_started who op true (with_started who op false l)) w d u (w.log ++ k) h leaves) (λ o. refl)
                (λ x o. ap (λ z. cond (same_addr who x && same_addr op o) (not z) (l.started x o)) e ∙ anew (same_addr who x && same_addr op o) (l.started x o));
            ctx = leaves.ctx;
          })

  -- ---- unbonding

  -- what unbonding answers and leaves: the amount is owed to no validator any more
  pub record HasUnbonded (b n : ℕ) (w : World Staked Hooks) (v : Validator) (out : ℕ) (x : ℕ × World Staked Hooks) : Type 0 where
    pub amount : x.0 ≡ out
    pub fits : StakeFits P T (b + cond (is_bonded v.status) out 0) (n + cond (is_bonded v.status) 0 out) (lists_of x.1.mine) x.1
    pub ctx : x.1.view.ctx ≡ w.view.ctx
    pub others : (o : List ℕ) → same_addr v.operator o ≡ false → validator_at x.1.mine o ≡ validator_at w.mine o

  -- what stands when shares and tokens have left a validator, and before it may go
  pub record HasLessened (b n : ℕ) (w : World Staked Hooks) (v : Validator) (out : ℕ) (x : World Staked Hooks) : Type 0 where
    pub fits : StakeFits P T (b + cond (is_bonded v.status) out 0) (n + cond (is_bonded v.status) 0 out) (lists_of x.mine) x
    pub ctx : x.view.ctx ≡ w.view.ctx
    pub others : (o : List ℕ) → same_addr v.operator o ≡ false → validator_at x.mine o ≡ validator_at w.mine o

  -- after the hook and, where it falls below its minimum, the jail
  pub stood_fits : (b n : ℕ) (w : World Staked Hooks) (v : Validator) (who : List ℕ) (left : ℕ) (d : Shared) (u : View) (k : Log) → StakeFits P T b n (lists_of w.mine) w → validator_at w.mine v.operator ≡ Some v
      → Leaves P T w.view (with_started who v.operator false (lists_of w.mine)) d u → HasStood b n (with_started who v.operator false (lists_of w.mine)) v (hook_gave w d u k) (may_jail v who left (hook_gave w d u k))
  stood_fits b n w v who left d u k h found leaves =
      let l1 = with_started who v.operator false (lists_of w.mine) in
      jailed_fits b n l1 (hook_gave w d u k) v (falls_below_minimum v who left) (stake_left P T b n (lists_of w.mine) l1 w d u (w.log ++ k) h leaves) found

  pub lessened_fits : (b n : ℕ) (w : World Staked Hooks) (v : Validator) (who : List ℕ) (held part : ℕ) (d : Shared) (u : View) (k : Log) (x : World Staked Hooks) → StakeFits P T b n (lists_of w.mine) w → validator_at w.mine v.operator ≡ Some v
      → delegation w.mine who v.operator ≡ Some held → part ≤ held → Leaves P T w.view (with_started who v.operator false (lists_of w.mine)) d u
      → HasLeft b n (lists_of w.mine) who v.operator (held - part) (may_jail v who (held - part) (hook_gave w d u k)) x → HasLessened b n w v (amount_out v.tokens v.shares part) (lessened v who held part x)
  lessened_fits b n w v who held part d u k x h found has within leaves after =
      let l = lists_of w.mine in
      let op = v.operator in
      let out = amount_out v.tokens v.shares part in
      let less : Validator = less_of v who held part in
      let number : number_at pair_cmp w.mine.delegations (op, who) ≡ held = ap (λ r. unwrap_or r 0) has in
      let all : v.shares ≡ shares_at w.mine.delegations op = h.staked.shares op v found in
      let inside = held_within w.mine.delegations op who in
      let some : 0 < held = h.staked.positive (op, who) held has in
      let held_most : held ≤ v.shares = at_most held v.shares _ _ number all inside in
      let enough : out ≤ v.tokens = out_within v.tokens v.shares part (omega (arith, some, held_most)) (omega (arith, within, held_most)) in
      let w1 : World Staked Hooks = hook_gave w d u k in
      let w2 : World Staked Hooks = may_jail v who (held - part) w1 in
      let stood : HasStood b n (with_started who op false l) v w1 w2 = stood_fits b n w v who (held - part) d u k h found leaves in
      let w3 : World Staked Hooks = lessened v who held part x in
      let own : ValidatorIsSound w.view.ctx.height v = h.staked.validators op v found in
      let ctx : x.view.ctx ≡ w.view.ctx = after.ctx ∙ stood.ctx ∙ leaves.ctx in
      let is_less : IsLess x.view.ctx.height less stood.now part out = record {
        operator = sym stood.same.operator;
        cons = sym stood.same.cons;
        status = sym stood.same.status;
        tokens = ap (λ t. t - out) (sym stood.same.tokens);
        shares = ap (λ t. t - part) (sym stood.same.shares);
        sound = subst (λ (c : Ctx). ValidatorIsSound c.height less) (sym ctx)
            (record { max_rate = own.max_rate; rate = own.rate; max_change = own.max_change; tokens = fewer v.tokens out own.tokens; empty = λ z. out_all v.tokens v.shares part (omega (arith, within, held_most)) z; unbonding_height = own.unbonding_height });
      } in
      let held_there : delegation w2.mine who stood.now.operator ≡ Some held = (λ i. at pair_cmp (stood.delegations i) (stood.same.operator i, who)) ∙ has in
      let poorer = stake_less b n (lists_left who op (held - part) l) (over_stake w2.mine x) less stood.now who held part out after.fits (ap (validator_at w2.mine) stood.same.operator ∙ stood.found) held_there within
      (subst (λ m. held ≤ m) (sym stood.same.shares) held_most) (subst (λ m. out ≤ m) (sym stood.same.tokens) enough) is_less in
      let left : ℕ = held - part in
      let lists : Lists = lists_left who op left l in
      let mine : put_validator less (shares_left who stood.now.operator left w2.mine) ≡ put_validator less x.mine = ap (λ o. put_validator less (shares_left who o left w2.mine)) stood.same.operator ∙ ap (put_validator less) (sym after.mine) in
      let status = stood.same.status in
      let first = stake_logged P T (b + cond (is_bonded stood.now.status) out 0) (n + cond (is_bonded stood.now.status) 0 out) lists
      (over_mine (λ s. put_validator less (shares_left who stood.now.operator left s)) (over_stake w2.mine x)) w3.log poorer in
      let second : StakeFits P T (b + cond (is_bonded stood.now.status) out 0) (n + cond (is_bonded stood.now.status) 0 out) lists w3 =
      subst (λ (m : Staked). StakeFits P T (b + cond (is_bonded stood.now.status) out 0) (n + cond (is_bonded stood.now.status) 0 out) lists (record { mine = m; hooks = x.hooks; view = x.view; log = w3.log })) mine first in
      let third : StakeFits P T (b + cond (is_bonded v.status) out 0) (n + cond (is_bonded v.status) 0 out) lists w3 =
      subst (λ (t : BondStatus). StakeFits P T (b + cond (is_bonded t) out 0) (n + cond (is_bonded t) 0 out) lists w3) status second in
      let now_found : validator_at w2.mine op ≡ Some stood.now = stood.found in
      let fits : StakeFits P T (b + cond (is_bonded v.status) out 0) (n + cond (is_bonded v.status) 0 out) (lists_of w3.mine) w3 =
      stake_relisted P T _ _ lists (lists_of w3.mine) w3 third
      (λ o. ap (λ (m : Staked). is_some (validator_at (put_validator less m) o)) after.mine ∙ there_still w2.mine.validators op o stood.now less now_found ∙ stood.operators o)
      (λ y o. ap (λ (m : Staked). is_some (delegation m y o)) after.mine ∙ left_there w2.mine who op left y o stood.fits.staked.delegations_ascend
      ∙ ap (λ ds. cond (same_addr who y && same_addr op o) (not (left == 0)) (is_some (at pair_cmp ds (o, y)))) stood.delegations) in
      record {
        fits = fits;
        ctx = ctx;
        others = λ o e. found-put x.mine less o ∙ ap (λ t. cond t (Some less) (validator_at x.mine o)) (same_back o op ∙ e) ∙ ap (λ (m : Staked). validator_at m o) after.mine ∙ stood.others o e;
      }
    where
      at_most : (a b m s : ℕ) → m ≡ a → b ≡ s → m ≤ s → a ≤ b
      at_most a b m s e f g = omega (arith, e, f, g)

      fewer : (t o : ℕ) → t ≤ 10 ^ 18 → t - o ≤ 10 ^ 18
      fewer t o l = omega (arith, l)

  pub unbonded_fits : (b n : ℕ) (w : World Staked Hooks) (v : Validator) (who : List ℕ) (held part : ℕ) → StakeFits P T b n (lists_of w.mine) w → validator_at w.mine v.operator ≡ Some v → delegation w.mine who v.operator ≡ Some held
      → part ≤ held → IfOk (unbonded_shares chain_told v who held part w) (HasUnbonded b n w v (amount_out v.tokens v.shares part))
  unbonded_fits b n w v who held part h found has within =
      let l = lists_of w.mine in
      let op = v.operator in
      let l1 = with_started who op false l in
      let now : Validator = now_of v who (held - part) in
      let less : Validator = less_of v who held part in
      let there : is_some (validator_at w.mine op) ≡ true = ap is_some found in
      on_call (modifying v who held) w _ (λ d u. Leaves P T w.view l1 d u) _ (λ u. refl) (before_told P T v who (Some held) w.view l w.hooks.0 (stake_hooks P T b n l w h) there) (λ d u k leaves.
      let w2 : World Staked Hooks = may_jail v who (held - part) (hook_gave w d u k) in
      let stood = stood_fits b n w v who (held - part) d u k h found leaves in
      on_then (left_standing chain_told now who (held - part) w2) _ (HasLeft b n l who op (held - part) w2) _ (left_fits b n l w2 now who (held - part) stood.fits there) (λ x after.
      let w3 : World Staked Hooks = lessened v who held part x in
      let k3 = lessened_fits b n w v who held part d u k x h found has within leaves after in
      on_then (removed_if_empty chain_told less w3) _ (StakeLeft P T _ _ w3 op) _ (removed_if_fits P T _ _ w3 less k3.fits (found_itself x.mine less)) (λ y gone. record {
        amount = refl;
        fits = gone.fits;
        ctx = gone.ctx ∙ k3.ctx;
        others = λ o e. gone.others o e ∙ k3.others o e;
      })))
