-- Calls of the chain's hooks, taken apart, and the hook before a delegation changes.
use Rattle.std.proofs.Common.{◌≡◌, ℕ, ◌+◌, ◌≤◌, ◌≢◌, Bool, true, false, cond, List, [], ◌∷◌, ◌++◌, map, filter, refl, arith, sym, ap, subst, ◌∙◌, Option, Some, None, Result, Ok, Err, append-nil, unwrap_or, is_some, ◌&&◌}
use Rattle.std.specs.{List.AllByRecursion, BTreeMap.is_at, Map.lookup}
use Rattle.base_decimals.specs.declared.over.Over.{Over}
use Rattle.base_coins.specs.Coins.{Money}
use Rattle.base_roles.specs.{declared.entities.{StartingInfo.StartingInfo, Validator.Validator}, Log.Log}
use Rattle.base_roles.specs.{Orders.{pair_cmp, same_addr}, Pair.{and_then, given_with}}
use Rattle.base_roles.specs.Staked.{Staked, validator_at, delegation}
use Rattle.base_roles.specs.{World.{View, Told, gives, exceeds, World, hooked, call}, declared.calls.Hook.Hook}
use Rattle.rule_modules.proofs.OrderLemmas.{pair_found, same_itself}
use Rattle.rule_modules.specs.{Chain.{Hooks, State, chain_told, with_shared}, Delegating.hook_before}
use Rattle.rule_modules.specs.Distribution.{Shared, distribution_told, told_of, left_by, ended, reward_withdrawn}
use Rattle.rule_modules.specs.{Periods.start_of, Window.{Window, window_told}}
use Rattle.law_rewards.specs.{Account.{Start, counted_shares}, States.{starts_in, account_in, AreReached}}
use Rattle.law_rewards.proofs.{Entries.addr_is, Reached.reached_counted, Claims.{IsReady, IsEnded}}
use Rattle.law_rewards.proofs.Endings.{closed_is, end_is, ended_reached}
use Rattle.law_rewards.proofs.Payments.{IsWithdrawn, withdrawn_is, withdrawn_reached}
use Rattle.law_rewards.proofs.{Beginnings.{MayBegin, may_begin}, Quiet.same_ok}

-- the world after a hook, but for the window
abbrev pub hook_gave : World Staked Hooks → Shared × View × Log → World Staked Hooks
hook_gave w z = record { mine = w.mine; hooks = (z.0, w.hooks.1); view = z.1; log = w.log ++ z.2 }

-- the window does nothing
abbrev pub IsIdle : World Staked Hooks → Hook → Type 0
IsIdle w hook = (u : View) → window_told w.hooks.1 hook u ≡ gives w.hooks.1 u []

-- what distribution told
pub call_parts : (hook : Hook) (w y : World Staked Hooks) → IsIdle w hook → call chain_told hook w ≡ Ok y
    → (z : Shared × View × Log) × (distribution_told w.hooks.0 hook w.view ≡ gives z.0 z.1 z.2) × (hook_gave w z ≡ y)
call_parts hook w y idle e = by (distribution_told w.hooks.0 hook w.view) refl e
  where
    by : (t : Told Shared) → distribution_told w.hooks.0 hook w.view ≡ t → hooked (and_then t (λ d u k. given_with d k (window_told w.hooks.1 hook u))) w ≡ Ok y
        → (z : Shared × View × Log) × (distribution_told w.hooks.0 hook w.view ≡ gives z.0 z.1 z.2) × (hook_gave w z ≡ y)
    by (gives d u k) is h =
        let gone : hooked (given_with d k (gives w.hooks.1 u [])) w ≡ Ok y = subst (λ (r : Told Window). hooked (given_with d k r) w ≡ Ok y) (idle u) h in
        let out : World Staked Hooks = record { mine = w.mine; hooks = (d, w.hooks.1); view = u; log = w.log ++ (k ++ []) } in
        ((d, u, k), is, ap (λ l. let o : World Staked Hooks = record { mine = w.mine; hooks = (d, w.hooks.1); view = u; log = w.log ++ l } in o) (sym (append-nil k)) ∙ same_ok out y gone)
    by (exceeds over) is h = absurd cc

pub same_told : (s t : Shared) (u v : View) (k l : Log) → Path (Told Shared) (gives s u k) (gives t v l) → (s ≡ t) × (u ≡ v) × (k ≡ l)
same_told s t u v k l e = (cc, cc, cc)

-- the answer of a rule of which a hook tells
pub answer_of : {A : Type 0} (r : Result (A × Shared × View × Log) Over) (z : Shared × View × Log) → told_of (left_by r) ≡ gives z.0 z.1 z.2 → (a : A) × (r ≡ Ok (a, z.0, z.1, z.2))
answer_of (Ok p) z h =
    let same : (p.1 ≡ z.0) × (p.2 ≡ z.1) × (p.3 ≡ z.2) = same_told p.1 z.0 p.2 z.1 p.3 z.2 h in
    (p.0, ap (λ s. Ok (p.0, s, p.2, p.3)) same.0 ∙ ap (λ u. Ok (p.0, z.0, u, p.3)) same.1 ∙ ap (λ l. Ok (p.0, z.0, z.1, l)) same.2)
answer_of (Err over) z h = absurd cc

-- ---- a delegation that may change

-- The validator's period has just ended, the delegator has no start at it, and there is room for its shares.
pub record IsOpen (d : List ℕ) (w : State) (v : Validator) (who : List ℕ) (held : ℕ) : Type 0 where
  pub none : (account_in d w v).current ≡ 0
  pub within : counted_shares (account_in d w v) + held ≤ v.shares
  pub apart : AllByRecursion (λ s. who ≢ s.who) (starts_in w.mine.staked w.hooks.0.rewards v.operator)

abbrev pub state_told : State → Shared × View × Log → State
state_told w z = with_shared z.0 z.1 z.2 w

-- so it is behind the hook before it
pub record HasOpened (w : State) (v : Validator) (who : List ℕ) (z : Shared × View × Log) : Type 0 where
  pub reached : AreReached (state_told w z)
  pub ready : (d : List ℕ) → IsOpen d (state_told w z) v who (unwrap_or (delegation w.mine.staked who v.operator) 0)
  pub height : z.1.ctx.height ≡ w.view.ctx.height

pub none_of : {X : Type 0} (o : Option X) → is_some o ≡ false → o ≡ None
none_of None e = refl
none_of (Some x) e = absurd cc

abbrev start_in : Staked → List ℕ → (List ℕ × List ℕ) × StartingInfo → Start
start_in s op e = record { who = e.0.1; shares = unwrap_or (delegation s e.0.1 op) 0; info = e.1 }

pair_own : (o x : List ℕ) → is_at (pair_cmp (o, x)) (o, x) ≡ true
pair_own o x = pair_found o o x x ∙ (λ i. same_itself o i && same_itself x i)

nobody_first : (s : Staked) (who op : List ℕ) (e : (List ℕ × List ℕ) × StartingInfo) (rest : Option StartingInfo) (ss : List Start) (t b : Bool) → same_addr e.0.0 op ≡ t → is_at (pair_cmp (op, who)) e.0 ≡ b
    → cond b (Some e.1) rest ≡ None → (rest ≡ None → AllByRecursion (λ (t : Start). who ≢ t.who) ss) → AllByRecursion (λ (t : Start). who ≢ t.who) (cond t (start_in s op e ∷ ss) ss)
nobody_first s who op e rest ss t true own is none later = absurd cc
nobody_first s who op e rest ss false false own is none later = later none
nobody_first s who op e rest ss true false own is none later =
    (λ same. true_not_false (sym (pair_own op who) ∙ ap (is_at (pair_cmp (op, who))) (λ i. (sym (addr_is e.0.0 op own) i, same i)) ∙ is), later none)
  where
    true_not_false : true ≡ false → ⊥
    true_not_false h = cc

map_if : {A B : Type 0} (f : A → B) (b : Bool) (x : A) (xs : List A) → map f (cond b (x ∷ xs) xs) ≡ cond b (f x ∷ map f xs) (map f xs)
map_if f true x xs = refl
map_if f false x xs = refl

-- where no start is found, none is of the delegator
pub nobody_started : (s : Staked) (who op : List ℕ) (es : List ((List ℕ × List ℕ) × StartingInfo)) → lookup (is_at (pair_cmp (op, who))) es ≡ None
    → AllByRecursion (λ (t : Start). who ≢ t.who) (map (start_in s op) (filter (λ e. same_addr e.0.0 op) es))
nobody_started s who op [] none = tt
nobody_started s who op (e ∷ es) none =
    subst (AllByRecursion (λ (t : Start). who ≢ t.who)) (sym (map_if (start_in s op) (same_addr e.0.0 op) e (filter (λ e. same_addr e.0.0 op) es)))
    (nobody_first s who op e (lookup (is_at (pair_cmp (op, who))) es) (map (start_in s op) (filter (λ e. same_addr e.0.0 op) es)) (same_addr e.0.0 op) (is_at (pair_cmp (op, who)) e.0) refl refl none (λ h. nobody_started s who op es h))

-- a new delegation
opened_new : (w : State) (v : Validator) (who : List ℕ) (z : Shared × View × Log) (p : ℕ) → IsReady w v.operator → validator_at w.mine.staked v.operator ≡ Some v → delegation w.mine.staked who v.operator ≡ None
    → ended v w.hooks.0 w.view ≡ Ok (p, z.0, z.1, z.2) → AreReached w → HasOpened w v who z
opened_new w v who z p ready found held e reached =
    let after : AreReached (state_told w z) = ended_reached w v (p, z.0, z.1, z.2) ready found e reached in
    let nobody : start_of w.hooks.0.rewards who v.operator ≡ None = none_of (start_of w.hooks.0.rewards who v.operator) (ready.starts who ∙ ap is_some held) in
    let i0 : IsEnded [] v w.hooks.0 w.view (p, z.0, z.1, z.2) = end_is [] w v (p, z.0, z.1, z.2) ready e in
    record {
      reached = after;
      ready = λ d. (
          let i : IsEnded d v w.hooks.0 w.view (p, z.0, z.1, z.2) = end_is d w v (p, z.0, z.1, z.2) ready e in
          let counted : counted_shares (account_in d (state_told w z) v) ≤ v.shares = reached_counted d (account_in d (state_told w z) v) (after d v found) in
          let none : unwrap_or (delegation w.mine.staked who v.operator) 0 ≡ 0 = ap (λ o. unwrap_or o 0) held in
          record {
            none = ap (λ x. x.current) (closed_is d w v (p, z.0, z.1, z.2) i);
            within = omega (arith, counted, none);
            apart = subst (λ r. AllByRecursion (λ s. who ≢ s.who) (starts_in w.mine.staked r v.operator)) (sym i.rewards) (nobody_started w.mine.staked who v.operator w.hooks.0.rewards.starts nobody);
          });
      height = i0.height;
    }

-- one that has shares
opened_old : (w : State) (v : Validator) (who : List ℕ) (shares : ℕ) (z : Shared × View × Log) (coins : Money) → IsReady w v.operator → validator_at w.mine.staked v.operator ≡ Some v → delegation w.mine.staked who v.operator ≡ Some shares
    → reward_withdrawn v who shares w.hooks.0 w.view ≡ Ok (coins, z.0, z.1, z.2) → AreReached w → HasOpened w v who z
opened_old w v who shares z coins ready found held e reached =
    let k : IsWithdrawn v who shares w.hooks.0 w.view (coins, z.0, z.1, z.2) = withdrawn_is v who shares w.hooks.0 w.view (coins, z.0, z.1, z.2) e in
    let i0 : IsEnded [] v w.hooks.0 w.view k.first = end_is [] w v k.first ready k.ends in
    let own : unwrap_or (delegation w.mine.staked who v.operator) 0 ≡ shares = ap (λ o. unwrap_or o 0) held in
    record {
      reached = withdrawn_reached w v who shares (coins, z.0, z.1, z.2) ready found held e reached;
      ready = λ d. (
          let may : MayBegin d (state_told w z) v who shares = may_begin d w v who shares (coins, z.0, z.1, z.2) ready found held k reached in
          let room : counted_shares (account_in d (state_told w z) v) + shares ≤ v.shares = may.within in
          record { none = may.none; within = omega (arith, room, own); apart = may.apart });
      height = k.height ∙ i0.height;
    }

pub opened : (w : State) (v : Validator) (who : List ℕ) (z : Shared × View × Log) → IsReady w v.operator → validator_at w.mine.staked v.operator ≡ Some v
    → distribution_told w.hooks.0 (hook_before v who (delegation w.mine.staked who v.operator)) w.view ≡ gives z.0 z.1 z.2 → AreReached w → HasOpened w v who z
opened w v who z ready found e reached = by (delegation w.mine.staked who v.operator) refl e
  where
    by : (o : Option ℕ) → delegation w.mine.staked who v.operator ≡ o → distribution_told w.hooks.0 (hook_before v who o) w.view ≡ gives z.0 z.1 z.2 → HasOpened w v who z
    by None held h = let end : (p : ℕ) × (ended v w.hooks.0 w.view ≡ Ok (p, z.0, z.1, z.2)) = answer_of (ended v w.hooks.0 w.view) z h in opened_new w v who z end.0 ready found held end.1 reached
    by (Some shares) held h =
        let end : (coins : Money) × (reward_withdrawn v who shares w.hooks.0 w.view ≡ Ok (coins, z.0, z.1, z.2)) = answer_of (reward_withdrawn v who shares w.hooks.0 w.view) z h in
        opened_old w v who shares z end.0 ready found held end.1 reached

pub before_is_idle : (w : World Staked Hooks) (v : Validator) (who : List ℕ) (held : Option ℕ) → IsIdle w (hook_before v who held)
before_is_idle w v who None u = refl
before_is_idle w v who (Some shares) u = refl
