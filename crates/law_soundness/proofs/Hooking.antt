-- Calls of the chain's hooks: distribution does its part, and the window nothing, but where a validator is bonded.
use Rattle.std.proofs.Common.{◌≡◌, ℕ, true, false, cond, List, [], ◌++◌, Some, None, Option, Result, Ok, Err, refl, sym, subst, ◌&&◌, IfOk, is_some}
use Rattle.base_roles.specs.{Log.Log, Pair.{and_then, given_with}}
use Rattle.base_roles.specs.{World.{View, Told, gives, exceeds, World, hooked, call}, Flow.{◌>>=◌, stopping}}
use Rattle.base_roles.specs.{declared.{calls.Hook.Hook, entities.Validator.Validator}, Hooks.with_started, Owing.Lists}
use Rattle.base_roles.specs.{Orders.same_addr, Staked.Staked}
use Rattle.rule_modules.specs.Distribution.{Shared, distribution_told, told_of, left_by, unlogged, ended, reward_withdrawn}
use Rattle.rule_modules.specs.{Delegating.hook_before, Chain.{Hooks, chain_told}, Window.{Window, window_told}}
use Rattle.base_decimals.specs.declared.over.Over.{Over}
use Rattle.law_soundness.proofs.{Moves.{HooksFit, Leaves}, Points.StakeFits}
use Rattle.law_soundness.proofs.{Rewards.{EndFits, end_fits, withdrawal_leaves}, Steps.weaker_if}

-- what is told holds, where something is given
abbrev pub IfTold : Told Shared → (Shared → View → Type 0) → Type 0
IfTold (gives d u k) Q = Q d u
IfTold (exceeds over) Q = Unit {0}

-- the world after a hook, but for the window
abbrev pub hook_gave : World Staked Hooks → Shared → View → Log → World Staked Hooks
hook_gave w d u k = record { mine = w.mine; hooks = (d, w.hooks.1); view = u; log = w.log ++ k }

-- the window does nothing
abbrev pub IsIdle : World Staked Hooks → Hook → Type 0
IsIdle w hook = (u : View) → window_told w.hooks.1 hook u ≡ gives w.hooks.1 u []

-- what holds of steps behind a call of a hook
pub on_call : {B : Type 0} (hook : Hook) (w : World Staked Hooks) (f : World Staked Hooks → Result B Over) (R : Shared → View → Type 0) (Q : B → Type 0) → IsIdle w hook → IfTold (distribution_told w.hooks.0 hook w.view) R
    → ((d : Shared) (u : View) (k : Log) → R d u → IfOk (f (hook_gave w d u k)) Q) → IfOk (call chain_told hook w >>= f) Q
on_call hook w f R Q idle told then = by (distribution_told w.hooks.0 hook w.view) told
  where
    by : (t : Told Shared) → IfTold t R → IfOk (hooked (and_then t (λ d u k. given_with d k (window_told w.hooks.1 hook u))) w >>= f) Q
    by (gives d u k) h = subst (λ (r : Told Window). IfOk (hooked (given_with d k r) w >>= f) Q) (sym (idle u)) (then d u (k ++ []) h)
    by (exceeds over) h = tt

-- what holds of what a call of a hook leaves
pub called_if : (hook : Hook) (w : World Staked Hooks) (R : Shared → View → Type 0) (Q : World Staked Hooks → Type 0) → IsIdle w hook → IfTold (distribution_told w.hooks.0 hook w.view) R
    → ((d : Shared) (u : View) (k : Log) → R d u → Q (hook_gave w d u k)) → IfOk (call chain_told hook w) Q
called_if hook w R Q idle told then = by (distribution_told w.hooks.0 hook w.view) told
  where
    by : (t : Told Shared) → IfTold t R → IfOk (hooked (and_then t (λ d u k. given_with d k (window_told w.hooks.1 hook u))) w) Q
    by (gives d u k) h = subst (λ (r : Told Window). IfOk (hooked (given_with d k r) w) Q) (sym (idle u)) (then d u (k ++ []) h)
    by (exceeds over) h = tt

-- the same of a message
pub on_hook : {B E : Type 0} (g : Over → E) (hook : Hook) (w : World Staked Hooks) (f : World Staked Hooks → Result B E) (R : Shared → View → Type 0) (Q : B → Type 0) → IsIdle w hook
    → IfTold (distribution_told w.hooks.0 hook w.view) R → ((d : Shared) (u : View) (k : Log) → R d u → IfOk (f (hook_gave w d u k)) Q) → IfOk (stopping g (call chain_told hook w) >>= f) Q
on_hook g hook w f R Q idle told then = by (distribution_told w.hooks.0 hook w.view) told
  where
    by : (t : Told Shared) → IfTold t R → IfOk (stopping g (hooked (and_then t (λ d u k. given_with d k (window_told w.hooks.1 hook u))) w) >>= f) Q
    by (gives d u k) h = subst (λ (r : Told Window). IfOk (stopping g (hooked (given_with d k r) w) >>= f) Q) (sym (idle u)) (then d u (k ++ []) h)
    by (exceeds over) h = tt

-- a rule's answer, as it is told
pub told_if : (r : Result (Shared × View × Log) Over) (R : Shared → View → Type 0) → IfOk r (λ z. R z.0 z.1) → IfTold (told_of r) R
told_if (Ok z) R h = h
told_if (Err over) R h = tt

pub left_if : {A : Type 0} (r : Result (A × Shared × View × Log) Over) (R : Shared → View → Type 0) → IfOk r (λ z. R z.1 z.2) → IfTold (told_of (left_by r)) R
left_if (Ok z) R h = h
left_if (Err over) R h = tt

pub unlogged_if : (r : Result (Shared × View) Over) (R : Shared → View → Type 0) → IfOk r (λ z. R z.0 z.1) → IfTold (told_of (unlogged r)) R
unlogged_if (Ok z) R h = h
unlogged_if (Err over) R h = tt

-- the lists after the hook before a delegation changes: where there was one, it is not started
abbrev pub lists_before : List ℕ → List ℕ → Option ℕ → Lists → Lists
lists_before who operator held l = record { operators = l.operators; started = λ x o. cond (is_some held && (same_addr who x && same_addr operator o)) false (l.started x o) }

module _ (P : List ℕ → Type 0) (T : List ℕ → ℕ) where
  pub stake_hooks : (b n : ℕ) (l : Lists) (w : World Staked Hooks) → StakeFits P T b n l w → HooksFit P T w.view l w.hooks.0
  stake_hooks b n l w s = record { ground = s.ground; owed = s.owed; shared = s.shared }

  pub before_told : (val : Validator) (who : List ℕ) (held : Option ℕ) (v : View) (l : Lists) (d : Shared) → HooksFit P T v l d → l.operators val.operator ≡ true
      → IfTold (distribution_told d (hook_before val who held) v) (λ e u. Leaves P T v (lists_before who val.operator held l) e u)
  before_told val who None v l d h there = left_if (ended val d v) (λ e u. Leaves P T v l e u) (weaker_if (ended val d v) (EndFits P T val v l d) (λ z. Leaves P T v l z.1 z.2) (end_fits P T val v l d h there) (λ z k. k.leaves))
  before_told val who (Some shares) v l d h there = left_if (reward_withdrawn val who shares d v) (λ e u. Leaves P T v (with_started who val.operator false l) e u) (withdrawal_leaves P T val who shares v l d h there)

pub before_is_idle : (w : World Staked Hooks) (val : Validator) (who : List ℕ) (held : Option ℕ) → IsIdle w (hook_before val who held)
before_is_idle w val who None u = refl
before_is_idle w val who (Some shares) u = refl
