-- What the modules' hooks tell is what the machine's tell: distribution is the same, and the signing records stand beside the window's
-- number, which stays.
use Rattle.std.proofs.Common.{◌≡◌, ℕ, [], ◌∷◌, ◌++◌, Result, Ok, Err, refl, sym, ap}
use Rattle.std.specs.Prelude.{⊤}
use Rattle.base_roles.specs.declared.{faults.{HookFault.HookFault, MessageFault.MessageFault}, refusal.Refusal.Refusal}
use Rattle.base_roles.specs.{Answers.{AnswersAs, AsRuled, StopsForMemory, RefusesAs, WantsMemory, ExceedsAs}, Log.Log}
use Rattle.base_roles.specs.{Pair.{and_then, given_with}, Staked.Staked, World.{View, Told, gives, exceeds, World}}
use Rattle.base_roles.specs.declared.calls.Hook.{Hook}
use Rattle.base_decimals.specs.declared.over.Over.{Over}
use Rattle.rule_modules.specs.{Answers.Leaves, Chain.{Hooks, State, chain_told, staked_in}}
use Rattle.rule_modules.specs.{Distribution.{Shared, distribution_told}, Window.{Window, window_told}}
use Rattle.mod_signing.specs.Stands.{Signings, same_window}
use Rattle.chain_modules.{specs.Kept.hooks_tell, proofs.CarryLemmas.{carried, carried_by, carried_ok, told_carried}}

-- the machine's hooks, as the modules hold them
abbrev pub held_as : ℕ → Hooks → Shared × Signings
held_as window h = (h.0, record { window = window; records = h.1 })

pub told_as : (window : ℕ) (h : Hooks) (hook : Hook) (v : View) → hooks_tell.told (held_as window h) hook v ≡ told_carried (held_as window) [] (chain_told h hook v)
told_as window h hook v = by (distribution_told h.0 hook v)
  where
    both : (d : Shared) (l : Log) (t : Told Window) → given_with d l (same_window window t) ≡ told_carried (held_as window) [] (given_with d l t)
    both d l (gives i u m) = refl
    both d l (exceeds over) = refl

    by : (t : Told Shared) → and_then t (λ a w log. given_with a log (same_window window (window_told h.1 hook w))) ≡ told_carried (held_as window) [] (and_then t (λ d w log. given_with d log (window_told h.1 hook w)))
    by (gives d w l) = both d l (window_told h.1 hook w)
    by (exceeds over) = refl

-- and so is what they tell themselves, behind an earlier log
pub told_itself : (k : Log) (h : Hooks) (hook : Hook) (v : View) → chain_told h hook v ≡ told_carried (λ (x : Hooks). x) k (chain_told h hook v)
told_itself k h hook v = by (chain_told h hook v)
  where
    by : (t : Told Hooks) → t ≡ told_carried (λ (x : Hooks). x) k t
    by (gives x w l) = refl
    by (exceeds over) = refl

-- ---- a state's validators and delegations, without its log

-- the same world without its log
abbrev pub unlogged : State → World Staked Hooks
unlogged p = record { mine = p.mine.staked; hooks = p.hooks; view = p.view; log = [] }

nothing_behind : (l : Log) → l ++ [] ≡ l
nothing_behind [] = refl
nothing_behind (e ∷ es) = ap (λ l. e ∷ l) (nothing_behind es)

pub logged_again : (p : State) → staked_in p ≡ carried (λ (x : Hooks). x) p.log (unlogged p)
logged_again p = λ i. record { mine = p.mine.staked; hooks = p.hooks; view = p.view; log = sym (nothing_behind p.log) i }

-- ---- answers that are carried

-- A message's answer over the modules' hooks is its answer over the machine's, of what it leaves that is not the log.
pub answers_on : {A : Type 0} (window : ℕ) (r : Result (A × World Staked Hooks) Refusal) (s : Staked) (holds : Shared × Signings → Type 0) (v : View) (answer : Result A MessageFault)
    → AnswersAs (carried_ok (carried_by (held_as window) []) r) s holds v answer
    → AsRuled r answer (λ due a. (a ≡ due.0) × (s ≡ due.1.mine) × holds (held_as window due.1.hooks) × (v ≡ due.1.view)) StopsForMemory RefusesAs
answers_on window (Ok due) s holds v (Ok a) h = h
answers_on window (Ok due) s holds v (Err fault) h = h
answers_on window (Err why) s holds v (Ok a) h = h
answers_on window (Err why) s holds v (Err fault) h = h

-- The same of a call without an answer.
pub leaves_on : (window : ℕ) (r : Result (World Staked Hooks) Over) (s : Staked) (holds : Shared × Signings → Type 0) (v : View) (answer : Result ⊤ HookFault)
    → Leaves (carried_ok (carried (held_as window) []) r) s holds v answer
    → AsRuled r answer (λ due a. (s ≡ due.mine) × holds (held_as window due.hooks) × (v ≡ due.view)) WantsMemory ExceedsAs
leaves_on window (Ok due) s holds v (Ok a) h = h
leaves_on window (Ok due) s holds v (Err fault) h = h
leaves_on window (Err over) s holds v (Ok a) h = h
leaves_on window (Err over) s holds v (Err fault) h = h
