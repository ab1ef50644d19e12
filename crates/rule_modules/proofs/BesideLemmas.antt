-- Slashes call the hooks of distribution alone, beside the window, which does nothing there: unbonding does with it what it
-- does without.
use Rattle.std.proofs.Common.{◌≡◌, ℕ, ◌-◌, ◌==◌, Bool, true, false, List, [], ◌++◌, refl, sym, ap, subst, ◌∙◌, Result, Ok, Err, append-nil, ◌&&◌, ◌||◌, if◌then◌else◌}
use Rattle.base_decimals.specs.declared.over.Over.{Over}
use Rattle.base_shares.specs.Shares.{amount_out}
use Rattle.base_roles.specs.{declared.entities.Validator.Validator, Pair.{and_then, given_with}}
use Rattle.base_roles.specs.{Staked.{Staked, is_unbonded, put_validator}, Flow.{◌>>=◌}}
use Rattle.base_roles.specs.World.{View, Told, gives, exceeds, World, hooked, call, noted, over_view, over_mine, logged}
use Rattle.base_roles.specs.declared.calls.Hook.{Hook, TheVariants.{Modifying as modifying, Modified as modified}}
use Rattle.base_roles.specs.declared.facts.Fact.TheVariants as fact
use Rattle.base_roles.specs.Log as log
use Rattle.base_roles.specs.declared.calls.Hook.TheVariants as hook
use Rattle.rule_modules.specs.{Chain.{Hooks, chain_told}, Distribution.{Shared, distribution_told}}
use Rattle.rule_modules.specs.Stakes.{put_delegation, without_shares, without_validator}
use Rattle.rule_modules.specs.Unbonding.{put_in_jail, falls_below_minimum, left_standing, removed_if_empty, validator_removed, unbonded_shares}
use Rattle.rule_modules.specs.Window.{Window, window_told}

module _ (i : Window) where
  -- the world with the window beside it again
  abbrev pub raised : World Staked Shared → World Staked Hooks
  raised w = record { mine = w.mine; hooks = (w.hooks, i); view = w.view; log = w.log }

  -- what a step leaves, and what it answers and leaves, with the window
  abbrev pub raised_step : Result (World Staked Shared) Over → Result (World Staked Hooks) Over
  raised_step (Ok w) = Ok (raised w)
  raised_step (Err over) = Err over

  abbrev pub raised_answer : Result (ℕ × World Staked Shared) Over → Result (ℕ × World Staked Hooks) Over
  raised_answer (Ok y) = Ok (y.0, raised y.1)
  raised_answer (Err over) = Err over

  call_same : (hook : Hook) (w : World Staked Shared) → ((u : View) → window_told i hook u ≡ gives i u []) → call chain_told hook (raised w) ≡ raised_step (call distribution_told hook w)
  call_same hook w idle = by (distribution_told w.hooks hook w.view)
    where
      by : (t : Told Shared) → hooked (and_then t (λ d u l. given_with d l (window_told i hook u))) (raised w) ≡ raised_step (hooked t w)
      by (gives d u l) =
          subst (λ (r : Told Window). hooked (given_with d l r) (raised w) ≡ raised_step (hooked (gives d u l) w)) (sym (idle u))
          (ap (λ k. let out : World Staked Hooks = record { mine = w.mine; hooks = (d, i); view = u; log = w.log ++ k } in Ok out) (append-nil l))
      by (exceeds over) = refl

  then_same : (r : Result (World Staked Shared) Over) (f : World Staked Hooks → Result (World Staked Hooks) Over) (g : World Staked Shared → Result (World Staked Shared) Over) → ((y : World Staked Shared) → f (raised y) ≡ raised_step (g y))
      → (raised_step r >>= f) ≡ raised_step (r >>= g)
  then_same (Ok y) f g h = h y
  then_same (Err over) f g h = refl

  then_answers : (r : Result (World Staked Shared) Over) (f : World Staked Hooks → Result (ℕ × World Staked Hooks) Over) (g : World Staked Shared → Result (ℕ × World Staked Shared) Over) → ((y : World Staked Shared) → f (raised y) ≡ raised_answer (g y))
      → (raised_step r >>= f) ≡ raised_answer (r >>= g)
  then_answers (Ok y) f g h = h y
  then_answers (Err over) f g h = refl

  left_same : (v : Validator) (who : List ℕ) (left : ℕ) (w : World Staked Shared) → left_standing chain_told v who left (raised w) ≡ raised_step (left_standing distribution_told v who left w)
  left_same v who left w = by (left == 0)
    where
      by : (b : Bool) → (if b then Ok (over_mine (without_shares who v.operator) (raised w)) else call chain_told (modified v who left) (over_mine (put_delegation who v.operator left) (raised w)))
          ≡ raised_step (if b then Ok (over_mine (without_shares who v.operator) w) else call distribution_told (modified v who left) (over_mine (put_delegation who v.operator left) w))
      by true = refl
      by false = call_same (modified v who left) (over_mine (put_delegation who v.operator left) w) (λ u. refl)

  removed_same : (v : Validator) (w : World Staked Shared) → removed_if_empty chain_told v (raised w) ≡ raised_step (removed_if_empty distribution_told v w)
  removed_same v w = by (is_unbonded v.status && (v.shares == 0))
    where
      by : (b : Bool) → (if b then validator_removed chain_told v (raised w) else Ok (raised w)) ≡ raised_step (if b then validator_removed distribution_told v w else Ok w)
      by true =
          let gone : World Staked Shared = over_mine (without_validator v.operator) w in
          ap (λ r. r >>= λ x. Ok (over_view (noted (fact.Removed v.operator)) x)) (call_same (hook.Removed v) gone (λ u. refl))
          ∙ then_same (call distribution_told (hook.Removed v) gone) (λ x. Ok (over_view (noted (fact.Removed v.operator)) x)) (λ x. Ok (over_view (noted (fact.Removed v.operator)) x)) (λ y. refl)
      by false = refl

  may_be_jailed : (falls : Bool) (v : Validator) (w : World Staked Shared) → (if falls then put_in_jail v (raised w) else raised w) ≡ raised (if falls then put_in_jail v w else w)
  may_be_jailed true v w = refl
  may_be_jailed false v w = refl

  pub unbonded_same : (v : Validator) (who : List ℕ) (held part : ℕ) (w : World Staked Shared) → unbonded_shares chain_told v who held part (raised w) ≡ raised_answer (unbonded_shares distribution_told v who held part w)
  unbonded_same v who held part w =
      let falls : Bool = falls_below_minimum v who (held - part) in
      let now : Validator = record v { jailed = v.jailed || falls } in
      let out : ℕ = amount_out v.tokens v.shares part in
      let less : Validator = record now { tokens = v.tokens - out; shares = v.shares - part } in
      let end_with : World Staked Hooks → Result (ℕ × World Staked Hooks) Over = λ x. removed_if_empty chain_told less (logged v.operator log.left (over_mine (put_validator less) x)) >>= λ e. Ok (out, e) in
      let end : World Staked Shared → Result (ℕ × World Staked Shared) Over = λ x. removed_if_empty distribution_told less (logged v.operator log.left (over_mine (put_validator less) x)) >>= λ e. Ok (out, e) in
      let rest_with : World Staked Hooks → Result (ℕ × World Staked Hooks) Over = λ x. left_standing chain_told now who (held - part) (if falls then put_in_jail v x else x) >>= end_with in
      let rest : World Staked Shared → Result (ℕ × World Staked Shared) Over = λ x. left_standing distribution_told now who (held - part) (if falls then put_in_jail v x else x) >>= end in
      ap (λ r. r >>= rest_with) (call_same (modifying v who held) w (λ u. refl))
      ∙ then_answers (call distribution_told (modifying v who held) w) rest_with rest (λ y.
      let stood : World Staked Shared = (if falls then put_in_jail v y else y) in
      ap (λ x. left_standing chain_told now who (held - part) x >>= end_with) (may_be_jailed falls v y)
      ∙ ap (λ r. r >>= end_with) (left_same now who (held - part) stood)
      ∙ then_answers (left_standing distribution_told now who (held - part) stood) end_with end (λ z.
      let fewer : World Staked Shared = logged v.operator log.left (over_mine (put_validator less) z) in
      ap (λ r. r >>= λ e. Ok (out, e)) (removed_same less fewer)
      ∙ then_answers (removed_if_empty distribution_told less fewer) (λ e. Ok (out, e)) (λ e. Ok (out, e)) (λ a. refl)))
