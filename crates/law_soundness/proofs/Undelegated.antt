-- Undelegating is refused by the first of its conditions that holds: in a sound state unbonding is over only where the hook
-- before it is.
use Rattle.std.proofs.Common.{◌≡◌, ◌∙◌, ℕ, ◌==◌, ◌≤◌, Bool, true, false, List, [], ◌∷◌, ◌++◌, length, Option, Some, None, Result, Ok, Err, refl, sym, ap, arith, Contains, ◌-◌, if◌then◌else◌, is_none, is_some, nat_le, nat_lt, option_map, unwrap_or}
use Rattle.std.proofs.lemmas.Bool.Decides.{nat_tests}
use Rattle.base_decimals.specs.{declared.over.Over.Over, Decimals.mul_int_quo_int_of}
use Rattle.base_shares.specs.declared.fault.ShareFault.TheVariants as share
use Rattle.base_shares.specs.Shares.{amount_out, or_over, shares_for_amount}
use Rattle.base_types.specs.declared.account.Account.TheVariants as account
use Rattle.base_types.specs.declared.account.Module.TheVariants as holder
use Rattle.base_roles.specs.declared.entities.{UnbondingEntry.UnbondingEntry, Validator.Validator}
use Rattle.base_roles.specs.declared.refusal.Refusal.{Refusal}
use Rattle.base_roles.specs.declared.refusal.Refusal.TheVariants.{NoDelegation, NoTokens, NoValidator, NonPositive, Overflow, TooManyShares, UnbondingsFull, WrongDenom}
use Rattle.base_roles.specs.{Hooks.with_started, Log.Log, Pair.{and_then, given_with}}
use Rattle.base_roles.specs.Staked.{Staked, delegation, is_bonded, lists_of, validator_at}
use Rattle.base_roles.specs.Flow.{◌>>=◌, ◌>>◌, or_stop, stop_if, stopping}
use Rattle.base_roles.specs.World.{Told, View, World, call, exceeds, gives, hooked, over_mine, over_view, sent}
use Rattle.base_roles.specs.declared.calls.Hook.TheVariants.{Modified as modified, Modifying as modifying}
use Rattle.law_soundness.proofs.{Burns.total_in, Giving.{Gives, gives_on, removed_gives}}
use Rattle.law_soundness.proofs.{Hooking.{IfTold, before_told, hook_gave, stake_hooks}, Moves.Leaves}
use Rattle.law_soundness.proofs.{Points.{StakeFits, StateFits, to_fits}, Standing.own_place, Steps.from_if}
use Rattle.law_soundness.proofs.Unbonding.{HasLeft, left_fits, less_of, lessened, lessened_fits, may_jail, now_of, stood_fits}
use Rattle.law_soundness.specs.StepLaws.{UndelegationsNameConditions}
use Rattle.rule_modules.{proofs.{RefusalLemmas.{mapped, stop_step}, SoundLemmas.found_itself}, specs.Amounts.bond_coins}
use Rattle.rule_modules.specs.Chain.{Hooks, State, chain_told, staked_in, with_staked}
use Rattle.rule_modules.specs.Conditions.{after_hook, are_above, first_of, over_in, when}
use Rattle.rule_modules.specs.{Delegating.{hook_before, is_wrong}, Distribution.{Shared, distribution_told}}
use Rattle.rule_modules.specs.{Owed.entry_balances, RefusalOrder.refused_in, Stakes.{put_delegation, without_shares}}
use Rattle.rule_modules.specs.Unbonding.{left_standing, removed_if_empty, shares_to_unbond, unbonded_shares}
use Rattle.rule_modules.specs.Unbondings.{UnbondingLists, completion, entries_of, grown, undelegated, with_entries}
use Rattle.rule_modules.specs.Window.{window_told}

-- ---- the shares of an amount

-- The conditions against unbonding an amount, before other steps: no delegation, no tokens, more shares than there are.
pub to_unbond_refused : {A : Type 0} (held : Option ℕ) (v : Validator) (amount : ℕ) (f : ℕ × ℕ → Result A Refusal) (rest : List (Option Refusal))
    → ((all part : ℕ) → held ≡ Some all → shares_for_amount v.tokens v.shares amount ≡ Ok part → part ≤ all → refused_in (f (all, part)) ≡ first_of rest)
    → refused_in (shares_to_unbond held v amount >>= f)
    ≡ first_of (when (is_none held) NoDelegation ∷ when (v.tokens == 0) NoTokens ∷ when (are_above (shares_for_amount v.tokens v.shares amount) (unwrap_or held 0)) TooManyShares ∷ rest)
to_unbond_refused {A} held v amount f rest h = by held refl
  where
    at_most : (a n : ℕ) → nat_lt a n ≡ false → n ≤ a
    at_most a n e = grind (arith, nat_tests)

    above : (all part : ℕ) (b : Bool) → held ≡ Some all → shares_for_amount v.tokens v.shares amount ≡ Ok part → nat_lt all part ≡ b
        → refused_in ((stop_if b TooManyShares >> Ok (all, part)) >>= f) ≡ first_of (when b TooManyShares ∷ rest)
    above all part true e g l = refl
    above all part false e g l = h all part e g (at_most all part l)

    tokens : (all : ℕ) (z : Bool) (q : Result ℕ Over) → held ≡ Some all → (v.tokens == 0) ≡ z → mul_int_quo_int_of v.shares amount v.tokens ≡ q
        → refused_in ((stop_if z NoTokens >> (stopping (λ fault. TooManyShares) (if z then Err share.NoTokens else or_over q) >>= λ part. stop_if (nat_lt all part) TooManyShares >> Ok (all, part))) >>= f)
        ≡ first_of (when z NoTokens ∷ when (are_above (if z then Err share.NoTokens else or_over q) all) TooManyShares ∷ rest)
    tokens all true q e z p = refl
    tokens all false (Err over) e z p = refl
    tokens all false (Ok part) e z p = above all part (nat_lt all part) e (λ i. if z i then Err share.NoTokens else or_over (p i)) refl

    by : (o : Option ℕ) → held ≡ o
        → refused_in ((or_stop o NoDelegation >>= λ all. stop_if (v.tokens == 0) NoTokens >> (stopping (λ fault. TooManyShares) (shares_for_amount v.tokens v.shares amount) >>= λ part. stop_if (nat_lt all part) TooManyShares >> Ok (all, part))) >>= f)
        ≡ first_of (when (is_none o) NoDelegation ∷ when (v.tokens == 0) NoTokens ∷ when (are_above (shares_for_amount v.tokens v.shares amount) (unwrap_or o 0)) TooManyShares ∷ rest)
    by None e = refl
    by (Some all) e = tokens all (v.tokens == 0) (mul_int_quo_int_of v.shares amount v.tokens) e refl refl

-- ---- unbonding

-- what is left of a delegation stands, whatever there is
left_gives : (v : Validator) (who : List ℕ) (left : ℕ) (w : World Staked Hooks) → Gives (left_standing chain_told v who left w)
left_gives v who left w = by (left == 0)
  where
    by : (b : Bool) → Gives (if b then Ok (over_mine (without_shares who v.operator) w) else call chain_told (modified v who left) (over_mine (put_delegation who v.operator left) w))
    by true = (_, refl)
    by false = (_, refl)

module _ (P : List ℕ → Type 0) (T : List ℕ → ℕ) where
  -- once the hook has paid, unbonding gives
  behind_gives : (b n : ℕ) (w : World Staked Hooks) (v : Validator) (who : List ℕ) (held part : ℕ) (d : Shared) (u : View) (k : Log) → StakeFits P T b n (lists_of w.mine) w → validator_at w.mine v.operator ≡ Some v
      → delegation w.mine who v.operator ≡ Some held → part ≤ held → Leaves P T w.view (with_started who v.operator false (lists_of w.mine)) d u
      → Gives {A = ℕ × World Staked Hooks} (left_standing chain_told (now_of v who (held - part)) who (held - part) (may_jail v who (held - part) (hook_gave w d u k)) >>= λ x.
      removed_if_empty chain_told (less_of v who held part) (lessened v who held part x) >>= λ y. Ok (amount_out v.tokens v.shares part, y))
  behind_gives b n w v who held part d u k h found has within leaves =
      let l = lists_of w.mine in
      let now : Validator = now_of v who (held - part) in
      let less : Validator = less_of v who held part in
      let w2 : World Staked Hooks = may_jail v who (held - part) (hook_gave w d u k) in
      let stood = stood_fits P T b n w v who (held - part) d u k h found leaves in
      let (x, e) = left_gives now who (held - part) w2 in
      let after = from_if (HasLeft P T b n l who v.operator (held - part) w2) (left_standing chain_told now who (held - part) w2) x e (left_fits P T b n l w2 now who (held - part) stood.fits (ap is_some found)) in
      let less_fits = lessened_fits P T b n w v who held part d u k x h found has within leaves after in
      let (y, f) = removed_gives P T _ _ (lessened v who held part x) less less_fits.fits (found_itself x.mine less) in
      gives_on (left_standing chain_told now who (held - part) w2) (λ z. removed_if_empty chain_told less (lessened v who held part z) >>= λ q. Ok (amount_out v.tokens v.shares part, q)) x e
      (gives_on (removed_if_empty chain_told less (lessened v who held part x)) (λ q. Ok (amount_out v.tokens v.shares part, q)) y f ((amount_out v.tokens v.shares part, y), refl))

  -- so it is over where the hook is
  pub unbonded_over : (b n : ℕ) (w : World Staked Hooks) (v : Validator) (who : List ℕ) (held part : ℕ) → StakeFits P T b n (lists_of w.mine) w → validator_at w.mine v.operator ≡ Some v → delegation w.mine who v.operator ≡ Some held
      → part ≤ held → refused_in (stopping Overflow (unbonded_shares chain_told v who held part w)) ≡ over_in (call chain_told (modifying v who held) w)
  unbonded_over b n w v who held part h found has within =
      by (distribution_told w.hooks.0 (modifying v who held) w.view) (before_told P T v who (Some held) w.view (lists_of w.mine) w.hooks.0 (stake_hooks P T b n (lists_of w.mine) w h) (ap is_some found))
    where
      rest : World Staked Hooks → Result (ℕ × World Staked Hooks) Over
      rest w1 =
          left_standing chain_told (now_of v who (held - part)) who (held - part) (may_jail v who (held - part) w1) >>= λ x.
          removed_if_empty chain_told (less_of v who held part) (lessened v who held part x) >>= λ y. Ok (amount_out v.tokens v.shares part, y)

      by : (t : Told Shared) → IfTold t (λ d u. Leaves P T w.view (with_started who v.operator false (lists_of w.mine)) d u)
          → refused_in (stopping Overflow (hooked (and_then t (λ d u k. given_with d k (window_told w.hooks.1 (modifying v who held) u))) w >>= rest))
          ≡ over_in (hooked (and_then t (λ d u k. given_with d k (window_told w.hooks.1 (modifying v who held) u))) w)
      by (exceeds over) leaves = refl
      by (gives d u k) leaves =
          let (x, e) = behind_gives b n w v who held part d u (k ++ []) h found has within leaves in
          ap (λ (r : Result (ℕ × World Staked Hooks) Over). refused_in (stopping Overflow r)) e

-- a hook is over in a state as in what is of staking there
pub same_over : (w : State) (t : Told Hooks) → over_in (hooked t (staked_in w)) ≡ first_of (over_in (hooked t w) ∷ [])
same_over w (gives h u l) = refl
same_over w (exceeds over) = refl

-- ---- the message

pub undelegations_refused : UndelegationsNameConditions
undelegations_refused who operator coin w s =
    mapped (undelegated chain_told who operator coin w.mine.unbondings (staked_in w)) (λ x. with_staked (record w.mine { unbondings = x.1 }) x.2)
    ∙ stop_step (coin.amount == 0) NonPositive _ _ (by (validator_at w.mine.staked operator) refl)
  where
    h : StateFits (Contains s.few.some) (total_in w.view) w
    h = to_fits w s

    es : List UnbondingEntry
    es = entries_of w.mine.unbondings who operator

    held : Option ℕ
    held = delegation w.mine.staked who operator

    full : Bool
    full = nat_le w.view.ctx.params.max_entries (length es)

    done : Validator → ℕ × World Staked Hooks → ℕ × UnbondingLists × World Staked Hooks
    done v x = (
      completion w.view.ctx,
      with_entries who operator (grown w.view.ctx.height (completion w.view.ctx) x.0 es) w.mine.unbondings,
      (if is_bonded v.status then over_view (sent (account.Module holder.Bonded) (account.Module holder.NotBonded) (bond_coins w.view x.0)) x.1 else x.1),
    )

    over_now : (v : Validator) (all : ℕ) → delegation w.mine.staked who v.operator ≡ Some all → over_in (call chain_told (modifying v who all) (staked_in w)) ≡ first_of (over_in (after_hook who v w) ∷ [])
    over_now v all has =
        same_over w (chain_told w.hooks (modifying v who all) w.view)
        ∙ ap (λ (o : Option ℕ). first_of (over_in (call chain_told (hook_before v who o) w) ∷ [])) (sym has)

    shares_leave : (v : Validator) (all part : ℕ) → validator_at w.mine.staked operator ≡ Some v → held ≡ Some all → part ≤ all
        → refused_in (stopping Overflow (unbonded_shares chain_told v who all part (staked_in w)) >>= λ x. Ok (done v x)) ≡ first_of (over_in (after_hook who v w) ∷ [])
    shares_leave v all part e f within =
        let has : delegation w.mine.staked who v.operator ≡ Some all = ap (λ o. delegation w.mine.staked who o) (h.stake.staked.operators operator v e) ∙ f in
        mapped (stopping Overflow (unbonded_shares chain_told v who all part (staked_in w))) (done v)
        ∙ unbonded_over (Contains s.few.some) (total_in w.view) 0 (entry_balances w.mine.unbondings) (staked_in w) v who all part h.stake
        (own_place (Contains s.few.some) (total_in w.view) w.view.ctx.height w.mine.staked operator v h.stake.staked e) has within
        ∙ over_now v all has

    by : (r : Option Validator) → validator_at w.mine.staked operator ≡ r
        → refused_in (or_stop r NoValidator >>= λ v. shares_to_unbond held v coin.amount >>= λ x. stop_if (is_wrong coin w.view) WrongDenom >> (stop_if full UnbondingsFull >> (stopping Overflow (unbonded_shares chain_told v who x.0 x.1 (staked_in w)) >>= λ y. Ok (done v y))))
        ≡ first_of (
        when (is_none r) NoValidator
        ∷ when (is_none held) NoDelegation
        ∷ when (unwrap_or (option_map (λ v. v.tokens == 0) r) false) NoTokens
        ∷ when (unwrap_or (option_map (λ v. are_above (shares_for_amount v.tokens v.shares coin.amount) (unwrap_or held 0)) r) false) TooManyShares
        ∷ when (is_wrong coin w.view) WrongDenom
        ∷ when full UnbondingsFull
        ∷ unwrap_or (option_map (λ v. over_in (after_hook who v w)) r) None
        ∷ [])
    by None e = refl
    by (Some v) e =
        to_unbond_refused held v coin.amount (λ x. stop_if (is_wrong coin w.view) WrongDenom >> (stop_if full UnbondingsFull >> (stopping Overflow (unbonded_shares chain_told v who x.0 x.1 (staked_in w)) >>= λ y. Ok (done v y)))) _
        (λ all part f g within. stop_step (is_wrong coin w.view) WrongDenom _ _ (stop_step full UnbondingsFull _ _ (shares_leave v all part e f within)))
