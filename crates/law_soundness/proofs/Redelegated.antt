-- Redelegating is refused by the first of its conditions that holds: the hook before the delegation to the target is over in
-- the same cases before and after the shares have left the source.
use Rattle.std.proofs.Common.{◌≡◌, ◌∙◌, ℕ, ◌==◌, ◌≤◌, Bool, true, false, List, [], ◌∷◌, length, Option, Some, None, Result, Ok, Err, refl, sym, ap, Contains, is_none, is_some, nat_le, option_map, unwrap_or}
use Rattle.std.specs.Prelude.{⊤}
use Rattle.base_decimals.specs.declared.over.Over.{Over}
use Rattle.base_shares.specs.Shares.{amount_out, has_invalid_rate, issued_shares, shares_for_amount}
use Rattle.base_roles.specs.declared.{entities.Validator.Validator, refusal.Refusal.Refusal}
use Rattle.base_roles.specs.declared.refusal.Refusal.TheVariants.{NoDelegation, NoTokens, NoValidator, NonPositive, Overflow, RateInvalid, RedelegationsFull, SelfRedelegation, TinyDelegation, TinyRedelegation, TooManyShares, Transitive, WrongDenom}
use Rattle.base_roles.specs.{Orders.same_addr, Staked.{Staked, delegation, lists_of, validator_at}}
use Rattle.base_roles.specs.Flow.{◌>>=◌, ◌>>◌, or_stop, stop_if, stopping}
use Rattle.base_roles.specs.World.{Told, World, call, exceeds, gives, hooked}
use Rattle.base_roles.specs.declared.calls.Hook.TheVariants.{Modifying as modifying}
use Rattle.law_soundness.proofs.{Apart.{IsApart, unbonded_apart}, Burns.total_in, Hooking.stake_hooks}
use Rattle.law_soundness.proofs.{Limits.{hook_reads, limit_alike, limit_before}, Points.{StateFits, to_fits}}
use Rattle.law_soundness.proofs.{Refused.{given_refused, pool_refused, stop_known}, Standing.own_place, Steps.from_if}
use Rattle.law_soundness.proofs.Unbonding.{HasUnbonded, unbonded_fits}
use Rattle.law_soundness.proofs.Undelegated.{same_over, to_unbond_refused, unbonded_over}
use Rattle.law_soundness.specs.StepLaws.{RedelegationsNameConditions}
use Rattle.rule_modules.proofs.RefusalLemmas.{mapped, stop_step}
use Rattle.rule_modules.specs.Chain.{Hooks, State, chain_told, staked_in, with_staked}
use Rattle.rule_modules.specs.Conditions.{after_hook, are_above, first_of, goes_out, is_nothing, issue_over, over_in, when}
use Rattle.rule_modules.specs.{Delegating.{delegated, hook_before, is_wrong, pool, shares_given}, Owed.entry_balances}
use Rattle.rule_modules.specs.Redelegations.{RedelegationLists, appended, begin_info, is_transitive, redelegated, redelegations_of}
use Rattle.rule_modules.specs.{RefusalOrder.refused_in, Unbonding.{shares_to_unbond, unbonded_shares}}

-- ---- shares that are given

-- an answer that is refused so
abbrev answer : Option Refusal → Result ⊤ Refusal
answer None = Ok tt
answer (Some why) = Err why

said : (o : Option Refusal) → refused_in (answer o) ≡ o
said None = refl
said (Some why) = refl

module _ (v : Validator) (amount : ℕ) (rest : List (Option Refusal)) where
  -- the conditions against issuing shares, and these behind them
  abbrev against_issue : List (Option Refusal)
  against_issue = when (has_invalid_rate v.tokens v.shares) RateInvalid ∷ issue_over v (issued_shares v.tokens v.shares amount) ∷ when (is_nothing (issued_shares v.tokens v.shares amount)) TinyDelegation ∷ rest

  issue_refused : refused_in (shares_given v amount >>= λ i. answer (first_of rest)) ≡ first_of against_issue
  issue_refused = given_refused v amount (λ i. answer (first_of rest)) rest (λ i. said (first_of rest))

  -- none of them holds where shares are given
  given_passes : (issued : ℕ) → shares_given v amount ≡ Ok issued → first_of against_issue ≡ first_of rest
  given_passes issued e = sym issue_refused ∙ ap (λ q. refused_in (q >>= λ i. answer (first_of rest))) e ∙ said (first_of rest)

  given_known : {A : Type 0} (next : Result A Refusal) → ((issued : ℕ) → shares_given v amount ≡ Ok issued → refused_in next ≡ first_of rest) → refused_in (shares_given v amount >> next) ≡ first_of against_issue
  given_known {A} next h = by (shares_given v amount) refl
    where
      by : (r : Result ℕ Refusal) → shares_given v amount ≡ r → refused_in (r >> next) ≡ first_of against_issue
      by (Ok issued) e = h issued e ∙ sym (given_passes issued e)
      by (Err why) e = sym (ap (λ q. refused_in (q >>= λ i. answer (first_of rest))) e) ∙ issue_refused

-- ---- two hooks

first_more : (why : Refusal) (o p : Option Refusal) → Some why ≡ first_of (o ∷ []) → Some why ≡ first_of (o ∷ p ∷ [])
first_more why None p e = absurd cc
first_more why (Some x) p e = e

none_first : (o p : Option Refusal) → None ≡ first_of (o ∷ []) → first_of (p ∷ []) ≡ first_of (o ∷ p ∷ [])
none_first None p e = refl
none_first (Some x) p e = absurd cc

world_over : {A B : Type 0} (t : Told Hooks) (x : World A Hooks) (y : World B Hooks) → over_in (hooked t x) ≡ over_in (hooked t y)
world_over (gives h u l) x y = refl
world_over (exceeds over) x y = refl

module _ (who : List ℕ) (w : State) (P : List ℕ → Type 0) (T : List ℕ → ℕ) (h : StateFits P T w) (v t : Validator) where
  -- after the source's unbonding the target's hook is over where it was before
  hooks_alike : (y : ℕ × World Staked Hooks) (out : ℕ) → same_addr v.operator t.operator ≡ false → validator_at w.mine.staked t.operator ≡ Some t
      → HasUnbonded P T 0 (entry_balances w.mine.unbondings) (staked_in w) v out y → IsApart who t.operator (staked_in w) y.1
      → over_in (after_hook who t (with_staked w.mine y.1)) ≡ over_in (after_hook who t w)
  hooks_alike y out apart found k a =
      let now = delegation y.1.mine who t.operator in
      let then = delegation w.mine.staked who t.operator in
      let there : is_some (validator_at w.mine.staked t.operator) ≡ true = ap is_some found in
      let still : is_some (validator_at y.1.mine t.operator) ≡ true = ap is_some (k.others t.operator apart ∙ found) in
      world_over (chain_told y.1.hooks (hook_before t who now) y.1.view) (with_staked w.mine y.1) y.1
      ∙ hook_reads P T t who now (lists_of y.1.mine) y.1 (stake_hooks P T _ _ (lists_of y.1.mine) y.1 k.fits) still
      ∙ (λ i. limit_before t who (a.held i) y.1.hooks.0 (k.ctx i).height)
      ∙ limit_alike t who then w.hooks.0 y.1.hooks.0 w.view.ctx.height a.reads
      ∙ sym (hook_reads P T t who then (lists_of w.mine.staked) (staked_in w) (stake_hooks P T 0 (entry_balances w.mine.unbondings) (lists_of w.mine.staked) (staked_in w) h.stake) there)
      ∙ world_over (chain_told w.hooks (hook_before t who then) w.view) (staked_in w) w

  -- the source's shares are unbonded, then the target's are issued
  both_refused : {A : Type 0} (all part issued : ℕ) (g : ℕ × World Staked Hooks → ℕ × World Staked Hooks → A) → validator_at w.mine.staked v.operator ≡ Some v → delegation w.mine.staked who v.operator ≡ Some all → part ≤ all
      → same_addr v.operator t.operator ≡ false → validator_at w.mine.staked t.operator ≡ Some t → shares_given t (amount_out v.tokens v.shares part) ≡ Ok issued
      → refused_in (stopping Overflow (unbonded_shares chain_told v who all part (staked_in w)) >>= λ y. delegated chain_told t who y.0 (pool v.status) y.1 >>= λ z. Ok (g y z))
      ≡ first_of (over_in (after_hook who v w) ∷ over_in (after_hook who t w) ∷ [])
  both_refused all part issued g found has within apart found_target given = by (unbonded_shares chain_told v who all part (staked_in w)) refl
    where
      n : ℕ
      n = entry_balances w.mine.unbondings

      out : ℕ
      out = amount_out v.tokens v.shares part

      -- the first hook decides whether shares are unbonded
      first : refused_in (stopping Overflow (unbonded_shares chain_told v who all part (staked_in w))) ≡ first_of (over_in (after_hook who v w) ∷ [])
      first =
          unbonded_over P T 0 n (staked_in w) v who all part h.stake found has within
          ∙ same_over w (chain_told w.hooks (modifying v who all) w.view)
          ∙ ap (λ (o : Option ℕ). first_of (over_in (call chain_told (hook_before v who o) w) ∷ [])) (sym has)

      by : (r : Result (ℕ × World Staked Hooks) Over) → unbonded_shares chain_told v who all part (staked_in w) ≡ r
          → refused_in (stopping Overflow r >>= λ y. delegated chain_told t who y.0 (pool v.status) y.1 >>= λ z. Ok (g y z)) ≡ first_of (over_in (after_hook who v w) ∷ over_in (after_hook who t w) ∷ [])
      by (Err over) e = first_more (Overflow over) (over_in (after_hook who v w)) (over_in (after_hook who t w)) (sym (ap (λ q. refused_in (stopping Overflow q)) e) ∙ first)
      by (Ok y) e =
          let k : HasUnbonded P T 0 n (staked_in w) v out y = from_if (HasUnbonded P T 0 n (staked_in w) v out) (unbonded_shares chain_told v who all part (staked_in w)) y e (unbonded_fits P T 0 n (staked_in w) v who all part h.stake found has within) in
          let a : IsApart who t.operator (staked_in w) y.1 = from_if (λ x. IsApart who t.operator (staked_in w) x.1) (unbonded_shares chain_told v who all part (staked_in w)) y e (unbonded_apart who t.operator v who all part (staked_in w) apart) in
          mapped (delegated chain_told t who y.0 (pool v.status) y.1) (g y)
          ∙ ap (λ m. refused_in (delegated chain_told t who m (pool v.status) y.1)) k.amount
          ∙ pool_refused t who out (with_staked w.mine y.1) v.status
          ∙ given_passes t out (over_in (after_hook who t (with_staked w.mine y.1)) ∷ []) issued given
          ∙ ap (λ o. first_of (o ∷ [])) (hooks_alike y out apart found_target k a)
          ∙ none_first (over_in (after_hook who v w)) (over_in (after_hook who t w)) (sym (ap (λ q. refused_in (stopping Overflow q)) e) ∙ first)

-- ---- the message

pub redelegations_refused : RedelegationsNameConditions
redelegations_refused who source target coin w s =
    mapped (redelegated chain_told who source target coin w.mine.redelegations (staked_in w)) (λ x. with_staked (record w.mine { redelegations = x.1 }) x.2)
    ∙ stop_step (coin.amount == 0) NonPositive _ _ (by (validator_at w.mine.staked source) refl)
  where
    P : List ℕ → Type 0
    P = Contains s.few.some

    h : StateFits P (total_in w.view) w
    h = to_fits w s

    r : RedelegationLists
    r = w.mine.redelegations

    held : Option ℕ
    held = delegation w.mine.staked who source

    full : Bool
    full = nat_le w.view.ctx.params.max_entries (length (redelegations_of r who source target))

    done : Validator → ℕ × World Staked Hooks → ℕ × World Staked Hooks → ⊤ × RedelegationLists × World Staked Hooks
    done v y z = (tt, appended who source target (begin_info v (is_none (validator_at y.1.mine source)) w.view.ctx) y.0 z.0 r, z.1)

    -- what follows the conditions on the target
    moved : Validator → ℕ → ℕ → Validator → Result (⊤ × RedelegationLists × World Staked Hooks) Refusal
    moved v all part t =
        stopping Overflow (unbonded_shares chain_told v who all part (staked_in w)) >>= λ y. delegated chain_told t who y.0 (pool v.status) y.1 >>= λ z. Ok (done v y z)

    -- so much goes out, as the conditions say it
    outs : Validator → ℕ
    outs v = goes_out (shares_for_amount v.tokens v.shares coin.amount) v

    on_target : (v : Validator) (all part n : ℕ) (o : Option Validator) → validator_at w.mine.staked source ≡ Some v → held ≡ Some all → part ≤ all → same_addr source target ≡ false → validator_at w.mine.staked target ≡ o
        → amount_out v.tokens v.shares part ≡ n
        → refused_in (or_stop o NoValidator >>= λ t. stop_if (is_transitive r who source) Transitive >> (stop_if full RedelegationsFull >> (stop_if (amount_out v.tokens v.shares part == 0) TinyRedelegation >> (shares_given t (amount_out v.tokens v.shares part) >> moved v all part t))))
        ≡ first_of (
        when (is_none o) NoValidator
        ∷ when (is_transitive r who source) Transitive
        ∷ when full RedelegationsFull
        ∷ when (n == 0) TinyRedelegation
        ∷ when (unwrap_or (option_map (λ t. has_invalid_rate t.tokens t.shares) o) false) RateInvalid
        ∷ unwrap_or (option_map (λ t. issue_over t (issued_shares t.tokens t.shares n)) o) None
        ∷ when (unwrap_or (option_map (λ t. is_nothing (issued_shares t.tokens t.shares n)) o) false) TinyDelegation
        ∷ over_in (after_hook who v w)
        ∷ unwrap_or (option_map (λ t. over_in (after_hook who t w)) o) None
        ∷ [])
    on_target v all part n None e f within other g same = refl
    on_target v all part n (Some t) e f within other g same =
        let place : v.operator ≡ source = h.stake.staked.operators source v e in
        let aim : t.operator ≡ target = h.stake.staked.operators target t g in
        let has : delegation w.mine.staked who v.operator ≡ Some all = ap (λ o. delegation w.mine.staked who o) place ∙ f in
        let apart : same_addr v.operator t.operator ≡ false = (λ i. same_addr (place i) (aim i)) ∙ other in
        stop_step (is_transitive r who source) Transitive _ _ (stop_step full RedelegationsFull _ _
        (stop_step (amount_out v.tokens v.shares part == 0) TinyRedelegation _ _
        (given_known t (amount_out v.tokens v.shares part) (over_in (after_hook who v w) ∷ over_in (after_hook who t w) ∷ []) (moved v all part t) (λ issued given.
        both_refused who w P (total_in w.view) h v t all part issued (done v)
        (own_place P (total_in w.view) w.view.ctx.height w.mine.staked source v h.stake.staked e) has within apart
        (own_place P (total_in w.view) w.view.ctx.height w.mine.staked target t h.stake.staked g) given))))
        ∙ (λ i. first_of (
        when (is_transitive r who source) Transitive
        ∷ when full RedelegationsFull
        ∷ when (same i == 0) TinyRedelegation
        ∷ when (has_invalid_rate t.tokens t.shares) RateInvalid
        ∷ issue_over t (issued_shares t.tokens t.shares (same i))
        ∷ when (is_nothing (issued_shares t.tokens t.shares (same i))) TinyDelegation
        ∷ over_in (after_hook who v w)
        ∷ over_in (after_hook who t w)
        ∷ []))

    by : (o : Option Validator) → validator_at w.mine.staked source ≡ o
        → refused_in (or_stop o NoValidator >>= λ v. shares_to_unbond held v coin.amount >>= λ x. stop_if (is_wrong coin w.view) WrongDenom >> (stop_if (same_addr source target) SelfRedelegation >> (
        or_stop (validator_at w.mine.staked target) NoValidator >>= λ t. stop_if (is_transitive r who source) Transitive >> (stop_if full RedelegationsFull >> (
        stop_if (amount_out v.tokens v.shares x.1 == 0) TinyRedelegation >> (shares_given t (amount_out v.tokens v.shares x.1) >> moved v x.0 x.1 t))))))
        ≡ first_of (
        when (is_none o) NoValidator
        ∷ when (is_none held) NoDelegation
        ∷ when (unwrap_or (option_map (λ v. v.tokens == 0) o) false) NoTokens
        ∷ when (unwrap_or (option_map (λ v. are_above (shares_for_amount v.tokens v.shares coin.amount) (unwrap_or held 0)) o) false) TooManyShares
        ∷ when (is_wrong coin w.view) WrongDenom
        ∷ when (same_addr source target) SelfRedelegation
        ∷ when (is_none (validator_at w.mine.staked target)) NoValidator
        ∷ when (is_transitive r who source) Transitive
        ∷ when full RedelegationsFull
        ∷ when (unwrap_or (option_map outs o) 0 == 0) TinyRedelegation
        ∷ when (unwrap_or (option_map (λ t. has_invalid_rate t.tokens t.shares) (validator_at w.mine.staked target)) false) RateInvalid
        ∷ unwrap_or (option_map (λ t. issue_over t (issued_shares t.tokens t.shares (unwrap_or (option_map outs o) 0))) (validator_at w.mine.staked target)) None
        ∷ when (unwrap_or (option_map (λ t. is_nothing (issued_shares t.tokens t.shares (unwrap_or (option_map outs o) 0))) (validator_at w.mine.staked target)) false) TinyDelegation
        ∷ unwrap_or (option_map (λ v. over_in (after_hook who v w)) o) None
        ∷ unwrap_or (option_map (λ t. over_in (after_hook who t w)) (validator_at w.mine.staked target)) None
        ∷ [])
    by None e = refl
    by (Some v) e =
        to_unbond_refused held v coin.amount (λ x. stop_if (is_wrong coin w.view) WrongDenom >> (stop_if (same_addr source target) SelfRedelegation >> (
        or_stop (validator_at w.mine.staked target) NoValidator >>= λ t. stop_if (is_transitive r who source) Transitive >> (stop_if full RedelegationsFull >> (
        stop_if (amount_out v.tokens v.shares x.1 == 0) TinyRedelegation >> (shares_given t (amount_out v.tokens v.shares x.1) >> moved v x.0 x.1 t)))))) _
        (λ all part f g within. stop_step (is_wrong coin w.view) WrongDenom _ _ (stop_known (same_addr source target) SelfRedelegation _ _ (λ other.
        on_target v all part (outs v) (validator_at w.mine.staked target) e f within other refl (sym (ap (λ q. goes_out q v) g)))))
