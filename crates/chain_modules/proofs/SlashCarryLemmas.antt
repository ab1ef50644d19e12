-- The rules of slashing, of votes and of evidence do not look at the values that hooks hold, nor at the log: over other held values, of
-- which the same is told, and behind an earlier log they give the same.
use Rattle.std.proofs.Common.{◌≡◌, ℕ, ◌+◌, ◌==◌, Bool, true, false, List, [], ◌∷◌, ◌++◌, Option, Some, None, Result, Ok, refl, ap, ◌-◌, ◌||◌, if◌then◌else◌, min, not}
use Rattle.base_roles.specs.declared.entities.{RedelegationEntry.RedelegationEntry, Validator.Validator}
use Rattle.base_roles.specs.{declared.{messages.{Evidence.Evidence, Vote.Vote}, params.Ctx.Ctx}, Log.Log}
use Rattle.base_roles.specs.Orders.{same_addr}
use Rattle.base_roles.specs.Staked.{Staked, delegation, is_unbonded, validator_at, validator_by_cons}
use Rattle.base_roles.specs.{World.{View, Told, World, call, noted, over_view}, declared.calls.Hook.Hook}
use Rattle.base_roles.specs.declared.calls.Hook.TheVariants.{Slashing as slashing}
use Rattle.base_roles.specs.declared.facts.Fact.TheVariants as fact
use Rattle.base_roles.specs.Log as log
use Rattle.rule_modules.specs.Chain.{Stakes}
use Rattle.rule_modules.specs.EntrySlashes.{burned_at_target, entry_hit, is_hit, part_left, part_of, plain_following, redelegations_slashed, shares_hit, sources_slashed, targets_slashed, unbondings_slashed}
use Rattle.rule_modules.specs.Evidence.{Bans, equivocation_handled, evidence_weighed, forever, is_too_old, jailed_if_not}
use Rattle.rule_modules.specs.Redelegations.{RedelegationLists}
use Rattle.rule_modules.specs.Slashing.{core_slashes, jail_lent, plain_slash, rest_slashed, slash_amount, slash_fraction, slash_told, slashed, slashed_at, staked_unbonds, validator_slashed}
use Rattle.rule_modules.specs.{Unbonding.{shares_unbonded, unbonded_of}, Unbondings.UnbondingLists}
use Rattle.rule_modules.specs.Window.{Signing, Window, is_downtime, signing_of, vote_counted, voted}
use Rattle.chain_modules.proofs.CarryLemmas.{call_carried, carried, carried_by, carried_ok, logged_carried, same_then, then_carried, told_carried, unbonded_carried}

-- a step by a test
chosen : {A B E : Type 0} (g : A → B) (b : Bool) (x y : Result A E) (x2 y2 : Result B E) → x2 ≡ carried_ok g x → y2 ≡ carried_ok g y → (if b then x2 else y2) ≡ carried_ok g (if b then x else y)
chosen g true x y x2 y2 e q = e
chosen g false x y x2 y2 e q = q

module _ {H G : Type 0} (f : H → G) (k : Log) where
  -- all that staking holds, with other held values behind an earlier log
  abbrev pub carried_core : World Stakes H → World Stakes G
  carried_core w = record { mine = w.mine; hooks = f w.hooks; view = w.view; log = k ++ w.log }

  -- beside an answer, and beside two
  abbrev pub core_by : {A : Type 0} → A × World Stakes H → A × World Stakes G
  core_by p = (p.0, carried_core p.1)

  abbrev pub core_with : {A U : Type 0} → A × U × World Stakes H → A × U × World Stakes G
  core_with p = (p.0, p.1, carried_core p.2)

  -- what a slash of redelegation entries leaves
  abbrev entries_by : ℕ × RedelegationLists × UnbondingLists × World Staked H → ℕ × RedelegationLists × UnbondingLists × World Staked G
  entries_by p = (p.0, p.1, p.2, carried f k p.3)

  module _ (told : H → Hook → View → Told H) (tells : G → Hook → View → Told G) (same : (h : H) (hook : Hook) (v : View) → tells (f h) hook v ≡ told_carried f k (told h hook v)) where
    -- ---- a validator

    slash_told_carried : (v : Validator) (burned : ℕ) (w : World Staked H) → slash_told tells v burned (carried f k w) ≡ carried_ok (carried f k) (slash_told told v burned w)
    slash_told_carried v burned w =
        let fraction = slash_fraction burned v.tokens in
        chosen (carried f k) (v.tokens == 0) _ _ _ _ refl
        (then_carried (carried f k) (carried f k) (call told (slashing v fraction) w) (call tells (slashing v fraction) (carried f k w)) _ _ (call_carried f k told tells same (slashing v fraction) w) (λ w1.
        ap (λ (x : World Staked G). Ok (over_view (noted (fact.Slashed v.operator fraction burned)) x)) (logged_carried f k v.operator (log.slashed burned v.tokens fraction) w1)))

    validator_slashed_carried : (v : Validator) (amount : ℕ) (w : World Staked H) → validator_slashed tells v amount (carried f k w) ≡ carried_ok (carried_by f k) (validator_slashed told v amount w)
    validator_slashed_carried v amount w =
        then_carried (carried f k) (carried_by f k) (slash_told told v (min amount v.tokens) w) (slash_told tells v (min amount v.tokens) (carried f k w)) _ _ (slash_told_carried v (min amount v.tokens) w) (λ w1. refl)

    rest_slashed_carried : (o : Option Validator) (amount : ℕ) (w : World Staked H) → rest_slashed tells o amount (carried f k w) ≡ carried_ok (carried_by f k) (rest_slashed told o amount w)
    rest_slashed_carried None amount w = refl
    rest_slashed_carried (Some v) amount w = validator_slashed_carried v amount w

    -- ---- redelegation entries

    unbonded_of_carried : (o : Option Validator) (held : Option ℕ) (who : List ℕ) (part : ℕ) (w : World Staked H) → unbonded_of tells o held who part (carried f k w) ≡ carried_ok (carried_by f k) (unbonded_of told o held who part w)
    unbonded_of_carried None held who part w = refl
    unbonded_of_carried (Some v) None who part w = refl
    unbonded_of_carried (Some v) (Some held) who part w = unbonded_carried f k told tells same v who held part w

    shares_unbonded_carried : (who operator : List ℕ) (part : ℕ) (w : World Staked H) → shares_unbonded tells who operator part (carried f k w) ≡ carried_ok (carried_by f k) (shares_unbonded told who operator part w)
    shares_unbonded_carried who operator part w = unbonded_of_carried (validator_at w.mine operator) (delegation w.mine who operator) who part w

    burned_carried : (o : Option Validator) (who : List ℕ) (part : ℕ) (w : World Staked H) → burned_at_target (staked_unbonds tells) o who part (carried f k w) ≡ carried_ok (carried f k) (burned_at_target (staked_unbonds told) o who part w)
    burned_carried None who part w = refl
    burned_carried (Some t) who part w =
        chosen (carried f k) (part == 0) _ _ _ _ refl
        (then_carried (carried_by f k) (carried f k) (shares_unbonded told who t.operator part w) (shares_unbonded tells who t.operator part (carried f k w)) _ _ (shares_unbonded_carried who t.operator part w) (λ p. refl))

    entry_carried : (who target : List ℕ) (factor : ℕ) (e : RedelegationEntry) (u : UnbondingLists) (w : World Staked H)
        → entry_hit (staked_unbonds tells) plain_following who target factor e u (carried f k w) ≡ carried_ok (carried_by f k) (entry_hit (staked_unbonds told) plain_following who target factor e u w)
    entry_carried who target factor e u w =
        let count = part_of factor e.initial in
        let lost = plain_following.follow who target e.created count u w.view in
        let w1 : World Staked H = record w { view = lost.2 } in
        same_then (carried_by f k) (part_left factor e.shares_dst count lost.0) _ _ (λ part.
        let held = shares_hit (staked_unbonds told) who target part w1 in
        then_carried (carried f k) (carried_by f k) (burned_at_target (staked_unbonds told) (validator_at w1.mine target) who held w1) (burned_at_target (staked_unbonds tells) (validator_at w1.mine target) who held (carried f k w1)) _ _
        (burned_carried (validator_at w1.mine target) who held w1) (λ w2. refl))

    targets_carried : (who target : List ℕ) (infraction factor : ℕ) (es : List RedelegationEntry) (u : UnbondingLists) (w : World Staked H)
        → targets_slashed (staked_unbonds tells) plain_following who target infraction factor es u (carried f k w) ≡ carried_ok (carried_by f k) (targets_slashed (staked_unbonds told) plain_following who target infraction factor es u w)
    targets_carried who target infraction factor [] u w = refl
    targets_carried who target infraction factor (e ∷ es) u w =
        chosen (carried_by f k) (is_hit infraction w.view.ctx.time e.created e.completes) _ _ _ _
        (then_carried (carried_by f k) (carried_by f k) (entry_hit (staked_unbonds told) plain_following who target factor e u w) (entry_hit (staked_unbonds tells) plain_following who target factor e u (carried f k w)) _ _
        (entry_carried who target factor e u w) (λ p. targets_carried who target infraction factor es p.0 p.1))
        (targets_carried who target infraction factor es u w)

    sources_carried : (operator : List ℕ) (infraction factor : ℕ) (r : RedelegationLists) (u : UnbondingLists) (w : World Staked H)
        → sources_slashed (staked_unbonds tells) plain_following operator infraction factor r u (carried f k w) ≡ carried_ok (carried_by f k) (sources_slashed (staked_unbonds told) plain_following operator infraction factor r u w)
    sources_carried operator infraction factor [] u w = refl
    sources_carried operator infraction factor (q ∷ qs) u w =
        chosen (carried_by f k) (same_addr q.0.1 operator) _ _ _ _
        (then_carried (carried_by f k) (carried_by f k) (targets_slashed (staked_unbonds told) plain_following q.0.0 q.0.2 infraction factor q.1 u w) (targets_slashed (staked_unbonds tells) plain_following q.0.0 q.0.2 infraction factor q.1 u (carried f k w)) _ _
        (targets_carried q.0.0 q.0.2 infraction factor q.1 u w) (λ p. sources_carried operator infraction factor qs p.0 p.1))
        (sources_carried operator infraction factor qs u w)

    redelegations_carried : (operator : List ℕ) (infraction factor : ℕ) (r : RedelegationLists) (u : UnbondingLists) (w : World Staked H)
        → redelegations_slashed (staked_unbonds tells) plain_following operator infraction factor r u (carried f k w) ≡ carried_ok entries_by (redelegations_slashed (staked_unbonds told) plain_following operator infraction factor r u w)
    redelegations_carried operator infraction factor r u w =
        then_carried (carried_by f k) entries_by (sources_slashed (staked_unbonds told) plain_following operator infraction factor r u w) (sources_slashed (staked_unbonds tells) plain_following operator infraction factor r u (carried f k w)) _ _
        (sources_carried operator infraction factor r u w) (λ p. refl)

    -- ---- the slash of a consensus address

    slashed_at_carried : (o : Option Validator) (infraction power factor : ℕ) (w : World Stakes H) → slashed_at tells plain_slash o infraction power factor (carried_core w) ≡ carried_ok core_by (slashed_at told plain_slash o infraction power factor w)
    slashed_at_carried None infraction power factor w = refl
    slashed_at_carried (Some v) infraction power factor w =
        let first = unbondings_slashed v.operator infraction factor w.mine.unbondings w.view in
        let w1 : World Staked H = record { mine = w.mine.staked; hooks = w.hooks; view = first.2; log = w.log } in
        chosen core_by (is_unbonded v.status) _ _ _ _ refl
        (then_carried entries_by core_by (redelegations_slashed (staked_unbonds told) plain_following v.operator infraction factor w.mine.redelegations first.1 w1)
        (redelegations_slashed (staked_unbonds tells) plain_following v.operator infraction factor w.mine.redelegations first.1 (carried f k w1)) _ _
        (redelegations_carried v.operator infraction factor w.mine.redelegations first.1 w1) (λ p.
        let amount = slash_amount power w.view.ctx.params.power_reduction factor - (first.0 + p.0) in
        then_carried (carried_by f k) core_by (rest_slashed told (validator_at p.3.mine v.operator) amount p.3) (rest_slashed tells (validator_at p.3.mine v.operator) amount (carried f k p.3)) _ _
        (rest_slashed_carried (validator_at p.3.mine v.operator) amount p.3) (λ q. refl)))

    slashed_carried : (cons : List ℕ) (infraction power factor : ℕ) (w : World Stakes H) → slashed tells plain_slash cons infraction power factor (carried_core w) ≡ carried_ok core_by (slashed told plain_slash cons infraction power factor w)
    slashed_carried cons infraction power factor w = slashed_at_carried (validator_by_cons w.mine.staked cons) infraction power factor w

    -- ---- votes

    counted_carried : (o : Option Validator) (s : Option Signing) (t : Vote) (i : Window) (w : World Stakes H)
        → vote_counted (core_slashes tells plain_slash) o s t i (carried_core w) ≡ carried_ok core_with (vote_counted (core_slashes told plain_slash) o s t i w)
    counted_carried None s t i w = refl
    counted_carried (Some v) None t i w = refl
    counted_carried (Some v) (Some s) t i w =
        let c : Ctx = w.view.ctx in
        let now : Signing = record s { votes = not t.signed ∷ s.votes } in
        chosen core_with v.jailed _ _ _ _ refl
        (chosen core_with (is_downtime c now v) _ _ _ _
        (then_carried core_by core_with (slashed told plain_slash t.cons (c.height - 2) t.power c.params.slash_fraction_downtime w) (slashed tells plain_slash t.cons (c.height - 2) t.power c.params.slash_fraction_downtime (carried_core w)) _ _
        (slashed_carried t.cons (c.height - 2) t.power c.params.slash_fraction_downtime w) (λ p. refl))
        refl)

    pub voted_carried : (t : Vote) (i : Window) (w : World Stakes H) → voted (core_slashes tells plain_slash) t i (carried_core w) ≡ carried_ok core_with (voted (core_slashes told plain_slash) t i w)
    voted_carried t i w = counted_carried (validator_by_cons w.mine.staked t.cons) (signing_of i t.cons) t i w

    -- ---- evidence

    -- with records that are lent, whichever they are
    module _ {N : Type 0} (bans : Bans N) where
      jailed_carried : (o : Option Validator) (cons : List ℕ) (w : World Stakes H) → jailed_if_not (core_slashes tells plain_slash) bans o cons (carried_core w) ≡ carried_core (jailed_if_not (core_slashes told plain_slash) bans o cons w)
      jailed_carried None cons w = refl
      jailed_carried (Some v) cons w = by v.jailed
        where
          by : (b : Bool) → (if b then carried_core w else carried_core (jail_lent (core_slashes told plain_slash) cons w)) ≡ carried_core (if b then w else jail_lent (core_slashes told plain_slash) cons w)
          by true = refl
          by false = refl

      weighed_carried : (o : Option Validator) (t : Option Bool) (e : Evidence) (n : N) (w : World Stakes H)
          → evidence_weighed (core_slashes tells plain_slash) bans o t e n (carried_core w) ≡ carried_ok core_with (evidence_weighed (core_slashes told plain_slash) bans o t e n w)
      weighed_carried None t e n w = refl
      weighed_carried (Some v) None e n w = refl
      weighed_carried (Some v) (Some t) e n w =
          let factor = w.view.ctx.params.slash_fraction_double_sign in
          chosen core_with (is_unbonded v.status || t || is_too_old w.view.ctx e) _ _ _ _ refl
          (then_carried core_by core_with (slashed told plain_slash e.cons (e.height - 1) e.power factor w) (slashed tells plain_slash e.cons (e.height - 1) e.power factor (carried_core w)) _ _ (slashed_carried e.cons (e.height - 1) e.power factor w) (λ p.
          ap (λ (x : World Stakes G). Ok (true, bans.ban e.cons forever n, over_view (noted (fact.Tombstoned v.operator)) x)) (jailed_carried (validator_by_cons p.1.mine.staked e.cons) e.cons p.1)))

      pub equivocation_carried : (e : Evidence) (n : N) (w : World Stakes H)
          → equivocation_handled (core_slashes tells plain_slash) bans e n (carried_core w) ≡ carried_ok core_with (equivocation_handled (core_slashes told plain_slash) bans e n w)
      equivocation_carried e n w = weighed_carried (validator_by_cons w.mine.staked e.cons) (bans.tombstoned n e.cons) e n w
