-- What stands of a pair through each message that a recorder hears, from a sound state whose accounts are reached.
use Rattle.std.proofs.Common.{◌≡◌, ◌∙◌, ℕ, ◌-◌, ◌≤◌, ◌==◌, ◌^◌, Bool, true, false, List, [], ◌∷◌, ◌++◌, append-nil, append_assoc, length, refl, sym, ap, subst, arith, Option, Some, None, Result, Ok, Err, IfOk, IfSome, if◌then◌else◌, find, is_some, nat_le, nat_lt, not}
use Rattle.std.{specs.{Prelude.⊤, BTreeMap.is_at}, proofs.lemmas.Map.Entries.All-lookup}
use Rattle.base_types.specs.declared.{account.{Account.{Account as Holder}}, status.BondStatus.TheVariants.Unbonded}
use Rattle.base_types.specs.Orders.{addr_cmp}
use Rattle.base_types.specs.declared.account.Account.TheVariants as account
use Rattle.base_types.specs.declared.account.Module.TheVariants as holder
use Rattle.base_coins.specs.{declared.coin.Coin.Coin, Coins.{Money, amount_of}}
use Rattle.base_shares.specs.Shares.{amount_out, has_invalid_rate, value_cut_of}
use Rattle.base_roles.specs.declared.{entities.Validator.Validator, facts.Fact.Fact}
use Rattle.base_roles.specs.declared.{messages.CreateValidator.CreateValidator, refusal.Refusal.Refusal}
use Rattle.base_roles.specs.declared.refusal.Refusal.TheVariants.{NoValidator, WrongDenom, NonPositive, NoDelegation, ValidatorExists, ConsKeyExists, CommissionRange, CommissionBelowMinimum, MinSelfNotPositive, SelfBelowMinimum, SelfRedelegation, Transitive, RedelegationsFull, TinyRedelegation, UnbondingsFull, RateInvalid, Jailed, NoEntry, CancelTooMuch, Overflow}
use Rattle.base_roles.specs.{Entries.at, Flow.{◌>>=◌}, Log.Log, Orders.same_addr, Pair.{and_then, given_with}}
use Rattle.base_roles.specs.Staked.{Staked, delegation, is_bonded, validator_at, validator_by_cons}
use Rattle.base_roles.specs.{World.{View, Told, World, exceeds, gives, over_view, sent}, declared.calls.Hook.Hook}
use Rattle.base_roles.specs.declared.facts.Fact.TheVariants as fact
use Rattle.base_roles.specs.declared.calls.Hook.TheVariants as hook
use Rattle.rule_modules.specs.{Amounts.bond_coins, Chain.{State, Stakes, staked_in, with_staked}}
use Rattle.rule_modules.specs.Delegating.{Origin, delegated, delegated_by, is_wrong, pool, shares_given, wallet}
use Rattle.rule_modules.specs.Distribution.{Shared, reward_renewed, reward_withdrawn, started}
use Rattle.rule_modules.specs.{Effects.withdraw_reward, Ideal.history_of, Periods.{last_ended, periods_of, ratio_at}}
use Rattle.rule_modules.specs.{Purses.purse_of, Redelegations.{is_transitive, redelegated, redelegations_of}}
use Rattle.rule_modules.specs.{Sound.IsSound, Unbonding.{shares_to_unbond, unbonded_shares}}
use Rattle.rule_modules.specs.Unbondings.{can_be_cancelled, cancelled, entries_of, undelegated}
use Rattle.rule_modules.specs.Validators.{are_out_of_range, created, new_validator, stored}
use Rattle.rule_modules.specs.{Window.{Window, signing_started, window_told}, Withdrawals.reward_taken}
use Rattle.rule_modules.proofs.GoingLemmas.{if_ok, on_bind, on_found, on_lifted, on_stop}
use Rattle.rule_machine.specs.Listening.{Hearing, Overheard, cancellation_heard, creation_heard, delegation_heard, overheard_told, redelegation_heard, restart_heard, reward_heard, shared_told, undelegation_heard, unheard}
use Rattle.law_rewards.{specs.{States.{AreReached, account_in}, Withdrawals.raised_in}, proofs.Beginnings.under_own}
use Rattle.law_rewards.proofs.{Entries.{addr_is, put_elsewhere}, Claims.{IsReady, ready_in}, Rising.raised_reached}
use Rattle.law_rewards.proofs.Telling.{lifted_if, next_if, on_then}
use Rattle.mod_recorder.specs.Notes.{Noted, heard}
use Rattle.mod_tracking.specs.{declared.tracker.Pair.Pair, Tracking.Tracked}
use Rattle.law_statements.proofs.Holding.{Holds, Tied, holds_begun, holds_sent, holds_told}
use Rattle.law_statements.proofs.{Hooks.{AreHeard, Goes, turned, withdrawal_holds}, Slashes.AreFit}
use Rattle.law_statements.proofs.Staking.{delegated_goes, gone_elsewhere, stored_goes, unbonded_goes, unbonded_kept}

-- ---- the chain's hooks, which a recorder hears, with the window behind

window_gives : (i : Window) (h : Hook) (u : View) → (j : Window) × (window_told i h u ≡ gives j u [])
window_gives i (hook.Created x) u = (i, refl)
window_gives i (hook.Removed x) u = (i, refl)
window_gives i (hook.Bonded x) u = (signing_started u.ctx.height x.cons i, refl)
window_gives i (hook.Starting x who) u = (i, refl)
window_gives i (hook.Modifying x who shares) u = (i, refl)
window_gives i (hook.Modified x who shares) u = (i, refl)
window_gives i (hook.Slashing x fraction) u = (i, refl)

same_given : {X : Type 0} (x y : X) (u w : View) (k m : Log) → Path (Told X) (gives x u k) (gives y w m) → (x ≡ y) × (u ≡ w) × (k ≡ m)
same_given x y u w k m h = (cc, cc, cc)

pub overheard_is : AreHeard (overheard_told heard) (λ (h : Overheard Noted). h.0)
overheard_is = record { told_is = λ h g hook u w m e. by h g hook u w m (shared_told heard h.0 hook u) e }
  where
    by : (h g : Overheard Noted) (hook : Hook) (u w : View) (m : Log) (t : Told (Shared × Noted)) → and_then t (λ d x k. given_with d k (window_told h.1 hook x)) ≡ gives g w m → t ≡ gives g.0 w m
    by h g hook u w m (gives d x k) e =
        let j = window_gives h.1 hook x in
        let same = same_given (d, j.0) g x w (k ++ []) m (ap (λ (t : Told Window). given_with d k t) (sym j.1) ∙ e) in
        ap (λ (c : Shared × Noted). gives c x k) (ap (λ (y : Overheard Noted). y.0) same.0) ∙ ap (λ (y : View). gives g.0 y k) same.1 ∙ ap (λ (n : Log). gives g.0 w n) (sym (append-nil k) ∙ same.2)
    by h g hook u w m (exceeds over) e = absurd cc

-- distribution's hooks alone, beside the window
pub shared_is : AreHeard (shared_told heard) (λ (h : Shared × Noted). h)
shared_is = record { told_is = λ h g hook u w m e. e }

module _ (p : Pair) (v : Option Validator) (t0 : Tracked) (n0 : ℕ) (base : Log) (earlier : List Fact) where
  -- behind the facts of earlier parts of the block, and those of this one
  abbrev pub HoldsHeard : Hearing Noted → Type 0
  HoldsHeard w = Holds p v t0 n0 base earlier 0 w.hooks.0.1 w.view.facts w.log

  abbrev Runs : World Staked (Overheard Noted) → Type 0
  Runs w = Goes p v t0 n0 base earlier (overheard_told heard) (λ (h : Overheard Noted). h.0) overheard_is 0 w

  -- ---- what a sound state whose accounts are reached has

  module _ (w : State) (sound : IsSound w) (reached : AreReached w) where
    pub tied_in : is_some (validator_at w.mine.staked p.operator) ≡ true → Tied p v t0 n0 base earlier w.hooks.0 w.log
    tied_in there = by (validator_at w.mine.staked p.operator) refl there
      where
        by : (o : Option Validator) → validator_at w.mine.staked p.operator ≡ o → is_some o ≡ true → Tied p v t0 n0 base earlier w.hooks.0 w.log
        by None is h = absurd cc
        by (Some x) is h =
            let under : p.operator ≡ x.operator = under_own w p.operator x sound is in
            let found : validator_at w.mine.staked x.operator ≡ Some x = ap (validator_at w.mine.staked) (sym under) ∙ is in
            let ready : IsReady w p.operator = ready_in w p.operator sound in
            record {
              lists = ready.lists;
              money = ready.current;
              ratio = λ d. subst (λ (o : List ℕ). amount_of (ratio_at (periods_of w.hooks.0.rewards o).ratios (last_ended (periods_of w.hooks.0.rewards o))) d ≡ raised_in d (history_of o w.log [])) (sym under)
                  (raised_reached d (account_in d w x) (reached d x found));
            }

    pub fit_in : AreFit w.mine.staked.validators
    fit_in = record {
      ascend = sound.staked.validators_ascend;
      own = λ o x is. sym (under_own w o x sound is);
      tokens = λ o x is. subst (λ (r : Option Validator). IfSome r (λ y. y.tokens ≤ 10 ^ 18)) is (All-lookup (λ (y : Validator). y.tokens ≤ 10 ^ 18) (is_at (addr_cmp o)) w.mine.staked.validators (λ k e h. (sound.staked.validators k e h).tokens));
    }

  module _ (w : Hearing Noted) (sound : IsSound (unheard w)) (reached : AreReached (unheard w)) (holds : HoldsHeard w) where
    runs : Runs (staked_in w)
    runs = record { ascend = sound.staked.validators_ascend; ties = tied_in (unheard w) sound reached; holds = holds }

    stands : (operator : List ℕ) (x : Validator) → validator_at w.mine.staked operator ≡ Some x → is_some (validator_at w.mine.staked x.operator) ≡ true
    stands operator x is = ap (λ (o : List ℕ). is_some (validator_at w.mine.staked o)) (sym (under_own (unheard w) operator x sound is)) ∙ ap is_some is

    abbrev told : Overheard Noted → Hook → View → Told (Overheard Noted)
    told = overheard_told heard

    goes_on : (x : Validator) (who : List ℕ) (amount : ℕ) (from : Origin) (s : World Staked (Overheard Noted)) → is_some (validator_at s.mine x.operator) ≡ true → Runs s → IfOk (delegated told x who amount from s) (λ y. Runs y.1)
    goes_on x who amount from s there g = if_ok (λ y. Runs y.1) (delegated told x who amount from s) (λ y e. delegated_goes p v t0 n0 base earlier told (λ h. h.0) overheard_is x who amount from s y there e g)

    pub delegation_holds : (who operator : List ℕ) (coin : Coin) → IfOk (delegation_heard heard who operator coin w) HoldsHeard
    delegation_holds who operator coin =
        on_then (delegated_by told who operator coin (staked_in w)) _ (λ y. Runs y.1) _
        (on_stop (coin.amount == 0) NonPositive _ _ (λ a. on_found (validator_at w.mine.staked operator) NoValidator _ _ (λ x is. on_stop (is_wrong coin w.view) WrongDenom _ _ (λ b.
        goes_on x who coin.amount wallet (staked_in w) (stands operator x is) runs))))
        (λ y k. k.holds)

    pub cancellation_holds : (who operator : List ℕ) (coin : Coin) (height : ℕ) → IfOk (cancellation_heard heard who operator coin height w) HoldsHeard
    cancellation_holds who operator coin height =
        on_then (cancelled told who operator coin height w.mine.unbondings (staked_in w)) _ (λ y. Runs y.2) _
        (on_stop (coin.amount == 0) NonPositive _ _ (λ a. on_stop (is_wrong coin w.view) WrongDenom _ _ (λ b. on_found (validator_at w.mine.staked operator) NoValidator _ _ (λ x is.
        on_stop (has_invalid_rate x.tokens x.shares) RateInvalid _ _ (λ c. on_stop x.jailed Jailed _ _ (λ d. on_found (find (can_be_cancelled height w.view.ctx.time) (entries_of w.mine.unbondings who operator)) NoEntry _ _ (λ en g.
        on_stop (nat_lt en.balance coin.amount) CancelTooMuch _ _ (λ h. on_then (delegated told x who coin.amount (pool Unbonded) (staked_in w)) _ (λ y. Runs y.1) _ (goes_on x who coin.amount (pool Unbonded) (staked_in w) (stands operator x is) runs) (λ y k. k)))))))))
        (λ y k. k.holds)

    pub undelegation_holds : (who operator : List ℕ) (coin : Coin) → IfOk (undelegation_heard heard who operator coin w) HoldsHeard
    undelegation_holds who operator coin =
        on_then (undelegated told who operator coin w.mine.unbondings (staked_in w)) _ (λ y. Holds p v t0 n0 base earlier 0 y.2.hooks.0.1 y.2.view.facts y.2.log) _
        (on_stop (coin.amount == 0) NonPositive _ _ (λ a. on_found (validator_at w.mine.staked operator) NoValidator _ _ (λ x is.
        on_bind (shares_to_unbond (delegation w.mine.staked who operator) x coin.amount) _ _ (λ q g. on_stop (is_wrong coin w.view) WrongDenom _ _ (λ b.
        on_stop (nat_le w.view.ctx.params.max_entries (length (entries_of w.mine.unbondings who operator))) UnbondingsFull _ _ (λ c. on_lifted Overflow (unbonded_shares told x who q.0 q.1 (staked_in w)) _ _ (λ y e.
        moved y (is_bonded x.status) (unbonded_goes p v t0 n0 base earlier told (λ h. h.0) overheard_is x who q.0 q.1 (staked_in w) y (stands operator x is) e runs).holds)))))))
        (λ y k. k)
      where
        moved : (y : ℕ × World Staked (Overheard Noted)) (b : Bool) → Holds p v t0 n0 base earlier 0 y.1.hooks.0.1 y.1.view.facts y.1.log
            → Holds p v t0 n0 base earlier 0 (if b then over_view (sent (account.Module holder.Bonded) (account.Module holder.NotBonded) (bond_coins w.view y.0)) y.1 else y.1).hooks.0.1
            (if b then over_view (sent (account.Module holder.Bonded) (account.Module holder.NotBonded) (bond_coins w.view y.0)) y.1 else y.1).view.facts (if b then over_view (sent (account.Module holder.Bonded) (account.Module holder.NotBonded) (bond_coins w.view y.0)) y.1 else y.1).log
        moved y true k = holds_sent p v t0 n0 base earlier 0 y.1.hooks.0.1 y.1.view.facts y.1.log (account.Module holder.Bonded) (account.Module holder.NotBonded) (bond_coins w.view y.0) k
        moved y false k = k

    pub redelegation_holds : (who source target : List ℕ) (coin : Coin) → IfOk (redelegation_heard heard who source target coin w) HoldsHeard
    redelegation_holds who source target coin =
        on_then (redelegated told who source target coin w.mine.redelegations (staked_in w)) _ (λ y. Runs y.2) _
        (on_stop (coin.amount == 0) NonPositive _ _ (λ a. on_found (validator_at w.mine.staked source) NoValidator _ _ (λ x is. on_bind (shares_to_unbond (delegation w.mine.staked who source) x coin.amount) _ _ (λ q g.
        on_stop (is_wrong coin w.view) WrongDenom _ _ (λ b. on_stop (same_addr source target) SelfRedelegation _ _ (λ other. on_found (validator_at w.mine.staked target) NoValidator _ _ (λ t there.
        on_stop (is_transitive w.mine.redelegations who source) Transitive _ _ (λ c. on_stop (nat_le w.view.ctx.params.max_entries (length (redelegations_of w.mine.redelegations who source target))) RedelegationsFull _ _ (λ d.
        on_stop (amount_out x.tokens x.shares q.1 == 0) TinyRedelegation _ _ (λ h. next_if (shares_given t (amount_out x.tokens x.shares q.1)) _ _
        (on_lifted Overflow (unbonded_shares told x who q.0 q.1 (staked_in w)) _ _ (λ y e.
        on_then (delegated told t who y.0 (pool x.status) y.1) _ (λ z. Runs z.1) _
        (goes_on t who y.0 (pool x.status) y.1 (still x t y is there other q.0 q.1 e) (unbonded_goes p v t0 n0 base earlier told (λ h. h.0) overheard_is x who q.0 q.1 (staked_in w) y (stands source x is) e runs)) (λ z k. k)))))))))))))
        (λ y k. k.holds)
      where
        -- the target stands when the source's shares have left
        still : (x t : Validator) (y : ℕ × World Staked (Overheard Noted)) → validator_at w.mine.staked source ≡ Some x → validator_at w.mine.staked target ≡ Some t → same_addr source target ≡ false → (held part : ℕ)
            → unbonded_shares told x who held part (staked_in w) ≡ Ok y → is_some (validator_at y.1.mine t.operator) ≡ true
        still x t y is there other held part e =
            let from : source ≡ x.operator = under_own (unheard w) source x sound is in
            let to : target ≡ t.operator = under_own (unheard w) target t sound there in
            let apart : same_addr t.operator x.operator ≡ false = turned x.operator t.operator (ap (λ (o : List ℕ). same_addr o t.operator) (sym from) ∙ ap (λ (o : List ℕ). same_addr source o) (sym to) ∙ other) in
            unbonded_kept p v t0 n0 base earlier told (λ h. h.0) overheard_is (λ es. is_some (at addr_cmp es t.operator) ≡ true) x who held part (staked_in w) y
            (λ z es same less k. ap is_some (put_elsewhere z.operator t.operator z es (ap (λ (o : List ℕ). same_addr t.operator o) same ∙ apart)) ∙ k)
            (λ es k. ap is_some (gone_elsewhere x.operator t.operator es apart) ∙ k) e (stands target t there)

    pub creation_holds : (m : CreateValidator) → IfOk (creation_heard heard m w) HoldsHeard
    creation_holds m =
        let x : Validator = new_validator m w.view.ctx.time in
        on_then (created told m (staked_in w)) _ (λ y. Runs y.1) _
        (on_stop (m.amount.amount == 0) NonPositive _ _ (λ a. on_stop (are_out_of_range m) CommissionRange _ _ (λ b. on_stop (m.min_self_delegation == 0) MinSelfNotPositive _ _ (λ c.
        on_stop (nat_lt m.amount.amount m.min_self_delegation) SelfBelowMinimum _ _ (λ d. on_stop (nat_lt m.rate w.view.ctx.params.min_commission_rate) CommissionBelowMinimum _ _ (λ e.
        on_stop (is_some (validator_at w.mine.staked m.validator)) ValidatorExists _ _ (λ f. on_stop (is_some (validator_by_cons w.mine.staked m.cons)) ConsKeyExists _ _ (λ g. on_stop (is_wrong m.amount w.view) WrongDenom _ _ (λ h.
        on_lifted Overflow (stored told x (staked_in w)) (λ s. delegated told x m.validator m.amount.amount wallet s >>= last) (λ y. Runs y.1) (λ s k.
        begun s (stored_goes p v t0 n0 base earlier told (λ h. h.0) overheard_is x (staked_in w) s k runs)))))))))))
        (λ y k. k.holds)
      where
        last : ℕ × World Staked (Overheard Noted) → Result (⊤ × World Staked (Overheard Noted)) Refusal
        last y = Ok (tt, y.1)

        -- its operator delegates to it
        begun : (s : World Staked (Overheard Noted)) → Runs s × (is_some (validator_at s.mine m.validator) ≡ true) → IfOk (delegated told (new_validator m w.view.ctx.time) m.validator m.amount.amount wallet s >>= last) (λ y. Runs y.1)
        begun s one =
            on_then (delegated told (new_validator m w.view.ctx.time) m.validator m.amount.amount wallet s) last (λ y. Runs y.1) (λ y. Runs y.1)
            (goes_on (new_validator m w.view.ctx.time) m.validator m.amount.amount wallet s one.1 one.0) (λ y k. k)

    -- ---- a withdrawal that is asked for

    pub reward_holds : (who operator : List ℕ) → IfOk (reward_heard heard who operator w) HoldsHeard
    reward_holds who operator =
        on_then (withdraw_reward who operator (unheard w)) _ (λ u. Holds p v t0 n0 base earlier 0 (again u.view) u.view.facts u.log) _
        (on_then (reward_taken w.mine.staked who operator w.hooks.0.0 w.view) _ (λ x. Holds p v t0 n0 base earlier 0 (again x.2) x.2.facts (w.log ++ x.3)) _
        (on_found (validator_at w.mine.staked operator) NoValidator _ _ (λ x is. on_found (delegation w.mine.staked who operator) NoDelegation _ _ (λ shares has.
        lifted_if Overflow (reward_renewed x who shares w.hooks.0.0 w.view) _ (on_bind (reward_withdrawn x who shares w.hooks.0.0 w.view) _ _ (λ y e. renewed x shares y is has e)))))
        (λ x k. k))
        (λ u k. k)
      where
        -- what was heard of rewards that start anew over a ground
        again : View → Noted
        again u = restart_heard heard (validator_at w.mine.staked operator) (delegation w.mine.staked who operator) who u w.hooks.0.1

        renewed : (x : Validator) (shares : ℕ) (y : Money × Shared × View × Log) → validator_at w.mine.staked operator ≡ Some x → delegation w.mine.staked who operator ≡ Some shares → reward_withdrawn x who shares w.hooks.0.0 w.view ≡ Ok y
            → Holds p v t0 n0 base earlier 0 (again (started x who shares y.1 y.2).1) (started x who shares y.1 y.2).1.facts (w.log ++ (y.3 ++ (started x who shares y.1 y.2).2))
        renewed x shares y is has e =
            let under : operator ≡ x.operator = under_own (unheard w) operator x sound is in
            let there : is_some (validator_at w.mine.staked x.operator) ≡ true = stands operator x is in
            let tied : same_addr x.operator p.operator ≡ true → Tied p v t0 n0 base earlier w.hooks.0.0 w.log = λ own. tied_in (unheard w) sound reached (ap (λ (o : List ℕ). is_some (validator_at w.mine.staked o)) (sym (addr_is x.operator p.operator own)) ∙ there) in
            let paid : Holds p v t0 n0 base earlier 0 w.hooks.0.1 y.2.facts (w.log ++ y.3) = withdrawal_holds p v t0 n0 base earlier x who shares w.hooks.0.0 w.view y e 0 w.hooks.0.1 w.log tied holds in
            let stake : ℕ = value_cut_of x.tokens x.shares shares in
            let told_start = holds_told p v t0 n0 base earlier 0 w.hooks.0.1 y.2.facts (w.log ++ y.3) (fact.Started who x.operator (last_ended (periods_of y.1.rewards x.operator)) stake) (λ f. refl) paid in
            let begun = holds_begun p v t0 n0 base earlier 0 w.hooks.0.1 (started x who shares y.1 y.2).1.facts (w.log ++ y.3) told_start x.operator who shares x.tokens x.shares stake (omega arith) in
            subst (λ (r : Noted). Holds p v t0 n0 base earlier 0 r (started x who shares y.1 y.2).1.facts (w.log ++ (y.3 ++ (started x who shares y.1 y.2).2)))
            (sym (ap (λ (o : Option Validator). restart_heard heard o (delegation w.mine.staked who operator) who (started x who shares y.1 y.2).1 w.hooks.0.1) is ∙ ap (λ (o : Option ℕ). restart_heard heard (Some x) o who (started x who shares y.1 y.2).1 w.hooks.0.1) has))
            (subst (λ (l : Log). Holds p v t0 n0 base earlier 0 (heard w.hooks.0.1 (hook.Modified x who shares) (started x who shares y.1 y.2).1) (started x who shares y.1 y.2).1.facts l) (append_assoc w.log y.3 (started x who shares y.1 y.2).2) begun)
