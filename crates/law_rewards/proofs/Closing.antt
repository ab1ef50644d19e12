-- The parts of a block that pay no reward: allocation, the bonded set, and what matures. With votes and evidence, all parts
-- of a block pay fairly.
use Rattle.std.proofs.Common.{ℕ, ◌-◌, ◌*◌, ◌^◌, Bool, true, false, List, [], ◌∷◌, ◌++◌, refl, subst, Option, Some, None, Result, Ok, Err, append_assoc, IfOk, if◌then◌else◌, ◌&&◌, nat_lt, nat_le, map, sum}
use Rattle.std.specs.Map.{values_of}
use Rattle.base_decimals.specs.{declared.over.Over.Over, Decimals.quo_cut_of}
use Rattle.base_types.specs.declared.account.Account.TheVariants as account
use Rattle.base_types.specs.declared.account.Module.TheVariants as holder
use Rattle.base_types.specs.{declared.status.BondStatus.TheVariants.{Bonded, Unbonded}, Orders.addr_cmp}
use Rattle.base_coins.specs.Coins.{Money, coins_mul_cut, coins_taken}
use Rattle.base_roles.specs.declared.{entities.{UnbondingEntry.UnbondingEntry, Validator.Validator}, facts.Fact.Fact}
use Rattle.base_roles.specs.{declared.messages.Vote.Vote, Entries.with, Holdings.coins_of, Log.Log}
use Rattle.base_roles.specs.{Staked.{Staked, validator_by_cons}, Flow.{◌>>=◌, each}, World.{View, World, sent}}
use Rattle.base_roles.specs.declared.facts.Fact.TheVariants as fact
use Rattle.base_roles.specs.Log as log
use Rattle.rule_modules.specs.Allocation.{share_given, shares_allocated, sharing, allocated, fees_allocated}
use Rattle.rule_modules.specs.Amounts.{in_units, is_empty, bond_coins}
use Rattle.rule_modules.specs.BondedSet.{joining_of, leaving_of, tokens_of, difference_moved, joined_set, left_set, set_updated, matured, validators_matured}
use Rattle.rule_modules.specs.Chain.{Hooks, State, chain_told, staked_in, allocation_step, set_step, maturing_step, unbondings_step, redelegations_step}
use Rattle.rule_modules.specs.{Distribution.Shared, Laws.next_block}
use Rattle.rule_modules.specs.Purses.{Purses, pool_joined, pooled_told, share_joined, purse_of}
use Rattle.rule_modules.specs.{Stakes.{changed, is_unbonding}, Unbonding.removed_if_empty}
use Rattle.rule_modules.{specs.Unbondings.{UnbondingLists, is_mature, paid_back, completed}, proofs.GoingLemmas.on_bind}
use Rattle.law_rewards.{specs.WithdrawalLaws.BlocksPayFairly, proofs.Beginnings.if_ok}
use Rattle.law_rewards.proofs.Paying.{Pays, pays_then, pays_nothing, pays_logged, pays_noted, pays_sent, pays_pooled}
use Rattle.law_rewards.proofs.{Staking.{PaysIn, pays_emptied}, Telling.{on_then, fairly, where_reached}}
use Rattle.law_rewards.proofs.Hitting.{votes_pay_fairly, evidence_pays_fairly}

-- ---- allocation

given_pays : (l : Log) (o : Option Validator) (share : Money) (p : Purses) (fs : List Fact) → IfOk (share_given o share p fs) (λ y. Pays l fs (l ++ y.2) y.1)
given_pays l None share p fs = pays_logged l [] fs tt refl
given_pays l (Some v) share p fs = by (is_empty share)
  where
    by : (b : Bool) → IfOk {T = Purses × List Fact × Log} {E = Over} (if b then Ok (p, fs, []) else (share_joined share v.commission.rate (purse_of p v.operator) >>= λ x.
        Ok (record p { purses = with addr_cmp p.purses v.operator x.1 }, fs ++ fact.Allocated v.operator share ∷ [], (v.operator, log.allocated share x.0 v.tokens) ∷ []))) (λ y. Pays l fs (l ++ y.2) y.1)
    by true = pays_logged l [] fs tt refl
    by false = on_bind (share_joined share v.commission.rate (purse_of p v.operator)) _ _ (λ x e.
        let told : List Fact = fs ++ fact.Allocated v.operator share ∷ [] in
        pays_then l l (l ++ (v.operator, log.allocated share x.0 v.tokens) ∷ []) fs told told (pays_noted l fs (fact.Allocated v.operator share) (λ who op to reward coins h. cc)) (pays_logged l ((v.operator, log.allocated share x.0 v.tokens) ∷ []) told (tt, tt) refl))

shares_pay : (ts : List Vote) (s : Staked) (base : Money) (total : ℕ) (left : Money) (p : Purses) (fs : List Fact) (l start : Log) (first : List Fact) → Pays start first (start ++ l) fs
    → IfOk (shares_allocated s base total ts left p fs l) (λ x. Pays start first (start ++ x.2) x.1)
shares_pay [] s base total left p fs l start first h =
    on_bind (pool_joined left p) _ _ (λ q e. pays_then start (start ++ l) (start ++ l) first fs (pooled_told left fs) h (pays_pooled (start ++ l) left fs))
shares_pay (t ∷ ts) s base total left p fs l start first h =
    on_bind (quo_cut_of (t.power * 10 ^ 18) (total * 10 ^ 18)) _ _ (λ part a. on_bind (coins_mul_cut base part) _ _ (λ share b.
    on_then (share_given (validator_by_cons s t.cons) share p fs) _ (λ y. Pays (start ++ l) fs ((start ++ l) ++ y.2) y.1) _ (given_pays (start ++ l) (validator_by_cons s t.cons) share p fs) (λ y k.
    shares_pay ts s base total (coins_taken left share) y.0 y.1 (l ++ y.2) start first (subst (λ m. Pays start first m y.1) (append_assoc start l y.2) (pays_then start (start ++ l) ((start ++ l) ++ y.2) first fs y.1 h k)))))

pub allocation_pays : (votes : List Vote) (w : State) → IfOk (allocation_step votes w) (PaysIn w)
allocation_pays votes w =
    on_then (fees_allocated w.mine.staked votes w.hooks.0 w.view) _ (λ x. Pays w.log w.view.facts (w.log ++ x.2) x.1.facts) _ (by (nat_le w.view.ctx.height 1)) (λ x k. k)
  where
    fees : Money
    fees = coins_of w.view.bank (account.Module holder.FeeCollector)

    v1 : View
    v1 = sent (account.Module holder.FeeCollector) (account.Module holder.Distribution) fees w.view

    by : (b : Bool) → IfOk {T = Shared × View × Log} {E = Over} (if b then Ok (w.hooks.0, w.view, []) else (allocated w.mine.staked w.view.ctx.params fees votes w.hooks.0.purses v1.facts >>= λ x.
        Ok (record w.hooks.0 { purses = x.0 }, record v1 { facts = x.1 }, x.2))) (λ x. Pays w.log w.view.facts (w.log ++ x.2) x.1.facts)
    by true = pays_logged w.log [] w.view.facts tt refl
    by false =
        let total : ℕ = sum (map (λ t. t.power) votes) in
        on_then (allocated w.mine.staked w.view.ctx.params fees votes w.hooks.0.purses v1.facts) _ (λ x. Pays w.log w.view.facts (w.log ++ x.2) x.1) _
        (on_bind (coins_mul_cut (in_units fees) (10 ^ 18 - w.view.ctx.params.community_tax)) _ _ (λ base e.
        shares_pay (sharing total votes) w.mine.staked base total (in_units fees) w.hooks.0.purses v1.facts [] w.log w.view.facts
        (pays_then w.log w.log (w.log ++ []) w.view.facts v1.facts v1.facts (pays_sent w.log (account.Module holder.FeeCollector) (account.Module holder.Distribution) fees w.view.facts) (pays_logged w.log [] v1.facts tt refl))))
        (λ x k. k)

-- ---- validators

each_pays : (f : Validator → World Staked Hooks → Result (World Staked Hooks) Over) → ((v : Validator) (y : World Staked Hooks) → IfOk (f v y) (PaysIn y)) → (vs : List Validator) (y : World Staked Hooks) → IfOk (each f vs y) (PaysIn y)
each_pays f one [] y = pays_nothing y.log y.view.facts
each_pays f one (v ∷ vs) y =
    on_then (f v y) _ (PaysIn y) _ (one v y) (λ z k.
    on_then_more (each f vs z) z k (each_pays f one vs z))
  where
    on_then_more : (r : Result (World Staked Hooks) Over) (z : World Staked Hooks) → PaysIn y z → IfOk r (PaysIn z) → IfOk r (PaysIn y)
    on_then_more (Ok t) z k h = pays_then y.log z.log t.log y.view.facts z.view.facts t.view.facts k h
    on_then_more (Err e) z k h = tt

joined_pays : (v : Validator) (y : World Staked Hooks) → IfOk (joined_set chain_told v y) (PaysIn y)
joined_pays v y =
    let x : World Staked Hooks = changed v Bonded y in
    pays_then y.log y.log (y.log ++ []) y.view.facts x.view.facts x.view.facts (pays_noted y.log y.view.facts (fact.Changed v.operator Bonded) (λ who op to reward coins e. cc)) (pays_logged y.log [] x.view.facts tt refl)

left_pays : (v : Validator) (y : World Staked Hooks) → IfOk (left_set chain_told v y) (PaysIn y)
left_pays v y = pays_noted y.log y.view.facts _ (λ who op to reward coins e. cc)

difference_pays : (l : Log) (joined left : ℕ) (v : View) → Pays l v.facts l (difference_moved joined left v).facts
difference_pays l joined left v = by (nat_lt left joined)
  where
    by : (b : Bool) → Pays l v.facts l (if b then sent (account.Module holder.NotBonded) (account.Module holder.Bonded) (bond_coins v (joined - left)) v
        else sent (account.Module holder.Bonded) (account.Module holder.NotBonded) (bond_coins v (left - joined)) v).facts
    by true = pays_sent l (account.Module holder.NotBonded) (account.Module holder.Bonded) (bond_coins v (joined - left)) v.facts
    by false = pays_sent l (account.Module holder.Bonded) (account.Module holder.NotBonded) (bond_coins v (left - joined)) v.facts

pub set_pays : (w : State) → IfOk (set_step w) (PaysIn w)
set_pays w =
    let vs : List Validator = values_of w.mine.staked.validators in
    let reduction : ℕ = w.view.ctx.params.power_reduction in
    let most : ℕ = w.view.ctx.params.max_validators in
    let joining : List Validator = joining_of reduction most vs in
    let leaving : List Validator = leaving_of reduction most vs in
    on_then (set_updated chain_told (staked_in w)) _ (PaysIn w) _
    (on_then (each (joined_set chain_told) joining (staked_in w)) _ (PaysIn w) _ (each_pays (joined_set chain_told) joined_pays joining (staked_in w)) (λ a h.
    on_then (each (left_set chain_told) leaving a) _ (PaysIn a) _ (each_pays (left_set chain_told) left_pays leaving a) (λ b k.
    pays_then w.log b.log b.log w.view.facts b.view.facts (difference_moved (tokens_of joining) (tokens_of leaving) b.view).facts (pays_then w.log a.log b.log w.view.facts a.view.facts b.view.facts h k)
    (difference_pays b.log (tokens_of joining) (tokens_of leaving) b.view))))
    (λ y k. k)

matured_pays : (v : Validator) (y : World Staked Hooks) → IfOk (matured chain_told v y) (PaysIn y)
matured_pays v y = by (is_unbonding v.status && nat_le v.unbonding_time y.view.ctx.time)
  where
    by : (b : Bool) → IfOk (if b then removed_if_empty chain_told (record v { status = Unbonded }) (changed v Unbonded y) else Ok y) (PaysIn y)
    by true =
        let x : World Staked Hooks = changed v Unbonded y in
        if_ok (PaysIn y) (removed_if_empty chain_told (record v { status = Unbonded }) x) (λ z e.
        pays_then y.log y.log z.log y.view.facts x.view.facts z.view.facts (pays_noted y.log y.view.facts (fact.Changed v.operator Unbonded) (λ who op to reward coins h. cc)) (pays_emptied (record v { status = Unbonded }) x z e))
    by false = pays_nothing y.log y.view.facts

pub maturing_pays : (w : State) → IfOk (maturing_step w) (PaysIn w)
maturing_pays w = on_then (validators_matured chain_told (staked_in w)) _ (PaysIn w) _ (each_pays (matured chain_told) matured_pays (values_of w.mine.staked.validators) (staked_in w)) (λ y k. k)

-- ---- entries

back_pays : (l : Log) (who : List ℕ) (es : List UnbondingEntry) (v : View) → Pays l v.facts l (paid_back who es v).facts
back_pays l who [] v = pays_nothing l v.facts
back_pays l who (e ∷ es) v = by (is_mature v.ctx.time e) (λ u. back_pays l who es u)
  where
    u1 : View
    u1 = sent (account.Module holder.NotBonded) (account.User who) (bond_coins v e.balance) v

    by : (b : Bool) → ((u : View) → Pays l u.facts l (paid_back who es u).facts) → Pays l v.facts l (if b then paid_back who es u1 else paid_back who es v).facts
    by true rest = pays_then l l l v.facts u1.facts (paid_back who es u1).facts (pays_sent l (account.Module holder.NotBonded) (account.User who) (bond_coins v e.balance) v.facts) (rest u1)
    by false rest = rest v

completed_pays : (l : Log) (u : UnbondingLists) (v : View) → Pays l v.facts l (completed u v).1.facts
completed_pays l [] v = pays_nothing l v.facts
completed_pays l (p ∷ ps) v =
    let x : View = paid_back p.0.0 p.1 v in
    pays_then l l l v.facts x.facts (completed ps x).1.facts (back_pays l p.0.0 p.1 v) (completed_pays l ps x)

pub unbondings_pay : (w : State) → IfOk (unbondings_step w) (PaysIn w)
unbondings_pay w = completed_pays w.log w.mine.unbondings w.view

pub redelegations_pay : (w : State) → IfOk (redelegations_step w) (PaysIn w)
redelegations_pay w = pays_nothing w.log w.view.facts

-- ---- all parts of a block

pub blocks_pay_fairly : BlocksPayFairly
blocks_pay_fairly = record {
  next = λ height time w sound later few since before reached. fairly w (next_block height time w) (pays_nothing w.log w.view.facts);
  allocates = λ votes w sound known. where_reached (allocation_step votes) w (λ reached. allocation_pays votes w);
  votes = λ t w sound power fewer. votes_pay_fairly t w sound;
  evidence = λ e w sound power least below before. evidence_pays_fairly e w sound;
  sets = λ w sound. where_reached set_step w (λ reached. set_pays w);
  matures = λ w sound. where_reached maturing_step w (λ reached. maturing_pays w);
  pays = λ w sound. where_reached unbondings_step w (λ reached. unbondings_pay w);
  ends = λ w sound. where_reached redelegations_step w (λ reached. redelegations_pay w);
}
