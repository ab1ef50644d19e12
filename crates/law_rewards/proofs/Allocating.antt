-- As a block begins, no start is of its height, and allocating its fees keeps accounts reached.
use Rattle.std.proofs.Common.{◌≡◌, ℕ, ◌-◌, ◌^◌, ◌<◌, ◌≤◌, Bool, true, false, List, [], map, refl, arith, sym, ap, subst, ◌∙◌, Option, Some, None, Result, Ok, if◌then◌else◌, is_some, nat_le, sum, IsSome, slice_get}
use Rattle.std.{specs.BTreeMap.is_at, proofs.lemmas.{List.Elements.recursion_from_All, Map.Entries.place_from_lookup}}
use Rattle.base_decimals.specs.{declared.over.Over.Over, Decimals.mul_cut_of}
use Rattle.base_types.specs.declared.account.Account.TheVariants as account
use Rattle.base_types.specs.declared.account.Module.TheVariants as holder
use Rattle.base_types.specs.Orders.{addr_cmp}
use Rattle.base_coins.{specs.Coins.{Money, IsMoney, coins_mul_cut}, proofs.Parts.{by_is_money, below_is}}
use Rattle.base_roles.specs.declared.{entities.{StartingInfo.StartingInfo, Validator.Validator}, facts.Fact.Fact}
use Rattle.base_roles.specs.{declared.messages.Vote.Vote, Entries.at, Holdings.coins_of, Log.Log}
use Rattle.base_roles.specs.{Orders.{pair_cmp, same_addr}, Staked.{Staked, validator_at, delegation}, Flow.{◌>>=◌}}
use Rattle.base_roles.specs.World.{View, sent}
use Rattle.rule_modules.proofs.{EntryLemmas.to_all, OrderLemmas.pair_total}
use Rattle.rule_modules.specs.{Allocation.{sharing, shares_allocated, allocated, fees_allocated}, Amounts.in_units}
use Rattle.rule_modules.specs.{Chain.{State, with_shared, allocation_step}, Distribution.Shared, Laws.next_block}
use Rattle.rule_modules.specs.{Periods.{Periods, starts_of}, Purses.Purses}
use Rattle.rule_modules.specs.Sound.{IsSound, StartIsSound, PeriodsAreSound}
use Rattle.law_rewards.specs.{States.AreReached, StateLaws.{ReachedStays, NoneStartedHere}}
use Rattle.law_rewards.specs.Changes.{NoneStartedInNext, AllocationKeepsReached, BlockBeginKeepsReached}
use Rattle.law_rewards.proofs.{Lists.all_at, Denominations.step_parts, Entries.{addr_is, pair_is, one_passes}}
use Rattle.law_rewards.proofs.{Following.own_addr, Claims.some_of, Endings.next_block_keeps_reached, Beginnings.if_ok}
use Rattle.law_rewards.proofs.{Quiet.{same_ok, quiet_reached}, Sharing.{all_given, purses_sound, state_shared}}

-- ---- starts of earlier heights

is_there : (o : Option Validator) → IsSome o → is_some o ≡ true
is_there None h = absurd cc
is_there (Some v) h = refl

start_early : (w : State) (k : List ℕ × List ℕ) (info : StartingInfo) → IsSound w → at pair_cmp w.hooks.0.rewards.starts k ≡ Some info → info.height ≤ w.view.ctx.height
start_early w k info sound e =
    let s : Staked = w.mine.staked in
    let starts : List ((List ℕ × List ℕ) × StartingInfo) = w.hooks.0.rewards.starts in
    let held : (n : ℕ) × (delegation s k.1 k.0 ≡ Some n) = some_of (delegation s k.1 k.0) (sym (sound.stands.starts k.1 k.0) ∙ ap is_some e) in
    let place : (i : ℕ) × (q : List ℕ × List ℕ) × (slice_get s.delegations i ≡ Some (q, held.0)) × (is_at (pair_cmp k) q ≡ true) = place_from_lookup (is_at (pair_cmp k)) s.delegations held.0 held.1 in
    let exists : IsSome (validator_at s place.1.0) = all_at (λ x. IsSome (validator_at s x.0.0)) place.0 (place.1, held.0) s.delegations place.2 (recursion_from_All (λ x. IsSome (validator_at s x.0.0)) s.delegations sound.staked.existing) in
    let there : is_some (validator_at s k.0) ≡ true = ap (λ o. is_some (validator_at s o)) (pair_is k place.1 place.3).0 ∙ is_there (validator_at s place.1.0) exists in
    let periods : (p : Periods) × (at addr_cmp w.hooks.0.rewards.periods k.0 ≡ Some p) = some_of (at addr_cmp w.hooks.0.rewards.periods k.0) (sound.stands.periods k.0 ∙ there) in
    let entry : (i : ℕ) × (q : List ℕ) × (slice_get w.hooks.0.rewards.periods i ≡ Some (q, periods.0)) × (is_at (addr_cmp k.0) q ≡ true) = place_from_lookup (is_at (addr_cmp k.0)) w.hooks.0.rewards.periods periods.0 periods.1 in
    let own : PeriodsAreSound w.view.ctx.height (starts_of w.hooks.0.rewards entry.1) periods.0 =
    all_at (λ x. PeriodsAreSound w.view.ctx.height (starts_of w.hooks.0.rewards x.0) x.1) entry.0 (entry.1, periods.0) w.hooks.0.rewards.periods entry.2
    (recursion_from_All (λ x. PeriodsAreSound w.view.ctx.height (starts_of w.hooks.0.rewards x.0) x.1) w.hooks.0.rewards.periods sound.rewards.periods) in
    let where_at : (i : ℕ) × (q : List ℕ × List ℕ) × (slice_get starts i ≡ Some (q, info)) × (is_at (pair_cmp k) q ≡ true) = place_from_lookup (is_at (pair_cmp k)) starts info e in
    let passes : same_addr where_at.1.0 entry.1 ≡ true =
    ap (λ o. same_addr o entry.1) (sym (pair_is k where_at.1 where_at.3).0) ∙ ap (λ o. same_addr o entry.1) (addr_is k.0 entry.1 entry.3) ∙ own_addr entry.1 in
    let begun : StartIsSound periods.0.current w.view.ctx.height info =
    one_passes (StartIsSound periods.0.current w.view.ctx.height) (λ x. x.1) (λ x. same_addr x.0.0 entry.1) where_at.0 starts (where_at.1, info) where_at.2 passes
    (recursion_from_All (StartIsSound periods.0.current w.view.ctx.height) (starts_of w.hooks.0.rewards entry.1) own.begun) in
    begun.height

pub none_started_in_next : NoneStartedInNext
none_started_in_next = λ w height time sound later.
    to_all pair_cmp pair_total (λ e. e.1.height < height) w.hooks.0.rewards.starts sound.rewards.starts_ascend (λ k info e. earlier info.height w.view.ctx.height height (start_early w k info sound e) later)
  where
    earlier : (a b c : ℕ) → a ≤ b → b < c → a < c
    earlier a b c l m = omega (arith, l, m)

-- ---- allocating

allocated_reached : (votes : List Vote) (w : State) (fees : Money) (facts : List Fact) (u : View) (x : Purses × List Fact × Log) → IsSound w → NoneStartedHere w → IsMoney (in_units fees) → u.ctx.height ≡ w.view.ctx.height
    → allocated w.mine.staked w.view.ctx.params fees votes w.hooks.0.purses facts ≡ Ok x → AreReached w → AreReached (state_shared w x.0 x.2)
allocated_reached votes w fees facts u x sound none money height e reached =
    let left : Money = in_units fees in
    let by : ℕ = 10 ^ 18 - w.view.ctx.params.community_tax in
    let total : ℕ = sum (map (λ t. t.power) votes) in
    let one : (base : Money) × (coins_mul_cut left by ≡ Ok base) × (shares_allocated w.mine.staked base total (sharing total votes) left w.hooks.0.purses facts [] ≡ Ok x) =
    step_parts (coins_mul_cut left by) (λ base. shares_allocated w.mine.staked base total (sharing total votes) left w.hooks.0.purses facts []) x e in
    all_given w one.0 total (sharing total votes) left w.hooks.0.purses facts [] x sound none (by_is_money (λ n. mul_cut_of n by) (λ n k h. below_is _ _ k h) left one.0 money one.1)
    (record { reached = quiet_reached w w.hooks.0 w.view refl refl refl reached; sound = purses_sound w sound }) one.2

fees_reached : (votes : List Vote) (w : State) (z : Shared × View × Log) → IsSound w → NoneStartedHere w → IsMoney (in_units (coins_of w.view.bank (account.Module holder.FeeCollector)))
    → fees_allocated w.mine.staked votes w.hooks.0 w.view ≡ Ok z → AreReached w → AreReached (with_shared z.0 z.1 z.2 w)
fees_reached votes w z sound none money e reached = at_height (nat_le w.view.ctx.height 1) e
  where
    fees : Money
    fees = coins_of w.view.bank (account.Module holder.FeeCollector)

    moved : View
    moved = sent (account.Module holder.FeeCollector) (account.Module holder.Distribution) fees w.view

    rest : Purses × List Fact × Log → Shared × View × Log
    rest y = (record w.hooks.0 { purses = y.0 }, record moved { facts = y.1 }, y.2)

    at_height : (b : Bool) → Path (Result (Shared × View × Log) Over) (if b then Ok (w.hooks.0, w.view, []) else (allocated w.mine.staked w.view.ctx.params fees votes w.hooks.0.purses moved.facts >>= λ y. Ok (rest y))) (Ok z)
        → AreReached (with_shared z.0 z.1 z.2 w)
    at_height true h = subst (λ y. AreReached (with_shared y.0 y.1 y.2 w)) (same_ok (w.hooks.0, w.view, []) z h) (quiet_reached w w.hooks.0 w.view refl refl refl reached)
    at_height false h =
        let one : (y : Purses × List Fact × Log) × (allocated w.mine.staked w.view.ctx.params fees votes w.hooks.0.purses moved.facts ≡ Ok y) × (Path (Result (Shared × View × Log) Over) (Ok (rest y)) (Ok z)) =
        step_parts (allocated w.mine.staked w.view.ctx.params fees votes w.hooks.0.purses moved.facts) (λ y. Ok (rest y)) z h in
        let after : AreReached (state_shared w one.0.0 one.0.2) = allocated_reached votes w fees moved.facts w.view one.0 sound none money refl one.1 reached in
        subst (λ y. AreReached (with_shared y.0 y.1 y.2 w)) (same_ok (rest one.0) z one.2) (λ d v there. after d v there)

allocation_reached : (votes : List Vote) (w new : State) → IsSound w → NoneStartedHere w → IsMoney (in_units (coins_of w.view.bank (account.Module holder.FeeCollector))) → allocation_step votes w ≡ Ok new → ReachedStays w new
allocation_reached votes w new sound none money e reached =
    let one : (z : Shared × View × Log) × (fees_allocated w.mine.staked votes w.hooks.0 w.view ≡ Ok z) × (Path (Result State Over) (Ok (with_shared z.0 z.1 z.2 w)) (Ok new)) =
    step_parts (fees_allocated w.mine.staked votes w.hooks.0 w.view) (λ z. Ok (with_shared z.0 z.1 z.2 w)) new e in
    subst AreReached (same_ok (with_shared one.0.0 one.0.1 one.0.2 w) new one.2) (fees_reached votes w one.0 sound none money one.1 reached)

pub allocation_keeps_reached : AllocationKeepsReached
allocation_keeps_reached = λ votes w sound none money. if_ok (ReachedStays w) (allocation_step votes w) (λ new e. allocation_reached votes w new sound none money e)

pub block_begin_keeps_reached : BlockBeginKeepsReached
block_begin_keeps_reached = λ votes height time w sound sound_then later money.
    if_ok (ReachedStays w) (allocation_step votes (next_block height time w))
    (λ new e reached. allocation_reached votes (next_block height time w) new sound_then (none_started_in_next w height time sound later) money e (next_block_keeps_reached w height time later reached))
