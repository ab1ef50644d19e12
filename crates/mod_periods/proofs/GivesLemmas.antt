-- What the two calls of the reward answer.
use Rattle.std.proofs.Common.{◌≡◌, ◌≢◌, ℕ, ◌+◌, ◌-◌, ◌==◌, true, false, if◌then◌else◌, List, [], Option, Some, None, is_some, unwrap_or, Result, Ok, Err, IfOk, IfErr, refl, sym, ◌∙◌, ap, subst, arith}
use Rattle.std.proofs.lemmas.Bool.Decides.{nat_tests}
use Rattle.base_decimals.specs.declared.over.Over.{Over}
use Rattle.base_types.specs.Orders.{addr_cmp}
use Rattle.base_coins.specs.Coins.{Money, IsMoney}
use Rattle.base_roles.specs.declared.entities.{Historical.Historical, StartingInfo.StartingInfo}
use Rattle.base_roles.specs.{declared.faults.HookFault.HookFault, Entries.at, Orders.pair_cmp, Flow.{◌>>=◌}}
use Rattle.base_roles.specs.declared.faults.HookFault.TheVariants as hook
use Rattle.mod_sums.specs.Faults.{IsExcessOf}
use Rattle.mod_periods.specs.{Answers.{Gives, OnLimit}, Earning.{kept_reward, CanEarn}}
use Rattle.mod_periods.specs.{Kept.{Kept, current_of, record_of, info_of}, Stands.{KeepsRewards, IsKept}}
use Rattle.mod_periods.{specs.Steps.{running, next_ratio}, proofs.FoundLemmas.{periods-there, periods-is, running-is}}
use Rattle.mod_periods.proofs.RatioLemmas.{last-record, next-grown, next-ended, ended-err}
use Rattle.mod_periods.proofs.EndLemmas.{ended_with, IsGrown}
use Rattle.mod_periods.proofs.RewardLemmas.{can-now, reward-now, can-after, reward-after}
use Rattle.rule_modules.specs.Periods.{Periods, Rewards, periods_of, start_of, ratio_at, last_ended, earned, stretches_of, reward_of, reward_at, reward_after}

gives-none : {A : Type 0} (due : Result A Over) → Gives due (Err hook.NoMemory)
gives-none (Ok a) = tt
gives-none (Err over) = tt

pub gives : {A : Type 0} (due : Result A Over) (result : Result A HookFault) → IfOk result (λ a. due ≡ Ok a) → IfErr result (IsExcessOf due) → Gives due result
gives due (Ok a) ok err = subst (λ d. Gives d (Ok a)) (sym ok) refl
gives due (Err (hook.Over over)) ok err = subst (λ d. Gives d (Err (hook.Over over))) (sym err) refl
gives due (Err hook.NoMemory) ok err = gives-none due

there_is : {A : Type 0} (x : Option A) → is_some x ≡ true → (a : A) × (x ≡ Some a)
there_is None e = cc
there_is (Some a) e = (a, refl)

-- an operator of which a delegation is started has periods
started-periods : (r : Rewards) (o delegator : List ℕ) (s : StartingInfo) (k : Kept) → KeepsRewards k r → start_of r delegator o ≡ Some s → (p : Periods) × (at addr_cmp r.periods o ≡ Some p)
started-periods r o delegator s k h start = there_is (at addr_cmp r.periods o) (h.sound.started o delegator (ap is_some start))

start-is : (k : Kept) (r : Rewards) (o delegator : List ℕ) (s : StartingInfo) → KeepsRewards k r → info_of k delegator o ≡ Some s → start_of r delegator o ≡ Some s
start-is k r o delegator s h info = ap (λ es. at pair_cmp es (o, delegator)) (sym h.starts) ∙ info

-- ---- up to the last ended period

ratio_now : (k : Kept) (r : Rewards) (o : List ℕ) (p : Periods) (ending : ℕ) (x : Historical) → KeepsRewards k r → at addr_cmp r.periods o ≡ Some p → ending + 1 ≡ running k o → record_of k o ending ≡ Some x
    → ratio_at p.ratios ending ≡ x.ratio
ratio_now k r o p ending x h is last found =
    let same : running k o - 1 ≡ ending = omega (arith, last) in
    let run : p.current - 1 ≡ ending = omega (arith, last, running-is k r o p h is) in
    let e = sym (last-record k r o p h is) ∙ ap (λ n. record_of k o n) same ∙ found in
    ap (ratio_at p.ratios) (sym run) ∙ ap (λ y. (unwrap_or y x).ratio) e

pub can-reward : (k : Kept) (o delegator : List ℕ) (s : StartingInfo) (ending : ℕ) (x : Historical) → IsKept k → info_of k delegator o ≡ Some s → ending + 1 ≡ running k o → record_of k o ending ≡ Some x
    → CanEarn k o s ending x.ratio
can-reward k o delegator s ending x kept info last found =
    let start = start-is k kept.0 o delegator s kept.1 info in
    let there = started-periods kept.0 o delegator s k kept.1 start in
    let run : ending + 1 ≡ there.0.current = last ∙ running-is k kept.0 o there.0 kept.1 there.1 in
    subst (λ m. CanEarn k o s ending m) (ratio_now k kept.0 o there.0 ending x kept.1 there.1 last found)
    (can-now k kept.0 o delegator there.0 s kept.1 there.1 start ending run)

pub reward-gives : (k : Kept) (r : Rewards) (o delegator : List ℕ) (s : StartingInfo) (ending height value : ℕ) (x : Historical) (result : Result Money HookFault) → KeepsRewards k r → info_of k delegator o ≡ Some s
    → ending + 1 ≡ running k o → record_of k o ending ≡ Some x → s.height ≢ height
    → IfOk result (λ m. kept_reward k o s ending x.ratio value ≡ Ok m) → IfErr result (IsExcessOf (kept_reward k o s ending x.ratio value))
    → Gives (reward_at (start_of r delegator o) (periods_of r o) ending height value) result
reward-gives k r o delegator s ending height value x result h info last found other ok err =
    let start = start-is k r o delegator s h info in
    let there = started-periods r o delegator s k h start in
    let p : Periods = there.0 in
    let run : ending + 1 ≡ p.current = last ∙ running-is k r o p h there.1 in
    let test : (s.height == height) ≡ false = grind (arith, nat_tests) in
    let due : reward_at (start_of r delegator o) (periods_of r o) ending height value ≡ kept_reward k o s ending x.ratio value
    = (λ i. reward_at (start i) (periods-is k r o p h there.1 i) ending height value)
    ∙ ap (λ b. if b then Ok [] else earned (ratio_at p.ratios) (stretches_of s p.events ending value) []) test
    ∙ sym (reward-now k r o delegator p s h there.1 start ending value run) ∙ ap (λ m. kept_reward k o s ending m value) (ratio_now k r o p ending x h there.1 last found) in
    subst (λ d. Gives d result) (sym due) (gives (kept_reward k o s ending x.ratio value) result ok err)

-- ---- up to the period that runs, once it has ended

pub can-reward-after : (k : Kept) (o delegator : List ℕ) (s : StartingInfo) (increment ratio : Money) → IsKept k → info_of k delegator o ≡ Some s → IsMoney increment → next_ratio increment o k ≡ Ok ratio
    → (ending : ℕ) × CanEarn k o s ending ratio
can-reward-after k o delegator s increment ratio kept info coins next =
    let start = start-is k kept.0 o delegator s kept.1 info in
    let there = started-periods kept.0 o delegator s k kept.1 start in
    (there.0.current, can-after k kept.0 o delegator there.0 s kept.1 there.1 start ratio (next-grown k kept.0 o there.0 kept.1 there.1 increment ratio coins next))

-- what is answered of a start at another height
pub after-gives : (k : Kept) (r : Rewards) (o delegator : List ℕ) (s : StartingInfo) (increment ratio : Money) (height value : ℕ) (result : Result Money HookFault) → KeepsRewards k r → info_of k delegator o ≡ Some s
    → IsMoney increment → next_ratio increment o k ≡ Ok ratio → s.height ≢ height
    → ((ending : ℕ) → CanEarn k o s ending ratio → IfOk result (λ m. kept_reward k o s ending ratio value ≡ Ok m)) → ((ending : ℕ) → CanEarn k o s ending ratio → IfErr result (IsExcessOf (kept_reward k o s ending ratio value)))
    → Gives (reward_after (start_of r delegator o) (periods_of r o) increment height value) result
after-gives k r o delegator s increment ratio height value result h info coins next other ok err =
    let start = start-is k r o delegator s h info in
    let there = started-periods r o delegator s k h start in
    let p : Periods = there.0 in
    let grown : IsGrown p ratio = next-grown k r o p h there.1 increment ratio coins next in
    let can = can-after k r o delegator p s h there.1 start ratio grown in
    let test : (s.height == height) ≡ false = grind (arith, nat_tests) in
    let last : p.current + 1 - 1 ≡ p.current = omega arith in
    let due : reward_after (start_of r delegator o) (periods_of r o) increment height value ≡ kept_reward k o s p.current ratio value
    = (λ i. next-ended k r o p h there.1 increment ratio next i >>= λ ended. reward_at (start i) ended.1 (last_ended ended.1) height value)
    ∙ ap (λ n. reward_of s (ended_with p ratio) n height value) last
    ∙ ap (λ b. if b then Ok [] else earned (ratio_at (ended_with p ratio).ratios) (stretches_of s p.events p.current value) []) test
    ∙ sym (reward-after k r o delegator p s h there.1 start ratio grown value) in
    subst (λ d. Gives d result) (sym due) (gives (kept_reward k o s p.current ratio value) result (ok p.current can) (err p.current can))

-- where the period can't end
pub after-excess : (k : Kept) (r : Rewards) (o delegator : List ℕ) (increment : Money) (height value : ℕ) (fault : HookFault) → KeepsRewards k r → is_some (current_of k o) ≡ true → IsExcessOf (next_ratio increment o k) fault
    → Gives (reward_after (start_of r delegator o) (periods_of r o) increment height value) (Err fault)
after-excess k r o delegator increment height value (hook.Over over) h is excess =
    let there = periods-there k r o h is in
    let due : reward_after (start_of r delegator o) (periods_of r o) increment height value ≡ Err over
    = ap (λ x. x >>= λ ended. reward_at (start_of r delegator o) ended.1 (last_ended ended.1) height value) (ended-err k r o there.0 h there.1 increment over excess) in
    subst (λ d. Gives d (Err (hook.Over over))) (sym due) refl
after-excess k r o delegator increment height value hook.NoMemory h is excess = gives-none (reward_after (start_of r delegator o) (periods_of r o) increment height value)

-- what stands anyway stands where a limit was met
pub on_limit : (A : Type 0) (fault : HookFault) (P : Type 0) → P → OnLimit {A = A} (Err fault) P
on_limit A (hook.Over over) P p = p
on_limit A hook.NoMemory P p = tt
