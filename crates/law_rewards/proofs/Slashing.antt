-- The slash of a validator that has tokens is its deed; every other account stays.
use Rattle.std.proofs.Common.{◌≡◌, ℕ, ◌-◌, ◌^◌, ◌<◌, ◌≤◌, Bool, true, false, List, [], ◌∷◌, ◌++◌, refl, arith, sym, ap, subst, ◌∙◌, Some, Result, Ok, Err, unwrap_or, is_some}
use Rattle.std.specs.{List.Sorted.IsStrictlySortedBy, Map.keys_of}
use Rattle.base_decimals.specs.declared.over.Over.{Over}
use Rattle.base_types.specs.Orders.{addr_cmp}
use Rattle.base_roles.specs.{declared.entities.Validator.Validator, Entries.{at, with}, Log.{Log, LogEntry}}
use Rattle.base_roles.specs.{Orders.{pair_cmp, same_addr}, Staked.{Staked, validator_at, put_validator}}
use Rattle.base_roles.specs.World.{View, gives, World, noted, burnt}
use Rattle.base_roles.specs.declared.facts.Fact.TheVariants as fact
use Rattle.base_roles.specs.Log as log
use Rattle.rule_modules.specs.Chain.{Stakes, State, with_staked}
use Rattle.rule_modules.specs.Distribution.{Shared, ended, slash_recorded, told_of}
use Rattle.rule_modules.specs.{Periods.{Periods, initial_records, periods_of, event_recorded}, Slashing.slash_fraction}
use Rattle.rule_modules.{specs.{Stakes.pool_of, Window.Window}, proofs.BesideLemmas.raised}
use Rattle.rule_modules.proofs.SlashParts.{burnt_with, event_put, poorer, slash_noted}
use Rattle.law_rewards.specs.{Account.{Account, IsReached, account_after}, States.{account_in, AreReached}}
use Rattle.law_rewards.proofs.Denominations.{step_parts}
use Rattle.law_rewards.proofs.Entries.{addr_is, put_there, put_elsewhere, history_behind, history_elsewhere}
use Rattle.law_rewards.proofs.{Reached.deeds_lead_on, Claims.{IsReady, IsEnded, AreLists, closed_account}}
use Rattle.law_rewards.proofs.Endings.{same_account, same_some, state_then, closed_is, end_is, ended_reached}
use Rattle.law_rewards.proofs.{Edits.standing_reached, Quiet.same_ok, Hooked.same_told, Growing.apart_back}
use Rattle.law_rewards.proofs.Fits.{HasLists, Fits, nobody, put_then, ended_lists, ended_starts, put_fits, ready_fits}
use Rattle.law_rewards.specs.Account as deed

-- ---- what a slash records and burns

pub recorded_parts : (v : Validator) (fraction : ℕ) (d : Shared) (u : View) (y : Shared × View × Log) → slash_recorded v fraction d u ≡ Ok y
    → (z : ℕ × Shared × View × Log) × (ended v d u ≡ Ok z) × ((event_put v fraction z, z.2, z.3) ≡ y)
recorded_parts v fraction d u y e =
    let one : (z : ℕ × Shared × View × Log) × (ended v d u ≡ Ok z) × (Path (Result (Shared × View × Log) Over) (Ok (event_put v fraction z, z.2, z.3)) (Ok y)) =
    step_parts (ended v d u) (λ z. Ok (event_put v fraction z, z.2, z.3)) y e in
    (one.0, one.1, same_ok (event_put v fraction one.0, one.0.2, one.0.3) y one.2)

abbrev burn_entry : Validator → ℕ → LogEntry
burn_entry v burn = log.slashed burn v.tokens (slash_fraction burn v.tokens)

-- the state behind a slash
abbrev state_slashed : State → Validator → ℕ → ℕ × Shared × View × Log → View → State
state_slashed w v burn z u = record {
  mine = record w.mine { staked = put_validator (poorer v burn) w.mine.staked };
  hooks = (event_put v (slash_fraction burn v.tokens) z, w.hooks.1);
  view = u;
  log = (w.log ++ z.3) ++ (v.operator, burn_entry v burn) ∷ [];
}

slashed_account : (d : List ℕ) (w : State) (v : Validator) (burn : ℕ) (z : ℕ × Shared × View × Log) (u : View) (k : IsEnded d v w.hooks.0 w.view z) → u.ctx.height ≡ z.2.ctx.height
    → account_in d (state_slashed w v burn z u) (poorer v burn) ≡ account_after d (account_in d w v) (deed.slash burn k.increment k.ratio)
slashed_account d w v burn z u k height =
    let op : List ℕ = v.operator in
    let fraction : ℕ = slash_fraction burn v.tokens in
    let p : Periods = event_recorded z.2.ctx.height fraction (periods_of z.1.rewards op) in
    let entry : LogEntry = burn_entry v burn in
    let a : Account = account_in d (state_slashed w v burn z u) (poorer v burn) in
    let b : Account = account_in d (state_then w z) v in
    let c : Account = closed_account d w v k.increment k.ratio in
    let before : b ≡ c = closed_is d w v z k in
    same_account (v.tokens - burn) v.shares a.height c.height a.current c.current a.commission c.commission a.outstanding c.outstanding a.periods (event_recorded c.height fraction c.periods) a.starts c.starts a.history (c.history ++ entry ∷ [])
    (height ∙ k.height)
    (ap (λ x. x.current) before)
    (ap (λ x. x.commission) before)
    (ap (λ x. x.outstanding) before)
    (ap (λ o. unwrap_or o initial_records) (put_there op p z.1.rewards.periods)
    ∙ ap (λ n. event_recorded n fraction (periods_of z.1.rewards op)) k.height
    ∙ ap (λ x. event_recorded w.view.ctx.height fraction x.periods) before)
    (ap (λ x. x.starts) before)
    (history_behind op (w.log ++ z.3) entry [] ∙ ap (λ x. x.history ++ entry ∷ []) before)

slashed_other : (d : List ℕ) (w : State) (v x : Validator) (burn : ℕ) (z : ℕ × Shared × View × Log) (u : View) → u.ctx.height ≡ z.2.ctx.height → same_addr x.operator v.operator ≡ false
    → account_in d (state_slashed w v burn z u) x ≡ account_in d (state_then w z) x
slashed_other d w v x burn z u height apart =
    let a : Account = account_in d (state_slashed w v burn z u) x in
    let b : Account = account_in d (state_then w z) x in
    let p : Periods = event_recorded z.2.ctx.height (slash_fraction burn v.tokens) (periods_of z.1.rewards v.operator) in
    same_account x.tokens x.shares a.height b.height a.current b.current a.commission b.commission a.outstanding b.outstanding a.periods b.periods a.starts b.starts a.history b.history
    height refl refl refl
    (ap (λ o. unwrap_or o initial_records) (put_elsewhere v.operator x.operator p z.1.rewards.periods apart))
    refl
    (history_elsewhere x.operator v.operator (w.log ++ z.3) (burn_entry v burn) [] (apart_back x.operator v.operator apart))

-- a validator that may be slashed so
record MayLose (w : State) (v : Validator) (burn : ℕ) (z : ℕ × Shared × View × Log) : Type 0 where
  found : validator_at w.mine.staked v.operator ≡ Some v
  ready : IsReady w v.operator
  ends : ended v w.hooks.0 w.view ≡ Ok z
  some : 0 < v.tokens
  few : v.tokens ≤ 10 ^ 18
  within : burn ≤ v.tokens

slashed_each : (d : List ℕ) (w : State) (v x : Validator) (burn : ℕ) (z : ℕ × Shared × View × Log) (u : View) → MayLose w v burn z → u.ctx.height ≡ z.2.ctx.height → AreReached w
    → validator_at (put_validator (poorer v burn) w.mine.staked) x.operator ≡ Some x → (b : Bool) → same_addr x.operator v.operator ≡ b → IsReached d (account_in d (state_slashed w v burn z u) x)
slashed_each d w v x burn z u m height reached there true is =
    let less : Validator = poorer v burn in
    let t : Staked = put_validator less w.mine.staked in
    let k : IsEnded d v w.hooks.0 w.view z = end_is d w v z m.ready m.ends in
    let one : x ≡ less = same_some x less (validator_at t x.operator) (validator_at t v.operator) there (put_there v.operator less w.mine.staked.validators) (ap (λ o. validator_at t o) (addr_is x.operator v.operator is)) in
    subst (λ y. IsReached d (account_in d (state_slashed w v burn z u) y)) (sym one)
    (subst (λ a. IsReached d a) (sym (slashed_account d w v burn z u k height))
    (deeds_lead_on d (account_in d w v) (deed.slash burn k.increment k.ratio ∷ []) (reached d v m.found)
    ((record { increment_is = k.increment_is; ratio_is = k.ratio_is }, m.some, m.few, m.within), tt)))
slashed_each d w v x burn z u m height reached there false is =
    subst (λ a. IsReached d a) (sym (slashed_other d w v x burn z u height is))
    (ended_reached w v z m.ready m.found m.ends reached d x (sym (put_elsewhere v.operator x.operator (poorer v burn) w.mine.staked.validators is) ∙ there))

slashed_reached : (w : State) (v : Validator) (burn : ℕ) (z : ℕ × Shared × View × Log) (u : View) → MayLose w v burn z → u.ctx.height ≡ z.2.ctx.height → AreReached w → AreReached (state_slashed w v burn z u)
slashed_reached w v burn z u m height reached d x there = slashed_each d w v x burn z u m height reached there (same_addr x.operator v.operator) refl

-- ---- what is left fits

event_fits : (s : Staked) (d : Shared) (u : View) (v : Validator) (fraction : ℕ) (z : ℕ × Shared × View × Log) → Fits nobody s d → validator_at s v.operator ≡ Some v → ended v d u ≡ Ok z → Fits nobody s (event_put v fraction z)
event_fits s d u v fraction z f found e =
    let op : List ℕ = v.operator in
    let own : HasLists d op = f.lists op v found in
    let p : Periods = event_recorded z.2.ctx.height fraction (periods_of z.1.rewards op) in
    let closed : HasLists z.1 op = ended_lists v d u z own e op own in
    let starts : z.1.rewards.starts ≡ d.rewards.starts = ended_starts v d u z own e in record {
      lists = λ o x there. (let h : HasLists z.1 o = ended_lists v d u z own e o (f.lists o x there) in record {
        current = h.current;
        outstanding = h.outstanding;
        lists = put_then AreLists z.1.rewards.periods (with addr_cmp z.1.rewards.periods op p) op o p initial_records refl closed.lists h.lists;
      });
      starts = λ x o. ap (λ es. is_some (at pair_cmp es (o, x))) starts ∙ f.starts x o;
      own = f.own;
      tokens = f.tokens;
      validators_ascend = f.validators_ascend;
      delegations_ascend = f.delegations_ascend;
      starts_ascend = subst (λ es. IsStrictlySortedBy pair_cmp (keys_of es)) (sym starts) f.starts_ascend;
    }

-- ---- beside the window

-- the state of which this is the staking, the distribution and the ground
abbrev pub whole_of : Stakes → Window → World Staked Shared → State
whole_of c i x = with_staked c (raised i x)

-- rules may go on, and accounts are reached
pub record Going (c : Stakes) (i : Window) (x : World Staked Shared) : Type 0 where
  pub fits : Fits nobody x.mine x.hooks
  pub reached : AreReached (whole_of c i x)

-- a rule's answer is what is told of it
pub rule_told : (r : Result (Shared × View × Log) Over) (z : Shared × View × Log) → told_of r ≡ gives z.0 z.1 z.2 → r ≡ Ok z
rule_told (Ok p) z h = let parts : (p.0 ≡ z.0) × (p.1 ≡ z.1) × (p.2 ≡ z.2) = same_told p.0 z.0 p.1 z.1 p.2 z.2 h in λ i. Ok (parts.0 i, parts.1 i, parts.2 i)
rule_told (Err over) z h = absurd cc

-- a validator without tokens burns none
pub empty_going : (c : Stakes) (i : Window) (x : World Staked Shared) (v : Validator) (burn : ℕ) (denom : List ℕ) → Going c i x → validator_at x.mine v.operator ≡ Some v → v.tokens ≡ 0 → Going c i (burnt_with v burn denom x)
empty_going c i x v burn denom g found empty = record {
  fits = put_fits nobody x.mine x.hooks v (poorer v burn) g.fits found (fewer v.tokens (g.fits.tokens v.operator v found));
  reached = λ d u there. standing_reached (whole_of c i x) (poorer v burn) v (record { operator = refl; tokens = none v.tokens empty; shares = refl }) found g.reached d u there;
}
  where
    fewer : (t : ℕ) → t ≤ 10 ^ 18 → t - burn ≤ 10 ^ 18
    fewer t h = omega (arith, h)

    none : (t : ℕ) → t ≡ 0 → t - burn ≡ t
    none t h = omega (arith, h)

-- one with tokens burns some of them, behind the end of the period
pub burnt_going : (c : Stakes) (i : Window) (x : World Staked Shared) (v : Validator) (burn : ℕ) (denom : List ℕ) (z : ℕ × Shared × View × Log) → Going c i x → validator_at x.mine v.operator ≡ Some v
    → 0 < v.tokens → burn ≤ v.tokens → ended v x.hooks x.view ≡ Ok z → Going c i (burnt_with v burn denom (slash_noted v burn z x))
burnt_going c i x v burn denom z g found some within ends =
    let w : State = whole_of c i x in
    let fraction : ℕ = slash_fraction burn v.tokens in
    let few : v.tokens ≤ 10 ^ 18 = g.fits.tokens v.operator v found in
    let may : MayLose w v burn z = record { found = found; ready = ready_fits w v.operator v g.fits found; ends = ends; some = some; few = few; within = within } in
    record {
      fits = put_fits nobody x.mine (event_put v fraction z) v (poorer v burn) (event_fits x.mine x.hooks x.view v fraction z g.fits found ends) found (fewer v.tokens few);
      reached = λ d u there. slashed_reached w v burn z (burnt (pool_of v.status) denom burn (noted (fact.Slashed v.operator fraction burn) z.2)) may refl g.reached d u there;
    }
  where
    fewer : (t : ℕ) → t ≤ 10 ^ 18 → t - burn ≤ 10 ^ 18
    fewer t h = omega (arith, h)
