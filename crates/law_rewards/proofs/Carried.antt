-- What distribution's own rules carry on, of its records and the log, all hooks carry on, and so do the rules of staking that call them.
use Rattle.std.proofs.Common.{◌≡◌, ℕ, ◌+◌, ◌-◌, ◌==◌, Bool, true, false, List, [], ◌∷◌, ◌++◌, refl, sym, ap, subst, Option, Some, None, Result, Ok, Err, append-nil, append_assoc, unwrap_or, ◌&&◌, ◌||◌, if◌then◌else◌}
use Rattle.base_decimals.specs.declared.over.Over.{Over}
use Rattle.base_coins.specs.Coins.{Money}
use Rattle.base_shares.specs.Shares.{amount_out}
use Rattle.base_roles.specs.declared.{entities.Validator.Validator, refusal.Refusal.{Refusal, TheVariants.Overflow}}
use Rattle.base_roles.specs.{Log.{Log, LogEntry}, Staked.{Staked, delegation, put_validator, is_unbonded}}
use Rattle.base_roles.specs.Flow.{◌>>=◌, stopping}
use Rattle.base_roles.specs.World.{View, Told, gives, World, call, noted, over_view, over_mine, logged}
use Rattle.base_roles.specs.declared.calls.Hook.{Hook, TheVariants.{Modifying as modifying, Modified as modified}}
use Rattle.base_roles.specs.declared.facts.Fact.TheVariants as fact
use Rattle.base_roles.specs.Log as log
use Rattle.base_roles.specs.declared.calls.Hook.TheVariants as hook
use Rattle.rule_modules.specs.Chain.{Hooks, chain_told}
use Rattle.rule_modules.specs.Delegating.{Origin, shares_given, paid_in, hook_before, delegated}
use Rattle.rule_modules.specs.Distribution.{Shared, distribution_told, ended, started, current_taken, reward_withdrawn, slash_recorded, records_removed, records_made, payee_of, told_of, unlogged}
use Rattle.rule_modules.specs.Periods.{Periods, periods_of, start_of, without_start, period_ended, last_ended}
use Rattle.rule_modules.specs.Purses.{Purses, purse_of, closed}
use Rattle.rule_modules.specs.Stakes.{put_delegation, without_shares, without_validator}
use Rattle.rule_modules.specs.Unbonding.{put_in_jail, falls_below_minimum, left_standing, removed_if_empty, validator_removed, unbonded_shares}
use Rattle.rule_modules.proofs.SlashParts.{event_put}
use Rattle.law_rewards.proofs.{Denominations.step_parts, Beginnings.went_on, Quiet.same_ok}
use Rattle.law_rewards.proofs.Hooked.{IsIdle, hook_gave, call_parts, same_told, answer_of, before_is_idle}
use Rattle.law_rewards.proofs.{Growing.{more_of, more_world, behind_hook}, Leaving.less_of}
use Rattle.law_rewards.proofs.{Undelegating.{left_then, leaving}, Slashing.{recorded_parts, rule_told}}
use Rattle.law_rewards.proofs.{Withdrawing.{IsMade, made_is}, Paying.ended_with, Staking.removed_with}

-- an entry that neither makes a validator nor starts or withdraws a reward
abbrev pub IsPlain : LogEntry → Type 0
IsPlain log.made = ⊥
IsPlain (log.started who shares tokens all stake) = ⊥
IsPlain (log.withdrawn who payee full outstanding) = ⊥
IsPlain _ = Unit {0}

-- What distribution's own rules carry on, of its records and the log: plain entries do; so do records whose starts and payees stay;
-- a start, a withdrawal, which is logged with the payee of then, and the records of a validator where no start stands.
pub record IsCarried (Q : Shared → Log → Type 0) : Type 0 where
  pub plain : (d : Shared) (l : Log) (op : List ℕ) (e : LogEntry) → IsPlain e → Q d l → Q d (l ++ (op, e) ∷ [])
  pub same : (d c : Shared) (l : Log) → c.rewards.starts ≡ d.rewards.starts → c.withdraw ≡ d.withdraw → Q d l → Q c l
  pub starts : (v : Validator) (who : List ℕ) (shares : ℕ) (d : Shared) (u : View) (l : Log) → Q d l → Q (started v who shares d u).0 (l ++ (started v who shares d u).2)
  pub goes : (d : Shared) (purses : Purses) (l : Log) (who op : List ℕ) (full outstanding : Money) → Q d l
      → Q (record d { rewards = without_start who op d.rewards; purses = purses }) (l ++ (op, log.withdrawn who (payee_of d who) full outstanding) ∷ [])
  pub makes : (v : Validator) (d : Shared) (l : Log) → ((who : List ℕ) → start_of d.rewards who v.operator ≡ None) → Q d l → Q (records_made v d) (l ++ (v.operator, log.made) ∷ [])

-- a validator is created only where no start stands
abbrev pub MayTell : Shared → Hook → Type 0
MayTell d (hook.Created v) = (who : List ℕ) → start_of d.rewards who v.operator ≡ None
MayTell d _ = Unit {0}

before_may : (d : Shared) (v : Validator) (who : List ℕ) (held : Option ℕ) → MayTell d (hook_before v who held)
before_may d v who None = tt
before_may d v who (Some shares) = tt

module _ (Q : Shared → Log → Type 0) (carries : IsCarried Q) where
  -- nothing more in the log
  pub nothing_logged : (d : Shared) (l : Log) → Q d l → Q d (l ++ [])
  nothing_logged d l r = subst (λ m. Q d m) (sym (append-nil l)) r

  -- ---- the end of a period, and a withdrawal

  pub ended_kept : (v : Validator) (d : Shared) (u : View) (z : ℕ × Shared × View × Log) (l : Log) → ended v d u ≡ Ok z → Q d l → Q z.1 (l ++ z.3)
  ended_kept v d u z l e r =
      let p : Periods = periods_of d.rewards v.operator in
      let one : (t : Money × Money × Purses) × (current_taken v d.purses ≡ Ok t) × ((period_ended t.0 p >>= λ q. Ok (ended_with v d u t q)) ≡ Ok z) =
      step_parts (current_taken v d.purses) (λ t. period_ended t.0 p >>= λ q. Ok (ended_with v d u t q)) z e in
      let t : Money × Money × Purses = one.0 in
      let two : (q : Money × Periods) × (period_ended t.0 p ≡ Ok q) × (Path (Result (ℕ × Shared × View × Log) Over) (Ok (ended_with v d u t q)) (Ok z)) =
      step_parts (period_ended t.0 p) (λ q. Ok (ended_with v d u t q)) z one.2 in
      let out : ℕ × Shared × View × Log = ended_with v d u t two.0 in
      subst (λ (q : ℕ × Shared × View × Log). Q q.1 (l ++ q.3)) (same_ok out z two.2)
      (carries.plain out.1 l v.operator (log.ended (last_ended two.0.1) t.0 v.tokens) tt (carries.same d out.1 l refl refl r))

  pub withdrawn_kept : (v : Validator) (who : List ℕ) (shares : ℕ) (d : Shared) (u : View) (y : Money × Shared × View × Log) (l : Log) → reward_withdrawn v who shares d u ≡ Ok y → Q d l → Q y.1 (l ++ y.3)
  withdrawn_kept v who shares d u y l e r =
      let k : IsMade v who shares d u y = made_is v who shares d u y e in
      let c : Shared = k.z.1 in
      let left : Money = (purse_of c.purses v.operator).outstanding in
      let m : Log = (v.operator, log.withdrawn who (payee_of c who) k.full left) ∷ [] in
      let new : Shared = record c { rewards = without_start who v.operator c.rewards; purses = k.paid.1 } in
      let gone : Q new ((l ++ k.z.3) ++ m) = carries.goes c k.paid.1 (l ++ k.z.3) who v.operator k.full left (ended_kept v d u k.z l k.ends r) in
      subst (λ (q : Money × Shared × View × Log). Q q.1 (l ++ q.3)) (sym k.answer_is) (subst (λ n. Q new n) (append_assoc l k.z.3 m) gone)

  -- ---- the hooks

  given_kept : (d c : Shared) (u v : View) (k m l : Log) → Path (Told Shared) (gives d u k) (gives c v m) → Q d (l ++ k) → Q c (l ++ m)
  given_kept d c u v k m l e r =
      let same : (d ≡ c) × (u ≡ v) × (k ≡ m) = same_told d c u v k m e in
      subst (λ n. Q c (l ++ n)) same.2 (subst (λ s. Q s (l ++ k)) same.0 r)

  removed_kept : (v : Validator) (d : Shared) (u : View) (z : Shared × View × Log) (l : Log) → told_of (unlogged (records_removed v d u)) ≡ gives z.0 z.1 z.2 → Q d l → Q z.0 (l ++ z.2)
  removed_kept v d u z l h r = by (closed v.operator d.purses) h
    where
      by : (q : Result (Money × Money × Purses) Over) → told_of (unlogged (q >>= λ y. Ok (removed_with v d u y))) ≡ gives z.0 z.1 z.2 → Q z.0 (l ++ z.2)
      by (Ok y) e =
          let out : Shared × View = removed_with v d u y in
          given_kept out.0 z.0 out.1 z.1 [] z.2 l e (nothing_logged out.0 l (carries.same d out.0 l refl refl r))
      by (Err over) e = absurd cc

  pub told_kept : (h : Hook) (d : Shared) (u : View) (z : Shared × View × Log) (l : Log) → MayTell d h → distribution_told d h u ≡ gives z.0 z.1 z.2 → Q d l → Q z.0 (l ++ z.2)
  told_kept (hook.Created v) d u z l m e r = given_kept (records_made v d) z.0 u z.1 ((v.operator, log.made) ∷ []) z.2 l e (carries.makes v d l m r)
  told_kept (hook.Removed v) d u z l m e r = removed_kept v d u z l e r
  told_kept (hook.Bonded v) d u z l m e r = given_kept d z.0 u z.1 [] z.2 l e (nothing_logged d l r)
  told_kept (hook.Starting v who) d u z l m e r =
      let end : (p : ℕ) × (ended v d u ≡ Ok (p, z.0, z.1, z.2)) = answer_of (ended v d u) z e in
      ended_kept v d u (end.0, z.0, z.1, z.2) l end.1 r
  told_kept (hook.Modifying v who shares) d u z l m e r =
      let end : (coins : Money) × (reward_withdrawn v who shares d u ≡ Ok (coins, z.0, z.1, z.2)) = answer_of (reward_withdrawn v who shares d u) z e in
      withdrawn_kept v who shares d u (end.0, z.0, z.1, z.2) l end.1 r
  told_kept (hook.Modified v who shares) d u z l m e r =
      let s : Shared × View × Log = started v who shares d u in
      given_kept s.0 z.0 s.1 z.1 s.2 z.2 l e (carries.starts v who shares d u l r)
  told_kept (hook.Slashing v fraction) d u z l m e r =
      let parts : (y : ℕ × Shared × View × Log) × (ended v d u ≡ Ok y) × ((event_put v fraction y, y.2, y.3) ≡ z) = recorded_parts v fraction d u z (rule_told (slash_recorded v fraction d u) z e) in
      let y : ℕ × Shared × View × Log = parts.0 in
      subst (λ (q : Shared × View × Log). Q q.0 (l ++ q.2)) parts.2 (carries.same y.1 (event_put v fraction y) (l ++ y.3) refl refl (ended_kept v d u y l parts.1 r))

  -- so it is in a world of staking, with the window beside distribution
  abbrev pub CarriedIn : World Staked Hooks → Type 0
  CarriedIn w = Q w.hooks.0 w.log

  pub call_kept : (h : Hook) (w y : World Staked Hooks) → IsIdle w h → MayTell w.hooks.0 h → call chain_told h w ≡ Ok y → CarriedIn w → CarriedIn y
  call_kept h w y idle m e r =
      let told : (z : Shared × View × Log) × (distribution_told w.hooks.0 h w.view ≡ gives z.0 z.1 z.2) × (hook_gave w z ≡ y) = call_parts h w y idle e in
      subst CarriedIn told.2 (told_kept h w.hooks.0 w.view told.0 w.log m told.1 r)

  -- ---- delegating

  behind_kept : (v : Validator) (who : List ℕ) (amount : ℕ) (origin : Origin) (issued held : ℕ) (w1 : World Staked Hooks) (x : ℕ × World Staked Hooks) → behind_hook v who amount origin issued held w1 ≡ Ok x → CarriedIn w1 → CarriedIn x.1
  behind_kept v who amount origin issued held w1 x e r =
      let g : Validator = more_of v amount issued in
      let n : ℕ = held + issued in
      let one : (u : View) × (paid_in origin who v.status amount w1.view ≡ Ok u) × ((stopping Overflow (call chain_told (modified g who n) (more_world w1 v who amount issued held u)) >>= λ w3. Ok (issued, w3)) ≡ Ok x) =
      step_parts (paid_in origin who v.status amount w1.view) (λ u. stopping Overflow (call chain_told (modified g who n) (more_world w1 v who amount issued held u)) >>= λ w3. Ok (issued, w3)) x e in
      let w2 : World Staked Hooks = more_world w1 v who amount issued held one.0 in
      let two : (w3 : World Staked Hooks) × (stopping Overflow (call chain_told (modified g who n) w2) ≡ Ok w3) × (Path (Result (ℕ × World Staked Hooks) Refusal) (Ok (issued, w3)) (Ok x)) =
      step_parts (stopping Overflow (call chain_told (modified g who n) w2)) (λ w3. Ok (issued, w3)) x one.2 in
      subst CarriedIn (ap (λ a. a.1) (same_ok (issued, two.0) x two.2))
      (call_kept (modified g who n) w2 two.0 (λ u. refl) tt (went_on Overflow (call chain_told (modified g who n) w2) two.0 two.1) r)

  pub delegated_kept : (v : Validator) (who : List ℕ) (amount : ℕ) (origin : Origin) (w : World Staked Hooks) (x : ℕ × World Staked Hooks) → delegated chain_told v who amount origin w ≡ Ok x → CarriedIn w → CarriedIn x.1
  delegated_kept v who amount origin w x e r =
      let held : Option ℕ = delegation w.mine who v.operator in
      let before : Result (World Staked Hooks) Refusal = stopping Overflow (call chain_told (hook_before v who held) w) in
      let one : (issued : ℕ) × (shares_given v amount ≡ Ok issued) × ((before >>= λ w1. behind_hook v who amount origin issued (unwrap_or held 0) w1) ≡ Ok x) =
      step_parts (shares_given v amount) (λ issued. before >>= λ w1. behind_hook v who amount origin issued (unwrap_or held 0) w1) x e in
      let two : (w1 : World Staked Hooks) × (before ≡ Ok w1) × (behind_hook v who amount origin one.0 (unwrap_or held 0) w1 ≡ Ok x) =
      step_parts before (λ w1. behind_hook v who amount origin one.0 (unwrap_or held 0) w1) x one.2 in
      behind_kept v who amount origin one.0 (unwrap_or held 0) two.0 x two.2
      (call_kept (hook_before v who held) w two.0 (before_is_idle w v who held) (before_may w.hooks.0 v who held) (went_on Overflow (call chain_told (hook_before v who held) w) two.0 two.1) r)

  -- ---- unbonding, and a validator that goes

  pub emptied_kept : (v : Validator) (x y : World Staked Hooks) → removed_if_empty chain_told v x ≡ Ok y → CarriedIn x → CarriedIn y
  emptied_kept v x y e r = by (is_unbonded v.status && (v.shares == 0)) e
    where
      by : (b : Bool) → (if b then validator_removed chain_told v x else Ok x) ≡ Ok y → CarriedIn y
      by true h =
          let w : World Staked Hooks = over_mine (without_validator v.operator) x in
          let one : (t : World Staked Hooks) × (call chain_told (hook.Removed v) w ≡ Ok t) × (Path (Result (World Staked Hooks) Over) (Ok (over_view (noted (fact.Removed v.operator)) t)) (Ok y)) =
          step_parts (call chain_told (hook.Removed v) w) (λ t. Ok (over_view (noted (fact.Removed v.operator)) t)) y h in
          subst CarriedIn (same_ok (over_view (noted (fact.Removed v.operator)) one.0) y one.2) (call_kept (hook.Removed v) w one.0 (λ u. refl) tt one.1 r)
      by false h = subst CarriedIn (same_ok x y h) r

  left_kept : (v : Validator) (who : List ℕ) (left : ℕ) (x y : World Staked Hooks) → left_standing chain_told v who left x ≡ Ok y → CarriedIn x → CarriedIn y
  left_kept v who left x y e r = by (left == 0) e
    where
      by : (b : Bool) → (if b then Ok (over_mine (without_shares who v.operator) x) else call chain_told (modified v who left) (over_mine (put_delegation who v.operator left) x)) ≡ Ok y → CarriedIn y
      by true h = subst CarriedIn (same_ok (over_mine (without_shares who v.operator) x) y h) r
      by false h = call_kept (modified v who left) (over_mine (put_delegation who v.operator left) x) y (λ u. refl) tt h r

  leaving_kept : (v : Validator) (j : Bool) (who : List ℕ) (held part : ℕ) (x : World Staked Hooks) (y : ℕ × World Staked Hooks) → leaving v j who held part x ≡ Ok y → CarriedIn x → CarriedIn y.1
  leaving_kept v j who held part x y e r =
      let less : Validator = less_of v j part in
      let one : (w2 : World Staked Hooks) × (left_standing chain_told (record v { jailed = j }) who (held - part) x ≡ Ok w2) × (left_then v j part w2 ≡ Ok y) =
      step_parts (left_standing chain_told (record v { jailed = j }) who (held - part) x) (λ w2. left_then v j part w2) y e in
      let w2 : World Staked Hooks = logged v.operator log.left (over_mine (put_validator less) one.0) in
      let two : (w3 : World Staked Hooks) × (removed_if_empty chain_told less w2 ≡ Ok w3) × (Path (Result (ℕ × World Staked Hooks) Over) (Ok (amount_out v.tokens v.shares part, w3)) (Ok y)) =
      step_parts (removed_if_empty chain_told less w2) (λ w3. Ok (amount_out v.tokens v.shares part, w3)) y one.2 in
      let stood : CarriedIn one.0 = left_kept (record v { jailed = j }) who (held - part) x one.0 one.1 r in
      let fewer : CarriedIn w2 = carries.plain one.0.hooks.0 one.0.log v.operator log.left tt stood in
      subst CarriedIn (ap (λ a. a.1) (same_ok (amount_out v.tokens v.shares part, two.0) y two.2)) (emptied_kept less w2 two.0 two.1 fewer)

  pub unbonded_kept : (v : Validator) (who : List ℕ) (held part : ℕ) (w : World Staked Hooks) (y : ℕ × World Staked Hooks) → unbonded_shares chain_told v who held part w ≡ Ok y → CarriedIn w → CarriedIn y.1
  unbonded_kept v who held part w y e r =
      let falls : Bool = falls_below_minimum v who (held - part) in
      let rest : World Staked Hooks → Result (ℕ × World Staked Hooks) Over = λ w1. leaving v (v.jailed || falls) who held part (if falls then put_in_jail v w1 else w1) in
      let one : (w1 : World Staked Hooks) × (call chain_told (modifying v who held) w ≡ Ok w1) × (rest w1 ≡ Ok y) = step_parts (call chain_told (modifying v who held) w) rest y e in
      by one.0 falls (call_kept (modifying v who held) w one.0 (λ u. refl) tt one.1 r) one.2
    where
      by : (w1 : World Staked Hooks) (b : Bool) → CarriedIn w1 → leaving v (v.jailed || b) who held part (if b then put_in_jail v w1 else w1) ≡ Ok y → CarriedIn y.1
      by w1 true k h = leaving_kept v (v.jailed || true) who held part (put_in_jail v w1) y h k
      by w1 false k h = leaving_kept v (v.jailed || false) who held part w1 y h k
