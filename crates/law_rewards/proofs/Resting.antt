-- By the log, the rewards of a delegator run exactly where a start of it stands.
use Rattle.std.proofs.Common.{◌≡◌, ◌≢◌, ℕ, ◌*◌, ◌<◌, Bool, true, false, cond, List, [], ◌∷◌, length, refl, sym, ap, subst, ◌∙◌, Option, Some, None, is_some, slice_get}
use Rattle.std.specs.List.{AllByRecursion}
use Rattle.base_coins.specs.Coins.{Money}
use Rattle.base_shares.specs.{Burns.ratio_of, Shares.value_cut_of}
use Rattle.base_roles.specs.{declared.entities.{StartingInfo.StartingInfo, Validator.Validator}, Orders.same_addr}
use Rattle.base_roles.specs.Staked.{validator_at, delegation}
use Rattle.base_roles.specs.Log as log
use Rattle.rule_modules.specs.{Chain.State, Ideal.{span_of, history_of}, Periods.start_of, Slashing.slash_fraction}
use Rattle.law_rewards.specs.Account.{Start, Account, Deed, IsReached, IsFitting, AreFitting, account_after, account_of, new_account, period_closed, start_made, owner_of}
use Rattle.law_rewards.specs.{States.{starts_in, account_in, AreReached}, WithdrawalLaws.RewardsRunWhereHeld}
use Rattle.law_rewards.proofs.{Lists.{all_put_back, all_before, some_at}, Following.{now_is, own_addr, other_addr}}
use Rattle.law_rewards.proofs.{Reached.reached_spans, Claims.{IsReady, ready_in, own_start, some_of}}
use Rattle.law_rewards.proofs.Hooked.{none_of, nobody_started}
use Rattle.law_rewards.specs.Account as deed

-- ---- one account

-- who has no start has no span
abbrev Rests : Account → Type 0
Rests a = (who : List ℕ) → AllByRecursion (λ s. who ≢ s.who) a.starts → span_of who a.history None ≡ None

rests_ended : (a : Account) (increment ratio : Money) → Rests a → Rests (period_closed increment ratio a)
rests_ended a increment ratio r who apart = now_is who a.history (log.ended a.periods.current increment a.tokens) None (r who apart)

apart_of : (a b : List ℕ) → same_addr a b ≡ false → b ≢ a
apart_of a b e h = true_not_false (sym (own_addr a) ∙ ap (same_addr a) (sym h) ∙ e)
  where
    true_not_false : true ≡ false → ⊥
    true_not_false k = cc

rests_begun : (d : List ℕ) (a : Account) (place : ℕ) (owner : List ℕ) (shares : ℕ) → Rests a → Rests (account_after d a (deed.beginning place owner shares))
rests_begun d a place owner shares r who apart =
    let parts : (who ≢ owner) × AllByRecursion (λ s. who ≢ s.who) a.starts = all_before (λ s. who ≢ s.who) (start_made a owner shares) place a.starts apart in
    now_is who a.history (log.started owner shares a.tokens a.shares (value_cut_of a.tokens a.shares shares)) None (r who parts.1)
    ∙ ap (λ b. cond b (Some (record { first = ratio_of (shares * a.tokens) a.shares; entries = [] })) None) (other_addr owner who (λ e. parts.0 (sym e)))

rests_paid : (d : List ℕ) (a : Account) (place : ℕ) (payee : List ℕ) (full outstanding : Money) → place < length a.starts → Rests a → Rests (account_after d a (deed.payment place payee full outstanding))
rests_paid d a place payee full outstanding within r who apart =
    let gone : (s : Start) × (slice_get a.starts place ≡ Some s) = some_at place a.starts within in
    let owner : List ℕ = owner_of (slice_get a.starts place) in
    let is : owner ≡ gone.0.who = ap owner_of gone.1 in
    now_is who a.history (log.withdrawn owner payee full outstanding) (span_of who a.history None) refl ∙ by gone.0 gone.1 is (same_addr owner who) refl
  where
    by : (s : Start) → slice_get a.starts place ≡ Some s → owner_of (slice_get a.starts place) ≡ s.who → (b : Bool) → same_addr (owner_of (slice_get a.starts place)) who ≡ b
        → cond (same_addr (owner_of (slice_get a.starts place)) who) None (span_of who a.history None) ≡ None
    by s there is true same = ap (λ b. cond b None (span_of who a.history None)) same
    by s there is false same =
        ap (λ b. cond b None (span_of who a.history None)) same
        ∙ r who (all_put_back (λ t. who ≢ t.who) place s a.starts there (λ e. apart_of (owner_of (slice_get a.starts place)) who same (e ∙ sym is)) apart)

rests_after : (d : List ℕ) (a : Account) (act : Deed) → IsFitting d a act → Rests a → Rests (account_after d a act)
rests_after d a (deed.block height) fit r = r
rests_after d a (deed.allocation commission share rest) fit r = λ who apart. now_is who a.history (log.allocated share rest a.tokens) None (r who apart)
rests_after d a (deed.ending increment ratio) fit r = rests_ended a increment ratio r
rests_after d a (deed.slash burn increment ratio) fit r = λ who apart.
    let c : Account = period_closed increment ratio a in
    now_is who c.history (log.slashed burn a.tokens (slash_fraction burn a.tokens)) None (rests_ended a increment ratio r who apart)
rests_after d a (deed.issue amount issued) fit r = r
rests_after d a (deed.removal part) fit r = λ who apart. now_is who a.history log.left None (r who apart)
rests_after d a (deed.beginning place owner shares) fit r = rests_begun d a place owner shares r
rests_after d a (deed.payment place payee full outstanding) fit r = rests_paid d a place payee full outstanding fit.within r
rests_after d a (deed.commission_payment coins) fit r = λ who apart. now_is who a.history (log.commission coins) None (r who apart)

rests_all : (d : List ℕ) (deeds : List Deed) (a : Account) → AreFitting d a deeds → Rests a → Rests (account_of d a deeds)
rests_all d [] a fit r = r
rests_all d (act ∷ deeds) a fit r = rests_all d deeds _ fit.1 (rests_after d a act fit.0 r)

pub reached_rests : (d : List ℕ) (a : Account) → IsReached d a → (who : List ℕ) → AllByRecursion (λ s. who ≢ s.who) a.starts → span_of who a.history None ≡ None
reached_rests d a r = subst Rests r.is (rests_all d r.deeds (new_account r.height) r.fitting (λ who apart. refl))

-- ---- the account of a validator in a state

pub rests_in : (w : State) (v : Validator) (who : List ℕ) → AreReached w → validator_at w.mine.staked v.operator ≡ Some v → AllByRecursion (λ s. who ≢ s.who) (starts_in w.mine.staked w.hooks.0.rewards v.operator)
    → span_of who (history_of v.operator w.log []) None ≡ None
rests_in w v who reached found apart = reached_rests [] (account_in [] w v) (reached [] v found) who apart

pub runs_where_held : (w : State) (who : List ℕ) (v : Validator) → IsReady w v.operator → AreReached w → validator_at w.mine.staked v.operator ≡ Some v
    → is_some (span_of who (history_of v.operator w.log []) None) ≡ is_some (delegation w.mine.staked who v.operator)
runs_where_held w who v ready reached found = by (delegation w.mine.staked who v.operator) refl
  where
    by : (o : Option ℕ) → delegation w.mine.staked who v.operator ≡ o → is_some (span_of who (history_of v.operator w.log []) None) ≡ is_some o
    by None held =
        let nobody : start_of w.hooks.0.rewards who v.operator ≡ None = none_of (start_of w.hooks.0.rewards who v.operator) (ready.starts who ∙ ap is_some held) in
        ap is_some (rests_in w v who reached found (nobody_started w.mine.staked who v.operator w.hooks.0.rewards.starts nobody))
    by (Some shares) held =
        let some : (info : StartingInfo) × (start_of w.hooks.0.rewards who v.operator ≡ Some info) = some_of (start_of w.hooks.0.rewards who v.operator) (ready.starts who ∙ ap is_some held) in
        own_start w v who some.0 (λ s. is_some (span_of s.who (history_of v.operator w.log []) None) ≡ true) some.1 (reached_spans [] (account_in [] w v) (reached [] v found))

pub rewards_run_where_held : RewardsRunWhereHeld
rewards_run_where_held = λ w who v sound reached found. runs_where_held w who v (ready_in w v.operator sound) reached found
