-- What is outstanding in a reached account is what its history comes to; so in a state.
use Rattle.std.proofs.Common.{◌≡◌, ℕ, ◌+◌, ◌-◌, List, [], ◌∷◌, ◌++◌, refl, arith, sym, ap, subst, ◌∙◌, Option, Some, None, min, slice_get}
use Rattle.base_coins.specs.Coins.{Money, amount_of}
use Rattle.base_shares.specs.Shares.{value_cut_of}
use Rattle.base_roles.specs.Log.{LogEntry}
use Rattle.base_roles.specs.Log as log
use Rattle.rule_modules.specs.Slashing.{slash_fraction}
use Rattle.law_rewards.specs.Account.{Start, Account, Deed, IsReached, IsFitting, AreFitting, account_after, account_of, new_account, period_closed, owner_of, full_of, payment_of}
use Rattle.law_rewards.specs.States.{account_in}
use Rattle.law_rewards.specs.Withdrawals.{Outstanding, none_outstanding, outstanding_after, outstanding_over, outstanding_in}
use Rattle.law_rewards.specs.WithdrawalLaws.{OutstandingIsLogged}
use Rattle.law_rewards.specs.Account as deed

-- one more entry
outstanding_behind : (d : List ℕ) (o : Outstanding) (es : List LogEntry) (e : LogEntry) → outstanding_over d o (es ++ e ∷ []) ≡ outstanding_after d (outstanding_over d o es) e
outstanding_behind d o [] e = refl
outstanding_behind d o (f ∷ es) e = outstanding_behind d (outstanding_after d o f) es e

abbrev left_in : Account → Outstanding
left_in a = record { all = a.outstanding; current = a.current }

abbrev IsTold : List ℕ → Account → Type 0
IsTold d a = outstanding_over d none_outstanding a.history ≡ left_in a

told_behind : (d : List ℕ) (a : Account) (e : LogEntry) → IsTold d a → outstanding_over d none_outstanding (a.history ++ e ∷ []) ≡ outstanding_after d (left_in a) e
told_behind d a e t = outstanding_behind d none_outstanding a.history e ∙ ap (λ o. outstanding_after d o e) t

told_ended : (d : List ℕ) (a : Account) (increment ratio : Money) → IsTold d a → IsTold d (period_closed increment ratio a)
told_ended d a increment ratio t = told_behind d a (log.ended a.periods.current increment a.tokens) t

paid_is : (d : List ℕ) (a : Account) (o : Option Start) (n : ℕ) → n ≡ full_of d a o → min n a.outstanding ≡ payment_of d a o
paid_is d a None n e = omega (arith, e)
paid_is d a (Some s) n e = ap (λ m. min m a.outstanding) e

told_after : (d : List ℕ) (a : Account) (act : Deed) → IsFitting d a act → IsTold d a → IsTold d (account_after d a act)
told_after d a (deed.block height) fit t = t
told_after d a (deed.allocation commission share rest) fit t =
    told_behind d a (log.allocated share rest a.tokens) t
    ∙ ap (λ n. let o : Outstanding = record { all = a.outstanding + n; current = a.current + amount_of rest d } in o) (sym fit.0)
told_after d a (deed.ending increment ratio) fit t = told_ended d a increment ratio t
told_after d a (deed.slash burn increment ratio) fit t =
    told_behind d (period_closed increment ratio a) (log.slashed burn a.tokens (slash_fraction burn a.tokens)) (told_ended d a increment ratio t)
told_after d a (deed.issue amount issued) fit t = t
told_after d a (deed.removal part) fit t = told_behind d a log.left t
told_after d a (deed.beginning place who shares) fit t = told_behind d a (log.started who shares a.tokens a.shares (value_cut_of a.tokens a.shares shares)) t
told_after d a (deed.payment place payee full outstanding) fit t =
    told_behind d a (log.withdrawn (owner_of (slice_get a.starts place)) payee full outstanding) t
    ∙ ap (λ n. let o : Outstanding = record { all = a.outstanding - n; current = a.current } in o) (paid_is d a (slice_get a.starts place) (amount_of full d) fit.full_is)
told_after d a (deed.commission_payment coins) fit t = told_behind d a (log.commission coins) t

told_all : (d : List ℕ) (deeds : List Deed) (a : Account) → AreFitting d a deeds → IsTold d a → IsTold d (account_of d a deeds)
told_all d [] a fit t = t
told_all d (act ∷ deeds) a fit t = told_all d deeds _ fit.1 (told_after d a act fit.0 t)

pub outstanding_reached : (d : List ℕ) (a : Account) → IsReached d a → a.outstanding ≡ outstanding_in d a.history
outstanding_reached d a r = sym (ap (λ o. o.all) (subst (IsTold d) r.is (told_all d r.deeds (new_account r.height) r.fitting refl)))

pub outstanding_is_logged : OutstandingIsLogged
outstanding_is_logged = λ w d v reached found. outstanding_reached d (account_in d w v) (reached d v found)
