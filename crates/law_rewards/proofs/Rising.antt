-- The last ratio of a reached account is all increments of its history together.
use Rattle.std.proofs.Common.{◌≡◌, ℕ, ◌+◌, ◌<◌, List, [], ◌∷◌, ◌++◌, map, refl, arith, subst, slice_get}
use Rattle.base_coins.specs.Coins.{Money}
use Rattle.base_roles.specs.Log.{LogEntry}
use Rattle.base_roles.specs.Log as log
use Rattle.base_shares.specs.Shares.{value_cut_of}
use Rattle.rule_modules.specs.{Periods.last_ended, Slashing.slash_fraction}
use Rattle.law_rewards.specs.Account.{Account, Deed, IsReached, IsFitting, AreFitting, IsNextRatio, account_after, account_of, new_account, period_closed, ratio_in, start_made, owner_of}
use Rattle.law_rewards.{specs.Withdrawals.{risen, raised_in}, proofs.{Lists.sum_more, Following.last_ratio}}
use Rattle.law_rewards.specs.Account as deed

-- one more entry
raised_behind : (d : List ℕ) (es : List LogEntry) (e : LogEntry) → raised_in d (es ++ e ∷ []) ≡ raised_in d es + risen d e
raised_behind d [] e = omega (arith, sum_more (risen d e) [])
raised_behind d (x ∷ es) e = omega (arith, sum_more (risen d x) (map (risen d) es), sum_more (risen d x) (map (risen d) (es ++ e ∷ [])), raised_behind d es e)

-- an entry that raises nothing
raised_still : (d : List ℕ) (es : List LogEntry) (e : LogEntry) → risen d e ≡ 0 → raised_in d (es ++ e ∷ []) ≡ raised_in d es
raised_still d es e none = omega (arith, raised_behind d es e, none)

record IsRaised (d : List ℕ) (a : Account) : Type 0 where
  some : 0 < a.periods.current
  is : ratio_in d a.periods (last_ended a.periods) ≡ raised_in d a.history

raised_ended : (d : List ℕ) (a : Account) (increment ratio : Money) → IsNextRatio d a increment ratio → IsRaised d a → IsRaised d (period_closed increment ratio a)
raised_ended d a increment ratio next r = record {
  some = omega arith;
  is = omega (arith, last_ratio d a increment ratio r.some next, next.increment_is, raised_behind d a.history (log.ended a.periods.current increment a.tokens), r.is);
}

raised_after : (d : List ℕ) (a : Account) (act : Deed) → IsFitting d a act → IsRaised d a → IsRaised d (account_after d a act)
raised_after d a (deed.block height) fit r = record { some = r.some; is = r.is }
raised_after d a (deed.allocation commission share rest) fit r = record { some = r.some; is = omega (arith, raised_still d a.history (log.allocated share rest a.tokens) refl, r.is) }
raised_after d a (deed.ending increment ratio) fit r = raised_ended d a increment ratio fit r
raised_after d a (deed.slash burn increment ratio) fit r =
    let c : Account = period_closed increment ratio a in
    let k : IsRaised d c = raised_ended d a increment ratio fit.0 r in
    record { some = k.some; is = omega (arith, raised_still d c.history (log.slashed burn a.tokens (slash_fraction burn a.tokens)) refl, k.is) }
raised_after d a (deed.issue amount issued) fit r = record { some = r.some; is = r.is }
raised_after d a (deed.removal part) fit r = record { some = r.some; is = omega (arith, raised_still d a.history log.left refl, r.is) }
raised_after d a (deed.beginning place who shares) fit r =
    record { some = r.some; is = omega (arith, raised_still d a.history (log.started who shares a.tokens a.shares (value_cut_of a.tokens a.shares shares)) refl, r.is) }
raised_after d a (deed.payment place payee full outstanding) fit r =
    record { some = r.some; is = omega (arith, raised_still d a.history (log.withdrawn (owner_of (slice_get a.starts place)) payee full outstanding) refl, r.is) }
raised_after d a (deed.commission_payment coins) fit r = record { some = r.some; is = omega (arith, raised_still d a.history (log.commission coins) refl, r.is) }

raised_all : (d : List ℕ) (deeds : List Deed) (a : Account) → AreFitting d a deeds → IsRaised d a → IsRaised d (account_of d a deeds)
raised_all d [] a fit r = r
raised_all d (act ∷ deeds) a fit r = raised_all d deeds _ fit.1 (raised_after d a act fit.0 r)

pub raised_reached : (d : List ℕ) (a : Account) → IsReached d a → ratio_in d a.periods (last_ended a.periods) ≡ raised_in d a.history
raised_reached d a r = (subst (IsRaised d) r.is (raised_all d r.deeds (new_account r.height) r.fitting (record { some = omega arith; is = refl }))).is
