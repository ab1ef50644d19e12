-- What holds of all starts, after each deed.
use Rattle.std.proofs.Common.{◌≡◌, ℕ, zero, suc, ◌+◌, ◌-◌, ◌^◌, ◌<◌, ◌≤◌, ◌≢◌, List, [], ◌∷◌, length, refl, arith, sym, subst, Some, slice_get, insert, remove}
use Rattle.std.specs.List.{AllByRecursion}
use Rattle.base_coins.specs.Coins.{Money, amount_of}
use Rattle.base_roles.specs.declared.entities.SlashEvent.{SlashEvent}
use Rattle.rule_modules.specs.{Periods.last_ended, Slashing.slash_fraction}
use Rattle.law_rewards.specs.Account.{Start, Account, Deed, IsNextRatio, IsFitting, counted_shares, new_account, account_after, period_closed, account_slashed, start_made, owner_of, payment_of}
use Rattle.law_rewards.proofs.Lists.{all_map, all_map_two, all_insert, all_remove, all_behind, all_within, all_at, some_at}
use Rattle.law_rewards.proofs.Following.{Follows, block_follows, allocated, allocation_follows, end_follows, slash_follows, issue_follows, left, removal_follows, begun, other_follows, own_follows, withdrawn_follows, paid_follows}
use Rattle.law_rewards.specs.Account as deed

-- nobody has two starts
abbrev pub AreApart : List Start → Type 0
AreApart [] = Unit {0}
AreApart (s ∷ ss) = AllByRecursion (λ t. s.who ≢ t.who) ss × AreApart ss

apart_insert : (s : Start) (k : ℕ) (ss : List Start) → AllByRecursion (λ t. s.who ≢ t.who) ss → AreApart ss → AreApart (insert ss k s)
apart_insert s zero [] h a = (tt, tt)
apart_insert s (suc k) [] h a = (tt, tt)
apart_insert s zero (x ∷ ss) h a = (h, a)
apart_insert s (suc k) (x ∷ ss) h a = (all_insert (λ t. x.who ≢ t.who) s (λ e. h.0 (sym e)) k ss a.0, apart_insert s k ss h.1 a.1)

apart_remove : (k : ℕ) (ss : List Start) → AreApart ss → AreApart (remove ss k)
apart_remove zero [] a = tt
apart_remove (suc k) [] a = tt
apart_remove zero (x ∷ ss) a = a.1
apart_remove (suc k) (x ∷ ss) a = (all_remove (λ t. x.who ≢ t.who) k ss a.0, apart_remove k ss a.1)

-- a start that goes leaves none of its delegator
pub apart_rest : (s : Start) (k : ℕ) (ss : List Start) → slice_get ss k ≡ Some s → AreApart ss → AllByRecursion (λ t. s.who ≢ t.who) (remove ss k)
apart_rest s k [] is a = absurd cc
apart_rest s zero (x ∷ ss) is a = let same : x ≡ s = cc in subst (λ y. AllByRecursion (λ t. y.who ≢ t.who) ss) same a.0
apart_rest s (suc k) (x ∷ ss) is a = (λ e. all_at (λ t. x.who ≢ t.who) k s ss is a.0 (sym e), apart_rest s k ss is a.1)

pub record Good (d : List ℕ) (a : Account) : Type 0 where
  pub some_period : 0 < a.periods.current
  pub past : AllByRecursion (λ e. e.period < a.periods.current) a.periods.events
  pub follows : AllByRecursion (Follows d a) a.starts
  pub apart : AreApart a.starts

pub good_ended : (d : List ℕ) (a : Account) (increment ratio : Money) → IsNextRatio d a increment ratio → Good d a → Good d (period_closed increment ratio a)
good_ended d a increment ratio next g = record {
  some_period = omega arith;
  past = all_map (λ e. e.period < a.periods.current) (λ e. e.period < a.periods.current + 1) (λ e h. omega arith) a.periods.events g.past;
  follows = all_map (Follows d a) (Follows d (period_closed increment ratio a)) (λ s k. end_follows d a increment ratio s g.some_period g.past next k) a.starts g.follows;
  apart = g.apart;
}

-- a slash is of an account whose period has just ended, so each start is of an earlier one
good_burned : (d : List ℕ) (a : Account) (burn : ℕ) → 0 < a.tokens → a.tokens ≤ 10 ^ 18 → burn ≤ a.tokens → a.current ≡ 0
    → AllByRecursion (λ s. s.info.period < last_ended a.periods) a.starts → Good d a → Good d (account_slashed burn a)
good_burned d a burn some few less none early g =
    let e : SlashEvent = record { height = a.height; period = last_ended a.periods; fraction = slash_fraction burn a.tokens } in
    let some_period : 0 < a.periods.current = g.some_period in record {
      some_period = some_period;
      past = all_behind (λ e. e.period < a.periods.current) a.periods.events e g.past (omega arith);
      follows = all_map_two (Follows d a) (λ s. s.info.period < last_ended a.periods) (Follows d (account_slashed burn a))
          (λ s k h. slash_follows d a burn s some few less none some_period h k) a.starts g.follows early;
      apart = g.apart;
    }

good_slash : (d : List ℕ) (a : Account) (burn : ℕ) (increment ratio : Money) → IsNextRatio d a increment ratio → 0 < a.tokens → a.tokens ≤ 10 ^ 18 → burn ≤ a.tokens → Good d a
    → Good d (account_slashed burn (period_closed increment ratio a))
good_slash d a burn increment ratio next some few less g =
    good_burned d (period_closed increment ratio a) burn some few less refl
    (all_map (Follows d a) (λ s. s.info.period < a.periods.current + 1 - 1) (λ s k. omega (arith, k.early)) a.starts g.follows)
    (good_ended d a increment ratio next g)

-- each start's shares are within all, with a part more
pub within_all : (a : Account) (part : ℕ) → counted_shares a + part ≤ a.shares → AllByRecursion (λ s. s.shares + part ≤ a.shares) a.starts
within_all a part fit = all_map (λ s. s.shares ≤ counted_shares a) (λ s. s.shares + part ≤ a.shares) (λ s h. omega arith) a.starts (all_within (λ s. s.shares) a.starts)

-- the payment of a start, which goes: those of others follow
good_payment : (d : List ℕ) (a : Account) (place : ℕ) (payee : List ℕ) (full outstanding : Money) → place < length a.starts → Good d a → Good d (account_after d a (deed.payment place payee full outstanding))
good_payment d a place payee full outstanding within g =
    let b : Account = account_after d a (deed.payment place payee full outstanding) in
    let who : List ℕ = owner_of (slice_get a.starts place) in
    let gone : (s : Start) × (slice_get a.starts place ≡ Some s) = some_at place a.starts within in
    let others : AllByRecursion (λ t. who ≢ t.who) (remove a.starts place) =
    subst (λ o. AllByRecursion (λ t. owner_of o ≢ t.who) (remove a.starts place)) (sym gone.1) (apart_rest gone.0 place a.starts gone.1 g.apart) in
    record {
      some_period = g.some_period;
      past = g.past;
      follows = all_map_two (Follows d a) (λ t. who ≢ t.who) (Follows d b)
          (λ s k ne. withdrawn_follows d a (a.outstanding - payment_of d a (slice_get a.starts place)) (remove a.starts place) who payee full outstanding s ne k)
          (remove a.starts place) (all_remove (Follows d a) place a.starts g.follows) others;
      apart = apart_remove place a.starts g.apart;
    }

pub good_after : (d : List ℕ) (a : Account) (act : Deed) → IsFitting d a act → Good d a → Good d (account_after d a act)
good_after d a (deed.block height) fit g = record {
  some_period = g.some_period;
  past = g.past;
  follows = all_map (Follows d a) (Follows d (record a { height = height })) (λ s k. block_follows d a height s fit k) a.starts g.follows;
  apart = g.apart;
}
good_after d a (deed.allocation commission share rest) fit g = record {
  some_period = g.some_period;
  past = g.past;
  follows = all_map_two (Follows d a) (λ s. s.info.height < a.height) (Follows d (allocated d a commission share rest)) (λ s k h. allocation_follows d a commission share rest s h k) a.starts g.follows fit.1;
  apart = g.apart;
}
good_after d a (deed.ending increment ratio) fit g = good_ended d a increment ratio fit g
good_after d a (deed.slash burn increment ratio) fit g = good_slash d a burn increment ratio fit.0 fit.1 fit.2 fit.3 g
good_after d a (deed.issue amount issued) fit g = record {
  some_period = g.some_period;
  past = g.past;
  follows = all_map (Follows d a) (Follows d (record a { tokens = a.tokens + amount; shares = a.shares + issued })) (λ s k. issue_follows d a amount issued s fit.0 fit.1 k) a.starts g.follows;
  apart = g.apart;
}
good_after d a (deed.removal part) fit g = record {
  some_period = g.some_period;
  past = g.past;
  follows = all_map_two (Follows d a) (λ s. s.shares + part ≤ a.shares) (Follows d (left a part)) (λ s k h. removal_follows d a part s fit.0 h k) a.starts g.follows (within_all a part fit.2);
  apart = g.apart;
}
good_after d a (deed.beginning place who shares) fit g = record {
  some_period = g.some_period;
  past = g.past;
  follows = all_insert (Follows d (begun a place who shares)) (start_made a who shares) (own_follows d a place who shares g.some_period g.past fit.0 fit.1 (omega (arith, fit.2))) place a.starts
      (all_map_two (Follows d a) (λ s. who ≢ s.who) (Follows d (begun a place who shares)) (λ s k h. other_follows d a place who shares s h k) a.starts g.follows fit.4);
  apart = apart_insert (start_made a who shares) place a.starts fit.4 g.apart;
}
good_after d a (deed.payment place payee full outstanding) fit g = good_payment d a place payee full outstanding fit.within g
good_after d a (deed.commission_payment coins) fit g = record {
  some_period = g.some_period;
  past = g.past;
  follows = all_map (Follows d a) (Follows d (account_after d a (deed.commission_payment coins)))
      (λ s k. paid_follows d a (a.commission - amount_of coins d) (a.outstanding - amount_of coins d) coins s k) a.starts g.follows;
  apart = g.apart;
}

pub good_new : (d : List ℕ) (height : ℕ) → Good d (new_account height)
good_new d height = record { some_period = omega arith; past = tt; follows = tt; apart = tt }
