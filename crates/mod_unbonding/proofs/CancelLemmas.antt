-- Cancelling: what is refused first, what follows, and what stands then.
use Rattle.std.proofs.Common.{◌≡◌, ◌∙◌, ℕ, ◌+◌, ◌<◌, ◌≤◌, Bool, true, false, List, Option, Some, None, refl, ap, subst, arith, Ok, Err, Result, ◌==◌, nat_lt, ◌++◌, All, length, find, unwrap_or}
use Rattle.std.{specs.Prelude.⊤, proofs.lemmas.Bool.Decides.nat_tests}
use Rattle.base_coins.specs.declared.coin.Coin.{Coin}
use Rattle.base_types.specs.declared.status.BondStatus.TheVariants.{Unbonded}
use Rattle.base_shares.specs.Shares.{has_invalid_rate}
use Rattle.base_roles.specs.declared.entities.{UnbondingEntry.UnbondingEntry, Validator.Validator}
use Rattle.base_roles.specs.declared.{faults.MessageFault.MessageFault, refusal.Refusal.Refusal}
use Rattle.base_roles.specs.declared.refusal.Refusal.TheVariants.{WrongDenom, NonPositive, NoValidator, RateInvalid, Jailed, NoEntry, CancelTooMuch, Overflow}
use Rattle.base_roles.specs.{Answers.AnswersAs, Hooks.{Tells, Stand, Lawful}, Log.Log}
use Rattle.base_roles.specs.Staked.{Staked, validator_at, delegation, put_validator, lists_of, bonded_tokens, other_tokens}
use Rattle.base_roles.specs.{StakeChanges.HoldsStake, Flow.{◌>>=◌, ◌>>◌, stop_if, or_stop, stopping}}
use Rattle.base_roles.specs.World.{View, Told, gives, exceeds, World, hooked, over_view, over_mine}
use Rattle.base_roles.specs.declared.calls.Hook.{Hook, TheVariants.{Modified as modified}}
use Rattle.base_roles.specs.declared.faults.MessageFault.TheVariants as stop
use Rattle.rule_modules.specs.Delegating.{Origin, is_wrong, pool, paid_in, hook_before, shares_given, delegated}
use Rattle.rule_modules.specs.{Owed.{balances_of, entry_balances}, Sound.UnbondingIsSound, Stakes.put_delegation}
use Rattle.rule_modules.specs.Unbondings.{UnbondingLists, entries_of, with_entries, can_be_cancelled, lowered, cancelled}
use Rattle.rule_modules.proofs.SoundLemmas.{to_points}
use Rattle.mod_staking.specs.Calls.{IsSoundStake, HasOrigin, over, behind_log}
use Rattle.mod_staking.proofs.BackLemmas.{delegated-steps, holds-back}
use Rattle.mod_entries.{specs.Answers.AnswersBoth, proofs.AnswerLemmas.answers_no_memory}
use Rattle.mod_unbonding.specs.Calls.{AreSoundLists, IsWhole, AreWhole, HoldsEntries, cancellation}
use Rattle.mod_unbonding.proofs.ChangeLemmas.{less, all-lowered, length-lowered, balances-lowered}
use Rattle.mod_unbonding.proofs.EntriesLemmas.{all-entries, all-at, list-at, ascend-entries, total-entries, total-within}

module _ {H : Type 0} (told : H → Hook → View → Told H) (delegator operator : List ℕ) (coin : Coin) (height : ℕ) (u : UnbondingLists) (w : World Staked H) where
  -- what stands once an amount was delegated
  abbrev pub entry_lowered : ℕ × World Staked H → Result (⊤ × UnbondingLists × World Staked H) Refusal
  entry_lowered q = Ok (tt, with_entries delegator operator (lowered height w.view.ctx.time coin.amount (entries_of u delegator operator)) u, q.1)

  -- cancelling at a validator
  abbrev pub cancelled_from : Validator × UnbondingEntry → Result (⊤ × UnbondingLists × World Staked H) Refusal
  cancelled_from p = delegated told p.0 delegator coin.amount (pool Unbonded) w >>= entry_lowered

  by_entry : (v : Validator) (found : Option UnbondingEntry) → (or_stop found NoEntry >>= λ e. (stop_if (nat_lt e.balance coin.amount) CancelTooMuch >> (delegated told v delegator coin.amount (pool Unbonded) w >>= entry_lowered)))
      ≡ ((or_stop found NoEntry >>= λ e. (stop_if (nat_lt e.balance coin.amount) CancelTooMuch >> Ok (v, e))) >>= cancelled_from)
  by_entry v None = refl
  by_entry v (Some e) = by (nat_lt e.balance coin.amount)
    where
      by : (much : Bool) → (stop_if much CancelTooMuch >> (delegated told v delegator coin.amount (pool Unbonded) w >>= entry_lowered)) ≡ ((stop_if much CancelTooMuch >> Ok (v, e)) >>= cancelled_from)
      by true = refl
      by false = refl

  abbrev open_entry : Option UnbondingEntry
  open_entry = find (can_be_cancelled height w.view.ctx.time) (entries_of u delegator operator)

  by_validator : (x : Option Validator)
      → (or_stop x NoValidator >>= λ v. (stop_if (has_invalid_rate v.tokens v.shares) RateInvalid >> (stop_if v.jailed Jailed >> (or_stop open_entry NoEntry >>= λ e. (stop_if (nat_lt e.balance coin.amount) CancelTooMuch >> (delegated told v delegator coin.amount (pool Unbonded) w >>= entry_lowered))))))
      ≡ ((or_stop x NoValidator >>= λ v. (stop_if (has_invalid_rate v.tokens v.shares) RateInvalid >> (stop_if v.jailed Jailed >> (or_stop open_entry NoEntry >>= λ e. (stop_if (nat_lt e.balance coin.amount) CancelTooMuch >> Ok (v, e)))))) >>= cancelled_from)
  by_validator None = refl
  by_validator (Some v) = by (has_invalid_rate v.tokens v.shares) v.jailed
    where
      by : (bad jailed : Bool)
          → (stop_if bad RateInvalid >> (stop_if jailed Jailed >> (or_stop open_entry NoEntry >>= λ e. (stop_if (nat_lt e.balance coin.amount) CancelTooMuch >> (delegated told v delegator coin.amount (pool Unbonded) w >>= entry_lowered)))))
          ≡ ((stop_if bad RateInvalid >> (stop_if jailed Jailed >> (or_stop open_entry NoEntry >>= λ e. (stop_if (nat_lt e.balance coin.amount) CancelTooMuch >> Ok (v, e))))) >>= cancelled_from)
      by true jailed = refl
      by false true = refl
      by false false = by_entry v open_entry

  -- what is refused first, and what follows
  pub cancelled-asked : cancelled told delegator operator coin height u w ≡ (cancellation delegator operator coin height u w.mine w.view >>= cancelled_from)
  cancelled-asked = by (coin.amount == 0) (is_wrong coin w.view)
    where
      by : (zero wrong : Bool)
          → (stop_if zero NonPositive >> (stop_if wrong WrongDenom >> (or_stop (validator_at w.mine operator) NoValidator >>= λ v. (stop_if (has_invalid_rate v.tokens v.shares) RateInvalid >> (stop_if v.jailed Jailed >> (or_stop open_entry NoEntry >>= λ e. (stop_if (nat_lt e.balance coin.amount) CancelTooMuch >> (delegated told v delegator coin.amount (pool Unbonded) w >>= entry_lowered))))))))
          ≡ ((stop_if zero NonPositive >> (stop_if wrong WrongDenom >> (or_stop (validator_at w.mine operator) NoValidator >>= λ v. (stop_if (has_invalid_rate v.tokens v.shares) RateInvalid >> (stop_if v.jailed Jailed >> (or_stop open_entry NoEntry >>= λ e. (stop_if (nat_lt e.balance coin.amount) CancelTooMuch >> Ok (v, e)))))))) >>= cancelled_from)
      by true wrong = refl
      by false true = refl
      by false false = by_validator (validator_at w.mine operator)

  -- delegating answered, and the entry is lower
  pub answers_lowered : (v : Validator) (e : UnbondingEntry) (s1 : Staked) (holds : H → Type 0) (v1 : View) (issued : ℕ) (u2 : UnbondingLists) → AnswersAs (delegated told v delegator coin.amount (pool Unbonded) w) s1 holds v1 (Ok issued)
      → u2 ≡ with_entries delegator operator (lowered height w.view.ctx.time coin.amount (entries_of u delegator operator)) u → AnswersBoth (cancelled_from (v, e)) u2 s1 holds v1 (Ok tt)
  answers_lowered v e s1 holds v1 issued u2 l q = by (delegated told v delegator coin.amount (pool Unbonded) w) l
    where
      by : (r : Result (ℕ × World Staked H) Refusal) → AnswersAs r s1 holds v1 (Ok issued) → AnswersBoth (r >>= entry_lowered) u2 s1 holds v1 (Ok tt)
      by (Err due) l = absurd l
      by (Ok p) l = (refl, q, l.1, l.2, l.3)

  -- or it is refused, or wants memory
  pub answers_stopped : (v : Validator) (e : UnbondingEntry) (s1 s : Staked) (holds1 holds : H → Type 0) (v1 view : View) (u2 : UnbondingLists) (why : MessageFault) → AnswersAs (delegated told v delegator coin.amount (pool Unbonded) w) s1 holds1 v1 (Err why)
      → AnswersBoth (cancelled_from (v, e)) u2 s holds view (Err why)
  answers_stopped v e s1 s holds1 holds v1 view u2 why l = by (delegated told v delegator coin.amount (pool Unbonded) w) why l
    where
      by : (r : Result (ℕ × World Staked H) Refusal) (why : MessageFault) → AnswersAs r s1 holds1 v1 (Err why) → AnswersBoth (r >>= entry_lowered) u2 s holds view (Err why)
      by (Err due) (stop.Refused x) l = l
      by (Err due) stop.NoMemory l = tt
      by (Ok p) (stop.Refused x) l = absurd l
      by (Ok p) stop.NoMemory l = answers_no_memory (entry_lowered p) u2 s holds view

-- ---- the log is only an output of delegating

module _ {H : Type 0} (told : H → Hook → View → Told H) (v : Validator) (delegator : List ℕ) (amount : ℕ) (from : Origin) (log : Log) (s : Staked) (h : H) (u : View) (s2 : Staked) (holds : H → Type 0) (u2 : View) where
  -- what answers the first answers the second
  abbrev Behind : Result (ℕ × World Staked H) Refusal → Result (ℕ × World Staked H) Refusal → Type 0
  Behind r r2 = (a : Result ℕ MessageFault) → AnswersAs r s2 holds u2 a → AnswersAs r2 s2 holds u2 a

  abbrev held : Option ℕ
  held = delegation s delegator v.operator

  abbrev shares : ℕ → ℕ
  shares issued = unwrap_or held 0 + issued

  abbrev grown : ℕ → Validator
  grown issued = record v { tokens = v.tokens + amount; shares = v.shares + issued }

  abbrev placed : ℕ → View → World Staked H → World Staked H
  placed issued view w = over_view (λ x. view) (over_mine (λ x. put_delegation delegator v.operator (shares issued) (put_validator (grown issued) x)) w)

  abbrev last_at : ℕ → Told H → World Staked H → Result (ℕ × World Staked H) Refusal
  last_at issued t w = stopping Overflow (hooked t w) >>= λ w3. Ok (issued, w3)

  abbrev paid_at : ℕ → Result View Refusal → World Staked H → Result (ℕ × World Staked H) Refusal
  paid_at issued r w = r >>= λ view. last_at issued (told w.hooks (modified (grown issued) delegator (shares issued)) view) (placed issued view w)

  abbrev before_at : ℕ → Told H → World Staked H → Result (ℕ × World Staked H) Refusal
  before_at issued t w = stopping Overflow (hooked t w) >>= λ w1. paid_at issued (paid_in from delegator v.status amount w1.view) w1

  abbrev given_at : Result ℕ Refusal → World Staked H → Result (ℕ × World Staked H) Refusal
  given_at r w = r >>= λ issued. before_at issued (told h (hook_before v delegator held) u) w

  abbrev world : Staked → H → View → Log → World Staked H
  world x h1 u1 l = record { mine = x; hooks = h1; view = u1; log = l }

  last-behind : (issued : ℕ) (t : Told H) (x : Staked) (h1 : H) (u1 : View) (l l2 : Log) → Behind (last_at issued t (world x h1 u1 l)) (last_at issued t (world x h1 u1 l2))
  last-behind issued (gives h3 u3 more) x h1 u1 l l2 (Ok n) c = c
  last-behind issued (gives h3 u3 more) x h1 u1 l l2 (Err why) c = c
  last-behind issued (exceeds due) x h1 u1 l l2 a c = c

  paid-behind : (issued : ℕ) (r : Result View Refusal) (h1 : H) (u1 : View) (l l2 : Log) → Behind (paid_at issued r (world s h1 u1 l)) (paid_at issued r (world s h1 u1 l2))
  paid-behind issued (Ok view) h1 u1 l l2 a c = last-behind issued (told h1 (modified (grown issued) delegator (shares issued)) view) (put_delegation delegator v.operator (shares issued) (put_validator (grown issued) s)) h1 view l l2 a c
  paid-behind issued (Err why) h1 u1 l l2 a c = c

  before-behind : (issued : ℕ) (t : Told H) → Behind (before_at issued t (over s h u)) (before_at issued t (behind_log log s h u))
  before-behind issued (gives h1 u1 more) a c = paid-behind issued (paid_in from delegator v.status amount u1) h1 u1 more (log ++ more) a c
  before-behind issued (exceeds due) a c = c

  given-behind : (r : Result ℕ Refusal) → Behind (given_at r (over s h u)) (given_at r (behind_log log s h u))
  given-behind (Ok issued) a c = before-behind issued (told h (hook_before v delegator held) u) a c
  given-behind (Err why) a c = c

  -- so behind any log it answers and leaves what it does behind none
  pub delegated-behind : Behind (delegated told v delegator amount from (over s h u)) (delegated told v delegator amount from (behind_log log s h u))
  delegated-behind = given-behind (shares_given v amount)

-- what a cancellation that isn't refused tells
pub record IsOpen (delegator operator : List ℕ) (coin : Coin) (height : ℕ) (u : UnbondingLists) (s : Staked) (view : View) (v : Validator) (e : UnbondingEntry) : Type 0 where
  pub some : 0 < coin.amount
  pub found : validator_at s operator ≡ Some v
  pub entry : find (can_be_cancelled height view.ctx.time) (entries_of u delegator operator) ≡ Some e
  pub enough : coin.amount ≤ e.balance

module _ (delegator operator : List ℕ) (coin : Coin) (height : ℕ) (u : UnbondingLists) (s : Staked) (view : View) (v : Validator) (e : UnbondingEntry) where
  abbrev Given : Result (Validator × UnbondingEntry) Refusal → Type 0
  Given r = r ≡ Ok (v, e)

  abbrev Open : Type 0
  Open = IsOpen delegator operator coin height u s view v e

  pair_is : (x : Validator) (y : UnbondingEntry) → ◌≡◌ {A = Result (Validator × UnbondingEntry) Refusal} (Ok (x, y)) (Ok (v, e)) → (x ≡ v) × (y ≡ e)
  pair_is x y p = (ap first p, ap second p)
    where
      first : Result (Validator × UnbondingEntry) Refusal → Validator
      first (Ok p) = p.0
      first (Err d) = x

      second : Result (Validator × UnbondingEntry) Refusal → UnbondingEntry
      second (Ok p) = p.1
      second (Err d) = y

  pub open-given : cancellation delegator operator coin height u s view ≡ Ok (v, e) → Open
  open-given = by (coin.amount == 0) refl (is_wrong coin view) (validator_at s operator) refl
    where
      last : (coin.amount == 0) ≡ false → (x : Validator) → validator_at s operator ≡ Some x → (y : UnbondingEntry) → find (can_be_cancelled height view.ctx.time) (entries_of u delegator operator) ≡ Some y → (much : Bool) → nat_lt y.balance coin.amount ≡ much
          → Given (stop_if much CancelTooMuch >> Ok (x, y)) → Open
      last z x f y g true m p = absurd cc
      last z x f y g false m p =
          let is = pair_is x y p in
          let most : coin.amount ≤ y.balance = grind (arith, nat_tests, m) in
          record { some = grind (arith, nat_tests, z); found = f ∙ ap Some is.0; entry = g ∙ ap Some is.1; enough = subst (λ (q : UnbondingEntry). coin.amount ≤ q.balance) is.1 most }

      entry : (coin.amount == 0) ≡ false → (x : Validator) → validator_at s operator ≡ Some x → (r : Option UnbondingEntry) → find (can_be_cancelled height view.ctx.time) (entries_of u delegator operator) ≡ r
          → Given (or_stop r NoEntry >>= λ y. (stop_if (nat_lt y.balance coin.amount) CancelTooMuch >> Ok (x, y))) → Open
      entry z x f None g p = absurd cc
      entry z x f (Some y) g p = last z x f y g (nat_lt y.balance coin.amount) refl p

      tests : (coin.amount == 0) ≡ false → (x : Validator) → validator_at s operator ≡ Some x → (bad jailed : Bool)
          → Given (stop_if bad RateInvalid >> (stop_if jailed Jailed >> (or_stop (find (can_be_cancelled height view.ctx.time) (entries_of u delegator operator)) NoEntry >>= λ y. (stop_if (nat_lt y.balance coin.amount) CancelTooMuch >> Ok (x, y))))) → Open
      tests z x f true jailed p = absurd cc
      tests z x f false true p = absurd cc
      tests z x f false false p = entry z x f (find (can_be_cancelled height view.ctx.time) (entries_of u delegator operator)) refl p

      by : (zero : Bool) → (coin.amount == 0) ≡ zero → (wrong : Bool) (x : Option Validator) → validator_at s operator ≡ x
          → Given (stop_if zero NonPositive >> (stop_if wrong WrongDenom >> (or_stop x NoValidator >>= λ y. (stop_if (has_invalid_rate y.tokens y.shares) RateInvalid >> (stop_if y.jailed Jailed >> (or_stop (find (can_be_cancelled height view.ctx.time) (entries_of u delegator operator)) NoEntry >>= λ q. (stop_if (nat_lt q.balance coin.amount) CancelTooMuch >> Ok (y, q)))))))) → Open
      by true z wrong x f p = absurd cc
      by false z true x f p = absurd cc
      by false z false None f p = absurd cc
      by false z false (Some x) f p = tests z x f (has_invalid_rate x.tokens x.shares) x.jailed p

-- ---- what stands then

module _ (delegator operator : List ℕ) (coin : Coin) (height : ℕ) (u : UnbondingLists) (s : Staked) (v0 : View) (v : Validator) (e : UnbondingEntry) (o : IsOpen delegator operator coin height u s v0 v e) (h : AreSoundLists u) where
  abbrev left : List UnbondingEntry
  left = lowered height v0.ctx.time coin.amount (entries_of u delegator operator)

  abbrev then_lists : UnbondingLists
  then_lists = with_entries delegator operator left u

  -- the balances fall by the amount
  pub lowered-balances : entry_balances then_lists + coin.amount ≡ entry_balances u
  lowered-balances =
      let a = total-entries balances_of refl delegator operator left u h.1.ascend in
      let b = balances-lowered height v0.ctx.time coin.amount (entries_of u delegator operator) e o.entry o.enough in
      let c = total-within balances_of refl delegator operator u in
      omega (arith, a, b, c)

  still_sound : (x : UnbondingEntry) → UnbondingIsSound h.0 x → UnbondingIsSound h.0 (less height v0.ctx.time coin.amount x)
  still_sound x k = record { initial = let i = k.initial in omega (arith, i); balance = let b = k.balance in omega (arith, b); created = k.created }

  pub lowered-sound : AreSoundLists then_lists
  lowered-sound = (
    h.0,
    record {
      ascend = ascend-entries delegator operator left u h.1.ascend;
      some = all-entries (λ p. 0 < length p.1) u h.1.ascend h.1.some delegator operator left (λ s. s);
      most = all-entries (λ p. length p.1 ≤ 100) u h.1.ascend h.1.most delegator operator left (λ s. let n = length-lowered height v0.ctx.time coin.amount (entries_of u delegator operator) in omega (arith, n, most_here));
      entries = all-entries (λ p. All (UnbondingIsSound h.0) p.1) u h.1.ascend h.1.entries delegator operator left
          (λ s. all-lowered height v0.ctx.time coin.amount (UnbondingIsSound h.0) (entries_of u delegator operator) (all-at (UnbondingIsSound h.0) u h.1.entries delegator operator) still_sound);
    },
  )
    where
      most_here : length (entries_of u delegator operator) ≤ 100
      most_here = list-at (λ l. length l ≤ 100) u (omega arith) h.1.most delegator operator

  pub lowered-whole : (at : ℕ) → AreWhole at u → AreWhole at then_lists
  lowered-whole at k = all-entries (λ p. All (IsWhole at) p.1) u h.1.ascend k delegator operator left
      (λ s. all-lowered height v0.ctx.time coin.amount (IsWhole at) (entries_of u delegator operator) (all-at (IsWhole at) u k delegator operator) (λ x w c. let same = w c in omega (arith, same)))

  module _ (accounts : HoldsEntries v0 s u) where
    pub entry_few : coin.amount ≤ entry_balances u
    entry_few = let a = lowered-balances in omega (arith, a)

    -- the not-bonded account has the amount, besides what is owed to validators
    pub has_origin : HasOrigin (pool Unbonded) coin.amount s v0
    has_origin = let a = accounts.in_not_bonded in let b = entry_few in omega (arith, a, b)

    pub has_stake : HoldsStake v0 (bonded_tokens s) (other_tokens s)
    has_stake = record { in_bonded = accounts.in_bonded; in_not_bonded = let a = accounts.in_not_bonded in omega (arith, a) }

    module _ {H : Type 0} (t : Tells H) (lawful : Lawful t) (sound : IsSoundStake s) (hs : H) (stand : Stand t hs v0 (lists_of s)) (s2 : Staked) (holds : H → Type 0) (v2 : View) (issued : ℕ)
        (l : AnswersAs (delegated t.told v delegator coin.amount (pool Unbonded) (over s hs v0)) s2 holds v2 (Ok issued)) where
      -- the accounts hold what is then owed
      pub lowered-accounts : HoldsEntries v2 s2 then_lists
      lowered-accounts =
          let at = to_points sound.0 s sound.1 in
          let own : v.operator ≡ operator = at.operators operator v o.found in
          let f : validator_at s v.operator ≡ Some v = ap (validator_at s) own ∙ o.found in
          let d = delegated-steps t.told v delegator coin.amount (pool Unbonded) s hs v0 s2 holds v2 issued l in
          let b = lowered-balances in
          let has = accounts.in_not_bonded in
          let has_bonded = accounts.in_bonded in
          let r = holds-back t lawful sound.0 s at v f delegator Unbonded coin.amount o.some hs v0 stand has_origin has_stake s2 v2 d 0 (entry_balances then_lists)
          (record { in_bonded = omega (arith, has_bonded); in_not_bonded = omega (arith, has, b) }) in
          let left_bonded = r.in_bonded in
          record { in_bonded = omega (arith, left_bonded); in_not_bonded = r.in_not_bonded }
