-- A commission is withdrawn, fees are allocated, and payees are set, as the calls leave them.
use Rattle.std.proofs.Common.{◌≡◌, ◌∙◌, ℕ, ◌+◌, ◌*◌, ◌^◌, ◌≤◌, Bool, true, false, List, [], ◌∷◌, ◌++◌, Some, None, Option, Ok, Err, refl, sym, ap, subst, arith, nat_le, if◌then◌else◌, is_some, unwrap_or, Result}
use Rattle.std.specs.Prelude.{⊤}
use Rattle.base_types.specs.{declared.account.Account.Account, Orders.addr_cmp}
use Rattle.base_types.specs.declared.account.Account.TheVariants as account
use Rattle.base_types.specs.declared.account.Module.TheVariants as holder
use Rattle.base_decimals.specs.declared.over.Over.{Over}
use Rattle.base_coins.specs.Coins.{Money, IsMoney, amount_of}
use Rattle.base_roles.specs.declared.{entities.Purse.Purse, facts.Fact.Fact, faults.HookFault.HookFault}
use Rattle.base_roles.specs.declared.{messages.Vote.Vote, refusal.Refusal.{Refusal, TheVariants.NoCommission}}
use Rattle.base_roles.specs.{Answers.{Answers, AsRuled, ExceedsAs, WantsMemory}, Entries.at}
use Rattle.base_roles.specs.{Holdings.{IsBacked, balance_of, coins_of, is_short}, Hooks.Stand, Owing.Lists, Log.Log}
use Rattle.base_roles.specs.{Staked.Staked, Flow.{◌>>=◌, ◌>>◌, or_stop, stop_if}, World.{View, noted, sent}}
use Rattle.base_roles.proofs.{AmountLemmas.moves_by_amounts, HoldingLemmas.balance-most}
use Rattle.base_roles.specs.declared.facts.Fact.TheVariants as fact
use Rattle.base_roles.specs.Log as log
use Rattle.rule_modules.specs.{Allocation.{allocated, fees_allocated}, Amounts.{in_units, is_empty}}
use Rattle.rule_modules.specs.Distribution.{Shared, paid_to, payee_of, told_of}
use Rattle.rule_modules.specs.Purses.{Purses, commission_due, commission_paid, with_purse}
use Rattle.rule_modules.specs.Withdrawals.{commission_withdrawn}
use Rattle.mod_allocation.specs.{Calls.{commission_of, commission_out, purse_at}, Owed.{AreWithin, owed_by}}
use Rattle.mod_periods.specs.Stands.{KeepsRewards}
use Rattle.mod_distribution.specs.{Calls.CarriesOutOrRefuses, Kept.{KeptShared, payee_in}, Stands.KeepsShared}
use Rattle.mod_distribution.{specs.Tells.distribution_tells, proofs.CarryLemmas.message_carried}

-- ---- a commission

-- what a purse with a commission gives
abbrev commission_given : List ℕ → Shared → View → Purse → Result (Money × Shared × View × Log) Refusal
commission_given operator d v purse = Ok (
  commission_due purse,
  record d { purses = with_purse operator (commission_paid purse) d.purses },
  noted (fact.Commission operator (payee_of d operator) (commission_due purse)) (paid_to (payee_of d operator) (commission_due purse) v),
  (operator, log.commission (in_units (commission_due purse))) ∷ [],
)

-- the message, by the purse
abbrev commission_by : Option Purse → List ℕ → Shared → View → Result (Money × Shared × View × Log) Refusal
commission_by r operator d v = or_stop r NoCommission >>= λ purse. stop_if (is_empty purse.commission) NoCommission
    >> commission_given operator d v purse

module _ (operator : List ℕ) (k k2 : KeptShared) (d : Shared) (v w : View) (h : KeepsShared k d) where
  same_purse : at addr_cmp d.purses.purses operator ≡ purse_at k.purses operator
  same_purse = ap (λ p. purse_at p operator) (sym h.purses)

  -- there is none
  pub no_commission : (p : Purses) → commission_out operator k.purses ≡ (None, p) → commission_withdrawn operator d v ≡ Err NoCommission
  no_commission p e = ap (λ r. commission_by r operator d v) same_purse ∙ by (purse_at k.purses operator) e
    where
      some : (b : Bool) (purse : Purse) → Path (Option Money × Purses) (if b then (None, k.purses) else (Some (commission_due purse), with_purse operator (commission_paid purse) k.purses)) (None, p)
          → (stop_if b NoCommission >> commission_given operator d v purse) ≡ Err NoCommission
      some true purse f = refl
      some false purse f = let t : true ≡ false = ap (λ (x : Option Money × Purses). is_some x.0) f in absurd cc

      by : (r : Option Purse) → commission_of r operator k.purses ≡ (None, p) → commission_by r operator d v ≡ Err NoCommission
      by None f = refl
      by (Some purse) f = some (is_empty purse.commission) purse f

  -- it is paid
  module _ (to : List ℕ) (coins told : Money) (v1 : View) (out : commission_out operator k.purses ≡ (Some coins, k2.purses)) (payee : to ≡ payee_in k.withdraw operator) (rewards : k2.rewards ≡ k.rewards) (payees : k2.withdraw ≡ k.withdraw)
      (paid : v1 ≡ paid_to to coins v) (copy : told ≡ coins) (view : w ≡ record v1 { facts = v1.facts ++ fact.Commission operator to told ∷ [] }) where
    pub commission_carried : CarriesOutOrRefuses (commission_withdrawn operator d v) k2 w (Ok coins)
    commission_carried = by (purse_at k.purses operator) refl out
      where
        is : to ≡ payee_of d operator
        is = payee ∙ ap (λ x. payee_in x operator) h.withdraw

        due : (purse : Purse) → coins ≡ commission_due purse → k2.purses ≡ with_purse operator (commission_paid purse) k.purses
            → (stop_if false NoCommission >> commission_given operator d v purse) ≡ commission_withdrawn operator d v
            → CarriesOutOrRefuses (commission_withdrawn operator d v) k2 w (Ok coins)
        due purse c q rule = subst (λ a. CarriesOutOrRefuses (commission_withdrawn operator d v) k2 w (Ok a)) (sym c)
            (message_carried k2 w (commission_withdrawn operator d v) (commission_due purse) (record d { purses = with_purse operator (commission_paid purse) d.purses }) _ _ (sym rule)
            (record {
              rewards = subst (λ r. KeepsRewards r d.rewards) (sym rewards) h.rewards;
              purses = q ∙ ap (with_purse operator (commission_paid purse)) h.purses;
              withdraw = payees ∙ h.withdraw;
            })
            (view ∙ (λ i. record (paid i) { facts = (paid i).facts ++ fact.Commission operator to (copy i) ∷ [] }) ∙ (λ i. noted (fact.Commission operator (is i) (c i)) (paid_to (is i) (c i) v))))

        some : (b : Bool) (purse : Purse) → is_empty purse.commission ≡ b → purse_at k.purses operator ≡ Some purse → Path (Option Money × Purses) (if b then (None, k.purses) else (Some (commission_due purse), with_purse operator (commission_paid purse) k.purses)) (Some coins, k2.purses)
            → CarriesOutOrRefuses (commission_withdrawn operator d v) k2 w (Ok coins)
        some true purse e f g = let t : false ≡ true = ap (λ (x : Option Money × Purses). is_some x.0) g in absurd cc
        some false purse e f g = due purse (sym (given g)) (sym (ap (λ t. t.1) g))
            (sym (ap (λ r. commission_by r operator d v) (same_purse ∙ f) ∙ ap (λ b. stop_if b NoCommission >> commission_given operator d v purse) e))
          where
            given : Path (Option Money × Purses) (Some (commission_due purse), with_purse operator (commission_paid purse) k.purses) (Some coins, k2.purses) → commission_due purse ≡ coins
            given x = ap (λ o. unwrap_or o []) (ap (λ t. t.0) x)

        by : (r : Option Purse) → purse_at k.purses operator ≡ r → commission_of r operator k.purses ≡ (Some coins, k2.purses) → CarriesOutOrRefuses (commission_withdrawn operator d v) k2 w (Ok coins)
        by None f g = let t : false ≡ true = ap (λ (x : Option Money × Purses). is_some x.0) g in absurd cc
        by (Some purse) f g = some (is_empty purse.commission) purse refl f g

-- ---- a block's fees

abbrev fees_rest : Staked → List Vote → Shared → View → Result (Shared × View × Log) Over
fees_rest s votes d v =
    let fees = coins_of v.bank (account.Module holder.FeeCollector) in
    let v1 = sent (account.Module holder.FeeCollector) (account.Module holder.Distribution) fees v in
    allocated s v.ctx.params fees votes d.purses v1.facts >>= λ x. Ok (record d { purses = x.0 }, record v1 { facts = x.1 }, x.2)

-- with a block's fees no more is owed than there can be, since after they have moved the account has as much
pub fees_within : (k : KeptShared) (d : Shared) (v v1 : View) (l : Lists) (fees : Money) → KeepsShared k d → Stand distribution_tells d v l → IsMoney fees → is_short v.bank (account.Module holder.FeeCollector) fees ≡ false
    → v1 ≡ sent (account.Module holder.FeeCollector) (account.Module holder.Distribution) fees v → IsBacked v1.bank → AreWithin k.purses (amount_of fees)
fees_within k d v v1 l fees h s money enough moved backed = subst (λ p. AreWithin p (amount_of fees)) (sym h.purses) (λ e.
    small (owed_by d.purses e) (balance_of v.bank to e) (balance_of (sent from to fees v).bank to e) (amount_of fees e) (s.owed e) (moves_by_amounts v.bank from to fees s.in_order.bank money enough to e)
    (subst (λ (u : View). balance_of u.bank to e ≤ 10 ^ 18) moved (balance-most v1.bank to e backed)))
  where
    from : Account
    from = account.Module holder.FeeCollector

    to : Account
    to = account.Module holder.Distribution

    small : (o b b2 n : ℕ) → 10 ^ 18 * b ≡ o → b2 + 0 ≡ b + n → b2 ≤ 10 ^ 18 → o + 10 ^ 18 * n ≤ 10 ^ 36
    small o b b2 n e f m = omega (arith, e, f, m)

module _ (s : Staked) (votes : List Vote) (k k2 : KeptShared) (d : Shared) (v v1 v2 : View) (h : KeepsShared k d) (late : nat_le v.ctx.height 1 ≡ false) (fees : Money) (f : fees ≡ coins_of v.bank (account.Module holder.FeeCollector))
    (moved : v1 ≡ sent (account.Module holder.FeeCollector) (account.Module holder.Distribution) fees v) (rewards : k2.rewards ≡ k.rewards) (payees : k2.withdraw ≡ k.withdraw) (bank : v2.bank ≡ v1.bank) (ctx : v2.ctx ≡ v1.ctx) where
  -- what the allocation gives, over the ground on which the fees have moved
  pub fees_told : (result : Result ⊤ HookFault) → AsRuled (allocated s v1.ctx.params fees votes k.purses v1.facts) result (λ due _. (k2.purses ≡ due.0) × (v2.facts ≡ due.1)) WantsMemory ExceedsAs → Answers (told_of (fees_allocated s votes d v)) (KeepsShared k2) v2 result
  fees_told result follows =
      subst (λ b. Answers (told_of (if b then Ok (d, v, []) else fees_rest s votes d v)) (KeepsShared k2) v2 result) (sym late)
      (by (allocated s v.ctx.params (coins_of v.bank (account.Module holder.FeeCollector)) votes d.purses gone.facts) result
      (subst (λ r. AsRuled r result (λ due _. (k2.purses ≡ due.0) × (v2.facts ≡ due.1)) WantsMemory ExceedsAs) (λ i. allocated s (is i).ctx.params (f i) votes (h.purses i) (is i).facts) follows))
    where
      gone : View
      gone = sent (account.Module holder.FeeCollector) (account.Module holder.Distribution) (coins_of v.bank (account.Module holder.FeeCollector)) v

      is : v1 ≡ gone
      is = moved ∙ ap (λ c. sent (account.Module holder.FeeCollector) (account.Module holder.Distribution) c v) f

      by : (r : Result (Purses × List Fact × Log) Over) (result : Result ⊤ HookFault) → AsRuled r result (λ due _. (k2.purses ≡ due.0) × (v2.facts ≡ due.1)) WantsMemory ExceedsAs
          → Answers (told_of (r >>= λ x. Ok (record d { purses = x.0 }, record gone { facts = x.1 }, x.2))) (KeepsShared k2) v2 result
      by (Ok x) (Ok t) g = (
        record { rewards = subst (λ r. KeepsRewards r d.rewards) (sym rewards) h.rewards; purses = g.0; withdraw = payees ∙ h.withdraw },
        λ i. record { bank = (bank ∙ ap (λ (u : View). u.bank) is) i; ctx = (ctx ∙ ap (λ (u : View). u.ctx) is) i; facts = g.1 i },
      )
      by (Ok x) (Err fault) g = g
      by (Err over) (Ok t) g = g
      by (Err over) (Err fault) g = g
