-- Funding the community pool is refused by the first of its conditions that holds of a sound state.
use Rattle.std.proofs.Common.{◌≡◌, ℕ, ◌+◌, ◌*◌, ◌^◌, ◌<◌, ◌≤◌, Bool, true, false, List, [], ◌∷◌, None, Result, Ok, refl, sym, subst, arith, Contains}
use Rattle.std.specs.Prelude.{⊤}
use Rattle.base_types.specs.declared.account.Account.TheVariants as account
use Rattle.base_types.specs.declared.account.Module.TheVariants as holder
use Rattle.base_decimals.specs.declared.over.Over.{Over}
use Rattle.base_roles.specs.declared.refusal.Refusal.{Refusal, TheVariants.{InsufficientFunds, NonPositive, Overflow}}
use Rattle.base_roles.specs.{Flow.{◌>>=◌, ◌>>◌, stop_if, stopping}, Holdings.{balance_of, is_short}, World.{View, sent}}
use Rattle.base_roles.proofs.HoldingLemmas.{balance-most}
use Rattle.base_coins.proofs.{Amounts.added_fits, Order.rises_from_money}
use Rattle.base_coins.specs.Coins.{IsMoney, Money, amount_of, coins_added}
use Rattle.law_soundness.proofs.{Burns.total_in, Bank.{each_within, known_enough}, Names.units_known}
use Rattle.law_soundness.proofs.{Points.{StateFits, to_fits}, Purses.amounts_within}
use Rattle.law_soundness.specs.StepLaws.{FundsNameConditions}
use Rattle.rule_modules.{proofs.PartLemmas.amount_in_units, specs.Amounts.{in_units, is_empty, over_facts}}
use Rattle.rule_modules.specs.{Chain.{State, shared_in, with_shared}, Conditions.{first_of, when}, Distribution.Shared}
use Rattle.rule_modules.specs.{Purses.{Purses, pool_joined, pooled_told}, RefusalOrder.refused_in}

module _ (P : List ℕ → Type 0) (T : List ℕ → ℕ) where
  -- coins that an account has join the pool
  joined_gives : (who : List ℕ) (coins : Money) (w : State) → IsMoney coins → StateFits P T w → is_short w.view.bank (account.User who) coins ≡ false → (z : Money) × (coins_added w.hooks.0.purses.pool (in_units coins) ≡ Ok z)
  joined_gives who coins w m h e =
      let bank = h.stake.ground.order.bank in
      let units = units_known P coins (each_within coins w.view.bank (account.User who) e bank) (known_enough P coins w.view.bank (account.User who) m e h.stake.ground.held) in
      let pool = w.hooks.0.purses.pool in
      added_fits pool (in_units coins) (rises_from_money pool h.stake.shared.pool.money) (rises_from_money (in_units coins) units.money) (λ d.
      few (balance_of w.view.bank (account.Module holder.Distribution) d) _ (amount_of pool d) (amount_of coins d) _
      (balance-most w.view.bank (account.Module holder.Distribution) d bank) (h.stake.owed d) (amounts_within coins (λ y. 10 ^ 18) (each_within coins w.view.bank (account.User who) e bank) d) (amount_in_units d coins))
    where
      few : (b t p c u : ℕ) → b ≤ 10 ^ 18 → 10 ^ 18 * b ≡ t + p → c ≤ 10 ^ 18 → u ≡ c * 10 ^ 18 → p + u < 10 ^ 38
      few b t p c u l e f g = omega (arith, l, e, f, g)

pub funds_refused : FundsNameConditions
funds_refused who coins m w s = by (is_empty coins) (is_short w.view.bank (account.User who) coins) refl
  where
    P : List ℕ → Type 0
    P = Contains s.few.some

    T : List ℕ → ℕ
    T = total_in w.view

    d : Shared
    d = shared_in w

    after : Purses → Result (⊤ × Shared × View) Refusal
    after p = Ok (tt, record d { purses = p }, over_facts (pooled_told (in_units coins)) (sent (account.User who) (account.Module holder.Distribution) coins w.view))

    done : ⊤ × Shared × View → Result State Refusal
    done x = Ok (with_shared x.1 x.2 [] w)

    by : (a b : Bool) → is_short w.view.bank (account.User who) coins ≡ b
        → refused_in ((stop_if a NonPositive >> (stop_if b InsufficientFunds >> (stopping Overflow (pool_joined (in_units coins) d.purses) >>= after))) >>= done) ≡ first_of (when a NonPositive ∷ when b InsufficientFunds ∷ [])
    by true b e = refl
    by false true e = refl
    by false false e =
        let (z, f) = joined_gives P T who coins w m (to_fits w s) e in
        subst (λ (r : Result Money Over). refused_in ((stopping Overflow (r >>= λ c. Ok (record d.purses { pool = c })) >>= after) >>= done) ≡ None) (sym f) refl
