-- How large amounts can be in a sound state: no more than the accounts that hold them can have.
use Rattle.std.proofs.Common.{◌≡◌, ℕ, ◌+◌, ◌*◌, ◌^◌, ◌≤◌, List, Option, Some, None, refl, arith, Contains, unwrap_or}
use Rattle.base_types.specs.declared.account.Account.TheVariants as account
use Rattle.base_types.specs.declared.account.Module.TheVariants as holder
use Rattle.base_types.specs.Orders.{addr_cmp}
use Rattle.base_coins.specs.Coins.{amount_of}
use Rattle.base_roles.{proofs.HoldingLemmas.balance-most, specs.{declared.entities.Purse.Purse, Entries.at}}
use Rattle.base_roles.specs.{Items.no_purse, Staked.{bonded_tokens, lists_of}}
use Rattle.law_soundness.proofs.{Burns.total_in, Delegating.{all_bonded, all_other}, Points.{StateFits, to_fits}}
use Rattle.law_soundness.proofs.{Purses.owed_of, Starting.runs_are_sound}
use Rattle.law_soundness.specs.Ranges.{RunsAreInRange, SoundIsInRange}
use Rattle.rule_modules.proofs.{TotalLemmas.{total, total_left}, OrderLemmas.addr_total}
use Rattle.rule_modules.specs.{Chain.{shared_in, staked_in}, Owed.entry_balances, Purses.Purses}

-- what is outstanding for a validator is among all that is owed
part_within : (p : Purses) (operator d : List ℕ) (most : ℕ) → owed_of p d ≤ most → (r : Option Purse) → at addr_cmp p.purses operator ≡ r → amount_of (unwrap_or r no_purse).outstanding d ≤ most
part_within p operator d most l None e = omega arith
part_within p operator d most l (Some purse) e =
    within _ _ (total addr_cmp addr_total (λ (x : Purse). amount_of x.outstanding d) p.purses) (amount_of p.pool d) (total_left addr_cmp addr_total (λ (x : Purse). amount_of x.outstanding d) operator purse p.purses e) l
  where
    within : (t x all pool : ℕ) → t + x ≡ all → all + pool ≤ most → x ≤ most
    within t x all pool f m = omega (arith, f, m)

pub sound_is_in_range : SoundIsInRange
sound_is_in_range w s = record {
  balances = λ who d. balance-most w.view.bank who d s.ground.bank;
  bonded = none (bonded_tokens w.mine.staked) (all_bonded P T 0 n (lists_of w.mine.staked) (staked_in w) h.stake);
  others = all_other P T 0 n (lists_of w.mine.staked) (staked_in w) h.stake;
  outstanding = λ operator d. part_within (shared_in w).purses operator d (10 ^ 36) (owed d) (at addr_cmp (shared_in w).purses.purses operator) refl;
  pool = λ d. pooled _ (amount_of (shared_in w).purses.pool d) (owed d);
}
  where
    P : List ℕ → Type 0
    P = Contains s.few.some

    T : List ℕ → ℕ
    T = total_in w.view

    h : StateFits P T w
    h = to_fits w s

    n : ℕ
    n = entry_balances w.mine.unbondings

    none : (a : ℕ) → a + 0 ≤ 10 ^ 18 → a ≤ 10 ^ 18
    none a l = omega (arith, l)

    pooled : (t p : ℕ) → t + p ≤ 10 ^ 36 → p ≤ 10 ^ 36
    pooled t p l = omega (arith, l)

    few : (b o : ℕ) → b ≤ 10 ^ 18 → 10 ^ 18 * b ≡ o → o ≤ 10 ^ 36
    few b o l e = omega (arith, l, e)

    owed : (d : List ℕ) → owed_of (shared_in w).purses d ≤ 10 ^ 36
    owed d = few _ _ (balance-most w.view.bank (account.Module holder.Distribution) d s.ground.bank) (h.stake.owed d)

pub runs_are_in_range : RunsAreInRange
runs_are_in_range r = sound_is_in_range _ (runs_are_sound r)
