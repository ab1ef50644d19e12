-- How large amounts can be in a sound state, beyond what it says of each record.
use Rattle.std.specs.Prelude.{ℕ, ◌+◌, ◌^◌, ◌≤◌, List}
use Rattle.base_types.specs.declared.account.Account.{Account}
use Rattle.base_coins.specs.Coins.{amount_of}
use Rattle.base_roles.specs.Holdings.{balance_of}
use Rattle.base_roles.specs.Staked.{bonded_tokens, other_tokens}
use Rattle.rule_machine.specs.Promises.{Replayed, run_in}
use Rattle.rule_modules.specs.Chain.{State, shared_in}
use Rattle.rule_modules.specs.Owed.{entry_balances}
use Rattle.rule_modules.specs.Purses.{purse_of}
use Rattle.rule_modules.specs.Sound.{IsSound}

-- No account holds more than 10^18 of a denomination; so all tokens of bonded validators are at most as many, and those of the
-- others with all entries of unbondings; and what is outstanding for a validator and in the pool, in units of 10^-18.
pub record AreInRange (w : State) : Type 0 where
  pub balances : (who : Account) (d : List ℕ) → balance_of w.view.bank who d ≤ 10 ^ 18
  pub bonded : bonded_tokens w.mine.staked ≤ 10 ^ 18
  pub others : other_tokens w.mine.staked + entry_balances w.mine.unbondings ≤ 10 ^ 18
  pub outstanding : (operator d : List ℕ) → amount_of (purse_of (shared_in w).purses operator).outstanding d ≤ 10 ^ 36
  pub pool : (d : List ℕ) → amount_of (shared_in w).purses.pool d ≤ 10 ^ 36

-- It is so in every sound state,
abbrev pub SoundIsInRange : Type 0
SoundIsInRange = (w : State) → IsSound w → AreInRange w

-- and so wherever a good genesis and blocks lead to.
abbrev pub RunsAreInRange : Type 0
RunsAreInRange = (r : Replayed) → AreInRange (run_in r).state
