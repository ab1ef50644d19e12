-- Worked pairs, each by computing: their notes and facts, and the statements that these come to.
use Rattle.std.specs.Prelude.{◌≡◌, ℕ, ◌*◌, ◌^◌, false, List, [], ◌∷◌, ◌++◌, None, Some, Ok, Err}
use Rattle.base_decimals.specs.Decimals.{quotient_over}
use Rattle.base_types.specs.declared.account.Account.TheVariants as account
use Rattle.base_types.specs.declared.account.Module.TheVariants as holder
use Rattle.base_types.specs.declared.status.BondStatus.TheVariants.{Bonded}
use Rattle.base_roles.specs.declared.entities.Validator.{Validator}
use Rattle.base_roles.specs.declared.facts.Fact.{Fact}
use Rattle.base_roles.specs.declared.facts.Fact.TheVariants as fact
use Rattle.rule_modules.specs.Fixtures.{addr, coins, decimals}
use Rattle.mod_statement.specs.declared.entry.Entry.{Entry}
use Rattle.mod_statement.specs.declared.entry.Entry.TheVariants.{Started, Allocated, Ended, Slashed, Touched}
use Rattle.mod_statement.specs.declared.fault.StatementFault.TheVariants as fault
use Rattle.mod_statement.specs.declared.statement.Statement.{Statement}
use Rattle.mod_statement.specs.Answers.{stated}
use Rattle.mod_statement.specs.Worked.{in_uatom, one_period, thirds}
use Rattle.mod_recorder.specs.declared.note.Note.{Note}
use Rattle.mod_tracking.specs.declared.tracker.Pair.{Pair}
use Rattle.mod_tracking.specs.Stating.{block_taken, taken}
use Rattle.mod_tracking.specs.Tracking.{Tracked, block_followed, tracked, unpaid, untracked}

-- the second user as the delegator, the first as the operator
abbrev pub pair : Pair
pair = record { delegator = addr 2; operator = addr 1 }

-- the operator's validator with so many tokens, as many whole shares, and a rate
abbrev pub validator : ℕ → ℕ → Validator
validator tokens rate = record {
  operator = addr 1;
  cons = addr 3;
  status = Bonded;
  jailed = false;
  tokens = tokens;
  shares = tokens * 10 ^ 18;
  commission = record { rate = rate; max_rate = 10 ^ 18; max_change = 10 ^ 18; updated = 0 };
  min_self = 1;
  unbonding_height = 0;
  unbonding_time = 0;
}

-- the rewards of this user's delegation begin, behind so many facts
abbrev pub start_noted : ℕ → ℕ → ℕ → ℕ → Note
start_noted who facts amount tokens = record {
  operator = addr 1;
  delegator = Some (addr who);
  facts = facts;
  entry = Some (Started (amount * 10 ^ 18) tokens (tokens * 10 ^ 18));
}

-- an entry of somebody else, or of all, behind so many facts
abbrev pub noted_at : ℕ → Entry → Note
noted_at facts entry = record { operator = addr 1; delegator = Some (addr 1); facts = facts; entry = Some entry }

-- ---- a genesis

-- the operator's delegation of 1,000,000, then the delegator's of 2,000,000, each behind the end of a period
abbrev pub told_at_start : List Fact
told_at_start =
    fact.Period (addr 1) 1 []
    ∷ fact.Started (addr 1) (addr 1) 1 (1000000 * 10 ^ 18)
    ∷ fact.Period (addr 1) 2 []
    ∷ fact.Started (addr 2) (addr 1) 2 (2000000 * 10 ^ 18)
    ∷ fact.Changed (addr 1) Bonded
    ∷ []

-- the validator is created, and each delegation's rewards begin
abbrev pub noted_at_start : List Note
noted_at_start =
    record { operator = addr 1; delegator = None; facts = 0; entry = None }
    ∷ start_noted 1 2 1000000 1000000
    ∷ start_noted 2 4 2000000 3000000
    ∷ []

-- what stands then of the pair: its start, of 2,000,000 of 3,000,000
abbrev pub started_pair : Tracked
started_pair = tracked (Started (2000000 * 10 ^ 18) 3000000 (3000000 * 10 ^ 18) ∷ []) 0 []

abbrev pub StartIsFollowed : Type 0
StartIsFollowed = block_followed pair None told_at_start noted_at_start untracked ≡ unpaid started_pair

-- ---- a withdrawal

-- a share of fees is allocated; the delegator withdraws, which ends a period, and its rewards begin anew
abbrev pub withdrawal : ℕ → ℕ → ℕ → ℕ → List Fact
withdrawal share ratio reward whole =
    fact.Allocated (addr 1) (decimals share)
    ∷ fact.Period (addr 1) 3 (decimals ratio)
    ∷ fact.Transfer (account.Module holder.Distribution) (account.User (addr 2)) (coins whole)
    ∷ fact.Paid (addr 2) (addr 1) (addr 2) (decimals reward) (coins whole)
    ∷ fact.Started (addr 2) (addr 1) 3 (2000000 * 10 ^ 18)
    ∷ []

-- Of a share of 980 a tenth is commission: two thirds of 882 are 588, and behind the payment the rewards begin anew.
abbrev pub BehindCommission : Type 0
BehindCommission =
    block_taken (Some pair) (Some (validator 3000000 (10 ^ 17))) 7 (withdrawal (980 * 10 ^ 18) (294 * 10 ^ 12) (588 * 10 ^ 18) 588)
    (start_noted 2 5 2000000 3000000 ∷ []) started_pair
    ≡ Ok (
    taken (record started_pair { ratio = decimals (294 * 10 ^ 12) })
    (stated (addr 2) (addr 1) 7 (decimals (588 * 10 ^ 18)) 0 (decimals (294 * 10 ^ 12)) (one_period (882 * 10 ^ 18))
    (in_uatom (588 * 10 ^ 18) (588 * 10 ^ 18) 2000590)
    ∷ []))

-- Of 1,000 without commission two thirds are no decimal.
abbrev pub WithoutCommission : Type 0
WithoutCommission =
    block_taken (Some pair) (Some (validator 3000000 0)) 7 (withdrawal (1000 * 10 ^ 18) 333333333333333 666666666666666000000 666)
    (start_noted 2 5 2000000 3000000 ∷ []) started_pair
    ≡ Ok (
    taken (record started_pair { ratio = decimals 333333333333333 })
    (stated (addr 2) (addr 1) 7 (decimals 666666666666666000000) 0 (decimals 333333333333333) (one_period (1000 * 10 ^ 18)) thirds ∷ []))

-- ---- what others do

-- A slash of 100,000 of 3,000,000 ends a period, and so do shares of another delegation that are about to change.
abbrev pub OthersAreFollowed : Type 0
OthersAreFollowed =
    block_followed pair (Some (validator 3000000 0))
    (fact.Period (addr 1) 3 []
    ∷ fact.Slashed (addr 1) 33333333333333334 100000
    ∷ fact.Period (addr 1) 4 (decimals 7)
    ∷ fact.Paid (addr 1) (addr 1) (addr 1) (decimals 9) (coins 0)
    ∷ [])
    (noted_at 1 (Slashed 100000 3000000) ∷ noted_at 4 Touched ∷ start_noted 1 4 900000 2900000 ∷ []) started_pair
    ≡ unpaid (
    tracked
    (Started (2000000 * 10 ^ 18) 3000000 (3000000 * 10 ^ 18) ∷ Ended ∷ Slashed 100000 3000000 ∷ Ended ∷ Touched ∷ []) 1
    (decimals 7))

-- ---- no statement

-- a delegation of one whole share of one token
abbrev pub alone : Tracked
alone = tracked (Started (10 ^ 18) 1 (10 ^ 18) ∷ []) 0 []

-- A payment whose slack is over has none, nor has one without a start.
abbrev pub NoStatements : Type 0
NoStatements =
    (block_taken (Some pair) (Some (validator 1 0)) 7
    (fact.Allocated (addr 1) (decimals (6 * 10 ^ 37)) ∷ fact.Period (addr 1) 3 [] ∷ fact.Paid (addr 2) (addr 1) (addr 2) [] [] ∷ []) [] alone
    ≡ Err (fault.Over (quotient_over (2 * 10 ^ 18) (6 * 10 ^ 37) (10 ^ 18))))
    × (block_taken (Some pair) None 7 (fact.Paid (addr 2) (addr 1) (addr 2) [] [] ∷ []) [] untracked ≡ Err fault.NoSpan)
    × (block_taken None None 7 (fact.Paid (addr 2) (addr 1) (addr 2) [] [] ∷ []) [] untracked ≡ Ok (taken untracked []))
