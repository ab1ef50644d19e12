-- Worked rows of how transactions end: creations that are refused, and, block by block, rates that change and messages that are undone.
use Rattle.std.specs.Prelude.{◌≡◌, ℕ, ◌+◌, ◌*◌, ◌^◌, List, [], ◌∷◌, Some, None, map, Ok}
use Rattle.base_roles.specs.declared.refusal.Refusal.TheVariants.{InsufficientFunds, ValidatorExists, ConsKeyExists, CommissionTooSoon, CommissionAboveMax, CommissionStep}
use Rattle.base_messages.specs.declared.block.Block.{Block}
use Rattle.base_messages.specs.declared.block.Tx.{Tx}
use Rattle.base_messages.specs.declared.genesis.Genesis.{Genesis}
use Rattle.base_messages.specs.declared.message.Msg.{Msg}
use Rattle.base_messages.specs.declared.message.Msg.TheVariants as msg
use Rattle.base_messages.specs.declared.report.Outcome.{Outcome}
use Rattle.base_messages.specs.declared.report.Outcome.TheVariants.{Accepted, Refused}
use Rattle.rule_modules.specs.Amounts.{seconds}
use Rattle.rule_modules.specs.Fixtures.{addr, cons, coin, time_of}
use Rattle.rule_machine.specs.Machine.{Run}
use Rattle.rule_histories.specs.WholeRows.{ran, outcomes_in, holds, operates, two_validators, with_second, block_of, pays}

-- how the transactions of each block end
abbrev pub outcomes_of : Run → List (List Outcome)
outcomes_of r = map (λ b. map (λ t. t.outcome) b.txs) r.reports

-- a user becomes the operator of a validator of a rate of 0.1, with a consensus address and an amount of its own
abbrev pub creation : ℕ → ℕ → ℕ → Msg
creation who address amount = msg.CreateValidator (record {
  validator = addr who;
  cons = cons address;
  rate = 10 ^ 17;
  max_rate = 10 ^ 18;
  max_change_rate = 10 ^ 18;
  min_self_delegation = 1;
  amount = coin amount;
})

-- An operator that exists, with a new consensus address; a new operator with one that exists; one unit more than user 3 has.
abbrev pub CreationsAreRefused : Type 0
CreationsAreRefused =
    outcomes_in (pays 1 0 (creation 1 9 1 ∷ []) ∷ pays 3 0 (creation 3 2 1 ∷ []) ∷ pays 3 0 (creation 3 3 1001 ∷ []) ∷ [])
    ≡ Ok (Refused 0 ValidatorExists ∷ Refused 0 ConsKeyExists ∷ Refused 0 InsufficientFunds ∷ [])

-- a user delegates so many uatom to an operator
abbrev pub delegation : ℕ → ℕ → ℕ → Msg
delegation who operator amount = msg.Delegate (record { delegator = addr who; validator = addr operator; amount = coin amount })

-- an operator asks for a rate
abbrev pub rate_of : ℕ → ℕ → Msg
rate_of operator rate = msg.EditValidator (record { validator = addr operator; rate = Some rate; min_self_delegation = None })

-- a rate of 0.1, which may rise by 0.01 at a time, and up to 0.2
abbrev pub slow_rates : Genesis
slow_rates = with_second (record (operates 2 (10 ^ 17)) { max_rate = 2 * 10 ^ 17; max_change_rate = 10 ^ 16 })

-- a block so many seconds after the genesis
abbrev pub block_after : ℕ → ℕ → List Tx → Block
block_after height after txs = record (block_of height [] [] txs) { time = time_of 0 + seconds after }

-- 0.11 is too soon a second before the day is over, and accepted then; a day later 0.13 is too high a step, 0.3 above the
-- highest, and 0.01 accepted.
abbrev pub RatesChangeDayByDay : Type 0
RatesChangeDayByDay =
    ran slow_rates (
    block_after 1 86399 (pays 2 0 (rate_of 2 (11 * 10 ^ 16) ∷ []) ∷ [])
    ∷ block_after 2 86400 (pays 2 0 (rate_of 2 (11 * 10 ^ 16) ∷ []) ∷ [])
    ∷ block_after 3 172800 (pays 2 0 (rate_of 2 (13 * 10 ^ 16) ∷ []) ∷ pays 2 0 (rate_of 2 (3 * 10 ^ 17) ∷ []) ∷ pays 2 0 (rate_of 2 (10 ^ 16) ∷ []) ∷ [])
    ∷ [])
    outcomes_of
    ≡ Ok ((Refused 0 CommissionTooSoon ∷ []) ∷ (Accepted ∷ []) ∷ (Refused 0 CommissionStep ∷ Refused 0 CommissionAboveMax ∷ Accepted ∷ []) ∷ [])

-- user 3 has 2,000,000 and user 4 has 500
abbrev pub two_users : Genesis
two_users = record two_validators { accounts = holds 3 2000000 ∷ holds 4 500 ∷ [] }

-- User 3 creates a validator with 1,000,000 and a fee of 7, and user 4 delegates all it has behind its fee of 5. Then user 3
-- delegates, and creates again, which is refused, so both are undone and the fee of 1 stays.
abbrev pub two_blocks : List Block
two_blocks =
    block_of 1 [] [] (pays 3 7 (creation 3 3 1000000 ∷ []) ∷ pays 4 5 (delegation 4 3 495 ∷ []) ∷ [])
    ∷ block_of 2 [] [] (pays 3 1 (delegation 3 1 100 ∷ creation 3 4 1 ∷ []) ∷ [])
    ∷ []

abbrev pub TwoBlocksEnd : Type 0
TwoBlocksEnd = ran two_users two_blocks outcomes_of ≡ Ok ((Accepted ∷ Accepted ∷ []) ∷ (Refused 1 ValidatorExists ∷ []) ∷ [])
