-- Worked rows of the whole machine: geneses that start nothing, blocks that may not follow, transactions of single messages.
use Rattle.std.specs.Prelude.{◌≡◌, ℕ, ◌+◌, ◌-◌, ◌*◌, ◌^◌, List, [], ◌∷◌, Option, Some, None, map, codes, Result, Ok}
use Rattle.base_decimals.specs.declared.over.OverKind.TheVariants as kind
use Rattle.base_types.specs.declared.account.Account.{Account}
use Rattle.base_types.specs.declared.account.Account.TheVariants as account
use Rattle.base_types.specs.declared.account.Module.TheVariants as holder
use Rattle.base_roles.specs.declared.messages.Evidence.{Evidence}
use Rattle.base_roles.specs.declared.messages.Vote.{Vote}
use Rattle.base_roles.specs.declared.refusal.Refusal.{Refusal}
use Rattle.base_roles.specs.declared.refusal.Refusal.TheVariants.{ModuleRecipient, WrongDenom, NonPositive, NoValidator, NoCommission}
use Rattle.base_roles.specs.Ground.{end_of_blocks}
use Rattle.base_roles.specs.Flow.{◌>>=◌}
use Rattle.base_messages.specs.declared.block.Block.{Block}
use Rattle.base_messages.specs.declared.block.Tx.{Tx}
use Rattle.base_messages.specs.declared.faults.BlockFault.{BlockFault}
use Rattle.base_messages.specs.declared.faults.BlockFault.TheVariants.{BadHeight, BadTime, UnknownVote, RepeatedVote, BadPower, BadEvidence, RatioLimit}
use Rattle.base_messages.specs.declared.genesis.Genesis.{Genesis}
use Rattle.base_messages.specs.declared.genesis.GenesisAccount.{GenesisAccount}
use Rattle.base_messages.specs.declared.genesis.GenesisDelegation.{GenesisDelegation}
use Rattle.base_messages.specs.declared.genesis.GenesisValidator.{GenesisValidator}
use Rattle.base_messages.specs.declared.message.Msg.{Msg}
use Rattle.base_messages.specs.declared.message.Msg.TheVariants as msg
use Rattle.base_messages.specs.declared.report.Outcome.{Outcome}
use Rattle.base_messages.specs.declared.report.Outcome.TheVariants.{Accepted, FeeUnpaid, Refused}
use Rattle.rule_modules.specs.Chain.{State, shared_in, window_in}
use Rattle.rule_modules.specs.Fixtures.{addr, cons, user, uatom, coins, decimals, params, time_of, signs, misses}
use Rattle.rule_modules.specs.Periods.{Periods}
use Rattle.rule_machine.specs.GenesisConditions.{start_condition}
use Rattle.rule_machine.specs.GenesisState.{chain_started}
use Rattle.rule_machine.specs.Machine.{Run, run_of, txs_applied}

-- ---- words

-- user n has so many uatom
abbrev pub holds : ℕ → ℕ → GenesisAccount
holds n amount = record { address = user n; coins = coins amount }

-- validator n, of a rate that may become anything, with a least self-delegation of 1
abbrev pub operates : ℕ → ℕ → GenesisValidator
operates n rate = record {
  operator = addr n;
  cons = cons n;
  rate = rate;
  max_rate = 10 ^ 18;
  max_change_rate = 10 ^ 18;
  min_self_delegation = 1;
}

-- a user delegates so many uatom to an operator
abbrev pub delegates : ℕ → ℕ → ℕ → GenesisDelegation
delegates who operator amount = record { delegator = addr who; validator = addr operator; amount = amount }

-- a block at the time of its height
abbrev pub block_of : ℕ → List Vote → List Evidence → List Tx → Block
block_of height votes evidence txs = record { height = height; time = time_of height; votes = votes; evidence = evidence; txs = txs }

-- a transaction of a user, with a fee
abbrev pub pays : ℕ → ℕ → List Msg → Tx
pays who fee msgs = record { payer = addr who; fee = coins fee; msgs = msgs }

-- what is asked of a run from a genesis
abbrev pub ran : {A : Type 0} → Genesis → List Block → (Run → A) → Result A Refusal
ran g blocks f = do
  s ← chain_started g
  Ok (f (run_of blocks s.state))

-- the fault at which a run ends
abbrev pub fault_of : Genesis → List Block → Result (Option BlockFault) Refusal
fault_of g blocks = ran g blocks (λ r. r.fault)

-- ---- geneses that start nothing

-- two validators of 1,000,000 each, and a user with 1,000
abbrev pub two_validators : Genesis
two_validators = record {
  time = time_of 0;
  params = params;
  accounts = holds 3 1000 ∷ [];
  validators = operates 1 0 ∷ operates 2 (10 ^ 17) ∷ [];
  delegations = delegates 1 1 1000000 ∷ delegates 2 2 1000000 ∷ [];
}

-- the same genesis with another second validator
abbrev pub with_second : GenesisValidator → Genesis
with_second v = record two_validators { validators = operates 1 0 ∷ v ∷ [] }

-- the same genesis with one more delegation
abbrev pub with_third : GenesisDelegation → Genesis
with_third d = record two_validators { delegations = delegates 1 1 1000000 ∷ delegates 2 2 1000000 ∷ d ∷ [] }

-- a genesis starts a chain
abbrev pub MayStartChain : Type 0
MayStartChain = start_condition two_validators ≡ None

-- a parameter out of range, and a module's account
abbrev pub WrongBeginnings : Type 0
WrongBeginnings =
    (start_condition (record two_validators { params = record params { max_entries = 101 } }) ≡ Some 1)
    × (start_condition (record two_validators { time = end_of_blocks }) ≡ Some 1)
    × (start_condition (record two_validators { accounts = record { address = account.Module holder.Bonded; coins = [] } ∷ [] }) ≡ Some 2)

-- an operator twice; a consensus address twice
abbrev pub ValidatorsTwice : Type 0
ValidatorsTwice =
    (start_condition (with_second (record (operates 1 0) { cons = cons 2 })) ≡ Some 3)
    × (start_condition (with_second (record (operates 2 0) { cons = cons 1 })) ≡ Some 4)

-- a highest rate above 1, a rate and a change above the highest, a rate below the minimum; no least self-delegation
abbrev pub WrongRates : Type 0
WrongRates =
    (start_condition (with_second (record (operates 2 0) { max_rate = 10 ^ 18 + 1 })) ≡ Some 5)
    × (start_condition (with_second (record (operates 2 (10 ^ 17)) { max_rate = 10 ^ 16; max_change_rate = 0 })) ≡ Some 5)
    × (start_condition (with_second (record (operates 2 0) { max_rate = 10 ^ 16; max_change_rate = 10 ^ 17 })) ≡ Some 5)
    × (start_condition (record two_validators { params = record params { min_commission_rate = 10 ^ 16 } }) ≡ Some 5)
    × (start_condition (with_second (record (operates 2 0) { min_self_delegation = 0 })) ≡ Some 6)

-- a delegation to nobody, a second one of a pair, one of nothing; a validator without any
abbrev pub WrongDelegations : Type 0
WrongDelegations =
    (start_condition (with_third (delegates 3 4 1)) ≡ Some 7)
    × (start_condition (with_third (delegates 2 2 1)) ≡ Some 8)
    × (start_condition (with_third (delegates 3 2 0)) ≡ Some 9)
    × (start_condition (record two_validators { delegations = delegates 1 1 1000000 ∷ [] }) ≡ Some 10)

-- 1,000 in an account and 10^18 - 999 delegated; one less is not too much
abbrev pub TooMuchDelegated : Type 0
TooMuchDelegated =
    (start_condition (with_third (delegates 3 1 (10 ^ 18 - 2000999))) ≡ Some 11)
    × (start_condition (with_third (delegates 3 1 (10 ^ 18 - 2001000))) ≡ None)

-- of two conditions the first is named: an operator twice, and a delegation of nothing
abbrev pub FirstIsNamed : Type 0
FirstIsNamed = start_condition (record (with_third (delegates 3 2 0)) { validators = operates 1 0 ∷ operates 1 0 ∷ [] }) ≡ Some 3

-- ---- blocks that may not follow

-- the fault of a first block with these votes and this evidence
abbrev pub first_block : List Vote → List Evidence → Result (Option BlockFault) Refusal
first_block votes evidence = fault_of two_validators (block_of 1 votes evidence [] ∷ [])

-- both votes are good
abbrev pub both_sign : List Vote
both_sign = signs 1 1 ∷ signs 2 1 ∷ []

-- height 3 after height 1: 2 was due, whatever else is wrong; a time before the last, and one past the year 9899
abbrev pub WrongPlaces : Type 0
WrongPlaces =
    (fault_of two_validators (block_of 1 [] [] [] ∷ record (block_of 3 (signs 7 1 ∷ []) [] []) { time = 0 } ∷ []) ≡ Ok (Some (BadHeight 2)))
    × (fault_of two_validators (record (block_of 1 [] [] []) { time = time_of 0 - 1 } ∷ []) ≡ Ok (Some (BadTime (time_of 0))))
    × (fault_of two_validators (record (block_of 1 [] [] []) { time = time_of 0 } ∷ []) ≡ Ok None)
    × (fault_of two_validators (record (block_of 1 [] [] []) { time = end_of_blocks } ∷ []) ≡ Ok (Some (BadTime (time_of 0))))

-- a vote of nobody; a second vote of a validator; votes of together more than 10^18 tokens, and of just as many
abbrev pub WrongVotes : Type 0
WrongVotes =
    (first_block both_sign [] ≡ Ok None)
    × (first_block (signs 1 1 ∷ signs 7 1 ∷ []) [] ≡ Ok (Some (UnknownVote 1)))
    × (first_block (signs 1 1 ∷ misses 1 0 ∷ []) [] ≡ Ok (Some (RepeatedVote 1)))
    × (first_block (signs 1 (10 ^ 12) ∷ signs 2 1 ∷ []) [] ≡ Ok (Some (BadPower 1)))
    × (first_block (signs 1 (10 ^ 12 - 1) ∷ signs 2 1 ∷ []) [] ≡ Ok None)

-- evidence against a validator, of a height, a time and a power
abbrev pub evidence_of : ℕ → ℕ → ℕ → Evidence
evidence_of height time power = record { cons = cons 2; height = height; time = time; power = power }

-- the fault of a second block with this evidence
abbrev pub second_block : List Evidence → Result (Option BlockFault) Refusal
second_block evidence = fault_of two_validators (block_of 1 [] [] [] ∷ block_of 2 [] evidence [] ∷ [])

-- evidence of height 0, of this height, of a later time, of too much power; and one that may be
abbrev pub WrongEvidence : Type 0
WrongEvidence =
    (second_block (evidence_of 0 0 1 ∷ []) ≡ Ok (Some (BadEvidence 0)))
    × (second_block (evidence_of 1 0 1 ∷ evidence_of 2 0 1 ∷ []) ≡ Ok (Some (BadEvidence 1)))
    × (second_block (evidence_of 1 (time_of 2 + 1) 1 ∷ []) ≡ Ok (Some (BadEvidence 0)))
    × (second_block (evidence_of 1 (time_of 2) (10 ^ 12 + 1) ∷ []) ≡ Ok (Some (BadEvidence 0)))
    × (second_block (evidence_of 1 (time_of 2) (10 ^ 12) ∷ []) ≡ Ok None)

-- votes come before evidence, and of a vote's faults the unknown validator first
abbrev pub VotesComeFirst : Type 0
VotesComeFirst = first_block (signs 7 (10 ^ 13) ∷ []) (evidence_of 0 0 1 ∷ []) ≡ Ok (Some (UnknownVote 0))

-- the state of the two validators, whose periods are these
abbrev pub with_periods_of_both : Periods → State → State
with_periods_of_both p w = record w {
  hooks = (record (shared_in w) { rewards = record (shared_in w).rewards { periods = (addr 1, p) ∷ (addr 2, p) ∷ [] } }, window_in w);
}

-- a fee of 1,000, which goes to the second validator, against whom there is evidence, which ends its period
abbrev pub fee_and_evidence : List Block
fee_and_evidence = block_of 1 [] [] (pays 3 1000 [] ∷ []) ∷ block_of 2 (signs 2 1 ∷ []) (evidence_of 1 (time_of 1) 1 ∷ []) [] ∷ []

-- the fault of these blocks where the periods before them are these
abbrev pub fault_with_periods : Periods → Result (Option BlockFault) Refusal
fault_with_periods p = do
  s ← chain_started two_validators
  Ok (run_of fee_and_evidence (with_periods_of_both p s.state)).fault

-- A ratio of one unit below the limit, to which 0.0009 would be added; and a period at its limit. A genesis leads there
-- only after very many blocks, so the states before the two blocks are set up by hand.
abbrev pub LimitsOfBeginnings : Type 0
LimitsOfBeginnings =
    (fault_with_periods (record { current = 2; ratios = (1, decimals (10 ^ 38 - 1)) ∷ []; events = [] })
    ≡ Ok (Some (RatioLimit (record { kind = kind.Sum; a = 10 ^ 38 - 1; b = 9 * 10 ^ 14; c = 0 }))))
    × (fault_with_periods (record { current = 10 ^ 18; ratios = (10 ^ 18 - 1, []) ∷ []; events = [] })
    ≡ Ok (Some (RatioLimit (record { kind = kind.Period; a = 10 ^ 18; b = 0; c = 0 }))))

-- ---- transactions

-- how the transactions of a first block end
abbrev pub outcomes_in : List Tx → Result (List Outcome) Refusal
outcomes_in txs = do
  s ← chain_started two_validators
  Ok (map (λ r. r.outcome) (txs_applied txs s.state).reports)

-- a delegation of n of a denomination by user 3 to an operator
abbrev pub delegation_of : List ℕ → ℕ → ℕ → Msg
delegation_of denom n operator = msg.Delegate (record { delegator = addr 3; validator = addr operator; amount = record { denom = denom; amount = n } })

-- user 3 sends coins to an account
abbrev pub sending : Account → ℕ → Msg
sending to n = msg.Send (record { from = addr 3; to = to; coins = coins n })

-- A fee that is not there; a send to a module, and one of nothing; another denomination; an unknown validator after a good message, which is undone with it;
-- the same good message alone; a commission that is empty.
abbrev pub OutcomesOfMessages : Type 0
OutcomesOfMessages =
    outcomes_in (
    pays 3 1001 []
    ∷ pays 3 0 (sending (account.Module holder.Bonded) 1 ∷ [])
    ∷ pays 3 0 (sending (user 1) 0 ∷ [])
    ∷ pays 3 0 (delegation_of (codes "uosmo") 1 1 ∷ [])
    ∷ pays 3 1 (delegation_of uatom 999 1 ∷ delegation_of uatom 1 7 ∷ [])
    ∷ pays 3 0 (delegation_of uatom 999 1 ∷ [])
    ∷ pays 3 0 (msg.WithdrawCommission (record { validator = addr 2 }) ∷ [])
    ∷ [])
    ≡ Ok (FeeUnpaid ∷ Refused 0 ModuleRecipient ∷ Refused 0 NonPositive ∷ Refused 0 WrongDenom ∷ Refused 1 NoValidator ∷ Accepted ∷ Refused 0 NoCommission ∷ [])
