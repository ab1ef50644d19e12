-- Worked rows of summaries.
use Rattle.std.specs.Prelude.{◌≡◌, ℕ, List, [], ◌∷◌, ◌++◌, codes, None, Result, Ok, Err}
use Rattle.base_messages.specs.declared.faults.BlockFault.TheVariants.{BadHeight}
use Rattle.rule_histories.specs.LifeRows.{two_powers, first, second, third, fourth}
use Rattle.rule_histories.specs.WholeRows.{ran}
use Rattle.run_generated.specs.Input.{first_genesis}
use Rattle.rule_machine.specs.GenesisConditions.{start_condition}
use Rattle.run_trial.specs.Summary.{Stopped, run_outcome}
use Rattle.run_trial.specs.Trial.{trial_of}

-- Four blocks with seven transactions, of which an undelegation of too much and a request to leave jail are refused. Evidence
-- burns 20,000 of an unbonding entry and 30,000 of a validator, of a supply of 5,001,000.
abbrev pub FourBlocks : Type 0
FourBlocks =
    ran {A = Result (List ℕ) Stopped} two_powers (first ∷ second ∷ third ∷ fourth ∷ []) run_outcome
    ≡ Ok (Ok (codes "{\"accepted\":5,\"blocks\":4,\"burned\":\"50000\",\"kind\":\"trial\","
    ++ codes "\"pool\":[{\"amount\":\"51.999999999997000300\",\"denom\":\"uatom\"}],\"refused\":2,"
    ++ codes "\"supply\":[{\"amount\":\"4951000\",\"denom\":\"uatom\"}]}\n"))

-- Where the second block comes again, it is the fourth line.
abbrev pub BlockComesAgain : Type 0
BlockComesAgain =
    ran {A = Result (List ℕ) Stopped} two_powers (first ∷ second ∷ second ∷ []) run_outcome
    ≡ Ok (Err (record { line = 4; fault = BadHeight 3 }))

-- ---- the generated input, as a second program has it

-- no condition keeps its genesis from starting a chain
abbrev pub GenesisMayStart : Type 0
GenesisMayStart = start_condition first_genesis ≡ None

-- of the first block's three transactions an undelegation is refused, and nothing is shared yet
abbrev pub OneBlock : Type 0
OneBlock =
    trial_of 0 1
    ≡ Ok (Ok (codes "{\"accepted\":2,\"blocks\":1,\"burned\":\"0\",\"kind\":\"trial\",\"pool\":[],\"refused\":1,"
    ++ codes "\"supply\":[{\"amount\":\"40100000000\",\"denom\":\"uatom\"}]}\n"))

-- evidence in the second block burns a twentieth of a validator's 10,000,000, and the tax on 2,000 joins the pool
abbrev pub TwoBlocksWithEvidence : Type 0
TwoBlocksWithEvidence =
    trial_of 101 2
    ≡ Ok (Ok (codes "{\"accepted\":1,\"blocks\":2,\"burned\":\"500000\",\"kind\":\"trial\","
    ++ codes "\"pool\":[{\"amount\":\"40.000000000000000000\",\"denom\":\"uatom\"}],\"refused\":2,"
    ++ codes "\"supply\":[{\"amount\":\"40099500000\",\"denom\":\"uatom\"}]}\n"))
