-- Worked rows of the generated input, which were made by a second program that was written from its description alone.
use Rattle.std.specs.Prelude.{◌≡◌, ℕ, ◌+◌, Bool, true, false, List, [], ◌∷◌, ◌++◌, map, replicate, codes}
use Rattle.base_types.specs.declared.account.Account.TheVariants as account
use Rattle.base_bech32.specs.declared.form.Form.TheVariants.{Hex, Bech32}
use Rattle.base_roles.specs.declared.messages.Evidence.{Evidence}
use Rattle.base_roles.specs.declared.messages.Vote.{Vote}
use Rattle.base_messages.specs.declared.block.Block.{Block}
use Rattle.base_messages.specs.declared.genesis.Genesis.{Genesis}
use Rattle.base_messages.specs.declared.message.Msg.TheVariants as msg
use Rattle.run_generated.specs.declared.choices.Choices.{Choices}
use Rattle.run_generated.specs.Drawing.{pick}
use Rattle.run_generated.specs.Input.{account_at, address, block_drawn, coin, delegation_at, first_genesis, message_of, payer_of, signer, time_at, tx_of, uatom, validator_at}
use Rattle.run_generated.specs.Lines.{block_line, genesis_line}

-- ---- draws

-- the least seed and the greatest
pub record FirstDraws : Type 0 where
  pub least : pick 6 0 ≡ record { value = 5; state = 1442695040888963407 }
  pub greatest : pick 40 18446744073709551615 ≡ record { value = 8; state = 13525302890751722018 }

-- ---- messages

-- what was drawn of a transaction
abbrev pub chosen : ℕ → ℕ → ℕ → ℕ → ℕ → Choices
chosen kind delegator validator amount other =
    record { kind = kind; delegator = delegator; validator = validator; amount = amount; other = other }

-- a message of each kind
pub record MessagesOfKinds : Type 0 where
  pub delegation : message_of (chosen 0 22 5 732981 22)
      ≡ msg.Delegate (record { delegator = address 22; validator = address 5; amount = coin 732981 })
  pub undelegation : message_of (chosen 1 28 1 416484 14)
      ≡ msg.Undelegate (record { delegator = address 28; validator = address 1; amount = coin 416484 })
  pub redelegation : message_of (chosen 2 16 6 321792 25)
      ≡ msg.BeginRedelegate (record { delegator = address 16; source = address 6; target = address 5; amount = coin 321792 })
  pub reward : message_of (chosen 3 12 0 145950 2) ≡ msg.WithdrawReward (record { delegator = address 12; validator = address 0 })
  pub commission : message_of (chosen 4 14 6 492380 17) ≡ msg.WithdrawCommission (record { validator = address 6 })
  pub payment : message_of (chosen 5 17 8 905614 3)
      ≡ msg.Send (record { from = address 17; to = account.User (address 3); coins = (uatom, 905614) ∷ [] })
  pub commission_paid : payer_of (chosen 4 14 6 492380 17) ≡ address 6
  pub payment_paid : payer_of (chosen 5 17 8 905614 3) ≡ address 17

-- ---- blocks

-- votes from a number on, cast or missed
abbrev pub votes_as : ℕ → List Bool → List Vote
votes_as n [] = []
votes_as n (cast ∷ others) = record { cons = signer n; power = 10; signed = cast } ∷ votes_as (n + 1) others

-- a block
abbrev pub block_as : ℕ → List Bool → List Evidence → List Choices → Block
block_as height cast evidence choices =
    record { height = height; time = time_at height; votes = votes_as 0 cast; evidence = evidence; txs = map tx_of choices }

-- all ten votes were cast
abbrev pub all_cast : List Bool
all_cast = replicate 10 true

-- the first blocks of the seed 0, each from the state that the one before leaves
pub record BlocksOfZero : Type 0 where
  pub first : block_drawn 1 0
      ≡ record {
        value = block_as 1 all_cast
            []
            (chosen 0 22 5 732981 22 ∷ chosen 1 28 1 416484 14 ∷ chosen 5 17 8 905614 3 ∷ []);
        state = 8360805673751372010;
      }
  pub second : block_drawn 2 8360805673751372010
      ≡ record {
        value = block_as 2 all_cast
            []
            (chosen 4 14 6 492380 17 ∷ chosen 1 11 2 132408 27 ∷ chosen 2 16 6 321792 25 ∷ []);
        state = 17784833068168364323;
      }
  pub third : block_drawn 3 17784833068168364323
      ≡ record {
        value = block_as 3 all_cast
            []
            (chosen 2 12 9 644437 14 ∷ []);
        state = 10351621034792545606;
      }

-- the first block of the seed 7, and those of the greatest seed
pub record BlocksOfOthers : Type 0 where
  pub seven : block_drawn 1 7
      ≡ record {
        value = block_as 1 all_cast
            []
            (chosen 3 12 0 145950 2 ∷ chosen 3 19 6 473952 16 ∷ chosen 1 14 8 498654 24 ∷ []);
        state = 14730008713510699753;
      }
  pub greatest : block_drawn 1 18446744073709551615
      ≡ record {
        value = block_as 1 (true ∷ true ∷ true ∷ true ∷ true ∷ true ∷ true ∷ true ∷ false ∷ true ∷ [])
            []
            (chosen 2 30 8 895279 0 ∷ chosen 5 32 8 403603 1 ∷ chosen 2 21 5 318558 37 ∷ []);
        state = 2180421218440167585;
      }
  pub behind_greatest : block_drawn 2 2180421218440167585
      ≡ record {
        value = block_as 2 all_cast
            []
            [];
        state = 16730333342781253293;
      }

-- the second block of the seed 101 has evidence and three missed votes
pub record BlockWithEvidence : Type 0 where
  pub second : block_drawn 2 1896035641681075220
      ≡ record {
        value = block_as 2 (false ∷ true ∷ true ∷ true ∷ true ∷ true ∷ true ∷ false ∷ false ∷ true ∷ [])
            (record { cons = signer 6; height = 1; time = time_at 1; power = 10 } ∷ [])
            (chosen 1 15 6 272071 31 ∷ []);
        state = 579170079771326262;
      }

-- ---- lines, whose addresses are in hexadecimal digits

-- the genesis with its last account, validator and delegation alone
abbrev pub small_genesis : Genesis
small_genesis = record first_genesis { accounts = account_at 39 ∷ []; validators = validator_at 9 ∷ []; delegations = delegation_at 9 ∷ [] }

pub record LinesOfInput : Type 0 where
  pub genesis : genesis_line Hex small_genesis
      ≡ codes "{\"accounts\":[{\"address\":\"4000000000000000000000000000000000000027\",\"coins\":[{\"amount\":\"1000000000"
      ++ codes "\",\"denom\":\"uatom\"}]}],\"delegations\":[{\"amount\":\"10000000\",\"delegator\":\"40000000000000000000000"
      ++ codes "00000000000000009\",\"validator\":\"4000000000000000000000000000000000000009\"}],\"kind\":\"genesis\",\"para"
      ++ codes "ms\":{\"authority\":\"4000000000000000000000000000000000000027\",\"bond_denom\":\"uatom\",\"community_tax\":"
      ++ codes "\"0.020000000000000000\",\"downtime_jail_duration\":600,\"max_age_duration\":172800,\"max_age_num_blocks\":1"
      ++ codes "00000,\"max_entries\":7,\"max_validators\":8,\"min_commission_rate\":\"0.000000000000000000\",\"min_signed_p"
      ++ codes "er_window\":\"0.500000000000000000\",\"power_reduction\":1000000,\"signed_blocks_window\":100,\"slash_fracti"
      ++ codes "on_double_sign\":\"0.050000000000000000\",\"slash_fraction_downtime\":\"0.000100000000000000\",\"unbonding_t"
      ++ codes "ime\":1000,\"withdraw_addr_enabled\":true},\"time\":\"2024-01-01T00:00:00Z\",\"validators\":[{\"cons\":\"500"
      ++ codes "0000000000000000000000000000000000009\",\"max_change_rate\":\"0.100000000000000000\",\"max_rate\":\"0.500000"
      ++ codes "000000000000\",\"min_self_delegation\":\"1\",\"operator\":\"4000000000000000000000000000000000000009\",\"rat"
      ++ codes "e\":\"0.100000000000000000\"}]}\n"
  pub redelegation : block_line Hex (block_as 3 all_cast [] (chosen 2 12 9 644437 14 ∷ []))
      ≡ codes "{\"evidence\":[],\"height\":3,\"kind\":\"block\",\"time\":\"2024-01-01T00:00:15Z\",\"txs\":[{\"fee\":[{\"amo"
      ++ codes "unt\":\"1000\",\"denom\":\"uatom\"}],\"msgs\":[{\"amount\":{\"amount\":\"644437\",\"denom\":\"uatom\"},\"del"
      ++ codes "egator\":\"400000000000000000000000000000000000000c\",\"kind\":\"begin_redelegate\",\"source\":\"40000000000"
      ++ codes "00000000000000000000000000009\",\"target\":\"4000000000000000000000000000000000000004\"}],\"payer\":\"400000"
      ++ codes "000000000000000000000000000000000c\"}],\"votes\":[{\"cons\":\"5000000000000000000000000000000000000000\",\"p"
      ++ codes "ower\":10,\"signed\":true},{\"cons\":\"5000000000000000000000000000000000000001\",\"power\":10,\"signed\":tr"
      ++ codes "ue},{\"cons\":\"5000000000000000000000000000000000000002\",\"power\":10,\"signed\":true},{\"cons\":\"5000000"
      ++ codes "000000000000000000000000000000003\",\"power\":10,\"signed\":true},{\"cons\":\"500000000000000000000000000000"
      ++ codes "0000000004\",\"power\":10,\"signed\":true},{\"cons\":\"5000000000000000000000000000000000000005\",\"power\":"
      ++ codes "10,\"signed\":true},{\"cons\":\"5000000000000000000000000000000000000006\",\"power\":10,\"signed\":true},{\""
      ++ codes "cons\":\"5000000000000000000000000000000000000007\",\"power\":10,\"signed\":true},{\"cons\":\"50000000000000"
      ++ codes "00000000000000000000000008\",\"power\":10,\"signed\":true},{\"cons\":\"5000000000000000000000000000000000000"
      ++ codes "009\",\"power\":10,\"signed\":true}]}\n"
  pub evidence : block_line Hex (block_as 2 (false ∷ [])
      (record { cons = signer 6; height = 1; time = time_at 1; power = 10 } ∷ []) [])
      ≡ codes "{\"evidence\":[{\"cons\":\"5000000000000000000000000000000000000006\",\"height\":1,\"power\":10,\"time\":\"2"
      ++ codes "024-01-01T00:00:05Z\"}],\"height\":2,\"kind\":\"block\",\"time\":\"2024-01-01T00:00:10Z\",\"txs\":[],\"votes"
      ++ codes "\":[{\"cons\":\"5000000000000000000000000000000000000000\",\"power\":10,\"signed\":false}]}\n"
  pub delegation : block_line Hex (block_as 1 [] [] (chosen 0 22 5 732981 22 ∷ []))
      ≡ codes "{\"evidence\":[],\"height\":1,\"kind\":\"block\",\"time\":\"2024-01-01T00:00:05Z\",\"txs\":[{\"fee\":[{\"amo"
      ++ codes "unt\":\"1000\",\"denom\":\"uatom\"}],\"msgs\":[{\"amount\":{\"amount\":\"732981\",\"denom\":\"uatom\"},\"del"
      ++ codes "egator\":\"4000000000000000000000000000000000000016\",\"kind\":\"delegate\",\"validator\":\"4000000000000000"
      ++ codes "000000000000000000000005\"}],\"payer\":\"4000000000000000000000000000000000000016\"}],\"votes\":[]}\n"
  pub undelegation : block_line Hex (block_as 1 [] [] (chosen 1 28 1 416484 14 ∷ []))
      ≡ codes "{\"evidence\":[],\"height\":1,\"kind\":\"block\",\"time\":\"2024-01-01T00:00:05Z\",\"txs\":[{\"fee\":[{\"amo"
      ++ codes "unt\":\"1000\",\"denom\":\"uatom\"}],\"msgs\":[{\"amount\":{\"amount\":\"416484\",\"denom\":\"uatom\"},\"del"
      ++ codes "egator\":\"400000000000000000000000000000000000001c\",\"kind\":\"undelegate\",\"validator\":\"40000000000000"
      ++ codes "00000000000000000000000001\"}],\"payer\":\"400000000000000000000000000000000000001c\"}],\"votes\":[]}\n"
  pub payment : block_line Hex (block_as 1 [] [] (chosen 5 17 8 905614 3 ∷ []))
      ≡ codes "{\"evidence\":[],\"height\":1,\"kind\":\"block\",\"time\":\"2024-01-01T00:00:05Z\",\"txs\":[{\"fee\":[{\"amo"
      ++ codes "unt\":\"1000\",\"denom\":\"uatom\"}],\"msgs\":[{\"coins\":[{\"amount\":\"905614\",\"denom\":\"uatom\"}],\"fr"
      ++ codes "om\":\"4000000000000000000000000000000000000011\",\"kind\":\"send\",\"to\":\"4000000000000000000000000000000"
      ++ codes "000000003\"}],\"payer\":\"4000000000000000000000000000000000000011\"}],\"votes\":[]}\n"
  pub commission : block_line Hex (block_as 2 [] [] (chosen 4 14 6 492380 17 ∷ []))
      ≡ codes "{\"evidence\":[],\"height\":2,\"kind\":\"block\",\"time\":\"2024-01-01T00:00:10Z\",\"txs\":[{\"fee\":[{\"amo"
      ++ codes "unt\":\"1000\",\"denom\":\"uatom\"}],\"msgs\":[{\"kind\":\"withdraw_commission\",\"validator\":\"40000000000"
      ++ codes "00000000000000000000000000006\"}],\"payer\":\"4000000000000000000000000000000000000006\"}],\"votes\":[]}\n"
  pub reward : block_line Hex (block_as 1 [] [] (chosen 3 12 0 145950 2 ∷ []))
      ≡ codes "{\"evidence\":[],\"height\":1,\"kind\":\"block\",\"time\":\"2024-01-01T00:00:05Z\",\"txs\":[{\"fee\":[{\"amo"
      ++ codes "unt\":\"1000\",\"denom\":\"uatom\"}],\"msgs\":[{\"delegator\":\"400000000000000000000000000000000000000c\",\""
      ++ codes "kind\":\"withdraw_reward\",\"validator\":\"4000000000000000000000000000000000000000\"}],\"payer\":\"40000000"
      ++ codes "0000000000000000000000000000000c\"}],\"votes\":[]}\n"

-- a line with spellings of addresses, of one vote and one delegation
pub record SpelledLine : Type 0 where
  pub delegation : block_line Bech32 (block_as 1 (true ∷ []) [] (chosen 0 22 5 732981 22 ∷ []))
      ≡ codes "{\"evidence\":[],\"height\":1,\"kind\":\"block\",\"time\":\"2024-01-01T00:00:05Z\",\"txs\":[{\"fee\":[{\"amo"
      ++ codes "unt\":\"1000\",\"denom\":\"uatom\"}],\"msgs\":[{\"amount\":{\"amount\":\"732981\",\"denom\":\"uatom\"},"
      ++ codes "\"delegator\":\"cosmos1gqqqqqqqqqqqqqqqqqqqqqqqqqqqqqqk59kedg\",\"kind\":\"delegate\","
      ++ codes "\"validator\":\"cosmosvaloper1gqqqqqqqqqqqqqqqqqqqqqqqqqqqqqq92rlz6h\"}],"
      ++ codes "\"payer\":\"cosmos1gqqqqqqqqqqqqqqqqqqqqqqqqqqqqqqk59kedg\"}],\"votes\":[{\"cons\":"
      ++ codes "\"cosmosvalcons12qqqqqqqqqqqqqqqqqqqqqqqqqqqqqqqmwh46s\",\"power\":10,\"signed\":true}]}\n"
