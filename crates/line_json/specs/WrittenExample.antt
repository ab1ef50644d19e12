-- Worked lines in hexadecimal digits: those of a small run, and one of each kind of fact and of outcome.
use Rattle.std.specs.Prelude.{◌≡◌, ℕ, List, [], ◌∷◌, ◌++◌, replicate, codes}
use Rattle.base_decimals.specs.declared.over.OverKind.TheVariants.{Sum, Quotient, Period}
use Rattle.base_types.specs.declared.account.Account.TheVariants as account
use Rattle.base_types.specs.declared.account.Module.TheVariants.{FeeCollector, Bonded, Distribution}
use Rattle.base_types.specs.declared.status.BondStatus.TheVariants as status
use Rattle.base_bech32.specs.declared.form.Form.TheVariants.{Hex}
use Rattle.base_coins.specs.Coins.{Money}
use Rattle.base_roles.specs.declared.facts.Fact.{Fact}
use Rattle.base_roles.specs.declared.facts.Fact.TheVariants as fact
use Rattle.base_roles.specs.declared.refusal.Refusal.TheVariants as refusal
use Rattle.base_messages.specs.declared.report.BlockReport.{BlockReport}
use Rattle.base_messages.specs.declared.report.Outcome.{Outcome}
use Rattle.base_messages.specs.declared.report.Outcome.TheVariants.{Accepted, FeeUnpaid, Refused}
use Rattle.line_json.specs.Line.{line_of}
use Rattle.line_json.specs.Facts.{fact_data}
use Rattle.line_json.specs.Outcomes.{outcome_data}
use Rattle.line_json.specs.Written.{text_of_genesis, text_of_block}

-- users of twenty bytes 11, 22 and 33 (hexadecimal)
abbrev pub ones : List ℕ
ones = replicate 20 17

abbrev pub twos : List ℕ
twos = replicate 20 34

abbrev pub threes : List ℕ
threes = replicate 20 51

-- a coin, or units of 10^-18 of it
abbrev pub uatom : ℕ → Money
uatom amount = (codes "uatom", amount) ∷ []

-- ---- a run: a genesis of one account with 1000, a block of one transaction with a fee of 10, which sends 100

abbrev pub genesis_line : List ℕ
genesis_line = codes "{\"height\":0,\"kind\":\"genesis\",\"supply\":[{\"amount\":\"1000\",\"denom\":\"uatom\"}]}\n"

abbrev pub block : BlockReport
block = record {
  height = 1;
  time = 1_704_067_205_000_000_000;
  begun = [];
  txs = record {
    facts = fact.Transfer (account.User ones) (account.Module FeeCollector) (uatom 10)
        ∷ fact.Transfer (account.User ones) (account.User twos) (uatom 100) ∷ [];
    outcome = Accepted;
  } ∷ [];
  ended = [];
}

abbrev pub block_lines : List ℕ
block_lines =
    codes "{\"height\":1,\"kind\":\"block\",\"time\":\"2024-01-01T00:00:05Z\"}\n"
    ++ codes "{\"coins\":[{\"amount\":\"10\",\"denom\":\"uatom\"}],\"from\":\"1111111111111111111111111111111111111111\","
    ++ codes "\"height\":1,\"kind\":\"transfer\",\"to\":\"fee_collector\"}\n"
    ++ codes "{\"coins\":[{\"amount\":\"100\",\"denom\":\"uatom\"}],\"from\":\"1111111111111111111111111111111111111111\","
    ++ codes "\"height\":1,\"kind\":\"transfer\",\"to\":\"2222222222222222222222222222222222222222\"}\n"
    ++ codes "{\"height\":1,\"kind\":\"accepted\",\"tx\":0}\n"

pub record RunLines : Type 0 where
  pub genesis : text_of_genesis (uatom 1000) ≡ genesis_line
  pub block_is : text_of_block Hex block ≡ block_lines

-- ---- the order of a block

-- a block with a fact of its beginning, no transaction, and a fact of its end
abbrev pub quiet : BlockReport
quiet = record {
  height = 7;
  time = 1_704_067_205_000_000_000;
  begun = fact.Jailed threes ∷ [];
  txs = [];
  ended = fact.Removed threes ∷ [];
}

abbrev pub quiet_lines : List ℕ
quiet_lines =
    codes "{\"height\":7,\"kind\":\"block\",\"time\":\"2024-01-01T00:00:05Z\"}\n"
    ++ codes "{\"height\":7,\"kind\":\"jailed\",\"validator\":\"3333333333333333333333333333333333333333\"}\n"
    ++ codes "{\"height\":7,\"kind\":\"removed\",\"validator\":\"3333333333333333333333333333333333333333\"}\n"

pub record OrderedLines : Type 0 where
  pub beginning_first : text_of_block Hex quiet ≡ quiet_lines

-- ---- facts

-- the line of a fact at height 7
abbrev pub fact_line : Fact → List ℕ
fact_line f = line_of (fact_data Hex 7 f)

pub record PaymentLines : Type 0 where
  pub transfer : fact_line (fact.Transfer (account.User ones) (account.Module Distribution) ((codes "stake", 5) ∷ uatom 10))
      ≡ codes "{\"coins\":[{\"amount\":\"5\",\"denom\":\"stake\"},{\"amount\":\"10\",\"denom\":\"uatom\"}],"
      ++ codes "\"from\":\"1111111111111111111111111111111111111111\",\"height\":7,\"kind\":\"transfer\",\"to\":\"distribution\"}\n"
  pub burn : fact_line (fact.Burn Bonded (record { denom = codes "uatom"; amount = 3 }))
      ≡ codes "{\"amount\":\"3\",\"denom\":\"uatom\",\"from\":\"bonded_tokens_pool\",\"height\":7,\"kind\":\"burn\"}\n"
  pub paid : fact_line (fact.Paid ones threes twos (uatom 1_500_000_000_000_000_000) (uatom 1))
      ≡ codes "{\"coins\":[{\"amount\":\"1\",\"denom\":\"uatom\"}],\"delegator\":\"1111111111111111111111111111111111111111\","
      ++ codes "\"height\":7,\"kind\":\"paid\",\"reward\":[{\"amount\":\"1.500000000000000000\",\"denom\":\"uatom\"}],"
      ++ codes "\"to\":\"2222222222222222222222222222222222222222\",\"validator\":\"3333333333333333333333333333333333333333\"}\n"
  pub commission : fact_line (fact.Commission threes twos [])
      ≡ codes "{\"coins\":[],\"height\":7,\"kind\":\"commission\",\"to\":\"2222222222222222222222222222222222222222\","
      ++ codes "\"validator\":\"3333333333333333333333333333333333333333\"}\n"

pub record RewardLines : Type 0 where
  pub allocated : fact_line (fact.Allocated threes (uatom 1_500_000_000_000_000_000))
      ≡ codes "{\"coins\":[{\"amount\":\"1.500000000000000000\",\"denom\":\"uatom\"}],\"height\":7,\"kind\":\"allocated\","
      ++ codes "\"validator\":\"3333333333333333333333333333333333333333\"}\n"
  pub pooled : fact_line (fact.Pooled (uatom 20_000_000_000_000_000))
      ≡ codes "{\"coins\":[{\"amount\":\"0.020000000000000000\",\"denom\":\"uatom\"}],\"height\":7,\"kind\":\"pooled\"}\n"
  pub period : fact_line (fact.Period threes 2 (uatom 100_000_000_000_000_000))
      ≡ codes "{\"height\":7,\"kind\":\"period\",\"period\":2,\"ratio\":[{\"amount\":\"0.100000000000000000\",\"denom\":\"uatom\"}],"
      ++ codes "\"validator\":\"3333333333333333333333333333333333333333\"}\n"
  pub started : fact_line (fact.Started ones threes 2 100_500_000_000_000_000_000)
      ≡ codes "{\"delegator\":\"1111111111111111111111111111111111111111\",\"height\":7,\"kind\":\"started\",\"period\":2,"
      ++ codes "\"stake\":\"100.500000000000000000\",\"validator\":\"3333333333333333333333333333333333333333\"}\n"

pub record ValidatorLines : Type 0 where
  pub slashed : fact_line (fact.Slashed threes 50_000_000_000_000_000 5)
      ≡ codes "{\"burned\":\"5\",\"fraction\":\"0.050000000000000000\",\"height\":7,\"kind\":\"slashed\","
      ++ codes "\"validator\":\"3333333333333333333333333333333333333333\"}\n"
  pub bonded : fact_line (fact.Changed threes status.Bonded)
      ≡ codes "{\"height\":7,\"kind\":\"status\",\"status\":\"bonded\",\"validator\":\"3333333333333333333333333333333333333333\"}\n"
  pub unbonding : fact_line (fact.Changed threes status.Unbonding)
      ≡ codes "{\"height\":7,\"kind\":\"status\",\"status\":\"unbonding\",\"validator\":\"3333333333333333333333333333333333333333\"}\n"
  pub unbonded : fact_line (fact.Changed threes status.Unbonded)
      ≡ codes "{\"height\":7,\"kind\":\"status\",\"status\":\"unbonded\",\"validator\":\"3333333333333333333333333333333333333333\"}\n"
  pub jailed : fact_line (fact.Jailed threes)
      ≡ codes "{\"height\":7,\"kind\":\"jailed\",\"validator\":\"3333333333333333333333333333333333333333\"}\n"
  pub unjailed : fact_line (fact.Unjailed threes)
      ≡ codes "{\"height\":7,\"kind\":\"unjailed\",\"validator\":\"3333333333333333333333333333333333333333\"}\n"
  pub tombstoned : fact_line (fact.Tombstoned threes)
      ≡ codes "{\"height\":7,\"kind\":\"tombstoned\",\"validator\":\"3333333333333333333333333333333333333333\"}\n"
  pub removed : fact_line (fact.Removed threes)
      ≡ codes "{\"height\":7,\"kind\":\"removed\",\"validator\":\"3333333333333333333333333333333333333333\"}\n"

pub record ParameterLines : Type 0 where
  pub changed : fact_line (fact.ParamsChanged ones)
      ≡ codes "{\"authority\":\"1111111111111111111111111111111111111111\",\"height\":7,\"kind\":\"params\"}\n"

-- ---- outcomes

-- the line of how the transaction at place 2 of a block of height 7 ended
abbrev pub outcome_line : Outcome → List ℕ
outcome_line outcome = line_of (outcome_data 7 2 outcome)

pub record OutcomeLines : Type 0 where
  pub accepted : outcome_line Accepted ≡ codes "{\"height\":7,\"kind\":\"accepted\",\"tx\":2}\n"
  pub unpaid : outcome_line FeeUnpaid ≡ codes "{\"height\":7,\"kind\":\"refused\",\"number\":40,\"tx\":2}\n"
  pub short : outcome_line (Refused 1 refusal.InsufficientFunds)
      ≡ codes "{\"height\":7,\"kind\":\"refused\",\"msg\":1,\"number\":1,\"tx\":2}\n"
  pub jailed : outcome_line (Refused 1 (refusal.StillJailed 1_704_067_205_000_000_000))
      ≡ codes "{\"height\":7,\"kind\":\"refused\",\"msg\":1,\"number\":30,\"tx\":2,\"until\":\"2024-01-01T00:00:05Z\"}\n"
  pub sum : outcome_line (Refused 1 (refusal.Overflow (record { kind = Sum; a = 8; b = 9; c = 0 })))
      ≡ codes "{\"a\":\"8\",\"b\":\"9\",\"c\":\"0\",\"height\":7,\"kind\":\"refused\",\"msg\":1,\"number\":35,\"over\":\"sum\",\"tx\":2}\n"
  pub quotient : outcome_line (Refused 1 (refusal.Overflow (record { kind = Quotient; a = 8; b = 9; c = 10 })))
      ≡ codes "{\"a\":\"8\",\"b\":\"9\",\"c\":\"10\",\"height\":7,\"kind\":\"refused\",\"msg\":1,\"number\":35,\"over\":\"quotient\",\"tx\":2}\n"
  pub period : outcome_line (Refused 1 (refusal.Overflow (record { kind = Period; a = 8; b = 0; c = 0 })))
      ≡ codes "{\"a\":\"8\",\"b\":\"0\",\"c\":\"0\",\"height\":7,\"kind\":\"refused\",\"msg\":1,\"number\":35,\"over\":\"period\",\"tx\":2}\n"
  pub range : outcome_line (Refused 1 (refusal.ParamRange 13))
      ≡ codes "{\"height\":7,\"kind\":\"refused\",\"member\":13,\"msg\":1,\"number\":38,\"tx\":2}\n"
  pub fixed : outcome_line (Refused 1 (refusal.ParamFixed 10))
      ≡ codes "{\"height\":7,\"kind\":\"refused\",\"member\":10,\"msg\":1,\"number\":39,\"tx\":2}\n"
