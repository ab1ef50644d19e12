-- Worked reports and answers: of a small run, of a state with a record of each kind, and of a whole state.
use Rattle.std.specs.Prelude.{◌≡◌, ℕ, List, [], ◌∷◌, ◌++◌, codes, true, false, Some, None}
use Rattle.base_types.specs.declared.account.Account.TheVariants as account
use Rattle.base_types.specs.declared.account.Module.TheVariants.{FeeCollector}
use Rattle.base_types.specs.declared.status.BondStatus.TheVariants.{Bonded}
use Rattle.base_bech32.specs.declared.form.Form.TheVariants.{Hex, Bech32}
use Rattle.base_roles.specs.declared.entities.Validator.{Validator}
use Rattle.base_roles.specs.declared.items.Item.{Item}
use Rattle.base_roles.specs.declared.items.Item.TheVariants as item
use Rattle.base_messages.specs.declared.report.Pending.{Pending}
use Rattle.rule_modules.specs.Chain.{State}
use Rattle.rule_modules.specs.Fixtures.{params}
use Rattle.rule_machine.specs.Items.{items_of}
use Rattle.rule_machine.specs.Report.{pending_of, report_of}
use Rattle.line_json.specs.WrittenExample.{ones, threes, twos, uatom}
use Rattle.line_report.specs.declared.question.Query.TheVariants as query
use Rattle.line_report.specs.Groups.{report_from}
use Rattle.line_report.specs.Lines.{lines_of, text_of}
use Rattle.line_report.specs.Queries.{answer_of}

-- what is written of a report, with addresses in hexadecimal digits
abbrev pub written : List Item → List Pending → List ℕ
written items pending = text_of (lines_of Hex (report_from items pending))

-- ---- a run: 1000 of one account, a fee of 10, and 100 that are sent

-- what it leaves, in the order of rows: modules have the least addresses
abbrev pub run_items : List Item
run_items =
    item.Balance (account.Module FeeCollector) (codes "uatom") 10 ∷ item.Balance (account.User ones) (codes "uatom") 890
    ∷ item.Balance (account.User twos) (codes "uatom") 100 ∷ item.Supply (codes "uatom") 1000 ∷ item.Pool [] ∷ []

abbrev pub ones_line : List ℕ
ones_line = codes "{\"address\":\"1111111111111111111111111111111111111111\",\"coins\":[{\"amount\":\"890\",\"denom\":\"uatom\"}],\"kind\":\"account\"}\n"

abbrev pub collector_line : List ℕ
collector_line = codes "{\"address\":\"fee_collector\",\"coins\":[{\"amount\":\"10\",\"denom\":\"uatom\"}],\"kind\":\"account\"}\n"

-- all that is written of it
abbrev pub report_lines : List ℕ
report_lines =
    codes "{\"coins\":[{\"amount\":\"1000\",\"denom\":\"uatom\"}],\"kind\":\"supply\"}\n"
    ++ codes "{\"address\":\"1111111111111111111111111111111111111111\",\"coins\":[{\"amount\":\"890\",\"denom\":\"uatom\"}],\"kind\":\"account\"}\n"
    ++ codes "{\"address\":\"2222222222222222222222222222222222222222\",\"coins\":[{\"amount\":\"100\",\"denom\":\"uatom\"}],\"kind\":\"account\"}\n"
    ++ codes "{\"address\":\"fee_collector\",\"coins\":[{\"amount\":\"10\",\"denom\":\"uatom\"}],\"kind\":\"account\"}\n"
    ++ codes "{\"coins\":[],\"kind\":\"pool\"}\n"

pub record RunReport : Type 0 where
  pub report : written run_items [] ≡ report_lines
  pub of_user : answer_of Hex run_items [] (query.Account (account.User ones)) ≡ Some ones_line
  pub of_module : answer_of Hex run_items [] (query.Account (account.Module FeeCollector)) ≡ Some collector_line
  pub of_supply : answer_of Hex run_items [] query.Supply ≡ Some (codes "{\"coins\":[{\"amount\":\"1000\",\"denom\":\"uatom\"}],\"kind\":\"supply\"}\n")
  pub of_pool : answer_of Hex run_items [] query.Pool ≡ Some (codes "{\"coins\":[],\"kind\":\"pool\"}\n")
  pub nobody : answer_of Hex run_items [] query.Validators ≡ Some []
  pub none_held : answer_of Hex run_items [] (query.Account (account.User threes)) ≡ None
  pub none_rewarded : answer_of Hex run_items [] (query.Rewards (account.User ones)) ≡ None

-- ---- a state with a record of each kind

abbrev pub validator : Validator
validator = record {
  operator = threes;
  cons = twos;
  status = Bonded;
  jailed = false;
  tokens = 150;
  shares = 150_000_000_000_000_000_000;
  commission = record { rate = 100_000_000_000_000_000; max_rate = 1_000_000_000_000_000_000; max_change = 0; updated = 0 };
  min_self = 1;
  unbonding_height = 0;
  unbonding_time = 0;
}

-- the moments are 2024-01-01T00:00:05Z
abbrev pub time : ℕ
time = 1_704_067_205_000_000_000

abbrev pub items : List Item
items =
    item.Delegation threes twos 50_000_000_000_000_000_000 ∷ item.Delegation threes ones 100_000_000_000_000_000_000
    ∷ item.Validator validator
    ∷ item.Purse threes (record { outstanding = uatom 1_500_000_000_000_000_000; commission = uatom 500_000_000_000_000_000; current = [] })
    ∷ item.Unbonding ones threes (record { created = 7; completes = time; initial = 1000; balance = 950 } ∷ [])
    ∷ item.Redelegation ones twos threes (record { created = 8; completes = time; initial = 5; shares_dst = 5_000_000_000_000_000_000 } ∷ [])
    ∷ item.Signing twos (record { start = 1; counted = 9; missed = 2; jailed_until = 0; tombstoned = true }) []
    ∷ item.Pool (uatom 250_000_000_000_000_000) ∷ []

-- one reward meets the limit, and one has no coins
abbrev pub pending : List Pending
pending = record { delegator = twos; operator = threes; coins = Some [] } ∷ record { delegator = ones; operator = threes; coins = None } ∷ []

abbrev pub validator_text : List ℕ
validator_text =
    codes "{\"commission\":[{\"amount\":\"0.500000000000000000\",\"denom\":\"uatom\"}],\"cons\":\"2222222222222222222222222222222222222222\","
    ++ codes "\"jailed\":false,\"kind\":\"validator\",\"operator\":\"3333333333333333333333333333333333333333\","
    ++ codes "\"outstanding\":[{\"amount\":\"1.500000000000000000\",\"denom\":\"uatom\"}],\"rate\":\"0.100000000000000000\","
    ++ codes "\"shares\":\"150.000000000000000000\",\"status\":\"bonded\",\"tokens\":\"150\"}\n"

abbrev pub ones_delegation : List ℕ
ones_delegation =
    codes "{\"delegator\":\"1111111111111111111111111111111111111111\",\"kind\":\"delegation\",\"shares\":\"100.000000000000000000\","
    ++ codes "\"validator\":\"3333333333333333333333333333333333333333\"}\n"

abbrev pub twos_delegation : List ℕ
twos_delegation =
    codes "{\"delegator\":\"2222222222222222222222222222222222222222\",\"kind\":\"delegation\",\"shares\":\"50.000000000000000000\","
    ++ codes "\"validator\":\"3333333333333333333333333333333333333333\"}\n"

abbrev pub ones_pending : List ℕ
ones_pending =
    codes "{\"delegator\":\"1111111111111111111111111111111111111111\",\"kind\":\"pending\",\"limit\":true,"
    ++ codes "\"validator\":\"3333333333333333333333333333333333333333\"}\n"

abbrev pub twos_pending : List ℕ
twos_pending =
    codes "{\"coins\":[],\"delegator\":\"2222222222222222222222222222222222222222\",\"kind\":\"pending\","
    ++ codes "\"validator\":\"3333333333333333333333333333333333333333\"}\n"

abbrev pub unbonding_text : List ℕ
unbonding_text =
    codes "{\"balance\":\"950\",\"completes\":\"2024-01-01T00:00:05Z\",\"created\":7,\"delegator\":\"1111111111111111111111111111111111111111\","
    ++ codes "\"initial\":\"1000\",\"kind\":\"unbonding\",\"validator\":\"3333333333333333333333333333333333333333\"}\n"

abbrev pub redelegation_text : List ℕ
redelegation_text =
    codes "{\"completes\":\"2024-01-01T00:00:05Z\",\"created\":8,\"delegator\":\"1111111111111111111111111111111111111111\",\"initial\":\"5\","
    ++ codes "\"kind\":\"redelegation\",\"shares\":\"5.000000000000000000\",\"source\":\"2222222222222222222222222222222222222222\","
    ++ codes "\"target\":\"3333333333333333333333333333333333333333\"}\n"

abbrev pub signing_text : List ℕ
signing_text =
    codes "{\"cons\":\"2222222222222222222222222222222222222222\",\"counted\":9,\"jailed_until\":\"1970-01-01T00:00:00Z\",\"kind\":\"signing\","
    ++ codes "\"missed\":2,\"start\":1,\"tombstoned\":true}\n"

abbrev pub pool_text : List ℕ
pool_text = codes "{\"coins\":[{\"amount\":\"0.250000000000000000\",\"denom\":\"uatom\"}],\"kind\":\"pool\"}\n"

pub record KindsReport : Type 0 where
  pub report : written items pending
      ≡ codes "{\"coins\":[],\"kind\":\"supply\"}\n" ++ validator_text ++ ones_delegation ++ twos_delegation ++ ones_pending
      ++ twos_pending ++ unbonding_text ++ redelegation_text ++ signing_text ++ pool_text
  pub of_all : answer_of Hex items pending query.Validators ≡ Some validator_text
  pub validator_is : answer_of Hex items pending (query.Validator (account.User threes)) ≡ Some validator_text
  pub no_validator : answer_of Hex items pending (query.Validator (account.User ones)) ≡ None
  pub delegated : answer_of Hex items pending (query.Delegations (account.User ones)) ≡ Some ones_delegation
  pub rewarded : answer_of Hex items pending (query.Rewards (account.User twos)) ≡ Some twos_pending
  pub unbonding : answer_of Hex items pending (query.Unbondings (account.User ones)) ≡ Some unbonding_text
  pub redelegating : answer_of Hex items pending (query.Redelegations (account.User ones)) ≡ Some redelegation_text
  pub signs : answer_of Hex items pending (query.Signing twos) ≡ Some signing_text
  pub unsigned : answer_of Hex items pending (query.Signing threes) ≡ None

-- ---- the same state, whose addresses are spellings

abbrev pub spelled_validator : List ℕ
spelled_validator =
    codes "{\"commission\":[{\"amount\":\"0.500000000000000000\",\"denom\":\"uatom\"}],"
    ++ codes "\"cons\":\"cosmosvalcons1yg3zyg3zyg3zyg3zyg3zyg3zyg3zyg3zl84d62\",\"jailed\":false,\"kind\":\"validator\","
    ++ codes "\"operator\":\"cosmosvaloper1xvenxvenxvenxvenxvenxvenxvenxvene23vre\","
    ++ codes "\"outstanding\":[{\"amount\":\"1.500000000000000000\",\"denom\":\"uatom\"}],"
    ++ codes "\"rate\":\"0.100000000000000000\",\"shares\":\"150.000000000000000000\","
    ++ codes "\"status\":\"bonded\",\"tokens\":\"150\"}\n"

abbrev pub spelled_redelegation : List ℕ
spelled_redelegation =
    codes "{\"completes\":\"2024-01-01T00:00:05Z\",\"created\":8,"
    ++ codes "\"delegator\":\"cosmos1zyg3zyg3zyg3zyg3zyg3zyg3zyg3zyg3pahzj0\",\"initial\":\"5\","
    ++ codes "\"kind\":\"redelegation\",\"shares\":\"5.000000000000000000\","
    ++ codes "\"source\":\"cosmosvaloper1yg3zyg3zyg3zyg3zyg3zyg3zyg3zyg3zt5x3kt\","
    ++ codes "\"target\":\"cosmosvaloper1xvenxvenxvenxvenxvenxvenxvenxvene23vre\"}\n"

pub record SpelledReport : Type 0 where
  pub validator_is : answer_of Bech32 items pending (query.Validator (account.User threes)) ≡ Some spelled_validator
  pub redelegating : answer_of Bech32 items pending (query.Redelegations (account.User ones)) ≡ Some spelled_redelegation
  pub delegated : answer_of Bech32 items pending (query.Delegations (account.User ones))
      ≡ Some (codes "{\"delegator\":\"cosmos1zyg3zyg3zyg3zyg3zyg3zyg3zyg3zyg3pahzj0\",\"kind\":\"delegation\","
      ++ codes "\"shares\":\"100.000000000000000000\",\"validator\":\"cosmosvaloper1xvenxvenxvenxvenxvenxvenxvenxvene23vre\"}\n")
  pub signs : answer_of Bech32 items pending (query.Signing twos)
      ≡ Some (codes "{\"cons\":\"cosmosvalcons1yg3zyg3zyg3zyg3zyg3zyg3zyg3zyg3zl84d62\",\"counted\":9,\"jailed_until\":"
      ++ codes "\"1970-01-01T00:00:00Z\",\"kind\":\"signing\",\"missed\":2,\"start\":1,\"tombstoned\":true}\n")
  -- a module is told by its name
  pub of_module : answer_of Bech32 run_items [] (query.Account (account.Module FeeCollector)) ≡ Some collector_line

-- ---- a state, its items, and its report

-- a state with records of each kind: to period 2 there are two references, to period 1 one and to period 0 none; the
-- first, the third and the fifth vote were missed, and the window has the last four
abbrev pub state : State
state = record {
  mine = record {
    staked = record {
      validators = (threes, validator) ∷ [];
      delegations = ((threes, ones), 100_000_000_000_000_000_000) ∷ ((threes, twos), 50_000_000_000_000_000_000) ∷ [];
    };
    unbondings = ((ones, threes), record { created = 7; completes = time; initial = 1000; balance = 950 } ∷ []) ∷ [];
    redelegations = ((ones, twos, threes), record { created = 8; completes = time; initial = 5; shares_dst = 5_000_000_000_000_000_000 } ∷ []) ∷ [];
  };
  hooks = (
    record {
      rewards = record {
        periods = (threes, record { current = 3; ratios = (2, uatom 10) ∷ (1, uatom 5) ∷ (0, []) ∷ []; events = record { height = 6; period = 1; fraction = 1 } ∷ [] }) ∷ [];
        starts = ((threes, ones), record { period = 2; stake = 100_000_000_000_000_000_000; height = 7 }) ∷ [];
      };
      purses = record { purses = (threes, record { outstanding = uatom 3; commission = uatom 2; current = uatom 1 }) ∷ []; pool = uatom 4 };
      withdraw = (ones, twos) ∷ [];
    },
    (twos, record { start = 1; votes = true ∷ false ∷ true ∷ false ∷ true ∷ []; jailed_until = 0; tombstoned = false }) ∷ [],
  );
  view = record {
    bank = record {
      balances = ((account.User ones, codes "uatom"), 890) ∷ ((account.Module FeeCollector, codes "uatom"), 10) ∷ [];
      supplies = (codes "uatom", 900) ∷ [];
    };
    ctx = record { height = 9; time = time; params = record params { signed_blocks_window = 4 } };
    facts = [];
  };
  log = [];
}

abbrev pub state_items : List Item
state_items =
    item.Head 9 time ∷ item.Parameters (record params { signed_blocks_window = 4 })
    ∷ item.Balance (account.User ones) (codes "uatom") 890 ∷ item.Balance (account.Module FeeCollector) (codes "uatom") 10
    ∷ item.Supply (codes "uatom") 900
    ∷ item.Validator validator
    ∷ item.Delegation threes ones 100_000_000_000_000_000_000 ∷ item.Delegation threes twos 50_000_000_000_000_000_000
    ∷ item.Unbonding ones threes (record { created = 7; completes = time; initial = 1000; balance = 950 } ∷ [])
    ∷ item.Redelegation ones twos threes (record { created = 8; completes = time; initial = 5; shares_dst = 5_000_000_000_000_000_000 } ∷ [])
    ∷ item.Signing twos (record { start = 1; counted = 5; missed = 2; jailed_until = 0; tombstoned = false }) (true ∷ false ∷ true ∷ false ∷ [])
    ∷ item.Purse threes (record { outstanding = uatom 3; commission = uatom 2; current = uatom 1 }) ∷ item.Pool (uatom 4)
    ∷ item.Withdraw ones twos
    ∷ item.CurrentPeriod threes 3
    ∷ item.Historical threes 1 (record { ratio = uatom 5; count = 1 }) ∷ item.Historical threes 2 (record { ratio = uatom 10; count = 2 })
    ∷ item.Start threes ones (record { period = 2; stake = 100_000_000_000_000_000_000; height = 7 })
    ∷ item.Event threes (record { height = 6; period = 1; fraction = 1 })
    ∷ []

pub record StateReport : Type 0 where
  pub items : items_of state ≡ state_items
  pub report : report_from state_items (pending_of state) ≡ report_of state
