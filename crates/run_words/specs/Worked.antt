-- Worked rows of words.
use Rattle.std.specs.Prelude.{◌≡◌, ℕ, true, false, List, [], ◌∷◌, ◌++◌, codes, replicate, Option, Some, None}
use Rattle.base_bech32.specs.declared.form.Form.{Form}
use Rattle.base_bech32.specs.declared.form.Form.TheVariants.{Hex, Bech32}
use Rattle.run_words.specs.declared.mode.Command.{Command}
use Rattle.run_words.specs.declared.mode.Mode.{Mode}
use Rattle.run_words.specs.declared.mode.Mode.TheVariants.{Replay, Resume, Query, Tally, Check, Statement, Gen, Trial}
use Rattle.base_types.specs.declared.account.Account.TheVariants as account
use Rattle.base_types.specs.declared.account.Module.TheVariants as holder
use Rattle.line_report.specs.declared.question.Query.TheVariants as question
use Rattle.run_words.specs.Words.{command_of}

-- a command without the word for a form, and one behind `bech32`
abbrev pub hex : Mode → Option Command
hex m = Some (record { form = Hex; keep = false; every = 1; past = None; mode = m })

abbrev pub bech32 : Mode → Option Command
bech32 m = Some (record { form = Bech32; keep = false; every = 1; past = None; mode = m })

-- words that are a command
pub record Commands : Type 0 where
  pub replay : command_of (codes "replay" ∷ []) ≡ hex Replay
  pub least : command_of (codes "gen" ∷ codes "0" ∷ codes "1" ∷ []) ≡ hex (Gen 0 1)
  pub greatest : command_of (codes "gen" ∷ codes "18446744073709551615" ∷ codes "100000" ∷ []) ≡ hex (Gen 18446744073709551615 100000)
  pub zeros : command_of (codes "gen" ∷ codes "00000000000000000007" ∷ codes "10" ∷ []) ≡ hex (Gen 7 10)
  pub trial : command_of (codes "trial" ∷ codes "7" ∷ codes "1000" ∷ []) ≡ hex (Trial 7 1000)
  pub tally : command_of (codes "tally" ∷ []) ≡ hex Tally
  pub check : command_of (codes "check" ∷ []) ≡ hex Check

-- an address: thirty-nine digits 0, then this one
abbrev pub address_text : List ℕ → List ℕ
address_text last = codes "000000000000000000000000000000000000000" ++ last

-- a user's address: nineteen times the byte 17, then 18
abbrev pub user_text : List ℕ
user_text = codes "1111111111111111111111111111111111111112"

abbrev pub user_bytes : List ℕ
user_bytes = replicate 19 17 ++ 18 ∷ []

abbrev pub asks : List ℕ → List ℕ → Option Command
asks what text = command_of (codes "query" ∷ what ∷ text ∷ [])

-- words that ask
pub record Questions : Type 0 where
  pub resume : command_of (codes "resume" ∷ []) ≡ hex Resume
  pub supply : command_of (codes "query" ∷ codes "supply" ∷ []) ≡ hex (Query question.Supply)
  pub pool : command_of (codes "query" ∷ codes "pool" ∷ []) ≡ hex (Query question.Pool)
  pub validators : command_of (codes "query" ∷ codes "validators" ∷ []) ≡ hex (Query question.Validators)
  pub holdings : asks (codes "account") (address_text (codes "4")) ≡ hex (Query (question.Account (account.Module holder.Distribution)))
  pub validator : asks (codes "validator") user_text ≡ hex (Query (question.Validator (account.User user_bytes)))
  pub delegations : asks (codes "delegations") user_text ≡ hex (Query (question.Delegations (account.User user_bytes)))
  pub rewards : asks (codes "rewards") user_text ≡ hex (Query (question.Rewards (account.User user_bytes)))
  pub unbondings : asks (codes "unbondings") user_text ≡ hex (Query (question.Unbondings (account.User user_bytes)))
  pub redelegations : asks (codes "redelegations") user_text ≡ hex (Query (question.Redelegations (account.User user_bytes)))
  pub signing : asks (codes "signing") user_text ≡ hex (Query (question.Signing user_bytes))
  pub of_module : asks (codes "validator") (address_text (codes "1")) ≡ hex (Query (question.Validator (account.Module holder.FeeCollector)))

abbrev pub states : List ℕ → List ℕ → Option Command
states delegator operator = command_of (codes "statement" ∷ delegator ∷ operator ∷ [])

-- words that ask for statements
pub record Statements : Type 0 where
  pub users : states user_text user_text ≡ hex (Statement (account.User user_bytes) (account.User user_bytes))
  pub of_module : states (address_text (codes "4")) user_text ≡ hex (Statement (account.Module holder.Distribution) (account.User user_bytes))
  pub by_module : states user_text (address_text (codes "1")) ≡ hex (Statement (account.User user_bytes) (account.Module holder.FeeCollector))
  pub short : states (codes "00") user_text ≡ None
  pub short_operator : states user_text (codes "00") ≡ None
  pub alone : command_of (codes "statement" ∷ user_text ∷ []) ≡ None
  pub more : command_of (codes "statement" ∷ user_text ∷ user_text ∷ user_text ∷ []) ≡ None

-- words that ask nothing
pub record NoQuestions : Type 0 where
  pub large_letters : asks (codes "account") (codes "000000000000000000000000000000000000000A") ≡ None
  pub short : asks (codes "account") (codes "00") ≡ None
  pub long : asks (codes "account") (codes "00000000000000000000000000000000000000000") ≡ None
  pub without_address : command_of (codes "query" ∷ codes "account" ∷ []) ≡ None
  pub with_address : asks (codes "supply") user_text ≡ None
  pub unknown : asks (codes "balance") user_text ≡ None
  pub nothing_more : command_of (codes "resume" ∷ codes "1" ∷ []) ≡ None

-- words that are none
pub record NoCommands : Type 0 where
  pub nothing : command_of [] ≡ None
  pub nobody : command_of (codes "query" ∷ []) ≡ None
  pub help : command_of (codes "--help" ∷ []) ≡ None
  pub alone : command_of (codes "gen" ∷ []) ≡ None
  pub short : command_of (codes "gen" ∷ codes "1" ∷ []) ≡ None
  pub long : command_of (codes "gen" ∷ codes "1" ∷ codes "1" ∷ codes "1" ∷ []) ≡ None
  pub more_than_alone : command_of (codes "replay" ∷ codes "1" ∷ codes "1" ∷ []) ≡ None
  pub tally_of_one : command_of (codes "tally" ∷ codes "7" ∷ []) ≡ None
  pub check_of_one : command_of (codes "check" ∷ codes "7" ∷ []) ≡ None
  pub no_blocks : command_of (codes "gen" ∷ codes "1" ∷ codes "0" ∷ []) ≡ None
  pub too_many : command_of (codes "gen" ∷ codes "1" ∷ codes "100001" ∷ []) ≡ None
  pub zero_first : command_of (codes "gen" ∷ codes "1" ∷ codes "01" ∷ []) ≡ None
  pub too_great : command_of (codes "gen" ∷ codes "18446744073709551616" ∷ codes "1" ∷ []) ≡ None
  pub too_long : command_of (codes "gen" ∷ codes "000000000000000000001" ∷ codes "1" ∷ []) ≡ None
  pub signed : command_of (codes "gen" ∷ codes "+1" ∷ codes "1" ∷ []) ≡ None
  pub empty : command_of (codes "gen" ∷ [] ∷ codes "1" ∷ []) ≡ None

-- the same user as an account, as an operator and as a consensus address, and a module's account
abbrev pub spelled_user : List ℕ
spelled_user = codes "cosmos1zyg3zyg3zyg3zyg3zyg3zyg3zyg3zygj0wz5us"

abbrev pub spelled_operator : List ℕ
spelled_operator = codes "cosmosvaloper1zyg3zyg3zyg3zyg3zyg3zyg3zyg3zygj26kpsr"

abbrev pub spelled_cons : List ℕ
spelled_cons = codes "cosmosvalcons1zyg3zyg3zyg3zyg3zyg3zyg3zyg3zygj7f9auz"

abbrev pub spelled_module : List ℕ
spelled_module = codes "cosmos1qqqqqqqqqqqqqqqqqqqqqqqqqqqqqqqyufzeg8"

abbrev pub asks_spelled : List ℕ → List ℕ → Option Command
asks_spelled what text = command_of (codes "bech32" ∷ codes "query" ∷ what ∷ text ∷ [])

-- words behind `bech32`
pub record Spelled : Type 0 where
  pub replay : command_of (codes "bech32" ∷ codes "replay" ∷ []) ≡ bech32 Replay
  pub tally : command_of (codes "bech32" ∷ codes "tally" ∷ []) ≡ bech32 Tally
  pub check : command_of (codes "bech32" ∷ codes "check" ∷ []) ≡ bech32 Check
  pub pool : command_of (codes "bech32" ∷ codes "query" ∷ codes "pool" ∷ []) ≡ bech32 (Query question.Pool)
  pub generated : command_of (codes "bech32" ∷ codes "gen" ∷ codes "7" ∷ codes "10" ∷ []) ≡ bech32 (Gen 7 10)
  pub tried : command_of (codes "bech32" ∷ codes "trial" ∷ codes "7" ∷ codes "10" ∷ []) ≡ bech32 (Trial 7 10)
  pub rewards : asks_spelled (codes "rewards") spelled_user ≡ bech32 (Query (question.Rewards (account.User user_bytes)))
  pub holdings : asks_spelled (codes "account") spelled_module ≡ bech32 (Query (question.Account (account.Module holder.Distribution)))
  pub validator : asks_spelled (codes "validator") spelled_operator ≡ bech32 (Query (question.Validator (account.User user_bytes)))
  pub signing : asks_spelled (codes "signing") spelled_cons ≡ bech32 (Query (question.Signing user_bytes))

-- words that are none for their form
pub record NotSpelled : Type 0 where
  pub alone : command_of (codes "bech32" ∷ []) ≡ None
  pub twice : command_of (codes "bech32" ∷ codes "bech32" ∷ codes "replay" ∷ []) ≡ None
  pub behind : command_of (codes "replay" ∷ codes "bech32" ∷ []) ≡ None
  pub within : command_of (codes "gen" ∷ codes "bech32" ∷ codes "7" ∷ codes "10" ∷ []) ≡ None
  pub capital : command_of (codes "Bech32" ∷ codes "replay" ∷ []) ≡ None
  pub digits : asks_spelled (codes "account") user_text ≡ None
  pub letters : asks (codes "account") spelled_user ≡ None
  pub no_account : asks_spelled (codes "delegations") spelled_operator ≡ None
  pub no_operator : asks_spelled (codes "validator") spelled_user ≡ None
  pub no_cons : asks_spelled (codes "signing") spelled_user ≡ None

-- a command that keeps what it replaces, and one that asks of a past height
abbrev pub kept_in : Form → Mode → Option Command
kept_in form m = Some (record { form = form; keep = true; every = 1; past = None; mode = m })

abbrev pub past_in : Form → ℕ → Mode → Option Command
past_in form height m = Some (record { form = form; keep = false; every = 1; past = Some height; mode = m })

-- words behind `keep`, and behind `past`
pub record Histories : Type 0 where
  pub replay : command_of (codes "keep" ∷ codes "replay" ∷ []) ≡ kept_in Hex Replay
  pub resume : command_of (codes "keep" ∷ codes "resume" ∷ []) ≡ kept_in Hex Resume
  pub spelled : command_of (codes "bech32" ∷ codes "keep" ∷ codes "replay" ∷ []) ≡ kept_in Bech32 Replay
  pub first : command_of (codes "past" ∷ codes "0" ∷ codes "query" ∷ codes "supply" ∷ []) ≡ past_in Hex 0 (Query question.Supply)
  pub greatest : command_of (codes "past" ∷ codes "9223372036854775807" ∷ codes "query" ∷ codes "pool" ∷ []) ≡ past_in Hex 9223372036854775807 (Query question.Pool)
  pub holdings : command_of (codes "past" ∷ codes "7" ∷ codes "query" ∷ codes "account" ∷ user_text ∷ []) ≡ past_in Hex 7 (Query (question.Account (account.User user_bytes)))
  pub asked : command_of (codes "bech32" ∷ codes "past" ∷ codes "12" ∷ codes "query" ∷ codes "validators" ∷ []) ≡ past_in Bech32 12 (Query question.Validators)

-- words that are none behind these
pub record NoHistories : Type 0 where
  pub keep_alone : command_of (codes "keep" ∷ []) ≡ None
  pub keep_twice : command_of (codes "keep" ∷ codes "keep" ∷ codes "replay" ∷ []) ≡ None
  pub keep_query : command_of (codes "keep" ∷ codes "query" ∷ codes "supply" ∷ []) ≡ None
  pub keep_tally : command_of (codes "keep" ∷ codes "tally" ∷ []) ≡ None
  pub keep_first : command_of (codes "keep" ∷ codes "bech32" ∷ codes "replay" ∷ []) ≡ None
  pub keep_last : command_of (codes "replay" ∷ codes "keep" ∷ []) ≡ None
  pub past_alone : command_of (codes "past" ∷ codes "1" ∷ []) ≡ None
  pub past_replay : command_of (codes "past" ∷ codes "1" ∷ codes "replay" ∷ []) ≡ None
  pub past_tally : command_of (codes "past" ∷ codes "1" ∷ codes "tally" ∷ []) ≡ None
  pub past_trial : command_of (codes "past" ∷ codes "1" ∷ codes "trial" ∷ codes "7" ∷ codes "10" ∷ []) ≡ None
  pub past_twice : command_of (codes "past" ∷ codes "1" ∷ codes "past" ∷ codes "1" ∷ codes "query" ∷ codes "pool" ∷ []) ≡ None
  pub no_height : command_of (codes "past" ∷ codes "query" ∷ codes "supply" ∷ []) ≡ None
  pub zero_first : command_of (codes "past" ∷ codes "01" ∷ codes "query" ∷ codes "supply" ∷ []) ≡ None
  pub zeros : command_of (codes "past" ∷ codes "00" ∷ codes "query" ∷ codes "supply" ∷ []) ≡ None
  pub empty : command_of (codes "past" ∷ [] ∷ codes "query" ∷ codes "supply" ∷ []) ≡ None
  pub too_great : command_of (codes "past" ∷ codes "9223372036854775808" ∷ codes "query" ∷ codes "supply" ∷ []) ≡ None
  pub keep_past : command_of (codes "keep" ∷ codes "past" ∷ codes "1" ∷ codes "query" ∷ codes "supply" ∷ []) ≡ None
  pub long : command_of (codes "bech32" ∷ codes "past" ∷ codes "1" ∷ codes "query" ∷ codes "account" ∷ user_text ∷ user_text ∷ []) ≡ None

-- a command that commits once for so many blocks
abbrev pub every_in : Form → ℕ → Mode → Option Command
every_in form every m = Some (record { form = form; keep = false; every = every; past = None; mode = m })

-- words behind `every`
pub record Groups : Type 0 where
  pub one : command_of (codes "every" ∷ codes "1" ∷ codes "replay" ∷ []) ≡ hex Replay
  pub three : command_of (codes "every" ∷ codes "3" ∷ codes "replay" ∷ []) ≡ every_in Hex 3 Replay
  pub greatest : command_of (codes "every" ∷ codes "1000000" ∷ codes "resume" ∷ []) ≡ every_in Hex 1000000 Resume
  pub spelled : command_of (codes "bech32" ∷ codes "every" ∷ codes "50" ∷ codes "resume" ∷ []) ≡ every_in Bech32 50 Resume

-- words that are none behind it
pub record NoGroups : Type 0 where
  pub alone : command_of (codes "every" ∷ []) ≡ None
  pub no_command : command_of (codes "every" ∷ codes "3" ∷ []) ≡ None
  pub no_number : command_of (codes "every" ∷ codes "replay" ∷ []) ≡ None
  pub none : command_of (codes "every" ∷ codes "0" ∷ codes "replay" ∷ []) ≡ None
  pub too_many : command_of (codes "every" ∷ codes "1000001" ∷ codes "replay" ∷ []) ≡ None
  pub too_long : command_of (codes "every" ∷ codes "10000000" ∷ codes "replay" ∷ []) ≡ None
  pub zero_first : command_of (codes "every" ∷ codes "01" ∷ codes "replay" ∷ []) ≡ None
  pub signed : command_of (codes "every" ∷ codes "+1" ∷ codes "replay" ∷ []) ≡ None
  pub empty : command_of (codes "every" ∷ [] ∷ codes "replay" ∷ []) ≡ None
  pub twice : command_of (codes "every" ∷ codes "3" ∷ codes "every" ∷ codes "3" ∷ codes "replay" ∷ []) ≡ None
  pub behind : command_of (codes "replay" ∷ codes "every" ∷ codes "3" ∷ []) ≡ None
  pub kept : command_of (codes "every" ∷ codes "3" ∷ codes "keep" ∷ codes "replay" ∷ []) ≡ None
  pub keeping : command_of (codes "keep" ∷ codes "every" ∷ codes "3" ∷ codes "replay" ∷ []) ≡ None
  pub tally : command_of (codes "every" ∷ codes "3" ∷ codes "tally" ∷ []) ≡ None
  pub query : command_of (codes "every" ∷ codes "3" ∷ codes "query" ∷ codes "supply" ∷ []) ≡ None
  pub trial : command_of (codes "every" ∷ codes "3" ∷ codes "trial" ∷ codes "7" ∷ codes "10" ∷ []) ≡ None
  pub form_behind : command_of (codes "every" ∷ codes "3" ∷ codes "bech32" ∷ codes "replay" ∷ []) ≡ None
