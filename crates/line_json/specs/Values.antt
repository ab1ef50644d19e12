-- The values of members: amounts, coins, addresses, moments and words are strings, places and counts are numbers.
use Rattle.std.specs.Prelude.{ℕ, List, [], ◌∷◌, map, codes, decimal}
use Rattle.serde_json.specs.Data.{Data, string, number, unsigned, array}
use Rattle.serde_json.specs.View.{items_of}
use Rattle.base_decimals.specs.Texts.{dec_text}
use Rattle.base_decimals.specs.declared.over.OverKind.{OverKind}
use Rattle.base_decimals.specs.declared.over.OverKind.TheVariants.{Sum, Quotient, Period}
use Rattle.base_types.specs.declared.account.Account.{Account}
use Rattle.base_types.specs.declared.account.Module.{Module}
use Rattle.base_types.specs.declared.status.BondStatus.{BondStatus}
use Rattle.base_types.specs.declared.status.BondStatus.TheVariants.{Bonded, Unbonding, Unbonded}
use Rattle.base_types.specs.Modules.{module_name}
use Rattle.base_types.specs.Moment.{moment_text}
use Rattle.base_coins.specs.Coins.{Money}
use Rattle.base_bech32.specs.declared.form.Form.{Form}
use Rattle.line_json.specs.Addresses.{account_text_in, cons_text, operator_text, user_text}
use Rattle.line_json.specs.Line.{object_of}

-- a whole amount: its digits
abbrev pub whole_data : ℕ → Data
whole_data n = string (decimal n)

-- a decimal: its whole part, a point and 18 places
abbrev pub decimal_data : ℕ → Data
decimal_data n = string (dec_text n)

-- a height, a place, a period or a number
abbrev pub count_data : ℕ → Data
count_data n = number (unsigned n)

-- a coin, whose amount is written in one of these ways
abbrev pub coin_data : (ℕ → Data) → List ℕ × ℕ → Data
coin_data amount_data coin = object_of ((codes "amount", amount_data coin.1) ∷ (codes "denom", string coin.0) ∷ [])

-- coins with whole amounts, in the order of the list
abbrev pub coins_data : Money → Data
coins_data coins = array (items_of (map (coin_data whole_data) coins))

-- coins with decimal amounts, in the order of the list
abbrev pub dec_coins_data : Money → Data
dec_coins_data coins = array (items_of (map (coin_data decimal_data) coins))

-- a user's address
abbrev pub user_data : Form → List ℕ → Data
user_data f bytes = string (user_text f bytes)

-- an operator's address
abbrev pub operator_data : Form → List ℕ → Data
operator_data f bytes = string (operator_text f bytes)

-- a consensus address
abbrev pub cons_data : Form → List ℕ → Data
cons_data f bytes = string (cons_text f bytes)

-- an account: a user by the address, a module by its name
abbrev pub account_data : Form → Account → Data
account_data f account = string (account_text_in f account)

-- a module, by its name
abbrev pub module_data : Module → Data
module_data m = string (module_name m)

-- a moment
abbrev pub moment_data : ℕ → Data
moment_data moment = string (moment_text moment)

-- the word of a validator's status
abbrev pub status_name : BondStatus → List ℕ
status_name Bonded = codes "bonded"
status_name Unbonding = codes "unbonding"
status_name Unbonded = codes "unbonded"

-- the word of what went past the limit
abbrev pub over_name : OverKind → List ℕ
over_name Sum = codes "sum"
over_name Quotient = codes "quotient"
over_name Period = codes "period"
