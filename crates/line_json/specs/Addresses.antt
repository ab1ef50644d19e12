-- The texts of addresses in either form: forty hexadecimal digits, or the spelling of BIP 173, whose prefix names the kind
-- of the address.
use Rattle.std.specs.Prelude.{ℕ, List, codes, Option, option_and_then, option_map}
use Rattle.std.specs.Result.{result_ok}
use Rattle.base_types.specs.declared.account.Account.{Account}
use Rattle.base_types.specs.declared.account.Account.TheVariants as account
use Rattle.base_types.specs.Accounts.{account_from}
use Rattle.base_types.specs.Address.{address_of, address_text}
use Rattle.base_types.specs.Modules.{module_name, user_from}
use Rattle.base_bech32.specs.declared.form.Form.{Form}
use Rattle.base_bech32.specs.declared.form.Form.TheVariants.{Hex, Bech32}
use Rattle.base_bech32.specs.Reading.{unspelled}
use Rattle.base_bech32.specs.Spelling.{spelling_of}

-- ---- prefixes

-- of the accounts of users and modules
abbrev pub account_prefix : List ℕ
account_prefix = codes "cosmos"

-- of the operators of validators
abbrev pub operator_prefix : List ℕ
operator_prefix = codes "cosmosvaloper"

-- of consensus addresses
abbrev pub cons_prefix : List ℕ
cons_prefix = codes "cosmosvalcons"

-- ---- what is written

-- the text of twenty bytes, which has this prefix where it is a spelling
abbrev pub bytes_text : Form → List ℕ → List ℕ → List ℕ
bytes_text Hex prefix bytes = address_text bytes
bytes_text Bech32 prefix bytes = spelling_of prefix bytes

-- of a user
abbrev pub user_text : Form → List ℕ → List ℕ
user_text f bytes = bytes_text f account_prefix bytes

-- of an operator
abbrev pub operator_text : Form → List ℕ → List ℕ
operator_text f bytes = bytes_text f operator_prefix bytes

-- a consensus address
abbrev pub cons_text : Form → List ℕ → List ℕ
cons_text f bytes = bytes_text f cons_prefix bytes

-- an account: a user by the address, a module by its name
abbrev pub account_text_in : Form → Account → List ℕ
account_text_in f (account.User bytes) = user_text f bytes
account_text_in f (account.Module m) = module_name m

-- ---- what is read

-- the twenty bytes of a text, which has this prefix where it is a spelling
abbrev pub bytes_in : Form → List ℕ → List ℕ → Option (List ℕ)
bytes_in Hex prefix text = address_of text
bytes_in Bech32 prefix text = result_ok (unspelled prefix text)

-- a user, whose address is no module's
abbrev pub user_in : Form → List ℕ → Option (List ℕ)
user_in f text = option_and_then user_from (bytes_in f account_prefix text)

-- an operator, whose address is no module's
abbrev pub operator_in : Form → List ℕ → Option (List ℕ)
operator_in f text = option_and_then user_from (bytes_in f operator_prefix text)

-- a consensus address
abbrev pub cons_in : Form → List ℕ → Option (List ℕ)
cons_in f text = bytes_in f cons_prefix text

-- a user or a module
abbrev pub account_in : Form → List ℕ → Option Account
account_in f text = option_map account_from (bytes_in f account_prefix text)

-- whoever has the address of an operator, also where it is a module's: of such a validator nothing is known
abbrev pub operator_asked : Form → List ℕ → Option Account
operator_asked f text = option_map account_from (bytes_in f operator_prefix text)
