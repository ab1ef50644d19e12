-- Accounts of users and of modules, by their bytes and by their text.
use Rattle.std.specs.Prelude.{ℕ, List, Option, Some, None, option_map}
use Rattle.base_types.specs.declared.account.Module.{Module}
use Rattle.base_types.specs.declared.account.Account.{Account}
use Rattle.base_types.specs.declared.account.Account.TheVariants as account
use Rattle.base_types.specs.Modules.{module_bytes, module_name, module_of}
use Rattle.base_types.specs.Address.{address_of, address_text}

-- the account at these bytes: a module's where they are its address, else a user's
abbrev pub user_or_module : List ℕ → Option Module → Account
user_or_module bytes None = account.User bytes
user_or_module bytes (Some m) = account.Module m

abbrev pub account_from : List ℕ → Account
account_from bytes = user_or_module bytes (module_of bytes)

-- the account whose address the text spells
abbrev pub account_of : List ℕ → Option Account
account_of text = option_map account_from (address_of text)

-- the address of an account
abbrev pub account_bytes : Account → List ℕ
account_bytes (account.User bytes) = bytes
account_bytes (account.Module m) = module_bytes m

-- the printed text of an account: a user by the address, a module by its name
abbrev pub account_text : Account → List ℕ
account_text (account.User bytes) = address_text bytes
account_text (account.Module m) = module_name m
