use Rattle.base_types.proofs.AccountLemmas.{account_bytes-account_from, account_from-module_bytes, address_of-module_name}
use Rattle.base_types.proofs.laws.accounts_keep_their_bytes.Goals as goal

pub returns : goal.returns
returns c = record { bytes = account_bytes-account_from; modules = account_from-module_bytes; names = address_of-module_name }
