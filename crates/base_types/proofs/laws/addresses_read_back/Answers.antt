use Rattle.base_types.proofs.AddressLemmas.{address_of-address_text}
use Rattle.base_types.proofs.laws.addresses_read_back.Goals as goal

pub returns : goal.returns
returns c = address_of-address_text
