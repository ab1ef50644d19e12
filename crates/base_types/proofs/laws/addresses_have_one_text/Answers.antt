use Rattle.base_types.proofs.AddressLemmas.{address_of-one_text}
use Rattle.base_types.proofs.laws.addresses_have_one_text.Goals as goal

pub returns-clause-address : goal.returns-clause-address
returns-clause-address c = λ text bytes e. (address_of-one_text text bytes e).0

pub returns-clause-text : goal.returns-clause-text
returns-clause-text c = λ text bytes e. (address_of-one_text text bytes e).1
