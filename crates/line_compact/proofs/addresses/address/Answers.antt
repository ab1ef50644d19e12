use Rattle.line_compact.proofs.AddressLemmas.{address_begins}
use Rattle.line_compact.proofs.addresses.address.Goals as goal

pub returns : goal.returns
returns c = address_begins _ c.in_ok-inner.ensures c.split_at.ensures.by_index.0 c.in_ok-rest.ensures c.in_ok-bytes.ensures
