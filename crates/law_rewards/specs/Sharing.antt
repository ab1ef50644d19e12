-- How what is allocated to a validator is shared among delegators.
use Rattle.std.specs.Prelude.{Bool, true, false, List, [], filter, map}
use Rattle.base_roles.specs.Log.{LogEntry}
use Rattle.base_roles.specs.Log as log

-- an entry of which an ideal reward depends: an allocation or a slash
abbrev pub is_shared : LogEntry → Bool
is_shared log.made = false
is_shared (log.allocated f r t) = true
is_shared (log.ended p i t) = false
is_shared (log.started d s t x k) = false
is_shared (log.slashed b t f) = true
is_shared log.left = false
is_shared (log.withdrawn d p f o) = false
is_shared (log.commission c) = false

-- such an entry, without what of an allocation is commission
abbrev pub without_commission : LogEntry → LogEntry
without_commission (log.allocated f r t) = log.allocated [] r t
without_commission e = e

-- the allocations and slashes among entries
abbrev pub shared_among : List LogEntry → List LogEntry
shared_among es = map without_commission (filter is_shared es)
