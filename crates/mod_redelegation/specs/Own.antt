-- The entries of one delegator, which stand side by side.
use Rattle.std.specs.Prelude.{ℕ, Bool, true, if◌then◌else◌, List, filter, Option, Some, None}
use Rattle.base_roles.specs.declared.entities.RedelegationEntry.{RedelegationEntry}
use Rattle.base_roles.specs.Orders.{same_addr}
use Rattle.rule_modules.specs.Redelegations.{RedelegationLists}
use Rattle.mod_entries.specs.Lists.{IsAddr}

-- the parts of a key are addresses
abbrev pub are_addrs : List ℕ × List ℕ × List ℕ → Type 0
are_addrs key = IsAddr key.0 × IsAddr key.1 × IsAddr key.2

-- the entries of a delegator
abbrev pub own_entries : List ℕ → RedelegationLists → RedelegationLists
own_entries delegator r = filter (λ p. same_addr p.0.0 delegator) r

-- entries with their key, where there are some and they are the delegator's
abbrev pub own_entry : List ℕ → Option ((List ℕ × List ℕ × List ℕ) × List RedelegationEntry) → Option ((List ℕ × List ℕ × List ℕ) × List RedelegationEntry)
own_entry delegator None = None
own_entry delegator (Some p) = if same_addr p.0.0 delegator then Some p else None

-- there is no key, or it is the delegator's
abbrev pub is_own_or_none : List ℕ → Option (List ℕ × List ℕ × List ℕ) → Bool
is_own_or_none delegator None = true
is_own_or_none delegator (Some key) = same_addr key.0 delegator
