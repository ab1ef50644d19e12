-- The order of rows by the bytes of their keys: by the kind, then by the fields of the key, one after the other. Accounts and
-- addresses go by their bytes, numbers by their value, denominations by their length first.
use Rattle.std.specs.Prelude.{ℕ, List, length}
use Rattle.std.specs.declared.cmp.Ordering.{Ordering}
use Rattle.std.specs.declared.cmp.Ordering.TheVariants.{Equal}
use Rattle.std.specs.Ordering.{nat_cmp, ordering_then}
use Rattle.base_types.specs.Accounts.{account_bytes}
use Rattle.base_types.specs.Orders.{addr_cmp, cons_cmp, denom_cmp}
use Rattle.base_roles.specs.Orders.{pair_cmp, triple_cmp}
use Rattle.base_roles.specs.declared.items.Item.{Item}
use Rattle.base_roles.specs.declared.items.Item.TheVariants as item
use Rattle.store_rows.specs.Kinds.{prefix_of}
use Rattle.store_rows.specs.Rows.{kind_in}

-- the shorter denomination first, then by their bytes
abbrev pub name_cmp : List ℕ → List ℕ → Ordering
name_cmp a b = ordering_then (nat_cmp (length a) (length b)) (denom_cmp a b)

-- the keys of two items of one kind
abbrev pub fields_cmp : Item → Item → Ordering
fields_cmp (item.Balance a d m) (item.Balance b e n) = ordering_then (addr_cmp (account_bytes a) (account_bytes b)) (name_cmp d e)
fields_cmp (item.Supply d m) (item.Supply e n) = name_cmp d e
fields_cmp (item.Validator u) (item.Validator v) = addr_cmp u.operator v.operator
fields_cmp (item.Delegation o d s) (item.Delegation p e t) = pair_cmp (o, d) (p, e)
fields_cmp (item.Unbonding d o s) (item.Unbonding e p t) = pair_cmp (d, o) (e, p)
fields_cmp (item.Redelegation d o p s) (item.Redelegation e q r t) = triple_cmp (d, o, p) (e, q, r)
fields_cmp (item.Signing c s x) (item.Signing d t y) = cons_cmp c d
fields_cmp (item.Purse o s) (item.Purse p t) = addr_cmp o p
fields_cmp (item.Withdraw d s) (item.Withdraw e t) = addr_cmp d e
fields_cmp (item.CurrentPeriod o s) (item.CurrentPeriod p t) = addr_cmp o p
fields_cmp (item.Historical o m s) (item.Historical p n t) = ordering_then (addr_cmp o p) (nat_cmp m n)
fields_cmp (item.Start o d s) (item.Start p e t) = pair_cmp (o, d) (p, e)
fields_cmp (item.Event o s) (item.Event p t) = ordering_then (addr_cmp o p) (ordering_then (nat_cmp s.height t.height) (nat_cmp s.period t.period))
fields_cmp i j = Equal

-- the keys of any two items
abbrev pub item_cmp : Item → Item → Ordering
item_cmp i j = ordering_then (nat_cmp (prefix_of (kind_in i)) (prefix_of (kind_in j))) (fields_cmp i j)
