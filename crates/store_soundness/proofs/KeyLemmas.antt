-- The orders in which maps keep accounts and places are those of their definitions.
use Rattle.std.proofs.Common.{◌≡◌, ℕ, List, ap, is_eq}
use Rattle.std.specs.BTreeMap.{is_at}
use Rattle.base_types.{proofs.OrderLemmas.{account_order, account_order_at}, specs.declared.account.Account.Account}
use Rattle.base_types.specs.Orders.{account_cmp}
use Rattle.base_roles.{specs.{Entries.number_at, Orders.place_cmp}, proofs.HoldingLemmas.{place_order, place_order_is}}

pub account_tested : (a b : Account) → is_at (account_order a) b ≡ is_at (account_cmp a) b
account_tested a b = ap is_eq (account_order_at a b)

pub balance_read : (es : List ((Account × List ℕ) × ℕ)) (place : Account × List ℕ) → number_at place_order es place ≡ number_at place_cmp es place
balance_read es place = ap (λ order. number_at order es place) place_order_is
