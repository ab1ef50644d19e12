use Rattle.std.proofs.Common.{◌≡◌, true, ap, subst}
use Rattle.base_types.specs.Denom.{is_denom}
use Rattle.std.specs.{List.Sorted.IsStrictlySortedBy, Map.keys_of}
use Rattle.base_roles.specs.Orders.{place_cmp}
use Rattle.mod_bank.{specs.Booked.booked, proofs.{OrderLemmas.{put_at, ordered_at}, MarkLemmas.in_step-put}}
use Rattle.mod_bank.proofs.tables.Tables.put_balance.Goals as goal

pub invariant_of-self : goal.invariant_of-self
invariant_of-self g c =
    let name : is_denom c.args.place.now.1 ≡ true = subst (λ d. is_denom d ≡ true) c.bytes.ensures.value c.bytes.ensures.name in
    in_step-put _ _ c.self.invariant c.args.place.now c.args.amount c.put.new.self name (put_at c.self.inside.balances c.put.new.self c.args.place.now c.args.amount c.in-Ok.ensures.ok)

pub returns-in-Ok-clause-changes : goal.returns-in-Ok-clause-changes
returns-in-Ok-clause-changes g c = record {
  ok = rw (← c.self.view_is) (ap (λ b. booked b c.self.inside.supplies c.self.inside.spent) (put_at c.self.inside.balances c.put.new.self c.args.place.now c.args.amount c.in-Ok.ensures.ok));
  err = tt;
}

pub returns-in-Ok-clause-ordered : goal.returns-in-Ok-clause-ordered
returns-in-Ok-clause-ordered g c = subst (λ b. IsStrictlySortedBy place_cmp (keys_of b.holdings.balances)) c.self.view_is (ordered_at c.self.inside.balances.entries c.known.ensures.ordered)

pub returns-in-Err-clause-ordered : goal.returns-in-Err-clause-ordered
returns-in-Err-clause-ordered g c = subst (λ b. IsStrictlySortedBy place_cmp (keys_of b.holdings.balances)) c.self.view_is (ordered_at c.self.inside.balances.entries c.known.ensures.ordered)
