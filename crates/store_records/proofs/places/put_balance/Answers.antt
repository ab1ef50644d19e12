use Rattle.std.proofs.Common.{◌≡◌, subst, IfOk}
use Rattle.store_records.{specs.Gathering.some_if, proofs.KeyLemmas.balance_new}
use Rattle.store_records.proofs.places.put_balance.Goals as goal

pub returns : goal.returns
returns c =
    subst (λ r. IfOk c.put_new.result (λ new. r ≡ some_if new c.put_new.new.entries.entries))
    (balance_new c.args.balances.now.entries c.args.place c.args.amount) c.put_new.ensures
