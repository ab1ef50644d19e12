use Rattle.std.proofs.Common.{◌≡◌, subst, IfOk}
use Rattle.store_records.{specs.Gathering.some_if, proofs.KeyLemmas.triple_new}
use Rattle.store_records.proofs.places.put_triple.Goals as goal

pub returns : goal.returns
returns g c =
    subst (λ r. IfOk c.put_new.result (λ new. r ≡ some_if new c.put_new.new.entries.entries))
    (triple_new c.args.entries.now.entries c.args.key c.args.value) c.put_new.ensures
