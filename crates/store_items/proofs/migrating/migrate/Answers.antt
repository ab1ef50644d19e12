use Rattle.std.proofs.lemmas.Result.{err_from_is_err_and}
use Rattle.store_rows.specs.declared.format.Format.TheVariants.{First}
use Rattle.store_items.proofs.{Loops.item_at, MigrationLemmas.{all_on, is_migration, listed_taken, one_on}}
use Rattle.store_items.proofs.migrating.migrate.Goals as goal

pub returns-in_err-push_between-clause-fault : goal.returns-in_err-push_between-clause-fault
returns-in_err-push_between-clause-fault c = λ items all e.
    let p = err_from_is_err_and c.from_residual.result c.from_residual.ensures.1 in
    let (x, has, same, more, there) = item_at First items c.args.rows.now c.loop-row.row-index c.row-item.result all e c.loop-row-test.true c.row-item.is in
    rw (p.1, p.2) (c.in_err-push_between.ensures.fault x has same)

pub loop-row-preserved : goal.loop-row-preserved
loop-row-preserved c = λ items all e.
    one_on items c.args.rows.now c.loop-row.row-index c.row-item.result c.loop-row.changes.items c.push_between.new.changes.items all e c.loop-row-test.true c.row-item.is (c.loop-row.invariant items all e) c.in_ok-push_between.ensures.made

pub returns-clause-made : goal.returns-clause-made
returns-clause-made c = λ items old.
    is_migration items _ c.loop-row.changes.items old (λ its all e. all_on its c.args.rows.now c.loop-row.row-index c.loop-row.changes.items e c.loop-row-test.false (c.loop-row.invariant its all e))

pub returns-clause-taken : goal.returns-clause-taken
returns-clause-taken c = λ items listed.
    listed_taken items _ c.loop-row.changes.items listed (λ its all e. all_on its c.args.rows.now c.loop-row.row-index c.loop-row.changes.items e c.loop-row-test.false (c.loop-row.invariant its all e))
