use Rattle.std.proofs.Common.{◌++◌}
use Rattle.base_records.proofs.KindLemmas.{added-twice, on_ok}
use Rattle.chain_modules.{specs.Marks.{hooks_kept, hooks_settled}, proofs.ItemLemmas.hooks_changed}
use Rattle.chain_modules.proofs.listing.hook_changes_into.Goals as goal

pub returns-clause-changes : goal.returns-clause-changes
returns-clause-changes g c =
    let out = c.args.out.now.items in
    let one = c.changes_into.new.out.items in
    let two = c.changes_into-2.new.out.items in
    let x = c.in_ok-changes_into.ensures.changes in
    let h = c.args.hooks.now in
    on_ok c.changes_into-2.result (λ z. (x.0 ++ z.0, (added-twice out one two x.0 z.0 x.1.0 z.1.0, hooks_changed (hooks_settled h) (hooks_kept h) x.0 z.0 x.1.1 z.1.1))) c.changes_into-2.ensures.changes
