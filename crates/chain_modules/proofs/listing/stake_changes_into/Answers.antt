use Rattle.std.proofs.Common.{◌++◌}
use Rattle.base_records.proofs.KindLemmas.{added-twice, on_ok}
use Rattle.chain_modules.{specs.{Kept.stakes_kept, Marks.stakes_settled}, proofs.ItemLemmas.stakes_changed}
use Rattle.chain_modules.proofs.listing.stake_changes_into.Goals as goal

pub returns-clause-changes : goal.returns-clause-changes
returns-clause-changes g c =
    let out = c.args.out.now.items in
    let one = c.changes_into.new.out.items in
    let two = c.changes_into-2.new.out.items in
    let three = c.changes_into-3.new.out.items in
    let x = c.in_ok-changes_into.ensures.changes in
    let y = c.in_ok-changes_into-2.ensures.changes in
    let s = c.args.stakes.now in
    on_ok c.changes_into-3.result (λ z. (
      x.0 ++ (y.0 ++ z.0),
      (added-twice out one three x.0 (y.0 ++ z.0) x.1.0 (added-twice one two three y.0 z.0 y.1.0 z.1.0), stakes_changed (stakes_settled s) (stakes_kept s) x.0 y.0 z.0 x.1.1 y.1.1 z.1.1),
    )) c.changes_into-3.ensures.changes
