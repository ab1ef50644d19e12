use Rattle.std.proofs.Common.{◌++◌}
use Rattle.base_records.proofs.KindLemmas.{added-twice, on_ok}
use Rattle.chain_modules.{specs.{Kept.kept_of, Marks.settled_over, Items.ctx_changes}, proofs.ItemLemmas.all_changed}
use Rattle.chain_modules.proofs.modules.Modules.changes_into.Goals as goal

pub returns-clause-changes : goal.returns-clause-changes
returns-clause-changes g c =
    let m = c.args.self.now in
    let out = c.args.out.now.items in
    let one = c.ctx_changes_into.new.out.items in
    let two = c.changes_into.new.out.items in
    let three = c.stake_changes_into.new.out.items in
    let four = c.hook_changes_into.new.out.items in
    let of_ctx = ctx_changes c.args.settled.now m.ground.ctx in
    let x = c.in_ok-changes_into.ensures.changes in
    let y = c.in_ok-stake_changes_into.ensures.changes in
    on_ok c.hook_changes_into.result (λ z. (
      of_ctx ++ (x.0 ++ (y.0 ++ z.0)),
      (
        added-twice out one four of_ctx (x.0 ++ (y.0 ++ z.0)) c.in_ok-ctx_changes_into.ensures.changes
            (added-twice one two four x.0 (y.0 ++ z.0) x.1.0 (added-twice two three four y.0 z.0 y.1.0 z.1.0)),
        all_changed (settled_over c.args.settled.now m) (kept_of m) x.0 y.0 z.0 x.1.1 y.1.1 z.1.1,
      ),
    )) c.hook_changes_into.ensures.changes
