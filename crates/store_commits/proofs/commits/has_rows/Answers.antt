use Rattle.std.proofs.Common.{◌≡◌, ◌<◌, length, rules}
use Rattle.store_commits.proofs.Committing.{keeps_some, no_rows, some_rows}
use Rattle.store_commits.proofs.commits.has_rows.Goals as goal

pub returns-then-is_empty-clause-none : goal.returns-then-is_empty-clause-none
returns-then-is_empty-clause-none g c =
    let none : length c.in-Ok.rows.items ≡ 0 = search rules in
    λ e. no_rows c.in-Ok.rows.items _ c.in-Ok.ensures.rows none

pub returns-in-Ok-clause-some : goal.returns-in-Ok-clause-some
returns-in-Ok-clause-some g c =
    let some : 0 < length c.in-Ok.rows.items = search rules in
    λ e. some_rows c.in-Ok.rows.items _ c.in-Ok.ensures.rows some

pub returns-in-Ok-clause-kept : goal.returns-in-Ok-clause-kept
returns-in-Ok-clause-kept g c =
    let some : 0 < length c.in-Ok.rows.items = search rules in
    λ e. keeps_some _ c.in-Ok.rows.items c.in-Ok.ensures.unkept some
