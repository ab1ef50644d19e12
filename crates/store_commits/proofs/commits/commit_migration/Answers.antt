use Rattle.std.proofs.Common.{◌≡◌, ◌<◌, length, rules, arith, ap}
use Rattle.store_commits.proofs.Committing.{led, led_nowhere, no_change, taken}
use Rattle.store_commits.proofs.commits.commit_migration.Goals as goal

pub returns-then-is_empty-clause-commits : goal.returns-then-is_empty-clause-commits
returns-then-is_empty-clause-commits g c =
    let none : length c.args.list.now ≡ 0 = search rules in
    λ items lead. led_nowhere items c.args.list.now _ _ _ (no_change c.args.list.now none) lead

pub commit-requires-clause-taken : goal.commit-requires-clause-taken
commit-requires-clause-taken g c =
    let some : 0 < length c.args.list.now = search rules in
    g.met.D.Keeper.takes_ordinary c.args.keeper.now c.args.list.now (taken c.args.list.now _ c.requires.ordinary some)

pub returns-clause-commits : goal.returns-clause-commits
returns-clause-commits g c = λ items lead.
    let e = c.commit.ensures in
    led c.commit.result items c.args.list.now _ _ _ _ _ _ lead e.ok e.told e.err e.settled e.honest e.stop

pub returns-clause-none : goal.returns-clause-none
returns-clause-none g c = λ none.
    let some : 0 < length c.args.list.now = search rules in
    let no : length c.args.list.now ≡ 0 = ap length none in
    absurd (omega (arith, some, no))
