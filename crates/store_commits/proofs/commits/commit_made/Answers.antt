use Rattle.store_commits.proofs.Committing.{changing, committed}
use Rattle.store_commits.proofs.commits.commit_made.Goals as goal

pub commit-requires-clause-taken : goal.commit-requires-clause-taken
commit-requires-clause-taken g c = g.met.D.Keeper.takes_ordinary c.args.keeper.now c.args.list.now c.requires.made.2.ordinary

pub commit-requires-clause-changing : goal.commit-requires-clause-changing
commit-requires-clause-changing g c =
    let m = c.requires.made in
    changing _ c.args.list.now _ m.3.rows (λ told.
    let old = m.3.stored told in
    c.commits_reach_new_rows.ensures.changing m.0 m.1 c.args.list.now old (m.2.stored old) m.2.made)

pub returns-clause-commits : goal.returns-clause-commits
returns-clause-commits g c = λ old new is held.
    let e = c.commit.ensures in
    committed c.commit.result old new c.args.list.now _ _ _ _ _ _ held (λ s. c.commits_reach_new_rows.ensures.reached old new c.args.list.now s (is.stored s) is.made) is.stored
    e.ok e.told e.err e.settled e.honest e.stop
