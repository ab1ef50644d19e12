use Rattle.std.proofs.Common.{◌≡◌, ◌∙◌, Err, ap, map, rules}
use Rattle.base_io.specs.declared.keeper.KeepFault.TheVariants as keep
use Rattle.base_io.specs.Changes.{Rises}
use Rattle.store_history.specs.{Commits.seen, Held.shown, History.{IsHistory, stored_base, visible}}
use Rattle.store_history.proofs.KeepingLemmas.{commits_by, commits_not, told_at}
use Rattle.store_history.proofs.ListLemmas.{on_list_changes, on_list_distinct, on_list_made}
use Rattle.store_history.proofs.committing.commit_on.Goals as goal

pub commit-requires-clause-taken : goal.commit-requires-clause-taken
commit-requires-clause-taken g c =
    c.requires.takes c.as_slice.result.now
    (on_list_distinct c.args.changes.now c.as_slice.result.now c.args.history.now.base c.args.history.now.visible c.args.last c.args.height c.requires.ordinary (ap (map seen) c.as_slice.ensures.value ∙ c.in_ok-list.ensures))

pub commit-requires-clause-changing : goal.commit-requires-clause-changing
commit-requires-clause-changing g c = λ rows told.
    on_list_changes c.args.changes.now c.as_slice.result.now c.args.history.now.base c.args.history.now.visible c.args.last c.args.height rows c.requires.ordinary (ap (map seen) c.as_slice.ensures.value ∙ c.in_ok-list.ensures)
    (told_at Rises _ rows told c.requires.rises) (told_at IsHistory _ rows told c.requires.history)
    (told_at (λ rows. c.args.history.now.base ≡ stored_base rows) _ rows told c.requires.knows.base_is) (told_at (λ rows. c.args.history.now.visible ≡ visible rows) _ rows told c.requires.knows.seen_are)
    c.requires.last c.requires.less c.ranges.height.fits (c.requires.changing (visible rows) (ap shown told))

pub returns-in_err-list-clause-commits : goal.returns-in_err-list-clause-commits
returns-in_err-list-clause-commits g c =
    let given : c.from_residual.result ≡ Err keep.NoMemory = search rules in
    commits_not _ keep.NoMemory given c.args.changes.now (g.D.Keeper.rows c.args.keeper.now) (g.D.Keeper.is_honest c.args.keeper.now) (g.D.Keeper.may_leave c.args.keeper.now) c.requires.settled

pub returns-clause-commits : goal.returns-clause-commits
returns-clause-commits g c =
    commits_by c.commit.result c.args.changes.now c.as_slice.result.now (g.D.Keeper.rows c.args.keeper.now) (g.D.Keeper.rows c.commit.new.self) (g.D.Keeper.is_honest c.args.keeper.now) (g.D.Keeper.is_honest c.commit.new.self)
    (g.D.Keeper.may_leave c.args.keeper.now) (g.D.Keeper.may_leave c.commit.new.self)
    (λ rows told.
    on_list_made c.args.changes.now c.as_slice.result.now c.args.history.now.base c.args.history.now.visible c.args.last c.args.height rows c.requires.ordinary (ap (map seen) c.as_slice.ensures.value ∙ c.in_ok-list.ensures)
    (told_at Rises _ rows told c.requires.rises)
    (told_at (λ rows. c.args.history.now.base ≡ stored_base rows) _ rows told c.requires.knows.base_is) (told_at (λ rows. c.args.history.now.visible ≡ visible rows) _ rows told c.requires.knows.seen_are)
    c.requires.last c.requires.less c.requires.height)
    c.commit.ensures.ok c.commit.ensures.told c.commit.ensures.err c.commit.ensures.settled c.commit.ensures.honest c.commit.ensures.stop
