use Rattle.std.proofs.Common.{◌≡◌, Err, rules}
use Rattle.base_io.specs.Changes.{Rises}
use Rattle.store_history.specs.History.{IsHistory}
use Rattle.store_history.proofs.KeepingLemmas.{changing_still, commits_failed, commits_later, commits_loaded, holds_still, is_commit, knows_after, knows_still}
use Rattle.store_history.proofs.committing.commit_known.Goals as goal

pub commit_at-requires-clause-takes : goal.commit_at-requires-clause-takes
commit_at-requires-clause-takes g c = λ changes distinct. c.in_ok-ready.ensures.takes changes (c.requires.takes changes distinct)

pub commit_at-requires-clause-rises : goal.commit_at-requires-clause-rises
commit_at-requires-clause-rises g c = holds_still Rises (g.D.Keeper.rows c.args.keeper.now) (g.D.Keeper.rows c.ready.new.keeper) c.in_ok-ready.ensures.same c.requires.rises

pub commit_at-requires-clause-history : goal.commit_at-requires-clause-history
commit_at-requires-clause-history g c = holds_still IsHistory (g.D.Keeper.rows c.args.keeper.now) (g.D.Keeper.rows c.ready.new.keeper) c.in_ok-ready.ensures.same c.requires.history

pub commit_at-requires-clause-changing : goal.commit_at-requires-clause-changing
commit_at-requires-clause-changing g c = changing_still c.args.changes.now (g.D.Keeper.rows c.args.keeper.now) (g.D.Keeper.rows c.ready.new.keeper) c.in_ok-ready.ensures.same c.requires.changing

pub returns-in_err-ready-clause-is_commit : goal.returns-in_err-ready-clause-is_commit
returns-in_err-ready-clause-is_commit g c = is_commit c.args.changes.now c.commit_height-height.result c.requires.ordinary c.commit_height-height.ensures.names c.commit_height-height.ensures.fits

pub returns-in_err-ready-clause-commits : goal.returns-in_err-ready-clause-commits
returns-in_err-ready-clause-commits g c =
    let given : c.from_residual.result ≡ Err c.in_err-ready.field-0.0 = search rules in
    commits_loaded _ c.in_err-ready.field-0.0 given c.args.changes.now (g.D.Keeper.rows c.args.keeper.now) (g.D.Keeper.rows c.ready.new.keeper) (g.D.Keeper.is_honest c.args.keeper.now) (g.D.Keeper.is_honest c.ready.new.keeper)
    (g.D.Keeper.may_leave c.args.keeper.now) (g.D.Keeper.may_leave c.ready.new.keeper) c.ready.ensures.same c.ready.ensures.settled c.ready.ensures.honest c.ready.ensures.stop

pub returns-in_err-commit_at-clause-is_commit : goal.returns-in_err-commit_at-clause-is_commit
returns-in_err-commit_at-clause-is_commit g c = is_commit c.args.changes.now c.commit_height-height.result c.requires.ordinary c.commit_height-height.ensures.names c.commit_height-height.ensures.fits

pub returns-in_err-commit_at-clause-commits : goal.returns-in_err-commit_at-clause-commits
returns-in_err-commit_at-clause-commits g c =
    let given : c.from_residual-in_err-commit_at.result ≡ Err c.in_err-commit_at.field-0.0 = search rules in
    commits_failed _ c.in_err-commit_at.field-0.0 given c.args.changes.now (g.D.Keeper.rows c.args.keeper.now) (g.D.Keeper.rows c.ready.new.keeper) (g.D.Keeper.rows c.commit_at.new.keeper)
    (g.D.Keeper.is_honest c.args.keeper.now) (g.D.Keeper.is_honest c.ready.new.keeper) (g.D.Keeper.is_honest c.commit_at.new.keeper)
    (g.D.Keeper.may_leave c.args.keeper.now) (g.D.Keeper.may_leave c.ready.new.keeper) (g.D.Keeper.may_leave c.commit_at.new.keeper)
    c.in_ok-ready.ensures.same c.in_ok-ready.ensures.honest c.in_ok-ready.ensures.stop c.in_ok-ready.ensures.told c.in_err-commit_at.ensures.commits

pub returns-in_err-commit_at-clause-knows : goal.returns-in_err-commit_at-clause-knows
returns-in_err-commit_at-clause-knows g c = λ k.
    knows_still (g.D.Keeper.rows c.ready.new.keeper) (g.D.Keeper.rows c.commit_at.new.keeper) c.ready.new.history.base c.ready.new.history.visible c.in_err-commit_at.ensures.commits.err c.in_ok-ready.ensures.knows

pub returns-clause-is_commit : goal.returns-clause-is_commit
returns-clause-is_commit g c = is_commit c.args.changes.now c.commit_height-height.result c.requires.ordinary c.commit_height-height.ensures.names c.commit_height-height.ensures.fits

pub returns-clause-commits : goal.returns-clause-commits
returns-clause-commits g c =
    commits_later _ c.args.changes.now (g.D.Keeper.rows c.args.keeper.now) (g.D.Keeper.rows c.ready.new.keeper) (g.D.Keeper.rows c.commit_at.new.keeper)
    (g.D.Keeper.is_honest c.args.keeper.now) (g.D.Keeper.is_honest c.ready.new.keeper) (g.D.Keeper.is_honest c.commit_at.new.keeper)
    (g.D.Keeper.may_leave c.args.keeper.now) (g.D.Keeper.may_leave c.ready.new.keeper) (g.D.Keeper.may_leave c.commit_at.new.keeper)
    c.in_ok-ready.ensures.same c.in_ok-ready.ensures.told c.in_ok-ready.ensures.honest c.in_ok-ready.ensures.stop c.in_ok-commit_at.ensures.commits

pub returns-clause-knows : goal.returns-clause-knows
returns-clause-knows g c = λ k.
    let told = g.D.Keeper.rows c.args.keeper.now in
    let mid = g.D.Keeper.rows c.ready.new.keeper in
    knows_after c.args.changes.now (is_commit c.args.changes.now c.commit_height-height.result c.requires.ordinary c.commit_height-height.ensures.names c.commit_height-height.ensures.fits) c.commit_height-height.result c.commit_height-height.ensures.names
    mid (g.D.Keeper.rows c.commit_at.new.keeper) c.ready.new.history.base c.follow.new.self.base c.ready.new.history.visible c.follow.new.self.visible
    (holds_still Rises told mid c.in_ok-ready.ensures.same c.requires.rises) (holds_still IsHistory told mid c.in_ok-ready.ensures.same c.requires.history)
    c.in_ok-ready.ensures.knows c.in_ok-commit_at.ensures.commits.ok c.follow.ensures.base (c.follow.ensures.visible k)
