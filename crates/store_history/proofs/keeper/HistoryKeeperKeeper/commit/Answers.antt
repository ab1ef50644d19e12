use Rattle.base_io.specs.Changes.{Rises}
use Rattle.store_history.specs.History.{IsHistory}
use Rattle.store_history.proofs.KeepingLemmas.{become_after, both_now, shown_err, shown_left, shown_ok, shown_stops, shown_told, told_parts}
use Rattle.store_history.proofs.keeper.HistoryKeeperKeeper.commit.Goals as goal

pub commit_known-requires-clause-changing : goal.commit_known-requires-clause-changing
commit_known-requires-clause-changing g c = rw (← c.self.view_is) at c.requires.changing

pub invariant_of-self : goal.invariant_of-self
invariant_of-self g c =
    let told' = g.D.Keeper.rows c.commit_known.new.keeper in
    let both = told_parts Rises IsHistory told' (
    both_now c.commit_known.result c.args.changes.now c.commit_known.ensures.is_commit (g.D.Keeper.rows c.self.inside.inner.now) told' (g.D.Keeper.is_honest c.self.inside.inner.now) (g.D.Keeper.is_honest c.commit_known.new.keeper)
    (g.D.Keeper.may_leave c.self.inside.inner.now) (g.D.Keeper.may_leave c.commit_known.new.keeper) c.self.invariant.0.rises c.self.invariant.0.history c.commit_known.ensures.commits
    ) in (
      record {
        takes_all = λ changes distinct. c.commit_known.ensures.takes changes (c.self.invariant.0.takes_all changes distinct);
        settled = c.commit_known.ensures.commits.settled;
        rises = both.0;
        history = both.1;
        knows = c.commit_known.ensures.knows;
      },
      c.self.invariant.1,
      become_after c.commit_known.result c.args.changes.now c.commit_known.ensures.is_commit _ (g.D.Keeper.rows c.self.inside.inner.now) told' c.commit_known.ensures.commits.ok c.commit_known.ensures.commits.err c.self.invariant.2,
    )

pub returns-clause-ok : goal.returns-clause-ok
returns-clause-ok g c =
    rw (← c.self.view_is) (
    shown_ok c.commit_known.result c.args.changes.now c.commit_known.ensures.is_commit (g.D.Keeper.rows c.self.inside.inner.now) (g.D.Keeper.rows c.commit_known.new.keeper) (g.D.Keeper.is_honest c.self.inside.inner.now)
    (g.D.Keeper.is_honest c.commit_known.new.keeper) (g.D.Keeper.may_leave c.self.inside.inner.now) (g.D.Keeper.may_leave c.commit_known.new.keeper) c.self.invariant.0.rises c.self.invariant.0.history c.commit_known.ensures.commits
    )

pub returns-clause-told : goal.returns-clause-told
returns-clause-told g c =
    rw (← c.self.view_is) (
    shown_told c.commit_known.result c.args.changes.now c.commit_known.ensures.is_commit (g.D.Keeper.rows c.self.inside.inner.now) (g.D.Keeper.rows c.commit_known.new.keeper) (g.D.Keeper.is_honest c.self.inside.inner.now)
    (g.D.Keeper.is_honest c.commit_known.new.keeper) (g.D.Keeper.may_leave c.self.inside.inner.now) (g.D.Keeper.may_leave c.commit_known.new.keeper) c.self.invariant.0.rises c.self.invariant.0.history c.commit_known.ensures.commits
    )

pub returns-clause-err : goal.returns-clause-err
returns-clause-err g c =
    rw (← c.self.view_is) (
    shown_err c.commit_known.result c.args.changes.now c.commit_known.ensures.is_commit (g.D.Keeper.rows c.self.inside.inner.now) (g.D.Keeper.rows c.commit_known.new.keeper) (g.D.Keeper.is_honest c.self.inside.inner.now)
    (g.D.Keeper.is_honest c.commit_known.new.keeper) (g.D.Keeper.may_leave c.self.inside.inner.now) (g.D.Keeper.may_leave c.commit_known.new.keeper) c.self.invariant.0.rises c.self.invariant.0.history c.commit_known.ensures.commits
    )

pub returns-clause-settled : goal.returns-clause-settled
returns-clause-settled g c =
    shown_left c.commit_known.result c.args.changes.now c.commit_known.ensures.is_commit (g.D.Keeper.rows c.self.inside.inner.now) (g.D.Keeper.rows c.commit_known.new.keeper) (g.D.Keeper.is_honest c.self.inside.inner.now)
    (g.D.Keeper.is_honest c.commit_known.new.keeper) (g.D.Keeper.may_leave c.self.inside.inner.now) (g.D.Keeper.may_leave c.commit_known.new.keeper) c.self.invariant.0.rises c.self.invariant.0.history c.commit_known.ensures.commits

pub returns-clause-stop : goal.returns-clause-stop
returns-clause-stop g c =
    rw (← c.self.view_is) (
    shown_stops c.commit_known.result c.args.changes.now c.commit_known.ensures.is_commit (g.D.Keeper.rows c.self.inside.inner.now) (g.D.Keeper.rows c.commit_known.new.keeper) (g.D.Keeper.is_honest c.self.inside.inner.now)
    (g.D.Keeper.is_honest c.commit_known.new.keeper) (g.D.Keeper.may_leave c.self.inside.inner.now) (g.D.Keeper.may_leave c.commit_known.new.keeper) c.self.invariant.0.rises c.self.invariant.0.history c.commit_known.ensures.commits
    )

pub returns-clause-history : goal.returns-clause-history
returns-clause-history g c =
    let told' = g.D.Keeper.rows c.commit_known.new.keeper in
    (told_parts Rises IsHistory told' (
    both_now c.commit_known.result c.args.changes.now c.commit_known.ensures.is_commit (g.D.Keeper.rows c.self.inside.inner.now) told' (g.D.Keeper.is_honest c.self.inside.inner.now) (g.D.Keeper.is_honest c.commit_known.new.keeper)
    (g.D.Keeper.may_leave c.self.inside.inner.now) (g.D.Keeper.may_leave c.commit_known.new.keeper) c.self.invariant.0.rises c.self.invariant.0.history c.commit_known.ensures.commits
    )).1
