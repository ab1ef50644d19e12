use Rattle.base_io.specs.Changes.{Rises}
use Rattle.store_history.specs.History.{IsHistory}
use Rattle.store_history.proofs.KeepingLemmas.{become_still, holds_still, if_ok_by, knows_still, on_ok, shown_holds, shown_makes, shown_rises, shown_settled, shown_some, shown_stop, some_shown}
use Rattle.std.proofs.Common.{refl}
use Rattle.store_history.proofs.keeper.HistoryKeeperKeeper.load.Goals as goal

pub invariant_of-self : goal.invariant_of-self
invariant_of-self g c =
    let told = g.D.Keeper.rows c.self.inside.inner.now in
    let told' = g.D.Keeper.rows c.load_visible.new.keeper in (
      record {
        takes_all = λ changes distinct. c.load_visible.ensures.takes changes (c.self.invariant.0.takes_all changes distinct);
        settled = c.load_visible.ensures.settled;
        rises = c.load_visible.ensures.ascending;
        history = holds_still IsHistory told told' c.load_visible.ensures.same c.self.invariant.0.history;
        knows = λ k. knows_still told told' c.self.inside.history.base c.self.inside.history.visible c.load_visible.ensures.same (c.self.invariant.0.knows k);
      },
      c.self.invariant.1,
      become_still _ told told' c.load_visible.ensures.same c.self.invariant.2,
    )

pub returns-clause-rows : goal.returns-clause-rows
returns-clause-rows g c =
    if_ok_by c.load_visible.result _ _ c.load_visible.ensures.rows (λ list h. shown_holds _ _ (g.D.Keeper.rows c.load_visible.new.keeper) (λ rows e. e) h)

pub returns-clause-ascending : goal.returns-clause-ascending
returns-clause-ascending g c = shown_holds Rises Rises (g.D.Keeper.rows c.load_visible.new.keeper) shown_rises c.load_visible.ensures.ascending

pub returns-clause-same : goal.returns-clause-same
returns-clause-same g c =
    rw (← c.self.view_is) (shown_makes (λ rows. rows) (λ rows. rows) (g.D.Keeper.rows c.self.inside.inner.now) (g.D.Keeper.rows c.load_visible.new.keeper) (λ rows is. refl) c.load_visible.ensures.same)

pub returns-clause-told : goal.returns-clause-told
returns-clause-told g c =
    rw (← c.self.view_is) (on_ok c.load_visible.result c.load_visible.ensures.told (λ still h some. shown_some (g.D.Keeper.rows c.load_visible.new.keeper) (still h (some_shown (g.D.Keeper.rows c.self.inside.inner.now) some))))

pub returns-clause-settled : goal.returns-clause-settled
returns-clause-settled g c = shown_settled (g.D.Keeper.may_leave c.load_visible.new.keeper) (g.D.Keeper.rows c.load_visible.new.keeper) c.load_visible.ensures.settled

pub returns-clause-stop : goal.returns-clause-stop
returns-clause-stop g c =
    rw (← c.self.view_is) (λ h. shown_stop (g.D.Keeper.may_leave c.self.inside.inner.now) (g.D.Keeper.may_leave c.load_visible.new.keeper) (c.load_visible.ensures.stop h))

pub returns-clause-history : goal.returns-clause-history
returns-clause-history g c =
    holds_still IsHistory (g.D.Keeper.rows c.self.inside.inner.now) (g.D.Keeper.rows c.load_visible.new.keeper) c.load_visible.ensures.same c.self.invariant.0.history
