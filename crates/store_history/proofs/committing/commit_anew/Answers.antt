use Rattle.std.proofs.Common.{◌≡◌, ◌∙◌, Err, List, ap, filter, map, rules, subst, sym}
use Rattle.base_io.specs.declared.keeper.KeepFault.TheVariants as keep
use Rattle.base_io.specs.{declared.keeper.Row.Row, Rows.Pair, Changes.{Rises, pair_of}}
use Rattle.store_history.specs.{Commits.{is_kept, seen}, Held.shown, History.{stored_base, visible}}
use Rattle.store_history.proofs.KeepingLemmas.{commits_by, commits_later, commits_loaded, told_at, told_back}
use Rattle.store_history.proofs.ListLemmas.{new_list, new_list_changes, new_list_distinct, new_list_made}
use Rattle.store_history.proofs.LoadLemmas.{told_list}
use Rattle.store_history.proofs.committing.commit_anew.Goals as goal

pub commit-requires-clause-taken : goal.commit-requires-clause-taken
commit-requires-clause-taken g c =
    let kept = map pair_of c.in_ok-kept.kept.items in
    let is : map seen c.as_slice-3.result.now ≡ new_list kept c.args.history.now.base c.args.height c.args.changes.now =
    ap (map seen) c.as_slice-3.ensures.value ∙ c.in_ok-list.ensures
    ∙ ap (λ (rows : List Row). new_list (map pair_of rows) c.args.history.now.base c.args.height c.args.changes.now) c.as_slice-2.ensures.value in
    c.in_ok-rows.ensures.takes c.as_slice-3.result.now
    (c.requires.takes c.as_slice-3.result.now (new_list_distinct c.args.changes.now c.as_slice-3.result.now kept c.args.history.now.base c.args.height c.requires.ordinary is c.in_ok-kept.ensures.rises c.in_ok-kept.ensures.kept))

pub commit-requires-clause-changing : goal.commit-requires-clause-changing
commit-requires-clause-changing g c = λ rows at.
    let told = g.D.Keeper.rows c.args.keeper.now in
    let mid = g.D.Keeper.rows c.load.new.self in
    let list = map pair_of c.as_slice.result.now in
    let kept = map pair_of c.in_ok-kept.kept.items in
    let is : map seen c.as_slice-3.result.now ≡ new_list kept c.args.history.now.base c.args.height c.args.changes.now =
    ap (map seen) c.as_slice-3.ensures.value ∙ c.in_ok-list.ensures
    ∙ ap (λ (rows : List Row). new_list (map pair_of rows) c.args.history.now.base c.args.height c.args.changes.now) c.as_slice-2.ensures.value in
    let was = told_back told mid rows c.in_ok-rows.ensures.same at in
    let up = told_at Rises mid rows at c.in_ok-rows.ensures.ascending in
    let list_is : list ≡ rows = told_at (λ p. list ≡ p) mid rows at (told_list mid (map pair_of c.in_ok-rows.rows.items) list c.in_ok-rows.ensures.rows (ap (map pair_of) c.as_slice.ensures.value)) in
    let kept_is : kept ≡ filter (λ p. is_kept p.0) rows = c.in_ok-kept.ensures.all (subst (λ (ps : List Pair). Rises ps) (sym list_is) up) ∙ ap (λ (ps : List Pair). filter (λ p. is_kept p.0) ps) list_is in
    new_list_changes c.args.changes.now c.as_slice-3.result.now kept c.args.history.now.base c.args.history.now.visible c.args.height rows c.requires.ordinary is up
    (told_at (λ rows. c.args.history.now.base ≡ stored_base rows) told rows was c.requires.knows.base_is) kept_is c.ranges.height.fits (c.requires.changing (visible rows) (ap shown was))

pub returns-clause-commits : goal.returns-clause-commits
returns-clause-commits g c =
    let told = g.D.Keeper.rows c.args.keeper.now in
    let mid = g.D.Keeper.rows c.load.new.self in
    let list = map pair_of c.as_slice.result.now in
    let kept = map pair_of c.in_ok-kept.kept.items in
    let is : map seen c.as_slice-3.result.now ≡ new_list kept c.args.history.now.base c.args.height c.args.changes.now =
    ap (map seen) c.as_slice-3.ensures.value ∙ c.in_ok-list.ensures
    ∙ ap (λ (rows : List Row). new_list (map pair_of rows) c.args.history.now.base c.args.height c.args.changes.now) c.as_slice-2.ensures.value in
    commits_later c.commit.result c.args.changes.now told mid (g.D.Keeper.rows c.commit.new.self) (g.D.Keeper.is_honest c.args.keeper.now) (g.D.Keeper.is_honest c.load.new.self) (g.D.Keeper.is_honest c.commit.new.self)
    (g.D.Keeper.may_leave c.args.keeper.now) (g.D.Keeper.may_leave c.load.new.self) (g.D.Keeper.may_leave c.commit.new.self)
    c.in_ok-rows.ensures.same c.in_ok-rows.ensures.told c.in_ok-rows.ensures.honest c.in_ok-rows.ensures.stop
    (commits_by c.commit.result c.args.changes.now c.as_slice-3.result.now mid (g.D.Keeper.rows c.commit.new.self) (g.D.Keeper.is_honest c.load.new.self) (g.D.Keeper.is_honest c.commit.new.self)
    (g.D.Keeper.may_leave c.load.new.self) (g.D.Keeper.may_leave c.commit.new.self)
    (λ rows at.
    let was = told_back told mid rows c.in_ok-rows.ensures.same at in
    let up = told_at Rises mid rows at c.in_ok-rows.ensures.ascending in
    let list_is : list ≡ rows = told_at (λ p. list ≡ p) mid rows at (told_list mid (map pair_of c.in_ok-rows.rows.items) list c.in_ok-rows.ensures.rows (ap (map pair_of) c.as_slice.ensures.value)) in
    let kept_is : kept ≡ filter (λ p. is_kept p.0) rows = c.in_ok-kept.ensures.all (subst (λ (ps : List Pair). Rises ps) (sym list_is) up) ∙ ap (λ (ps : List Pair). filter (λ p. is_kept p.0) ps) list_is in
    new_list_made c.args.changes.now c.as_slice-3.result.now kept c.args.history.now.base c.args.history.now.visible c.args.height rows is up
    (told_at (λ rows. c.args.history.now.base ≡ stored_base rows) told rows was c.requires.knows.base_is) (told_at (λ rows. c.args.history.now.visible ≡ visible rows) told rows was c.requires.knows.seen_are)
    kept_is c.requires.last c.requires.height)
    c.commit.ensures.ok c.commit.ensures.told c.commit.ensures.err c.commit.ensures.settled c.commit.ensures.honest c.commit.ensures.stop)

pub returns-in_err-rows-clause-commits : goal.returns-in_err-rows-clause-commits
returns-in_err-rows-clause-commits g c =
    let given : c.from_residual.result ≡ Err c.in_err-rows.field-0.0 = search rules in
    commits_loaded _ c.in_err-rows.field-0.0 given c.args.changes.now (g.D.Keeper.rows c.args.keeper.now) (g.D.Keeper.rows c.load.new.self) (g.D.Keeper.is_honest c.args.keeper.now) (g.D.Keeper.is_honest c.load.new.self)
    (g.D.Keeper.may_leave c.args.keeper.now) (g.D.Keeper.may_leave c.load.new.self) c.load.ensures.same c.load.ensures.settled c.load.ensures.honest c.load.ensures.stop

pub returns-in_err-kept-clause-commits : goal.returns-in_err-kept-clause-commits
returns-in_err-kept-clause-commits g c =
    let given : c.from_residual-in_err-kept.result ≡ Err keep.NoMemory = search rules in
    commits_loaded _ keep.NoMemory given c.args.changes.now (g.D.Keeper.rows c.args.keeper.now) (g.D.Keeper.rows c.load.new.self) (g.D.Keeper.is_honest c.args.keeper.now) (g.D.Keeper.is_honest c.load.new.self)
    (g.D.Keeper.may_leave c.args.keeper.now) (g.D.Keeper.may_leave c.load.new.self) c.load.ensures.same c.load.ensures.settled c.load.ensures.honest c.load.ensures.stop

pub returns-in_err-list-clause-commits : goal.returns-in_err-list-clause-commits
returns-in_err-list-clause-commits g c =
    let given : c.from_residual-in_err-list.result ≡ Err keep.NoMemory = search rules in
    commits_loaded _ keep.NoMemory given c.args.changes.now (g.D.Keeper.rows c.args.keeper.now) (g.D.Keeper.rows c.load.new.self) (g.D.Keeper.is_honest c.args.keeper.now) (g.D.Keeper.is_honest c.load.new.self)
    (g.D.Keeper.may_leave c.args.keeper.now) (g.D.Keeper.may_leave c.load.new.self) c.load.ensures.same c.load.ensures.settled c.load.ensures.honest c.load.ensures.stop
