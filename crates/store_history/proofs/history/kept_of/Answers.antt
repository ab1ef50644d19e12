use Rattle.std.proofs.Common.{◌≡◌, ◌∙◌, ◌+◌, List, ap, arith, drop, filter, map, rules, subst, sym, true}
use Rattle.std.specs.List.{AllByRecursion}
use Rattle.base_io.specs.{declared.keeper.Row.Row, Rows.Pair, Changes.{Rises, pair_of}}
use Rattle.store_history.specs.Commits.{is_kept}
use Rattle.store_history.proofs.ReadingLemmas.{drop_end, all_pass, all_with, kept_with_all, row_next}
use Rattle.store_history.proofs.TreeLemmas.{ok_by}
use Rattle.store_history.proofs.history.kept_of.Goals as goal

pub loop-row-preserved : goal.loop-row-preserved
loop-row-preserved c =
    let next = row_next c.args.rows.now c.loop-row.row-index c.row-item.result c.loop-row-test.true c.row-item.is in
    record {
      rest =
          ap (all_with is_kept (map pair_of (drop (c.loop-row.row-index + 1) c.args.rows.now))) c.in_ok-keep.ensures
          ∙ sym (ap (λ (rs : List Row). all_with is_kept (map pair_of rs) c.loop-row.kept) next) ∙ c.loop-row.invariant.rest;
      kept = subst (λ (ps : List Pair). AllByRecursion (λ p. is_kept p.0 ≡ true) ps) (sym c.in_ok-keep.ensures) (kept_with_all (pair_of c.row-item.result) c.loop-row.kept c.loop-row.invariant.kept);
    }

pub returns-clause-kept : goal.returns-clause-kept
returns-clause-kept c =
    ok_by c.into_rows.result (λ list. map pair_of list.items) c.loop-row.kept (λ (ps : List Pair). AllByRecursion (λ p. is_kept p.0 ≡ true) ps) c.into_rows.ensures.rows c.loop-row.invariant.kept

pub returns-clause-all : goal.returns-clause-all
returns-clause-all c =
    let end = drop_end c.args.rows.now c.loop-row.row-index (search (arith, rules)) in
    ok_by c.into_rows.result (λ list. map pair_of list.items) c.loop-row.kept (λ (ps : List Pair). Rises (map pair_of c.args.rows.now) → ps ≡ filter (λ p. is_kept p.0) (map pair_of c.args.rows.now)) c.into_rows.ensures.rows
    (λ up. sym (ap (λ (rs : List Row). all_with is_kept (map pair_of rs) c.loop-row.kept) end) ∙ c.loop-row.invariant.rest ∙ all_pass is_kept (map pair_of c.args.rows.now) up)
