use Rattle.std.proofs.Common.{List, arith, map, rules, subst, sym, tests}
use Rattle.std.specs.List.{AllByRecursion}
use Rattle.base_io.specs.{declared.keeper.Row.Row, Changes.pair_of}
use Rattle.store_history.{specs.History.IsFormed, proofs.ReadingLemmas.{drop_end, row_next}}
use Rattle.store_history.proofs.forms.are_formed.Goals as goal

pub loop-row-preserved : goal.loop-row-preserved
loop-row-preserved c =
    let next = row_next c.args.rows.now c.loop-row.row-index c.row-item.result c.loop-row-test.true c.row-item.is in
    let formed : IsFormed c.args.base c.args.last (pair_of c.row-item.result) = c.is_formed.ensures.0 (search (rules, tests)) in
    record {
      whole = λ h. c.loop-row.invariant.whole (subst (λ (rs : List Row). AllByRecursion (IsFormed c.args.base c.args.last) (map pair_of rs)) (sym next) (formed, h));
      rest = λ h. (subst (λ (rs : List Row). AllByRecursion (IsFormed c.args.base c.args.last) (map pair_of rs)) next (c.loop-row.invariant.rest h)).1;
    }

pub returns-then-not-is_formed : goal.returns-then-not-is_formed
returns-then-not-is_formed c =
    let next = row_next c.args.rows.now c.loop-row.row-index c.row-item.result c.loop-row-test.true c.row-item.is in (
      λ t. absurd (search (rules, tests)),
      λ h.
          let formed : IsFormed c.args.base c.args.last (pair_of c.row-item.result) = (subst (λ (rs : List Row). AllByRecursion (IsFormed c.args.base c.args.last) (map pair_of rs)) next (c.loop-row.invariant.rest h)).0 in
          let yes = c.is_formed.ensures.1 formed in
          search (rules, tests),
    )

pub returns : goal.returns
returns c =
    let end = drop_end c.args.rows.now c.loop-row.row-index (search (arith, rules)) in (
      λ t. c.loop-row.invariant.whole (subst (λ (rs : List Row). AllByRecursion (IsFormed c.args.base c.args.last) (map pair_of rs)) (sym end) tt),
      λ h. search (rules, tests),
    )
