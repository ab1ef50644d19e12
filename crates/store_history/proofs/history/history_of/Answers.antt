use Rattle.std.proofs.Common.{◌∙◌, ◌+◌, List, ap, arith, drop, map, rules, sym}
use Rattle.base_io.specs.{declared.keeper.Row.Row, Changes.pair_of}
use Rattle.store_history.specs.History.{is_visible}
use Rattle.store_history.proofs.ReadingLemmas.{drop_end, all_bases, all_pass, all_with, base_read, row_next}
use Rattle.store_history.proofs.history.history_of.Goals as goal

pub loop-row-preserved : goal.loop-row-preserved
loop-row-preserved c =
    let next = row_next c.args.rows.now c.loop-row.row-index c.row-item.result c.loop-row-test.true c.row-item.is in
    record {
      visible =
          ap (all_with is_visible (map pair_of (drop (c.loop-row.row-index + 1) c.args.rows.now))) c.in_ok-read.ensures.visible
          ∙ sym (ap (λ (rs : List Row). all_with is_visible (map pair_of rs) c.loop-row.seen.visible) next) ∙ c.loop-row.invariant.visible;
      base =
          ap (all_bases (map pair_of (drop (c.loop-row.row-index + 1) c.args.rows.now))) c.in_ok-read.ensures.base
          ∙ sym (ap (λ (rs : List Row). all_bases (map pair_of rs) c.loop-row.seen.base) next) ∙ c.loop-row.invariant.base;
    }

pub returns-clause-visible : goal.returns-clause-visible
returns-clause-visible c = λ up.
    let end = drop_end c.args.rows.now c.loop-row.row-index (search (arith, rules)) in
    sym (ap (λ (rs : List Row). all_with is_visible (map pair_of rs) c.loop-row.seen.visible) end) ∙ c.loop-row.invariant.visible ∙ all_pass is_visible (map pair_of c.args.rows.now) up

pub returns-clause-base : goal.returns-clause-base
returns-clause-base c = λ up.
    let end = drop_end c.args.rows.now c.loop-row.row-index (search (arith, rules)) in
    sym (ap (λ (rs : List Row). all_bases (map pair_of rs) c.loop-row.seen.base) end) ∙ c.loop-row.invariant.base ∙ base_read (map pair_of c.args.rows.now) up
