use Rattle.std.proofs.Common.{◌∙◌, List, Err, ap, map}
use Rattle.base_io.specs.{declared.keeper.Row.Row, Changes.pair_of}
use Rattle.store_history.specs.History.{IsHistory}
use Rattle.store_history.proofs.LoadLemmas.{if_ok_both, knows_from, never_bad, not_failed, not_loaded, open_cause, open_not_bad, open_quiet, told_list, told_so, were_loaded}
use Rattle.store_history.proofs.KeepingLemmas.{on_ok}
use Rattle.store_history.proofs.loading.read_history.Goals as goal

pub returns-in-Ok-clause-knows : goal.returns-in-Ok-clause-knows
returns-in-Ok-clause-knows g c =
    let told = g.D.Keeper.rows c.load.new.self in
    let same = told_list told (map pair_of c.in-Ok.rows.items) (map pair_of c.as_slice.result.now) c.in-Ok.ensures.rows (ap (map pair_of) c.as_slice.ensures.value) in
    if_ok_both c.read_rows.result _ _ _ c.read_rows.ensures.visible c.read_rows.ensures.base
    (λ it vis base. knows_from told (map pair_of c.as_slice.result.now) it.base it.visible same c.in-Ok.ensures.ascending vis base)

pub returns-in-Ok-clause-history : goal.returns-in-Ok-clause-history
returns-in-Ok-clause-history g c =
    let told = g.D.Keeper.rows c.load.new.self in
    let same = told_list told (map pair_of c.in-Ok.rows.items) (map pair_of c.as_slice.result.now) c.in-Ok.ensures.rows (ap (map pair_of) c.as_slice.ensures.value) in
    on_ok c.read_rows.result c.read_rows.ensures.history (λ found. told_so told (map pair_of c.as_slice.result.now) IsHistory same c.in-Ok.ensures.ascending found)

pub returns-in-Ok-clause-bad : goal.returns-in-Ok-clause-bad
returns-in-Ok-clause-bad g c = λ is.
    let told = g.D.Keeper.rows c.load.new.self in
    let same = told_list told (map pair_of c.in-Ok.rows.items) (map pair_of c.as_slice.result.now) c.in-Ok.ensures.rows (ap (map pair_of) c.as_slice.ensures.value) in
    told_so told (map pair_of c.as_slice.result.now) (λ rows. IsHistory rows → ⊥) same c.in-Ok.ensures.ascending (c.read_rows.ensures.bad is)

pub returns-in-Ok-clause-cause : goal.returns-in-Ok-clause-cause
returns-in-Ok-clause-cause g c = λ is. absurd (c.read_rows.ensures.read is)

pub returns-in-Err-clause-bad : goal.returns-in-Err-clause-bad
returns-in-Err-clause-bad g c = λ is. absurd (open_not_bad _ c.in-Err.fault (ap Err c.open_fault.ensures) is)

pub returns-in-Err-clause-cause : goal.returns-in-Err-clause-cause
returns-in-Err-clause-cause g c = open_cause c.load.result _ c.in-Err.fault _ c.in-Err.is (ap Err c.open_fault.ensures) c.load.ensures.cause

pub returns-in-Err-clause-quiet : goal.returns-in-Err-clause-quiet
returns-in-Err-clause-quiet g c = open_quiet c.load.result _ c.in-Err.fault _ c.in-Err.is c.open_fault.ensures c.load.ensures.quiet

pub returns-in-Ok-clause-unkept : goal.returns-in-Ok-clause-unkept
returns-in-Ok-clause-unkept g c = λ off is.
    never_bad (map pair_of c.as_slice.result.now) (ap (map pair_of) c.as_slice.ensures.value ∙ ap (λ (rows : List Row). map pair_of rows) (c.in-Ok.ensures.unkept off)) (c.read_rows.ensures.bad is)

pub returns-in-Ok-clause-told : goal.returns-in-Ok-clause-told
returns-in-Ok-clause-told g c = were_loaded c.read_rows.result _ c.in-Ok.ensures.told

pub returns-in-Err-clause-unkept : goal.returns-in-Err-clause-unkept
returns-in-Err-clause-unkept g c = λ off is. absurd (open_not_bad _ c.in-Err.fault (ap Err c.open_fault.ensures) is)

pub returns-in-Err-clause-told : goal.returns-in-Err-clause-told
returns-in-Err-clause-told g c = not_loaded _ c.in-Err.fault _ c.open_fault.ensures

pub returns-in-Ok-clause-quiet : goal.returns-in-Ok-clause-quiet
returns-in-Ok-clause-quiet g c = not_failed c.read_rows.result _ c.in-Ok.ensures.quiet
