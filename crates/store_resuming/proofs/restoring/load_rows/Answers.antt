use Rattle.store_resuming.proofs.RestoreLemmas.{empty_cause, empty_fault, empty_of_nothing, empty_pairs, empty_unjudged, never_empty, none_loaded, quiet_fault, some_pairs}
use Rattle.store_resuming.proofs.restoring.load_rows.Goals as goal

pub returns-in-Ok-are_some-clause-some : goal.returns-in-Ok-are_some-clause-some
returns-in-Ok-are_some-clause-some g c =
    let some = rw c.deref.ensures.value at c.in-Ok-are_some.ensures.some in
    some_pairs c.in-Ok.rows.items some

pub returns-in-Ok-are_some-clause-unkept : goal.returns-in-Ok-are_some-clause-unkept
returns-in-Ok-are_some-clause-unkept g c =
    let some = rw c.deref.ensures.value at c.in-Ok-are_some.ensures.some in
    λ off. absurd (never_empty c.in-Ok.rows.items some (c.in-Ok.ensures.unkept off))

pub returns-in-Err-clause-fault : goal.returns-in-Err-clause-fault
returns-in-Err-clause-fault g c =
    let e = c.in-Ok.ensures in
    let none = rw c.deref.ensures.value at c.in-Err.ensures.none in
    empty_fault _ _ _ c.in-Err.fault c.in-Err.ensures.fault (none_loaded _ _ _ _ e.rows c.load.ensures.ascending e.told (empty_pairs c.in-Ok.rows.items none))

pub returns-in-Err-clause-unkept : goal.returns-in-Err-clause-unkept
returns-in-Err-clause-unkept g c = λ off. empty_of_nothing c.in-Err.fault c.in-Err.ensures.fault

pub returns-in-Err-clause-cause : goal.returns-in-Err-clause-cause
returns-in-Err-clause-cause g c = empty_cause c.in-Err.fault _ c.in-Err.ensures.fault

pub returns-in-Err-clause-quiet : goal.returns-in-Err-clause-quiet
returns-in-Err-clause-quiet g c = quiet_fault c.in-Err.fault _ c.in-Ok.ensures.quiet

pub returns-in-Err-clause-unjudged : goal.returns-in-Err-clause-unjudged
returns-in-Err-clause-unjudged g c = empty_unjudged c.in-Err.fault c.in-Err.ensures.fault
