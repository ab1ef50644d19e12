use Rattle.store_resuming.specs.Restored.{AreOfNone}
use Rattle.store_resuming.proofs.RestoreLemmas.{loaded_changes, never_bad, never_failed, quiet_fault, unloaded}
use Rattle.store_resuming.proofs.restoring.restore_with_changes.Goals as goal

pub returns-in-Ok-changes_from-clause-restored : goal.returns-in-Ok-changes_from-clause-restored
returns-in-Ok-changes_from-clause-restored g c =
    let told = rw c.deref.ensures.value at c.in-Ok-chain_told.ensures.chain in
    let listed = rw c.deref.ensures.value at c.in-Ok-chain_told.ensures.listed in
    let from = rw c.deref-2.ensures.value at c.in-Ok-changes_from.ensures.changes in
    loaded_changes _ _ _ _ c.in-Ok.ensures.rows c.load_rows.ensures.ascending c.in-Ok.ensures.told _ _ _ told listed from

pub unreachable-requires : goal.unreachable-requires
unreachable-requires g c =
    let listed = rw c.deref.ensures.value at c.in-Ok-chain_told.ensures.listed in
    let fault = rw c.deref-2.ensures.value at c.in-Err-BadRow.ensures.fault in
    never_bad c.in-Err-BadRow.field-0 c.in-Err-BadRow.field-0-is (fault listed.0 listed.1)

pub returns-in-Err-chain_told-clause-fault : goal.returns-in-Err-chain_told-clause-fault
returns-in-Err-chain_told-clause-fault g c =
    let none = rw c.deref.ensures.value at c.in-Err-chain_told.ensures.fault in
    unloaded _ _ _ _ c.in-Ok.ensures.rows c.load_rows.ensures.ascending c.in-Ok.ensures.told c.in-Err-chain_told.fault c.in-Ok.ensures.some none

pub returns-in-Err-chain_told-clause-cause : goal.returns-in-Err-chain_told-clause-cause
returns-in-Err-chain_told-clause-cause g c = λ bad. absurd (never_failed c.in-Err-chain_told.fault AreOfNone _ c.in-Err-chain_told.ensures.fault bad)

pub returns-in-Err-chain_told-clause-quiet : goal.returns-in-Err-chain_told-clause-quiet
returns-in-Err-chain_told-clause-quiet g c = quiet_fault c.in-Err-chain_told.fault _ c.in-Ok.ensures.quiet

pub returns-in-Ok-changes_from-clause-unkept : goal.returns-in-Ok-changes_from-clause-unkept
returns-in-Ok-changes_from-clause-unkept g c = λ off. absurd (c.in-Ok.ensures.unkept off)

pub returns-in-Err-chain_told-clause-unkept : goal.returns-in-Err-chain_told-clause-unkept
returns-in-Err-chain_told-clause-unkept g c = λ off. absurd (c.in-Ok.ensures.unkept off)
