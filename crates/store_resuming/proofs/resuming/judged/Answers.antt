use Rattle.store_records.specs.Plain.{seen}
use Rattle.store_resuming.proofs.ResumeLemmas.{if_ok_anyway, judged_so, passes_so}
use Rattle.store_resuming.proofs.resuming.judged.Goals as goal

pub loaded-requires-clause-sound : goal.loaded-requires-clause-sound
loaded-requires-clause-sound c = passes_so (seen c.args.records) c.is_sound.result c.is_sound.ensures c.in-Ok.ensures.ok

pub returns-in-Ok-clause-sound : goal.returns-in-Ok-clause-sound
returns-in-Ok-clause-sound c = if_ok_anyway c.loaded.result _ (passes_so (seen c.args.records) c.is_sound.result c.is_sound.ensures c.in-Ok.ensures.ok)

pub returns-in-Err-clause-fault : goal.returns-in-Err-clause-fault
returns-in-Err-clause-fault c = judged_so (seen c.args.records) c.is_sound.result c.in-Err.fault c.is_sound.ensures c.in-Err.ensures.fault
