use Rattle.store_records.specs.Plain.{seen}
use Rattle.store_loading.proofs.LoadedLemmas.{answered}
use Rattle.store_loading.proofs.modules.modules_of.Goals as goal

pub returns : goal.returns
returns g c =
    answered (seen c.args.records) c.fill-filled.new.modules c.fill-filled.result c.filled_or_gone.result c.filled_or_gone.ensures.modules c.filled_or_gone.ensures.filled c.fill-filled.ensures
