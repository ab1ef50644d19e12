use Rattle.chain_modules.specs.Kept.{kept_of}
use Rattle.store_loading.proofs.FillLemmas.{keys_ascend}
use Rattle.store_loading.proofs.modules.ordered.Goals as goal

pub returns-clause-lists : goal.returns-clause-lists
returns-clause-lists c =
    keys_ascend (kept_of c.args.modules.now) c.ordered.ensures c.ordered-2.ensures c.keyed.ensures c.ordered-3.ensures c.ordered-4.ensures c.ordered-5.ensures c.ordered-6.ensures
