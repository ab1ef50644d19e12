use Rattle.std.proofs.Common.{◌∙◌, sym}
use Rattle.mod_slashing.proofs.AmountLemmas.{whole-is}
use Rattle.mod_slashing.proofs.amounts.whole.Goals as goal

pub returns : goal.returns
returns c = whole-is c.args.n c.unwrap.result (sym c.of_whole.ensures ∙ c.unwrap.ensures)
