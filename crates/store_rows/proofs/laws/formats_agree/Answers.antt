use Rattle.store_rows.proofs.FormatLemmas.{alike}
use Rattle.store_rows.proofs.laws.formats_agree.Goals as goal

pub returns : goal.returns
returns c = alike
