use Rattle.law_records.proofs.ListedLaws.{listed_gathered}
use Rattle.law_records.proofs.listed.listed_items_are_gathered.Goals as goal

pub returns : goal.returns
returns c = λ r items a p. listed_gathered r items a p
