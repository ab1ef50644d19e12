use Rattle.run_generated.proofs.LineLemmas.{lines_by_place}
use Rattle.run_generated.proofs.worked.lines_stand_at_their_places.Goals as goal

pub returns : goal.returns
returns c = lines_by_place
