use Rattle.run_trial.proofs.Room.{counts_have_room}
use Rattle.run_trial.proofs.laws.counts_have_room.Goals as goal

pub returns : goal.returns
returns c = counts_have_room
