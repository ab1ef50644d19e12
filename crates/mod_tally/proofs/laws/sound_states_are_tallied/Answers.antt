use Rattle.mod_tally.proofs.States.{sound_states_are_tallied}
use Rattle.mod_tally.proofs.laws.sound_states_are_tallied.Goals as goal

pub returns : goal.returns
returns c = sound_states_are_tallied
