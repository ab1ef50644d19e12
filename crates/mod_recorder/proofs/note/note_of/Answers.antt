use Rattle.std.proofs.Common.{subst}
use Rattle.mod_recorder.specs.Notes.{CanBurn}
use Rattle.mod_recorder.proofs.note.note_of.Goals as goal

pub burned_of-requires-clause-fraction : goal.burned_of-requires-clause-fraction
burned_of-requires-clause-fraction c = (subst CanBurn c.in-Slashing.is c.requires).0

pub burned_of-requires-clause-tokens : goal.burned_of-requires-clause-tokens
burned_of-requires-clause-tokens c = (subst CanBurn c.in-Slashing.is c.requires).1
