use Rattle.std.proofs.Common.{◌≡◌, length}
use Rattle.json.specs.Json as json
use Rattle.json.specs.Find.{InMembers}
use Rattle.line_json.specs.{Members.texts_of, Tape.keys_among}
use Rattle.line_json.proofs.place.all_named.Given as goal

abbrev pub invariant-loop-key : goal.invariant-loop-key
invariant-loop-key l = (ms : json.Members) → InMembers l.initial.members ms → (rest : json.Members) × InMembers l.members rest × (keys_among (texts_of l.names) ms ≡ keys_among (texts_of l.names) rest)

abbrev pub decreases-loop-key : goal.decreases-loop-key
decreases-loop-key l = length l.members
