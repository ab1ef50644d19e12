use Rattle.std.proofs.Common.{List, ℕ, length}
use Rattle.run_app.{specs.Ballots.AreTaken, proofs.BallotLemmas.AreFed}
use Rattle.run_app.proofs.balloting.feed_ballots.Given as goal

abbrev pub invariant-loop-end : goal.invariant-loop-end
invariant-loop-end l =
    (t : List ℕ) → AreTaken l.form t l.initial.balloting.number l.initial.balloting.line.items l.initial.balloting.ballots
    → AreFed l.form t l.piece l.rest l.balloting.number l.balloting.line.items l.balloting.ballots

abbrev pub decreases-loop-end : goal.decreases-loop-end
decreases-loop-end l = length l.rest
