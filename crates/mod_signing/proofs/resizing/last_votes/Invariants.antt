use Rattle.std.proofs.Common.{◌-◌, ◌≤◌, length}
use Rattle.mod_signing.proofs.ResizedLemmas.{UpToTurn}
use Rattle.mod_signing.proofs.resizing.last_votes.Given as goal

abbrev pub invariant-loop-turn : goal.invariant-loop-turn
invariant-loop-turn g l = record {
  votes : UpToTurn l.most l.counted l.ring l.turn l.votes.items;
  low : length l.ring - l.most ≤ l.turn;
}
