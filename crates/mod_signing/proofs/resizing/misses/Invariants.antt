use Rattle.std.proofs.Common.{◌≡◌, take}
use Rattle.rule_modules.specs.Amounts.{count_where}
use Rattle.mod_signing.proofs.resizing.misses.Given as goal

abbrev pub invariant-loop-vote : goal.invariant-loop-vote
invariant-loop-vote l = l.missed ≡ count_where (λ x. x) (take l.vote-index l.votes)
