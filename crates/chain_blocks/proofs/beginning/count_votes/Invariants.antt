use Rattle.std.proofs.Common.{◌≡◌}
use Rattle.rule_machine.specs.Listening.{vote_heard}
use Rattle.chain_modules.specs.Kept.{listener_of}
use Rattle.chain_blocks.{specs.Begun.AreBegun, proofs.{HearLemmas.EachHeard, LoopLemmas.VotesCounted}}
use Rattle.chain_blocks.proofs.beginning.count_votes.Given as goal

abbrev pub invariant-loop-vote : goal.invariant-loop-vote
invariant-loop-vote g l = VotesCounted l.votes l.vote-index l.initial.modules l.modules × (g.E.Records.marks (listener_of l.modules) ≡ g.E.Records.marks (listener_of l.initial.modules))
    × EachHeard g.E.Extra.heard (vote_heard g.E.Extra.hears) AreBegun l.votes l.vote-index l.initial.modules l.modules
