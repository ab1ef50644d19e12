use Rattle.std.proofs.Common.{◌≡◌}
use Rattle.chain_modules.specs.Kept.{listener_of}
use Rattle.chain_transactions.proofs.{HearLemmas.HeardSoFar, MessageLemmas.SoFar}
use Rattle.chain_transactions.proofs.transaction.apply_messages.Given as goal

abbrev pub invariant-loop-place : goal.invariant-loop-place
invariant-loop-place g l = SoFar l.messages l.place l.initial.modules l.modules × (g.E.Records.marks (listener_of l.modules) ≡ g.E.Records.marks (listener_of l.initial.modules))
    × HeardSoFar g.E.Extra.heard g.E.Extra.hears l.messages l.place l.initial.modules l.modules
