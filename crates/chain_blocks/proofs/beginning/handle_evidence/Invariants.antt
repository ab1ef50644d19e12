use Rattle.std.proofs.Common.{◌≡◌}
use Rattle.rule_machine.specs.Listening.{evidence_heard}
use Rattle.chain_modules.specs.Kept.{listener_of}
use Rattle.chain_blocks.proofs.{HearLemmas.EachHeard, LoopLemmas.{AreThrough, EvidenceHandled}}
use Rattle.chain_blocks.proofs.beginning.handle_evidence.Given as goal

abbrev pub invariant-loop-e : goal.invariant-loop-e
invariant-loop-e g l = EvidenceHandled l.evidence l.e-index l.initial.modules l.modules × (g.E.Records.marks (listener_of l.modules) ≡ g.E.Records.marks (listener_of l.initial.modules))
    × EachHeard g.E.Extra.heard (evidence_heard g.E.Extra.hears) AreThrough l.evidence l.e-index l.initial.modules l.modules
