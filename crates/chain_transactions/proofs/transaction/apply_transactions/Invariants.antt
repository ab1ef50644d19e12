use Rattle.std.proofs.Common.{◌≡◌}
use Rattle.chain_modules.specs.Kept.{listener_of}
use Rattle.chain_transactions.proofs.{HearingLemmas.TxsHeardSoFar, TransactionLemmas.AppliedSoFar}
use Rattle.chain_transactions.proofs.transaction.apply_transactions.Given as goal

abbrev pub invariant-loop-tx : goal.invariant-loop-tx
invariant-loop-tx g l = AppliedSoFar l.txs l.tx-index l.initial.modules l.modules l.reports.items × (g.E.Records.marks (listener_of l.modules) ≡ g.E.Records.marks (listener_of l.initial.modules))
    × TxsHeardSoFar g.E.Extra.heard g.E.Extra.hears g.E.Extra.parted g.E.Extra.ended l.txs l.tx-index l.initial.modules l.modules
