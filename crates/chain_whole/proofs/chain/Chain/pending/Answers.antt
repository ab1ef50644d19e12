use Rattle.std.proofs.Common.{sym, subst, IsPermutation}
use Rattle.rule_machine.specs.Report.{pending_of}
use Rattle.chain_modules.specs.Kept.{StandsFor}
use Rattle.chain_whole.{specs.Chained.Listened, proofs.PendingLemmas.pending_permuted}
use Rattle.chain_whole.proofs.chain.Chain.pending.Goals as goal

pub pending_of-requires-clause-rest : goal.pending_of-requires-clause-rest
pending_of-requires-clause-rest g c = c.self.invariant.0

pub returns-clause-pending : goal.returns-clause-pending
returns-clause-pending g c = λ p s.
    subst (λ l. IsPermutation (pending_of p) l) (sym (c.in_ok-pending_of.ensures p (subst (λ (t : Listened _). StandsFor t.kept p) (sym c.self.view_is) s))) (pending_permuted p s.sound.staked.delegations_ascend)
