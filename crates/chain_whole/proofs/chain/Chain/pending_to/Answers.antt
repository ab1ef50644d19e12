use Rattle.std.proofs.Common.{sym, subst}
use Rattle.chain_modules.specs.Kept.{StandsFor}
use Rattle.chain_whole.{specs.{Chained.Listened, Pending.ArePendingTo}, proofs.OwnLemmas.own_pending}
use Rattle.chain_whole.proofs.chain.Chain.pending_to.Goals as goal

pub pending_to-requires-clause-rest : goal.pending_to-requires-clause-rest
pending_to-requires-clause-rest g c = c.self.invariant.0

pub returns-clause-pending : goal.returns-clause-pending
returns-clause-pending g c = λ p s.
    subst (ArePendingTo p c.args.who.now) (sym (c.in_ok-pending_to.ensures p (subst (λ (t : Listened _). StandsFor t.kept p) (sym c.self.view_is) s))) (own_pending p c.args.who.now s.sound.staked.delegations_ascend)
