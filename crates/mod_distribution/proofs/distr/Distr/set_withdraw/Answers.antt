use Rattle.std.proofs.Common.{ap, not}
use Rattle.mod_distribution.proofs.StandLemmas.{payee_put, payee_stands}
use Rattle.mod_distribution.proofs.distr.Distr.set_withdraw.Goals as goal

pub returns-clause-stand : goal.returns-clause-stand
returns-clause-stand g c = λ u l s.
    payee_stands c.args.who.now c.args.to.now c.args.params.now c.args.self.now.kept c.put_payee.new.self.kept u l
    (λ d h. payee_put c.args.who.now c.args.to.now c.in-User.to c.args.params.now c.args.self.now.kept c.put_payee.new.self.kept d h c.in-User.is (ap not c.if-not-params.false) (ap (λ t. t.kept) c.in_ok-put_payee.ensures.ok)) s
