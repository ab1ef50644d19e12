use Rattle.std.proofs.Common.{Ok, refl, sym, subst}
use Rattle.rule_machine.specs.Listening.{block_heard, hearing}
use Rattle.chain_modules.specs.Kept.{StandsFor, kept_of, listener_of}
use Rattle.chain_whole.{specs.{Answers.HasHeard, Chained.Listened}, proofs.HearLemmas.has_heard}
use Rattle.chain_whole.proofs.FairLemmas.{goes_on_fairly}
use Rattle.chain_whole.proofs.chain.Chain.apply_block.Goals as goal

pub apply-requires-clause-rest : goal.apply-requires-clause-rest
apply-requires-clause-rest g c = c.self.invariant.0

pub returns-in-Ok-clause-fairly : goal.returns-in-Ok-clause-fairly
returns-in-Ok-clause-fairly g c = λ p s reached started coins.
    goes_on_fairly c.args.block.now p (kept_of c.apply.new.modules) (Ok c.in-Ok.report) c.requires.height coins s.sound reached started
    (c.in-Ok.ensures.applies p (subst (λ (t : Listened _). StandsFor t.kept p) (sym c.self.view_is) s))

pub returns-in-Ok-clause-heard : goal.returns-in-Ok-clause-heard
returns-in-Ok-clause-heard g c = λ p s.
    let told = block_heard g.E.Extra.hears g.E.Extra.parted g.E.Extra.ended c.args.block.now in
    let kept = subst (λ (t : Listened _). StandsFor t.kept p) (sym c.self.view_is) s in
    subst (λ (t : Listened _). HasHeard (told (hearing (g.E.Extra.heard t.listener) p)) (g.E.Extra.heard (listener_of c.apply.new.modules))) c.self.view_is
    (has_heard g.E.Extra.heard StandsFor c.apply.new.modules (told (hearing (g.E.Extra.heard (listener_of c.self.inside.modules)) p)) (c.in-Ok.ensures.heard (hearing (g.E.Extra.heard (listener_of c.self.inside.modules)) p) (kept, refl)))
