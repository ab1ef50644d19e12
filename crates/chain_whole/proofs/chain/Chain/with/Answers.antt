use Rattle.std.proofs.Common.{◌∙◌, sym, ap, subst}
use Rattle.rule_machine.specs.Listening.{genesis_heard}
use Rattle.chain_whole.{specs.{Answers.{HasHeard, Starts}, Chained.Listened}, proofs.ChainLemmas.settled_now}
use Rattle.chain_whole.proofs.chain.Chain.with.Goals as goal

pub returns-clause-chain : goal.returns-clause-chain
returns-clause-chain g c = subst (λ (x : Listened _). Starts c.args.genesis.now c.in_ok-modules.facts x.kept) (sym c.over.ensures) c.in_ok-modules.ensures.started

pub returns-clause-settled : goal.returns-clause-settled
returns-clause-settled g c =
    let s = c.in_ok-modules.ensures in
    ap (λ (x : Listened _). x.settled) c.over.ensures ∙ settled_now c.in_ok-modules.modules s.settled s.rest.no_facts ∙ sym (ap (λ (x : Listened _). x.kept) c.over.ensures)

pub returns-clause-unspent : goal.returns-clause-unspent
returns-clause-unspent g c = ap (λ (x : Listened _). x.spent) c.over.ensures

pub returns-clause-heard : goal.returns-clause-heard
returns-clause-heard g c = subst (λ (x : Listened _). HasHeard (genesis_heard g.E.Extra.hears c.args.genesis.now (g.E.Extra.heard c.args.listener)) (g.E.Extra.heard x.listener)) (sym c.over.ensures) c.in_ok-modules.ensures.heard
