use Rattle.mod_distribution.specs.Items.{AreInOrder}
use Rattle.std.proofs.Common.{IfOk, ◌≡◌, subst}
use Rattle.rule_machine.specs.Listening.{genesis_heard}
use Rattle.chain_modules.specs.{Kept.{kept_of, listener_of, parts_of}, Marks.{AreAtRest, settled_of}}
use Rattle.chain_whole.specs.{Answers.{HasHeard, Starts}, declared.fault.ChainFault.TheVariants.NoMemory}
use Rattle.chain_whole.proofs.StartedLemmas.{founded_ok, founded_err}
use Rattle.chain_whole.proofs.start.start.Goals as goal

pub returns-clause-started : goal.returns-clause-started
returns-clause-started g c =
    founded_ok (λ m facts. Starts c.args.genesis.now facts (kept_of m)) c.founded.result c.found-told.result c.found-told.new.modules c.founded.ensures.modules c.founded.ensures.facts c.found-told.ensures.started

pub returns-clause-rest : goal.returns-clause-rest
returns-clause-rest g c =
    founded_ok (λ m facts. AreAtRest m) c.founded.result c.found-told.result c.found-told.new.modules c.founded.ensures.modules c.founded.ensures.facts c.found-told.ensures.rest

pub returns-clause-settled : goal.returns-clause-settled
returns-clause-settled g c =
    founded_ok (λ m facts. settled_of m ≡ parts_of m) c.founded.result c.found-told.result c.found-told.new.modules c.founded.ensures.modules c.founded.ensures.facts c.found-told.ensures.settled

pub returns-clause-order : goal.returns-clause-order
returns-clause-order g c =
    founded_ok (λ m facts. AreInOrder (settled_of m).shared) c.founded.result c.found-told.result c.found-told.new.modules c.founded.ensures.modules c.founded.ensures.facts c.found-told.ensures.order

pub returns-clause-fault : goal.returns-clause-fault
returns-clause-fault g c = founded_err (λ fault. fault ≡ NoMemory) c.founded.result c.found-told.result c.founded.ensures.fault c.found-told.ensures.fault

pub returns-clause-heard : goal.returns-clause-heard
returns-clause-heard g c =
    let before = subst (λ l. IfOk c.found-told.result (λ f. HasHeard (genesis_heard g.E.Extra.hears c.args.genesis.now (g.E.Extra.heard l)) (g.E.Extra.heard (listener_of c.found-told.new.modules)))) c.in_ok-modules.ensures.listener c.found-told.ensures.heard in
    founded_ok (λ m facts. HasHeard (genesis_heard g.E.Extra.hears c.args.genesis.now (g.E.Extra.heard c.args.listener)) (g.E.Extra.heard (listener_of m))) c.founded.result c.found-told.result c.found-told.new.modules c.founded.ensures.modules c.founded.ensures.facts before
