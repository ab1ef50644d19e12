use Rattle.std.proofs.Common.{◌∙◌, sym, subst}
use Rattle.mod_distribution.specs.Items.{AreInOrder}
use Rattle.rule_machine.specs.Listening.{genesis_heard}
use Rattle.chain_modules.{specs.Kept.{Parts, kept_of, listener_of}, proofs.MarkLemmas.marks_behind}
use Rattle.chain_whole.{specs.Answers.HasHeard, proofs.HearLemmas.genesis_hears}
use Rattle.chain_whole.proofs.StartedLemmas.{at_rest, good_start, once_cleared, starts}
use Rattle.chain_whole.proofs.start.found.Goals as goal

pub add_stake-requires-clause-good : goal.add_stake-requires-clause-good
add_stake-requires-clause-good g c = good_start c.args.genesis.now _ c.requires.starts c.as_slice.ensures c.are_few.ensures

pub settle-requires : goal.settle-requires
settle-requires g c = record { unmarked = marks_behind c.args.modules.now c.add_stake.new.modules c.in_ok-add_stake.ensures.go_on.behind ∙ c.requires.unmarked }

pub returns-clause-started : goal.returns-clause-started
returns-clause-started g c =
    let m = c.add_stake.new.modules in
    starts c.args.genesis.now (good_start c.args.genesis.now _ c.requires.starts c.as_slice.ensures c.are_few.ensures) m c.in_ok-add_stake.ensures.started c.replace-facts.result (kept_of c.settle.new.self)
    c.replace-facts.ensures.value (c.settle.ensures.same ∙ once_cleared m c.replace-facts.new.dest (c.replace-facts.ensures.after ∙ c.new.ensures))

pub returns-clause-rest : goal.returns-clause-rest
returns-clause-rest g c =
    let m = c.add_stake.new.modules in
    at_rest c.args.genesis.now (good_start c.args.genesis.now _ c.requires.starts c.as_slice.ensures c.are_few.ensures) m c.in_ok-add_stake.ensures.started c.settle.new.self
    (c.settle.ensures.same ∙ once_cleared m c.replace-facts.new.dest (c.replace-facts.ensures.after ∙ c.new.ensures)) c.settle.ensures.power c.settle.ensures.unmarked

pub returns-clause-order : goal.returns-clause-order
returns-clause-order g c = subst (λ (p : Parts). AreInOrder p.shared) (sym c.settle.ensures.settled) c.ordered.ensures

pub returns-clause-heard : goal.returns-clause-heard
returns-clause-heard g c =
    subst (λ l. HasHeard (genesis_heard g.E.Extra.hears c.args.genesis.now (g.E.Extra.heard (listener_of c.args.modules.now))) (g.E.Extra.heard l)) (sym c.settle.ensures.listener)
    (genesis_hears g.E.Extra.heard g.E.Extra.hears c.args.genesis.now c.args.modules.now c.add_stake.new.modules c.requires.empty.keeps c.in_ok-add_stake.ensures.heard)
