use Rattle.std.proofs.Common.{◌≡◌, ◌∙◌, length, ap}
use Rattle.rule_machine.specs.{GenesisState.without_facts, Listening.{paid_heard, silently}, Machine.tx_applied}
use Rattle.rule_modules.specs.Effects.{fee_paid}
use Rattle.chain_modules.specs.{declared.modules.Modules.Modules, Kept.{KeptState, kept_of}}
use Rattle.chain_modules.proofs.StandLemmas.{cleared}
use Rattle.chain_transactions.proofs.{HearingLemmas.part_hears, TransactionLemmas.left_stands}
use Rattle.chain_transactions.proofs.transaction.apply_transaction.Goals as goal

pub returns-clause-state : goal.returns-clause-state
returns-clause-state g c = λ p s.
    let tx = c.args.tx.now in
    let old : Modules g.row.E.Denot = c.args.modules.now in
    let after : Modules g.row.E.Denot = c.pay_and_apply.new.modules in
    let left : KeptState = record { stakes = (kept_of after).stakes; shared = (kept_of after).shared; signings = (kept_of after).signings; view = record { bank = (kept_of after).view.bank; ctx = (kept_of after).view.ctx; facts = c.replace-facts.new.dest } } in
    let same : left ≡ cleared (kept_of after) = λ i. record { stakes = (kept_of after).stakes; shared = (kept_of after).shared; signings = (kept_of after).signings; view = record { bank = (kept_of after).view.bank; ctx = (kept_of after).view.ctx; facts = (c.replace-facts.ensures.after ∙ c.new.ensures) i } } in
    left_stands tx (kept_of old) (kept_of after) left p c.in_ok-outcome.outcome c.requires.none s (c.in_ok-outcome.ensures.ended p s) same

pub returns-clause-steady : goal.returns-clause-steady
returns-clause-steady g c =
    let tx = c.args.tx.now in
    let old : Modules g.row.E.Denot = c.args.modules.now in
    let after : Modules g.row.E.Denot = c.pay_and_apply.new.modules in
    let left : KeptState = record { stakes = (kept_of after).stakes; shared = (kept_of after).shared; signings = (kept_of after).signings; view = record { bank = (kept_of after).view.bank; ctx = (kept_of after).view.ctx; facts = c.replace-facts.new.dest } } in
    let same : left ≡ cleared (kept_of after) = λ i. record { stakes = (kept_of after).stakes; shared = (kept_of after).shared; signings = (kept_of after).signings; view = record { bank = (kept_of after).view.bank; ctx = (kept_of after).view.ctx; facts = (c.replace-facts.ensures.after ∙ c.new.ensures) i } } in
    let s = c.requires.steady in
    record {
      power = c.in_ok-outcome.ensures.steady.power;
      state = without_facts (tx_applied tx s.state).state;
      stands = left_stands tx (kept_of old) (kept_of after) left s.state c.in_ok-outcome.outcome c.requires.none s.stands (c.in_ok-outcome.ensures.ended s.state s.stands) same;
    }

pub returns-clause-heard : goal.returns-clause-heard
returns-clause-heard g c = λ w s.
    let tx = c.args.tx.now in
    let after : Modules g.row.E.Denot = c.pay_and_apply.new.modules in
    let first = after.hooks.first in
    let new : Modules g.row.E.Denot = record {
      ground = record { bank = after.ground.bank; ctx = after.ground.ctx; facts = c.replace-facts.new.dest };
      stakes = after.stakes;
      hooks = record { first = record { first = first.first; second = record { listener = c.after_part.new.self } }; second = after.hooks.second };
    } in
    let same : kept_of new ≡ cleared (kept_of after)
    = λ i. record { stakes = (kept_of after).stakes; shared = (kept_of after).shared; signings = (kept_of after).signings; view = record { bank = (kept_of after).view.bank; ctx = (kept_of after).view.ctx; facts = (c.replace-facts.ensures.after ∙ c.new.ensures) i } } in
    part_hears g.E.Extra.heard g.E.Extra.hears g.E.Extra.parted g.E.Extra.ended after new (paid_heard g.E.Extra.hears tx.msgs w (silently (fee_paid tx.payer tx.fee) w)) c.len.result same c.after_part.ensures.heard
    (c.len.ensures ∙ ap length c.replace-facts.ensures.value) (c.in_ok-outcome.ensures.heard w s)
