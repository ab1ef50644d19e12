use Rattle.std.proofs.Common.{◌∙◌, ◌≤◌, Ok, Err, [], ap, length, refl, arith}
use Rattle.std.proofs.lemmas.Result.{err_from_is_err_and}
use Rattle.rule_modules.specs.Chain.{evidence_step, shared_in}
use Rattle.chain_modules.{specs.{declared.modules.Modules.Modules, Kept.listener_of}, proofs.MarkLemmas.then_on}
use Rattle.chain_modules.proofs.{SceneLemmas.stand_shared, HeardLemmas.shared_stands}
use Rattle.chain_transactions.proofs.MessageLemmas.{drop_end}
use Rattle.chain_blocks.{specs.Begun.AreBegun, proofs.EvidenceLemmas.evidence_leads}
use Rattle.chain_blocks.proofs.HearLemmas.{all_each_heard, evidence_apart, evidence_hears, one_each_heard}
use Rattle.chain_blocks.proofs.CallLemmas.{accounts_kept, core_kept, punishing_on, signers_kept}
use Rattle.chain_blocks.proofs.LoopLemmas.{AreThrough, all_done, brought_here, evidence_handled, no_evidence_handled, one_stops}
use Rattle.rule_machine.specs.Listening.{evidence_heard, unheard}
use Rattle.chain_blocks.proofs.beginning.handle_evidence.Goals as goal

pub loop-e-init : goal.loop-e-init
loop-e-init g c = (no_evidence_handled c.args.evidence.now c.args.modules.now c.requires.evidence, refl, λ w s. (w, s, refl))

pub equivocation-requires-clause-power : goal.equivocation-requires-clause-power
equivocation-requires-clause-power g c =
    (brought_here c.args.evidence.now c.loop-e.e-index c.e-item.result c.args.modules.now c.loop-e.modules c.loop-e-test.true c.e-item.is c.loop-e.invariant.0).power

pub equivocation-requires-clause-sound : goal.equivocation-requires-clause-sound
equivocation-requires-clause-sound g c = let s = c.loop-e.invariant.0.may.behind in core_kept c.loop-e.modules s.state s.begun.keeps s.begun.sound

pub equivocation-requires-clause-signers : goal.equivocation-requires-clause-signers
equivocation-requires-clause-signers g c = let s = c.loop-e.invariant.0.may.behind in signers_kept c.loop-e.modules s.state s.begun.keeps s.begun.sound

pub equivocation-requires-clause-stand : goal.equivocation-requires-clause-stand
equivocation-requires-clause-stand g c = let s = c.loop-e.invariant.0.may.behind in shared_stands g.E.Extra.hears g.E.Extra.heard c.loop-e.modules.hooks _ _ (stand_shared c.loop-e.modules s.state s.begun.keeps s.begun.sound)

pub equivocation-requires-clause-accounts : goal.equivocation-requires-clause-accounts
equivocation-requires-clause-accounts g c = let s = c.loop-e.invariant.0.may.behind in accounts_kept c.loop-e.modules s.state s.begun.keeps s.begun.sound

pub loop-e-preserved : goal.loop-e-preserved
loop-e-preserved g c =
    let new : Modules g.row.E.Denot = c.loop-e.modules in
    let after = c.equivocation.new in
    let last : Modules g.row.E.Denot = record { ground = after.g; stakes = after.slasher; hooks = record { first = after.hooks; second = after.signers } } in
    let e = c.equivocation.ensures in
    let so =
    evidence_handled c.args.evidence.now c.loop-e.e-index c.e-item.result c.args.modules.now new c.loop-e-test.true c.e-item.is c.loop-e.invariant.0 last
    (punishing_on new last e.undone (ap (λ x. x.0) e.hook_marks) e.marks e.signer_marks)
    (λ q b. evidence_leads new last q b e.undone.ctx c.e-item.result (Ok c.in_ok-equivocation.field-0) (evidence_apart g.E.Extra.heard g.E.Extra.hears last c.e-item.result new.hooks.second.kept last.hooks.second.kept _ (Ok c.in_ok-equivocation.field-0) (c.in_ok-equivocation.ensures.told (shared_in q, g.E.Extra.heard (listener_of new)) (b.keeps.shared, refl) q.log))) in
    let told = c.in_ok-equivocation.ensures.told in
    let done = c.in_ok-equivocation.field-0 in (
      so,
      g.met.E.Extra.listens.same_marks _ _ (ap (λ x. x.1) e.hook_marks) ∙ c.loop-e.invariant.1,
      one_each_heard g.E.Extra.heard (evidence_heard g.E.Extra.hears) AreThrough c.args.evidence.now c.loop-e.e-index c.e-item.result c.args.modules.now new last c.loop-e-test.true c.e-item.is c.loop-e.invariant.2
          (λ w s. evidence_hears g.E.Extra.heard g.E.Extra.hears last new w c.e-item.result done s
          (evidence_leads new last (unheard w) s.0 e.undone.ctx c.e-item.result (Ok done) (evidence_apart g.E.Extra.heard g.E.Extra.hears last c.e-item.result new.hooks.second.kept last.hooks.second.kept _ (Ok done) (told (w.hooks.0.0, g.E.Extra.heard (listener_of new)) (s.0.keeps.shared, refl) w.log)))
          (told w.hooks.0 (s.0.keeps.shared, s.1) w.log)),
    )

pub returns-in_err-equivocation-clause-leads : goal.returns-in_err-equivocation-clause-leads
returns-in_err-equivocation-clause-leads g c = λ p s.
    let r = err_from_is_err_and c.from_residual.result c.from_residual.ensures.1 in
    let new : Modules g.row.E.Denot = c.loop-e.modules in
    let after = c.equivocation.new in
    let last : Modules g.row.E.Denot = record { ground = after.g; stakes = after.slasher; hooks = record { first = after.hooks; second = after.signers } } in
    let e = c.equivocation.ensures in
    rw (r.1, r.2) (one_stops evidence_step AreThrough c.args.evidence.now c.loop-e.e-index c.e-item.result c.args.modules.now new last c.loop-e-test.true c.e-item.is c.loop-e.invariant.0.so
    (punishing_on new last e.undone (ap (λ x. x.0) e.hook_marks) e.marks e.signer_marks) (AreBegun []) c.in_err-equivocation.field-0.0
    (λ q b. evidence_leads new last q b e.undone.ctx c.e-item.result (Err c.in_err-equivocation.field-0.0) (evidence_apart g.E.Extra.heard g.E.Extra.hears last c.e-item.result new.hooks.second.kept last.hooks.second.kept _ (Err c.in_err-equivocation.field-0.0) (c.in_err-equivocation.ensures.told (shared_in q, g.E.Extra.heard (listener_of new)) (b.keeps.shared, refl) q.log))) p s)

pub returns-in_err-equivocation-clause-go_on : goal.returns-in_err-equivocation-clause-go_on
returns-in_err-equivocation-clause-go_on g c =
    let new : Modules g.row.E.Denot = c.loop-e.modules in
    let after = c.equivocation.new in
    let last : Modules g.row.E.Denot = record { ground = after.g; stakes = after.slasher; hooks = record { first = after.hooks; second = after.signers } } in
    let e = c.equivocation.ensures in
    then_on c.args.modules.now new last c.loop-e.invariant.0.so.go_on (punishing_on new last e.undone (ap (λ x. x.0) e.hook_marks) e.marks e.signer_marks)

pub returns-clause-leads : goal.returns-clause-leads
returns-clause-leads g c =
    let place = c.loop-e.e-index in
    let most : place ≤ length c.args.evidence.now = omega (arith, c.loop-e.auto.e-index-end) in
    let least : length c.args.evidence.now ≤ place = omega (arith, c.loop-e-test.false) in
    all_done evidence_step AreThrough c.args.evidence.now place c.args.modules.now c.loop-e.modules (drop_end c.args.evidence.now place most least) c.loop-e.invariant.0.so

pub returns-clause-may : goal.returns-clause-may
returns-clause-may g c = c.loop-e.invariant.0.may.behind

pub returns-clause-go_on : goal.returns-clause-go_on
returns-clause-go_on g c = c.loop-e.invariant.0.so.go_on

pub returns-in_err-equivocation-clause-listener : goal.returns-in_err-equivocation-clause-listener
returns-in_err-equivocation-clause-listener g c = g.met.E.Extra.listens.same_marks _ _ (ap (λ x. x.1) c.equivocation.ensures.hook_marks) ∙ c.loop-e.invariant.1

pub returns-clause-listener : goal.returns-clause-listener
returns-clause-listener g c = c.loop-e.invariant.1

pub returns-clause-heard : goal.returns-clause-heard
returns-clause-heard g c =
    let place = c.loop-e.e-index in
    let most : place ≤ length c.args.evidence.now = omega (arith, c.loop-e.auto.e-index-end) in
    let least : length c.args.evidence.now ≤ place = omega (arith, c.loop-e-test.false) in
    all_each_heard g.E.Extra.heard (evidence_heard g.E.Extra.hears) AreThrough c.args.evidence.now place c.args.modules.now c.loop-e.modules (drop_end c.args.evidence.now place most least) c.loop-e.invariant.2
