use Rattle.std.proofs.Common.{List, [], Ok, Err, sym, subst, All, OnOk}
use Rattle.base_roles.specs.{declared.messages.{Evidence.Evidence, Vote.Vote}, Flow.each}
use Rattle.rule_modules.specs.Chain.{State, allocation_step, evidence_step, vote_step}
use Rattle.chain_blocks.specs.{Answers.Leads, Begun.{AreBegun, MayAllocate, MayBeBrought}}
use Rattle.chain_blocks.proofs.HearLemmas.{begin_hears}
use Rattle.chain_blocks.proofs.BeginningLemmas.{begin_leads, allocation_stops, brought_on, may_allocate, votes_stop}
use Rattle.chain_blocks.proofs.LoopLemmas.{steady_begun}
use Rattle.std.proofs.lemmas.Result.{err_from_is_err_and}
use Rattle.rule_machine.specs.Listening.{Hearing, evidence_heard, vote_heard}
use Rattle.chain_modules.specs.{declared.modules.Modules.Modules, Heard.{Hears, HearsAfter}, Kept.kept_of}
use Rattle.chain_modules.proofs.MarkLemmas.{then_on}
use Rattle.chain_blocks.proofs.beginning.begin.Goals as goal

pub allocate-requires : goal.allocate-requires
allocate-requires g c = record { votes = subst (λ (l : List Vote). MayAllocate l c.args.modules.now) (sym c.as_slice-votes.ensures) (may_allocate c.args.block.now c.args.modules.now c.requires.begins) }

pub handle_evidence-requires : goal.handle_evidence-requires
handle_evidence-requires g c =
    let on = then_on c.args.modules.now c.allocate.new.modules c.count_votes.new.modules c.allocate.ensures.go_on c.count_votes.ensures.go_on in
    record { evidence = record { behind = (c.in_ok-count_votes.ensures.may); brought = subst (λ (l : List Evidence). All (MayBeBrought c.count_votes.new.modules.ground.ctx) l) (sym c.as_slice.ensures) (brought_on c.args.block.now c.args.modules.now c.count_votes.new.modules c.requires.begins on) } }

pub returns-in_err-allocate-clause-leads : goal.returns-in_err-allocate-clause-leads
returns-in_err-allocate-clause-leads g c = λ p s.
    let r = err_from_is_err_and c.from_residual.result c.from_residual.ensures.1 in
    rw (r.1, r.2) (allocation_stops c.args.block.now (kept_of c.args.modules.now) (kept_of c.allocate.new.modules) c.in_err-allocate.field-0.0 (subst (λ (l : List Vote). (p : State) → AreBegun l (kept_of c.args.modules.now) p → Leads (AreBegun l) (allocation_step l p) (kept_of c.allocate.new.modules) (Err c.in_err-allocate.field-0.0)) c.as_slice-votes.ensures c.in_err-allocate.ensures.leads) p s)

pub returns-in_err-count_votes-clause-leads : goal.returns-in_err-count_votes-clause-leads
returns-in_err-count_votes-clause-leads g c = λ p s.
    let r = err_from_is_err_and c.from_residual-in_err-count_votes.result c.from_residual-in_err-count_votes.ensures.1 in
    rw (r.1, r.2) (votes_stop c.args.block.now (kept_of c.args.modules.now) (kept_of c.allocate.new.modules) (kept_of c.count_votes.new.modules) c.in_err-count_votes.field-0.0 (subst (λ (l : List Vote). (p : State) → AreBegun l (kept_of c.args.modules.now) p → Leads (AreBegun l) (allocation_step l p) (kept_of c.allocate.new.modules) (Ok tt)) c.as_slice-votes.ensures c.in_ok-allocate.ensures.leads) (subst (λ (l : List Vote). (p : State) → AreBegun l (kept_of c.allocate.new.modules) p → Leads (AreBegun []) (each vote_step l p) (kept_of c.count_votes.new.modules) (Err c.in_err-count_votes.field-0.0)) c.as_slice-votes.ensures c.in_err-count_votes.ensures.leads) p s)

pub returns-in_err-count_votes-clause-go_on : goal.returns-in_err-count_votes-clause-go_on
returns-in_err-count_votes-clause-go_on g c = then_on c.args.modules.now c.allocate.new.modules c.count_votes.new.modules c.allocate.ensures.go_on c.count_votes.ensures.go_on

pub returns-clause-leads : goal.returns-clause-leads
returns-clause-leads g c =
    begin_leads c.args.block.now (kept_of c.args.modules.now) (kept_of c.allocate.new.modules) (kept_of c.count_votes.new.modules) (kept_of c.handle_evidence.new.modules) c.handle_evidence.result
    (subst (λ (l : List Vote). (p : State) → AreBegun l (kept_of c.args.modules.now) p → Leads (AreBegun l) (allocation_step l p) (kept_of c.allocate.new.modules) (Ok tt)) c.as_slice-votes.ensures c.in_ok-allocate.ensures.leads) (subst (λ (l : List Vote). (p : State) → AreBegun l (kept_of c.allocate.new.modules) p → Leads (AreBegun []) (each vote_step l p) (kept_of c.count_votes.new.modules) (Ok tt)) c.as_slice-votes.ensures c.in_ok-count_votes.ensures.leads) (subst (λ (l : List Evidence). (p : State) → AreBegun [] (kept_of c.count_votes.new.modules) p → Leads (AreBegun []) (each evidence_step l p) (kept_of c.handle_evidence.new.modules) c.handle_evidence.result) c.as_slice.ensures c.handle_evidence.ensures.leads)

pub returns-clause-steady : goal.returns-clause-steady
returns-clause-steady g c =
    let on = then_on c.args.modules.now c.count_votes.new.modules c.handle_evidence.new.modules (then_on c.args.modules.now c.allocate.new.modules c.count_votes.new.modules c.allocate.ensures.go_on c.count_votes.ensures.go_on) c.handle_evidence.ensures.go_on in
    steady_begun c.args.block.now c.args.modules.now c.handle_evidence.new.modules c.handle_evidence.result c.requires.begins on
    (begin_leads c.args.block.now (kept_of c.args.modules.now) (kept_of c.allocate.new.modules) (kept_of c.count_votes.new.modules) (kept_of c.handle_evidence.new.modules) c.handle_evidence.result
    (subst (λ (l : List Vote). (p : State) → AreBegun l (kept_of c.args.modules.now) p → Leads (AreBegun l) (allocation_step l p) (kept_of c.allocate.new.modules) (Ok tt)) c.as_slice-votes.ensures c.in_ok-allocate.ensures.leads) (subst (λ (l : List Vote). (p : State) → AreBegun l (kept_of c.allocate.new.modules) p → Leads (AreBegun []) (each vote_step l p) (kept_of c.count_votes.new.modules) (Ok tt)) c.as_slice-votes.ensures c.in_ok-count_votes.ensures.leads) (subst (λ (l : List Evidence). (p : State) → AreBegun [] (kept_of c.count_votes.new.modules) p → Leads (AreBegun []) (each evidence_step l p) (kept_of c.handle_evidence.new.modules) c.handle_evidence.result) c.as_slice.ensures c.handle_evidence.ensures.leads))

pub returns-clause-go_on : goal.returns-clause-go_on
returns-clause-go_on g c =
    then_on c.args.modules.now c.count_votes.new.modules c.handle_evidence.new.modules (then_on c.args.modules.now c.allocate.new.modules c.count_votes.new.modules c.allocate.ensures.go_on c.count_votes.ensures.go_on) c.handle_evidence.ensures.go_on

pub returns-clause-heard : goal.returns-clause-heard
returns-clause-heard g c =
    let m0 : Modules g.row.E.Denot = c.args.modules.now in
    let m1 : Modules g.row.E.Denot = c.allocate.new.modules in
    let m2 : Modules g.row.E.Denot = c.count_votes.new.modules in
    let m3 : Modules g.row.E.Denot = c.handle_evidence.new.modules in
    let one = subst (λ (l : List Vote). (p : State) → AreBegun l (kept_of m0) p → Leads (AreBegun l) (allocation_step l p) (kept_of m1) (Ok tt)) c.as_slice-votes.ensures c.in_ok-allocate.ensures.leads in
    let two = subst (λ (l : List Vote). (w : Hearing _) → Hears g.E.Extra.heard (AreBegun l) m1 w → HearsAfter g.E.Extra.heard (AreBegun []) (each (vote_heard g.E.Extra.hears) l w) m2) c.as_slice-votes.ensures c.in_ok-count_votes.ensures.heard in
    let three = subst (λ (l : List Evidence). (w : Hearing _) → Hears g.E.Extra.heard (AreBegun []) m2 w → OnOk c.handle_evidence.result (HearsAfter g.E.Extra.heard (AreBegun []) (each (evidence_heard g.E.Extra.hears) l w) m3)) c.as_slice.ensures
    c.handle_evidence.ensures.heard in
    begin_hears g.E.Extra.heard g.E.Extra.hears c.args.block.now m0 m1 m2 m3 c.handle_evidence.result one c.allocate.ensures.listener two three
