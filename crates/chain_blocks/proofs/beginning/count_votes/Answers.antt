use Rattle.std.proofs.Common.{◌∙◌, ◌≤◌, ◌+◌, Ok, Err, [], ap, drop, length, refl, arith}
use Rattle.std.proofs.lemmas.{List.Elements.All-head, Result.err_from_is_err_and}
use Rattle.rule_modules.specs.{Chain.{shared_in, vote_step, window_in}, StepLaws.{CountsBelow, IsPower}}
use Rattle.chain_modules.{specs.{declared.modules.Modules.Modules, Kept.listener_of}, proofs.MarkLemmas.then_on}
use Rattle.chain_modules.proofs.SceneLemmas.{window_kept}
use Rattle.chain_transactions.proofs.MessageLemmas.{drop_end}
use Rattle.chain_blocks.{specs.Begun.AreBegun, proofs.BeginLemmas.vote_leads}
use Rattle.chain_blocks.proofs.CallLemmas.{counted_kept, power_kept, punishing_heard, punishing_on}
use Rattle.chain_blocks.proofs.HearLemmas.{all_each_heard, one_each_heard, vote_apart, vote_hears}
use Rattle.chain_blocks.proofs.LoopLemmas.{all_done, all_votes_counted, no_votes_counted, one_stops, vote_counted, vote_due}
use Rattle.rule_machine.specs.Listening.{unheard, vote_heard}
use Rattle.chain_blocks.proofs.beginning.count_votes.Goals as goal

pub loop-vote-init : goal.loop-vote-init
loop-vote-init g c = (no_votes_counted c.args.votes.now c.args.modules.now c.requires.votes, refl, λ w s. (w, s, refl))

pub vote-requires-clause-kept : goal.vote-requires-clause-kept
vote-requires-clause-kept g c =
    let due = vote_due c.args.votes.now c.loop-vote.vote-index c.vote-item.result c.args.modules.now c.loop-vote.modules c.loop-vote-test.true c.vote-item.is c.loop-vote.invariant.0 in
    window_kept c.loop-vote.modules due.state due.begun.keeps due.begun.sound

pub vote-requires-clause-counted : goal.vote-requires-clause-counted
vote-requires-clause-counted g c =
    let due = vote_due c.args.votes.now c.loop-vote.vote-index c.vote-item.result c.args.modules.now c.loop-vote.modules c.loop-vote-test.true c.vote-item.is c.loop-vote.invariant.0 in
    counted_kept c.loop-vote.modules due.state due.begun.keeps due.begun.sound c.vote-item.result.cons
    (All-head (λ t. CountsBelow t.cons due.state) c.vote-item.result (drop (c.loop-vote.vote-index + 1) c.args.votes.now) due.begun.counts)

pub vote-requires-clause-power : goal.vote-requires-clause-power
vote-requires-clause-power g c =
    let due = vote_due c.args.votes.now c.loop-vote.vote-index c.vote-item.result c.args.modules.now c.loop-vote.modules c.loop-vote-test.true c.vote-item.is c.loop-vote.invariant.0 in
    power_kept c.loop-vote.modules due.state due.begun.keeps due.begun.sound c.vote-item.result.power
    (All-head (λ t. IsPower t.power due.state) c.vote-item.result (drop (c.loop-vote.vote-index + 1) c.args.votes.now) due.begun.powers)

pub vote-requires-clause-scene : goal.vote-requires-clause-scene
vote-requires-clause-scene g c =
    let due = vote_due c.args.votes.now c.loop-vote.vote-index c.vote-item.result c.args.modules.now c.loop-vote.modules c.loop-vote-test.true c.vote-item.is c.loop-vote.invariant.0 in
    punishing_heard g.E.Extra.heard g.E.Extra.hears c.loop-vote.modules due.state due.begun.keeps due.begun.sound

pub loop-vote-preserved : goal.loop-vote-preserved
loop-vote-preserved g c =
    let new : Modules g.row.E.Denot = c.loop-vote.modules in
    let after = c.vote.new in
    let last : Modules g.row.E.Denot = record { ground = after.g; stakes = after.slasher; hooks = record { first = after.hooks; second = after.self } } in
    let e = c.vote.ensures in
    let so =
    vote_counted c.args.votes.now c.loop-vote.vote-index c.vote-item.result c.args.modules.now new c.loop-vote-test.true c.vote-item.is c.loop-vote.invariant.0 last
    (punishing_on new last e.ground.undone (ap (λ x. x.0) e.ground.hook_marks) e.ground.slasher_marks e.goes_on.behind)
    (λ q b. vote_leads new last q e.ground.undone.ctx c.vote-item.result (drop (c.loop-vote.vote-index + 1) c.args.votes.now) b (Ok tt) (vote_apart g.E.Extra.heard g.E.Extra.hears last c.vote-item.result (window_in q) _ _ (Ok tt) (c.in_ok-vote.ensures.told (shared_in q, g.E.Extra.heard (listener_of new)) (b.keeps.shared, refl) q.log (window_in q) b.keeps.signings))) in
    let others = drop (c.loop-vote.vote-index + 1) c.args.votes.now in (
      so,
      g.met.E.Extra.listens.same_marks _ _ (ap (λ x. x.1) e.ground.hook_marks) ∙ c.loop-vote.invariant.1,
      one_each_heard g.E.Extra.heard (vote_heard g.E.Extra.hears) AreBegun c.args.votes.now c.loop-vote.vote-index c.vote-item.result c.args.modules.now new last c.loop-vote-test.true c.vote-item.is c.loop-vote.invariant.2
          (λ w s. vote_hears g.E.Extra.heard g.E.Extra.hears last new w c.vote-item.result others _ s
          (vote_leads new last (unheard w) e.ground.undone.ctx c.vote-item.result others s.0 (Ok tt) (vote_apart g.E.Extra.heard g.E.Extra.hears last c.vote-item.result w.hooks.1 _ _ (Ok tt) (c.in_ok-vote.ensures.told (w.hooks.0.0, g.E.Extra.heard (listener_of new)) (s.0.keeps.shared, refl) w.log w.hooks.1 s.0.keeps.signings)))
          (c.in_ok-vote.ensures.told w.hooks.0 (s.0.keeps.shared, s.1) w.log w.hooks.1 s.0.keeps.signings)),
    )

pub returns-in_err-vote-clause-leads : goal.returns-in_err-vote-clause-leads
returns-in_err-vote-clause-leads g c = λ p s.
    let r = err_from_is_err_and c.from_residual.result c.from_residual.ensures.1 in
    let new : Modules g.row.E.Denot = c.loop-vote.modules in
    let after = c.vote.new in
    let last : Modules g.row.E.Denot = record { ground = after.g; stakes = after.slasher; hooks = record { first = after.hooks; second = after.self } } in
    let e = c.vote.ensures in
    rw (r.1, r.2) (one_stops vote_step AreBegun c.args.votes.now c.loop-vote.vote-index c.vote-item.result c.args.modules.now new last c.loop-vote-test.true c.vote-item.is c.loop-vote.invariant.0.so
    (punishing_on new last e.ground.undone (ap (λ x. x.0) e.ground.hook_marks) e.ground.slasher_marks e.goes_on.behind) (AreBegun []) c.in_err-vote.field-0.0
    (λ q b. vote_leads new last q e.ground.undone.ctx c.vote-item.result (drop (c.loop-vote.vote-index + 1) c.args.votes.now) b (Err c.in_err-vote.field-0.0)
    (vote_apart g.E.Extra.heard g.E.Extra.hears last c.vote-item.result (window_in q) _ _ (Err c.in_err-vote.field-0.0) (c.in_err-vote.ensures.told (shared_in q, g.E.Extra.heard (listener_of new)) (b.keeps.shared, refl) q.log (window_in q) b.keeps.signings))) p s)

pub returns-in_err-vote-clause-go_on : goal.returns-in_err-vote-clause-go_on
returns-in_err-vote-clause-go_on g c =
    let new : Modules g.row.E.Denot = c.loop-vote.modules in
    let after = c.vote.new in
    let last : Modules g.row.E.Denot = record { ground = after.g; stakes = after.slasher; hooks = record { first = after.hooks; second = after.self } } in
    let e = c.vote.ensures in
    then_on c.args.modules.now new last c.loop-vote.invariant.0.so.go_on (punishing_on new last e.ground.undone (ap (λ x. x.0) e.ground.hook_marks) e.ground.slasher_marks e.goes_on.behind)

pub returns-clause-leads : goal.returns-clause-leads
returns-clause-leads g c =
    let place = c.loop-vote.vote-index in
    let most : place ≤ length c.args.votes.now = omega (arith, c.loop-vote.auto.vote-index-end) in
    let least : length c.args.votes.now ≤ place = omega (arith, c.loop-vote-test.false) in
    all_done vote_step AreBegun c.args.votes.now place c.args.modules.now c.loop-vote.modules (drop_end c.args.votes.now place most least) c.loop-vote.invariant.0.so

pub returns-clause-may : goal.returns-clause-may
returns-clause-may g c =
    let place = c.loop-vote.vote-index in
    let most : place ≤ length c.args.votes.now = omega (arith, c.loop-vote.auto.vote-index-end) in
    let least : length c.args.votes.now ≤ place = omega (arith, c.loop-vote-test.false) in
    all_votes_counted c.args.votes.now place c.args.modules.now c.loop-vote.modules (drop_end c.args.votes.now place most least) c.loop-vote.invariant.0

pub returns-clause-go_on : goal.returns-clause-go_on
returns-clause-go_on g c = c.loop-vote.invariant.0.so.go_on

pub returns-in_err-vote-clause-listener : goal.returns-in_err-vote-clause-listener
returns-in_err-vote-clause-listener g c = g.met.E.Extra.listens.same_marks _ _ (ap (λ x. x.1) c.vote.ensures.ground.hook_marks) ∙ c.loop-vote.invariant.1

pub returns-clause-listener : goal.returns-clause-listener
returns-clause-listener g c = c.loop-vote.invariant.1

pub returns-clause-heard : goal.returns-clause-heard
returns-clause-heard g c =
    let place = c.loop-vote.vote-index in
    let most : place ≤ length c.args.votes.now = omega (arith, c.loop-vote.auto.vote-index-end) in
    let least : length c.args.votes.now ≤ place = omega (arith, c.loop-vote-test.false) in
    all_each_heard g.E.Extra.heard (vote_heard g.E.Extra.hears) AreBegun c.args.votes.now place c.args.modules.now c.loop-vote.modules (drop_end c.args.votes.now place most least) c.loop-vote.invariant.2
