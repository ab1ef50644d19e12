use Rattle.std.proofs.Common.{List, [], append-nil, sym, subst, None}
use Rattle.std.proofs.lemmas.Result.{IfErr-weaker, err_from_is_err_and, on_ok_weaker}
use Rattle.base_roles.specs.declared.facts.Fact.{Fact}
use Rattle.mod_tracking.specs.{Stating.StillDue, Tracking.{Followed, block_followed}}
use Rattle.mod_tracking.proofs.Following.{due_first, due_last, wanting}
use Rattle.mod_tracking.proofs.tracker.Tracker.take_start.Goals as goal

pub returns-in_err-last-clause-fault : goal.returns-in_err-last-clause-fault
returns-in_err-last-clause-fault c =
    let p = c.args.pair.now in
    let notes = c.args.recorder.now.noted.notes in
    let old = c.args.self.now in
    let made = c.args.made.now.items in
    let due : Followed = block_followed p None c.args.facts.now notes old in
    let r = err_from_is_err_and c.from_residual.result c.from_residual.ensures.1 in
    rw (r.1, r.2) (c.in_err-last.ensures.fault due made [] (subst (λ (fs : List Fact). StillDue p None 0 due made fs 0 notes old made) (sym (append-nil c.args.facts.now)) (due_first p None 0 c.args.facts.now notes old made)))

pub returns-clause-made : goal.returns-clause-made
returns-clause-made c =
    let p = c.args.pair.now in
    let notes = c.args.recorder.now.noted.notes in
    let old = c.args.self.now in
    let made = c.args.made.now.items in
    let due : Followed = block_followed p None c.args.facts.now notes old in
    let last = c.in_ok-last.ensures.due due made [] (subst (λ (fs : List Fact). StillDue p None 0 due made fs 0 notes old made) (sym (append-nil c.args.facts.now)) (due_first p None 0 c.args.facts.now notes old made)) in
    on_ok_weaker c.take_rest.result (due_last p None 0 due made _ _ _ _ _ last) c.take_rest.ensures.tracked

pub returns-clause-fault : goal.returns-clause-fault
returns-clause-fault c = IfErr-weaker c.take_rest.result _ _ (wanting _) c.take_rest.ensures.fault
