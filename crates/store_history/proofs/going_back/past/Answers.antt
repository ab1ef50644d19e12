use Rattle.std.proofs.Common.{map, rules, tests}
use Rattle.base_io.specs.Changes.{pair_of}
use Rattle.store_history.proofs.TellLemmas.{tells_no_head}
use Rattle.store_history.proofs.going_back.past.Goals as goal

pub returns-then-not-is_history : goal.returns-then-not-is_history
returns-then-not-is_history c = λ up h.
    let yes = (c.is_history.ensures up (c.in_ok-history.ensures.visible up) (c.in_ok-history.ensures.base up)).1 h in
    absurd (search (rules, tests))

pub returns-in-None : goal.returns-in-None
returns-in-None c = λ up.
    tells_no_head (map pair_of c.args.rows.now) c.in_ok-history.history.visible c.args.height up (c.in_ok-history.ensures.visible up) c.in-None.ensures

pub returns-in-Some : goal.returns-in-Some
returns-in-Some c = λ up.
    let yes = (c.is_history.ensures up (c.in_ok-history.ensures.visible up) (c.in_ok-history.ensures.base up)).0 (search (rules, tests)) in
    c.past_at.ensures up (c.in_ok-history.ensures.visible up) (c.in_ok-history.ensures.base up) c.in-Some.ensures yes
