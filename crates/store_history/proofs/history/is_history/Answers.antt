use Rattle.std.proofs.Common.{map, rules, tests}
use Rattle.base_io.specs.Changes.{pair_of}
use Rattle.store_history.proofs.ReadLemmas.{history_by, history_formed, history_head}
use Rattle.store_history.proofs.history.is_history.Goals as goal

pub returns-then-not-has_head : goal.returns-then-not-has_head
returns-then-not-has_head c = λ up vis base. (
  λ t. absurd (search (rules, tests)),
  λ h.
      let yes = c.has_head.ensures.1 (history_head (map pair_of c.args.rows.now) c.args.seen.now.visible up vis h) in
      search (rules, tests),
)

pub returns : goal.returns
returns c = λ up vis base. (
  λ t. history_by (map pair_of c.args.rows.now) c.args.seen.now.visible c.args.seen.now.base c.last.result up vis base c.last.ensures (c.has_head.ensures.0 (search (rules, tests))) (c.are_formed.ensures.0 t),
  λ h. c.are_formed.ensures.1 (history_formed (map pair_of c.args.rows.now) c.args.seen.now.visible c.args.seen.now.base c.last.result up vis base c.last.ensures h),
)
