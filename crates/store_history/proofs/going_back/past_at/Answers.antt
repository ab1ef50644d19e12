use Rattle.std.proofs.Common.{inl, inr, map}
use Rattle.base_io.specs.Changes.{pair_of}
use Rattle.store_history.proofs.TellLemmas.{tells_outside, tells_past}
use Rattle.store_history.proofs.going_back.past_at.Goals as goal

pub returns-then-height-base : goal.returns-then-height-base
returns-then-height-base c = λ up is base_is known h.
    tells_outside (map pair_of c.args.rows.now) c.args.history.visible c.args.history.base c.args.height c.unwrap_or-base.result c.args.last up is base_is known h c.unwrap_or-base.ensures (inl c.if-height-base.true)

pub returns-then-last-height : goal.returns-then-last-height
returns-then-last-height c = λ up is base_is known h.
    tells_outside (map pair_of c.args.rows.now) c.args.history.visible c.args.history.base c.args.height c.unwrap_or-base.result c.args.last up is base_is known h c.unwrap_or-base.ensures (inr c.if-last-height.true)

pub returns : goal.returns
returns c = λ up is base_is known h.
    tells_past (map pair_of c.args.rows.now) c.args.history.visible c.undo.new.visible c.args.history.base c.args.height c.unwrap_or-base.result c.args.last c.in_ok-past.past up is base_is known h c.unwrap_or-base.ensures
    c.if-height-base.false c.if-last-height.false c.in_ok-undo.ensures c.in_ok-past.ensures.rows
