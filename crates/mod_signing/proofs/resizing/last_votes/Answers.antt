use Rattle.std.proofs.Common.{◌∙◌, arith}
use Rattle.mod_signing.proofs.ResizedLemmas.{turns-begin, turns-end, turns-more}
use Rattle.mod_signing.proofs.resizing.last_votes.Goals as goal

pub loop-turn-init : goal.loop-turn-init
loop-turn-init g c = record {
  votes = turns-begin c.args.most c.args.counted c.args.ring.now c.len-places.result c.saturating_sub-first.result c.new-votes.result.items c.len-places.ensures c.saturating_sub-first.ensures
      c.new-votes.ensures.items;
  low = omega (arith, c.len-places.ensures, c.saturating_sub-first.ensures);
}

pub place_at-requires : goal.place_at-requires
place_at-requires g c = record { next = c.next_of-next.ensures.within; turn = omega arith }

pub at-requires : goal.at-requires
at-requires g c = record { within = omega (arith, c.place_at.ensures.within, c.len-places.ensures) }

pub loop-turn-preserved : goal.loop-turn-preserved
loop-turn-preserved g c = record {
  votes = turns-more c.args.most c.args.counted c.args.ring.now c.len-places.result c.next_of-next.result c.loop-turn.turn c.place_at.result c.at.result c.loop-turn.votes.items c.push.new.self.items
      c.len-places.ensures c.next_of-next.ensures.next c.loop-turn.invariant.low (omega arith) c.place_at.ensures.before c.place_at.ensures.behind c.at.ensures.vote c.loop-turn.invariant.votes
      c.in_ok-push.ensures.items;
  low = omega (arith, c.loop-turn.invariant.low);
}

pub returns : goal.returns
returns g c =
    c.of.ensures ∙ turns-end c.args.most c.args.counted c.args.ring.now c.len-places.result c.loop-turn.turn c.loop-turn.votes.items c.len-places.ensures
    (omega (arith, c.saturating_sub-first.ensures, c.loop-turn.auto.turn-end, c.loop-turn-test.false)) c.loop-turn.invariant.votes
