use Rattle.std.proofs.Common.{◌∙◌, ◌+◌, ◌*◌, ◌^◌, ◌<◌, ◌≤◌, sym, ap, subst, arith}
use Rattle.chain_blocks.proofs.CheckLemmas.{is_new, known_vote, not_new, one_more_vote, repeated, too_much}
use Rattle.chain_blocks.proofs.checking.check_votes.Goals as goal

pub returns-then-not-branch-clause-fault : goal.returns-then-not-branch-clause-fault
returns-then-not-branch-clause-fault g c =
    let v = known_vote c.by_cons.result _ c.is_none.result c.by_cons.ensures.value c.is_none.ensures c.if-is_none.false in
    repeated c.args.stakes.now.staking.staked c.args.reduction c.args.votes.now c.loop-place.place c.index-votes-place.result c.loop-place.seen.keys c.loop-place.power c.loop-place-test.true c.index-votes-place.is c.loop-place.invariant
    v.0 v.1 (not_new _ (sym c.if-not-branch.true ∙ c.in_ok-add_key.ensures.new))

pub returns-then-power-from-gt-MOST_TOKENS-clause-fault : goal.returns-then-power-from-gt-MOST_TOKENS-clause-fault
returns-then-power-from-gt-MOST_TOKENS-clause-fault g c =
    let v = known_vote c.by_cons.result _ c.is_none.result c.by_cons.ensures.value c.is_none.ensures c.if-is_none.false in
    let over : 10 ^ 18 < (c.loop-place.power + c.from.result) * c.from-in-loop-place.result = omega (arith, c.if-power-from-gt-MOST_TOKENS.true) in
    too_much c.args.stakes.now.staking.staked c.args.reduction c.args.votes.now c.loop-place.place c.index-votes-place.result c.loop-place.seen.keys c.loop-place.power c.loop-place-test.true c.index-votes-place.is c.loop-place.invariant
    v.0 v.1 (is_new _ (sym c.if-not-branch.false ∙ c.in_ok-add_key.ensures.new))
    (subst (λ n. 10 ^ 18 < (c.loop-place.power + n) * c.args.reduction) c.from.ensures (subst (λ n. 10 ^ 18 < (c.loop-place.power + c.from.result) * n) c.from-in-loop-place.ensures over))

pub loop-place-preserved : goal.loop-place-preserved
loop-place-preserved g c =
    let v = known_vote c.by_cons.result _ c.is_none.result c.by_cons.ensures.value c.is_none.ensures c.if-is_none.false in
    let fits : (c.loop-place.power + c.from.result) * c.from-in-loop-place.result ≤ 10 ^ 18 = omega (arith, c.if-power-from-gt-MOST_TOKENS.false) in
    one_more_vote c.args.stakes.now.staking.staked c.args.reduction c.args.votes.now c.loop-place.place c.index-votes-place.result c.loop-place.seen.keys c.loop-place.power c.loop-place-test.true c.index-votes-place.is c.loop-place.invariant
    v.0 v.1 (is_new _ (sym c.if-not-branch.false ∙ c.in_ok-add_key.ensures.new)) c.add_key.new.seen.keys (c.loop-place.power + c.from.result) (c.in_ok-add_key.ensures.added c.if-not-branch.false) (ap (λ n. c.loop-place.power + n) c.from.ensures)
    (subst (λ n. (c.loop-place.power + c.from.result) * n ≤ 10 ^ 18) c.from-in-loop-place.ensures fits) c.requires.some
