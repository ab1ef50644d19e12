use Rattle.std.proofs.Common.{◌∙◌, ◌+◌, false, cond, get_or, take, sym, ap, arith, length-take, take_all}
use Rattle.std.proofs.lemmas.Option.{slice_get-get_or}
use Rattle.rule_modules.specs.Amounts.{count_where}
use Rattle.mod_signing.proofs.{InfoLemmas.few_set, LoopLemmas.{count_more, one_most}}
use Rattle.mod_signing.proofs.resizing.misses.Goals as goal

pub overflow_add-missed : goal.overflow_add-missed
overflow_add-missed c =
    let vote = get_or c.args.votes.now c.loop-vote.vote-index false in
    let few = few_set (take c.loop-vote.vote-index c.args.votes.now) in
    let some = length-take c.loop-vote.vote-index c.args.votes.now in
    omega (arith, few, some, c.loop-vote.invariant, c.one_if-missed.ensures, one_most vote)

pub loop-vote-preserved : goal.loop-vote-preserved
loop-vote-preserved c =
    let vote = get_or c.args.votes.now c.loop-vote.vote-index false in
    let here = slice_get-get_or c.args.votes.now c.loop-vote.vote-index false c.loop-vote-test.true in
    ap (λ n. c.loop-vote.missed + n) c.one_if-missed.ensures ∙ ap (λ n. n + cond vote 1 0) c.loop-vote.invariant
    ∙ sym (count_more c.args.votes.now c.loop-vote.vote-index vote c.loop-vote-test.true here)

pub returns : goal.returns
returns c = c.loop-vote.invariant ∙ ap (count_where (λ x. x)) (take_all c.loop-vote.vote-index c.args.votes.now (omega (arith, c.loop-vote-test.false)))
