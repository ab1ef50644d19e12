use Rattle.std.proofs.Common.{◌∙◌, ap}
use Rattle.chain_modules.{specs.Marks.StakeMarks, proofs.MarkLemmas.{forgotten, one_more_some}}
use Rattle.chain_modules.proofs.marks.mark_beside.Goals as goal

pub forget_stakes-requires-clause-staking : goal.forget_stakes-requires-clause-staking
forget_stakes-requires-clause-staking g c =
    let s = c.args.stakes.now in
    one_more_some s.staking.marks c.mark_stakes.new.stakes.staking.marks s.staking.staked (ap (λ (k : StakeMarks). k.staked) c.in_ok-mark_stakes.ensures.opened)

pub forget_stakes-requires-clause-unbondings : goal.forget_stakes-requires-clause-unbondings
forget_stakes-requires-clause-unbondings g c =
    let s = c.args.stakes.now in
    one_more_some s.unbondings.marks c.mark_stakes.new.stakes.unbondings.marks s.unbondings.lists (ap (λ (k : StakeMarks). k.unbondings) c.in_ok-mark_stakes.ensures.opened)

pub forget_stakes-requires-clause-redelegations : goal.forget_stakes-requires-clause-redelegations
forget_stakes-requires-clause-redelegations g c =
    let s = c.args.stakes.now in
    one_more_some s.redelegations.marks c.mark_stakes.new.stakes.redelegations.marks s.redelegations.lists (ap (λ (k : StakeMarks). k.redelegations) c.in_ok-mark_stakes.ensures.opened)

pub returns-in-Err-clause-stakes_err : goal.returns-in-Err-clause-stakes_err
returns-in-Err-clause-stakes_err g c =
    let s = c.args.stakes.now in
    let mid = c.mark_stakes.new.stakes in
    let new = c.forget_stakes.new.stakes in
    let k = c.forget_stakes.ensures.closed in
    let opens = c.in_ok-mark_stakes.ensures.opened in
    let a = forgotten s.staking.marks mid.staking.marks new.staking.marks s.staking.staked k.staked.0 (ap (λ (x : StakeMarks). x.staked) opens) k.staked.1 in
    let b = forgotten s.unbondings.marks mid.unbondings.marks new.unbondings.marks s.unbondings.lists k.unbondings.0 (ap (λ (x : StakeMarks). x.unbondings) opens) k.unbondings.1 in
    let d = forgotten s.redelegations.marks mid.redelegations.marks new.redelegations.marks s.redelegations.lists k.redelegations.0 (ap (λ (x : StakeMarks). x.redelegations) opens) k.redelegations.1 in
    λ i. record { staked = a i; unbondings = b i; redelegations = d i }

pub returns-in-Err-clause-stakes_same : goal.returns-in-Err-clause-stakes_same
returns-in-Err-clause-stakes_same g c = c.forget_stakes.ensures.same ∙ c.mark_stakes.ensures.same

pub returns-in-Err-clause-stakes_settled : goal.returns-in-Err-clause-stakes_settled
returns-in-Err-clause-stakes_settled g c = c.forget_stakes.ensures.settled ∙ c.mark_stakes.ensures.settled
