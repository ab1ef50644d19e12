use Rattle.std.proofs.Common.{◌∙◌}
use Rattle.std.proofs.lemmas.Result.{err_from_is_err_and}
use Rattle.chain_modules.proofs.MarkLemmas.{forgotten, one_more_some}
use Rattle.chain_modules.proofs.marks.mark_entries.Goals as goal

pub returns-in_err-mark-clause-err : goal.returns-in_err-mark-clause-err
returns-in_err-mark-clause-err g c =
    let s = c.args.stakes.now in
    let r = err_from_is_err_and c.from_residual.result c.from_residual.ensures.1 in
    rw r.1 (λ i. record { staked = s.staking.marks; unbondings = c.in_err-mark.ensures.err i; redelegations = s.redelegations.marks })

pub returns-in_err-mark-clause-same : goal.returns-in_err-mark-clause-same
returns-in_err-mark-clause-same g c = let s = c.args.stakes.now in λ i. record { staked = s.staking.staked; unbondings = c.mark.ensures.kept i; redelegations = s.redelegations.lists }

pub returns-in_err-mark-clause-settled : goal.returns-in_err-mark-clause-settled
returns-in_err-mark-clause-settled g c = let s = c.args.stakes.now in λ i. record { staked = s.staking.settled; unbondings = c.mark.ensures.settled i; redelegations = s.redelegations.settled }

pub returns-in-Ok-clause-same : goal.returns-in-Ok-clause-same
returns-in-Ok-clause-same g c = let s = c.args.stakes.now in λ i. record { staked = s.staking.staked; unbondings = c.mark.ensures.kept i; redelegations = c.mark-2.ensures.kept i }

pub returns-in-Ok-clause-settled : goal.returns-in-Ok-clause-settled
returns-in-Ok-clause-settled g c = let s = c.args.stakes.now in λ i. record { staked = s.staking.settled; unbondings = c.mark.ensures.settled i; redelegations = c.mark-2.ensures.settled i }

pub forget-requires : goal.forget-requires
forget-requires g c = one_more_some c.args.stakes.now.unbondings.marks c.mark.new.self.marks c.args.stakes.now.unbondings.lists c.in_ok-mark.ensures.opened

pub returns-in-Err-clause-err : goal.returns-in-Err-clause-err
returns-in-Err-clause-err g c =
    let s = c.args.stakes.now in
    let k = c.forget.ensures.closed in
    let left = forgotten s.unbondings.marks c.mark.new.self.marks c.forget.new.self.marks s.unbondings.lists k.0 c.in_ok-mark.ensures.opened k.1 in
    λ i. record { staked = s.staking.marks; unbondings = left i; redelegations = c.in-Err.ensures.err i }

pub returns-in-Err-clause-same : goal.returns-in-Err-clause-same
returns-in-Err-clause-same g c = let s = c.args.stakes.now in λ i. record { staked = s.staking.staked; unbondings = (c.forget.ensures.kept ∙ c.mark.ensures.kept) i; redelegations = c.mark-2.ensures.kept i }

pub returns-in-Err-clause-settled : goal.returns-in-Err-clause-settled
returns-in-Err-clause-settled g c = let s = c.args.stakes.now in λ i. record { staked = s.staking.settled; unbondings = (c.forget.ensures.settled ∙ c.mark.ensures.settled) i; redelegations = c.mark-2.ensures.settled i }
