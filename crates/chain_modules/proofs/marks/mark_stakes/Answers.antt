use Rattle.std.proofs.Common.{◌∙◌, ap}
use Rattle.std.proofs.lemmas.Result.{err_from_is_err_and}
use Rattle.chain_modules.proofs.MarkLemmas.{forgotten, one_more_some}
use Rattle.chain_modules.proofs.marks.mark_stakes.Goals as goal

pub returns-in_err-mark-clause-err : goal.returns-in_err-mark-clause-err
returns-in_err-mark-clause-err g c =
    let s = c.args.stakes.now in
    let r = err_from_is_err_and c.from_residual.result c.from_residual.ensures.1 in
    rw r.1 (λ i. record { staked = c.in_err-mark.ensures.err i; unbondings = s.unbondings.marks; redelegations = s.redelegations.marks })

pub returns-in_err-mark-clause-same : goal.returns-in_err-mark-clause-same
returns-in_err-mark-clause-same g c = let s = c.args.stakes.now in λ i. record { staked = c.mark.ensures.kept i; unbondings = s.unbondings.lists; redelegations = s.redelegations.lists }

pub returns-in_err-mark-clause-settled : goal.returns-in_err-mark-clause-settled
returns-in_err-mark-clause-settled g c = let s = c.args.stakes.now in λ i. record { staked = c.mark.ensures.settled i; unbondings = s.unbondings.settled; redelegations = s.redelegations.settled }

pub returns-in-Ok-clause-opened : goal.returns-in-Ok-clause-opened
returns-in-Ok-clause-opened g c =
    let staked = ap (λ x. x.marks) c.mark_entries.ensures.staking ∙ c.in_ok-mark.ensures.opened in
    λ i. record { staked = staked i; unbondings = c.in-Ok.ensures.unbondings i; redelegations = c.in-Ok.ensures.redelegations i }

pub returns-in-Ok-clause-same : goal.returns-in-Ok-clause-same
returns-in-Ok-clause-same g c =
    let s = c.args.stakes.now in
    c.mark_entries.ensures.same ∙ (λ i. record { staked = c.mark.ensures.kept i; unbondings = s.unbondings.lists; redelegations = s.redelegations.lists })

pub returns-in-Ok-clause-settled : goal.returns-in-Ok-clause-settled
returns-in-Ok-clause-settled g c =
    let s = c.args.stakes.now in
    c.mark_entries.ensures.settled ∙ (λ i. record { staked = c.mark.ensures.settled i; unbondings = s.unbondings.settled; redelegations = s.redelegations.settled })

pub returns-in-Ok-clause-power : goal.returns-in-Ok-clause-power
returns-in-Ok-clause-power g c = ap (λ x. x.power_reduction) c.mark_entries.ensures.staking ∙ c.mark.ensures.power

pub forget-requires : goal.forget-requires
forget-requires g c =
    let s = c.args.stakes.now in
    one_more_some s.staking.marks c.mark_entries.new.stakes.staking.marks s.staking.staked (ap (λ x. x.marks) c.mark_entries.ensures.staking ∙ c.in_ok-mark.ensures.opened)

pub returns-in-Err-clause-err : goal.returns-in-Err-clause-err
returns-in-Err-clause-err g c =
    let s = c.args.stakes.now in
    let k = c.forget.ensures.closed in
    let left = forgotten s.staking.marks c.mark_entries.new.stakes.staking.marks c.forget.new.self.marks s.staking.staked k.0 (ap (λ x. x.marks) c.mark_entries.ensures.staking ∙ c.in_ok-mark.ensures.opened) k.1 in
    λ i. record { staked = left i; unbondings = (c.in-Err.ensures.err i).unbondings; redelegations = (c.in-Err.ensures.err i).redelegations }

pub returns-in-Err-clause-same : goal.returns-in-Err-clause-same
returns-in-Err-clause-same g c =
    let staked = c.forget.ensures.kept ∙ ap (λ x. x.staked) c.mark_entries.ensures.staking ∙ c.mark.ensures.kept in
    λ i. record { staked = staked i; unbondings = (c.mark_entries.ensures.same i).unbondings; redelegations = (c.mark_entries.ensures.same i).redelegations }

pub returns-in-Err-clause-settled : goal.returns-in-Err-clause-settled
returns-in-Err-clause-settled g c =
    let staked = c.forget.ensures.settled ∙ ap (λ x. x.settled) c.mark_entries.ensures.staking ∙ c.mark.ensures.settled in
    λ i. record { staked = staked i; unbondings = (c.mark_entries.ensures.settled i).unbondings; redelegations = (c.mark_entries.ensures.settled i).redelegations }

pub returns-in-Err-clause-power : goal.returns-in-Err-clause-power
returns-in-Err-clause-power g c = c.forget.ensures.power ∙ ap (λ x. x.power_reduction) c.mark_entries.ensures.staking ∙ c.mark.ensures.power
