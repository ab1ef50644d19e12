use Rattle.std.proofs.Common.{◌∙◌, length, ap, arith}
use Rattle.std.specs.Map.{values_of}
use Rattle.mod_bonded_set.{specs.Sets.is_due, proofs.{DueLemmas.listed_count, LoopLemmas.stays-none}}
use Rattle.mod_bonded_set.proofs.maturing.mature_validators.Goals as goal

pub returns-clause-cost : goal.returns-clause-cost
returns-clause-cost g c = λ e.
    let many = ap length (c.as_slice.ensures.value ∙ c.in_ok-due.ensures.due) ∙ listed_count (is_due c.args.g.now.ctx.time) (values_of c.args.staking.now.staked.validators) in
    let each = c.mature_all.ensures.cost e in
    let walk = c.who_matures.ensures.cost in
    omega (arith, many, each, walk)

pub returns-in_err-due-clause-stays : goal.returns-in_err-due-clause-stays
returns-in_err-due-clause-stays g c = stays-none g.B.Bank.marks g.B.Bank.most_steps g.H.StakingHooks.marks c.args.g.now c.args.hooks.now c.args.staking.now c.from_residual.result
