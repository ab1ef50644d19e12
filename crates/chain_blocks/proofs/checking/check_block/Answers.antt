use Rattle.std.proofs.Common.{◌≡◌, List, [], Ok, sym, subst}
use Rattle.std.proofs.lemmas.Result.{err_from_is_err_and}
use Rattle.base_roles.specs.declared.messages.Vote.{Vote}
use Rattle.rule_machine.specs.Machine.{votes_checked}
use Rattle.chain_modules.specs.Kept.{kept_of}
use Rattle.chain_blocks.specs.Answers.{FaultsAs}
use Rattle.chain_blocks.proofs.CheckLemmas.{evidence_checks, evidence_faults, not_due, votes_fault}
use Rattle.chain_blocks.proofs.checking.check_block.Goals as goal

pub returns-in-Some-clause-fault : goal.returns-in-Some-clause-fault
returns-in-Some-clause-fault g c = λ p s. not_due c.args.block.now (kept_of c.args.modules.now) p s.keeps c.in-Some.fault (sym c.in-Some.ensures)

pub returns-in_err-check_votes-clause-fault : goal.returns-in_err-check_votes-clause-fault
returns-in_err-check_votes-clause-fault g c = λ p s.
    let r = err_from_is_err_and c.from_residual.result c.from_residual.ensures.1 in
    rw (r.1, r.2) (votes_fault c.args.block.now (kept_of c.args.modules.now) p s.keeps (sym c.in_default.ensures) c.in_err-check_votes.field-0.0
    (subst (λ (l : List Vote). FaultsAs (votes_checked c.args.modules.now.stakes.staking.staked c.args.modules.now.ground.ctx.params.power_reduction [] l) c.in_err-check_votes.field-0.0) c.as_slice-votes.ensures c.in_err-check_votes.ensures.fault))

pub returns-clause-checked : goal.returns-clause-checked
returns-clause-checked g c = λ p s.
    evidence_checks c.args.block.now (kept_of c.args.modules.now) p s.keeps (sym c.in_default.ensures) (subst (λ (l : List Vote). votes_checked c.args.modules.now.stakes.staking.staked c.args.modules.now.ground.ctx.params.power_reduction [] l ≡ Ok tt) c.as_slice-votes.ensures c.in_ok-check_votes.ensures.checked) c.check_evidence.result c.check_evidence.ensures.checked

pub returns-clause-fault : goal.returns-clause-fault
returns-clause-fault g c = λ p s.
    evidence_faults c.args.block.now (kept_of c.args.modules.now) p s.keeps (sym c.in_default.ensures) (subst (λ (l : List Vote). votes_checked c.args.modules.now.stakes.staking.staked c.args.modules.now.ground.ctx.params.power_reduction [] l ≡ Ok tt) c.as_slice-votes.ensures c.in_ok-check_votes.ensures.checked) c.check_evidence.result c.check_evidence.ensures.fault
