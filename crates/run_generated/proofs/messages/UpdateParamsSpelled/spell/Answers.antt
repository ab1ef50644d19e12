use Rattle.run_generated.proofs.TokenLemmas.{update_told}
use Rattle.run_generated.proofs.messages.UpdateParamsSpelled.spell.Goals as goal

pub returns-clause-ok : goal.returns-clause-ok
returns-clause-ok c =
    update_told c.args.form c.args.self.now _ _ _ _ _ _ c.in_ok-begin_object.ensures.ok c.in_ok-push_members.ensures.ok c.in_ok-key.ensures.ok
    c.in_ok-push_params.ensures.ok c.in_ok-end_object.ensures.ok
