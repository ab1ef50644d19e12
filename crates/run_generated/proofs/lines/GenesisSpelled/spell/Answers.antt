use Rattle.run_generated.proofs.TokenLemmas.{genesis_told}
use Rattle.run_generated.proofs.lines.GenesisSpelled.spell.Goals as goal

pub returns-clause-ok : goal.returns-clause-ok
returns-clause-ok c =
    genesis_told c.args.form c.args.self.now _ _ _ _ _ _ _ _ _ _ _ _ _ c.as_slice.ensures c.as_slice-2.ensures c.as_slice-3.ensures
    c.in_ok-begin_object.ensures.ok c.in_ok-push_named_list.ensures.ok c.in_ok-push_named_list-2.ensures.ok c.in_ok-push_kind.ensures.ok
    c.in_ok-key.ensures.ok c.in_ok-push_params.ensures.ok c.in_ok-push_time.ensures.ok c.in_ok-push_named_list-3.ensures.ok c.in_ok-end_object.ensures.ok
