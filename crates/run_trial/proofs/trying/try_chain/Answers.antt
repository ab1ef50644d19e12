use Rattle.std.proofs.lemmas.Result.{IfOk-weaker}
use Rattle.rule_machine.specs.GenesisState.{chain_started}
use Rattle.run_generated.specs.Input.{first_genesis}
use Rattle.run_trial.proofs.TryingLemmas.{stopped_so, summed_up}
use Rattle.run_trial.proofs.trying.try_chain.Goals as goal

pub returns-in-Err-clause-fault : goal.returns-in-Err-clause-fault
returns-in-Err-clause-fault c =
    let s = c.requires.started in
    stopped_so (chain_started first_genesis) s.start c.args.seed c.args.count s.started _ (c.in-Err.ensures.err s.start s.started s.stands)

pub returns-in-Ok-clause-summary : goal.returns-in-Ok-clause-summary
returns-in-Ok-clause-summary c =
    let s = c.requires.started in
    let e = c.in-Ok.ensures.ok s.start s.started s.stands in
    IfOk-weaker c.summary_of.result _ _
    (λ text told. summed_up (chain_started first_genesis) s.start c.args.seed c.args.count s.started _ _ text.items e told)
    (c.summary_of.ensures.line _ e.stands)
