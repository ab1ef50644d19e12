use Rattle.base_bech32.proofs.ResidueLemmas.{step_taken, step_below}
use Rattle.base_bech32.proofs.residue.step.Goals as goal

pub returns-clause-step : goal.returns-clause-step
returns-clause-step c = step_taken c.args.residue c.args.value c.requires.residue

pub returns-clause-below : goal.returns-clause-below
returns-clause-below c = step_below c.args.residue c.args.value c.requires.value
