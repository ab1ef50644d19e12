-- The summary of a trial is that of the lines of the generated input.
use Rattle.std.proofs.Common.{refl}
use Rattle.run_generated.{proofs.ReadLemmas.generated_is_read, specs.Input.{blocks_of, first_genesis}}
use Rattle.run_trial.specs.Generated.{TrialIsOfItsLines}

pub trial_is_of_its_lines : TrialIsOfItsLines
trial_is_of_its_lines f seed many l = record { genesis = first_genesis; blocks = blocks_of seed many; reading = generated_is_read f seed many l; outcome_is = refl }
