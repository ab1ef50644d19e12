use Rattle.std.proofs.Common.{◌∙◌}
use Rattle.store_records.specs.Plain.{shared_seen}
use Rattle.store_soundness.proofs.CountLemmas.{counted}
use Rattle.store_soundness.proofs.histories.have_counts.Goals as goal

pub returns : goal.returns
returns c = c.have_numbers.ensures ∙ counted (shared_seen c.args.shared.now) _ c.in_ok-counts.ensures
