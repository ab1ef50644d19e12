use Rattle.rule_modules.proofs.TieLemmas.{references_after_end, references_after_start, references_after_event}
use Rattle.rule_modules.proofs.laws.references_follow_the_records.Goals as goal

pub returns : goal.returns
returns c = record { ended = references_after_end; started = references_after_start; slashed = references_after_event }
