use Rattle.std.proofs.Common.{refl}
use Rattle.line_json.proofs.ReadingOnLiterals.{reading_on_literals}
use Rattle.law_lines.proofs.laws.lines_read_by_example.Goals as goal

pub returns-clause-told : goal.returns-clause-told
unfolding reading_on_literals
returns-clause-told c = record { run = refl; burn = refl; order = refl; paid = refl }

pub returns-clause-nothing : goal.returns-clause-nothing
unfolding reading_on_literals
returns-clause-nothing c = record { outcome = refl; no_amount = refl; no_height = refl; no_module = refl; no_json = refl }
