-- What an answer unfolds to compute the texts of this crate on literals.
use Rattle.std.specs.Prelude.{⊤}
use Rattle.hex.proofs.OnLiterals.{hex_on_literals}
use Rattle.jiff_core.specs.Calendar.{days_of_years, days_of_months, day_count, days_from_civil}
use Rattle.base_types.specs.{Calendar.date_of, Moment.{day_at, second_at, moment_of, moment_text}}

unfoldable pub types_on_literals : ⊤
unfolding hex_on_literals days_of_years days_of_months day_count days_from_civil date_of day_at second_at moment_of moment_text
types_on_literals = tt
