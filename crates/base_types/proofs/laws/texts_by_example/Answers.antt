use Rattle.std.proofs.Common.{refl}
use Rattle.base_types.proofs.OnLiterals.{types_on_literals}
use Rattle.base_types.proofs.laws.texts_by_example.Goals as goal

pub returns : goal.returns
unfolding types_on_literals
returns c = record {
  first = refl;
  leap_day = refl;
  last = refl;
  zeros = refl;
  no_day = refl;
  no_hour = refl;
  no_year = refl;
  no_digit = refl;
  ten_digits = refl;
  capital = refl;
  short = refl;
  module_address = refl;
  no_user = refl;
  shortest = refl;
  too_short = refl;
  digit_first = refl;
  other_character = refl;
}
