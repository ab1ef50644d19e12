use Rattle.std.proofs.Common.{◌≡◌, ◌-◌, ◌/◌, ◌^◌, ◌≤◌, length, drop}
use Rattle.base_decimals.specs.Texts.{last_digits}
use Rattle.base_decimals.proofs.text.write_digits.Given as goal

-- the places from here on are written
abbrev pub invariant-loop-place : goal.invariant-loop-place
invariant-loop-place l = record {
  within : l.place ≤ length l.out;
  rest : l.rest ≡ l.value / 10 ^ (length l.out - l.place);
  written : drop l.place l.out ≡ last_digits (length l.out - l.place) l.value;
}

abbrev pub decreases-loop-place : goal.decreases-loop-place
decreases-loop-place l = l.place
