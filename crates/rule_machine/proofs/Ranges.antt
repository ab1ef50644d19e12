-- The test of ranges tells them.
use Rattle.std.proofs.Common.{◌≡◌, ℕ, true, Option, Some, None, refl, is_none}
use Rattle.base_roles.proofs.RangeLemmas as ranges
use Rattle.base_roles.specs.{declared.params.Params.Params, Ground.AreInRange, Ranges.out_of_range}
use Rattle.rule_machine.specs.Genesis.{are_in_range}

none_is : (r : Option ℕ) → is_none r ≡ true → r ≡ None
none_is None e = refl
none_is (Some n) e = absurd cc

pub in_range : (p : Params) → are_in_range p ≡ true → AreInRange p
in_range p e = ranges.in_range p (none_is (out_of_range p) e)
