-- The fraction that is recorded of a burn.
use Rattle.std.proofs.Common.{◌≡◌, ◌∙◌, ℕ, ◌*◌, ◌^◌, ◌<◌, ◌≤◌, Bool, true, false, cond, sym, arith, nat_lt, min, Result, Ok, Err}
use Rattle.base_decimals.specs.{declared.over.Over.Over, Decimals.{quotient_over, whole_of, quo_up_of}}
use Rattle.base_shares.{specs.Burns.recorded_fraction, proofs.Fractions.{fraction_fits, fraction_most}}
use Rattle.rule_modules.specs.Slashing.{slash_fraction}

-- a number that is given
abbrev as_result : ℕ → Result ℕ Over
as_result n = Ok n

ok_is : (a b : ℕ) → as_result a ≡ as_result b → a ≡ b
ok_is a b e = cc

-- the decimal of a whole number has so many units
pub whole-is : (n m : ℕ) → whole_of n ≡ Ok m → m ≡ n * 10 ^ 18
whole-is n m e = by (nat_lt (n * 10 ^ 18) (10 ^ 38)) e
  where
    by : (b : Bool) → cond b (Ok (n * 10 ^ 18)) (Err (quotient_over n (10 ^ 18) 1)) ≡ Ok m → m ≡ n * 10 ^ 18
    by true f = sym (ok_is (n * 10 ^ 18) m f)
    by false f = absurd cc

module _ (burned tokens : ℕ) (r : Result ℕ Over) (within : burned ≤ tokens) (some : 0 < tokens) (told : r ≡ quo_up_of (burned * 10 ^ 18) (tokens * 10 ^ 18)) where
  pub quotient-is : r ≡ Ok (recorded_fraction burned tokens)
  quotient-is = told ∙ fraction_fits burned tokens within some

  least : (x : ℕ) → x ≤ 10 ^ 18 → min (10 ^ 18) x ≡ x
  least x p = omega (arith, p)

  -- it is what the rule records
  pub fraction-is : (x : ℕ) → r ≡ Ok x → x ≡ slash_fraction burned tokens
  fraction-is x e = ok_is x (recorded_fraction burned tokens) (sym e ∙ quotient-is) ∙ sym (least (recorded_fraction burned tokens) (fraction_most burned tokens within some))

  -- and at most one
  pub fraction-few : (x : ℕ) → r ≡ Ok x → x ≤ 10 ^ 18
  fraction-few x e = let is = ok_is x (recorded_fraction burned tokens) (sym e ∙ quotient-is) in let few = fraction_most burned tokens within some in omega (arith, is, few)
