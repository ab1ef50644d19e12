-- Keys that begin with an operator, in an order that keeps those of one operator together.
use Rattle.std.specs.Prelude.{◌≡◌, ℕ, true, false, List}
use Rattle.std.specs.declared.cmp.Ordering.{Ordering}
use Rattle.std.specs.declared.cmp.Ordering.TheVariants.{Less, Equal}
use Rattle.std.specs.Ordering.{is_gt}
use Rattle.base_roles.specs.Orders.{same_addr}

-- No key of an operator is below the first one, what stands between two keys of an operator is of that operator, and keys
-- that tie are of one operator.
pub record IsGrouped {K : Type 0} (cmp : K → K → Ordering) (operator_of : K → List ℕ) (first_of : List ℕ → K) : Type 0 where
  pub least : (operator : List ℕ) (k : K) → same_addr (operator_of k) operator ≡ true → is_gt (cmp (first_of operator) k) ≡ false
  pub together : (operator : List ℕ) (x k : K) → is_gt (cmp (first_of operator) x) ≡ false → cmp x k ≡ Less → same_addr (operator_of k) operator ≡ true → same_addr (operator_of x) operator ≡ true
  pub alike : (k x : K) → cmp k x ≡ Equal → operator_of k ≡ operator_of x
