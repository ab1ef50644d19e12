use Rattle.std.proofs.Common.{ℕ, ◌+◌, ◌*◌, ◌^◌, ◌≤◌, true, false, cond, List, refl, arith, Some, None, unwrap_or}
use Rattle.std.specs.BTreeMap.{is_at}
use Rattle.base_types.specs.Orders.{denom_cmp}
use Rattle.base_coins.specs.Coins.{amount_of}
use Rattle.rule_modules.specs.Fixtures.{decimals, uatom}
use Rattle.mod_statement.proofs.worked.reward_of_thirds.Goals as goal

-- amounts of one denomination
at_most : (d : List ℕ) (a b : ℕ) → a ≤ b → amount_of (decimals a) d ≤ amount_of (decimals b) d
at_most d a b h =
    elim (is_at (denom_cmp d) uatom) as (λ t. unwrap_or (cond t (Some a) None) 0 ≤ unwrap_or (cond t (Some b) None) 0) [ true ↦ h | false ↦ omega arith ]

at_least : (d : List ℕ) (a b c : ℕ) → a ≤ b + c → amount_of (decimals a) d ≤ amount_of (decimals b) d + amount_of (decimals c) d
at_least d a b c h =
    elim (is_at (denom_cmp d) uatom) as (λ t. unwrap_or (cond t (Some a) None) 0 ≤ unwrap_or (cond t (Some b) None) 0 + unwrap_or (cond t (Some c) None) 0) [ true ↦ h | false ↦ omega arith ]

pub returns : goal.returns
returns c = (
  record {
    low_is = refl;
    high_is = refl;
    slack_is = refl;
    at_most = λ d. at_most d 666666666666666000000 666666666666666666667 (omega arith);
    at_least = λ d. at_least d 666666666666666666666 666666666666666000000 2000668 (omega arith);
  },
  λ right. let more : 667 * 10 ^ 18 ≤ 666666666666666666667 = right.at_most uatom in absurd (omega arith),
)
