-- Worked statements, each by computing.
use Rattle.std.specs.Prelude.{◌≡◌, ℕ, ◌*◌, ◌^◌, List, [], ◌∷◌, ◌++◌, map, Ok, Err}
use Rattle.base_decimals.specs.Decimals.{quotient_over, sum_over}
use Rattle.rule_modules.specs.Fixtures.{addr, decimals}
use Rattle.mod_statement.specs.declared.entry.Entry.{Entry}
use Rattle.mod_statement.specs.declared.entry.Entry.TheVariants.{Started, Allocated, Ended, Slashed}
use Rattle.mod_statement.specs.declared.bounds.Bounds.{Bounds}
use Rattle.mod_statement.specs.declared.fault.StatementFault.TheVariants as fault
use Rattle.mod_statement.specs.declared.statement.Statement.{Statement}
use Rattle.mod_statement.specs.Bounds.{bounds_of}
use Rattle.mod_statement.specs.Answers.{IsRight, stated}

-- bounds in uatom
abbrev pub in_uatom : ℕ → ℕ → ℕ → Bounds
in_uatom low high slack = record {
  low = decimals low;
  high = decimals high;
  slack = decimals slack;
}

-- ---- one period

-- a delegation of 2,000,000 of 3,000,000 shares, with as many tokens; fees come once, and its
-- withdrawal ends the period
abbrev pub one_period : ℕ → List Entry
one_period fees =
    Started (2000000 * 10 ^ 18) 3000000 (3000000 * 10 ^ 18)
    ∷ Allocated (decimals fees) 3000000
    ∷ Ended
    ∷ []

-- Of fees of 882 behind commission two thirds are 588. The slack is 2,000,001 for one end of a
-- period, 588.000294 for the ratio of 0.000294, and that ratio twice: together 2,000,589.000882
-- units, rounded up.
abbrev pub WithCommission : Type 0
WithCommission =
    bounds_of (one_period (882 * 10 ^ 18)) 0 (decimals (294 * 10 ^ 12))
    ≡ Ok (in_uatom (588 * 10 ^ 18) (588 * 10 ^ 18) 2000590)

-- the bounds of fees of 1,000
abbrev pub thirds : Bounds
thirds = in_uatom 666666666666666666666 666666666666666666667 2000668

-- two thirds of 1,000, rounded down and rounded up
abbrev pub WithoutCommission : Type 0
WithoutCommission = bounds_of (one_period (1000 * 10 ^ 18)) 0 (decimals 333333333333333) ≡ Ok thirds

-- the statement of the withdrawal of a reward of these fees
abbrev pub of_thirds : ℕ → Statement
of_thirds reward =
    stated (addr 2) (addr 1) 2 (decimals reward) 0 (decimals 333333333333333)
    (one_period (1000 * 10 ^ 18)) thirds

-- the reward by the rounded ratio is right, and one of 667 is not
abbrev pub RewardOfThirds : Type 0
RewardOfThirds =
    IsRight (of_thirds 666666666666666000000) thirds
    × (IsRight (of_thirds (667 * 10 ^ 18)) thirds → ⊥)

-- ---- a slash

-- A delegation of 950,000 of 2,000,000 shares; a slash of 100,000 of 1,950,000 tokens, and behind
-- it fees of 1,850.
abbrev pub behind_a_slash : List Entry
behind_a_slash =
    Started (950000 * 10 ^ 18) 2000000 (2000000 * 10 ^ 18)
    ∷ Ended
    ∷ Slashed 100000 1950000
    ∷ Allocated (decimals (1850 * 10 ^ 18)) 1850000
    ∷ Ended
    ∷ []

-- The ideal reward is 1,850 * 950,000 / 1,950,000, which is 901.282051282051282051.. The slack is
-- 950,001 for the first stretch, 951,901.002 for the second, its ratio of 0.001 twice, and once for
-- a removal of shares before.
abbrev pub BehindASlash : Type 0
BehindASlash =
    bounds_of behind_a_slash 1 (decimals (10 ^ 15))
    ≡ Ok (in_uatom 901282051282051282051 901282051282051282052 1901903)

-- ---- no statement

-- Entries that end with a slash, that have a second start, or whose start has more shares than all
-- are no span.
abbrev pub NoSpans : Type 0
NoSpans =
    (bounds_of (Started 1 1 1 ∷ Ended ∷ Slashed 1 1 ∷ []) 0 [] ≡ Err fault.NoSpan)
    × (bounds_of (Started 1 1 1 ∷ Started 1 1 1 ∷ Ended ∷ []) 0 [] ≡ Err fault.NoSpan)
    × (bounds_of (Started 2 1 1 ∷ Ended ∷ []) 0 [] ≡ Err fault.NoSpan)
    × (bounds_of (Started 1 1 1 ∷ []) 0 [] ≡ Err fault.NoSpan)
    × (bounds_of [] 0 [] ≡ Err fault.NoSpan)

-- one whole share of one token, and what is allocated to it
abbrev pub alone : List ℕ → List Entry
alone fees = Started (10 ^ 18) 1 (10 ^ 18) ∷ map (λ n. Allocated (decimals n) 1) fees ++ Ended ∷ []

-- The low bound is over before the high one; of the slack, the product of the rate and twice the
-- stake is.
abbrev pub FirstOver : Type 0
FirstOver =
    (bounds_of (alone (9 * 10 ^ 37 ∷ 9 * 10 ^ 37 ∷ [])) 0 []
    ≡ Err (fault.Over (sum_over (9 * 10 ^ 37) (9 * 10 ^ 37))))
    × (bounds_of (alone (6 * 10 ^ 37 ∷ [])) 0 []
    ≡ Err (fault.Over (quotient_over (2 * 10 ^ 18) (6 * 10 ^ 37) (10 ^ 18))))
