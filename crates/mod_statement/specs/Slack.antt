-- How far a reward may lie below the low bound, in one denomination: a unit times one factor, each
-- quotient and product in it rounded up. The factor is that of the slack of an ideal reward, and
-- what all rewards of the validator may be short of.
use Rattle.std.specs.Prelude.{ℕ, ◌+◌, ◌^◌, ◌==◌, if◌then◌else◌, List, [], ◌∷◌, count_by, not, Result, Ok}
use Rattle.std.specs.List.{take_while}
use Rattle.std.specs.BTreeSet.{insert_key}
use Rattle.base_decimals.specs.declared.over.Over.{Over}
use Rattle.base_decimals.specs.Rounding.{up}
use Rattle.base_decimals.specs.Decimals.{add_of}
use Rattle.base_types.specs.Orders.{denom_cmp}
use Rattle.base_coins.specs.Coins.{Money, amount_of, sorted_coins}
use Rattle.base_coins.specs.Steps.{◌>>=◌}
use Rattle.mod_statement.specs.declared.entry.Entry.{Entry}
use Rattle.mod_statement.specs.declared.entry.Entry.TheVariants.{Allocated}
use Rattle.mod_statement.specs.declared.slack.Factor.{Factor}
use Rattle.mod_statement.specs.Rounding.{quotient_up_of, product_of}
use Rattle.mod_statement.specs.Entries.{is_end, is_slash, is_touch}

-- ---- one stretch: the entries up to the next slash

abbrev pub first_stretch : List Entry → List Entry
first_stretch es = take_while (λ e. not (is_slash e)) es

-- what an entry gives to one token
abbrev pub given : List ℕ → Entry → ℕ
given d (Allocated coins tokens) = if tokens == 0 then 0 else up (amount_of coins d) tokens
given d _ = 0

-- what entries give to one token, behind what was given already
abbrev pub rate_of : List ℕ → ℕ → List Entry → Result ℕ Over
rate_of d rate [] = Ok rate
rate_of d rate (e ∷ es) = do
  next ← add_of rate (given d e)
  rate_of d next es

-- ---- the factor

-- one, as a decimal
abbrev one : ℕ
one = 10 ^ 18

-- The factor with a stretch of this number: one, the first stake for each ended period, and the
-- number times one more than the first stake for the rate; and its rate, as the last one.
abbrev pub with_stretch : List ℕ → ℕ → ℕ → List Entry → Factor → Result Factor Over
with_stretch d first number stretch f = do
  ended ← product_of first (count_by is_end stretch)
  alone ← add_of one ended
  more ← add_of one first
  weight ← product_of more number
  rate ← rate_of d 0 stretch
  spread ← quotient_up_of weight rate one
  part ← add_of alone spread
  sum ← add_of f.sum part
  Ok (record { sum = sum; rate = rate })

-- the factor behind an entry, which may be a slash: then with the stretch that follows it, of the
-- next number
abbrev pub factor_after : List ℕ → ℕ → ℕ → Entry → List Entry → Factor → Result Factor Over
factor_after d first number e rest f =
    if is_slash e then with_stretch d first (number + 1) (first_stretch rest) f else Ok f

-- the number of the stretch behind an entry
abbrev pub number_after : ℕ → Entry → ℕ
number_after number e = if is_slash e then number + 1 else number

-- the factor behind all entries
abbrev pub later_stretches : List ℕ → ℕ → ℕ → Factor → List Entry → Result Factor Over
later_stretches d first number f [] = Ok f
later_stretches d first number f (e ∷ es) = do
  next ← factor_after d first number e es f
  later_stretches d first (number_after number e) next es

-- the factor of all stretches, with the rate of the last
abbrev pub stretches_of : List ℕ → ℕ → List Entry → Result Factor Over
stretches_of d first entries = do
  one_stretch ← with_stretch d first 1 (first_stretch entries) (record { sum = 0; rate = 0 })
  later_stretches d first 1 one_stretch entries

-- ---- the slack

-- The slack in a denomination, in units: the last rate counts once more for each removal of shares
-- in the span, of which there is at most one more than entries of shares that are about to change,
-- and once; and all removals since the validator was created may each cost the last ratio.
abbrev pub slack_in : List ℕ → ℕ → List Entry → ℕ → Money → Result ℕ Over
slack_in d first entries removals ratio = do
  f ← stretches_of d first entries
  clamped ← product_of f.rate (count_by is_touch entries + 2)
  within ← add_of f.sum clamped
  overclaim ← product_of (amount_of ratio d) removals
  all ← add_of within overclaim
  Ok (up all one)

-- ---- the denominations

-- denominations in ascending order with those of coins
abbrev pub denoms_with : List (List ℕ) → Money → List (List ℕ)
denoms_with ds [] = ds
denoms_with ds (c ∷ cs) = denoms_with (insert_key denom_cmp ds c.0) cs

-- with those of all allocations
abbrev pub denoms_over : List (List ℕ) → List Entry → List (List ℕ)
denoms_over ds [] = ds
denoms_over ds (Allocated coins tokens ∷ es) = denoms_over (denoms_with ds coins) es
denoms_over ds (e ∷ es) = denoms_over ds es

-- the denominations of a slack: those of the ratio and of all allocations
abbrev pub denoms_of : Money → List Entry → List (List ℕ)
denoms_of ratio entries = denoms_over (denoms_with [] ratio) entries

-- each denomination with its slack, in their order
abbrev pub slacks_of : ℕ → List Entry → ℕ → Money → List (List ℕ) → Result Money Over
slacks_of first entries removals ratio [] = Ok []
slacks_of first entries removals ratio (d ∷ ds) = do
  slack ← slack_in d first entries removals ratio
  rest ← slacks_of first entries removals ratio ds
  Ok ((d, slack) ∷ rest)

-- the slack of a statement, denomination by denomination
abbrev pub slack_coins : ℕ → List Entry → ℕ → Money → Result Money Over
slack_coins first entries removals ratio = do
  slacks ← slacks_of first entries removals ratio (denoms_of ratio entries)
  Ok (sorted_coins slacks)
