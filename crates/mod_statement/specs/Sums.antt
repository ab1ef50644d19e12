-- The two bounds of the ideal reward, by the entries of a span: of each allocation the part of the
-- stake in the tokens, as it is due by the lower stake, cut, and by the upper one, rounded up. What
-- is over first is the answer.
use Rattle.std.specs.Prelude.{ℕ, ◌*◌, ◌^◌, ◌==◌, if◌then◌else◌, List, [], ◌∷◌, Result, Ok}
use Rattle.base_decimals.specs.declared.over.Over.{Over}
use Rattle.base_coins.specs.Coins.{Money, coin_then, coins_added}
use Rattle.base_coins.specs.Steps.{◌>>=◌}
use Rattle.mod_statement.specs.declared.entry.Entry.{Entry}
use Rattle.mod_statement.specs.declared.entry.Entry.TheVariants.{Allocated, Slashed}
use Rattle.mod_statement.specs.declared.stakes.Stakes.{Stakes}
use Rattle.mod_statement.specs.declared.sums.Sums.{Sums}
use Rattle.mod_statement.specs.Rounding.{quotient_cut_of, quotient_up_of}
use Rattle.mod_statement.specs.Entries.{stakes_slashed}

-- a sum with more of a denomination
abbrev pub more_of : Money → List ℕ → ℕ → Result Money Over
more_of sum d n = coins_added sum (coin_then d n [])

-- an allocated coin, shared by stake: the lower value before the upper
abbrev pub coin_shared : ℕ → Sums → List ℕ × ℕ → Result Sums Over
coin_shared tokens s c = do
  least ← quotient_cut_of c.1 s.stakes.lower (tokens * 10 ^ 18)
  low ← more_of s.low c.0 least
  most ← quotient_up_of c.1 s.stakes.upper (tokens * 10 ^ 18)
  high ← more_of s.high c.0 most
  Ok (record { stakes = s.stakes; low = low; high = high })

-- one denomination after another
abbrev pub coins_shared : ℕ → Sums → Money → Result Sums Over
coins_shared tokens s [] = Ok s
coins_shared tokens s (c ∷ cs) = do
  next ← coin_shared tokens s c
  coins_shared tokens next cs

-- allocated coins, of which nobody has a share without tokens
abbrev pub coins_allocated : ℕ → Sums → Money → Result Sums Over
coins_allocated tokens s coins = if tokens == 0 then Ok s else coins_shared tokens s coins

-- a slash takes its part of the stake
abbrev pub sums_slashed : ℕ → ℕ → Sums → Sums
sums_slashed burned tokens s = record s { stakes = stakes_slashed burned tokens s.stakes }

-- what one more entry makes of the sums
abbrev pub sums_after : Sums → Entry → Result Sums Over
sums_after s (Allocated coins tokens) = coins_allocated tokens s coins
sums_after s (Slashed burned tokens) = Ok (sums_slashed burned tokens s)
sums_after s _ = Ok s

-- what more entries make of them, in their order
abbrev pub sums_over : Sums → List Entry → Result Sums Over
sums_over s [] = Ok s
sums_over s (e ∷ es) = do
  next ← sums_after s e
  sums_over next es

-- no sums yet
abbrev pub no_sums : Stakes → Sums
no_sums start = record { stakes = start; low = []; high = [] }
