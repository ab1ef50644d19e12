-- The entries of a statement: which are a span, and the two values of the stake along it. Stakes,
-- shares and amounts are decimals, each as its number of units of 10^-18; tokens are whole.
use Rattle.std.specs.Prelude.{◌≡◌, ℕ, All, ◌-◌, ◌*◌, ◌^◌, ◌&&◌, Bool, true, false, nat_lt, nat_le, if◌then◌else◌, List, [], ◌∷◌, length, slice_get, Option, Some, None}
use Rattle.std.specs.List.{list_all}
use Rattle.base_decimals.specs.Rounding.{cut, up}
use Rattle.base_coins.specs.Coins.{IsMoney}
use Rattle.mod_statement.specs.declared.entry.Entry.{Entry}
use Rattle.mod_statement.specs.declared.entry.Entry.TheVariants.{Started, Allocated, Ended, Slashed, Touched}
use Rattle.mod_statement.specs.declared.stakes.Stakes.{Stakes}

-- ---- the stake, rounded down and rounded up

-- what shares of all are worth of tokens
abbrev pub stakes_worth : ℕ → ℕ → ℕ → Stakes
stakes_worth shares tokens total = record {
  lower = cut (tokens * 10 ^ 18 * shares) total;
  upper = up (tokens * 10 ^ 18 * shares) total;
}

-- The stake at a start of some shares, at most all, with at most 10^18 tokens; none at anything
-- else.
abbrev pub stakes_at : Entry → Option Stakes
stakes_at (Started shares tokens total) =
    if nat_lt 0 shares && nat_le shares total && nat_le tokens (10 ^ 18)
    then Some (stakes_worth shares tokens total)
    else None
stakes_at _ = None

-- a slash leaves of the stake the part that it leaves of the tokens
abbrev pub stakes_slashed : ℕ → ℕ → Stakes → Stakes
stakes_slashed burned tokens s = record {
  lower = cut (s.lower * (tokens - burned)) tokens;
  upper = up (s.upper * (tokens - burned)) tokens;
}

-- ---- the kinds of entries

abbrev pub is_slash : Entry → Bool
is_slash (Slashed burned tokens) = true
is_slash _ = false

-- the end of a period
abbrev pub is_end : Entry → Bool
is_end Ended = true
is_end _ = false

-- shares that are about to change
abbrev pub is_touch : Entry → Bool
is_touch Touched = true
is_touch _ = false

-- ---- a span

-- what may stand behind the start: no other start; tokens are at most 10^18, and a slash burns at
-- most them
abbrev pub is_behind : Entry → Bool
is_behind (Started shares tokens total) = false
is_behind (Allocated coins tokens) = nat_le tokens (10 ^ 18)
is_behind (Slashed burned tokens) =
    nat_lt 0 tokens && nat_le tokens (10 ^ 18) && nat_le burned tokens
is_behind Ended = true
is_behind Touched = true

-- the coins of an allocation are a list of coins, as every such list is
abbrev pub HasMoney : Entry → Type 0
HasMoney (Allocated coins tokens) = IsMoney coins
HasMoney _ = Unit {0}

-- all of them may
abbrev pub AreBehind : List Entry → Type 0
AreBehind es = All (λ e. is_behind e ≡ true) es

-- there is a last entry, and it is the end of a period
abbrev pub is_ended_by : Option Entry → Bool
is_ended_by (Some e) = is_end e
is_ended_by None = false

-- entries behind a start, the last of which ends a period
abbrev pub is_rest : List Entry → Bool
is_rest es = list_all is_behind es && is_ended_by (slice_get es (length es - 1))

-- The stake at the start of a span, and the entries behind it; none where the entries are no span:
-- a start stands first and nowhere else, and the end of a period last.
abbrev pub span_from : Option Stakes → List Entry → Option (Stakes × List Entry)
span_from (Some start) rest = if is_rest rest then Some (start, rest) else None
span_from None rest = None

abbrev pub span_of : List Entry → Option (Stakes × List Entry)
span_of [] = None
span_of (first ∷ rest) = span_from (stakes_at first) rest
