-- Worked rows of parameters that change: a window that shrinks and grows, refusals, a tax, and a
-- change that is taken back.
use Rattle.std.specs.Prelude.{◌≡◌, ℕ, ◌*◌, ◌^◌, Bool, true, false, List, [], ◌∷◌, ◌++◌, length, Option, Some, option_map, Ok, codes}
use Rattle.base_coins.specs.Coins.{Money}
use Rattle.base_roles.specs.declared.params.Params.{Params}
use Rattle.base_roles.specs.declared.refusal.Refusal.TheVariants.{NotAuthority, ParamRange, ParamFixed, InsufficientFunds}
use Rattle.base_roles.specs.Staked.{validator_at}
use Rattle.rule_modules.specs.Chain.{State, shared_in, window_in}
use Rattle.rule_modules.specs.Effects.{Effect, refused_at, send}
use Rattle.rule_modules.specs.Fixtures.{addr, user, cons, coins, decimals, params, validates, stakes, Beginning, Block, pays, says, block, signs, misses, after, last_endings}
use Rattle.rule_modules.specs.Parameters.{update_params}
use Rattle.rule_modules.specs.Window.{signing_of, missed_of}
use Rattle.rule_worked.specs.Slashes.{window_of_ten, signed_at, missed_at}

-- the authority replaces the parameters
abbrev pub replaces : Params → Effect
replaces p = update_params (addr 153) p

-- those of the rows of votes, with another window
abbrev pub with_window_of : ℕ → Params
with_window_of n = record (window_of_ten).params { signed_blocks_window = n }

-- how many votes of a validator count, and how many of them were missed
abbrev pub votes_counted : State → Option (ℕ × ℕ)
votes_counted w =
    option_map
    (λ s. (length s.votes, missed_of w.view.ctx.params.signed_blocks_window s.votes))
    (signing_of (window_in w) (cons 1))

-- and whether it is jailed, and its tokens
abbrev pub counted_of : State → Option (ℕ × ℕ) × Option (Bool × ℕ)
counted_of w = (
  votes_counted w,
  option_map (λ v. (v.jailed, v.tokens)) (validator_at w.mine.staked (addr 1)),
)

-- ten signed votes and four missed
abbrev pub fourteen : List Block
fourteen =
    signed_at 1 ∷ signed_at 2 ∷ signed_at 3 ∷ signed_at 4 ∷ signed_at 5
    ∷ signed_at 6 ∷ signed_at 7 ∷ signed_at 8 ∷ signed_at 9 ∷ signed_at 10
    ∷ missed_at 11 ∷ missed_at 12 ∷ missed_at 13 ∷ missed_at 14
    ∷ []

-- a fifth is missed, in whose block the window becomes this one
abbrev pub fifteen_then : ℕ → List Block
fifteen_then n =
    fourteen ++ block 15 (misses 1 1 ∷ []) [] (says (replaces (with_window_of n)) ∷ []) ∷ []

-- a window of 4 keeps the last four votes, all missed
abbrev pub WindowShrinks : Type 0
WindowShrinks =
    after window_of_ten (fifteen_then 4) counted_of ≡ Ok (Some (4, 4), Some (false, 1000000))

-- of which two are allowed: even after a signed vote the validator is punished, and the count
-- begins again
abbrev pub ShrunkIsPunished : Type 0
ShrunkIsPunished =
    after window_of_ten (fifteen_then 4 ++ signed_at 16 ∷ []) counted_of
    ≡ Ok (Some (0, 0), Some (true, 999900))

-- a window of 20 keeps the ten votes that there are
abbrev pub WindowGrows : Type 0
WindowGrows =
    after window_of_ten (fifteen_then 20) counted_of ≡ Ok (Some (10, 5), Some (false, 1000000))

-- and then counts the eleventh
abbrev pub GrownCounts : Type 0
GrownCounts =
    after window_of_ten (fifteen_then 20 ++ signed_at 16 ∷ []) counted_of
    ≡ Ok (Some (11, 5), Some (false, 1000000))

-- ---- refusals

-- one block with these messages
abbrev pub one_block : List Effect → List Block
one_block effects = block 1 [] [] (pays 0 0 effects ∷ []) ∷ []

-- no validator in the set, and another bond denomination: refused for the first, whose range comes
-- before what never changes
abbrev pub none_bonded : Params
none_bonded = record params { max_validators = 0; bond_denom = codes "ustake" }

abbrev pub OutOfRange : Type 0
OutOfRange =
    last_endings window_of_ten (one_block (replaces none_bonded ∷ []))
    ≡ Ok (refused_at 0 (ParamRange 13) ∷ [])

-- another bond denomination alone
abbrev pub other_bond : Params
other_bond = record params { bond_denom = codes "ustake" }

abbrev pub Fixed : Type 0
Fixed =
    last_endings window_of_ten (one_block (replaces other_bond ∷ []))
    ≡ Ok (refused_at 0 (ParamFixed 10) ∷ [])

-- somebody else may not
abbrev pub NotByOthers : Type 0
NotByOthers =
    last_endings window_of_ten (one_block (update_params (addr 3) none_bonded ∷ []))
    ≡ Ok (refused_at 0 NotAuthority ∷ [])

-- ---- what follows sees the new ones

-- all fees go to the community pool from then on
abbrev pub taxed : Params
taxed = record params { community_tax = 10 ^ 18 }

abbrev pub all_tax : List Block
all_tax =
    block 1 [] [] (pays 9 0 (replaces taxed ∷ []) ∷ pays 9 100 [] ∷ [])
    ∷ block 2 (signs 1 1 ∷ []) [] []
    ∷ []

-- one validator, and somebody with 100
abbrev pub with_fees : Beginning
with_fees = record {
  params = params;
  holdings = (9, 100) ∷ [];
  validators = validates 1 0 ∷ [];
  stakes = stakes 1 1 1000000 ∷ [];
}

abbrev pub pool_of : State → Money
pool_of w = (shared_in w).purses.pool

abbrev pub TaxOfAll : Type 0
TaxOfAll = after with_fees all_tax pool_of ≡ Ok (decimals (100 * 10 ^ 18))

-- ---- a change that is taken back

-- the window shrinks, and the next message of the transaction is refused
abbrev pub shrinks_and_sends : List Effect
shrinks_and_sends = replaces (with_window_of 4) ∷ send (addr 3) (user 4) (coins 1) ∷ []

abbrev pub fifteen_then_refused : List Block
fifteen_then_refused =
    fourteen ++ block 15 (misses 1 1 ∷ []) [] (pays 0 0 shrinks_and_sends ∷ []) ∷ []

abbrev pub window_at_end : State → ℕ
window_at_end w = w.view.ctx.params.signed_blocks_window

abbrev pub ChangeIsTakenBack : Type 0
ChangeIsTakenBack =
    (after window_of_ten fifteen_then_refused counted_of ≡ Ok (Some (15, 5), Some (false, 1000000)))
    × (after window_of_ten fifteen_then_refused window_at_end ≡ Ok 10)

abbrev pub RefusedBehindIt : Type 0
RefusedBehindIt =
    last_endings window_of_ten fifteen_then_refused ≡ Ok (refused_at 1 InsufficientFunds ∷ [])
