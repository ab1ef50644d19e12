-- Worked rows of sends.
use Rattle.std.specs.Prelude.{◌≡◌, ℕ, List, [], ◌∷◌, replicate, codes, Some, None}
use Rattle.base_types.specs.declared.account.Account.TheVariants as account
use Rattle.base_types.specs.declared.account.Module.TheVariants.{Bonded}
use Rattle.base_roles.specs.declared.refusal.Refusal.TheVariants.{NonPositive, ModuleRecipient, InsufficientFunds}
use Rattle.base_roles.specs.Holdings.{Holdings, moved}
use Rattle.mod_bank.specs.Given.{held_by}
use Rattle.mod_bank.specs.Sending.{send_refusal}

abbrev pub alice : List ℕ
alice = replicate 20 7

abbrev pub bob : List ℕ
bob = replicate 20 9

-- alice holds 3 stake and 10 uatom, and bob 5 uatom
abbrev pub at_first : Holdings
at_first = held_by ((account.User bob, (codes "uatom", 5) ∷ []) ∷ (account.User alice, (codes "stake", 3) ∷ (codes "uatom", 10) ∷ []) ∷ [])

-- each account holds its coins, and the supplies are their sums
abbrev pub EachHoldsItsCoins : Type 0
EachHoldsItsCoins = at_first ≡ record {
  balances = ((account.User alice, codes "stake"), 3) ∷ ((account.User alice, codes "uatom"), 10) ∷ ((account.User bob, codes "uatom"), 5) ∷ [];
  supplies = (codes "stake", 3) ∷ (codes "uatom", 15) ∷ [];
}

-- alice sends all her stake and 4 uatom to bob
abbrev pub TwoCoinsMove : Type 0
TwoCoinsMove = moved (account.User alice) (account.User bob) ((codes "stake", 3) ∷ (codes "uatom", 4) ∷ []) at_first ≡ record {
  balances = ((account.User alice, codes "uatom"), 6) ∷ ((account.User bob, codes "stake"), 3) ∷ ((account.User bob, codes "uatom"), 9) ∷ [];
  supplies = (codes "stake", 3) ∷ (codes "uatom", 15) ∷ [];
}

-- to herself nothing moves
abbrev pub NothingMoves : Type 0
NothingMoves = moved (account.User alice) (account.User alice) ((codes "stake", 3) ∷ (codes "uatom", 4) ∷ []) at_first ≡ at_first

-- a payer of 5 is short of 6 and not of 5
abbrev pub PayerIsShort : Type 0
PayerIsShort = send_refusal at_first bob (account.User alice) ((codes "uatom", 6) ∷ []) ≡ Some InsufficientFunds

abbrev pub PayerIsNotShort : Type 0
PayerIsNotShort = send_refusal at_first bob (account.User alice) ((codes "uatom", 5) ∷ []) ≡ None

-- a module receives nothing, also from a payer who is short
abbrev pub ModuleReceivesNothing : Type 0
ModuleReceivesNothing = send_refusal at_first bob (account.Module Bonded) ((codes "uatom", 6) ∷ []) ≡ Some ModuleRecipient

-- no coins are refused first
abbrev pub NoCoins : Type 0
NoCoins = send_refusal at_first bob (account.Module Bonded) [] ≡ Some NonPositive
