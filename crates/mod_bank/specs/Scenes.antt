-- The tables that changes act on, and what each leaves of them whatever it answers.
use Rattle.std.specs.Prelude.{◌≡◌, ◌≤◌, ℕ, true, List, Result, OnOk, OnErr}
use Rattle.base_types.specs.declared.account.Account.{Account}
use Rattle.base_roles.specs.Holdings.{Holdings, IsBacked, balance_of}
use Rattle.mod_bank.specs.Booked.{Booked, holding, spent_now}

-- An account can pay an amount: the scene of a change that takes it.
pub record Affords (h : Holdings) (who : Account) (denom : List ℕ) (amount : ℕ) : Type 0 where
  -- no more is held than there is, and there is no more than the bound
  pub backed : IsBacked h
  -- the account has it
  pub enough : amount ≤ balance_of h who denom

-- What a change leaves whatever it answers: these holdings, or where memory is wanting those that
-- stood.
pub record Changes {A E : Type 0} (h : Holdings) (old new : Booked) (answer : Result A E)
    : Type 0 where
  -- where it succeeds, these holdings
  pub ok : OnOk answer (new ≡ holding h old)
  -- where it fails, those that stood, and from now on memory was wanting in a change
  pub err : OnErr answer (new ≡ spent_now old)

-- The same of a change of several entries, of which some may have been made where memory is wanting.
pub record ChangesInPart {A E : Type 0} (h : Holdings) (old new : Booked) (answer : Result A E)
    : Type 0 where
  -- where it succeeds, these holdings
  pub ok : OnOk answer (new ≡ holding h old)
  -- where it fails, marks and what was settled stay, and from now on memory was wanting in a change
  pub err : OnErr answer (new ≡ record old { holdings = new.holdings; spent = true })
