-- What issuing gives.
use Rattle.std.proofs.Common.{◌≡◌, ℕ, ◌+◌, ◌*◌, ◌^◌, ◌<◌, ◌≤◌, Ok, arith}
use Rattle.std.proofs.lemmas.Grind.{common_steps}
use Rattle.base_decimals.specs.Rounding.{cut}
use Rattle.base_shares.specs.{Shares.{issued_shares, shares_for_amount}, Laws.IssueNeverLowers}
use Rattle.base_shares.proofs.Roundings.{cut_low}

-- the first shares, and later ones
pub issued_first : (tokens amount issued : ℕ) → issued_shares tokens 0 amount ≡ Ok issued → issued ≡ amount * 10 ^ 18
issued_first tokens amount issued e = grind (arith, common_steps)

pub issued_later : (tokens shares amount issued : ℕ) → 0 < tokens → 0 < shares → issued_shares tokens shares amount ≡ Ok issued
    → issued ≡ cut (shares * amount) tokens
issued_later tokens shares amount issued some more e = grind (arith, common_steps)

-- what they are of the amount is at most what it is of the tokens
pub issued_most : (tokens shares amount issued : ℕ) → 0 < tokens → 0 < shares → issued_shares tokens shares amount ≡ Ok issued
    → tokens * (shares + issued) ≤ (tokens + amount) * shares
issued_most tokens shares amount issued some more e =
    rw (issued_later tokens shares amount issued some more e) (omega (arith, cut_low (shares * amount) tokens some))

pub issue_never_lowers : IssueNeverLowers
issue_never_lowers = λ tokens shares amount issued some more e.
    let kept : tokens * (shares + issued) ≤ (tokens + amount) * shares = issued_most tokens shares amount issued some more e in kept
