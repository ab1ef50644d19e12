-- What a reader of the facts may say of each payment of a reward among them.
use Rattle.std.specs.Prelude.{◌≡◌, ℕ, List, [], ◌∷◌, ◌++◌}
use Rattle.base_coins.specs.Coins.{Money}
use Rattle.base_roles.specs.declared.facts.Fact.{Fact}
use Rattle.base_roles.specs.declared.facts.Fact.TheVariants as fact
use Rattle.base_roles.specs.Log.{Log}
use Rattle.base_roles.specs.Log as log
use Rattle.law_rewards.specs.Withdrawals.{IsFairReward, IsCloseToIdeal, AreFair, IsSent, AreSent, reward_paid, coins_paid, payments_in, payments_of}

-- A payment behind facts is that of a withdrawal among what was logged, which is fair by the log up
-- to it; it is of the smaller of its full reward and what was outstanding, and of the whole coins of
-- that, which were sent right before. These coins are at most the ideal reward, and above it less the
-- slack and one whole coin where what was outstanding was not exhausted.
pub record IsFairlyTold (l more : Log) (before : List Fact) (who operator to : List ℕ) (reward coins : Money) : Type 0 where
  pub earlier : Log
  pub later : Log
  pub full : Money
  pub outstanding : Money
  pub parts : more ≡ earlier ++ (operator, log.withdrawn who to full outstanding) ∷ later
  pub fair : IsFairReward (l ++ earlier) who operator full outstanding
  pub reward_is : reward ≡ reward_paid full outstanding
  pub coins_are : coins ≡ coins_paid full outstanding
  pub sent : IsSent before (fact.Paid who operator to reward coins)
  pub close : (d : List ℕ) → IsCloseToIdeal (l ++ earlier) who operator full outstanding fair d

-- So it is with each payment among facts whose payments are those of entries that are fair, and which
-- are sent.
abbrev pub PaymentsAreFairlyTold : Type 0
PaymentsAreFairlyTold =
    (l more : Log) (before after : List Fact) (who operator to : List ℕ) (reward coins : Money)
    → AreFair l more
    → payments_in (before ++ fact.Paid who operator to reward coins ∷ after) ≡ payments_of more
    → AreSent [] (before ++ fact.Paid who operator to reward coins ∷ after)
    → IsFairlyTold l more before who operator to reward coins
