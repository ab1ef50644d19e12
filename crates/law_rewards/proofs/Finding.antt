-- The withdrawal of each payment that is told.
use Rattle.std.proofs.Common.{◌≡◌, ℕ, List, [], ◌∷◌, ◌++◌, refl, sym, ap, subst, ◌∙◌, append-nil, append_assoc}
use Rattle.base_coins.specs.Coins.{Money}
use Rattle.base_roles.specs.{declared.facts.Fact.Fact, Log.{Log, LogEntry}}
use Rattle.base_roles.specs.declared.facts.Fact.TheVariants as fact
use Rattle.base_roles.specs.Log as log
use Rattle.law_rewards.specs.Withdrawals.{IsFairReward, AreInTurn, AreFair, IsSent, reward_paid, coins_paid, payments_in, payments_of}
use Rattle.law_rewards.{specs.Payments.PaymentsAreFairlyTold, proofs.Close.fair_payments_are_close}
use Rattle.law_rewards.proofs.Paying.{told_joined}

-- what holds of all in turn holds of each
pub in_turn_at : {A : Type 0} (P : List A → A → Type 0) (before xs : List A) (x : A) (ys : List A) → AreInTurn P before (xs ++ x ∷ ys) → P (before ++ xs) x
in_turn_at P before [] x ys h = subst (λ m. P m x) (sym (append-nil before)) h.0
in_turn_at P before (y ∷ xs) x ys h = subst (λ m. P m x) (append_assoc before (y ∷ []) xs) (in_turn_at P (before ++ y ∷ []) xs x ys h.1)

-- a withdrawal among entries, of this payment
record IsFound (l more : Log) (who operator to : List ℕ) (reward coins : Money) : Type 0 where
  earlier : Log
  later : Log
  full : Money
  outstanding : Money
  parts : more ≡ earlier ++ (operator, log.withdrawn who to full outstanding) ∷ later
  fair : IsFairReward (l ++ earlier) who operator full outstanding
  reward_is : reward ≡ reward_paid full outstanding
  coins_are : coins ≡ coins_paid full outstanding

-- one entry more before it
found_behind : (l : Log) (e : List ℕ × LogEntry) (more : Log) (who operator to : List ℕ) (reward coins : Money) → IsFound (l ++ e ∷ []) more who operator to reward coins → IsFound l (e ∷ more) who operator to reward coins
found_behind l e more who operator to reward coins k = record {
  earlier = e ∷ k.earlier;
  later = k.later;
  full = k.full;
  outstanding = k.outstanding;
  parts = ap (λ m. e ∷ m) k.parts;
  fair = subst (λ m. IsFairReward m who operator k.full k.outstanding) (append_assoc l (e ∷ []) k.earlier) k.fair;
  reward_is = k.reward_is;
  coins_are = k.coins_are;
}

same_payment : (who op to : List ℕ) (reward coins : Money) (fs : List Fact) (who' op' to' : List ℕ) (reward' coins' : Money) (gs : List Fact)
    → Path (List Fact) (fact.Paid who op to reward coins ∷ fs) (fact.Paid who' op' to' reward' coins' ∷ gs) → (who ≡ who') × (op ≡ op') × (to ≡ to') × (reward ≡ reward') × (coins ≡ coins')
same_payment who op to reward coins fs who' op' to' reward' coins' gs e = (cc, cc, cc, cc, cc)

same_rest : (f g : Fact) (fs gs : List Fact) → Path (List Fact) (f ∷ fs) (g ∷ gs) → fs ≡ gs
same_rest f g fs gs e = cc

found : (l more : Log) (xs ys : List Fact) (who operator to : List ℕ) (reward coins : Money) → AreFair l more → payments_of more ≡ xs ++ fact.Paid who operator to reward coins ∷ ys
    → IsFound l more who operator to reward coins
found l [] [] ys who operator to reward coins fair e = absurd cc
found l [] (x ∷ xs) ys who operator to reward coins fair e = absurd cc
found l ((op, log.withdrawn who' payee full outstanding) ∷ more) [] ys who operator to reward coins fair e =
    let same : (who' ≡ who) × (op ≡ operator) × (payee ≡ to) × (reward_paid full outstanding ≡ reward) × (coins_paid full outstanding ≡ coins) =
    same_payment who' op payee (reward_paid full outstanding) (coins_paid full outstanding) (payments_of more) who operator to reward coins ys e in
    let its : IsFound l ((op, log.withdrawn who' payee full outstanding) ∷ more) who' op payee (reward_paid full outstanding) (coins_paid full outstanding) = record {
      earlier = [];
      later = more;
      full = full;
      outstanding = outstanding;
      parts = refl;
      fair = subst (λ m. IsFairReward m who' op full outstanding) (sym (append-nil l)) fair.0;
      reward_is = refl;
      coins_are = refl;
    } in
    subst (λ (q : List ℕ × List ℕ × List ℕ × Money × Money). IsFound l ((op, log.withdrawn who' payee full outstanding) ∷ more) q.0 q.1 q.2 q.3 q.4)
    (λ i. (same.0 i, same.1 i, same.2 i, same.3 i, same.4 i)) its
found l ((op, log.withdrawn who' payee full outstanding) ∷ more) (x ∷ xs) ys who operator to reward coins fair e =
    found_behind l (op, log.withdrawn who' payee full outstanding) more who operator to reward coins
    (found (l ++ (op, log.withdrawn who' payee full outstanding) ∷ []) more xs ys who operator to reward coins fair.1
    (same_rest (fact.Paid who' op payee (reward_paid full outstanding) (coins_paid full outstanding)) x (payments_of more) (xs ++ fact.Paid who operator to reward coins ∷ ys) e))
found l ((op, log.made) ∷ more) xs ys who operator to reward coins fair e =
    found_behind l (op, log.made) more who operator to reward coins (found (l ++ (op, log.made) ∷ []) more xs ys who operator to reward coins fair.1 e)
found l ((op, log.allocated s r t) ∷ more) xs ys who operator to reward coins fair e =
    found_behind l (op, log.allocated s r t) more who operator to reward coins (found (l ++ (op, log.allocated s r t) ∷ []) more xs ys who operator to reward coins fair.1 e)
found l ((op, log.ended p i t) ∷ more) xs ys who operator to reward coins fair e =
    found_behind l (op, log.ended p i t) more who operator to reward coins (found (l ++ (op, log.ended p i t) ∷ []) more xs ys who operator to reward coins fair.1 e)
found l ((op, log.started w s t x k) ∷ more) xs ys who operator to reward coins fair e =
    found_behind l (op, log.started w s t x k) more who operator to reward coins (found (l ++ (op, log.started w s t x k) ∷ []) more xs ys who operator to reward coins fair.1 e)
found l ((op, log.slashed b t f) ∷ more) xs ys who operator to reward coins fair e =
    found_behind l (op, log.slashed b t f) more who operator to reward coins (found (l ++ (op, log.slashed b t f) ∷ []) more xs ys who operator to reward coins fair.1 e)
found l ((op, log.left) ∷ more) xs ys who operator to reward coins fair e =
    found_behind l (op, log.left) more who operator to reward coins (found (l ++ (op, log.left) ∷ []) more xs ys who operator to reward coins fair.1 e)
found l ((op, log.commission c) ∷ more) xs ys who operator to reward coins fair e =
    found_behind l (op, log.commission c) more who operator to reward coins (found (l ++ (op, log.commission c) ∷ []) more xs ys who operator to reward coins fair.1 e)

pub payments_are_fairly_told : PaymentsAreFairlyTold
payments_are_fairly_told = λ l more before after who operator to reward coins fair is sent.
    let f : Fact = fact.Paid who operator to reward coins in
    let k : IsFound l more who operator to reward coins =
    found l more (payments_in before) (payments_in after) who operator to reward coins fair (sym is ∙ told_joined before (f ∷ after)) in
    record {
      earlier = k.earlier;
      later = k.later;
      full = k.full;
      outstanding = k.outstanding;
      parts = k.parts;
      fair = k.fair;
      reward_is = k.reward_is;
      coins_are = k.coins_are;
      sent = in_turn_at IsSent [] before f after sent;
      close = λ d. fair_payments_are_close (l ++ k.earlier) who operator k.full k.outstanding k.fair d;
    }
