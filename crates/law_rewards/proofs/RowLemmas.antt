-- The worked rows, computed.
use Rattle.std.proofs.Common.{ℕ, ◌≢◌, ◌++◌, refl, arith, ap, get_or}
use Rattle.rule_modules.specs.Fixtures.{addr, uatom}
use Rattle.law_rewards.specs.Account.{AreFitting, new_account}
use Rattle.law_rewards.specs.Worked.{twice_slashed, fees_behind, SlashedTwice, LastPaymentIsCut, before_the_fee, behind_the_fee}

-- a fact, and those behind it
infixr 5 ◌⟶◌
abbrev ◌⟶◌ : {P Q : Type 0} → P → Q → P × Q
p ⟶ q = (p, q)

-- addresses of two numbers
apart : (m n : ℕ) → m ≢ n → addr m ≢ addr n
apart m n ne e = ne (ap (λ a. get_or a 0 0) e)

fits_twice : AreFitting uatom (new_account 0) (twice_slashed ++ fees_behind)
fits_twice =
    record { increment_is = refl; ratio_is = refl }
    ⟶ (refl, refl)
    ⟶ (refl, omega arith, omega arith, omega arith, tt)
    ⟶ omega arith
    ⟶ record { increment_is = refl; ratio_is = refl }
    ⟶ (refl, refl)
    ⟶ (refl, omega arith, omega arith, omega arith, (apart 3 2 (omega arith) ⟶ tt))
    ⟶ omega arith
    ⟶ record { increment_is = refl; ratio_is = refl }
    ⟶ record { within = omega arith; full_is = refl; outstanding_is = refl }
    ⟶ (refl, omega arith, omega arith, omega arith, (apart 3 2 (omega arith) ⟶ tt))
    ⟶ (refl, omega arith, omega arith)
    ⟶ (record { increment_is = refl; ratio_is = refl }, omega arith, omega arith, omega arith)
    ⟶ omega arith
    ⟶ (refl ⟶ omega arith ⟶ omega arith ⟶ tt)
    ⟶ record { increment_is = refl; ratio_is = refl }
    ⟶ tt

pub slashed_twice : SlashedTwice
slashed_twice = record {
  fits = fits_twice;
  tokens_are = refl;
  at_once = refl;
  later = refl;
  ideal = omega arith;
}

fits_cut : AreFitting uatom (new_account 0) (before_the_fee ++ behind_the_fee)
fits_cut =
    record { increment_is = refl; ratio_is = refl }
    ⟶ (refl, refl)
    ⟶ (refl, omega arith, omega arith, omega arith, tt)
    ⟶ record { increment_is = refl; ratio_is = refl }
    ⟶ (refl, refl)
    ⟶ (refl, omega arith, omega arith, omega arith, (apart 2 1 (omega arith) ⟶ tt))
    ⟶ record { increment_is = refl; ratio_is = refl }
    ⟶ (refl, refl)
    ⟶ (refl, omega arith, omega arith, omega arith, (apart 3 2 (omega arith) ⟶ apart 3 1 (omega arith) ⟶ tt))
    ⟶ record { increment_is = refl; ratio_is = refl }
    ⟶ (refl, refl)
    ⟶ (refl, omega arith, omega arith, omega arith, (apart 4 3 (omega arith) ⟶ apart 4 2 (omega arith) ⟶ apart 4 1 (omega arith) ⟶ tt))
    ⟶ omega arith
    ⟶ (record { increment_is = refl; ratio_is = refl }, omega arith, omega arith, omega arith)
    ⟶ omega arith
    ⟶ record { increment_is = refl; ratio_is = refl }
    ⟶ record { within = omega arith; full_is = refl; outstanding_is = refl }
    ⟶ (refl, omega arith, omega arith, omega arith, (apart 4 3 (omega arith) ⟶ apart 4 2 (omega arith) ⟶ apart 4 1 (omega arith) ⟶ tt))
    ⟶ (refl, omega arith, omega arith)
    ⟶ omega arith
    ⟶ record { increment_is = refl; ratio_is = refl }
    ⟶ record { within = omega arith; full_is = refl; outstanding_is = refl }
    ⟶ (refl, omega arith, omega arith, omega arith, (apart 4 3 (omega arith) ⟶ apart 4 2 (omega arith) ⟶ apart 4 1 (omega arith) ⟶ tt))
    ⟶ (refl, omega arith, omega arith)
    ⟶ omega arith
    ⟶ record { increment_is = refl; ratio_is = refl }
    ⟶ record { within = omega arith; full_is = refl; outstanding_is = refl }
    ⟶ (refl, omega arith, omega arith, omega arith, (apart 4 3 (omega arith) ⟶ apart 4 2 (omega arith) ⟶ apart 4 1 (omega arith) ⟶ tt))
    ⟶ (refl, omega arith, omega arith)
    ⟶ omega arith
    ⟶ record { increment_is = refl; ratio_is = refl }
    ⟶ record { within = omega arith; full_is = refl; outstanding_is = refl }
    ⟶ (refl, omega arith, omega arith, omega arith, (apart 4 3 (omega arith) ⟶ apart 4 2 (omega arith) ⟶ apart 4 1 (omega arith) ⟶ tt))
    ⟶ (refl, omega arith, omega arith)
    ⟶ omega arith
    ⟶ record { increment_is = refl; ratio_is = refl }
    ⟶ record { within = omega arith; full_is = refl; outstanding_is = refl }
    ⟶ (refl, omega arith, omega arith, omega arith, (apart 4 3 (omega arith) ⟶ apart 4 2 (omega arith) ⟶ apart 4 1 (omega arith) ⟶ tt))
    ⟶ (refl, omega arith, omega arith)
    ⟶ omega arith
    ⟶ record { increment_is = refl; ratio_is = refl }
    ⟶ record { within = omega arith; full_is = refl; outstanding_is = refl }
    ⟶ (refl, omega arith, omega arith, omega arith, (apart 4 3 (omega arith) ⟶ apart 4 2 (omega arith) ⟶ apart 4 1 (omega arith) ⟶ tt))
    ⟶ (refl, omega arith, omega arith)
    ⟶ omega arith
    ⟶ (refl ⟶ omega arith ⟶ omega arith ⟶ omega arith ⟶ omega arith ⟶ tt)
    ⟶ (record { increment_is = refl; ratio_is = refl }, omega arith, omega arith, omega arith)
    ⟶ omega arith
    ⟶ record { increment_is = refl; ratio_is = refl }
    ⟶ record { within = omega arith; full_is = refl; outstanding_is = refl }
    ⟶ record { increment_is = refl; ratio_is = refl }
    ⟶ record { within = omega arith; full_is = refl; outstanding_is = refl }
    ⟶ record { increment_is = refl; ratio_is = refl }
    ⟶ record { within = omega arith; full_is = refl; outstanding_is = refl }
    ⟶ record { increment_is = refl; ratio_is = refl }
    ⟶ tt

pub last_payment_is_cut : LastPaymentIsCut
last_payment_is_cut = record {
  fits = fits_cut;
  last = refl;
  outstanding = refl;
  over = refl;
}
