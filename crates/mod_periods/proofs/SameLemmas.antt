-- Whether two values of a kind of records are one.
use Rattle.std.proofs.Common.{◌≡◌, ℕ, ◌==◌, ◌&&◌, Bool, true, false, sym, ◌∙◌, ap}
use Rattle.base_roles.specs.declared.entities.{Historical.Historical, StartingInfo.StartingInfo}
use Rattle.base_records.proofs.SameLemmas.{both, number, number_itself}
use Rattle.mod_sums.{specs.Same.same_money, proofs.SameLemmas.{money, money_itself, true_false}}
use Rattle.mod_periods.specs.Items.{same_history, same_start, same_period}

pub period-yes : (a b : ℕ) → same_period a b ≡ true → a ≡ b
period-yes a b h = number a b h

pub period-no : (a b : ℕ) → same_period a b ≡ false → a ≡ b → ⊥
period-no a b h e = true_false (sym (number_itself a) ∙ ap (λ x. same_period a x) e ∙ h)

pub history-yes : (a b : Historical) → same_history a b ≡ true → a ≡ b
history-yes a b h =
    let parts = both (a.count == b.count) (same_money a.ratio b.ratio) h in
    let n = number a.count b.count parts.0 in
    let m = money a.ratio b.ratio parts.1 in
    λ i. record { ratio = m i; count = n i }

pub history-no : (a b : Historical) → same_history a b ≡ false → a ≡ b → ⊥
history-no a b h e = true_false (sym (λ i. number_itself a.count i && money_itself a.ratio i) ∙ ap (λ x. same_history a x) e ∙ h)

pub start-yes : (a b : StartingInfo) → same_start a b ≡ true → a ≡ b
start-yes a b h =
    let parts = both ((a.period == b.period) && (a.stake == b.stake)) (a.height == b.height) h in
    let two = both (a.period == b.period) (a.stake == b.stake) parts.0 in
    let p = number a.period b.period two.0 in
    let s = number a.stake b.stake two.1 in
    let t = number a.height b.height parts.1 in
    λ i. record { period = p i; stake = s i; height = t i }

pub start-no : (a b : StartingInfo) → same_start a b ≡ false → a ≡ b → ⊥
start-no a b h e = true_false (sym (λ i. (number_itself a.period i && number_itself a.stake i) && number_itself a.height i) ∙ ap (λ x. same_start a x) e ∙ h)
