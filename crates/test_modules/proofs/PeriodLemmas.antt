-- What the test of slash events says of those that a validator has.
use Rattle.std.proofs.Common.{◌≡◌, ◌∙◌, ℕ, Bool, true, false, List, [], ◌∷◌, get_or, refl, ap, subst, arith, ◌≢◌, ◌≤◌, ◌==◌, ◌&&◌, not, All, nat_le, cond}
use Rattle.std.{specs.List.list_all, proofs.lemmas.{Bool.and_parts, List.Sums.AllPass-from_list_all}}
use Rattle.std.proofs.lemmas.Bool.Decides.{nat_tests}
use Rattle.base_roles.specs.declared.entities.SlashEvent.{SlashEvent}
use Rattle.mod_periods.specs.Earning.{events_since}

-- all events are from height 0
pub since_first : (es : List SlashEvent) → events_since 0 es ≡ es
since_first [] = refl
since_first (e ∷ es) = by (nat_le 0 e.height) (grind (arith, nat_tests)) (since_first es)
  where
    by : (b : Bool) → b ≡ true → events_since 0 es ≡ es → cond b (e ∷ events_since 0 es) (events_since 0 es) ≡ e ∷ es
    by true h later = ap (λ l. e ∷ l) later
    by false h later = absurd cc

-- a slash event is at another period, and not above a height
abbrev pub IsFree : ℕ → ℕ → SlashEvent → Type 0
IsFree height period e = (e.period ≢ period) × (e.height ≤ height)

-- all events of an operator are so, where those from height 0 are
pub free-at : (es since : List SlashEvent) (height period : ℕ) → since ≡ events_since 0 es → All (IsFree height period) since → All (IsFree height period) es
free-at es since height period e all = subst (All (IsFree height period)) (e ∙ since_first es) all

-- what the test of a slash event says
free-passed : (e : SlashEvent) (height period : ℕ) → (not (e.period == period) && nat_le e.height height) ≡ true → IsFree height period e
free-passed e height period h =
    let (other, below) = and_parts (not (e.period == period)) (nat_le e.height height) h in
    (differs e.period period other, most e.height height below)
  where
    differs : (a b : ℕ) → not (a == b) ≡ true → a ≢ b
    differs a b h = grind (arith, nat_tests)

    most : (a b : ℕ) → nat_le a b ≡ true → a ≤ b
    most a b h = grind (arith, nat_tests)

-- where each slash event passes the test, all are so
pub all-free : (es : List SlashEvent) (height period : ℕ) → list_all (λ (e : SlashEvent). not (e.period == period) && nat_le e.height height) es ≡ true → All (IsFree height period) es
all-free es height period h = λ k d lt. free-passed (get_or es k d) height period (AllPass-from_list_all (λ (e : SlashEvent). not (e.period == period) && nat_le e.height height) es h k d lt)
