-- A tally can be taken of the validators and delegations of the tests.
use Rattle.std.proofs.Common.{◌≡◌, ◌^◌, ◌≤◌, List, ℕ, refl, lit≤, All}
use Rattle.std.{specs.{List.{AllByRecursion, IsDistinct}, Map.keys_of}, proofs.lemmas.List.Elements.All-from_recursion}
use Rattle.base_roles.specs.{declared.entities.Validator.Validator, Orders.same_addr, Staked.bonded_tokens}
use Rattle.rule_modules.specs.Sound.{delegated_shares}
use Rattle.mod_tally.specs.Taken.{CanBeTallied, staked_in}
use Rattle.test_tally.specs.Stakes.{staked}

differ : IsDistinct same_addr (keys_of (staked_in staked).validators)
unfolding IsDistinct
differ = ((refl, (refl, tt)), ((refl, tt), (tt, tt)))

named : All (λ e. e.1.operator ≡ e.0) (staked_in staked).validators
named = All-from_recursion (λ (e : List ℕ × Validator). e.1.operator ≡ e.0) (staked_in staked).validators (refl, (refl, (refl, tt)))

summed : All (λ e. e.1.shares ≡ delegated_shares (staked_in staked) e.0) (staked_in staked).validators
summed = All-from_recursion (λ (e : List ℕ × Validator). e.1.shares ≡ delegated_shares (staked_in staked) e.0) (staked_in staked).validators (refl, (refl, (refl, tt)))

few : bonded_tokens (staked_in staked) ≤ 10 ^ 18
few = lit≤ tt

pub staked_can : CanBeTallied (staked_in staked)
staked_can = record { operators = differ; named = named; shares = summed; tokens = few }
