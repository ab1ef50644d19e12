-- A delegation has some shares, and no more than its validator.
use Rattle.std.proofs.Common.{◌≡◌, ℕ, ◌<◌, ◌≤◌, List, Some, ap, arith, unwrap_or}
use Rattle.base_roles.specs.{declared.entities.Validator.Validator, Entries.number_at, Orders.pair_cmp}
use Rattle.base_roles.specs.Staked.{Staked, delegation, validator_at}
use Rattle.rule_modules.{proofs.SoundLemmas.{held_within, to_points}, specs.Sound.StakedIsSound}

pub shares_within : (height : ℕ) (s : Staked) (who operator : List ℕ) (v : Validator) (shares : ℕ) → StakedIsSound height s → validator_at s operator ≡ Some v → delegation s who operator ≡ Some shares → shares ≤ v.shares
shares_within height s who operator v shares h found held =
    let within = held_within s.delegations operator who in
    let is : number_at pair_cmp s.delegations (operator, who) ≡ shares = ap (λ x. unwrap_or x 0) held in
    let own = (to_points height s h).shares operator v found in
    omega (arith, within, is, own)

pub shares_some : (height : ℕ) (s : Staked) (who operator : List ℕ) (shares : ℕ) → StakedIsSound height s → delegation s who operator ≡ Some shares → 0 < shares
shares_some height s who operator shares h held = (to_points height s h).positive (operator, who) shares held
