-- What is owed from the two staking accounts once validators joined or left the bonded set.
use Rattle.std.proofs.Common.{◌≡◌, ◌∙◌, ℕ, ◌+◌, Bool, true, false, cond, List, [], ◌∷◌, map, Some, ap, arith}
use Rattle.std.specs.{List.{AllByRecursion, Sorted.IsStrictlySortedBy}, Map.keys_of}
use Rattle.std.proofs.lemmas.List.Sums.{sum_by-cons}
use Rattle.base_types.specs.{declared.status.BondStatus.{BondStatus, TheVariants.{Bonded, Unbonding}}, Orders.addr_cmp}
use Rattle.base_types.proofs.MapLemmas.{ascend-put}
use Rattle.base_roles.specs.{declared.entities.Validator.Validator, Orders.same_addr}
use Rattle.base_roles.specs.Staked.{Staked, validator_at, put_validator, is_bonded, bonded_tokens, other_tokens}
use Rattle.rule_modules.{specs.BondedSet.{HaveOwnOperators, tokens_of}, proofs.OrderLemmas.{addr_total, same_back}}
use Rattle.rule_modules.proofs.{SoundLemmas.found-put, TokenLemmas.tokens-put}
use Rattle.mod_bonded_set.specs.Sets.{AllStand, all_joined, all_left}

abbrev others : BondStatus → Bool
others status = cond (is_bonded status) false true

-- who stands elsewhere still stands
pub still_stand : (w : Validator) (s : Staked) (vs : List Validator) → AllByRecursion (λ u. same_addr w.operator u.operator ≡ false) vs → AllStand s vs → AllStand (put_validator w s) vs
still_stand w s [] a h = tt
still_stand w s (v ∷ vs) a h = (
  found-put s w v.operator ∙ ap (λ b. cond b (Some w) (validator_at s v.operator)) (same_back v.operator w.operator ∙ a.0) ∙ h.0,
  still_stand w s vs a.1 h.1,
)

put_ascend : (w : Validator) (s : Staked) → IsStrictlySortedBy addr_cmp (keys_of s.validators) → IsStrictlySortedBy addr_cmp (keys_of (put_validator w s).validators)
put_ascend w s h = ascend-put addr_cmp addr_total s.validators w.operator w h

-- where one status was not bonded and the other is
gains : (b : Bool) (t x y : ℕ) → b ≡ false → y + cond b t 0 ≡ x + t → y ≡ x + t
gains true t x y e h = absurd cc
gains false t x y e h = omega (arith, h)

gives_up : (b : Bool) (t x y : ℕ) → b ≡ false → y + cond (cond b false true) t 0 ≡ x + 0 → y + t ≡ x
gives_up true t x y e h = absurd cc
gives_up false t x y e h = omega (arith, h)

loses : (b : Bool) (t x y : ℕ) → b ≡ true → y + cond b t 0 ≡ x + 0 → y + t ≡ x
loses true t x y e h = omega (arith, h)
loses false t x y e h = absurd cc

takes : (b : Bool) (t x y : ℕ) → b ≡ true → y + cond (cond b false true) t 0 ≡ x + t → y ≡ x + t
takes true t x y e h = omega (arith, h)
takes false t x y e h = absurd cc

pub total : (v : Validator) (vs : List Validator) → tokens_of (v ∷ vs) ≡ v.tokens + tokens_of vs
total v vs = sum_by-cons (λ n. n) v.tokens (map (λ u. u.tokens) vs)

summed : (x y z t a b : ℕ) → y ≡ x + t → z ≡ y + a → b ≡ t + a → z ≡ x + b
summed x y z t a b e f g = omega (arith, e, f, g)

lessened : (x y z t a b : ℕ) → y + t ≡ x → z + a ≡ y → b ≡ t + a → z + b ≡ x
lessened x y z t a b e f g = omega (arith, e, f, g)

pub tokens-joined : (vs : List Validator) (s : Staked) → IsStrictlySortedBy addr_cmp (keys_of s.validators) → AllStand s vs → HaveOwnOperators vs → AllByRecursion (λ v. is_bonded v.status ≡ false) vs
    → (bonded_tokens (all_joined vs s) ≡ bonded_tokens s + tokens_of vs) × (other_tokens (all_joined vs s) + tokens_of vs ≡ other_tokens s)
tokens-joined [] s c h a n = (none (bonded_tokens s), same (other_tokens s))
  where
    none : (k : ℕ) → k ≡ k + 0
    none k = omega arith

    same : (k : ℕ) → k + 0 ≡ k
    same k = omega arith
tokens-joined (v ∷ vs) s c h a n =
    let w : Validator = record v { status = Bonded } in
    let s2 = put_validator w s in
    let up = gains (is_bonded v.status) v.tokens (bonded_tokens s) (bonded_tokens s2) n.0 (tokens-put is_bonded v.operator v w s.validators c h.0) in
    let down = gives_up (is_bonded v.status) v.tokens (other_tokens s) (other_tokens s2) n.0 (tokens-put others v.operator v w s.validators c h.0) in
    let later = tokens-joined vs s2 (put_ascend w s c) (still_stand w s vs a.0 h.1) a.1 n.1 in (
      summed (bonded_tokens s) (bonded_tokens s2) (bonded_tokens (all_joined vs s2)) v.tokens (tokens_of vs) (tokens_of (v ∷ vs)) up later.0 (total v vs),
      lessened (other_tokens s) (other_tokens s2) (other_tokens (all_joined vs s2)) v.tokens (tokens_of vs) (tokens_of (v ∷ vs)) down later.1 (total v vs),
    )

module _ (height time : ℕ) where
  pub tokens-left : (vs : List Validator) (s : Staked) → IsStrictlySortedBy addr_cmp (keys_of s.validators) → AllStand s vs → HaveOwnOperators vs → AllByRecursion (λ v. is_bonded v.status ≡ true) vs
      → (bonded_tokens (all_left height time vs s) + tokens_of vs ≡ bonded_tokens s) × (other_tokens (all_left height time vs s) ≡ other_tokens s + tokens_of vs)
  tokens-left [] s c h a n = (same (bonded_tokens s), none (other_tokens s))
    where
      none : (k : ℕ) → k ≡ k + 0
      none k = omega arith

      same : (k : ℕ) → k + 0 ≡ k
      same k = omega arith
  tokens-left (v ∷ vs) s c h a n =
      let w : Validator = record v { status = Unbonding; unbonding_height = height; unbonding_time = time } in
      let s2 = put_validator w s in
      let down = loses (is_bonded v.status) v.tokens (bonded_tokens s) (bonded_tokens s2) n.0 (tokens-put is_bonded v.operator v w s.validators c h.0) in
      let up = takes (is_bonded v.status) v.tokens (other_tokens s) (other_tokens s2) n.0 (tokens-put others v.operator v w s.validators c h.0) in
      let later = tokens-left vs s2 (put_ascend w s c) (still_stand w s vs a.0 h.1) a.1 n.1 in (
        lessened (bonded_tokens s) (bonded_tokens s2) (bonded_tokens (all_left height time vs s2)) v.tokens (tokens_of vs) (tokens_of (v ∷ vs)) down later.0 (total v vs),
        summed (other_tokens s) (other_tokens s2) (other_tokens (all_left height time vs s2)) v.tokens (tokens_of vs) (tokens_of (v ∷ vs)) up later.1 (total v vs),
      )
