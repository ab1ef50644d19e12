-- The scene behind the bonded set made anew: who leaves still stands when others have joined, the accounts have what moves
-- and then hold what is owed, and the hooks stand.
use Rattle.std.proofs.Common.{◌≡◌, ◌∙◌, ℕ, ◌≤◌, List, [], ◌∷◌, refl, sym, ap, subst, ◌-◌}
use Rattle.std.specs.Map.{values_of}
use Rattle.base_types.specs.declared.account.Account.TheVariants as account
use Rattle.base_types.specs.declared.account.Module.TheVariants as holder
use Rattle.base_types.specs.declared.status.BondStatus.TheVariants.{Unbonding}
use Rattle.base_roles.specs.{declared.entities.Validator.Validator, Holdings.{IsBacked, balance_of}}
use Rattle.base_roles.specs.{Hooks.{Tells, Stand, Keeps}, Owing.Lists}
use Rattle.base_roles.specs.Staked.{Staked, put_validator, lists_of, bonded_tokens, other_tokens}
use Rattle.base_roles.{specs.{StakeChanges.HoldsStake, World.{View, noted}}, proofs.HookLemmas.stand-noted}
use Rattle.base_roles.specs.declared.facts.Fact.TheVariants as fact
use Rattle.rule_modules.specs.BondedSet.{HaveOwnOperators, joining_of, leaving_of, tokens_of, difference_moved}
use Rattle.mod_staking.{specs.Calls.IsSoundStake, proofs.{GroundLemmas.holds-kept, ListLemmas.lists-put}}
use Rattle.mod_bonded_set.specs.Sets.{AllStand, all_joined, all_left, all_leavings_noted}
use Rattle.mod_bonded_set.proofs.StakeLemmas.{sound_ascend}
use Rattle.mod_bonded_set.proofs.StandLemmas.{joining-stand, joining-apart, joining-new, leaving-stand, leaving-apart, leaving-bonded, leaving-stand-still}
use Rattle.mod_bonded_set.proofs.TokenLemmas.{still_stand}
use Rattle.mod_bonded_set.proofs.UpdateLemmas.{HasMoved, enough-other, enough-bonded, holds-moved, noted-holds, difference-accounts, stand-difference}

-- the operators and the started pairs stay as validators leave the set
pub lists-all_left : (height time : ℕ) (vs : List Validator) (s : Staked) → AllStand s vs → HaveOwnOperators vs → lists_of (all_left height time vs s) ≡ lists_of s
lists-all_left height time [] s h a = refl
lists-all_left height time (v ∷ vs) s h a =
    let w : Validator = record v { status = Unbonding; unbonding_height = height; unbonding_time = time } in
    lists-all_left height time vs (put_validator w s) (still_stand w s vs a.0 h.1) a.1 ∙ lists-put s w v h.0

pub stand-all_noted : {S : Type 0} (t : Tells S) (s : S) (vs : List Validator) (v : View) (l : Lists) → Stand t s v l → Stand t s (all_leavings_noted vs v) l
stand-all_noted t s [] v l p = p
stand-all_noted t s (x ∷ xs) v l p = let told = noted (fact.Changed x.operator Unbonding) v in stand-all_noted t s xs told l (stand-noted t s v told.facts l p)

module _ (s0 : Staked) (sound : IsSoundStake s0) (reduction most : ℕ) (s1 : Staked) (sound1 : IsSoundStake s1) (joined : s1 ≡ all_joined (joining_of reduction most (values_of s0.validators)) s0) where
  abbrev joining : List Validator
  joining = joining_of reduction most (values_of s0.validators)

  abbrev leaving : List Validator
  leaving = leaving_of reduction most (values_of s0.validators)

  pub leaving-stand-now : AllStand s1 leaving
  leaving-stand-now =
      subst (λ s. AllStand s leaving) (sym joined)
      (leaving-stand-still s0 joining leaving (joining-stand s0 sound reduction most) (joining-new s0 sound reduction most) (leaving-stand s0 sound reduction most) (leaving-bonded s0 sound reduction most))

  module _ (height time : ℕ) (s2 : Staked) (left : s2 ≡ all_left height time leaving s1) (v2 v3 : View) (held : HoldsStake v2 (bonded_tokens s0) (other_tokens s0)) where
    pub other-has : tokens_of joining - tokens_of leaving ≤ balance_of v2.bank (account.Module holder.NotBonded) v2.ctx.params.bond_denom
    other-has =
        enough-other s0 s1 s2 joining leaving height time joined left (sound_ascend s0 sound) (sound_ascend s1 sound1) (joining-stand s0 sound reduction most) (joining-apart s0 sound reduction most) (joining-new s0 sound reduction most)
        leaving-stand-now (leaving-apart s0 sound reduction most) (leaving-bonded s0 sound reduction most) v2 v3 held

    pub bonded-has : tokens_of leaving - tokens_of joining ≤ balance_of v2.bank (account.Module holder.Bonded) v2.ctx.params.bond_denom
    bonded-has =
        enough-bonded s0 s1 s2 joining leaving height time joined left (sound_ascend s0 sound) (sound_ascend s1 sound1) (joining-stand s0 sound reduction most) (joining-apart s0 sound reduction most) (joining-new s0 sound reduction most)
        leaving-stand-now (leaving-apart s0 sound reduction most) (leaving-bonded s0 sound reduction most) v2 v3 held

    pub accounts-hold : HasMoved (tokens_of joining) (tokens_of leaving) v2 v3 → HoldsStake v3 (bonded_tokens s2) (other_tokens s2)
    accounts-hold =
        holds-moved s0 s1 s2 joining leaving height time joined left (sound_ascend s0 sound) (sound_ascend s1 sound1) (joining-stand s0 sound reduction most) (joining-apart s0 sound reduction most) (joining-new s0 sound reduction most)
        leaving-stand-now (leaving-apart s0 sound reduction most) (leaving-bonded s0 sound reduction most) v2 v3 held

    pub lists-left_now : lists_of s2 ≡ lists_of s1
    lists-left_now = ap lists_of left ∙ lists-all_left height time leaving s1 leaving-stand-now (leaving-apart s0 sound reduction most)

-- ---- from the scene before to the scene behind

module _ {H : Type 0} (t : Tells H) (s0 : Staked) (sound : IsSoundStake s0) (reduction most : ℕ) (s1 : Staked) (sound1 : IsSoundStake s1) (joined : s1 ≡ all_joined (joining_of reduction most (values_of s0.validators)) s0)
    (v0 v1 : View) (N : Type 0) (kept : Keeps N v0 v1) (accounts : HoldsStake v0 (bonded_tokens s0) (other_tokens s0)) (h1 : H) (stand1 : Stand t h1 v1 (lists_of s1)) (height time : ℕ) (s2 : Staked)
    (left : s2 ≡ all_left height time (leaving_of reduction most (values_of s0.validators)) s1) (v2 : View) (ground : v2 ≡ all_leavings_noted (leaving_of reduction most (values_of s0.validators)) v1) where
  abbrev joins : List Validator
  joins = joining_of reduction most (values_of s0.validators)

  abbrev leaves : List Validator
  leaves = leaving_of reduction most (values_of s0.validators)

  held2 : HoldsStake v2 (bonded_tokens s0) (other_tokens s0)
  held2 = subst (λ v. HoldsStake v (bonded_tokens s0) (other_tokens s0)) (sym ground) (noted-holds leaves v1 (bonded_tokens s0) (other_tokens s0) (holds-kept N v0 v1 (bonded_tokens s0) (other_tokens s0) kept accounts))

  stand2 : Stand t h1 v2 (lists_of s2)
  stand2 =
      subst (Stand t h1 v2) (sym (lists-left_now s0 sound reduction most s1 sound1 joined height time s2 left v2 v2 held2))
      (subst (λ v. Stand t h1 v (lists_of s1)) (sym ground) (stand-all_noted t h1 leaves v1 (lists_of s1) stand1))

  pub backed2 : IsBacked v2.bank
  backed2 = stand2.in_order.bank

  pub enough-to_bonded : tokens_of joins - tokens_of leaves ≤ balance_of v2.bank (account.Module holder.NotBonded) v2.ctx.params.bond_denom
  enough-to_bonded = other-has s0 sound reduction most s1 sound1 joined height time s2 left v2 v2 held2

  pub enough-from_bonded : tokens_of leaves - tokens_of joins ≤ balance_of v2.bank (account.Module holder.Bonded) v2.ctx.params.bond_denom
  enough-from_bonded = bonded-has s0 sound reduction most s1 sound1 joined height time s2 left v2 v2 held2

  module _ (v3 : View) (moved : v3 ≡ difference_moved (tokens_of joins) (tokens_of leaves) v2) (backed : IsBacked v3.bank) where
    pub accounts3 : HoldsStake v3 (bonded_tokens s2) (other_tokens s2)
    accounts3 =
        accounts-hold s0 sound reduction most s1 sound1 joined height time s2 left v2 v3 held2
        (difference-accounts v2 v3 (tokens_of joins) (tokens_of leaves) backed2 enough-to_bonded enough-from_bonded moved)

    pub stand3 : Stand t h1 v3 (lists_of s2)
    stand3 = stand-difference v2 v3 (tokens_of joins) (tokens_of leaves) backed2 enough-to_bonded enough-from_bonded moved t h1 (lists_of s2) backed stand2
