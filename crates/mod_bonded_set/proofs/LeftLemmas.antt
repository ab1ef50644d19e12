-- What the rule gives of validators that leave the bonded set, one after another.
use Rattle.std.proofs.Common.{◌≡◌, List, [], ◌∷◌, refl, Ok}
use Rattle.base_types.specs.declared.status.BondStatus.TheVariants.{Unbonding}
use Rattle.base_roles.specs.{declared.entities.Validator.Validator, Log.Log, Staked.{Staked, put_validator}, Flow.each}
use Rattle.base_roles.specs.{World.{View, Told, noted}, declared.calls.Hook.Hook}
use Rattle.base_roles.specs.declared.facts.Fact.TheVariants as fact
use Rattle.rule_modules.specs.{BondedSet.left_set, Unbondings.completion}
use Rattle.mod_staking.specs.Calls.{behind_log}
use Rattle.mod_bonded_set.specs.Sets.{all_left, all_leavings_noted}

pub each-left : {H : Type 0} (told : H → Hook → View → Told H) (vs : List Validator) (log : Log) (s : Staked) (h : H) (v : View)
    → each (left_set told) vs (behind_log log s h v) ≡ Ok (behind_log log (all_left v.ctx.height (completion v.ctx) vs s) h (all_leavings_noted vs v))
each-left told [] log s h v = refl
each-left told (x ∷ vs) log s h v =
    each-left told vs log (put_validator (record x { status = Unbonding; unbonding_height = v.ctx.height; unbonding_time = completion v.ctx }) s) h (noted (fact.Changed x.operator Unbonding) v)
