-- How evidence is answered over what is lent, and which evidence is punished.
use Rattle.std.specs.Prelude.{◌≡◌, ℕ, ◌||◌, ◌&&◌, not, Bool, false, if◌then◌else◌, List, Option, Some, None, option_map, is_some, Result}
use Rattle.base_decimals.specs.declared.over.Over.{Over}
use Rattle.base_types.specs.Orders.{cons_cmp}
use Rattle.base_roles.specs.declared.entities.SigningInfo.{SigningInfo}
use Rattle.base_roles.specs.declared.entities.Validator.{Validator}
use Rattle.base_roles.specs.declared.faults.HookFault.{HookFault}
use Rattle.base_roles.specs.declared.messages.Evidence.{Evidence}
use Rattle.base_roles.specs.declared.params.Ctx.{Ctx}
use Rattle.base_roles.specs.Answers.{AsRuled, WantsMemory, ExceedsAs}
use Rattle.base_roles.specs.Entries.{at}
use Rattle.base_roles.specs.Staked.{is_unbonded}
use Rattle.base_roles.specs.World.{View, World}
use Rattle.rule_modules.specs.Evidence.{Bans, is_too_old}

-- signing infos that are lent, by what they tell
abbrev pub lent_bans : {N : Type 0} → (N → List (List ℕ × SigningInfo)) → (List ℕ → ℕ → N → N) → Bans N
lent_bans infos bans = record {
  tombstoned = λ n cons. option_map (λ i. i.tombstoned) (at cons_cmp (infos n) cons);
  ban = bans;
}

-- The operator whom evidence accuses: its validator is known and not unbonded, and the evidence is not too old.
abbrev pub accused : Ctx → Evidence → Option Validator → Option (List ℕ)
accused c e None = None
accused c e (Some v) = if is_unbonded v.status || is_too_old c e then None else Some v.operator

-- there is an info that is not banned for ever
abbrev pub can_be_banned : Option SigningInfo → Bool
can_be_banned None = false
can_be_banned (Some i) = not i.tombstoned

-- Evidence is punished where it accuses an operator who can be banned.
abbrev pub is_punished : Ctx → Evidence → Option Validator → Option SigningInfo → Bool
is_punished c e v i = is_some (accused c e v) && can_be_banned i

-- there is a validator that is not jailed
abbrev pub is_free : Option Validator → Bool
is_free None = false
is_free (Some v) = not v.jailed

-- What evidence answers and leaves, of infos, of validators, of hooks and of the ground: what its rule gives, or its
-- excess; or memory is wanting.
abbrev pub Handles : {N S H : Type 0} → Result (Bool × N × World S H) Over → N → S → (H → Type 0) → View → Result Bool HookFault → Type 0
Handles rule n s holds v answer = AsRuled rule answer
    (λ due done. (done ≡ due.0) × (n ≡ due.1) × (s ≡ due.2.mine) × holds due.2.hooks × (v ≡ due.2.view)) WantsMemory ExceedsAs
