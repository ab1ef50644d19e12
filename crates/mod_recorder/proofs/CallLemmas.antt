-- What a call of the hooks gives of a slash.
use Rattle.std.proofs.Common.{◌≡◌, ◌≤◌, ◌^◌}
use Rattle.base_roles.specs.{Hooks.{Tells, MayCall, Needs, validator_in}, Owing.Lists, World.View}
use Rattle.base_roles.specs.declared.calls.Hook.{Hook}
use Rattle.base_roles.specs.declared.calls.Hook.TheVariants.{Created as created, Removed as removed, Bonded as bonded, Starting as starting, Modifying as modifying, Modified as modified, Slashing as slashing}
use Rattle.mod_recorder.specs.Notes.{CanBurn}

can_burn : (hook : Hook) (l : Lists) → Needs hook l → (validator_in hook).tokens ≤ 10 ^ 18 → CanBurn hook
can_burn (created v) l n t = tt
can_burn (removed v) l n t = tt
can_burn (bonded v) l n t = tt
can_burn (starting v delegator) l n t = tt
can_burn (modifying v delegator shares) l n t = tt
can_burn (modified v delegator shares) l n t = tt
can_burn (slashing v fraction) l n t = (n.1, t)

-- a slash of which hooks may be told is of at most the whole of at most 10^18 tokens
pub may_burn : {S : Type 0} (holds : S → Type 0) (t : Tells S) (hook : Hook) (v : View) → MayCall holds t hook v → CanBurn hook
may_burn holds t hook v m = can_burn hook m.1.1.0 m.1.1.1.needs m.1.1.1.tokens
