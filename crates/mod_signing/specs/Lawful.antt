-- The window's hooks are lawful.
use Rattle.std.specs.Prelude.{◌≡◌, [], refl}
use Rattle.std.proofs.Common.{◌∙◌, sym, subst, rules}
use Rattle.base_roles.specs.Ground.{IsInOrder}
use Rattle.base_roles.specs.Hooks.{Lawful}
use Rattle.base_roles.specs.Log.{Log}
use Rattle.base_roles.specs.NoHooks.{Keeps-given}
use Rattle.base_roles.specs.World.{View, gives}
use Rattle.base_roles.specs.declared.calls.Hook.{Hook}
use Rattle.base_roles.specs.declared.calls.Hook.TheVariants.{Created as created, Removed as removed, Bonded as bonded, Starting as starting, Modifying as modifying, Modified as modified, Slashing as slashing}
use Rattle.rule_modules.specs.Window.{signing_started}
use Rattle.mod_signing.specs.Stands.{Signings, signings_told}

-- nothing else is held
abbrev still : Signings → Signings
still s = record { window = s.window; records = s.records }

-- each hook gives something, and leaves the ground
told_gives : (s : Signings) (h : Hook) (v : View) → (s2 : Signings) × (signings_told.told s h v ≡ gives s2 v [])
told_gives s (created x) v = (still s, refl)
told_gives s (removed x) v = (still s, refl)
told_gives s (bonded x) v = (record { window = s.window; records = signing_started v.ctx.height x.cons s.records }, refl)
told_gives s (starting x delegator) v = (still s, refl)
told_gives s (modifying x delegator shares) v = (still s, refl)
told_gives s (modified x delegator shares) v = (still s, refl)
told_gives s (slashing x fraction) v = (still s, refl)

still_in_order : (s s2 : Signings) (v v2 : View) (log log2 : Log) → gives s v log ≡ gives s2 v2 log2 → IsInOrder v → IsInOrder v2
still_in_order s s2 v v2 log log2 e i = let h : v ≡ v2 = cc in subst IsInOrder h i

pub signings_lawful : Lawful signings_told
signings_lawful = record {
  keeps = λ s s2 h v v2 log l r e. let g = told_gives s h v in Keeps-given g.0 s2 v v2 [] log (sym g.1 ∙ e);
  follows = λ s s2 h v v2 log l r e. let g = told_gives s h v in
      record { lists = tt; owed = tt; late = search rules; in_order = still_in_order g.0 s2 v v2 [] log (sym g.1 ∙ e) r.stand.in_order };
  owes_nothing = λ s s2 h v v2 log n e. refl;
  quiet_call = λ s h v q. absurd cc;
  quiet_stands = λ s l q. tt;
  quiet_owes = λ s q. refl;
  quiet_height = λ s q. refl;
  quiet_sure = λ s q. refl;
  quiet_steps = λ s q. absurd cc;
  sure_bonded = λ s x v l q r. let g = told_gives s (bonded x) v in (g.0, (v, ([], g.1)));
  sure_removed = λ s x v l q r. let g = told_gives s (removed x) v in (g.0, (v, ([], g.1)));
  quiet_stays = λ s s2 h v v2 log e. refl;
  sure_stays = λ s s2 h v v2 log e. refl;
  steps_stay = λ s s2 h v v2 log e. refl;
}
