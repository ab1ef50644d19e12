-- Contexts of one moment.
use Rattle.std.proofs.Common.{◌≡◌, ◌∙◌, ap}
use Rattle.base_roles.specs.{declared.params.Ctx.Ctx, Ground.SameMoment}

-- a context is at its own moment
pub same_moment : (c d : Ctx) → d ≡ c → SameMoment c d
same_moment c d e = record {
  height = ap (λ (x : Ctx). x.height) e;
  time = ap (λ (x : Ctx). x.time) e;
  bond_denom = ap (λ (x : Ctx). x.params.bond_denom) e;
  power_reduction = ap (λ (x : Ctx). x.params.power_reduction) e;
}

-- and one after the other
pub same_moment_twice : (a b c : Ctx) → SameMoment a b → SameMoment b c → SameMoment a c
same_moment_twice a b c g h = record {
  height = h.height ∙ g.height;
  time = h.time ∙ g.time;
  bond_denom = h.bond_denom ∙ g.bond_denom;
  power_reduction = h.power_reduction ∙ g.power_reduction;
}
