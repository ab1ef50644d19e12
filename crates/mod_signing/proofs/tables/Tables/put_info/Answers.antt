use Rattle.std.proofs.Common.{◌∙◌, ◌≤◌, length, take, refl, sym, ap, inr, subst}
use Rattle.mod_signing.{specs.{Calls.ring_at, Kept.{keeping, windowed, with_signed}}, proofs.PutLemmas.info-put}
use Rattle.mod_signing.proofs.TouchedLemmas.{in_step-tried}
use Rattle.mod_signing.proofs.tables.Tables.put_info.Goals as goal

pub invariant_of-self : goal.invariant_of-self
invariant_of-self g c =
    in_step-tried c.self.inside.entries c.put.new.self c.args.cons.now c.args.entry c.self.inside.rows c.self.inside.rows (inr c.in-Ok.ensures.ok) refl c.self.invariant (λ other n none. refl)

pub returns-in-Ok-clause-ok : goal.returns-in-Ok-clause-ok
returns-in-Ok-clause-ok g c =
    let few : c.args.entry.places ≤ length (ring_at (windowed c.self.inside.entries c.self.inside.rows c.self.inside.spent).kept c.args.cons.now)
    = subst (λ w. c.args.entry.places ≤ length (ring_at w.kept c.args.cons.now)) (sym c.self.view_is) c.requires.places in
    ap (λ t. windowed t c.self.inside.rows c.self.inside.spent) c.in-Ok.ensures.ok
    ∙ info-put c.self.inside.entries c.self.inside.rows c.self.inside.spent c.args.cons.now c.args.entry c.known.ensures.ordered few
    ∙ ap (λ w. keeping (with_signed c.args.cons.now (record { info = c.args.entry.info; ring = take c.args.entry.places (ring_at w.kept c.args.cons.now) }) w.kept) w) c.self.view_is
