use Rattle.std.proofs.Common.{◌∙◌, true, ap, inr}
use Rattle.mod_signing.{specs.{Kept.{behind, keeping, windowed, with_signed}, Rings.ring_of}, proofs.PutLemmas.ring-put}
use Rattle.mod_signing.proofs.TouchedLemmas.{in_step-tried, behind-tried}
use Rattle.mod_signing.proofs.tables.Tables.put_record.Goals as goal

pub invariant_of-self : goal.invariant_of-self
invariant_of-self g c =
    in_step-tried c.self.inside.entries c.put_whole.new.entries c.args.cons.now (record { info = c.args.info.now; places = c.len.result }) c.self.inside.rows c.put_whole.new.rows (inr c.in-Ok.ensures.entries)
    c.put_whole.ensures.marks c.self.invariant c.put_whole.ensures.touched

pub invariant_of-self-in-Err : goal.invariant_of-self-in-Err
invariant_of-self-in-Err g c =
    in_step-tried c.self.inside.entries c.put_whole.new.entries c.args.cons.now (record { info = c.args.info.now; places = c.len.result }) c.self.inside.rows c.put_whole.new.rows c.in-Err.ensures.entries_err
    c.put_whole.ensures.marks c.self.invariant c.put_whole.ensures.touched

pub returns-in-Ok-clause-ok : goal.returns-in-Ok-clause-ok
returns-in-Ok-clause-ok g c =
    let r2 = c.put_whole.new.rows in
    ap (λ t. windowed t r2 c.self.inside.spent) c.in-Ok.ensures.entries
    ∙ ring-put c.self.inside.entries c.self.inside.rows c.self.inside.spent c.args.cons.now (record { info = c.args.info.now; places = c.len.result }) c.known.ensures.ordered r2 c.args.ring.now
    (λ other h places. c.put_whole.ensures.others other places h) c.put_whole.ensures.marks c.put_whole.ensures.settled (ap (ring_of r2.entries c.args.cons.now) c.len.ensures ∙ c.in-Ok.ensures.ring)
    ∙ ap (λ w. keeping (with_signed c.args.cons.now (record { info = c.args.info.now; ring = c.args.ring.now }) w.kept) w) c.self.view_is

pub returns-in-Ok-clause-behind : goal.returns-in-Ok-clause-behind
returns-in-Ok-clause-behind g c =
    behind-tried c.self.inside.entries c.put_whole.new.entries c.args.cons.now (record { info = c.args.info.now; places = c.len.result }) c.self.inside.rows c.put_whole.new.rows (inr c.in-Ok.ensures.entries)
    c.put_whole.ensures.marks c.put_whole.ensures.settled c.self.inside.spent c.self.inside.spent ∙ ap behind c.self.view_is

pub returns-in-Err-clause-behind : goal.returns-in-Err-clause-behind
returns-in-Err-clause-behind g c =
    behind-tried c.self.inside.entries c.put_whole.new.entries c.args.cons.now (record { info = c.args.info.now; places = c.len.result }) c.self.inside.rows c.put_whole.new.rows c.in-Err.ensures.entries_err
    c.put_whole.ensures.marks c.put_whole.ensures.settled c.self.inside.spent true ∙ ap behind c.self.view_is
