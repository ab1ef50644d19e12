use Rattle.std.proofs.Common.{◌≡◌, ◌∙◌, ◌/◌, ◌≤◌, length, true, sym, ap, inr, subst}
use Rattle.base_table.specs.Tabled.{value_at}
use Rattle.mod_signing.specs.{Calls.{IsRow, ring_at}, Kept.{behind, keeping, windowed, with_signed}}
use Rattle.mod_signing.{specs.Rings.{ring_with, row_cmp}, proofs.PutLemmas.vote-put}
use Rattle.mod_signing.proofs.TouchedLemmas.{in_step-tried, behind-tried, row-listed}
use Rattle.mod_signing.proofs.tables.Tables.put_vote.Goals as goal

pub invariant_of-self : goal.invariant_of-self
invariant_of-self g c =
    let e = c.self.inside.entries in
    let r = c.self.inside.rows in
    in_step-tried e c.put_both.new.entries c.args.cons.now c.args.entry r c.put_both.new.rows (inr c.in-Ok.ensures.entries) (ap (λ t. t.marks) c.in-Ok.ensures.rows) c.self.invariant
    (row-listed e c.put_both.new.entries r c.put_both.new.rows c.args.cons.now c.args.entry (c.args.place / 128) c.with_place.result c.in-Ok.ensures.entries c.in-Ok.ensures.rows)

pub invariant_of-self-in-Err : goal.invariant_of-self-in-Err
invariant_of-self-in-Err g c =
    in_step-tried c.self.inside.entries c.put_both.new.entries c.args.cons.now c.args.entry c.self.inside.rows c.put_both.new.rows c.in-Err.ensures.entries_err (ap (λ t. t.marks) c.in-Err.ensures.rows_err) c.self.invariant
    (λ other n none. ap (λ t. value_at row_cmp t.touched (n, other)) c.in-Err.ensures.rows_err)

pub returns-in-Ok-clause-ok : goal.returns-in-Ok-clause-ok
returns-in-Ok-clause-ok g c =
    let e = c.self.inside.entries in
    let r = c.self.inside.rows in
    (λ i. windowed (c.in-Ok.ensures.entries i) (c.in-Ok.ensures.rows i) c.self.inside.spent)
    ∙ vote-put e r c.self.inside.spent c.args.cons.now c.args.entry c.known.ensures.ordered c.args.place c.args.row c.with_place.result c.args.missed
    (subst (λ w. c.args.place ≤ length (ring_at w.kept c.args.cons.now)) (sym c.self.view_is) c.requires.place)
    (subst (λ w. c.args.entry.places ≡ length (ring_with c.args.place c.args.missed (ring_at w.kept c.args.cons.now))) (sym c.self.view_is) c.requires.places)
    (subst (λ w. IsRow (c.args.place / 128) c.args.row (ring_at w.kept c.args.cons.now)) (sym c.self.view_is) c.requires.row)
    c.with_place.ensures.here c.with_place.ensures.others
    ∙ ap (λ w. keeping (with_signed c.args.cons.now (record { info = c.args.entry.info; ring = ring_with c.args.place c.args.missed (ring_at w.kept c.args.cons.now) }) w.kept) w) c.self.view_is

pub returns-in-Ok-clause-behind : goal.returns-in-Ok-clause-behind
returns-in-Ok-clause-behind g c =
    behind-tried c.self.inside.entries c.put_both.new.entries c.args.cons.now c.args.entry c.self.inside.rows c.put_both.new.rows (inr c.in-Ok.ensures.entries) (ap (λ t. t.marks) c.in-Ok.ensures.rows)
    (ap (λ t. t.settled) c.in-Ok.ensures.rows) c.self.inside.spent c.self.inside.spent ∙ ap behind c.self.view_is

pub returns-in-Err-clause-behind : goal.returns-in-Err-clause-behind
returns-in-Err-clause-behind g c =
    behind-tried c.self.inside.entries c.put_both.new.entries c.args.cons.now c.args.entry c.self.inside.rows c.put_both.new.rows c.in-Err.ensures.entries_err (ap (λ t. t.marks) c.in-Err.ensures.rows_err)
    (ap (λ t. t.settled) c.in-Err.ensures.rows_err) c.self.inside.spent true ∙ ap behind c.self.view_is
