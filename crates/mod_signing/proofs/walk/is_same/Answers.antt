use Rattle.std.proofs.Common.{◌≡◌, ◌∙◌, true, false, sym, ap, arith}
use Rattle.std.proofs.lemmas.Grind.{common_steps}
use Rattle.mod_signing.specs.{Rings.ring_of, Items.signed_over}
use Rattle.mod_signing.proofs.ItemLemmas.{as-rings, other-info, other-length, other-ring}
use Rattle.mod_signing.proofs.walk.is_same.Goals as goal

pub returns-then-not-same_info : goal.returns-then-not-same_info
returns-then-not-same_info g c =
    let no : c.same_info.result ≡ false = grind (arith, common_steps, c.if-not-same_info.true) in
    let t = c.args.rows.now in
    other-info (signed_over t.settled c.args.cons.now c.args.old.now) (signed_over t.entries c.args.cons.now c.args.entry.now) (sym c.same_info.ensures ∙ no)

pub returns-then-old-entry : goal.returns-then-old-entry
returns-then-old-entry g c =
    let yes : c.same_info.result ≡ true = grind (arith, common_steps, c.if-not-same_info.false) in
    let t = c.args.rows.now in
    other-ring (signed_over t.settled c.args.cons.now c.args.old.now) (signed_over t.entries c.args.cons.now c.args.entry.now) (sym c.same_info.ensures ∙ yes)
    (other-length t.settled t.entries c.args.cons.now c.args.old.now.places c.args.entry.now.places c.if-old-entry.true)

pub returns : goal.returns
returns g c =
    let yes : c.same_info.result ≡ true = grind (arith, common_steps, c.if-not-same_info.false) in
    let t = c.args.rows.now in
    let places : ring_of t.settled c.args.cons.now c.args.old.now.places ≡ ring_of t.settled c.args.cons.now c.args.entry.now.places = ap (ring_of t.settled c.args.cons.now) c.if-old-entry.false in
    as-rings (signed_over t.settled c.args.cons.now c.args.old.now) (signed_over t.entries c.args.cons.now c.args.entry.now) c.has_stayed.result (sym c.same_info.ensures ∙ yes)
    (λ h. places ∙ c.has_stayed.ensures.yes h) (λ h e. c.has_stayed.ensures.no h (sym places ∙ e))
