use Rattle.std.proofs.Common.{Some, option_map, sym, ◌∙◌, ap, subst}
use Rattle.std.specs.BTreeMap.{is_at}
use Rattle.base_table.{specs.Places.{filled, slot_of, slots, AreNamed}, proofs.EachLemmas.{lookup-each, remove-each}}
use Rattle.base_table.proofs.PlaceLemmas.{empty_slot, filled-clear, AreNamed-remove}
use Rattle.base_table.proofs.undo.clear_empty.Goals as goal

pub returns-clause-entries : goal.returns-clause-entries
returns-clause-entries g c =
    let ps = c.args.tree.now.entries in
    let test = is_at (g.K.Ord.cmp c.args.key.now) in
    ap (λ l. filled (slots l)) c.remove.ensures.entries ∙ ap filled (remove-each slot_of test ps)
    ∙ filled-clear test (slots ps) (lookup-each slot_of test ps ∙ ap (option_map slot_of) (sym c.in-Some.ensures.value) ∙ ap Some (empty_slot c.in-Some.place.now.slot (sym c.is_full.ensures ∙ c.if-is_full.false)))

pub returns-clause-named : goal.returns-clause-named
returns-clause-named g c = λ named.
    let ps = c.args.tree.now.entries in
    let test = is_at (g.K.Ord.cmp c.args.key.now) in
    subst (AreNamed g.K.Ord.cmp) (sym (ap slots c.remove.ensures.entries ∙ remove-each slot_of test ps)) (AreNamed-remove g.met.K.Ord.total test (slots ps) named)
