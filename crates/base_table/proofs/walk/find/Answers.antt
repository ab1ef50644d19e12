use Rattle.std.proofs.Common.{option_map, sym, ◌∙◌, ap}
use Rattle.std.specs.BTreeMap.{is_at}
use Rattle.base_table.{specs.Places.{slot_of, slots}, proofs.EachLemmas.{lookup-each, lookup_key-each, sorted-each}}
use Rattle.base_table.proofs.PlaceLemmas.{entry-filled, found_entry, shown, value-absent}
use Rattle.base_table.proofs.walk.find.Goals as goal

pub returns-in-Some : goal.returns-in-Some
returns-in-Some g c =
    let ps = c.args.tree.now.entries in
    let test = is_at (g.K.Ord.cmp c.args.key.now) in
    c.entry.ensures ∙ sym (entry-filled g.met.K.Ord.total c.args.key.now (slots ps) (sorted-each slot_of g.K.Ord.cmp ps c.len.ensures.ordered) c.requires
    ∙ ap shown (found_entry test (slots ps) _ _ (c.in-Some.ensures.key ∙ sym (lookup_key-each slot_of test ps)) (ap (option_map slot_of) c.in-Some.ensures.value ∙ sym (lookup-each slot_of test ps))))

pub returns-in-None : goal.returns-in-None
returns-in-None g c =
    let ps = c.args.tree.now.entries in
    let test = is_at (g.K.Ord.cmp c.args.key.now) in
    sym (value-absent g.met.K.Ord.total c.args.key.now (slots ps) (sorted-each slot_of g.K.Ord.cmp ps c.len.ensures.ordered) c.requires
    (lookup-each slot_of test ps ∙ ap (option_map slot_of) (sym c.in-None.ensures.value)))
