use Rattle.std.proofs.Common.{option_map, sym, ◌∙◌, ap}
use Rattle.std.specs.BTreeMap.{is_at}
use Rattle.base_table.{specs.{Places.{stamp_of, stamps}, Tabled.value_at}, proofs.EachLemmas.lookup-each}
use Rattle.base_table.proofs.StampLemmas.{listed-by_stamp, unlisted-without}
use Rattle.base_table.proofs.places.Places.touched_value.Goals as goal

pub returns-in-Some : goal.returns-in-Some
returns-in-Some g c =
    let ps = c.self.inside.tree.entries in
    let test = is_at (g.K.Ord.cmp c.args.key.now) in
    c.listed_at.ensures
    ∙ listed-by_stamp g.met.K.Ord.total c.self.inside.touched.entries (stamps ps) c.args.key.now c.in-Some.place.now.stamp c.self.invariant.1
    (lookup-each stamp_of test ps ∙ ap (option_map stamp_of) (sym c.in-Some.ensures.value))
    ∙ ap (λ m. value_at g.K.Ord.cmp m.touched c.args.key.now) c.self.view_is

pub returns-in-None : goal.returns-in-None
returns-in-None g c =
    let ps = c.self.inside.tree.entries in
    let test = is_at (g.K.Ord.cmp c.args.key.now) in
    sym (unlisted-without g.met.K.Ord.total 0 c.self.inside.touched.entries (stamps ps) c.args.key.now c.self.invariant.1
    (lookup-each stamp_of test ps ∙ ap (option_map stamp_of) (sym c.in-None.ensures.value)))
    ∙ ap (λ m. value_at g.K.Ord.cmp m.touched c.args.key.now) c.self.view_is
