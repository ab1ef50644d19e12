use Rattle.std.proofs.Common.{◌∙◌, ap, option_copied}
use Rattle.std.specs.{BTreeMap.Range.entries_between, declared.ops.Bound.TheVariants.Unbounded}
use Rattle.base_table.{specs.{Places.{filled, slots}, Tabled.{entry_above, first_of}}, proofs.WalkLemmas.entries_above}
use Rattle.base_table.proofs.places.Places.next.Goals as goal

pub returns : goal.returns
returns g c =
    c.first_from.ensures
    ∙ ap (λ b. first_of (entries_between g.K.Ord.cmp b Unbounded (filled (slots c.self.inside.tree.entries)))) c.start_above.ensures
    ∙ entries_above g.K.Ord.cmp (filled (slots c.self.inside.tree.entries)) (option_copied c.args.after)
    ∙ ap (λ m. entry_above g.K.Ord.cmp m.entries (option_copied c.args.after)) c.self.view_is
