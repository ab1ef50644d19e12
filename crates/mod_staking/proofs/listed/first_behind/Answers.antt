use Rattle.std.proofs.Common.{◌∙◌, ap, option_copied}
use Rattle.base_table.specs.Tabled.{entry_above}
use Rattle.mod_staking.proofs.PlaceLemmas.{behind-some, behind-none}
use Rattle.mod_staking.proofs.listed.first_behind.Goals as goal

pub returns-in-Some-clause-first : goal.returns-in-Some-clause-first
returns-in-Some-clause-first g c =
    let cmp = g.P.Place.Ord.cmp in
    let after = option_copied c.args.after in
    c.get.ensures.value
    ∙ behind-some cmp g.met.P.Place.Ord.total c.told.ensures.exact (g.P.Listing.place_of c.args.power_reduction) (c.told.ensures.apart c.args.power_reduction) c.args.records.now.entries after _ _
    c.known.ensures.ordered c.requires.keyed (c.in-Some.ensures.above ∙ ap (λ es. entry_above cmp es after) c.requires.listed.entries)

pub returns-in-None-clause-first : goal.returns-in-None-clause-first
returns-in-None-clause-first g c =
    let cmp = g.P.Place.Ord.cmp in
    let after = option_copied c.args.after in
    behind-none cmp g.met.P.Place.Ord.total c.told.ensures.exact (g.P.Listing.place_of c.args.power_reduction) (c.told.ensures.apart c.args.power_reduction) c.args.records.now.entries after
    (c.in-None.ensures.above ∙ ap (λ es. entry_above cmp es after) c.requires.listed.entries)
