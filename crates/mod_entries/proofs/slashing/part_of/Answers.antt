use Rattle.std.proofs.Common.{◌≤◌, ◌^◌, sym, subst}
use Rattle.rule_modules.specs.EntrySlashes.{part_of}
use Rattle.mod_entries.proofs.CountLemmas.{part_few}
use Rattle.mod_entries.proofs.slashing.part_of.Goals as goal

pub returns-clause-most : goal.returns-clause-most
returns-clause-most g c =
    let made = g.E.Entry.made c.args.entry.now in
    subst (λ n. part_of c.raw.result n ≤ 10 ^ 18) (sym c.initial.ensures)
    (subst (λ r. part_of r made.initial ≤ 10 ^ 18) (sym c.raw.ensures.value) (part_few c.args.factor made.initial c.requires.factor c.requires.initial))
