use Rattle.std.proofs.Common.{◌∙◌, ◌^◌, ◌≤◌, [], length, sym, ap, subst, All, map, unwrap_or}
use Rattle.rule_modules.specs.EntrySlashes.{counted_of}
use Rattle.mod_entries.proofs.SourceLemmas.{all-found}
use Rattle.mod_entries.proofs.entries.Entries.counted_at.Goals as goal

pub counted_of-requires-clause-few : goal.counted_of-requires-clause-few
counted_of-requires-clause-few g c =
    subst (λ l. length l ≤ 100) (sym c.as_slice.ensures)
    (all-found g.K.Ord.cmp g.met.K.Ord.total g.met.K.EntryKey.exact (λ p. length p.1 ≤ 100) c.args.self.now.lists c.args.key.now c.in-Some.list.now c.requires.entries.most c.in-Some.ensures.value)

pub counted_of-requires-clause-initials : goal.counted_of-requires-clause-initials
counted_of-requires-clause-initials g c =
    subst (λ l. All (λ e. (g.E.Entry.made e).initial ≤ 10 ^ 18) l) (sym c.as_slice.ensures)
    (all-found g.K.Ord.cmp g.met.K.Ord.total g.met.K.EntryKey.exact (λ p. All (λ e. (g.E.Entry.made e).initial ≤ 10 ^ 18) p.1) c.args.self.now.lists c.args.key.now c.in-Some.list.now c.requires.entries.initials c.in-Some.ensures.value)

pub returns-in-Some-clause-value : goal.returns-in-Some-clause-value
returns-in-Some-clause-value g c =
    c.counted_of.ensures.value
    ∙ (λ i. counted_of c.args.infraction c.args.factor c.args.now (map g.E.Entry.made (c.as_slice.ensures i)))
    ∙ ap (λ o. counted_of c.args.infraction c.args.factor c.args.now (map g.E.Entry.made (unwrap_or o []))) c.in-Some.ensures.value

pub returns-in-None-clause-value : goal.returns-in-None-clause-value
returns-in-None-clause-value g c = ap (λ o. counted_of c.args.infraction c.args.factor c.args.now (map g.E.Entry.made (unwrap_or o []))) c.in-None.ensures.value
