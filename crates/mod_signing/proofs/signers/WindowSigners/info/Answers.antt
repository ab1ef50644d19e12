use Rattle.std.proofs.Common.{◌∙◌, Some, None, refl, sym, ap, option_map}
use Rattle.base_types.specs.Orders.{cons_cmp}
use Rattle.base_roles.specs.Entries.{at}
use Rattle.mod_signing.{specs.Stands.infos_of, proofs.{CallLemmas.{entry_has, entry_none}, InfoLemmas.info_at}}
use Rattle.mod_signing.proofs.signers.WindowSigners.info.Goals as goal

pub returns-in-Some-clause-value : goal.returns-in-Some-clause-value
returns-in-Some-clause-value g c =
    let kept = c.self.inside.tables.kept in
    let cons = c.args.cons.now in
    let h = entry_has kept cons (Some c.in-Some.entry.now) c.in-Some.ensures.found c.in-Some.entry.now refl in
    ap Some h.1.1.0 ∙ sym (ap (option_map (λ s. s.info)) h.1.0) ∙ sym (info_at kept cons) ∙ ap (λ w. at cons_cmp (infos_of w.kept) cons) c.self.view_is

pub returns-in-None-clause-value : goal.returns-in-None-clause-value
returns-in-None-clause-value g c =
    let kept = c.self.inside.tables.kept in
    let cons = c.args.cons.now in
    sym (ap (option_map (λ s. s.info)) (entry_none kept cons None c.in-None.ensures.found refl)) ∙ sym (info_at kept cons) ∙ ap (λ w. at cons_cmp (infos_of w.kept) cons) c.self.view_is
