use Rattle.std.proofs.Common.{◌∙◌, Some, None, refl, sym, subst}
use Rattle.mod_signing.{specs.Stands.KeepsSignings, proofs.CallLemmas.{entry_has, entry_none}}
use Rattle.mod_signing.proofs.UnjailLemmas.{leaves_at, leaves_none}
use Rattle.mod_signing.proofs.window.Window.may_leave.Goals as goal

pub returns-in-Some-clause-told : goal.returns-in-Some-clause-told
returns-in-Some-clause-told g c = λ window i keeps.
    let kept = c.self.inside.tables.kept in
    let x = c.in-Some.entry.now in
    let he = entry_has kept c.args.cons.now (Some x) c.in-Some.ensures.found x refl in
    c.is_over.ensures ∙ sym (leaves_at window c.args.now kept i c.args.cons.now x.info x.places (subst (λ w. KeepsSignings window w.kept i) (sym c.self.view_is) keeps) he)

pub returns-in-None-clause-told : goal.returns-in-None-clause-told
returns-in-None-clause-told g c = λ window i keeps.
    let kept = c.self.inside.tables.kept in
    sym (leaves_none window c.args.now kept i c.args.cons.now (subst (λ w. KeepsSignings window w.kept i) (sym c.self.view_is) keeps) (entry_none kept c.args.cons.now None c.in-None.ensures.found refl))
