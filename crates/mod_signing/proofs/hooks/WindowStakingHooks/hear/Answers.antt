use Rattle.std.proofs.Common.{◌∙◌, ◌≤◌, None, length, take, refl, sym, ap, subst, option_copied}
use Rattle.base_roles.proofs.HookLemmas.{told_as}
use Rattle.rule_modules.specs.Window.{signing_started}
use Rattle.mod_signing.specs.{Calls.{begun_entry, ring_at}, Kept.with_signed, Stands.{KeepsSignings, signings_told}}
use Rattle.mod_signing.proofs.{CallLemmas.{begun_places, begun_put}, StandLemmas.{keeps_begun, new_info_is}}
use Rattle.mod_signing.proofs.hooks.WindowStakingHooks.hear.Goals as goal

pub put_info-requires : goal.put_info-requires
put_info-requires g c = record {
  places = subst (λ x. x.places ≤ length (ring_at c.self.inside.tables.kept c.in-Bonded.validator.cons)) (sym c.begun-next.ensures)
      (begun_places c.self.inside.tables.kept c.in-Bonded.validator.cons c.args.g.now.ctx.height (option_copied c.entry.result) c.entry.ensures.found);
}

pub returns-in_ok-put_info-in-Bonded-clause-told : goal.returns-in_ok-put_info-in-Bonded-clause-told
returns-in_ok-put_info-in-Bonded-clause-told g c = λ h o.
    let old = c.self.inside.tables.kept in
    let cons = c.in-Bonded.validator.cons in
    let height = c.args.g.now.ctx.height in
    let kept = ap (λ t. t.kept) c.in_ok-put_info-in-Bonded.ensures.ok ∙ ap (λ x. with_signed cons (record { info = x.info; ring = take x.places (ring_at old cons) }) old) c.begun-next.ensures
    ∙ begun_put old cons height (option_copied c.entry.result) c.entry.ensures.found in
    told_as signings_told h _ _ _ _ _ _ c.in-Bonded.is (
      subst (λ k. KeepsSignings h.window k (signing_started height cons h.records)) (sym kept)
          (keeps_begun h.window height (begun_entry height None).info cons old h.records (new_info_is h.window height) (subst (λ w. KeepsSignings h.window w.kept h.records) (sym c.self.view_is) o)),
      refl,
    )
