use Rattle.std.proofs.Common.{◌∙◌, Some, None, refl, sym, ap, option_map}
use Rattle.mod_signing.{specs.{Calls.ring_if, Kept.signed_of}, proofs.CallLemmas.{entry_has, entry_none, places_are}}
use Rattle.mod_signing.proofs.window.Window.ring.Goals as goal

pub of-requires : goal.of-requires
of-requires g c =
    let kept = c.self.inside.tables.kept in
    let x = c.in-Some.entry.now in
    record { places = sym (places_are kept c.args.cons.now x.info x.places (entry_has kept c.args.cons.now (Some x) c.in-Some.ensures.found x refl)) }

pub returns-in-Some-clause-ring : goal.returns-in-Some-clause-ring
returns-in-Some-clause-ring g c =
    let kept = c.self.inside.tables.kept in
    let x = c.in-Some.entry.now in
    let h = entry_has kept c.args.cons.now (Some x) c.in-Some.ensures.found x refl in
    ap Some (c.of.ensures ∙ ap ring_if h.1.0) ∙ sym (ap (option_map (λ s. s.ring)) h.1.0) ∙ ap (λ w. option_map (λ s. s.ring) (signed_of w.kept c.args.cons.now)) c.self.view_is

pub returns-in-None-clause-ring : goal.returns-in-None-clause-ring
returns-in-None-clause-ring g c =
    let kept = c.self.inside.tables.kept in
    sym (ap (option_map (λ s. s.ring)) (entry_none kept c.args.cons.now None c.in-None.ensures.found refl)) ∙ ap (λ w. option_map (λ s. s.ring) (signed_of w.kept c.args.cons.now)) c.self.view_is
