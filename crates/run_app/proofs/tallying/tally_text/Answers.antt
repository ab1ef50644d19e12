use Rattle.std.proofs.Common.{◌∙◌, sym, subst}
use Rattle.mod_tally.specs.Taken.{CanBeTallied, staked_in}
use Rattle.run_app.proofs.TallyLemmas.{tally_told}
use Rattle.run_app.proofs.tallying.tally_text.Goals as goal

pub count-requires : goal.count-requires
count-requires c =
    let p = c.requires.sound in
    subst (λ items. CanBeTallied (staked_in items)) (sym (c.deref.ensures.value ∙ c.in-Ok.ensures.items p.0 p.2)) (c.sound_states_are_tallied.ensures p.0 p.1).can

pub returns-in-Ok-push_line_of_tally-clause-text : goal.returns-in-Ok-push_line_of_tally-clause-text
returns-in-Ok-push_line_of_tally-clause-text c = λ p sound s.
    tally_told p _ _ _ _ _ (c.sound_states_are_tallied.ensures p sound) (c.deref.ensures.value ∙ c.in-Ok.ensures.items p s) c.in-Ok-count.ensures.tally c.new-text.ensures.items
    c.in-Ok-push_line_of_tally.ensures.text
