use Rattle.std.proofs.Common.{◌≡◌, ◌∙◌, ℕ, ◌+◌, List, ◌∷◌, drop, sym, ap}
use Rattle.std.specs.Option.{option_or}
use Rattle.base_types.specs.Orders.{addr_cmp}
use Rattle.base_roles.specs.Entries.{at}
use Rattle.mod_tally.{specs.Ballots.chosen_in, proofs.{Casting.{cast_next, or_none}, Told.next_is}}
use Rattle.mod_tally.proofs.ballots.Ballots.of.Goals as goal

pub loop-voter-init : goal.loop-voter-init
loop-voter-init c = λ voter.
    ap (λ es. option_or (chosen_in c.args.cast.now voter) (at addr_cmp es voter)) c.new-ballots.ensures ∙ or_none (chosen_in c.args.cast.now voter)

pub loop-voter-preserved : goal.loop-voter-preserved
loop-voter-preserved c = λ voter.
    let cast = c.args.cast.now in
    let later = drop (c.loop-voter.voter-index + 1) cast in
    let next : chosen_in (drop c.loop-voter.voter-index cast) voter ≡ chosen_in (c.loop-voter-item.result ∷ later) voter
    = next_is cast c.loop-voter.voter-index c.loop-voter-item.result (λ bs. chosen_in bs voter) (record { within = c.loop-voter-test.true; is = c.loop-voter-item.is }) in
    ap (λ es. option_or (chosen_in later voter) (at addr_cmp es voter)) c.in_ok-cast.ensures.cast
    ∙ cast_next c.loop-voter-item.result later c.loop-voter.ballots voter
    ∙ ap (λ o. option_or o (at addr_cmp c.loop-voter.ballots voter)) (sym next)
    ∙ c.loop-voter.invariant voter
