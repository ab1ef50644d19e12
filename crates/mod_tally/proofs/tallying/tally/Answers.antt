use Rattle.std.proofs.Common.{◌≡◌, IfOk, subst}
use Rattle.base_types.specs.Orders.{addr_cmp}
use Rattle.base_roles.specs.Entries.{at}
use Rattle.mod_tally.specs.{Ballots.{Chosen, chosen_in}, Taken.staked_in, Tally.tally_of}
use Rattle.mod_tally.proofs.tallying.tally.Goals as goal

pub returns-clause-tally : goal.returns-clause-tally
returns-clause-tally c =
    let same : ◌≡◌ {A = Chosen} (at addr_cmp c.in_ok-cast.cast) (chosen_in c.args.ballots.now) = λ i voter. c.in_ok-cast.ensures.chosen voter i in
    subst (λ (chosen : Chosen). IfOk c.count.result (λ tally. tally ≡ tally_of (staked_in c.args.items.now) chosen)) same c.count.ensures.tally
