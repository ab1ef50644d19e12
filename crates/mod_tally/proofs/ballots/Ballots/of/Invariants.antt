use Rattle.std.proofs.Common.{◌≡◌, ℕ, List, drop}
use Rattle.std.specs.Option.{option_or}
use Rattle.base_types.specs.Orders.{addr_cmp}
use Rattle.base_roles.specs.Entries.{at}
use Rattle.mod_tally.specs.Ballots.{chosen_in}
use Rattle.mod_tally.proofs.ballots.Ballots.of.Given as goal

abbrev pub invariant-loop-voter : goal.invariant-loop-voter
invariant-loop-voter l =
    (voter : List ℕ) → option_or (chosen_in (drop l.voter-index l.cast) voter) (at addr_cmp l.ballots voter) ≡ chosen_in l.cast voter
