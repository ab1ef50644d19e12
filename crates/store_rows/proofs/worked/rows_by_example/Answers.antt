use Rattle.std.proofs.Common.{refl}
use Rattle.store_rows.proofs.RowsOnLiterals.{rows_on_literals}
use Rattle.store_rows.proofs.worked.rows_by_example.Goals as goal

pub returns-clause-balance : goal.returns-clause-balance
unfolding rows_on_literals
returns-clause-balance c = refl

pub returns-clause-module_key : goal.returns-clause-module_key
unfolding rows_on_literals
returns-clause-module_key c = refl

pub returns-clause-head : goal.returns-clause-head
unfolding rows_on_literals
returns-clause-head c = (refl, refl)

pub returns-clause-signing : goal.returns-clause-signing
unfolding rows_on_literals
returns-clause-signing c = (refl, refl)

pub returns-clause-rings : goal.returns-clause-rings
unfolding rows_on_literals
returns-clause-rings c = (refl, refl, refl)

pub returns-clause-coins : goal.returns-clause-coins
unfolding rows_on_literals
returns-clause-coins c = (refl, refl)

pub returns-clause-read_back : goal.returns-clause-read_back
unfolding rows_on_literals
returns-clause-read_back c = (refl, refl, refl, refl)

pub returns-clause-bad_ends : goal.returns-clause-bad_ends
unfolding rows_on_literals
returns-clause-bad_ends c = ((refl, refl), (refl, refl), (refl, refl), (refl, refl), (refl, refl))

pub returns-clause-bad_values : goal.returns-clause-bad_values
unfolding rows_on_literals
returns-clause-bad_values c = ((refl, refl), (refl, refl), (refl, refl), (refl, refl), (refl, refl))

pub returns-clause-bad_rings : goal.returns-clause-bad_rings
unfolding rows_on_literals
returns-clause-bad_rings c = (refl, refl, refl, refl, refl, refl)

pub returns-clause-bad_coins : goal.returns-clause-bad_coins
unfolding rows_on_literals
returns-clause-bad_coins c = ((refl, refl), (refl, refl), (refl, refl))
