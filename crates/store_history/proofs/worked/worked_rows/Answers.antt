-- Each worked row by computing.
use Rattle.std.proofs.Common.{refl}
use Rattle.store_history.specs.History.{eight_bytes, number_in}
use Rattle.store_history.proofs.worked.worked_rows.Goals as goal

pub returns-clause-genesis : goal.returns-clause-genesis
unfolding eight_bytes number_in
returns-clause-genesis c = refl

pub returns-clause-block : goal.returns-clause-block
unfolding eight_bytes number_in
returns-clause-block c = refl

pub returns-clause-visible : goal.returns-clause-visible
unfolding eight_bytes number_in
returns-clause-visible c = refl

pub returns-clause-past : goal.returns-clause-past
unfolding eight_bytes number_in
returns-clause-past c = (refl, refl, refl, refl, refl, refl)

pub returns-clause-heights : goal.returns-clause-heights
unfolding eight_bytes number_in
returns-clause-heights c = (refl, refl)

pub returns-clause-anew : goal.returns-clause-anew
unfolding eight_bytes number_in
returns-clause-anew c = refl

pub returns-clause-base : goal.returns-clause-base
unfolding eight_bytes number_in
returns-clause-base c = refl
