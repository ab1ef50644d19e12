-- The laws, from their lemmas.
use Rattle.store_history.proofs.{PastLemmas.{is_one, what_stood}, TakenLemmas.keeps_history}
use Rattle.store_history.proofs.laws.past_rows_are_what_stood.Goals as goal

pub returns-clause-kept : goal.returns-clause-kept
returns-clause-kept c = keeps_history

pub returns-clause-stood : goal.returns-clause-stood
returns-clause-stood c = what_stood

pub returns-clause-one : goal.returns-clause-one
returns-clause-one c = is_one
