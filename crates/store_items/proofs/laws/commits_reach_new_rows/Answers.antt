use Rattle.store_items.proofs.{Ordinary.ordinary, Reached.{all_change, are_distinct, rows_reached}}
use Rattle.store_items.proofs.laws.commits_reach_new_rows.Goals as goal

pub returns-clause-distinct : goal.returns-clause-distinct
returns-clause-distinct c = are_distinct

pub returns-clause-changing : goal.returns-clause-changing
returns-clause-changing c = all_change

pub returns-clause-reached : goal.returns-clause-reached
returns-clause-reached c = rows_reached

pub returns-clause-ordinary : goal.returns-clause-ordinary
returns-clause-ordinary c = ordinary
