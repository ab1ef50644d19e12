use Rattle.std.proofs.Common.{inl, inr}
use Rattle.mod_signing.proofs.{ItemLemmas.always-err, TouchedLemmas.spent-is}
use Rattle.mod_signing.proofs.tables.put_both.Goals as goal

pub returns-in_err-put-clause-entries_err : goal.returns-in_err-put-clause-entries_err
returns-in_err-put-clause-entries_err g c = always-err _ (inl c.in_err-put.ensures.err)

pub returns-in_err-put-2-clause-entries_err : goal.returns-in_err-put-2-clause-entries_err
returns-in_err-put-2-clause-entries_err g c = always-err _ (inr c.in_ok-put.ensures.ok)

pub returns-in_err-put-2-clause-rows_err : goal.returns-in_err-put-2-clause-rows_err
returns-in_err-put-2-clause-rows_err g c = always-err _ (spent-is c.args.rows.now c.put-2.new.self c.in_err-put-2.ensures.err)
