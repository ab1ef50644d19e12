use Rattle.std.proofs.Common.{inl, inr}
use Rattle.mod_signing.proofs.{ItemLemmas.always-err, TouchedLemmas.other-unlisted}
use Rattle.mod_signing.proofs.tables.put_whole.Goals as goal

pub returns-in_err-put-clause-entries_err : goal.returns-in_err-put-clause-entries_err
returns-in_err-put-clause-entries_err g c = always-err _ (inl c.in_err-put.ensures.err)

pub returns-in_err-put_ring-clause-entries_err : goal.returns-in_err-put_ring-clause-entries_err
returns-in_err-put_ring-clause-entries_err g c = always-err _ (inr c.in_ok-put.ensures.ok)

pub returns-in_err-put_ring-clause-touched : goal.returns-in_err-put_ring-clause-touched
returns-in_err-put_ring-clause-touched g c = λ other number none.
    c.put_ring.ensures.touched other number (other-unlisted c.args.entries.now c.put.new.self c.args.cons.now c.args.entry c.in_ok-put.ensures.ok other none)

pub returns-clause-touched : goal.returns-clause-touched
returns-clause-touched g c = λ other number none.
    c.put_ring.ensures.touched other number (other-unlisted c.args.entries.now c.put.new.self c.args.cons.now c.args.entry c.in_ok-put.ensures.ok other none)
