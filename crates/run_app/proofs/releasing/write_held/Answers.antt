use Rattle.run_app.proofs.releasing.write_held.Goals as goal

pub returns-in-Ok-clause-ok : goal.returns-in-Ok-clause-ok
returns-in-Ok-clause-ok g c = rw c.deref.ensures.value at c.in-Ok.ensures.ok

pub returns-in-Err-Failed-clause-err : goal.returns-in-Err-Failed-clause-err
returns-in-Err-Failed-clause-err g c = rw c.deref.ensures.value at c.in-Err-Failed.ensures.err

pub returns-in-Err-NoMemory-clause-err : goal.returns-in-Err-NoMemory-clause-err
returns-in-Err-NoMemory-clause-err g c = rw c.deref.ensures.value at c.in-Err-NoMemory.ensures.err
