use Rattle.sqlite_wal.specs.Files.{image_at}
use Rattle.sqlite.specs.Files.{file_state}
use Rattle.store_sqlite.{specs.Kept.told, proofs.Finding.{finds_rows, opened_rises}}
use Rattle.store_sqlite.proofs.opening.SqlKeeper+FileStore+FileFrom+S.open.Goals as goal

pub taken-requires-clause-opens : goal.taken-requires-clause-opens
taken-requires-clause-opens g c clean = (c.in-Ok.ensures.opened clean).0

pub taken-requires-clause-rising : goal.taken-requires-clause-rising
taken-requires-clause-rising g c clean schema =
    let opened = c.in-Ok.ensures.opened clean in
    opened_rises (image_at g.S.Start) (file_state c.in-Ok.conn) (c.in-Ok.ensures.found clean) opened.0 opened.1 schema

pub returns-in-Ok-taken-clause-found : goal.returns-in-Ok-taken-clause-found
returns-in-Ok-taken-clause-found g c = rw c.over.ensures.connection λ clean db holds.
    let e = c.in-Ok-taken.ensures in
    let was = e.clean clean in
    let opened = c.in-Ok.ensures.opened was in
    finds_rows (image_at g.S.Start) (file_state c.in-Ok.conn) (told (file_state c.in-Ok-taken.conn)) (c.in-Ok.ensures.found was) opened.0 opened.1 e.which (e.rows clean) (e.fresh clean) db holds

pub returns-in-Ok-taken-clause-settled : goal.returns-in-Ok-taken-clause-settled
returns-in-Ok-taken-clause-settled g c = rw c.over.ensures.connection c.in-Ok-taken.ensures.settled
