use Rattle.run_app.proofs.KeepLemmas.{next_held, none_kept, stands_at, was_kept, was_unkept}
use Rattle.run_app.proofs.LineLemmas.{not_kept_is, not_kept_moved}
use Rattle.run_app.proofs.releasing.commit.Goals as goal

pub commit_next-requires : goal.commit_next-requires
commit_next-requires g c =
    let k = c.requires.kept in
    record { holds = next_held k.0 _ c.in-Some.chain _ _ _ k.1 k.2 c.in-Some.is k.3 k.4 }

pub returns-in-Ok-clause-ok : goal.returns-in-Ok-clause-ok
returns-in-Ok-clause-ok g c = λ b s t k.
    was_kept b _ _ _ _ s t k _ _ _ t c.in-Some.chain c.commit_next.new.chain (stands_at _ c.in-Some.chain t c.in-Some.is k.stands) c.in-Ok.ensures.kept c.in-Ok.ensures.settled c.in-Ok.ensures.commits

pub returns-in-Err-clause-err : goal.returns-in-Err-clause-err
returns-in-Err-clause-err g c = λ b s t k.
    was_unkept b _ _ _ _ s t k _ _ _ c.in-Err.fault t c.in-Some.chain (stands_at _ c.in-Some.chain t c.in-Some.is k.stands) c.in-Err.ensures.commits

pub returns-in-Err-clause-stop : goal.returns-in-Err-clause-stop
returns-in-Err-clause-stop g c = rw c.not_kept.ensures (not_kept_is c.in-Err.fault)

pub returns-in-Err-clause-keeps : goal.returns-in-Err-clause-keeps
returns-in-Err-clause-keeps g c = rw c.not_kept.ensures (not_kept_moved (Unit {0}) c.in-Err.fault _ _ c.in-Err.ensures.cause c.in-Err.ensures.quiet)

pub returns-in-None-clause-ok : goal.returns-in-None-clause-ok
returns-in-None-clause-ok g c = λ b s t k. none_kept b _ _ _ _ s t c.in-None.is k
