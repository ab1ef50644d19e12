use Rattle.std.proofs.Common.{◌<◌, ℕ, arith}
use Rattle.std.proofs.lemmas.Result.{on_ok_weaker}
use Rattle.run_app.proofs.WaitLemmas.{stands_fewer}
use Rattle.run_app.proofs.releasing.settle.Goals as goal

below : (waiting every : ℕ) → waiting < 1 → 0 < every → waiting < every
below waiting every few some = omega (arith, few, some)

pub release-requires : goal.release-requires
release-requires g c =
    let r = c.requires.stands in
    record { stands = (r.0, c.args.every, r.1, r.2, r.3, r.4, r.5) }

pub returns-then-len-lt-MOST_HELD-clause-ok : goal.returns-then-len-lt-MOST_HELD-clause-ok
returns-then-len-lt-MOST_HELD-clause-ok g c = λ form b lines end from k. stands_fewer form _ b lines end _ _ _ _ from _ _ _ _ c.args.every c.if-progress-every.true k

pub returns-clause-ok : goal.returns-clause-ok
returns-clause-ok g c = λ form b lines end from k.
    on_ok_weaker c.release.result (λ r. stands_fewer form 1 b lines end _ _ _ _ from _ _ _ _ c.args.every (below _ _ r.waits.few c.requires.every) r) (c.release.ensures.ok form c.args.every b lines end from k)

pub returns-clause-stops : goal.returns-clause-stops
returns-clause-stops g c = λ form b lines end from k. c.release.ensures.stops form c.args.every b lines end from k
