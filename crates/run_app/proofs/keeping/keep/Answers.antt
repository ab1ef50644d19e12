use Rattle.std.proofs.Common.{◌≡◌, ◌∙◌, inl, inr, refl, rules}
use Rattle.store_history.proofs.KeepingLemmas.{become_before}
use Rattle.run_app.proofs.ModeLemmas.{nothing_done, rows_left}
use Rattle.run_app.proofs.OpenLemmas.{is_unopened, mode_unopened, never_bad_store, unopened_busy, unopened_keeps, unopened_unread, unopened_writes}
use Rattle.run_app.proofs.WayLemmas.{committing_few, kept_before}
use Rattle.run_app.proofs.keeping.keep.Goals as goal

pub carry_out_kept-status-requires-clause-few : goal.carry_out_kept-status-requires-clause-few
carry_out_kept-status-requires-clause-few g c = committing_few c.args.mode c.requires.commits

pub carry_out_kept-status-requires-clause-takes : goal.carry_out_kept-status-requires-clause-takes
carry_out_kept-status-requires-clause-takes g c = λ changes distinct. c.read_history.ensures.takes changes (c.requires.takes changes distinct)

pub returns-in-Ok-clause-ends : goal.returns-in-Ok-clause-ends
returns-in-Ok-clause-ends g c =
    let e = c.read_history.ensures in
    let back : c.keeper-1.given.0 ≡ c.carry_out_kept-status.result.1.now = search rules in
    rw back (inl (record {
      ends = kept_before c.args.form 1 c.args.mode c.requires.commits _ _ _ _ _ _ _ _ _ _ _ _ _ e.same c.in-Ok.ensures.told e.stop c.carry_out_kept-status.ensures.honest c.carry_out_kept-status.ensures.ends;
      became = become_before _ _ _ e.same c.carry_out_kept-status.ensures.became;
      history = c.carry_out_kept-status.ensures.history;
    }))

pub returns-in-Ok-clause-unkept : goal.returns-in-Ok-clause-unkept
returns-in-Ok-clause-unkept g c = λ off.
    let unkept = c.carry_out_kept-status.ensures.unkept (g.met.D.Keeper.keeps_alike c.read_history.new.keeper c.args.keeper.now ∙ off) in
    (unkept, never_bad_store c.args.form 1 c.args.mode _ _ _ _ _ _ _ _ _ c.carry_out_kept-status.result.0 c.requires.commits c.carry_out_kept-status.ensures.ends unkept)

pub returns-in-Err-clause-ends : goal.returns-in-Err-clause-ends
returns-in-Err-clause-ends g c =
    let e = c.read_history.ensures in
    rw c.status_of_open.ensures (inr (is_unopened c.in-Err.fault _ _ _ c.in-Err.ensures.told c.in-Err.ensures.bad, nothing_done _ _, rows_left _ _ _ _ _ e.same e.stop))

pub returns-in-Err-clause-busy : goal.returns-in-Err-clause-busy
returns-in-Err-clause-busy g c = rw c.status_of_open.ensures (unopened_busy c.in-Err.fault)

pub returns-in-Err-clause-unkept : goal.returns-in-Err-clause-unkept
returns-in-Err-clause-unkept g c = rw c.status_of_open.ensures (λ off. mode_unopened c.in-Err.fault c.args.mode _ _ c.requires.commits (c.in-Err.ensures.unkept off))

pub returns-in-Err-clause-reads : goal.returns-in-Err-clause-reads
returns-in-Err-clause-reads g c = rw (c.status_of_open.ensures, unopened_unread c.in-Err.fault) refl

pub returns-in-Err-clause-writes : goal.returns-in-Err-clause-writes
returns-in-Err-clause-writes g c = rw c.status_of_open.ensures (unopened_writes c.in-Err.fault _ _)

pub returns-in-Err-clause-keeps : goal.returns-in-Err-clause-keeps
returns-in-Err-clause-keeps g c = rw c.status_of_open.ensures (unopened_keeps c.in-Err.fault _ _ c.in-Err.ensures.cause c.in-Err.ensures.quiet)

pub returns-in-Ok-clause-keeps : goal.returns-in-Ok-clause-keeps
returns-in-Ok-clause-keeps g c =
    let back : c.keeper-1.given.0 ≡ c.carry_out_kept-status.result.1.now = search rules in
    rw (back, ← c.in-Ok.ensures.quiet) c.carry_out_kept-status.ensures.keeps
