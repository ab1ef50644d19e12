use Rattle.std.proofs.Common.{◌∙◌, append_assoc}
use Rattle.std.proofs.lemmas.Result.{on_ok_weaker}
use Rattle.store_rows.proofs.writing.push_validator.Goals as goal

pub returns-clause-written : goal.returns-clause-written
returns-clause-written c = on_ok_weaker c.push_moment.result (λ h. h ∙ rw (c.in_ok-push_u64.ensures, c.in_ok-push_u128-2.ensures, c.in_ok-push_commission.ensures.written, c.in_ok-push_decimal.ensures.written, c.in_ok-push_u128.ensures, c.in_ok-push_truth.ensures, c.in_ok-push_status.ensures, c.in_ok-push_cons.ensures.written) (simp append_assoc)) c.push_moment.ensures.written
