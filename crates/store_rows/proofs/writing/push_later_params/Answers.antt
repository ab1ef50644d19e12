use Rattle.std.proofs.Common.{◌∙◌, append_assoc}
use Rattle.std.proofs.lemmas.Result.{on_ok_weaker}
use Rattle.store_rows.proofs.writing.push_later_params.Goals as goal

pub returns-clause-written : goal.returns-clause-written
returns-clause-written c = on_ok_weaker c.push_user.result (λ h. h ∙ rw (c.in_ok-push_u64-4.ensures, c.in_ok-push_u64-3.ensures, c.in_ok-push_decimal-3.ensures.written, c.in_ok-push_decimal-2.ensures.written, c.in_ok-push_u64-2.ensures, c.in_ok-push_decimal.ensures.written, c.in_ok-push_u64.ensures) (simp append_assoc)) c.push_user.ensures.written
