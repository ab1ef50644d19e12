use Rattle.std.proofs.Common.{◌∙◌, ◌∷◌, []}
use Rattle.std.proofs.lemmas.Result.{on_ok_weaker}
use Rattle.store_rows.specs.{Fields.{denom_bytes, eight_bytes, sixteen_bytes, truth_byte}, Rows.later_params_bytes}
use Rattle.store_rows.proofs.FieldLemmas.{nine_pieces}
use Rattle.store_rows.proofs.writing.push_params.Goals as goal

pub returns-clause-written : goal.returns-clause-written
returns-clause-written c =
    let p = c.args.params.now in
    on_ok_weaker c.push_later_params.result
    (λ h. h ∙ rw (c.in_ok-push_truth.ensures, c.in_ok-push_decimal-2.ensures.written, c.in_ok-push_decimal.ensures.written, c.in_ok-push_u64-4.ensures, c.in_ok-push_u64-3.ensures, c.in_ok-push_u64-2.ensures, c.in_ok-push_u64.ensures, c.in_ok-push_denom.ensures.written)
    (nine_pieces c.args.out.now.items (denom_bytes p.bond_denom) (eight_bytes p.power_reduction) (eight_bytes p.unbonding_time) (eight_bytes p.max_validators) (eight_bytes p.max_entries) (sixteen_bytes p.min_commission_rate) (sixteen_bytes p.community_tax) (truth_byte p.withdraw_addr_enabled ∷ []) (later_params_bytes p)))
    c.push_later_params.ensures.written
