use Rattle.std.proofs.Common.{◌∙◌, ap}
use Rattle.base_types.specs.declared.account.Account.TheVariants as account
use Rattle.base_types.specs.declared.account.Module.TheVariants as holder
use Rattle.store_soundness.{specs.Accounts.{holds_just, with_unbondings}, proofs.AccountLemmas.holds_other_tokens}
use Rattle.store_soundness.proofs.stakes.holds_not_bonded.Goals as goal

pub returns : goal.returns
returns c =
    let r = c.args.records.now in
    c.holds_just.ensures
    ∙ ap (holds_just r.lists.balances.entries (account.Module holder.NotBonded) r.ctx.params.bond_denom) (c.with_unbondings.ensures ∙ ap (with_unbondings r.lists.unbondings.entries) c.other_tokens-tokens.ensures)
    ∙ holds_other_tokens r.lists.balances.entries (account.Module holder.NotBonded) r.ctx.params.bond_denom r.lists.validators.entries r.lists.unbondings.entries
