use Rattle.std.proofs.Common.{◌∙◌, ap}
use Rattle.base_types.specs.declared.account.Account.TheVariants as account
use Rattle.base_types.specs.declared.account.Module.TheVariants as holder
use Rattle.store_soundness.{specs.Accounts.holds_just, proofs.BackingLemmas.holds_bonded_tokens}
use Rattle.store_soundness.proofs.stakes.holds_bonded.Goals as goal

pub returns : goal.returns
returns c =
    let r = c.args.records.now in
    c.holds_just.ensures
    ∙ ap (holds_just r.lists.balances.entries (account.Module holder.Bonded) r.ctx.params.bond_denom) c.bonded_tokens.ensures
    ∙ holds_bonded_tokens r.lists.balances.entries (account.Module holder.Bonded) r.ctx.params.bond_denom r.lists.validators.entries
