use Rattle.std.proofs.Common.{◌≡◌, ◌∙◌, Bool, map, ap, ◌||◌, Ordering}
use Rattle.base_types.specs.{declared.account.Account.Account, Orders.account_cmp}
use Rattle.base_types.proofs.OrderLemmas.{account_order-account_cmp}
use Rattle.base_messages.specs.declared.genesis.GenesisAccount.{GenesisAccount}
use Rattle.base_coins.specs.Coins.{has_repeats}
use Rattle.rule_machine.specs.Genesis.{has_wrong_account}
use Rattle.chain_whole.proofs.ConditionLemmas.{if_ok}
use Rattle.chain_whole.proofs.accounts.has_wrong_account.Goals as goal

pub returns : goal.returns
returns c = if_ok _ (λ (b : Bool). b ≡ has_wrong_account c.args.accounts.now) c.has_repeat.result c.has_repeat.ensures
    (λ b e. e ∙ ap (λ (cmp : Account → Account → Ordering). has_repeats cmp c.deref.result.now) account_order-account_cmp
    ∙ ap (has_repeats account_cmp) (c.deref.ensures.value ∙ c.in_ok-addresses_of.ensures)
    ∙ ap (λ (t : Bool). t || has_repeats account_cmp (map (λ (a : GenesisAccount). a.address) c.args.accounts.now)) c.if-has_module.ensures)
