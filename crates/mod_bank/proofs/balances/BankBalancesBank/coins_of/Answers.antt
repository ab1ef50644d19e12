use Rattle.std.proofs.Common.{◌∙◌, sym, ap, subst}
use Rattle.base_coins.specs.Coins.{sorted_coins}
use Rattle.base_roles.specs.Holdings.{IsBacked, coins_of}
use Rattle.mod_bank.proofs.PurseLemmas.{coins-below, sorted_already}
use Rattle.mod_bank.proofs.balances.BankBalancesBank.coins_of.Goals as goal

pub of-requires : goal.of-requires
of-requires g c =
    coins-below (λ x. (x.denom, x.amount)) c.in_ok-coins_of.field-0.items c.self.inside.tables.holdings c.args.who.now (subst (λ b. IsBacked b.holdings) (sym c.self.view_is) c.requires) c.in_ok-coins_of.ensures

pub returns-in-Ok-clause-coins : goal.returns-in-Ok-clause-coins
returns-in-Ok-clause-coins g c =
    c.in-Ok.ensures.coins ∙ ap sorted_coins c.in_ok-coins_of.ensures
    ∙ sorted_already c.self.inside.tables.holdings c.args.who.now (subst (λ b. IsBacked b.holdings) (sym c.self.view_is) c.requires)
    ∙ ap (λ b. coins_of b.holdings c.args.who.now) c.self.view_is
