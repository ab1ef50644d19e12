use Rattle.std.proofs.Common.{◌≡◌, ◌∙◌, true, false, refl, sym, ap}
use Rattle.mod_bank.{specs.Items.{is_holding, items_of}, proofs.ItemLemmas.{no_holding, balance-added, supply-added}}
use Rattle.base_records.proofs.KindLemmas.{added-at}
use Rattle.mod_bank.proofs.records.BankBalancesRecords.load.Goals as goal

pub returns-in_default : goal.returns-in_default
returns-in_default g c =
    let none : is_holding c.args.item.now ≡ false = no_holding c.args.item.now c.in_default.not-Balance c.in_default.not-Supply in
    record {
      kind = sym none;
      added = λ h. let f : false ≡ true = sym none ∙ h in absurd cc;
      other = λ _. refl;
      marks = refl;
      settled = refl;
      spent = λ h. sym c.if-is_spent.false ∙ c.is_spent.ensures ∙ ap (λ b. b.spent) c.self.view_is ∙ h;
      spent_ok = refl;
      spent_err = tt;
    }

pub returns-in_ok-put_balance-in-Balance-clause-added : goal.returns-in_ok-put_balance-in-Balance-clause-added
returns-in_ok-put_balance-in-Balance-clause-added g c = λ _.
    added-at items_of c.self.inside.tables.holdings _ c.args.self.now.holdings c.put_balance.new.self.holdings _ c.args.item.now
    (balance-added c.self.inside.tables.holdings (c.in-Balance.account, c.in-Balance.denom) c.in-Balance.amount c.put_balance.ensures.ordered)
    (ap (λ b. b.holdings) c.self.view_is) (ap (λ b. b.holdings) c.in_ok-put_balance-in-Balance.ensures.changes.ok) c.in-Balance.is

pub returns-in_ok-put_supply-in-Supply-clause-added : goal.returns-in_ok-put_supply-in-Supply-clause-added
returns-in_ok-put_supply-in-Supply-clause-added g c = λ _.
    added-at items_of c.self.inside.tables.holdings _ c.args.self.now.holdings c.put_supply.new.self.holdings _ c.args.item.now
    (supply-added c.self.inside.tables.holdings c.in-Supply.denom c.in-Supply.amount c.put_supply.ensures.ordered)
    (ap (λ b. b.holdings) c.self.view_is) (ap (λ b. b.holdings) c.in_ok-put_supply-in-Supply.ensures.changes.ok) c.in-Supply.is
