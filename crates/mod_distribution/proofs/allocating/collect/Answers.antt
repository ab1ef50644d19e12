use Rattle.std.proofs.Common.{refl, Ok, Err}
use Rattle.base_types.specs.declared.account.Account.TheVariants as account
use Rattle.base_types.specs.declared.account.Module.TheVariants as holder
use Rattle.mod_allocation.proofs.AnswerLemmas.{sends_behind, sends_given}
use Rattle.mod_distribution.proofs.allocating.collect.Goals as goal

pub returns-in-Ok-send-clause-moved : goal.returns-in-Ok-send-clause-moved
returns-in-Ok-send-clause-moved g c =
    sends_given (account.Module holder.FeeCollector) (account.Module holder.Distribution) _ (g.B.Bank.holdings c.args.g.now.bank) c.args.g.now.facts (g.B.Bank.holdings c.send.new.self) c.send.new.facts c.args.g.now.ctx (Ok tt) c.in-Ok-send.ensures.sends

pub returns-in-Ok-send-clause-undone : goal.returns-in-Ok-send-clause-undone
returns-in-Ok-send-clause-undone g c = record {
  marks = c.in-Ok-send.ensures.marks;
  ctx = refl;
  facts = sends_behind (account.Module holder.FeeCollector) (account.Module holder.Distribution) _ (g.B.Bank.holdings c.args.g.now.bank) c.args.g.now.facts (g.B.Bank.holdings c.send.new.self) c.send.new.facts (Ok tt) c.in-Ok-send.ensures.sends;
}

pub returns-in-Err-clause-undone : goal.returns-in-Err-clause-undone
returns-in-Err-clause-undone g c = record {
  marks = c.in-Err.ensures.marks;
  ctx = refl;
  facts = sends_behind (account.Module holder.FeeCollector) (account.Module holder.Distribution) _ (g.B.Bank.holdings c.args.g.now.bank) c.args.g.now.facts (g.B.Bank.holdings c.send.new.self) c.send.new.facts (Err c.in-Err.field-0) c.in-Err.ensures.sends;
}
