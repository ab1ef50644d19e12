use Rattle.std.proofs.Common.{◌<◌, length, subst, arith, All, take_all}
use Rattle.std.proofs.lemmas.{List.Elements.All-more, Result.err_from_is_err_and}
use Rattle.mod_statement.{specs.Entries.HasMoney, proofs.Walks.{sums_more, sums_fault, sums_end}}
use Rattle.mod_statement.proofs.sums.sums_of.Goals as goal

pub loop-entry-preserved : goal.loop-entry-preserved
loop-entry-preserved c =
    let within : c.loop-entry.entry-index < length c.args.rest.now = omega arith in
    record {
      so_far = sums_more _ c.loop-entry.sums c.in_ok-sums.sums c.args.rest.now c.loop-entry.entry-index c.entry-item.result within c.entry-item.is
          c.in_ok-sums.ensures.sums c.loop-entry.invariant.so_far;
      money = All-more HasMoney c.args.rest.now c.loop-entry.entry-index c.entry-item.result within c.loop-entry.invariant.money
          (subst HasMoney c.entry-item.is c.in_ok-sums.ensures.money);
    }

pub returns-clause-money : goal.returns-clause-money
returns-clause-money c = subst (All HasMoney) (take_all c.loop-entry.entry-index c.args.rest.now (omega arith)) c.loop-entry.invariant.money

pub returns-in_err-sums-clause-fault : goal.returns-in_err-sums-clause-fault
returns-in_err-sums-clause-fault c =
    let p = err_from_is_err_and c.from_residual.result c.from_residual.ensures.1 in
    rw (p.1, p.2) (sums_fault _ c.loop-entry.sums c.args.rest.now c.loop-entry.entry-index c.entry-item.result c.in_err-sums.field-0.0 (omega arith) c.entry-item.is
    c.in_err-sums.ensures.fault c.loop-entry.invariant.so_far)

pub returns-clause-sums : goal.returns-clause-sums
returns-clause-sums c = sums_end _ c.loop-entry.sums c.args.rest.now c.loop-entry.entry-index (omega arith) c.loop-entry.invariant.so_far
