use Rattle.std.proofs.Common.{ap, sym, arith}
use Rattle.mod_statement.{specs.Slack.denoms_with, proofs.Walks.{denoms_more, denoms_end}}
use Rattle.mod_statement.proofs.denoms.put_all.Goals as goal

pub loop-coin-init : goal.loop-coin-init
loop-coin-init c = ap (denoms_with c.args.denoms.now.items) (sym c.as_slice-coin-items.ensures.value)

pub loop-coin-preserved : goal.loop-coin-preserved
loop-coin-preserved c =
    denoms_more _ c.loop-coin.denoms.items c.put.new.denoms.items c.as_slice-coin-items.result.now c.loop-coin.coin-index c.coin-item.result (omega arith) c.coin-item.is
    c.in_ok-put.ensures.denoms c.loop-coin.invariant

pub returns-clause-denoms : goal.returns-clause-denoms
returns-clause-denoms c = sym (denoms_end _ c.loop-coin.denoms.items c.as_slice-coin-items.result.now c.loop-coin.coin-index (omega arith) c.loop-coin.invariant)
