use Rattle.line_report.{specs.Groups.report_from, proofs.ReportLemmas.in_turn}
use Rattle.line_report.proofs.reporting.report.Goals as goal

pub returns-clause-text : goal.returns-clause-text
returns-clause-text c =
    in_turn c.args.form (report_from c.args.items.now c.args.pending.now) c.new-out.result.items c.supply.new.out.items c.accounts.new.out.items c.validators_with_purses.new.out.items c.shares.new.out.items c.rewards.new.out.items c.unbonding_entries.new.out.items c.redelegation_entries.new.out.items c.votes.new.out.items c.community_pool.new.out.items
    c.new-out.ensures.items c.in_ok-supply.ensures.ok c.in_ok-accounts.ensures.ok c.in_ok-validators_with_purses.ensures.ok c.in_ok-shares.ensures.ok c.in_ok-rewards.ensures.ok c.in_ok-unbonding_entries.ensures.ok c.in_ok-redelegation_entries.ensures.ok c.in_ok-votes.ensures.ok c.in_ok-community_pool.ensures.ok
