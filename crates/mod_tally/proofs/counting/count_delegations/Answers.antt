use Rattle.std.proofs.Common.{ℕ, List, sym}
use Rattle.base_types.specs.Orders.{addr_cmp}
use Rattle.base_roles.specs.Entries.{at}
use Rattle.mod_tally.{specs.Taken.delegation_in, proofs.Stepping.{along_next, along_same, first_can}}
use Rattle.mod_tally.proofs.Told.{told_none, told_some}
use Rattle.mod_tally.proofs.counting.count_delegations.Goals.{in-Some+in_ok-count_delegation, in_default}
use Rattle.mod_tally.proofs.counting.count_delegations.Goals as goal

pub count_delegation-requires : goal.count_delegation-requires
count_delegation-requires c =
    let d : (List ℕ × List ℕ) × ℕ = (c.in-Some.who, c.in-Some.shares) in
    let told = told_some c.args.items.now c.loop-item.item-index c.item-item.result delegation_in d (record { within = c.loop-item-test.true; is = c.item-item.is }) (sym c.in-Some.ensures) in
    first_can (at addr_cmp c.args.ballots.now) d _ (c.loop-item.polls.entries, c.loop-item.totals) _ c.choice_of-choice.result c.choice_of-choice.ensures
    (along_same (at addr_cmp c.args.ballots.now) _ _ (c.loop-item.polls.entries, c.loop-item.totals) _ told c.loop-item.invariant)

pub loop-item-preserved : goal.loop-item-preserved
loop-item-preserved c =
    elim c.match-delegation_in.branch [
      | in-Some+in_ok-count_delegation w ↦
          let d : (List ℕ × List ℕ) × ℕ = (w.in-Some.who, w.in-Some.shares) in
          let told = told_some c.args.items.now c.loop-item.item-index c.item-item.result delegation_in d (record { within = c.loop-item-test.true; is = c.item-item.is }) (sym w.in-Some.ensures) in
          rw (w.polls-is, w.totals-is)
          (along_next (at addr_cmp c.args.ballots.now) d _ (c.loop-item.polls.entries, c.loop-item.totals) _ _ w.choice_of-choice.result w.choice_of-choice.ensures w.in_ok-count_delegation.ensures.counted
          (along_same (at addr_cmp c.args.ballots.now) _ _ (c.loop-item.polls.entries, c.loop-item.totals) _ told c.loop-item.invariant))
      | in_default w ↦
          let told = told_none c.args.items.now c.loop-item.item-index c.item-item.result delegation_in (record { within = c.loop-item-test.true; is = c.item-item.is }) (sym w.in_default.ensures) in
          rw (w.polls-is, w.totals-is) (along_same (at addr_cmp c.args.ballots.now) _ _ (c.loop-item.polls.entries, c.loop-item.totals) _ told c.loop-item.invariant)
    ]
