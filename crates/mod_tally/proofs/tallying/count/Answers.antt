use Rattle.std.proofs.Common.{◌≡◌, ◌∙◌, ℕ, ◌^◌, ◌<◌, List, length, arith, sym, ap, subst, filter_map, sum_by}
use Rattle.base_types.specs.Orders.{addr_cmp}
use Rattle.base_roles.specs.Entries.{at}
use Rattle.rule_machine.specs.Orders.{in_order}
use Rattle.mod_tally.specs.Ballots.{Chosen}
use Rattle.mod_tally.specs.Counting.{CanClose, CanWalk, Running, bonded_in, closed, nothing_counted, poll_in, walked}
use Rattle.mod_tally.specs.{Taken.delegation_in, Tally.Delegations}
use Rattle.mod_tally.proofs.Tallied.{IsCounted, bonded_few, counted_all, start_of}
use Rattle.mod_tally.proofs.tallying.count.Goals as goal

pub bonded_tokens-requires : goal.bonded_tokens-requires
bonded_tokens-requires c = bonded_few c.args.items.now c.requires

pub count_delegations-requires : goal.count_delegations-requires
count_delegations-requires c =
    let chosen : Chosen = at addr_cmp c.args.ballots.now in
    let ds : Delegations = filter_map delegation_in c.args.items.now in
    let all : IsCounted c.args.items.now chosen (start_of c.args.items.now) = counted_all c.args.items.now chosen c.item_count.ensures.few c.requires in
    let begin : ◌≡◌ {A = Running} (c.in_ok-polls.polls.entries, c.nothing_counted-totals.result) (start_of c.args.items.now)
    = λ i. (c.in_ok-polls.ensures.polls i, (c.nothing_counted-totals.ensures ∙ ap nothing_counted c.bonded_tokens.ensures) i) in
    subst (CanWalk chosen ds) (sym begin) all.can_walk

pub count_operators-requires : goal.count_operators-requires
count_operators-requires c =
    let chosen : Chosen = at addr_cmp c.args.ballots.now in
    let ds : Delegations = filter_map delegation_in c.args.items.now in
    let all : IsCounted c.args.items.now chosen (start_of c.args.items.now) = counted_all c.args.items.now chosen c.item_count.ensures.few c.requires in
    let begin : ◌≡◌ {A = Running} (c.in_ok-polls.polls.entries, c.nothing_counted-totals.result) (start_of c.args.items.now)
    = λ i. (c.in_ok-polls.ensures.polls i, (c.nothing_counted-totals.ensures ∙ ap nothing_counted c.bonded_tokens.ensures) i) in
    let after : ◌≡◌ {A = Running} (c.count_delegations.new.polls.entries, c.count_delegations.new.totals) (walked chosen ds (start_of c.args.items.now))
    = c.in_ok-count_delegations.ensures.walked ∙ ap (walked chosen ds) begin in
    subst (λ (r : Running). CanClose chosen r.0 r.1) (sym after) all.can_close

pub returns-clause-tally : goal.returns-clause-tally
returns-clause-tally c =
    let chosen : Chosen = at addr_cmp c.args.ballots.now in
    let ds : Delegations = filter_map delegation_in c.args.items.now in
    let all : IsCounted c.args.items.now chosen (start_of c.args.items.now) = counted_all c.args.items.now chosen c.item_count.ensures.few c.requires in
    let begin : ◌≡◌ {A = Running} (c.in_ok-polls.polls.entries, c.nothing_counted-totals.result) (start_of c.args.items.now)
    = λ i. (c.in_ok-polls.ensures.polls i, (c.nothing_counted-totals.ensures ∙ ap nothing_counted c.bonded_tokens.ensures) i) in
    let after : ◌≡◌ {A = Running} (c.count_delegations.new.polls.entries, c.count_delegations.new.totals) (walked chosen ds (start_of c.args.items.now))
    = c.in_ok-count_delegations.ensures.walked ∙ ap (walked chosen ds) begin in
    c.count_operators.ensures ∙ ap (λ (r : Running). closed chosen r.0 r.1) after ∙ all.is
