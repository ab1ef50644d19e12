use Rattle.std.proofs.Common.{◌≡◌, ◌<◌, ◌≤◌, ◌∙◌, true, false, length, get_or, sym, below_more, arith}
use Rattle.mod_statement.specs.{declared.entry.Entry.TheVariants.Ended, Entries.is_slash}
use Rattle.mod_statement.proofs.Stretches.{stretch_is, stretch_whole, slash_at}
use Rattle.mod_statement.proofs.slack.first_stretch.Goals as goal

pub loop-place-preserved : goal.loop-place-preserved
loop-place-preserved c =
    below_more (λ k. is_slash (get_or c.args.entries.now k Ended) ≡ false) c.loop-place.place c.loop-place.invariant
    (slash_at c.args.entries.now c.loop-place.place c.index-entries-place.result false (omega (arith, c.loop-place-test.true)) c.index-entries-place.is
    (sym c.is_slash.ensures ∙ c.if-is_slash.false))

pub returns-then-is_slash : goal.returns-then-is_slash
returns-then-is_slash c =
    let below : c.loop-place.place < length c.args.entries.now = omega (arith, c.loop-place-test.true) in
    let within : c.loop-place.place ≤ length c.args.entries.now = omega arith in
    c.split_at.ensures.front
    ∙ sym (stretch_is c.args.entries.now c.loop-place.place within c.loop-place.invariant
    (λ lt. slash_at c.args.entries.now c.loop-place.place c.index-entries-place.result true lt c.index-entries-place.is (sym c.is_slash.ensures ∙ c.if-is_slash.true)))

pub returns : goal.returns
returns c = sym (stretch_whole c.args.entries.now c.loop-place.place (omega (arith, c.loop-place-test.false)) c.loop-place.invariant)
