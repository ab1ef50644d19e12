use Rattle.std.proofs.Common.{rules, ◌≡◌, ◌∙◌, Some, None, sym, ap}
use Rattle.base_types.specs.Orders.{cons_cmp}
use Rattle.base_roles.specs.Entries.{at}
use Rattle.mod_signing.proofs.WalkLemmas.{signing_change, signings-more, signings-same}
use Rattle.mod_signing.proofs.walk.changes_into.Goals as goal

pub loop-cons-preserved-in-Continue-branch-3 : goal.loop-cons-preserved-in-Continue-branch-3
loop-cons-preserved-in-Continue-branch-3 g c =
    let settled = c.args.rows.now.settled in
    let rows = c.args.rows.now.entries in
    let es = c.args.entries.now.entries in
    let cons = c.in-Some.cons.now in
    let was = c.in-Some.was.now in
    let change : signing_change settled rows cons was (at cons_cmp es cons) ≡ Some c.in-Some-2.change
    = ap (signing_change settled rows cons was) (sym c.get-now.ensures.value) ∙ sym c.in_ok-change.ensures ∙ c.in-Some-2.is in
    signings-more settled rows c.args.out.now.items c.args.entries.now.touched es c.loop-cons.out.items c.push.new.self.items c.loop-cons.cons-iterator c.next.new.self cons was c.in-Some-2.change
    c.loop-cons.invariant c.in-Some.ensures.steps change c.in_ok-push.ensures.items

pub loop-cons-preserved : goal.loop-cons-preserved
loop-cons-preserved g c =
    let settled = c.args.rows.now.settled in
    let rows = c.args.rows.now.entries in
    let es = c.args.entries.now.entries in
    let cons = c.in-Some.cons.now in
    let was = c.in-Some.was.now in
    let none : c.in_ok-change.field-0 ≡ None = search rules in
    let change : signing_change settled rows cons was (at cons_cmp es cons) ≡ None
    = ap (signing_change settled rows cons was) (sym c.get-now.ensures.value) ∙ sym c.in_ok-change.ensures ∙ none in
    signings-same settled rows c.args.out.now.items c.args.entries.now.touched es c.loop-cons.out.items c.loop-cons.cons-iterator c.next.new.self cons was
    c.loop-cons.invariant c.in-Some.ensures.steps change
