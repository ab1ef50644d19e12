use Rattle.std.proofs.Common.{◌∙◌, ap, subst}
use Rattle.mod_staking.{specs.Places.AreMoved, proofs.ListedLemmas.{all_listed-moved, moved_through}}
use Rattle.mod_staking.proofs.listed.write.Goals as goal

pub returns-in-Ok-clause-listed : goal.returns-in-Ok-clause-listed
returns-in-Ok-clause-listed g c =
    let n = c.args.power_reduction in
    let operator = c.args.operator.now in
    let now = c.args.now.now in
    let moved = subst (λ was. AreMoved n was now operator c.mark.new.self c.write_all.new.lists) (c.copied-was.ensures ∙ c.get.ensures.value) c.in-Ok.ensures.moved in
    let r = moved_through n _ now operator c.args.lists.now c.mark.new.self c.write_all.new.lists c.forget.new.self c.in_ok-mark.ensures.by_power c.in_ok-mark.ensures.bonded c.in_ok-mark.ensures.maturing
    moved c.write_all.ensures.list_marks c.forget.ensures.by_power c.forget.ensures.bonded c.forget.ensures.maturing in
    all_listed-moved n c.args.records.now c.write_all.new.records c.args.lists.now c.forget.new.self c.requires.listed operator now c.requires.own c.known.ensures.ordered c.requires.keyed
    c.in-Ok.ensures.ok r.0 c.write_all.ensures.marks r.1
