use Rattle.std.proofs.Common.{◌∙◌, List, subst, sym}
use Rattle.base_roles.specs.declared.items.Item.{Item}
use Rattle.mod_tally.specs.Taken.{CanBeTallied, staked_in}
use Rattle.test_tally.proofs.Soundness.{staked_can}
use Rattle.test_tally.proofs.tests.counted_one_by_one.Goals as goal

pub count-requires : goal.count-requires
count-requires g c = subst (λ (items : List Item). CanBeTallied (staked_in items)) (sym (c.deref.ensures.value ∙ c.staked-items.ensures)) staked_can
