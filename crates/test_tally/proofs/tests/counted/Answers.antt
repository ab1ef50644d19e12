use Rattle.std.proofs.Common.{◌∙◌, List, subst, sym}
use Rattle.base_roles.specs.declared.items.Item.{Item}
use Rattle.mod_tally.specs.Taken.{CanBeTallied, staked_in}
use Rattle.test_tally.proofs.Soundness.{staked_can}
use Rattle.test_tally.proofs.tests.counted.Goals as goal

pub tally-requires : goal.tally-requires
tally-requires g c = subst (λ (items : List Item). CanBeTallied (staked_in items)) (sym (c.deref.ensures.value ∙ c.staked-items.ensures)) staked_can
