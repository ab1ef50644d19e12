-- One item more behind those that were gathered.
use Rattle.std.proofs.Common.{◌≡◌, List, [], ◌∷◌, ◌++◌, Option, refl}
use Rattle.base_roles.specs.declared.items.Item.{Item}
use Rattle.store_records.specs.Gathering.{Gathered, also, gathered}

pub gathered-more : (items : List Item) (i : Item) (g : Option Gathered) → gathered (items ++ i ∷ []) g ≡ also i (gathered items g)
gathered-more [] i g = refl
gathered-more (x ∷ items) i g = gathered-more items i (also x g)
