-- A chain as contracts see it.
use Rattle.std.specs.Prelude.{Bool, Option, Some, None}
use Rattle.base_coins.specs.declared.coin.Coin.{Coin}
use Rattle.base_roles.specs.declared.items.Item.{Item}
use Rattle.base_roles.specs.declared.items.Item.TheVariants as item
use Rattle.base_roles.specs.declared.no_hooks.NoHooks.{NoHooks}
use Rattle.base_roles.specs.declared.params.Ctx.{Ctx}
use Rattle.chain_modules.specs.declared.modules.Modules.{Modules}
use Rattle.chain_modules.specs.Kept.{KeptState, kept_of, listener_of}
use Rattle.chain_modules.specs.Marks.{settled_over}

-- what a chain keeps, what it kept at the last settling, whether memory was wanting in a block, and who listens to it
pub record Listened (E : Type 0) : Type 0 where
  pub kept : KeptState
  pub settled : KeptState
  pub spent : Bool
  pub listener : E

-- the same of a chain to which nobody listens
abbrev pub Chained : Type 0
Chained = Listened NoHooks

-- the same of its modules, which were settled over a context
abbrev pub chained : {E : Type 0} → Modules E → Ctx → Bool → Listened E
chained m settled spent = record { kept = kept_of m; settled = settled_over settled m; spent = spent; listener = listener_of m }

-- the coin of a supply
unfoldable pub coin_in : Item → Option Coin
coin_in (item.Supply d n) = Some (record { denom = d; amount = n })
coin_in _ = None
