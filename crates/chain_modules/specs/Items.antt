-- What the modules keep, as items of the state.
use Rattle.std.specs.Prelude.{◌==◌, ◌&&◌, Bool, true, if◌then◌else◌, List, [], ◌∷◌, ◌++◌}
use Rattle.std.specs.Str.{bytes_eq}
use Rattle.base_roles.specs.declared.items.Item.{Item}
use Rattle.base_roles.specs.declared.items.Item.TheVariants as item
use Rattle.base_roles.specs.declared.params.Ctx.{Ctx}
use Rattle.base_roles.specs.declared.params.Params.{Params}
use Rattle.rule_modules.specs.Chain.{Stakes}
use Rattle.mod_bank.specs.Items as bank
use Rattle.mod_staking.specs.Items as book
use Rattle.mod_staking.specs.Items.{same_flag}
use Rattle.mod_redelegation.specs.Items as redelegate
use Rattle.mod_unbonding.specs.Items as unbonding
use Rattle.mod_signing.specs.Kept.{Kept}
use Rattle.mod_signing.specs.Items as window
use Rattle.mod_distribution.specs.Kept.{KeptShared}
use Rattle.mod_distribution.specs.Items as distr
use Rattle.chain_modules.specs.Kept.{StakesSeen, HooksSeen, KeptState, stakes_kept}
use Rattle.chain_modules.specs.Marks.{hooks_kept, stakes_settled, hooks_settled}

-- the last height and time, and the parameters
abbrev pub ctx_items : Ctx → List Item
ctx_items c = item.Head c.height c.time ∷ item.Parameters c.params ∷ []

-- whether two parameters are one
abbrev pub same_params : Params → Params → Bool
same_params p q =
    ((((((((((((((bytes_eq p.bond_denom q.bond_denom && (p.power_reduction == q.power_reduction)) && (p.unbonding_time == q.unbonding_time)) && (p.max_validators == q.max_validators))
    && (p.max_entries == q.max_entries)) && (p.min_commission_rate == q.min_commission_rate)) && (p.community_tax == q.community_tax)) && same_flag p.withdraw_addr_enabled q.withdraw_addr_enabled)
    && (p.signed_blocks_window == q.signed_blocks_window)) && (p.min_signed_per_window == q.min_signed_per_window)) && (p.downtime_jail_duration == q.downtime_jail_duration))
    && (p.slash_fraction_double_sign == q.slash_fraction_double_sign)) && (p.slash_fraction_downtime == q.slash_fraction_downtime)) && (p.max_age_duration == q.max_age_duration))
    && (p.max_age_num_blocks == q.max_age_num_blocks)) && bytes_eq p.authority q.authority

-- whether two contexts are of one height and time
abbrev pub same_head : Ctx → Ctx → Bool
same_head a b = (a.height == b.height) && (a.time == b.time)

-- what changed of them, each once: it is there before and after
abbrev pub head_changes : Ctx → Ctx → List (Item × Bool)
head_changes old new = if same_head new old then [] else (item.Head new.height new.time, true) ∷ []

abbrev pub params_changes : Ctx → Ctx → List (Item × Bool)
params_changes old new = if same_params new.params old.params then [] else (item.Parameters new.params, true) ∷ []

abbrev pub ctx_changes : Ctx → Ctx → List (Item × Bool)
ctx_changes old new = head_changes old new ++ params_changes old new

-- validators and delegations, then unbonding entries, then redelegation entries
abbrev pub items_of_stakes : Stakes → List Item
items_of_stakes s = book.items_of s.staked ++ (unbonding.items_of s.unbondings ++ redelegate.items_of s.redelegations)

abbrev pub stake_items : StakesSeen → List Item
stake_items s = items_of_stakes (stakes_kept s)

abbrev pub settled_stake_items : StakesSeen → List Item
settled_stake_items s = items_of_stakes (stakes_settled s)

-- signing records, then distribution
abbrev pub items_of_hooks : KeptShared × Kept → List Item
items_of_hooks h = window.items_of h.1 ++ distr.items_of h.0

abbrev pub hook_items : {E : Type 0} → HooksSeen E → List Item
hook_items h = items_of_hooks (hooks_kept h)

abbrev pub settled_hook_items : {E : Type 0} → HooksSeen E → List Item
settled_hook_items h = items_of_hooks (hooks_settled h)

-- the items of what is kept, in the order of the machine's
abbrev pub items_of : KeptState → List Item
items_of k = ctx_items k.view.ctx ++ (bank.items_of k.view.bank ++ (items_of_stakes k.stakes ++ items_of_hooks (k.shared, k.signings)))
