-- Modules without records: nothing stands in them but an empty community pool, no mark is open, and memory was never wanting.
use Rattle.std.proofs.Common.{◌≡◌, [], sym, ap, subst, inl, inr, false}
use Rattle.base_roles.specs.{declared.params.Ctx.Ctx, Items.IsEmptyPool}
use Rattle.base_records.proofs.MemberLemmas.{Member, member}
use Rattle.mod_bank.specs.Items as bank
use Rattle.mod_staking.specs.Items as book
use Rattle.mod_unbonding.specs.Items as unbonding
use Rattle.mod_redelegation.specs.Items as redelegate
use Rattle.mod_signing.specs.Items as window
use Rattle.mod_distribution.specs.Kept as distr_kept
use Rattle.mod_distribution.specs.Items as distr
use Rattle.chain_modules.specs.{declared.modules.Modules.Modules, Kept.IsNewOver}
use Rattle.store_loading.specs.Loaded.{HasNone, empty_ground}

none : HasNone []
none i c = absurd (member [] i c)

pool_alone : HasNone (distr.items_of distr_kept.nothing_kept)
pool_alone i c = by (member (distr.items_of distr_kept.nothing_kept) i c)
  where
    by : Member (distr.items_of distr_kept.nothing_kept) i → IsEmptyPool i
    by (inl e) = subst IsEmptyPool e tt
    by (inr m) = absurd m

module _ {E : Type 0} (ctx : Ctx) (m : Modules E) (new : IsNewOver (empty_ground ctx) m) where
  pub bank_none : HasNone (bank.items_of m.ground.bank.holdings)
  bank_none = subst (λ g. HasNone (bank.items_of g.bank.holdings)) (sym new.ground) none

  pub bank_unmarked : m.ground.bank.marks ≡ []
  bank_unmarked = ap (λ g. g.bank.marks) new.ground

  pub staking_none : HasNone (book.items_of m.stakes.staking.staked)
  staking_none = subst (λ s. HasNone (book.items_of s.staked)) (sym new.staking) none

  pub unbondings_none : HasNone (unbonding.items_of m.stakes.unbondings.lists)
  unbondings_none = subst (λ s. HasNone (unbonding.items_of s.lists)) (sym new.unbondings) none

  pub redelegations_none : HasNone (redelegate.items_of m.stakes.redelegations.lists)
  redelegations_none = subst (λ s. HasNone (redelegate.items_of s.lists)) (sym new.redelegations) none

  pub shared_none : HasNone (distr.items_of m.hooks.first.first.kept)
  shared_none = subst (λ s. HasNone (distr.items_of s.kept)) (sym new.shared) pool_alone

  pub signings_none : HasNone (window.items_of m.hooks.second.kept)
  signings_none = subst (λ s. HasNone (window.items_of s.kept)) (sym new.signings) none
