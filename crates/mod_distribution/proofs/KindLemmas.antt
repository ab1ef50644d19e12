-- To whom payments go as a kind of items, and the kinds of distribution told apart.
use Rattle.std.proofs.Common.{◌≡◌, ◌∙◌, ℕ, true, false, List, refl, sym, ap, inl, inr, ◌⊎◌, is_some}
use Rattle.base_types.specs.Orders.{addr_cmp}
use Rattle.base_roles.specs.declared.items.Item.{Item}
use Rattle.base_roles.specs.declared.items.Item.TheVariants as item
use Rattle.rule_modules.proofs.SoundLemmas.{exact_addr}
use Rattle.base_records.specs.{Kinds.{AreApart, IsByKey, either}, Items.{AnyValue, IsRowed}}
use Rattle.base_records.proofs.{RowedLemmas.{IsOfKind, IsOfOther, rowed}, SameLemmas.{bytes, bytes_itself}}
use Rattle.mod_allocation.specs.Items.{is_shared}
use Rattle.mod_periods.specs.Items.{is_record}
use Rattle.mod_distribution.specs.Items.{payee_item, payee_gone, payee_entry, same_payee, is_payee}

payee_or_not : (i : Item) → IsOfKind AnyValue payee_item i ⊎ IsOfOther payee_entry i
payee_or_not (item.Withdraw d to) = inl (record { key = d; value = to; made = refl; fits = tt })
payee_or_not _ = inr (refl, refl)

true_false : true ≡ false → ⊥
true_false h = cc

payee-no : (a b : List ℕ) → same_payee a b ≡ false → a ≡ b → ⊥
payee-no a b h e = true_false (sym (bytes_itself a) ∙ ap (λ x. same_payee a x) e ∙ h)

pub payee-rowed : IsRowed addr_cmp AnyValue payee_item payee_gone same_payee payee_entry
payee-rowed = rowed addr_cmp AnyValue payee_item payee_gone same_payee payee_entry
    payee_or_not (λ k v f. refl) (λ k. refl) (λ k v f. refl) (λ k. refl) (λ k q e. cc) exact_addr (λ a b h. bytes a b h) payee-no

-- ---- kinds by their keys

pub shared-by-key : IsByKey is_shared
shared-by-key (item.Purse o p) = refl
shared-by-key (item.Pool c) = refl
shared-by-key _ = refl

pub payee-by-key : IsByKey is_payee
payee-by-key (item.Withdraw d to) = refl
payee-by-key _ = refl

pub record-by-key : IsByKey is_record
record-by-key (item.CurrentPeriod o p) = refl
record-by-key (item.Historical o p h) = refl
record-by-key (item.Start o d i) = refl
record-by-key (item.Event o e) = refl
record-by-key _ = refl

-- a kind of items is told by what reads its key and value
pub payee-is : (i : Item) → is_some (payee_entry i) ≡ is_payee i
payee-is (item.Withdraw d to) = refl
payee-is _ = refl

-- ---- kinds apart

pub payees-apart : AreApart is_payee is_record
payees-apart (item.Withdraw d to) e = refl
payees-apart _ e = absurd cc

pub purses-apart : AreApart is_shared (either is_payee is_record)
purses-apart (item.Purse o p) e = refl
purses-apart (item.Pool c) e = refl
purses-apart _ e = absurd cc
