-- The tests of entries decide that they are sound.
use Rattle.std.proofs.Common.{◌≡◌, ℕ, ◌^◌, ◌≤◌, ◌<◌, Bool, true, List, length, arith, ◌&&◌, nat_le, All, Decides}
use Rattle.std.specs.{List.{list_all, Sorted.IsStrictlySortedBy}, Map.keys_of}
use Rattle.std.proofs.lemmas.{Bool.Decides.{nat_tests, Decides-and, Decides-like}, List.Elements.All-weaker}
use Rattle.base_roles.specs.declared.entities.{RedelegationEntry.RedelegationEntry, UnbondingEntry.UnbondingEntry}
use Rattle.base_roles.specs.{Orders.{pair_cmp, triple_cmp}, Ranges.is_within}
use Rattle.rule_modules.specs.Redelegations.{RedelegationLists}
use Rattle.rule_modules.specs.Sound.{UnbondingIsSound, UnbondingsAreSound, RedelegationIsSound, RedelegationsAreSound}
use Rattle.rule_modules.specs.Unbondings.{UnbondingLists}
use Rattle.store_soundness.specs.Entries.{is_unbonding_sound, is_unbonding_list, are_unbondings_sound, is_redelegation_sound, is_redelegation_list, are_redelegations_sound}
use Rattle.law_records.proofs.TestLemmas.{at_most, within, all_decides}

unbonding_decides : (height : ℕ) (e : UnbondingEntry) → Decides (is_unbonding_sound height e) (UnbondingIsSound height e)
unbonding_decides height e =
    let parts = Decides-and (nat_le e.initial (10 ^ 18) && nat_le e.balance e.initial) (nat_le e.created height)
    (Decides-and (nat_le e.initial (10 ^ 18)) (nat_le e.balance e.initial) (at_most e.initial (10 ^ 18)) (at_most e.balance e.initial)) (at_most e.created height) in
    (λ t. record { initial = (parts.0 t).0.0; balance = (parts.0 t).0.1; created = (parts.0 t).1 }, λ s. parts.1 ((s.initial, s.balance), s.created))

redelegation_decides : (height : ℕ) (e : RedelegationEntry) → Decides (is_redelegation_sound height e) (RedelegationIsSound height e)
redelegation_decides height e =
    let parts = Decides-and (nat_le e.initial (10 ^ 18)) (nat_le e.created height) (at_most e.initial (10 ^ 18)) (at_most e.created height) in
    (λ t. record { initial = (parts.0 t).0; created = (parts.0 t).1 }, λ s. parts.1 (s.initial, s.created))

-- 1 to 100 entries that are sound
abbrev AreEntries : {E : Type 0} → (E → Type 0) → List E → Type 0
AreEntries P es = ((1 ≤ length es) × (length es ≤ 100)) × All P es

list_decides : {E : Type 0} (test : E → Bool) (P : E → Type 0) → ((e : E) → Decides (test e) (P e)) → (es : List E) → Decides (is_within 1 100 (length es) && list_all test es) (AreEntries P es)
list_decides test P each es = Decides-and (is_within 1 100 (length es)) (list_all test es) (within 1 100 (length es)) (all_decides test P each es)

pub unbondings_decide : (height : ℕ) (u : UnbondingLists) → IsStrictlySortedBy pair_cmp (keys_of u) → Decides (are_unbondings_sound height u) (UnbondingsAreSound height u)
unbondings_decide height u ascend =
    let all = all_decides (λ (p : (List ℕ × List ℕ) × List UnbondingEntry). is_unbonding_list height p.1) (λ p. AreEntries (UnbondingIsSound height) p.1)
    (λ p. list_decides (is_unbonding_sound height) (UnbondingIsSound height) (unbonding_decides height) p.1) u in (
      λ t. record {
        ascend = ascend;
        some = λ k d lt. (all.0 t k d lt).0.0;
        most = λ k d lt. (all.0 t k d lt).0.1;
        entries = λ k d lt. (all.0 t k d lt).1;
      },
      λ s. all.1 (λ k d lt. ((s.some k d lt, s.most k d lt), s.entries k d lt)),
    )

pub redelegations_decide : (height : ℕ) (r : RedelegationLists) → IsStrictlySortedBy triple_cmp (keys_of r) → Decides (are_redelegations_sound height r) (RedelegationsAreSound height r)
redelegations_decide height r ascend =
    let all = all_decides (λ (p : (List ℕ × List ℕ × List ℕ) × List RedelegationEntry). is_redelegation_list height p.1) (λ p. AreEntries (RedelegationIsSound height) p.1)
    (λ p. list_decides (is_redelegation_sound height) (RedelegationIsSound height) (redelegation_decides height) p.1) r in (
      λ t. record {
        ascend = ascend;
        some = λ k d lt. (all.0 t k d lt).0.0;
        most = λ k d lt. (all.0 t k d lt).0.1;
        entries = λ k d lt. (all.0 t k d lt).1;
      },
      λ s. all.1 (λ k d lt. ((s.some k d lt, s.most k d lt), s.entries k d lt)),
    )
