-- Completing key by key is completing all, in few steps.
use Rattle.std.proofs.Common.{◌≡◌, ◌∙◌, ℕ, ◌+◌, ◌*◌, ◌<◌, ◌≤◌, Bool, true, false, cond, List, [], ◌∷◌, length, refl, sym, ap, arith, not, nat_le, ◌||◌}
use Rattle.std.proofs.lemmas.List.Elements.{recursion_from_All}
use Rattle.base_roles.specs.{declared.entities.RedelegationEntry.RedelegationEntry, Orders.triple_cmp}
use Rattle.rule_modules.specs.EntrySlashes.{redelegation_made}
use Rattle.rule_modules.specs.{Redelegations.{RedelegationLists, redelegations_completed}, Unbondings.key_then}
use Rattle.mod_entries.specs.Lists.{list_at, with_list, unmatured, some_mature}
use Rattle.mod_entries.specs.Walked.{Change, walked, stepped, keys_where, is_due, mature_entries}
use Rattle.mod_entries.proofs.{WalkedLemmas.stepped-walked, DueLemmas.due_few}
use Rattle.mod_redelegation.{specs.Calls.AreSoundLists, proofs.OrderLemmas.{Key, triple_total}}

-- the mature entries of a key go; it runs over nothing
abbrev pub left_at : ℕ → Change Key RedelegationEntry (Unit {0})
left_at now key es u = (unmatured redelegation_made now es, u)

-- some keys' mature entries go, one key after another
abbrev pub completed_at : ℕ → List Key → RedelegationLists → RedelegationLists
completed_at now ks r = (stepped triple_cmp (left_at now) ks r tt).0

pub completed-next : (now : ℕ) (ks rest : List Key) (key : Key) (r r2 : RedelegationLists) → ks ≡ key ∷ rest → r2 ≡ with_list triple_cmp key (unmatured redelegation_made now (list_at triple_cmp r key)) r
    → completed_at now rest r2 ≡ completed_at now ks r
completed-next now ks rest key r r2 e p = ap (completed_at now rest) p ∙ ap (λ l. completed_at now l r) (sym e)

pub completed-end : (now : ℕ) (ks : List Key) (r : RedelegationLists) → ks ≡ [] → completed_at now ks r ≡ r
completed-end now ks r e = ap (λ l. completed_at now l r) e

completed-walked : (now : ℕ) (r : RedelegationLists) → redelegations_completed now r ≡ (walked (left_at now) r tt).0
completed-walked now [] = refl
completed-walked now (p ∷ ps) = ap (key_then p.0 (unmatured redelegation_made now p.1)) (completed-walked now ps)

none_mature : (now : ℕ) (es : List RedelegationEntry) → some_mature redelegation_made now es ≡ false → unmatured redelegation_made now es ≡ es
none_mature now [] h = refl
none_mature now (e ∷ es) h = by (nat_le e.completes now) (some_mature redelegation_made now es) h (none_mature now es)
  where
    rest : List RedelegationEntry
    rest = unmatured redelegation_made now es

    by : (b c : Bool) → (b || c) ≡ false → (c ≡ false → rest ≡ es) → cond (not b) (e ∷ rest) rest ≡ e ∷ es
    by true c h later = absurd cc
    by false c h later = ap (λ l. e ∷ l) (later h)

-- completing the keys that have a mature entry is completing all
pub completed-due : (now : ℕ) (r : RedelegationLists) → AreSoundLists r → completed_at now (keys_where (is_due redelegation_made now) r) r ≡ redelegations_completed now r
completed-due now r h =
    ap (λ (x : RedelegationLists × Unit {0}). x.0)
    (stepped-walked triple_cmp triple_total (left_at now) (λ u. Unit {0}) (λ k es u t. tt) (is_due redelegation_made now) (λ k es u t e. (λ i. (none_mature now es e i, u)))
    r tt tt h.1.ascend (recursion_from_All (λ p. 0 < length p.1) r h.1.some))
    ∙ sym (completed-walked now r)

-- ---- the steps: one for each key and one more to find them, and five for each

pub length_next : {A : Type 0} (ks rest : List A) (k : A) → ks ≡ k ∷ rest → length ks ≡ length rest + 1
length_next ks rest k e = let n = ap length e in omega (arith, n)

pub cost-first : (steps start n m : ℕ) → steps ≤ start + m + 1 → n ≡ m → steps + 5 * n ≤ start + 6 * n + 1
cost-first steps start n m p e = omega (arith, p, e)

pub cost-next : (steps steps2 start n left later : ℕ) → steps + 5 * left ≤ start + 6 * n + 1 → left ≡ later + 1 → steps2 ≤ steps + 5 → steps2 + 5 * later ≤ start + 6 * n + 1
cost-next steps steps2 start n left later p e s = omega (arith, p, e, s)

pub cost-all : (now : ℕ) (r : RedelegationLists) (steps start left : ℕ) (ks : List Key) → ks ≡ keys_where (is_due redelegation_made now) r → steps + 5 * left ≤ start + 6 * length ks + 1 → steps ≤ start + (6 * mature_entries redelegation_made now r + 1)
cost-all now r steps start left ks e p =
    let few = due_few redelegation_made now r in
    let n = ap length e in
    omega (arith, few, n, p)
