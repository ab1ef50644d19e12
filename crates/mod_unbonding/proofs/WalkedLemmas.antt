-- Completing and slashing key by key are the rules' walks over all keys.
use Rattle.std.proofs.Common.{◌≡◌, ◌∙◌, ℕ, ◌+◌, ◌<◌, Bool, true, false, cond, List, [], ◌∷◌, refl, sym, ap, arith, suc, length, map}
use Rattle.std.specs.List.{AllByRecursion}
use Rattle.base_types.specs.declared.account.Module.TheVariants as holder
use Rattle.base_roles.specs.{declared.entities.UnbondingEntry.UnbondingEntry, Orders.{pair_cmp, same_addr}}
use Rattle.base_roles.specs.World.{View, burnt}
use Rattle.rule_modules.specs.EntrySlashes.{entries_slashed, entry_slashed, burned_of}
use Rattle.rule_modules.specs.Unbondings.{UnbondingLists, entries_of, with_entries, paid_back, key_then, completed}
use Rattle.mod_entries.specs.Walked.{Change, walked, stepped}
use Rattle.mod_unbonding.{specs.Walked.{Key, paid_at, slashed_at}, proofs.EntriesLemmas.with_list-is}

-- ---- the rules walk over all keys

abbrev both_of : UnbondingLists → View → UnbondingLists × View
both_of u v = (u, v)

abbrev front : Key × List UnbondingEntry → UnbondingLists × View → UnbondingLists × View
front p r = (p ∷ r.0, r.1)

pub completed-walked : (u : UnbondingLists) (v : View) → completed u v ≡ walked paid_at u v
completed-walked [] v = refl
completed-walked (p ∷ ps) v = ap (λ (r : UnbondingLists × View). (key_then p.0 (paid_at p.0 p.1 v).0 r.0, r.1)) (completed-walked ps (paid_back p.0.0 p.1 v))

module _ (operator : List ℕ) (infraction factor : ℕ) where
  not_none : (key : Key) (l es : List UnbondingEntry) (r : UnbondingLists) → length l ≡ length es → 0 < length es → (key, l) ∷ r ≡ key_then key l r
  not_none key [] es r e n = absurd (omega (arith, e, n))
  not_none key (x ∷ xs) es r e n = refl

  length_map : {A B : Type 0} (g : A → B) (xs : List A) → length (map g xs) ≡ length xs
  length_map g [] = refl
  length_map g (x ∷ xs) = ap suc (length_map g xs)

  abbrev slashed : UnbondingLists → View → UnbondingLists × View
  slashed u v = entries_slashed operator infraction factor u v

  pub slashed-walked : (u : UnbondingLists) (v : View) → AllByRecursion (λ p. 0 < length p.1) u → slashed u v ≡ walked (slashed_at operator infraction factor) u v
  slashed-walked [] v n = refl
  slashed-walked (p ∷ ps) v n = by (same_addr p.0.1 operator) (slashed-walked ps burned n.1) (slashed-walked ps v n.1)
    where
      change : Change Key UnbondingEntry View
      change = slashed_at operator infraction factor

      lost : List UnbondingEntry
      lost = map (entry_slashed infraction factor v.ctx.time) p.1

      burned : View
      burned = burnt holder.NotBonded v.ctx.params.bond_denom (burned_of infraction factor v.ctx.time p.1) v

      one : Bool → List UnbondingEntry × View
      one b = cond b (lost, burned) (p.1, v)

      by : (b : Bool) → slashed ps burned ≡ walked change ps burned → slashed ps v ≡ walked change ps v
          → cond b (front (p.0, lost) (slashed ps burned)) (front p (slashed ps v)) ≡ both_of (key_then p.0 (one b).0 (walked change ps (one b).1).0) (walked change ps (one b).1).1
      by true h g = ap (front (p.0, lost)) h ∙ ap (λ l. both_of l (walked change ps burned).1) (not_none p.0 lost p.1 (walked change ps burned).0 (length_map (entry_slashed infraction factor v.ctx.time) p.1) n.0)
      by false h g = ap (front p) g ∙ ap (λ l. both_of l (walked change ps v).1) (not_none p.0 p.1 p.1 (walked change ps v).0 refl n.0)

-- ---- walking a list of keys

pub length_next : {A : Type 0} (xs rest : List A) (x : A) → xs ≡ x ∷ rest → length xs ≡ length rest + 1
length_next xs rest x e = let n = ap length e in omega (arith, n)

-- one key more was changed
pub stepped-next : (f : Change Key UnbondingEntry View) (ks rest : List Key) (key : Key) (u u2 : UnbondingLists) (v v2 : View) → ks ≡ key ∷ rest
    → u2 ≡ with_entries key.0 key.1 (f key (entries_of u key.0 key.1) v).0 u → v2 ≡ (f key (entries_of u key.0 key.1) v).1 → stepped pair_cmp f rest u2 v2 ≡ stepped pair_cmp f ks u v
stepped-next f ks rest key u u2 v v2 e p q =
    let made = p ∙ sym (with_list-is key (f key (entries_of u key.0 key.1) v).0 u) in
    (λ i. stepped pair_cmp f rest (made i) (q i)) ∙ ap (λ l. stepped pair_cmp f l u v) (sym e)

-- all were
pub stepped-end : (f : Change Key UnbondingEntry View) (ks : List Key) (u : UnbondingLists) (v : View) → ks ≡ [] → stepped pair_cmp f ks u v ≡ (u, v)
stepped-end f ks u v e = ap (λ l. stepped pair_cmp f l u v) e
