-- What is asked of a kind of records, from less: each item is one of the kind, or neither it nor its key has an entry.
use Rattle.std.proofs.Common.{◌≡◌, ◌∙◌, Bool, true, false, Option, Some, None, sym, ap, subst, inl, inr, is_some, ◌⊎◌, Ordering, Equal}
use Rattle.base_roles.specs.{declared.items.Item.Item, Items.key_of}
use Rattle.base_records.{specs.Items.IsRowed, proofs.MemberLemmas.entry-parts}

none-some : {A : Type 0} (a : A) → ◌≡◌ {A = Option A} None (Some a) → ⊥
none-some a e = cc

-- the key and the value that fit, of which an item was made
pub record IsOfKind {K V : Type 0} (Fits : K → V → Type 0) (of : K → V → Item) (i : Item) : Type 0 where
  pub key : K
  pub value : V
  pub made : i ≡ of key value
  pub fits : Fits key value

-- neither an item nor its key has an entry
abbrev pub IsOfOther : {K V : Type 0} → (Item → Option (K × V)) → Item → Type 0
IsOfOther entry i = (entry i ≡ None) × (entry (key_of i) ≡ None)

module _ {K V : Type 0} (cmp : K → K → Ordering) (Fits : K → V → Type 0) (of : K → V → Item) (gone : K → Item) (same : V → V → Bool) (entry : Item → Option (K × V)) where
  pub rowed : ((i : Item) → IsOfKind Fits of i ⊎ IsOfOther entry i)
      → ((k : K) (v : V) → Fits k v → entry (of k v) ≡ Some (k, v))
      → ((k : K) → is_some (entry (gone k)) ≡ true)
      → ((k : K) (v : V) → Fits k v → key_of (of k v) ≡ gone k)
      → ((k : K) → key_of (gone k) ≡ gone k)
      → ((k q : K) → gone k ≡ gone q → k ≡ q)
      → ((a b : K) → cmp a b ≡ Equal → a ≡ b)
      → ((v w : V) → same v w ≡ true → v ≡ w)
      → ((v w : V) → same v w ≡ false → v ≡ w → ⊥)
      → IsRowed cmp Fits of gone same entry
  rowed either read there keyed gone_keyed alone exact right wrong = record {
    exact = exact;
    read = read;
    made = λ i k v e. made_by i k v e (either i);
    kind = λ i. kind_by i (either i);
    keyed = keyed;
    gone_keyed = gone_keyed;
    alone = alone;
    yes = right;
    no = wrong;
  }
    where
      made_by : (i : Item) (k : K) (v : V) → entry i ≡ Some (k, v) → IsOfKind Fits of i ⊎ IsOfOther entry i → (i ≡ of k v) × Fits k v
      made_by i k v e (inl p) =
          let r = entry-parts p.key k p.value v (sym (read p.key p.value p.fits) ∙ ap entry (sym p.made) ∙ e) in
          let both : ◌≡◌ {A = K × V} (p.key, p.value) (k, v) = λ j. (r.0 j, r.1 j) in
          (p.made ∙ (λ j. of (r.0 j) (r.1 j)), subst (λ (x : K × V). Fits x.0 x.1) both p.fits)
      made_by i k v e (inr p) = absurd (none-some (k, v) (sym p.0 ∙ e))

      kind_by : (i : Item) → IsOfKind Fits of i ⊎ IsOfOther entry i → is_some (entry (key_of i)) ≡ is_some (entry i)
      kind_by i (inl p) =
          ap (λ x. is_some (entry (key_of x))) p.made
          ∙ ap (λ x. is_some (entry x)) (keyed p.key p.value p.fits)
          ∙ there p.key
          ∙ sym (ap is_some (read p.key p.value p.fits))
          ∙ ap (λ x. is_some (entry x)) (sym p.made)
      kind_by i (inr p) = ap is_some p.1 ∙ sym (ap is_some p.0)
