-- Three tables that are marked together, seen as one.
use Rattle.std.proofs.Common.{◌≡◌, ◌≢◌, ◌∙◌, ℕ, ◌+◌, ◌<◌, Bool, List, [], ◌∷◌, ◌++◌, length, sym, ap, subst, suc, zero}
use Rattle.std.specs.List.{range_with_len, AllByRecursion}
use Rattle.base_table.specs.Tabled.{Tabled}
use Rattle.base_table.specs.Tabled as table
use Rattle.mod_staking.specs.Listed.{Listed}
use Rattle.mod_staking.specs.Registered.{Validators, Delegations, Operators, IsIndex, AreIndexed, AreKeyed, HaveSameMarks, staked_of, registered, with_mark, IsGoneBack, IsForgotten}
use Rattle.mod_staking.specs.Listed as listed
use Rattle.base_roles.specs.declared.entities.Validator.{Validator}
use Rattle.base_records.specs.Marks.{side_by_side}
use Rattle.base_records.proofs.MarkLemmas.{some_marks, none_from_length, pushed_length, popped_length, length-side, side-push, all-push, all-pop, each_mark-push, each_mark-pop}

-- ---- three tables in step

module _ (v : Listed) (o : Tabled (List ℕ) (List ℕ)) (d : Tabled (List ℕ × List ℕ) ℕ) (h : HaveSameMarks v o d) where
  pub in_step-marked : HaveSameMarks (listed.with_mark v) (table.with_mark o) (table.with_mark d)
  in_step-marked = record {
    operators_depth = pushed_length v.marks o.marks v.entries o.entries h.operators_depth;
    delegations_depth = pushed_length v.marks d.marks v.entries d.entries h.delegations_depth;
    keyed = h.keyed;
    keyed_then = h.keyed_then;
    keyed_at_marks = all-push AreKeyed v.marks v.entries h.keyed_at_marks h.keyed;
    indexed = h.indexed;
    indexed_at_marks = each_mark-push IsIndex v.marks o.marks v.entries o.entries h.operators_depth h.indexed_at_marks h.indexed;
  }

  pub registered-marked : (spent : Bool) → registered (listed.with_mark v) (table.with_mark d) spent ≡ with_mark (registered v d spent)
  registered-marked spent = λ i. record {
    staked = record { validators = v.entries; delegations = d.entries };
    marks = side-push staked_of v.marks d.marks v.entries d.entries h.delegations_depth i;
    settled = record { validators = v.settled; delegations = d.settled };
    spent = spent;
    power_reduction = v.power_reduction;
  }

  -- other entries of validators, and their index
  pub in_step-with : (v2 : Listed) (o2 : Tabled (List ℕ) (List ℕ)) → v2.marks ≡ v.marks → v2.settled ≡ v.settled → o2.marks ≡ o.marks
      → AreKeyed v2.entries → IsIndex v2.entries o2.entries → HaveSameMarks v2 o2 d
  in_step-with v2 o2 e f g k i = record {
    operators_depth = ap length g ∙ h.operators_depth ∙ sym (ap length e);
    delegations_depth = h.delegations_depth ∙ sym (ap length e);
    keyed = k;
    keyed_then = subst AreKeyed (sym f) h.keyed_then;
    keyed_at_marks = subst (AllByRecursion AreKeyed) (sym e) h.keyed_at_marks;
    indexed = i;
    indexed_at_marks = subst (λ ms. AreIndexed ms o2.marks) (sym e) (subst (λ is. AreIndexed v.marks is) (sym g) h.indexed_at_marks);
  }

  module _ (v2 : Listed) (o2 : Tabled (List ℕ) (List ℕ)) (d2 : Tabled (List ℕ × List ℕ) ℕ) where
    side-popped : (x : Validators) (z : Delegations) → v2.marks ++ x ∷ [] ≡ v.marks → d2.marks ++ z ∷ [] ≡ d.marks
        → side_by_side staked_of v2.marks d2.marks ++ staked_of x z ∷ [] ≡ side_by_side staked_of v.marks d.marks
    side-popped x z p r = sym (side-push staked_of v2.marks d2.marks x z (popped_length v.marks v2.marks d.marks d2.marks x z h.delegations_depth p r)) ∙ (λ i. side_by_side staked_of (p i) (r i))

    keyed-popped : (x : Validators) → v2.marks ++ x ∷ [] ≡ v.marks → AllByRecursion AreKeyed v2.marks × AreKeyed x
    keyed-popped x p = all-pop AreKeyed v2.marks x (subst (AllByRecursion AreKeyed) (sym p) h.keyed_at_marks)

    indexed-popped : (x : Validators) (y : Operators) → v2.marks ++ x ∷ [] ≡ v.marks → o2.marks ++ y ∷ [] ≡ o.marks → AreIndexed v2.marks o2.marks × IsIndex x y
    indexed-popped x y p q =
        each_mark-pop IsIndex v2.marks o2.marks x y (popped_length v.marks v2.marks o.marks o2.marks x y h.operators_depth p q)
        (subst (λ ms. AreIndexed ms (o2.marks ++ y ∷ [])) (sym p) (subst (λ is. AreIndexed v.marks is) (sym q) h.indexed_at_marks))

    pub in_step-back : listed.IsGoneBack v v2 → table.IsGoneBack o o2 → table.IsGoneBack d d2 → HaveSameMarks v2 o2 d2
    in_step-back p q r =
        let k = keyed-popped v2.entries p.restored in
        let i = indexed-popped v2.entries o2.entries p.restored q.restored in
        record {
          operators_depth = popped_length v.marks v2.marks o.marks o2.marks v2.entries o2.entries h.operators_depth p.restored q.restored;
          delegations_depth = popped_length v.marks v2.marks d.marks d2.marks v2.entries d2.entries h.delegations_depth p.restored r.restored;
          keyed = k.1;
          keyed_then = subst AreKeyed (sym (ap (λ t. t.settled) p.rest)) h.keyed_then;
          keyed_at_marks = k.0;
          indexed = i.1;
          indexed_at_marks = i.0;
        }

    pub registered-back : (spent : Bool) → listed.IsGoneBack v v2 → table.IsGoneBack d d2 → IsGoneBack (registered v d spent) (registered v2 d2 spent)
    registered-back spent p r = record {
      restored = side-popped v2.entries d2.entries p.restored r.restored;
      rest = λ i. record {
        staked = record { validators = v2.entries; delegations = d2.entries };
        marks = side_by_side staked_of v2.marks d2.marks;
        settled = record { validators = ap (λ t. t.settled) p.rest i; delegations = ap (λ t. t.settled) r.rest i };
        spent = spent;
        power_reduction = ap (λ t. t.power_reduction) p.rest i;
      };
    }

    pub in_step-forgotten : listed.IsForgotten v v2 → table.IsForgotten o o2 → table.IsForgotten d d2 → HaveSameMarks v2 o2 d2
    in_step-forgotten p q r =
        let k = keyed-popped p.closed.0 p.closed.1 in
        let i = indexed-popped p.closed.0 q.closed.0 p.closed.1 q.closed.1 in
        let same : v.entries ≡ v2.entries = sym (ap (λ t. t.entries) p.rest) in
        let same_index : o.entries ≡ o2.entries = sym (ap (λ t. t.entries) q.rest) in
        record {
          operators_depth = popped_length v.marks v2.marks o.marks o2.marks p.closed.0 q.closed.0 h.operators_depth p.closed.1 q.closed.1;
          delegations_depth = popped_length v.marks v2.marks d.marks d2.marks p.closed.0 r.closed.0 h.delegations_depth p.closed.1 r.closed.1;
          keyed = subst AreKeyed same h.keyed;
          keyed_then = subst AreKeyed (sym (ap (λ t. t.settled) p.rest)) h.keyed_then;
          keyed_at_marks = k.0;
          indexed = subst (λ es. IsIndex es o2.entries) same (subst (λ is. IsIndex v.entries is) same_index h.indexed);
          indexed_at_marks = i.0;
        }

    pub registered-forgotten : (spent : Bool) → listed.IsForgotten v v2 → table.IsForgotten d d2 → IsForgotten (registered v d spent) (registered v2 d2 spent)
    registered-forgotten spent p r = record {
      closed = (record { validators = p.closed.0; delegations = r.closed.0 }, side-popped p.closed.0 r.closed.0 p.closed.1 r.closed.1);
      rest = λ i. record {
        staked = record { validators = ap (λ t. t.entries) p.rest i; delegations = ap (λ t. t.entries) r.rest i };
        marks = side_by_side staked_of v2.marks d2.marks;
        settled = record { validators = ap (λ t. t.settled) p.rest i; delegations = ap (λ t. t.settled) r.rest i };
        spent = spent;
        power_reduction = ap (λ t. t.power_reduction) p.rest i;
      };
    }

  pub closed-all : (spent : Bool) → (registered v d spent).marks ≡ [] → (v.marks ≡ []) × (o.marks ≡ []) × (d.marks ≡ [])
  closed-all spent m =
      let n : length v.marks ≡ 0 = sym (length-side staked_of v.marks d.marks h.delegations_depth) ∙ ap length m in
      (none_from_length v.marks n, none_from_length o.marks (h.operators_depth ∙ n), none_from_length d.marks (h.delegations_depth ∙ n))

  -- where a mark is open, one is in each table
  pub some_at : (spent : Bool) → (registered v d spent).marks ≢ [] → (0 < length v.marks) × (0 < length o.marks) × (0 < length d.marks)
  some_at spent m =
      let n : 0 < length v.marks = subst (λ n. 0 < n) (length-side staked_of v.marks d.marks h.delegations_depth) (some_marks (registered v d spent).marks m) in
      (n, subst (λ n. 0 < n) (sym h.operators_depth) n, subst (λ n. 0 < n) (sym h.delegations_depth) n)
