-- A change of a place: what is seen, what is listed and how the place is stamped.
use Rattle.std.proofs.Common.{◌≡◌, ℕ, ◌<◌, ◌≤◌, Bool, true, false, List, [], ◌∷◌, ◌++◌, length, Option, Some, None, is_some, option_map, unwrap_or, refl, if◌then◌else◌, sym, ◌∙◌, ap, subst, arith, Ordering, option_to_list, is_eq}
use Rattle.std.specs.{Cmp.{IsTotalOrder, tied_itself}, List.Sorted.IsStrictlySortedBy}
use Rattle.std.specs.{Map.{keys_of, lookup, lookup_entry, lookup_key}, BTreeMap.{insert_entry, is_at}}
use Rattle.base_table.specs.declared.slot.{Place.Place, Slot.{Slot, TheVariants.Empty}}
use Rattle.base_table.specs.Places.{changed, entry_of, filled, is_full, len_changed, name_in, pair_of, slot_at, slot_of, slot_or, slots, listed_by, stamp_of, stamps, unlisted, value_stamped, AreNamed, AreStamped, IsExchanged, IsNamed}
use Rattle.base_table.specs.Tabled.{key_in, value_at}
use Rattle.base_table.proofs.EachLemmas.{insert-each, length-each, lookup-each, lookup_key-each, sorted-each}
use Rattle.base_table.proofs.EntryLemmas.{lookup_is, lookup_key_is, tied_lookup}
use Rattle.indexmap.specs.IndexMap.{IndexMap, insert_entry as put_by}
use Rattle.base_table.proofs.PlaceLemmas.{entry-filled, filled-changed, found_entry, full-value, length-changed, length-filled, insert-same, name-filled, name_under, pair_is, shown, sorted-filled, value-absent, AreNamed-insert}
use Rattle.base_table.proofs.StampLemmas.{listed-by_stamp, put_last, tied_pair, unlisted-without, zero_plus, AreStamped-push}

none_of : {X : Type 0} (o : Option X) → is_some o ≡ false → o ≡ None
none_of None h = refl
none_of (Some x) h = cc

append_nothing : {A : Type 0} (xs : List A) → xs ≡ xs ++ []
append_nothing [] = refl
append_nothing (x ∷ xs) = ap (λ l. x ∷ l) (append_nothing xs)

slot_of_some : {K V : Type 0} (o : Option (Place K V)) → slot_or o ≡ unwrap_or (option_map slot_of o) Empty
slot_of_some None = refl
slot_of_some (Some place) = refl

-- what is listed of a key, by the entry that stands there
pair_at : {K V : Type 0} (R : K → K → Ordering) (es : List (K × V)) (k : K) (e : Option (K × V)) → lookup_entry (is_at (R k)) es ≡ e → pair_of k e ≡ (key_in R es k, value_at R es k)
pair_at R es k e is =
    pair_is k e ∙ (λ i. (unwrap_or (option_map (λ x. x.0) (sym is i)) k, option_map (λ x. x.1) (sym is i)))
    ∙ sym (λ i. (unwrap_or (lookup_key_is (is_at (R k)) es i) k, lookup_is (is_at (R k)) es i))

module _ {K V : Type 0} {R : K → K → Ordering} (o : IsTotalOrder R) (ps : List (K × Place K V)) (k : K) (sorted : IsStrictlySortedBy R (keys_of ps)) where
  pub sorted-slots : IsStrictlySortedBy R (keys_of (slots ps))
  sorted-slots = sorted-each slot_of R ps sorted

  sorted-stamps : IsStrictlySortedBy R (keys_of (stamps ps))
  sorted-stamps = sorted-each stamp_of R ps sorted

  -- what is seen once something stands at the place of the key
  module _ (named : AreNamed R (slots ps)) (qs : List (K × Place K V)) (new : Place K V) (value : Option V) (made : qs ≡ insert_entry R ps k new) (here : IsNamed R k new.slot) where
    pub slots-made : slots qs ≡ insert_entry R (slots ps) k new.slot
    slots-made = ap slots made ∙ insert-each slot_of R ps k new

    pub named-made : AreNamed R (slots qs)
    named-made = subst (AreNamed R) (sym slots-made) (AreNamed-insert o (slots ps) k new.slot here named)

    pub filled-made : entry_of (key_in R (slots ps) k) new.slot ≡ option_map (λ v. (key_in R (filled (slots ps)) k, v)) value → filled (slots qs) ≡ changed R k value (filled (slots ps))
    filled-made shows = ap filled slots-made ∙ filled-changed o k (slots ps) sorted-slots named new.slot value here shows

  stamps-made : (qs : List (K × Place K V)) (new : Place K V) (s : ℕ) → qs ≡ insert_entry R ps k new → new.stamp ≡ s → stamps qs ≡ insert_entry R (stamps ps) k s
  stamps-made qs new s made is = ap stamps made ∙ insert-each stamp_of R ps k new ∙ ap (insert_entry R (stamps ps) k) is

  -- how many entries are seen before and after
  pub few-seen : length (filled (slots ps)) ≤ length ps
  few-seen = let seen = length-filled (slots ps) in let all = length-each slot_of ps in omega arith

  pub some-seen : (named : AreNamed R (slots ps)) → is_full (slot_at R (slots ps) k) ≡ true → 0 < length (filled (slots ps))
  some-seen named full = by (filled (slots ps)) (sym (full-value o k (slots ps) sorted-slots named) ∙ full)
    where
      by : (es : List (K × V)) → is_some (value_at R es k) ≡ true → 0 < length es
      by [] found = cc
      by (e ∷ es) found = omega arith

  pub count-changed : (named : AreNamed R (slots ps)) (qs : List (K × Place K V)) (value : Option V) (here len : ℕ) (had has : Bool) → here ≡ length (filled (slots ps)) → had ≡ is_full (slot_at R (slots ps) k) → has ≡ is_some value
      → len ≡ len_changed here had has → filled (slots qs) ≡ changed R k value (filled (slots ps)) → len ≡ length (filled (slots qs))
  count-changed named qs value here len had has here_is had_is has_is is made =
      is ∙ (λ i. len_changed (here_is i) ((had_is ∙ full-value o k (slots ps) sorted-slots named) i) (has_is i))
      ∙ sym (length-changed o k value (filled (slots ps)) (sorted-filled o (slots ps) sorted-slots named)) ∙ ap length (sym made)

  -- where the key has a place
  module _ (ts : List (K × Option V)) (stored : K) (place : Place K V) (named : AreNamed R (slots ps)) (stamped : AreStamped R 0 ts (stamps ps))
      (key : lookup_key (is_at (R k)) ps ≡ Some stored) (found : lookup (is_at (R k)) ps ≡ Some place) where
    pub slot_here : lookup (is_at (R k)) (slots ps) ≡ Some place.slot
    slot_here = lookup-each slot_of (is_at (R k)) ps ∙ ap (option_map slot_of) found

    stamp_here : lookup (is_at (R k)) (stamps ps) ≡ Some place.stamp
    stamp_here = lookup-each stamp_of (is_at (R k)) ps ∙ ap (option_map stamp_of) found

    entry_here : lookup_entry (is_at (R k)) (filled (slots ps)) ≡ entry_of stored place.slot
    entry_here = entry-filled o k (slots ps) sorted-slots named ∙ ap shown (found_entry (is_at (R k)) (slots ps) stored place.slot (sym (lookup_key-each slot_of (is_at (R k)) ps ∙ key)) (sym slot_here))

    pub shows-found : (slot : Slot K V) (value : Option V) → entry_of (key_in R (slots ps) k) slot ≡ option_map (λ v. (name_in k (key_in R (slots ps) k) place.slot, v)) value
        → entry_of (key_in R (slots ps) k) slot ≡ option_map (λ v. (key_in R (filled (slots ps)) k, v)) value
    shows-found slot value is =
        is ∙ sym (ap (λ n. option_map (λ v. (n, v)) value) (name-filled o k (slots ps) sorted-slots named ∙ ap (name_under k (key_in R (slots ps) k)) slot_here))

    -- the list, once the key is put into it unless it is listed at the stamp
    pub listed-found : (eq : K → K → Bool) (ties : (x y : K) → eq x y ≡ is_eq (R x y)) {S : Type 0} (m : IndexMap K (Option V) S) (new : List (K × Option V)) → m.entries ≡ ts
        → new ≡ listed_by R eq m.entries place.stamp k (pair_of k (entry_of stored place.slot)) → new ≡ m.entries ++ option_to_list (unlisted R m.entries (filled (slots ps)) k)
    listed-found eq ties m new same made = by (value_at R m.entries k) refl (made ∙ (λ i. if is_some (told i) then m.entries else put_by eq m.entries (pair i).0 (pair i).1))
      where
        name : K
        name = key_in R (filled (slots ps)) k

        old : Option V
        old = value_at R (filled (slots ps)) k

        pair : pair_of k (entry_of stored place.slot) ≡ (name, old)
        pair = pair_at R (filled (slots ps)) k (entry_of stored place.slot) entry_here

        told : value_stamped R m.entries place.stamp k ≡ value_at R m.entries k
        told = listed-by_stamp o m.entries (stamps ps) k place.stamp (subst (λ l. AreStamped R 0 l (stamps ps)) (sym same) stamped) stamp_here

        by : (v : Option (Option V)) → value_at R m.entries k ≡ v → new ≡ (if is_some v then m.entries else put_by eq m.entries name old) → new ≡ m.entries ++ option_to_list (if is_some v then None else Some (name, old))
        by None none made = put_last o eq ties m name old new (sym (tied_lookup o k name (tied_pair o (filled (slots ps)) k) m.entries) ∙ none) made
        by (Some v) listed made = made ∙ append_nothing m.entries

    -- the stamp that says where
    stamp_is : (s : ℕ) → s ≡ (if is_some (value_stamped R ts place.stamp k) then place.stamp else length ts) → s ≡ (if is_some (unlisted R ts (filled (slots ps)) k) then length ts else place.stamp)
    stamp_is s is = is ∙ ap (λ v. if is_some v then place.stamp else length ts) (listed-by_stamp o ts (stamps ps) k place.stamp stamped stamp_here) ∙ flip (is_some (value_at R ts k)) (key_in R (filled (slots ps)) k, value_at R (filled (slots ps)) k)
      where
        flip : (b : Bool) (p : K × Option V) → (if b then place.stamp else length ts) ≡ (if is_some {T = K × Option V} (if b then None else Some p) then length ts else place.stamp)
        flip true p = refl
        flip false p = refl

    pub stamped-found : (qs : List (K × Place K V)) (new : Place K V) (u : Option (K × Option V)) → u ≡ unlisted R ts (filled (slots ps)) k → new.stamp ≡ (if is_some u then length ts else place.stamp)
        → qs ≡ insert_entry R ps k new → AreStamped R 0 (ts ++ option_to_list u) (stamps qs)
    stamped-found qs new u is stamp made =
        subst (AreStamped R 0 (ts ++ option_to_list u)) (sym (stamps-made qs new _ made stamp))
        (subst (λ u. AreStamped R 0 (ts ++ option_to_list u) (insert_entry R (stamps ps) k (if is_some u then length ts else place.stamp))) (sym is) (by (is_some (value_at R ts k)) refl))
      where
        by : (b : Bool) → is_some (value_at R ts k) ≡ b
            → AreStamped R 0 (ts ++ option_to_list (if b then None else Some (key_in R (filled (slots ps)) k, value_at R (filled (slots ps)) k))) (insert_entry R (stamps ps) k (if is_some {T = K × Option V} (if b then None else Some (key_in R (filled (slots ps)) k, value_at R (filled (slots ps)) k)) then length ts else place.stamp))
        by true listed = subst (λ l. AreStamped R 0 l (insert_entry R (stamps ps) k place.stamp)) (append_nothing ts) (subst (AreStamped R 0 ts) (sym (insert-same o k place.stamp (stamps ps) sorted-stamps stamp_here)) stamped)
        by false none =
            subst (λ n. AreStamped R 0 (ts ++ (key_in R (filled (slots ps)) k, value_at R (filled (slots ps)) k) ∷ []) (insert_entry R (stamps ps) k n)) (zero_plus (length ts))
            (AreStamped-push o 0 ts (stamps ps) k (key_in R (filled (slots ps)) k, value_at R (filled (slots ps)) k) (tied_pair o (filled (slots ps)) k) (none_of (value_at R ts k) none) stamped)

  -- where it has none
  module _ (ts : List (K × Option V)) (named : AreNamed R (slots ps)) (stamped : AreStamped R 0 ts (stamps ps)) (missed : lookup (is_at (R k)) ps ≡ None) where
    no_slot : lookup (is_at (R k)) (slots ps) ≡ None
    no_slot = lookup-each slot_of (is_at (R k)) ps ∙ ap (option_map slot_of) missed

    not_listed : value_at R ts k ≡ None
    not_listed = unlisted-without o 0 ts (stamps ps) k stamped (lookup-each stamp_of (is_at (R k)) ps ∙ ap (option_map stamp_of) missed)

    pub unlisted-new : (name : K) → name ≡ k → Some (name, None) ≡ unlisted R ts (filled (slots ps)) k
    unlisted-new name is =
        (λ i. Some (is i, None))
        ∙ (λ i. if sym (ap is_some not_listed) i then None else Some (pair_at R (filled (slots ps)) k None (value-absent o k (slots ps) sorted-slots named no_slot) i))

    -- the list, once the key is put into it
    pub listed-new : (eq : K → K → Bool) (ties : (x y : K) → eq x y ≡ is_eq (R x y)) {S : Type 0} (m : IndexMap K (Option V) S) (new : List (K × Option V)) → m.entries ≡ ts
        → new ≡ put_by eq m.entries k None → new ≡ m.entries ++ option_to_list (unlisted R m.entries (filled (slots ps)) k)
    listed-new eq ties m new same made =
        put_last o eq ties m k None new (ap (λ l. value_at R l k) same ∙ not_listed) made
        ∙ ap (λ u. m.entries ++ option_to_list u) (unlisted-new k refl ∙ ap (λ l. unlisted R l (filled (slots ps)) k) (sym same))

    pub shows-new : (slot : Slot K V) (value : Option V) → entry_of (key_in R (slots ps) k) slot ≡ option_map (λ v. (key_in R (slots ps) k, v)) value
        → entry_of (key_in R (slots ps) k) slot ≡ option_map (λ v. (key_in R (filled (slots ps)) k, v)) value
    shows-new slot value is =
        is ∙ sym (ap (λ n. option_map (λ v. (n, v)) value) (name-filled o k (slots ps) sorted-slots named ∙ ap (name_under k (key_in R (slots ps) k)) no_slot))

    pub stamped-new : (qs : List (K × Place K V)) (new : Place K V) (name : K) → name ≡ k → new.stamp ≡ length ts → qs ≡ insert_entry R ps k new → AreStamped R 0 (ts ++ (name, None) ∷ []) (stamps qs)
    stamped-new qs new name is stamp made =
        subst (AreStamped R 0 (ts ++ (name, None) ∷ [])) (sym (stamps-made qs new (length ts) made stamp))
        (subst (λ n. AreStamped R 0 (ts ++ (name, None) ∷ []) (insert_entry R (stamps ps) k n)) (zero_plus (length ts))
        (AreStamped-push o 0 ts (stamps ps) k (name, None) (ap (is_at (R k)) is ∙ ap is_eq (tied_itself o k)) not_listed stamped))

  -- all of it together
  module _ (ts : List (K × Option V)) (named : AreNamed R (slots ps)) (stamped : AreStamped R 0 ts (stamps ps)) (value : Option V) (qs : List (K × Place K V)) (new : Place K V)
      (made : qs ≡ insert_entry R ps k new) (here : IsNamed R k new.slot) where
    slot_there : slot_or (lookup (is_at (R k)) ps) ≡ slot_at R (slots ps) k
    slot_there = slot_of_some (lookup (is_at (R k)) ps) ∙ ap (λ l. unwrap_or l Empty) (sym (lookup-each slot_of (is_at (R k)) ps))

    pub exchanged-found : (stored : K) (place : Place K V) → lookup_key (is_at (R k)) ps ≡ Some stored → lookup (is_at (R k)) ps ≡ Some place
        → ((name : K) → entry_of name new.slot ≡ option_map (λ v. (name_in k name place.slot, v)) value)
        → new.stamp ≡ (if is_some (value_stamped R ts place.stamp k) then place.stamp else length ts)
        → (before : Slot K V) → before ≡ slot_or (lookup (is_at (R k)) ps) → IsExchanged R k value ts ps qs before (unlisted R ts (filled (slots ps)) k)
    exchanged-found stored place key found shows stamp before was =
        record {
          found = was ∙ slot_there;
          made = (new.slot, slots-made named qs new value made here);
          seen = filled-made named qs new value made here (shows-found ts stored place named stamped key found new.slot value (shows (key_in R (slots ps) k)));
          named = named-made named qs new value made here;
          listed = refl;
          stamped = stamped-found ts stored place named stamped key found qs new (unlisted R ts (filled (slots ps)) k) refl (stamp_is ts stored place named stamped key found new.stamp stamp) made;
        }

    pub exchanged-new : lookup (is_at (R k)) ps ≡ None → ((name : K) → entry_of name new.slot ≡ option_map (λ v. (name, v)) value) → new.stamp ≡ length ts
        → (before : Slot K V) → before ≡ slot_or (lookup (is_at (R k)) ps) → IsExchanged R k value ts ps qs before (unlisted R ts (filled (slots ps)) k)
    exchanged-new missed shows stamp before was = record {
      found = was ∙ slot_there;
      made = (new.slot, slots-made named qs new value made here);
      seen = filled-made named qs new value made here (shows-new ts named stamped missed new.slot value (shows (key_in R (slots ps) k)));
      named = named-made named qs new value made here;
      listed = refl;
      stamped = subst (λ u. AreStamped R 0 (ts ++ option_to_list u) (stamps qs)) (unlisted-new ts named stamped missed k refl) (stamped-new ts named stamped missed qs new k refl stamp made);
    }
