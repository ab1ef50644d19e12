-- The tests of slash events tell that they are sound, operator by operator.
use Rattle.std.proofs.Common.{◌≡◌, ◌∙◌, ℕ, ◌^◌, ◌<◌, ◌≤◌, Bool, true, false, cond, List, [], ◌∷◌, Option, Some, map, refl, sym, ap, subst, arith, inl, inr, ◌&&◌, ◌||◌, ◌⊎◌, filter, not, nat_le, nat_lt, Ordering, Less, Equal, Greater, nat_cmp, true≢false}
use Rattle.std.specs.{Ordering.ordering_then, List.{AllByRecursion, Sorted.IsStrictlySortedBy}, Map.keys_of}
use Rattle.std.proofs.lemmas.{Bool.Decides.nat_tests, Map.Lookups.exact_bytes}
use Rattle.base_types.specs.Orders.{addr_cmp}
use Rattle.base_roles.specs.{declared.entities.{SlashEvent.SlashEvent, StartingInfo.StartingInfo}, Entries.at}
use Rattle.base_roles.specs.Orders.{same_addr}
use Rattle.rule_modules.specs.Sound.{EventIsSound, GrowWithHeight, StartIsSound}
use Rattle.rule_modules.proofs.OrderLemmas.{addr_total, same_back, same_is, same_itself}
use Rattle.store_records.specs.Plain.{event_at, event_cmp}
use Rattle.store_soundness.specs.Events.{is_event_sound, is_later, are_later}
use Rattle.store_soundness.specs.Standing.{are_begun, is_before, is_begun}
use Rattle.law_records.proofs.OperatorLemmas.{first_true, second_true, are_single}
use Rattle.law_records.proofs.RatioLaws.{at_most_is, later_apart, less_number}

abbrev pub Slashes : Type 0
Slashes = List ((List ℕ × ℕ × ℕ) × ℕ)

-- the slash events of an operator
abbrev pub own_events : List ℕ → Slashes → List SlashEvent
own_events o es = map event_at (filter (λ e. same_addr e.0.0 o) es)

-- ---- each by itself

below_is : (n m : ℕ) → nat_lt n m ≡ true → n < m
below_is n m t = grind (arith, nat_tests)

before_is : (o : List ℕ) (c n : ℕ) (p : List ℕ) (currents : List (List ℕ × ℕ)) → at addr_cmp currents o ≡ Some c → same_addr p o ≡ true → is_before n (at addr_cmp currents p) ≡ true → n < c
before_is o c n p currents runs own before =
    below_is n c (sym (ap (is_before n) runs) ∙ sym (ap (λ q. is_before n (at addr_cmp currents q)) (same_is p o own)) ∙ before)

pub each_event : (height : ℕ) (o : List ℕ) (c : ℕ) (currents : List (List ℕ × ℕ)) → at addr_cmp currents o ≡ Some c → (es : Slashes) → are_single height currents es ≡ true
    → AllByRecursion (EventIsSound c height) (own_events o es)
each_event height o c currents runs [] t = tt
each_event height o c currents runs (e ∷ es) t = by (same_addr e.0.0 o) refl (each_event height o c currents runs es (second_true (is_event_sound height currents e.0 e.1) (are_single height currents es) t))
  where
    one : is_event_sound height currents e.0 e.1 ≡ true
    one = first_true (is_event_sound height currents e.0 e.1) (are_single height currents es) t

    two : (is_before e.0.2 (at addr_cmp currents e.0.0) && nat_le e.0.1 height) ≡ true
    two = first_true (is_before e.0.2 (at addr_cmp currents e.0.0) && nat_le e.0.1 height) (nat_le e.1 (10 ^ 18)) one

    by : (b : Bool) → same_addr e.0.0 o ≡ b → AllByRecursion (EventIsSound c height) (own_events o es)
        → AllByRecursion (EventIsSound c height) (map event_at (cond b (e ∷ filter (λ x. same_addr x.0.0 o) es) (filter (λ x. same_addr x.0.0 o) es)))
    by true own k = (
      record {
        period = before_is o c e.0.2 e.0.0 currents runs own (first_true (is_before e.0.2 (at addr_cmp currents e.0.0)) (nat_le e.0.1 height) two);
        height = at_most_is e.0.1 height (second_true (is_before e.0.2 (at addr_cmp currents e.0.0)) (nat_le e.0.1 height) two);
        fraction = at_most_is e.1 (10 ^ 18) (second_true (is_before e.0.2 (at addr_cmp currents e.0.0) && nat_le e.0.1 height) (nat_le e.1 (10 ^ 18)) one);
      },
      k,
    )
    by false own k = k

-- so are the starts of its delegations
pub each_start : (height : ℕ) (o : List ℕ) (c : ℕ) (currents : List (List ℕ × ℕ)) → at addr_cmp currents o ≡ Some c → (es : List ((List ℕ × List ℕ) × StartingInfo)) → are_begun height currents es ≡ true
    → AllByRecursion (StartIsSound c height) (map (λ (e : (List ℕ × List ℕ) × StartingInfo). e.1) (filter (λ e. same_addr e.0.0 o) es))
each_start height o c currents runs [] t = tt
each_start height o c currents runs (e ∷ es) t = by (same_addr e.0.0 o) refl (each_start height o c currents runs es (second_true (is_begun height currents e.0.0 e.1) (are_begun height currents es) t))
  where
    one : is_begun height currents e.0.0 e.1 ≡ true
    one = first_true (is_begun height currents e.0.0 e.1) (are_begun height currents es) t

    by : (b : Bool) → same_addr e.0.0 o ≡ b → AllByRecursion (StartIsSound c height) (map (λ (x : (List ℕ × List ℕ) × StartingInfo). x.1) (filter (λ x. same_addr x.0.0 o) es))
        → AllByRecursion (StartIsSound c height) (map (λ (x : (List ℕ × List ℕ) × StartingInfo). x.1) (cond b (e ∷ filter (λ x. same_addr x.0.0 o) es) (filter (λ x. same_addr x.0.0 o) es)))
    by true own k = (
      record {
        period = before_is o c e.1.period e.0.0 currents runs own (first_true (is_before e.1.period (at addr_cmp currents e.0.0)) (nat_le e.1.height height) one);
        height = at_most_is e.1.height height (second_true (is_before e.1.period (at addr_cmp currents e.0.0)) (nat_le e.1.height height) one);
      },
      k,
    )
    by false own k = k

-- ---- their order

-- heights don't fall and periods grow, behind an event of this height and period
abbrev pub Grows : ℕ → ℕ → List SlashEvent → Type 0
Grows h n [] = Unit {0}
Grows h n (x ∷ xs) = (n < x.period) × (h ≤ x.height) × Grows x.height x.period xs

grown : (x : SlashEvent) (xs : List SlashEvent) → Grows x.height x.period xs → GrowWithHeight (x ∷ xs)
grown x [] g = tt
grown x (y ∷ xs) g = (g.0, g.1, grown y xs g.2)

then_cases : (a b : Ordering) → ordering_then a b ≡ Less → (a ≡ Less) ⊎ ((a ≡ Equal) × (b ≡ Less))
then_cases Less b h = inl refl
then_cases Equal b h = inr (refl, h)
then_cases Greater b h = absurd cc

not_above : (n m : ℕ) → n < m → n ≤ m
not_above n m l = omega (arith, l)

equal_number : (n m : ℕ) → nat_cmp n m ≡ Equal → n ≤ m
equal_number n m e = grind (arith, nat_tests)

-- a key that is above another one is of a later operator, or of the same one and not of a lower height
pub event_above : (x y : List ℕ × ℕ × ℕ) → event_cmp x y ≡ Less → (addr_cmp x.0 y.0 ≡ Less) ⊎ ((x.0 ≡ y.0) × (x.1 ≤ y.1))
event_above x y h = by (then_cases (ordering_then (addr_cmp x.0 y.0) (nat_cmp x.1 y.1)) (nat_cmp x.2 y.2) h)
  where
    two : (addr_cmp x.0 y.0 ≡ Less) ⊎ ((addr_cmp x.0 y.0 ≡ Equal) × (nat_cmp x.1 y.1 ≡ Less)) → (addr_cmp x.0 y.0 ≡ Less) ⊎ ((x.0 ≡ y.0) × (x.1 ≤ y.1))
    two (inl e) = inl e
    two (inr e) = inr (exact_bytes x.0 y.0 e.0, not_above x.1 y.1 (less_number x.1 y.1 e.1))

    tied : (a b : Ordering) → ordering_then a b ≡ Equal → (a ≡ Equal) × (b ≡ Equal)
    tied Less b e = absurd cc
    tied Equal b e = (refl, e)
    tied Greater b e = absurd cc

    by : (ordering_then (addr_cmp x.0 y.0) (nat_cmp x.1 y.1) ≡ Less) ⊎ ((ordering_then (addr_cmp x.0 y.0) (nat_cmp x.1 y.1) ≡ Equal) × (nat_cmp x.2 y.2 ≡ Less))
        → (addr_cmp x.0 y.0 ≡ Less) ⊎ ((x.0 ≡ y.0) × (x.1 ≤ y.1))
    by (inl e) = two (then_cases (addr_cmp x.0 y.0) (nat_cmp x.1 y.1) e)
    by (inr e) =
        let both = tied (addr_cmp x.0 y.0) (nat_cmp x.1 y.1) e.0 in
        inr (exact_bytes x.0 y.0 both.0, equal_number x.1 y.1 both.1)

-- of an operator before that of a key there is none behind it
none_behind : (o : List ℕ) (key : List ℕ × ℕ × ℕ) (es : Slashes) → addr_cmp o key.0 ≡ Less → AllByRecursion (λ k. event_cmp key k ≡ Less) (keys_of es) → own_events o es ≡ []
none_behind o key [] l h = refl
none_behind o key (e ∷ es) l h = ap (λ b. map event_at (cond b (e ∷ filter (λ x. same_addr x.0.0 o) es) (filter (λ x. same_addr x.0.0 o) es))) (later_apart o e.0.0 (by (event_above key e.0 h.0))) ∙ none_behind o key es l h.1
  where
    by : (addr_cmp key.0 e.0.0 ≡ Less) ⊎ ((key.0 ≡ e.0.0) × (key.1 ≤ e.0.1)) → addr_cmp o e.0.0 ≡ Less
    by (inl later) = addr_total.trans o key.0 e.0.0 l later
    by (inr same) = subst (λ p. addr_cmp o p ≡ Less) same.0 l

or_less : (a : Bool) (n m : ℕ) → a ≡ true → (not a || nat_lt n m) ≡ true → n < m
or_less true n m h t = grind (arith, nat_tests)
or_less false n m h t = absurd cc

grow_from : (o : List ℕ) (last : (List ℕ × ℕ × ℕ) × ℕ) (es : Slashes) → last.0.0 ≡ o → IsStrictlySortedBy event_cmp (keys_of (last ∷ es)) → are_later (Some (last.0.0, last.0.2)) es ≡ true → Grows last.0.1 last.0.2 (own_events o es)
unfolding IsStrictlySortedBy
grow_from o last [] own s t = tt
grow_from o last (e ∷ es) own s t = by (same_addr e.0.0 o) refl (λ is. grow_from o e es is s.1 (second_true (is_later (Some (last.0.0, last.0.2)) e.0) (are_later (Some (e.0.0, e.0.2)) es) t)) (event_above last.0 e.0 s.0.0)
  where
    period : same_addr e.0.0 o ≡ true → last.0.2 < e.0.2
    period is = or_less (same_addr last.0.0 e.0.0) last.0.2 e.0.2 (ap (λ q. same_addr q e.0.0) own ∙ same_back o e.0.0 ∙ is) (first_true (is_later (Some (last.0.0, last.0.2)) e.0) (are_later (Some (e.0.0, e.0.2)) es) t)

    by : (b : Bool) → same_addr e.0.0 o ≡ b → (e.0.0 ≡ o → Grows e.0.1 e.0.2 (own_events o es)) → (addr_cmp last.0.0 e.0.0 ≡ Less) ⊎ ((last.0.0 ≡ e.0.0) × (last.0.1 ≤ e.0.1))
        → Grows last.0.1 last.0.2 (map event_at (cond b (e ∷ filter (λ x. same_addr x.0.0 o) es) (filter (λ x. same_addr x.0.0 o) es)))
    by true is k (inl less) = absurd (true≢false (sym is ∙ later_apart o e.0.0 (subst (λ q. addr_cmp q e.0.0 ≡ Less) own less)))
    by true is k (inr same) = (period is, same.1, k (same_is e.0.0 o is))
    by false is k (inl less) = subst (Grows last.0.1 last.0.2) (sym (none_behind o e.0 es (subst (λ q. addr_cmp q e.0.0 ≡ Less) own less) s.1.0)) tt
    by false is k (inr same) = absurd (true≢false (sym (ap (λ q. same_addr q o) (sym same.0) ∙ ap (λ q. same_addr q o) own ∙ same_itself o) ∙ is))

-- the events of an operator are in order
pub in_order : (o : List ℕ) (last : Option (List ℕ × ℕ)) (es : Slashes) → IsStrictlySortedBy event_cmp (keys_of es) → are_later last es ≡ true → GrowWithHeight (own_events o es)
unfolding IsStrictlySortedBy
in_order o last [] s t = tt
in_order o last (e ∷ es) s t = by (same_addr e.0.0 o) refl (in_order o (Some (e.0.0, e.0.2)) es s.1 rest)
  where
    rest : are_later (Some (e.0.0, e.0.2)) es ≡ true
    rest = second_true (is_later last e.0) (are_later (Some (e.0.0, e.0.2)) es) t

    by : (b : Bool) → same_addr e.0.0 o ≡ b → GrowWithHeight (own_events o es) → GrowWithHeight (map event_at (cond b (e ∷ filter (λ x. same_addr x.0.0 o) es) (filter (λ x. same_addr x.0.0 o) es)))
    by true is k = grown (event_at e) (own_events o es) (grow_from o e es (same_is e.0.0 o is) s rest)
    by false is k = k
