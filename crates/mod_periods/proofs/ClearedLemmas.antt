-- The records without an operator's stand for plain ones without its periods.
use Rattle.std.proofs.Common.{◌≡◌, ℕ, ◌==◌, ◌&&◌, Bool, true, false, cond, if◌then◌else◌, List, [], ◌∷◌, filter, map, Option, Some, None, is_some, option_map, unwrap_or, refl, sym, ◌∙◌, ap}
use Rattle.std.specs.{BTreeMap.is_at, List.Sorted.IsStrictlySortedBy, Map.{keys_of, lookup}}
use Rattle.base_types.{specs.Orders.addr_cmp, proofs.MapLemmas.{ascend-taken, at-taken}}
use Rattle.base_roles.specs.{Entries.at, Orders.{pair_cmp, same_addr}}
use Rattle.rule_modules.specs.Periods.{Periods, Rewards, initial_records, periods_of, start_of, starts_of, without_periods}
use Rattle.mod_periods.specs.Kept.{Kept, period_cmp, current_of, record_of, info_of, event_at, events_of, others, without_operator}
use Rattle.mod_periods.specs.Stands.{AreSound, KeepsRewards, history_of}
use Rattle.mod_periods.proofs.{OrderLemmas.{addr_total, same_is, same_itself, period_found}, CarryLemmas.each-operator}

module _ {K X : Type 0} (operator_of : K → List ℕ) (o : List ℕ) where
  -- a look-up of another operator's key finds what it found
  lookup-others : (test : K → Bool) → ((k : K) → test k ≡ true → same_addr (operator_of k) o ≡ false) → (es : List (K × X)) → lookup test (others operator_of o es) ≡ lookup test es
  lookup-others test apart [] = refl
  lookup-others test apart (e ∷ es) = by (same_addr (operator_of e.0) o) refl (lookup-others test apart es)
    where
      miss : (b : Bool) → test e.0 ≡ b → same_addr (operator_of e.0) o ≡ true → (r : Option X) → r ≡ cond b (Some e.1) r
      miss true t own r = let no : true ≡ false = sym own ∙ apart e.0 t in cc
      miss false t own r = refl

      by : (b : Bool) → same_addr (operator_of e.0) o ≡ b → lookup test (others operator_of o es) ≡ lookup test es
          → lookup test (cond (if b then false else true) (e ∷ others operator_of o es) (others operator_of o es)) ≡ cond (test e.0) (Some e.1) (lookup test es)
      by true own later = later ∙ miss (test e.0) refl own (lookup test es)
      by false own later = ap (cond (test e.0) (Some e.1)) later

  -- of the operator's own keys none is found
  lookup-none : (test : K → Bool) → ((k : K) → test k ≡ true → same_addr (operator_of k) o ≡ true) → (es : List (K × X)) → lookup test (others operator_of o es) ≡ None
  lookup-none test own [] = refl
  lookup-none test own (e ∷ es) = by (same_addr (operator_of e.0) o) refl (lookup-none test own es)
    where
      miss : (b : Bool) → test e.0 ≡ b → same_addr (operator_of e.0) o ≡ false → (r : Option X) → cond b (Some e.1) r ≡ r
      miss true t other r = let no : true ≡ false = sym (own e.0 t) ∙ other in cc
      miss false t other r = refl

      by : (b : Bool) → same_addr (operator_of e.0) o ≡ b → lookup test (others operator_of o es) ≡ None
          → lookup test (cond (if b then false else true) (e ∷ others operator_of o es) (others operator_of o es)) ≡ None
      by true t later = later
      by false t later = miss (test e.0) refl t (lookup test (others operator_of o es)) ∙ later

  -- another operator's entries all stay, and none of its own does
  filter-others : (q : List ℕ) → same_addr q o ≡ false → (es : List (K × X)) → filter (λ e. same_addr (operator_of e.0) q) (others operator_of o es) ≡ filter (λ e. same_addr (operator_of e.0) q) es
  filter-others q apart [] = refl
  filter-others q apart (e ∷ es) = by (same_addr (operator_of e.0) o) refl (same_addr (operator_of e.0) q) refl (filter-others q apart es)
    where
      by : (a : Bool) → same_addr (operator_of e.0) o ≡ a → (b : Bool) → same_addr (operator_of e.0) q ≡ b
          → filter (λ d. same_addr (operator_of d.0) q) (others operator_of o es) ≡ filter (λ d. same_addr (operator_of d.0) q) es
          → filter (λ d. same_addr (operator_of d.0) q) (cond (if a then false else true) (e ∷ others operator_of o es) (others operator_of o es))
          ≡ cond b (e ∷ filter (λ d. same_addr (operator_of d.0) q) es) (filter (λ d. same_addr (operator_of d.0) q) es)
      by true s true t later =
          let one : operator_of e.0 ≡ o = same_is (operator_of e.0) o s in
          let two : operator_of e.0 ≡ q = same_is (operator_of e.0) q t in
          let no : true ≡ false = sym s ∙ ap (λ x. same_addr x o) two ∙ apart in cc
      by true s false t later = later
      by false s b t later = ap (λ p. cond p (e ∷ filter (λ d. same_addr (operator_of d.0) q) (others operator_of o es)) (filter (λ d. same_addr (operator_of d.0) q) (others operator_of o es))) t
          ∙ ap (λ l. cond b (e ∷ l) l) later

  filter-none : (es : List (K × X)) → filter (λ e. same_addr (operator_of e.0) o) (others operator_of o es) ≡ []
  filter-none [] = refl
  filter-none (e ∷ es) = by (same_addr (operator_of e.0) o) refl (filter-none es)
    where
      by : (b : Bool) → same_addr (operator_of e.0) o ≡ b → filter (λ d. same_addr (operator_of d.0) o) (others operator_of o es) ≡ []
          → filter (λ d. same_addr (operator_of d.0) o) (cond (if b then false else true) (e ∷ others operator_of o es) (others operator_of o es)) ≡ []
      by true t later = later
      by false t later = ap (λ p. cond p (e ∷ filter (λ d. same_addr (operator_of d.0) o) (others operator_of o es)) (filter (λ d. same_addr (operator_of d.0) o) (others operator_of o es))) t ∙ later

apart_keys : (o q a : List ℕ) → same_addr q o ≡ false → same_addr q a ≡ true → same_addr a o ≡ false
apart_keys o q a apart t = ap (λ x. same_addr x o) (sym (same_is q a t)) ∙ apart

first_same : (a b : Bool) → (a && b) ≡ true → a ≡ true
first_same true b h = refl
first_same false b h = cc

module _ (k : Kept) (r : Rewards) (o : List ℕ) (h : KeepsRewards k r) (is : is_some (current_of k o) ≡ true) (current : IsStrictlySortedBy addr_cmp (keys_of k.current)) (none : (delegator : List ℕ) → info_of k delegator o ≡ None) where
  own_periods : at addr_cmp (without_periods o r).periods o ≡ None
  own_periods = at-taken addr_cmp addr_total r.periods o o h.sound.operators_ascend ∙ ap (λ b. cond b None (at addr_cmp r.periods o)) (same_itself o)

  other_periods : (q : List ℕ) → same_addr q o ≡ false → at addr_cmp (without_periods o r).periods q ≡ at addr_cmp r.periods q
  other_periods q apart = at-taken addr_cmp addr_total r.periods o q h.sound.operators_ascend ∙ ap (λ b. cond b None (at addr_cmp r.periods q)) apart

  not_some : {A : Type 0} (x : Option A) → x ≡ None → is_some x ≡ true → ⊥
  not_some None e t = cc
  not_some (Some a) e t = cc

  no_start : (delegator : List ℕ) → is_some (start_of r delegator o) ≡ true → ⊥
  no_start delegator t = not_some (start_of r delegator o) (ap (λ es. at pair_cmp es (o, delegator)) (sym h.starts) ∙ none delegator) t

  -- the records of the operator are gone, and the others' stay
  pub clear-stands : KeepsRewards (without_operator o k) (without_periods o r)
  clear-stands = record {
    current = each-operator (λ q. current_of (without_operator o k) q ≡ option_map (λ p. p.current) (at addr_cmp (without_periods o r).periods q)) o
        (at-taken addr_cmp addr_total k.current o o current ∙ ap (λ b. cond b None (current_of k o)) (same_itself o) ∙ sym (ap (option_map (λ p. p.current)) own_periods))
        (λ q apart. at-taken addr_cmp addr_total k.current o q current ∙ ap (λ b. cond b None (current_of k q)) apart ∙ h.current q ∙ sym (ap (option_map (λ p. p.current)) (other_periods q apart)));
    historical = each-operator (λ q. (n : ℕ) → record_of (without_operator o k) q n ≡ history_of (at addr_cmp (without_periods o r).periods q) (starts_of r q) n) o
        (λ n. lookup-none (λ (key : List ℕ × ℕ). key.0) o (is_at (period_cmp (o, n)))
        (λ key t. ap (λ x. same_addr x o) (sym (same_is o key.0 (first_same (same_addr o key.0) (n == key.1) (sym (period_found o key.0 n key.1) ∙ t)))) ∙ same_itself o) k.historical
        ∙ sym (ap (λ p. history_of p (starts_of r o) n) own_periods))
        (λ q apart n. lookup-others (λ (key : List ℕ × ℕ). key.0) o (is_at (period_cmp (q, n)))
        (λ key t. apart_keys o q key.0 apart (first_same (same_addr q key.0) (n == key.1) (sym (period_found q key.0 n key.1) ∙ t))) k.historical
        ∙ h.historical q n ∙ sym (ap (λ p. history_of p (starts_of r q) n) (other_periods q apart)));
    starts = h.starts;
    events = each-operator (λ q. events_of (without_operator o k) q ≡ (periods_of (without_periods o r) q).events) o
        (ap (map event_at) (filter-none (λ (key : List ℕ × ℕ × ℕ). key.0) o k.events) ∙ sym (ap (λ p. (unwrap_or p initial_records).events) own_periods))
        (λ q apart. ap (map event_at) (filter-others (λ (key : List ℕ × ℕ × ℕ). key.0) o q apart k.events) ∙ h.events q ∙ sym (ap (λ p. (unwrap_or p initial_records).events) (other_periods q apart)));
    sound = record {
      operators_ascend = ascend-taken addr_cmp (is_at (addr_cmp o)) r.periods h.sound.operators_ascend;
      starts_ascend = h.sound.starts_ascend;
      periods = each-operator (λ q. (p : Periods) → at addr_cmp (without_periods o r).periods q ≡ Some p → AreSound p (starts_of r q)) o
          (λ p e. let no : None ≡ Some p = sym own_periods ∙ e in cc)
          (λ q apart p e. h.sound.periods q p (sym (other_periods q apart) ∙ e));
      started = each-operator (λ q. (delegator : List ℕ) → is_some (start_of r delegator q) ≡ true → is_some (at addr_cmp (without_periods o r).periods q) ≡ true) o
          (λ delegator t. absurd (no_start delegator t))
          (λ q apart delegator t. ap is_some (other_periods q apart) ∙ h.sound.started q delegator t);
    };
  }
