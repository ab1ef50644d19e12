-- Denominations that a statement lists, and those that it does not, of which nothing was allocated.
use Rattle.std.proofs.Common.{◌≡◌, ◌∙◌, ℕ, zero, suc, ◌+◌, ◌*◌, ◌^◌, ◌<◌, ◌==◌, ◌⊎◌, inl, inr, Bool, true, false, List, [], ◌∷◌, length, map, refl, sym, ap, subst, arith, Contains, if◌then◌else◌, Ordering, Less, Equal, Greater}
use Rattle.std.specs.{BTreeMap.is_at, BTreeSet.insert_key, Ordering.match_ordering}
use Rattle.base_types.specs.Orders.{denom_cmp}
use Rattle.base_coins.{specs.Coins.{Money, amount_of}, proofs.{Order.same_name, Amounts.{amount-first_other, is_equal}}}
use Rattle.base_decimals.specs.Fractions.{Fraction, fraction_of}
use Rattle.base_shares.specs.Burns.{ratio_of}
use Rattle.rule_modules.specs.Ideal.{Ideal, ◌⊕◌, ◌⊗◌, ideal_of, ideal_over, ideal_start, stretch_closed}
use Rattle.mod_statement.specs.declared.entry.Entry.{Entry, TheVariants.{Started, Allocated, Ended, Slashed, Touched}}
use Rattle.mod_statement.specs.{Bracketed.{logged, logged_span}, Slack.{denoms_of, denoms_over, denoms_with}}

module _ (d : List ℕ) where
  -- ---- a denomination among others

  at_first : (e : List ℕ) (ds : List (List ℕ)) → e ≡ d → Contains (e ∷ ds) d
  at_first e ds h = (0, omega arith, h)

  at_later : (e : List ℕ) (ds : List (List ℕ)) → Contains ds d → Contains (e ∷ ds) d
  at_later e ds (k, lt, is) = (suc k, omega (arith, lt), is)

  put_in : (ds : List (List ℕ)) (e : List ℕ) → e ≡ d → Contains (insert_key denom_cmp ds e) d
  put_in [] e h = at_first e [] h
  put_in (x ∷ xs) e h = by (denom_cmp e x) refl (put_in xs e h)
    where
      by : (o : Ordering) → denom_cmp e x ≡ o → Contains (insert_key denom_cmp xs e) d → Contains (match_ordering o (e ∷ x ∷ xs) (x ∷ xs) (x ∷ insert_key denom_cmp xs e)) d
      by Less is rest = at_first e (x ∷ xs) h
      by Equal is rest = at_first x xs (sym (same_name e x is) ∙ h)
      by Greater is rest = at_later x (insert_key denom_cmp xs e) rest

  still_in : (ds : List (List ℕ)) (e : List ℕ) → Contains ds d → Contains (insert_key denom_cmp ds e) d
  still_in [] e (k, lt, is) = absurd (omega (arith, lt))
  still_in (x ∷ xs) e h = by (denom_cmp e x) h (λ c. still_in xs e c)
    where
      behind : Contains (x ∷ xs) d → (Contains xs d → Contains (insert_key denom_cmp xs e) d) → Contains (x ∷ insert_key denom_cmp xs e) d
      behind (zero, lt, is) rest = at_first x (insert_key denom_cmp xs e) is
      behind (suc k, lt, is) rest = at_later x (insert_key denom_cmp xs e) (rest (k, omega (arith, lt), is))

      by : (o : Ordering) → Contains (x ∷ xs) d → (Contains xs d → Contains (insert_key denom_cmp xs e) d) → Contains (match_ordering o (e ∷ x ∷ xs) (x ∷ xs) (x ∷ insert_key denom_cmp xs e)) d
      by Less c rest = at_later e (x ∷ xs) c
      by Equal c rest = c
      by Greater c rest = behind c rest

  -- ---- those of coins

  with_still : (cs : Money) (ds : List (List ℕ)) → Contains ds d → Contains (denoms_with ds cs) d
  with_still [] ds h = h
  with_still (c ∷ cs) ds h = with_still cs (insert_key denom_cmp ds c.0) (still_in ds c.0 h)

  with_own : (cs : Money) (ds : List (List ℕ)) → (amount_of cs d ≡ 0) ⊎ Contains (denoms_with ds cs) d
  with_own [] ds = inl refl
  with_own (c ∷ cs) ds = by (is_at (denom_cmp d) c.0) refl (with_own cs (insert_key denom_cmp ds c.0))
    where
      by : (b : Bool) → is_at (denom_cmp d) c.0 ≡ b → (amount_of cs d ≡ 0) ⊎ Contains (denoms_with (insert_key denom_cmp ds c.0) cs) d
          → (amount_of (c ∷ cs) d ≡ 0) ⊎ Contains (denoms_with ds (c ∷ cs)) d
      by true is rest = inr (with_still cs (insert_key denom_cmp ds c.0) (put_in ds c.0 (sym (same_name d c.0 (is_equal d c.0 is)))))
      by false is (inl none) = inl (amount-first_other d c cs is ∙ none)
      by false is (inr some) = inr some

  -- ---- those of entries

  -- nothing of it was allocated
  abbrev pub Absent : List Entry → Type 0
  Absent [] = Unit {0}
  Absent (Allocated coins tokens ∷ es) = (amount_of coins d ≡ 0) × Absent es
  Absent (e ∷ es) = Absent es

  over_still : (es : List Entry) (ds : List (List ℕ)) → Contains ds d → Contains (denoms_over ds es) d
  over_still [] ds h = h
  over_still (Allocated coins tokens ∷ es) ds h = over_still es (denoms_with ds coins) (with_still coins ds h)
  over_still (Started shares tokens total ∷ es) ds h = over_still es ds h
  over_still (Ended ∷ es) ds h = over_still es ds h
  over_still (Slashed burned tokens ∷ es) ds h = over_still es ds h
  over_still (Touched ∷ es) ds h = over_still es ds h

  over_own : (es : List Entry) (ds : List (List ℕ)) → Absent es ⊎ Contains (denoms_over ds es) d
  over_own [] ds = inl tt
  over_own (Allocated coins tokens ∷ es) ds = by (with_own coins ds) (over_own es (denoms_with ds coins))
    where
      by : (amount_of coins d ≡ 0) ⊎ Contains (denoms_with ds coins) d → Absent es ⊎ Contains (denoms_over (denoms_with ds coins) es) d
          → Absent (Allocated coins tokens ∷ es) ⊎ Contains (denoms_over ds (Allocated coins tokens ∷ es)) d
      by (inr some) rest = inr (over_still es (denoms_with ds coins) some)
      by (inl none) (inl later) = inl (none, later)
      by (inl none) (inr some) = inr some
  over_own (Started shares tokens total ∷ es) ds = over_own es ds
  over_own (Ended ∷ es) ds = over_own es ds
  over_own (Slashed burned tokens ∷ es) ds = over_own es ds
  over_own (Touched ∷ es) ds = over_own es ds

  -- a statement lists it, or nothing of it was allocated
  pub listed_or_absent : (ratio : Money) (es : List Entry) → Absent es ⊎ Contains (denoms_of ratio es) d
  listed_or_absent ratio es = over_own es (denoms_with [] ratio)

  -- ---- of what is not allocated no reward is ideal

  nothing_joined : (n m f p x : ℕ) → n ≡ 0 → f ≡ 0 → n * x + f * p * 1 * m ≡ 0
  nothing_joined n m f p x none nothing = rw (none, nothing) (omega arith)

  nothing_over : (first : Fraction) (es : List Entry) (i : Ideal) → Absent es → i.reward.numerator ≡ 0 → (ideal_over d first i (map logged es)).reward.numerator ≡ 0
  nothing_over first [] i a h = h
  nothing_over first (Allocated coins tokens ∷ es) i a h = by (tokens == 0) (λ j k. nothing_over first es j a.1 k)
    where
      shared : Bool → Ideal
      shared b = if b then i else record i { reward = i.reward ⊕ fraction_of (amount_of coins d) ⊗ i.stake ⊗ ratio_of 1 tokens; rate = i.rate ⊕ fraction_of (amount_of coins d) ⊗ ratio_of 1 tokens }

      by : (b : Bool) → ((j : Ideal) → j.reward.numerator ≡ 0 → (ideal_over d first j (map logged es)).reward.numerator ≡ 0) → (ideal_over d first (shared b) (map logged es)).reward.numerator ≡ 0
      by true rest = rest i h
      by false rest = rest (shared false)
          (nothing_joined i.reward.numerator i.reward.denominator (amount_of coins d) i.stake.numerator (10 ^ 18 * i.stake.denominator * tokens) h a.0)
  nothing_over first (Started shares tokens total ∷ es) i a h = nothing_over first es i a h
  nothing_over first (Ended ∷ es) i a h = nothing_over first es (record i { ended = i.ended + 1 }) a h
  nothing_over first (Slashed burned tokens ∷ es) i a h = nothing_over first es (stretch_closed first burned tokens i) a h
  nothing_over first (Touched ∷ es) i a h = nothing_over first es (record i { left = i.left + 1 }) a h

  pub nothing_ideal : (shares tokens total : ℕ) (rest : List Entry) → Absent rest → (ideal_of d (logged_span shares tokens total rest)).reward.numerator ≡ 0
  nothing_ideal shares tokens total rest a = nothing_over (ratio_of (shares * tokens) total) rest (ideal_start (ratio_of (shares * tokens) total)) a refl
