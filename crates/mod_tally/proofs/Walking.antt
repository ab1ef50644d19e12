-- What delegations add to the totals and take from validators, one after another, and what operators add in the end.
use Rattle.std.proofs.Common.{◌≡◌, ◌∙◌, ℕ, ◌+◌, ◌-◌, ◌*◌, ◌^◌, ◌<◌, ◌≤◌, Bool, true, false, cond, List, [], ◌∷◌, map, Option, Some, None, refl, sym, ap, subst, arith, zero-add, add-zero, add_assoc, is_some, unwrap_or, filter, sum_by}
use Rattle.std.specs.{List.{AllByRecursion, Sorted.IsStrictlySortedBy}, Map.{keys_of, lookup}, BTreeMap.is_at}
use Rattle.std.proofs.lemmas.Map.{none_passes_from_lookup, Lookups.exact_bytes}
use Rattle.base_types.specs.Orders.{addr_cmp}
use Rattle.base_roles.specs.{Entries.{at, with}, Orders.same_addr}
use Rattle.rule_modules.proofs.OrderLemmas.{addr_total, equal, same_itself}
use Rattle.mod_tally.specs.declared.{choice.Choice.{Choice, TheVariants.{Yes, Abstain, No, Veto}}, outcome.Tally.Tally}
use Rattle.mod_tally.specs.{declared.polls.Poll.Poll, Ballots.{Chosen, is_for, same_choice}}
use Rattle.mod_tally.specs.Counting.{Polls, Running, CanClose, CanCount, CanCountLeft, CanWalk, closed, counted, delegation_counted, left_counted, raised, total_for, walked, worth_at}
use Rattle.mod_tally.specs.Tally.{Delegations, delegations_to, shares_in, those_cast}
use Rattle.mod_tally.proofs.{Entries.{equal_apart, mapped, mapped_none, mapped_put, mapped_some}, Sums.sum_next}

-- ---- totals

-- totals with more for each choice
abbrev pub with_more : (Choice → ℕ) → Tally → Tally
with_more f t = record { yes = t.yes + f Yes; abstain = t.abstain + f Abstain; no = t.no + f No; veto = t.veto + f Veto; bonded = t.bonded }

pub more_for : (f : Choice → ℕ) (t : Tally) (c : Choice) → total_for (with_more f t) c ≡ total_for t c + f c
more_for f t Yes = refl
more_for f t Abstain = refl
more_for f t No = refl
more_for f t Veto = refl

pub no_more : (t : Tally) → with_more (λ c. 0) t ≡ t
no_more t = λ i. record { yes = add-zero t.yes i; abstain = add-zero t.abstain i; no = add-zero t.no i; veto = add-zero t.veto i; bonded = t.bonded }

pub more_again : (f g : Choice → ℕ) (t : Tally) → with_more g (with_more f t) ≡ with_more (λ c. f c + g c) t
more_again f g t = λ i. record {
  yes = add_assoc t.yes (f Yes) (g Yes) i;
  abstain = add_assoc t.abstain (f Abstain) (g Abstain) i;
  no = add_assoc t.no (f No) (g No) i;
  veto = add_assoc t.veto (f Veto) (g Veto) i;
  bonded = t.bonded;
}

pub same_more : (f g : Choice → ℕ) → ((c : Choice) → f c ≡ g c) → (t : Tally) → with_more f t ≡ with_more g t
same_more f g h t = λ i. with_more (λ c. h c i) t

-- more for one choice
pub raised_is : (c : Choice) (n : ℕ) (t : Tally) → raised c n t ≡ with_more (λ other. cond (same_choice c other) n 0) t
raised_is Yes n t = λ i. record { yes = t.yes + n; abstain = sym (add-zero t.abstain) i; no = sym (add-zero t.no) i; veto = sym (add-zero t.veto) i; bonded = t.bonded }
raised_is Abstain n t = λ i. record { yes = sym (add-zero t.yes) i; abstain = t.abstain + n; no = sym (add-zero t.no) i; veto = sym (add-zero t.veto) i; bonded = t.bonded }
raised_is No n t = λ i. record { yes = sym (add-zero t.yes) i; abstain = sym (add-zero t.abstain) i; no = t.no + n; veto = sym (add-zero t.veto) i; bonded = t.bonded }
raised_is Veto n t = λ i. record { yes = sym (add-zero t.yes) i; abstain = sym (add-zero t.abstain) i; no = sym (add-zero t.no) i; veto = t.veto + n; bonded = t.bonded }

pub choice_itself : (c : Choice) → same_choice c c ≡ true
choice_itself Yes = refl
choice_itself Abstain = refl
choice_itself No = refl
choice_itself Veto = refl

pub nothing_if : (b : Bool) → ◌≡◌ {A = ℕ} (cond b 0 0) 0
nothing_if true = refl
nothing_if false = refl

-- ---- room

-- the first number has room where all have
room_of : {X : Type 0} (f : X → ℕ) (x : X) (xs : List X) (n : ℕ) → n + sum_by f (x ∷ xs) < 10 ^ 38 → n + f x < 10 ^ 38
room_of f x xs n h = let all : sum_by f (x ∷ xs) ≡ f x + sum_by f xs = sum_next f x xs in omega arith

-- and the others behind it
room_after : {X : Type 0} (f : X → ℕ) (x : X) (xs : List X) (n m : ℕ) → m ≡ n + f x → n + sum_by f (x ∷ xs) < 10 ^ 38 → m + sum_by f xs < 10 ^ 38
room_after f x xs n m e h = let all : sum_by f (x ∷ xs) ≡ f x + sum_by f xs = sum_next f x xs in omega arith

-- ---- delegations

module _ (chosen : Chosen) where
  -- the shares of voters' delegations to an operator
  abbrev pub taken : Delegations → List ℕ → ℕ
  taken ds operator = shares_in (those_cast chosen (delegations_to operator ds))

  -- what one delegation takes from an operator
  abbrev pub taken_once : (List ℕ × List ℕ) × ℕ → List ℕ → ℕ
  taken_once d operator = cond (same_addr d.0.0 operator) (cond (is_some (chosen d.0.1)) d.1 0) 0

  taken_by : (d : (List ℕ × List ℕ) × ℕ) (ds : Delegations) (a b : Bool)
      → shares_in (cond b (d ∷ those_cast chosen ds) (those_cast chosen ds)) ≡ cond b d.1 0 + shares_in (those_cast chosen ds)
  taken_by d ds a true = sum_next (λ e. e.1) d (those_cast chosen ds)
  taken_by d ds a false = sym (zero-add (shares_in (those_cast chosen ds)))

  taken_if : (d : (List ℕ × List ℕ) × ℕ) (ds : Delegations) (a : Bool)
      → shares_in (those_cast chosen (cond a (d ∷ ds) ds)) ≡ cond a (cond (is_some (chosen d.0.1)) d.1 0) 0 + shares_in (those_cast chosen ds)
  taken_if d ds true = taken_by d ds true (is_some (chosen d.0.1))
  taken_if d ds false = sym (zero-add (shares_in (those_cast chosen ds)))

  pub taken_next : (d : (List ℕ × List ℕ) × ℕ) (ds : Delegations) (operator : List ℕ) → taken (d ∷ ds) operator ≡ taken_once d operator + taken ds operator
  taken_next d ds operator = taken_if d (delegations_to operator ds) (same_addr d.0.0 operator)

  -- what a delegation adds to a choice
  abbrev pub given : Option Poll → ℕ → ℕ
  given None part = 0
  given (Some p) part = worth_at p part

  abbrev pub added : Polls → Choice → (List ℕ × List ℕ) × ℕ → ℕ
  added es c d = cond (is_for (chosen d.0.1) c) (given (at addr_cmp es d.0.0) d.1) 0

  abbrev pub added_all : Polls → Choice → Delegations → ℕ
  added_all es c ds = sum_by (added es c) ds

  -- ---- a validator while delegations are left

  module _ (final : List ℕ × Poll → ℕ) where
    -- what is known of a validator while these delegations are still to be counted
    abbrev pub poll_before : Delegations → List ℕ × Poll → Poll
    poll_before ds e = record e.1 { left = final e + taken ds e.0 }

    abbrev pub polls_before : Delegations → Polls → Polls
    polls_before ds es = mapped (poll_before ds) es

    -- a validator has the shares of these delegations
    pub record IsFit (ds : Delegations) (e : List ℕ × Poll) : Type 0 where
      pub tokens : e.1.tokens ≤ 10 ^ 18
      pub some : 0 < e.1.shares
      pub left : final e + taken ds e.0 ≤ e.1.shares

    abbrev pub AreFit : Delegations → Polls → Type 0
    AreFit ds es = AllByRecursion (IsFit ds) es

    fit_later : (d : (List ℕ × List ℕ) × ℕ) (ds : Delegations) (es : Polls) → AreFit (d ∷ ds) es → AreFit ds es
    fit_later d ds [] h = tt
    fit_later d ds (e ∷ es) h =
        let f : IsFit (d ∷ ds) e = h.0 in
        let more : taken (d ∷ ds) e.0 ≡ taken_once d e.0 + taken ds e.0 = taken_next d ds e.0 in
        let left : final e + taken (d ∷ ds) e.0 ≤ e.1.shares = f.left in
        (record { tokens = f.tokens; some = f.some; left = omega arith }, fit_later d ds es h.1)

    fit_at : (ds : Delegations) (q : List ℕ) (p : Poll) (es : Polls) → AreFit ds es → at addr_cmp es q ≡ Some p → IsFit ds (q, p)
    fit_at ds q p [] h n = absurd cc
    fit_at ds q p (e ∷ es) h n = by (is_at (addr_cmp q) e.0) refl n (fit_at ds q p es h.1)
      where
        by : (b : Bool) → is_at (addr_cmp q) e.0 ≡ b → cond b (Some e.1) (at addr_cmp es q) ≡ Some p → (at addr_cmp es q ≡ Some p → IsFit ds (q, p)) → IsFit ds (q, p)
        by true same n later =
            let key : q ≡ e.0 = exact_bytes q e.0 (equal _ same) in
            let value : e.1 ≡ p = ap (λ v. unwrap_or v p) n in
            subst (IsFit ds) (λ i. (sym key i, value i)) h.0
        by false same n later = later n

    -- ---- a step

    left_alike : (e : List ℕ × Poll) (m n : ℕ) → m ≡ n → record e.1 { left = final e + m } ≡ record e.1 { left = final e + n }
    left_alike e m n h = λ i. record e.1 { left = final e + h i }

    -- another validator stays as it is
    others : (d : (List ℕ × List ℕ) × ℕ) (ds : Delegations) (e : List ℕ × Poll) → same_addr d.0.0 e.0 ≡ false → poll_before (d ∷ ds) e ≡ poll_before ds e
    others d ds e apart =
        left_alike e (taken (d ∷ ds) e.0) (taken ds e.0)
        (taken_next d ds e.0 ∙ ap (λ b. cond b (cond (is_some (chosen d.0.1)) d.1 0) 0 + taken ds e.0) apart ∙ zero-add (taken ds e.0))

    -- where the delegator cast no ballot, each does
    none_taken : (d : (List ℕ × List ℕ) × ℕ) (ds : Delegations) (q : List ℕ) → chosen d.0.1 ≡ None → taken (d ∷ ds) q ≡ taken ds q
    none_taken d ds q none = taken_next d ds q ∙ by (same_addr d.0.0 q) (is_some (chosen d.0.1)) (ap is_some none)
      where
        by : (a b : Bool) → b ≡ false → cond a (cond b d.1 0) 0 + taken ds q ≡ taken ds q
        by true true h = absurd cc
        by true false h = zero-add (taken ds q)
        by false b h = zero-add (taken ds q)

    all_stay : (d : (List ℕ × List ℕ) × ℕ) (ds : Delegations) (es : Polls) → chosen d.0.1 ≡ None → polls_before (d ∷ ds) es ≡ polls_before ds es
    all_stay d ds [] none = refl
    all_stay d ds (e ∷ es) none = λ i. (e.0, left_alike e (taken (d ∷ ds) e.0) (taken ds e.0) (none_taken d ds e.0 none) i) ∷ all_stay d ds es none i

    first_room : (es : Polls) (d : (List ℕ × List ℕ) × ℕ) (ds : Delegations) (t : Tally) (c : Choice) → total_for t c + added_all es c (d ∷ ds) < 10 ^ 38 → total_for t c + added es c d < 10 ^ 38
    first_room es d ds t c h = room_of (added es c) d ds (total_for t c) h

    later_room : (es : Polls) (d : (List ℕ × List ℕ) × ℕ) (ds : Delegations) (t : Tally) (c : Choice) → total_for t c + added_all es c (d ∷ ds) < 10 ^ 38
        → total_for (with_more (λ other. added es other d) t) c + added_all es c ds < 10 ^ 38
    later_room es d ds t c h = room_after (added es c) d ds (total_for t c) (total_for (with_more (λ other. added es other d) t) c) (more_for (λ other. added es other d) t c) h

    module _ (es : Polls) (s : IsStrictlySortedBy addr_cmp (keys_of es)) where
      put_is : (d : (List ℕ × List ℕ) × ℕ) (ds : Delegations) (p : Poll) (c : Choice) → chosen d.0.1 ≡ Some c → at addr_cmp es d.0.0 ≡ Some p
          → with addr_cmp (polls_before (d ∷ ds) es) d.0.0 (record p { left = (final (d.0.0, p) + taken (d ∷ ds) d.0.0) - d.1 }) ≡ polls_before ds es
      put_is d ds p c ch there =
          let one : taken (d ∷ ds) d.0.0 ≡ d.1 + taken ds d.0.0 = taken_next d ds d.0.0 ∙ (λ i. cond (same_itself d.0.0 i) (cond (is_some (ch i)) d.1 0) 0 + taken ds d.0.0) in
          let less : (final (d.0.0, p) + taken (d ∷ ds) d.0.0) - d.1 ≡ final (d.0.0, p) + taken ds d.0.0 = omega arith in
          ap (λ n. with addr_cmp (polls_before (d ∷ ds) es) d.0.0 (record p { left = n })) less
          ∙ mapped_put addr_total exact_bytes d.0.0 p (poll_before (d ∷ ds)) (poll_before ds) (others d ds) es s there

      -- a delegation is counted
      once : (d : (List ℕ × List ℕ) × ℕ) (ds : Delegations) (t : Tally)
          → delegation_counted chosen d (polls_before (d ∷ ds) es, t) ≡ (polls_before ds es, with_more (λ c. added es c d) t)
      once d ds t = by (chosen d.0.1) refl (at addr_cmp es d.0.0) refl
        where
          by : (o : Option Choice) → chosen d.0.1 ≡ o → (p : Option Poll) → at addr_cmp es d.0.0 ≡ p
              → counted o (at addr_cmp (polls_before (d ∷ ds) es) d.0.0) d.0.0 d.1 (polls_before (d ∷ ds) es, t)
              ≡ (polls_before ds es, with_more (λ c. cond (is_for o c) (given p d.1) 0) t)
          by None ch p there = λ i. (all_stay d ds es ch i, sym (no_more t) i)
          by (Some c) ch None there =
              ap (λ q. counted (Some c) q d.0.0 d.1 (polls_before (d ∷ ds) es, t)) (mapped_none exact_bytes (poll_before (d ∷ ds)) d.0.0 es there)
              ∙ (λ i. (
                equal_apart exact_bytes d.0.0 (poll_before (d ∷ ds)) (poll_before ds) (others d ds) es (none_passes_from_lookup (is_at (addr_cmp d.0.0)) es there) i,
                (sym (no_more t) ∙ same_more (λ other. 0) (λ other. cond (same_choice c other) 0 0) (λ other. sym (nothing_if (same_choice c other))) t) i,
              ))
          by (Some c) ch (Some p) there =
              ap (λ q. counted (Some c) q d.0.0 d.1 (polls_before (d ∷ ds) es, t)) (mapped_some exact_bytes (poll_before (d ∷ ds)) d.0.0 p es there)
              ∙ (λ i. (put_is d ds p c ch there i, raised_is c (worth_at p d.1) t i))

      -- and can be
      can : (d : (List ℕ × List ℕ) × ℕ) (ds : Delegations) (t : Tally) → AreFit (d ∷ ds) es → ((c : Choice) → total_for t c + added es c d < 10 ^ 38)
          → CanCount (chosen d.0.1) (at addr_cmp (polls_before (d ∷ ds) es) d.0.0) d.1 t
      can d ds t fit room = by (chosen d.0.1) refl (at addr_cmp es d.0.0) refl
        where
          by : (o : Option Choice) → chosen d.0.1 ≡ o → (p : Option Poll) → at addr_cmp es d.0.0 ≡ p → CanCount o (at addr_cmp (polls_before (d ∷ ds) es) d.0.0) d.1 t
          by None ch p there = tt
          by (Some c) ch None there = subst (λ q. CanCount (Some c) q d.1 t) (sym (mapped_none exact_bytes (poll_before (d ∷ ds)) d.0.0 es there)) tt
          by (Some c) ch (Some p) there =
              let f : IsFit (d ∷ ds) (d.0.0, p) = fit_at (d ∷ ds) d.0.0 p es fit there in
              let one : taken (d ∷ ds) d.0.0 ≡ d.1 + taken ds d.0.0 = taken_next d ds d.0.0 ∙ (λ i. cond (same_itself d.0.0 i) (cond (is_some (ch i)) d.1 0) 0 + taken ds d.0.0) in
              let adds : added es c d ≡ worth_at p d.1 = (λ i. cond (is_for (ch i) c) (given (there i) d.1) 0) ∙ ap (λ b. cond b (worth_at p d.1) 0) (choice_itself c) in
              let some : 0 < p.shares = f.some in
              let left : final (d.0.0, p) + taken (d ∷ ds) d.0.0 ≤ p.shares = f.left in
              let here : total_for t c + added es c d < 10 ^ 38 = room c in
              subst (λ q. CanCount (Some c) q d.1 t) (sym (mapped_some exact_bytes (poll_before (d ∷ ds)) d.0.0 p es there))
              (record { tokens = f.tokens; some = some; left = left; part = omega arith; room = omega arith })

      -- all delegations are counted
      pub walk : (ds : Delegations) (t : Tally) → AreFit ds es → ((c : Choice) → total_for t c + added_all es c ds < 10 ^ 38)
          → CanWalk chosen ds (polls_before ds es, t) × (walked chosen ds (polls_before ds es, t) ≡ (polls_before [] es, with_more (λ c. added_all es c ds) t))
      walk [] t fit room = (tt, λ i. (polls_before [] es, sym (no_more t) i))
      walk (d ∷ ds) t fit room =
          let more : Tally = with_more (λ c. added es c d) t in
          let step : delegation_counted chosen d (polls_before (d ∷ ds) es, t) ≡ (polls_before ds es, more) = once d ds t in
          let later = walk ds more (fit_later d ds es fit) (λ c. later_room es d ds t c (room c)) in (
            (can d ds t fit (λ c. first_room es d ds t c (room c)), subst (CanWalk chosen ds) (sym step) later.0),
            ap (walked chosen ds) step ∙ later.1 ∙ ap (λ u. (polls_before [] es, u)) (more_again (λ c. added es c d) (λ c. added_all es c ds) t
                ∙ same_more (λ c. added es c d + added_all es c ds) (λ c. added_all es c (d ∷ ds)) (λ c. sym (sum_next (added es c) d ds)) t),
          )

  -- ---- operators

  -- what is left of a validator is added for the choice of its operator
  abbrev pub left_for : Choice → List ℕ × Poll → ℕ
  left_for c e = cond (is_for (chosen e.0) c) (worth_at e.1 e.1.left) 0

  -- what is left is a part of the shares
  pub record IsReady (e : List ℕ × Poll) : Type 0 where
    pub tokens : e.1.tokens ≤ 10 ^ 18
    pub some : 0 < e.1.shares
    pub left : e.1.left ≤ e.1.shares

  left_once : (e : List ℕ × Poll) (t : Tally) → left_counted (chosen e.0) e.1 t ≡ with_more (λ c. left_for c e) t
  left_once e t = by (chosen e.0)
    where
      by : (o : Option Choice) → left_counted o e.1 t ≡ with_more (λ c. cond (is_for o c) (worth_at e.1 e.1.left) 0) t
      by None = sym (no_more t)
      by (Some c) = raised_is c (worth_at e.1 e.1.left) t

  left_can : (e : List ℕ × Poll) (t : Tally) → IsReady e → ((c : Choice) → total_for t c + left_for c e < 10 ^ 38) → CanCountLeft (chosen e.0) e.1 t
  left_can e t ready room = by (chosen e.0) refl
    where
      by : (o : Option Choice) → chosen e.0 ≡ o → CanCountLeft o e.1 t
      by None ch = tt
      by (Some c) ch =
          let adds : left_for c e ≡ worth_at e.1 e.1.left = (λ i. cond (is_for (ch i) c) (worth_at e.1 e.1.left) 0) ∙ ap (λ b. cond b (worth_at e.1 e.1.left) 0) (choice_itself c) in
          let here : total_for t c + left_for c e < 10 ^ 38 = room c in
          record { tokens = ready.tokens; some = ready.some; left = ready.left; part = omega arith; room = omega arith }

  left_first : (e : List ℕ × Poll) (es : Polls) (t : Tally) (c : Choice) → total_for t c + sum_by (left_for c) (e ∷ es) < 10 ^ 38 → total_for t c + left_for c e < 10 ^ 38
  left_first e es t c h = room_of (left_for c) e es (total_for t c) h

  left_later : (e : List ℕ × Poll) (es : Polls) (t : Tally) (c : Choice) → total_for t c + sum_by (left_for c) (e ∷ es) < 10 ^ 38
      → total_for (with_more (λ other. left_for other e) t) c + sum_by (left_for c) es < 10 ^ 38
  left_later e es t c h = room_after (left_for c) e es (total_for t c) (total_for (with_more (λ other. left_for other e) t) c) (more_for (λ other. left_for other e) t c) h

  -- all operators are counted
  pub close : (es : Polls) (t : Tally) → AllByRecursion IsReady es → ((c : Choice) → total_for t c + sum_by (left_for c) es < 10 ^ 38)
      → CanClose chosen es t × (closed chosen es t ≡ with_more (λ c. sum_by (left_for c) es) t)
  close [] t ready room = (tt, sym (no_more t))
  close (e ∷ es) t ready room =
      let more : Tally = with_more (λ c. left_for c e) t in
      let step : left_counted (chosen e.0) e.1 t ≡ more = left_once e t in
      let later = close es more ready.1 (λ c. left_later e es t c (room c)) in (
        (left_can e t ready.0 (λ c. left_first e es t c (room c)), subst (CanClose chosen es) (sym step) later.0),
        ap (closed chosen es) step ∙ later.1 ∙ more_again (λ c. left_for c e) (λ c. sum_by (left_for c) es) t
            ∙ same_more (λ c. left_for c e + sum_by (left_for c) es) (λ c. sum_by (left_for c) (e ∷ es)) (λ c. sym (sum_next (left_for c) e es)) t,
      )
