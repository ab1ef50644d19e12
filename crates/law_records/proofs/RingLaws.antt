-- The ring of votes: there is one, and signing records that pass their test are those of their plain votes.
use Rattle.std.proofs.Common.{◌≡◌, ◌∙◌, ℕ, zero, suc, ◌+◌, ◌-◌, ◌%◌, ◌^◌, ◌≤◌, ◌<◌, Bool, true, false, cond, List, [], ◌∷◌, ◌++◌, map, take, drop, length, refl, sym, ap, subst, inl, inr, arith, zero-add, add-zero, ◌⊎◌, ◌==◌, ◌&&◌, min, replicate, reverse, All, append-nil, drop_at, length-append, length-drop, take-append-drop, take_all, take_at}
use Rattle.std.proofs.{Math.Nat.min-le_left, lemmas.{Bool.cases_lt, List.{drop_all, length-reverse, reverse-reverse}}}
use Rattle.std.{proofs.lemmas.List.Elements.recursion_from_All, specs.List.AllByRecursion}
use Rattle.base_roles.specs.declared.entities.SigningInfo.{SigningInfo}
use Rattle.rule_modules.specs.{Amounts.count_where, Window.{Signing, Window, IsRing, info_of, missed_of}}
use Rattle.mod_signing.specs.Kept as kept
use Rattle.mod_signing.specs.Stands.{KeepsVotes, KeepsSignings}
use Rattle.rule_machine.specs.Items.{ring_of}
use Rattle.store_records.specs.{declared.records.Signed.Signed, States.{votes_of, signing_in, window_of}}
use Rattle.store_soundness.specs.Signing.{is_signing_sound, are_signings_sound}
use Rattle.law_records.specs.Records.{signed_as, signed_in}
use Rattle.law_records.proofs.{SigningLaws.{IsSigned, signed_decides, votes_length}, TestLemmas.all_decides}
use Rattle.law_records.proofs.SigningPass.{length_turned, misses, misses_reversed, misses_turned}

-- ---- one ring

-- a list that is turned, and turned back
abbrev turned : ℕ → List Bool → List Bool
turned n xs = drop n xs ++ take n xs

back : (front rest : List Bool) (n : ℕ) → (length front ≡ n) ⊎ ((rest ≡ []) × (length front ≤ n)) → turned (length (rest ++ front) - n) (rest ++ front) ≡ front ++ rest
back front rest n (inl e) =
    let all = length-append rest front in
    let older : length (rest ++ front) - n ≡ length rest = omega (arith, all, e) in
    ap (λ m. turned m (rest ++ front)) older ∙ (λ i. drop_at rest front (length rest) refl i ++ take_at rest front (length rest) refl i)
back front rest n (inr h) =
    let l : length front ≤ n = h.1 in
    let older : length front - n ≡ 0 = omega (arith, l) in
    ap (λ r. turned (length (r ++ front) - n) (r ++ front)) h.0 ∙ ap (λ m. turned m front) older ∙ ap (λ r. front ++ r) (sym h.0)

parts : (n : ℕ) (xs : List Bool) → (length (take n xs) ≡ n) ⊎ ((drop n xs ≡ []) × (length (take n xs) ≤ n))
parts zero xs = inl refl
parts (suc n) [] = inr (refl, omega arith)
parts (suc n) (x ∷ xs) = by (parts n xs)
  where
    by : (length (take n xs) ≡ n) ⊎ ((drop n xs ≡ []) × (length (take n xs) ≤ n)) → (length (x ∷ take n xs) ≡ suc n) ⊎ ((drop n xs ≡ []) × (length (x ∷ take n xs) ≤ suc n))
    by (inl e) = inl (omega (arith, e))
    by (inr h) = let l : length (take n xs) ≤ n = h.1 in inr (h.0, omega (arith, l))

-- there is one ring of the votes
pub one_ring : (w : ℕ) (votes ring : List Bool) → IsRing w votes ring → ring ≡ ring_of w votes
one_ring w votes ring is =
    let n = length votes % w in
    sym (take-append-drop n ring) ∙ sym (back (take n ring) (drop n ring) n (parts n ring)) ∙ ap (λ last. turned (length last - n) last) is

-- a list whose last places were put in front, turned at their number
forth : (n : ℕ) (xs : List Bool) → turned n (turned (length xs - n) xs) ≡ xs
forth n xs = by (cases_lt (length xs) n)
  where
    by : (length xs < n) ⊎ (n ≤ length xs) → turned n (turned (length xs - n) xs) ≡ xs
    by (inl short) =
        let none : length xs - n ≡ 0 = omega (arith, short) in
        let past : length xs ≤ n = omega (arith, short) in
        let whole : turned 0 xs ≡ xs = append-nil xs in
        ap (λ m. turned n (turned m xs)) none ∙ ap (turned n) whole ∙ (λ i. drop_all n xs past i ++ take_all n xs past i)
    by (inr long) =
        let k = length xs - n in
        let dropped = length-drop k xs in
        let rest : length (drop k xs) ≡ n = omega (arith, dropped, long) in
        (λ i. drop_at (drop k xs) (take k xs) n rest i ++ take_at (drop k xs) (take k xs) n rest i) ∙ take-append-drop k xs

-- the ring of votes is one
pub ring_is : (w : ℕ) (votes : List Bool) → IsRing w votes (ring_of w votes)
ring_is w votes = forth (length votes % w) (reverse (take w votes))

-- ---- the records of plain votes

-- a record whose ring has the last votes of the window
module _ (window : ℕ) (s : Signed) (long : length s.ring ≡ min s.info.counted window) where
  abbrev next : ℕ
  next = s.info.counted % window

  abbrev late : List Bool
  late = reverse (turned next s.ring)

  within : length s.ring ≤ s.info.counted
  within = subst (λ n. n ≤ s.info.counted) (sym long) (min-le_left s.info.counted window)

  late_length : length late ≡ length s.ring
  late_length = length-reverse (turned next s.ring) ∙ length_turned next s.ring

  last_votes : take window (votes_of window s) ≡ late
  last_votes = by (cases_lt window s.info.counted)
    where
      by : (window < s.info.counted) ⊎ (s.info.counted ≤ window) → take window (votes_of window s) ≡ late
      by (inl more) =
          let full : length s.ring ≡ window = omega (arith, long, more) in
          take_at late (replicate (s.info.counted - length s.ring) false) window (late_length ∙ full)
      by (inr few) =
          let all : length s.ring ≡ s.info.counted = omega (arith, long, few) in
          let none : s.info.counted - length s.ring ≡ 0 = omega (arith, all) in
          let most : length late ≤ window = omega (arith, late_length, all, few) in
          ap (λ m. take window (late ++ replicate m false)) none ∙ ap (take window) (append-nil late) ∙ take_all window late most

  counted : length (votes_of window s) ≡ s.info.counted
  counted = votes_length window s within

  -- the ring is that of the votes
  pub ring_kept : IsRing window (votes_of window s) s.ring
  ring_kept = ap (λ n. turned (n % window) s.ring) counted ∙ sym (reverse-reverse (turned next s.ring)) ∙ ap reverse (sym last_votes)

  missed : missed_of window (votes_of window s) ≡ misses s.ring
  missed = ap misses last_votes ∙ misses_reversed (turned next s.ring) ∙ misses_turned next s.ring

  info_kept : misses s.ring ≡ s.info.missed → info_of window (signing_in window s) ≡ s.info
  info_kept m = λ i. record {
    start = s.info.start;
    counted = counted i;
    missed = (missed ∙ m) i;
    jailed_until = s.info.jailed_until;
    tombstoned = s.info.tombstoned;
  }

  signed_kept : misses s.ring ≡ s.info.missed → signed_as window (signing_in window s) ≡ s
  signed_kept m = λ i. record { info = info_kept m i; ring = sym (one_ring window (votes_of window s) s.ring ring_kept) i }

-- signing records that pass their test are those of their plain votes
pub signings_kept : (height window : ℕ) (signings : List (List ℕ × Signed)) → are_signings_sound height window signings ≡ true → signed_in window (window_of window signings) ≡ signings
signings_kept height window signings t =
    from signings (recursion_from_All (λ e. IsSigned height window e.1) signings
    ((all_decides (λ (e : List ℕ × Signed). is_signing_sound height window e.1) (λ e. IsSigned height window e.1) (λ e. signed_decides height window e.1) signings).0 t))
  where
    from : (es : List (List ℕ × Signed)) → AllByRecursion (λ e. IsSigned height window e.1) es → signed_in window (window_of window es) ≡ es
    from [] h = refl
    from (e ∷ es) h = λ i. (e.0, signed_kept window e.1 h.0.0.1 h.0.1 i) ∷ from es h.1 i

-- ---- what the window keeps

-- signing records as the window keeps them
abbrev pub kept_signings : List (List ℕ × Signed) → kept.Kept
kept_signings signings = map (λ e. (e.0, record { info = e.1.info; ring = e.1.ring })) signings

-- the records of plain votes stand for them
pub signings_keep : (window : ℕ) (i : Window) → KeepsSignings window (kept_signings (signed_in window i)) i
signings_keep window [] = tt
signings_keep window (s ∷ ss) = (refl, record { info = refl; ring = ring_is window s.1.votes }, signings_keep window ss)

-- and are all that stands for them
pub signings_told : (window : ℕ) (k : kept.Kept) (i : Window) → KeepsSignings window k i → k ≡ kept_signings (signed_in window i)
signings_told window [] [] h = refl
signings_told window [] (s ∷ ss) h = absurd h
signings_told window (k ∷ ks) [] h = absurd h
signings_told window (k ∷ ks) (s ∷ ss) h =
    λ i. (h.0 i, record { info = h.1.info i; ring = one_ring window s.1.votes k.1.ring h.1.ring i }) ∷ signings_told window ks ss h.2 i
