-- The signing records of a sound window pass their test.
use Rattle.std.proofs.Common.{◌≡◌, ◌∙◌, ℕ, ◌+◌, ◌-◌, ◌%◌, ◌^◌, Bool, true, cond, List, [], ◌∷◌, ◌++◌, take, drop, length, length-take, refl, sym, ap, arith, zero-add, add-zero, add_assoc, add_comm, min, reverse, length-append, take-append-drop}
use Rattle.std.proofs.{Math.Nat.min_comm, lemmas.{Bool.Decides.Decides-eqb, List.{length-reverse, reverse-append}}}
use Rattle.std.proofs.lemmas.List.Elements.{All-map, All-weaker}
use Rattle.rule_modules.specs.{Amounts.count_where, Sound.{SigningIsSound, WindowIsSound}}
use Rattle.rule_modules.specs.Window.{Signing, Window, missed_of}
use Rattle.rule_machine.specs.Items.{ring_of}
use Rattle.store_records.specs.declared.records.Signed.{Signed}
use Rattle.store_soundness.specs.Signing.{is_signing_sound, are_signings_sound}
use Rattle.law_records.{specs.Records.{signed_as, signed_in}, proofs.RewardPass.{all_true, both_true}}
use Rattle.law_records.proofs.TestLemmas.{at_most, below}

abbrev pub misses : List Bool → ℕ
misses xs = count_where (λ missed. missed) xs

misses_joined : (xs ys : List Bool) → misses (xs ++ ys) ≡ misses xs + misses ys
misses_joined [] ys = sym (zero-add (misses ys))
misses_joined (x ∷ xs) ys = ap (λ n. cond x 1 0 + n) (misses_joined xs ys) ∙ sym (add_assoc (cond x 1 0) (misses xs) (misses ys))

pub misses_turned : (n : ℕ) (xs : List Bool) → misses (drop n xs ++ take n xs) ≡ misses xs
misses_turned n xs =
    misses_joined (drop n xs) (take n xs) ∙ add_comm (misses (drop n xs)) (misses (take n xs)) ∙ sym (misses_joined (take n xs) (drop n xs)) ∙ ap misses (take-append-drop n xs)

pub misses_reversed : (xs : List Bool) → misses (reverse xs) ≡ misses xs
misses_reversed [] = refl
misses_reversed (x ∷ xs) =
    ap misses (reverse-append (x ∷ []) xs) ∙ misses_joined (reverse xs) (x ∷ []) ∙ (λ i. misses_reversed xs i + add-zero (cond x 1 0) i) ∙ add_comm (misses xs) (cond x 1 0)

pub length_turned : (n : ℕ) (xs : List Bool) → length (drop n xs ++ take n xs) ≡ length xs
length_turned n xs =
    let whole = ap length (take-append-drop n xs) in
    let parts = length-append (take n xs) (drop n xs) in
    let swapped = length-append (drop n xs) (take n xs) in
    omega (arith, whole, parts, swapped)

ring_misses : (window : ℕ) (votes : List Bool) → misses (ring_of window votes) ≡ missed_of window votes
ring_misses window votes =
    let last = reverse (take window votes) in
    misses_turned (length last - length votes % window) last ∙ misses_reversed (take window votes)

ring_length : (window : ℕ) (votes : List Bool) → length (ring_of window votes) ≡ min (length votes) window
ring_length window votes =
    let last = reverse (take window votes) in
    length_turned (length last - length votes % window) last ∙ length-reverse (take window votes) ∙ length-take window votes ∙ min_comm window (length votes)

signed_passes : (height window : ℕ) (s : Signing) → SigningIsSound height s → is_signing_sound height window (signed_as window s) ≡ true
signed_passes height window s h =
    both_true (both_true (both_true ((at_most (length s.votes) height).1 h.counted) ((below s.start (2 ^ 63)).1 h.start))
    ((Decides-eqb (length (ring_of window s.votes)) (min (length s.votes) window)).1 (ring_length window s.votes)))
    ((Decides-eqb (misses (ring_of window s.votes)) (missed_of window s.votes)).1 (ring_misses window s.votes))

pub signings_pass : (height window : ℕ) (i : Window) → WindowIsSound height i → are_signings_sound height window (signed_in window i) ≡ true
signings_pass height window i h = all_true (λ (e : List ℕ × Signed). is_signing_sound height window e.1) (signed_in window i)
    (All-map (λ (e : List ℕ × Signed). is_signing_sound height window e.1 ≡ true) (λ (e : List ℕ × Signing). (e.0, signed_as window e.1)) i
    (All-weaker (λ (e : List ℕ × Signing). SigningIsSound height e.1) (λ (e : List ℕ × Signing). is_signing_sound height window (signed_as window e.1) ≡ true) (λ e k. signed_passes height window e.1 k) i h.records))
