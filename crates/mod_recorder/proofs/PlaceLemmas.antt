-- Places of marks among the notes: they rise, and what stood at each of them stays while notes are put behind.
use Rattle.std.proofs.Common.{◌≡◌, ℕ, ◌≤◌, Bool, true, false, List, [], ◌∷◌, ◌++◌, length, map, take, refl, ap, arith, ◌&&◌, nat_le}
use Rattle.std.proofs.lemmas.Bool.Decides.{nat_tests}
use Rattle.mod_recorder.specs.{declared.{note.Note.Note, recorder.Place.Place}, Recorded.{are_rising, noted_at}}

-- ---- places that rise

both : (a b : Bool) → a && b ≡ true → (a ≡ true) × (b ≡ true)
both true b e = (refl, e)
both false b e = absurd cc

and_so : (a b : Bool) → a ≡ true → b ≡ true → a && b ≡ true
and_so true b e f = f
and_so false b e f = absurd cc

within : (a b : ℕ) → nat_le a b ≡ true → a ≤ b
within a b e = grind (arith, nat_tests)

is_within : (a b : ℕ) → a ≤ b → nat_le a b ≡ true
is_within a b e = grind (arith, nat_tests)

low_high : (low : ℕ) (ps : List Place) (high : ℕ) → are_rising low ps high ≡ true → low ≤ high
low_high low [] high e = within low high e
low_high low (p ∷ ps) high e =
    let b = both (nat_le low p.notes) (are_rising p.notes ps high) e in
    let first = within low p.notes b.0 in
    let rest = low_high p.notes ps high b.1 in
    omega (arith, first, rest)

-- the end may lie further on
pub raised : (low : ℕ) (ps : List Place) (high more : ℕ) → are_rising low ps high ≡ true → high ≤ more → are_rising low ps more ≡ true
raised low [] high more e h = let first = within low high e in is_within low more (omega (arith, first, h))
raised low (p ∷ ps) high more e h =
    let b = both (nat_le low p.notes) (are_rising p.notes ps high) e in
    and_so (nat_le low p.notes) (are_rising p.notes ps more) b.0 (raised p.notes ps high more b.1 h)

-- one more place at the end
pub joined : (low : ℕ) (ps : List Place) (p : Place) (high : ℕ) → are_rising low ps p.notes ≡ true → p.notes ≤ high → are_rising low (ps ++ p ∷ []) high ≡ true
joined low [] p high e h = and_so (nat_le low p.notes) (nat_le p.notes high) e (is_within p.notes high h)
joined low (q ∷ ps) p high e h =
    let b = both (nat_le low q.notes) (are_rising q.notes ps p.notes) e in
    and_so (nat_le low q.notes) (are_rising q.notes (ps ++ p ∷ []) high) b.0 (joined q.notes ps p high b.1 h)

-- the places before the last
pub before_last : (low : ℕ) (ps : List Place) (p : Place) (high : ℕ) → are_rising low (ps ++ p ∷ []) high ≡ true → (are_rising low ps p.notes ≡ true) × (p.notes ≤ high)
before_last low [] p high e = let b = both (nat_le low p.notes) (nat_le p.notes high) e in (b.0, within p.notes high b.1)
before_last low (q ∷ ps) p high e =
    let b = both (nat_le low q.notes) (are_rising q.notes (ps ++ p ∷ []) high) e in
    let rest = before_last q.notes ps p high b.1 in
    (and_so (nat_le low q.notes) (are_rising q.notes ps p.notes) b.0 rest.0, rest.1)

-- ---- what stood at them

-- notes that are the same up to a length are the same at a place below it
at_place : (xs ys : List Note) (p : Place) (high : ℕ) → p.notes ≤ high → ((n : ℕ) → n ≤ high → take n ys ≡ take n xs) → noted_at ys p ≡ noted_at xs p
at_place xs ys p high h same = λ i. record { notes = same p.notes h i; before = p.before }

pub at_places : (xs ys : List Note) (low : ℕ) (ps : List Place) (high : ℕ) → are_rising low ps high ≡ true → ((n : ℕ) → n ≤ high → take n ys ≡ take n xs) → map (noted_at ys) ps ≡ map (noted_at xs) ps
at_places xs ys low [] high e same = refl
at_places xs ys low (p ∷ ps) high e same =
    let b = both (nat_le low p.notes) (are_rising p.notes ps high) e in
    λ i. at_place xs ys p high (low_high p.notes ps high b.1) same i ∷ at_places xs ys p.notes ps high b.1 same i

-- the first of them, and the one before all
pub at_first : (xs ys : List Note) (first : Place) (ps : List Place) (high : ℕ) → are_rising first.notes ps high ≡ true → ((n : ℕ) → n ≤ high → take n ys ≡ take n xs) → noted_at ys first ≡ noted_at xs first
at_first xs ys first ps high e same = at_place xs ys first high (low_high first.notes ps high e) same
