-- How lines are cut from bytes that come piece by piece.
use Rattle.std.proofs.Common.{◌≡◌, ◌∙◌, ℕ, zero, suc, ◌<◌, ◌≤◌, Bool, true, false, List, [], ◌∷◌, ◌++◌, length, refl, sym, ap, append_assoc, arith, take, cond, ◌==◌, slice_index, append-nil}
use Rattle.run_app.specs.{Lines.{whole_from, rest_from, lines_from}, Parts.HasNoEnd}

whole_step : (test : Bool) (line a more : List ℕ) (b : ℕ) → (whole_from [] (a ++ more) ≡ whole_from [] a ++ whole_from (rest_from [] a) more)
    → (whole_from (line ++ b ∷ []) (a ++ more) ≡ whole_from (line ++ b ∷ []) a ++ whole_from (rest_from (line ++ b ∷ []) a) more)
    → cond test (line ∷ whole_from [] (a ++ more)) (whole_from (line ++ b ∷ []) (a ++ more)) ≡ cond test (line ∷ whole_from [] a) (whole_from (line ++ b ∷ []) a) ++ whole_from (cond test (rest_from [] a) (rest_from (line ++ b ∷ []) a)) more
whole_step true line a more b h k = ap (λ (ls : List (List ℕ)). line ∷ ls) h
whole_step false line a more b h k = k

pub whole-append : (a line more : List ℕ) → whole_from line (a ++ more) ≡ whole_from line a ++ whole_from (rest_from line a) more
whole-append [] line more = refl
whole-append (b ∷ a) line more = whole_step (b == 10) line a more b (whole-append a [] more) (whole-append a (line ++ b ∷ []) more)

rest_step : (test : Bool) (line a more : List ℕ) (b : ℕ) → (rest_from [] (a ++ more) ≡ rest_from (rest_from [] a) more)
    → (rest_from (line ++ b ∷ []) (a ++ more) ≡ rest_from (rest_from (line ++ b ∷ []) a) more)
    → cond test (rest_from [] (a ++ more)) (rest_from (line ++ b ∷ []) (a ++ more)) ≡ rest_from (cond test (rest_from [] a) (rest_from (line ++ b ∷ []) a)) more
rest_step true line a more b h k = h
rest_step false line a more b h k = k

pub rest-append : (a line more : List ℕ) → rest_from line (a ++ more) ≡ rest_from (rest_from line a) more
rest-append [] line more = refl
rest-append (b ∷ a) line more = rest_step (b == 10) line a more b (rest-append a [] more) (rest-append a (line ++ b ∷ []) more)

pub lines-append : (a line more : List ℕ) → lines_from line (a ++ more) ≡ whole_from line a ++ lines_from (rest_from line a) more
lines-append a line more = rw (whole-append a line more, rest-append a line more) (append_assoc (whole_from line a) _ _)

-- no more lines end within the bytes than there are bytes
at_most : (test : Bool) (line bytes : List ℕ) (b : ℕ) → length (whole_from [] bytes) ≤ length bytes → length (whole_from (line ++ b ∷ []) bytes) ≤ length bytes → length (cond test (line ∷ whole_from [] bytes) (whole_from (line ++ b ∷ []) bytes)) ≤ length (b ∷ bytes)
at_most true line bytes b h k = omega arith
at_most false line bytes b h k = omega arith

pub whole_no_longer : (bytes line : List ℕ) → length (whole_from line bytes) ≤ length bytes
whole_no_longer [] line = omega arith
whole_no_longer (b ∷ bytes) line = at_most (b == 10) line bytes b (whole_no_longer bytes []) (whole_no_longer bytes (line ++ b ∷ []))

-- ---- bytes among which no line ends

pub whole_none : (bytes line : List ℕ) → HasNoEnd bytes → whole_from line bytes ≡ []
whole_none [] line h = refl
whole_none (b ∷ bytes) line h = rw h.0 (whole_none bytes (line ++ b ∷ []) h.1)

pub rest_none : (bytes line : List ℕ) → HasNoEnd bytes → rest_from line bytes ≡ line ++ bytes
rest_none [] line h = sym (append-nil line)
rest_none (b ∷ bytes) line h = rw h.0 (rest_none bytes (line ++ b ∷ []) h.1 ∙ append_assoc line (b ∷ []) bytes)

-- the bytes, and the end of the line
pub whole_one : (bytes line : List ℕ) → HasNoEnd bytes → whole_from line (bytes ++ 10 ∷ []) ≡ (line ++ bytes) ∷ []
whole_one bytes line h = whole-append bytes line (10 ∷ []) ∙ rw (whole_none bytes line h, rest_none bytes line h) refl

pub rest_one : (bytes line : List ℕ) → HasNoEnd bytes → rest_from line (bytes ++ 10 ∷ []) ≡ []
rest_one bytes line h = rest-append bytes line (10 ∷ [])

-- no end among the first bytes, by places
pub no_end_before : (i : ℕ) (bytes : List ℕ) → i ≤ length bytes → ((k : ℕ) → k < i → (slice_index bytes k == 10) ≡ false) → HasNoEnd (take i bytes)
no_end_before zero bytes h none = tt
no_end_before (suc i) [] h none = tt
no_end_before (suc i) (b ∷ bytes) h none = (none 0 (omega arith), no_end_before i bytes (omega arith) (λ k lt. none (suc k) (omega arith)))
