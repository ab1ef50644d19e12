-- A list of at most 128 bytes, kept in 128 places.
use Rattle.std.specs.Prelude.{◌≡◌, ℕ, ◌-◌, ◌≤◌, List, ◌++◌, length, take, replicate}
use Rattle.std.proofs.Common.{sym, ◌∙◌, ap, arith, length-take-le}

-- the places behind the list hold zeros
pub record IsPadded (bytes : List ℕ) (len : ℕ) : Type 0 where
  pub within : len ≤ 128
  pub places : length bytes ≡ 128
  pub zeros : bytes ≡ take len bytes ++ replicate (128 - len) 0

-- the places that keep a list
abbrev pub padded : List ℕ → List ℕ
padded bs = bs ++ replicate (128 - length bs) 0

pub length_of_taken : (bytes : List ℕ) (len : ℕ) → IsPadded bytes len → length (take len bytes) ≡ len
length_of_taken bytes len h = length-take-le len bytes (omega (arith, h.within, h.places))

pub padded_again : (bytes : List ℕ) (len : ℕ) → IsPadded bytes len → padded (take len bytes) ≡ bytes
padded_again bytes len h =
    ap (λ n. take len bytes ++ replicate (128 - n) 0) (length_of_taken bytes len h) ∙ sym h.zeros
