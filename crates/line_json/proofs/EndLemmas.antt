-- No byte of compact text ends a line, so a text is cut into the lines that it was made of.
use Rattle.std.{specs.Fmt.{digits, digits_onto, digit_glyph}, proofs.lemmas.Bool.{and_parts, cases_eq, cases_lt}}
use Rattle.std.proofs.Common.{◌≡◌, ℕ, zero, suc, ◌+◌, ◌/◌, ◌%◌, ◌<◌, ◌≤◌, ◌==◌, pos, negsuc, List, [], ◌∷◌, ◌++◌, Bool, true, false, not, ◌&&◌, cond, decimal, inl, inr, refl, sym, ap, ◌∙◌, arith, append_assoc, append-nil, lt-ltb, ne_eqb}
use Rattle.json.{specs.Print.{escape_byte, escape, quoted}, proofs.Printed.Strings.escape_byte_plain}
use Rattle.serde_json.specs.Data.{Num, unsigned, negative, float, Data, null, boolean, number, string, array, object, Items, no_items, item, Members, no_members, member}
use Rattle.serde_json.specs.Written.{compact_text, items_text, members_text, comma_if, number_text}
use Rattle.line_json.specs.{Line.line_of, Lines.{lines_from, lines_of}}

-- no byte ends a line
abbrev pub has_no_end : List ℕ → Bool
has_no_end [] = true
has_no_end (b ∷ bytes) = not (b == 10) && has_no_end bytes

end_nowhere : (xs ys : List ℕ) → has_no_end xs ≡ true → has_no_end ys ≡ true → has_no_end (xs ++ ys) ≡ true
end_nowhere [] ys h k = k
end_nowhere (x ∷ xs) ys h k = let p = and_parts (not (x == 10)) (has_no_end xs) h in rw (p.0, end_nowhere xs ys p.1 k) refl

-- ---- strings

abbrev escapes_below : ℕ → Bool
escapes_below zero = true
escapes_below (suc n) = has_no_end (escape_byte n) && escapes_below n

escape_below : (n : ℕ) → escapes_below n ≡ true → (x : ℕ) → x < n → has_no_end (escape_byte x) ≡ true
escape_below zero e x h = absurd (omega arith)
escape_below (suc n) e x h =
    let p = and_parts (has_no_end (escape_byte n)) (escapes_below n) e in
    elim (cases_eq x n) [ inl same ↦ rw same p.0 | inr other ↦ escape_below n p.1 x (omega arith) ]

low_escapes : escapes_below 128 ≡ true
unfolding escape_byte
low_escapes = refl

other_byte : (x : ℕ) → 128 ≤ x → not (x == 10) ≡ true
other_byte x h = ap not (ne_eqb x 10 (λ e. omega arith))

escape_ends_not : (x : ℕ) → has_no_end (escape_byte x) ≡ true
escape_ends_not x = elim (cases_lt x 128) [
  | inl low ↦ escape_below 128 low_escapes x low
  | inr high ↦ ap has_no_end (escape_byte_plain x (λ e. omega arith) (λ e. omega arith) (omega arith)) ∙ rw (other_byte x high) refl
]

escapes_end_not : (s : List ℕ) → has_no_end (escape s) ≡ true
escapes_end_not [] = refl
escapes_end_not (x ∷ xs) = end_nowhere (escape_byte x) (escape xs) (escape_ends_not x) (escapes_end_not xs)

quoted_ends_not : (s : List ℕ) → has_no_end (quoted s) ≡ true
quoted_ends_not s = end_nowhere (escape s) (34 ∷ []) (escapes_end_not s) refl

-- ---- numbers

digit_ends_not : (d : ℕ) → d < 10 → not (digit_glyph false d == 10) ≡ true
digit_ends_not d h =
    ap (λ b. not (cond b (48 + d) (cond false (55 + d) (87 + d)) == 10)) (lt-ltb d 10 h) ∙ ap not (ne_eqb (48 + d) 10 (λ e. omega arith))

chosen : (b : Bool) (xs ys : List ℕ) → has_no_end xs ≡ true → has_no_end ys ≡ true → has_no_end (cond b xs ys) ≡ true
chosen true xs ys h k = h
chosen false xs ys h k = k

digits_end_not : (k n : ℕ) (acc : List ℕ) → has_no_end acc ≡ true → has_no_end (digits_onto k 10 false n acc) ≡ true
digits_end_not zero n acc h = h
digits_end_not (suc k) n acc h =
    let d = digit_glyph false (n % 10) in
    let first : has_no_end (d ∷ acc) ≡ true = rw (digit_ends_not (n % 10) (omega arith), h) refl in
    chosen (n / 10 == 0) (d ∷ acc) (digits_onto k 10 false (n / 10) (d ∷ acc)) first (digits_end_not k (n / 10) (d ∷ acc) first)

decimal_ends_not : (n : ℕ) → has_no_end (decimal n) ≡ true
unfolding digits
decimal_ends_not n = digits_end_not 64 n [] refl

number_ends_not : (n : Num) → has_no_end (number_text n) ≡ true
number_ends_not (unsigned n) = decimal_ends_not n
number_ends_not (negative (pos n)) = decimal_ends_not n
number_ends_not (negative (negsuc n)) = decimal_ends_not (suc n)
number_ends_not (float x) = refl

-- ---- values

comma_ends_not : (later : Bool) → has_no_end (comma_if later) ≡ true
comma_ends_not true = refl
comma_ends_not false = refl

mutual
  pub text_ends_not : (d : Data) → has_no_end (compact_text d) ≡ true
  text_ends_not null = refl
  text_ends_not (boolean true) = refl
  text_ends_not (boolean false) = refl
  text_ends_not (number n) = number_ends_not n
  text_ends_not (string s) = quoted_ends_not s
  text_ends_not (array ds) = items_end_not false ds
  text_ends_not (object ms) = members_end_not false ms

  items_end_not : (later : Bool) (ds : Items) → has_no_end (items_text later ds) ≡ true
  items_end_not later no_items = refl
  items_end_not later (item d ds) =
      end_nowhere (comma_if later) (compact_text d ++ items_text true ds) (comma_ends_not later)
      (end_nowhere (compact_text d) (items_text true ds) (text_ends_not d) (items_end_not true ds))

  members_end_not : (later : Bool) (ms : Members) → has_no_end (members_text later ms) ≡ true
  members_end_not later no_members = refl
  members_end_not later (member k d ms) =
      end_nowhere (comma_if later) (quoted k ++ 58 ∷ (compact_text d ++ members_text true ms)) (comma_ends_not later)
      (end_nowhere (quoted k) (58 ∷ (compact_text d ++ members_text true ms)) (quoted_ends_not k)
      (end_nowhere (compact_text d) (members_text true ms) (text_ends_not d) (members_end_not true ms)))

-- ---- lines

unless_not : (b : Bool) → not b ≡ true → b ≡ false
unless_not true h = sym h
unless_not false h = refl

lines_cut : (line xs rest : List ℕ) → has_no_end xs ≡ true → lines_from line (xs ++ 10 ∷ rest) ≡ (line ++ xs) ∷ lines_from [] rest
lines_cut line [] rest h = ap (λ l. l ∷ lines_from [] rest) (sym (append-nil line))
lines_cut line (x ∷ xs) rest h =
    let p = and_parts (not (x == 10)) (has_no_end xs) h in
    ap (λ b. cond b (line ∷ lines_from [] (xs ++ 10 ∷ rest)) (lines_from (line ++ x ∷ []) (xs ++ 10 ∷ rest))) (unless_not (x == 10) p.0)
    ∙ lines_cut (line ++ x ∷ []) xs rest p.1 ∙ ap (λ l. l ∷ lines_from [] rest) (append_assoc line (x ∷ []) xs)

-- the first line of a text that begins with the line of a value
pub first_line : (d : Data) (rest : List ℕ) → lines_of (line_of d ++ rest) ≡ compact_text d ∷ lines_of rest
first_line d rest = ap (lines_from []) (append_assoc (compact_text d) (10 ∷ []) rest) ∙ lines_cut [] (compact_text d) rest (text_ends_not d)
