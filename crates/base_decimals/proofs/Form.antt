-- Which texts are read: a whole part alone, or with a point and places.
use Rattle.std.specs.{Char.is_ascii_digit, List.{list_all, position_or_len}, Str.Parse.digits_value}
use Rattle.std.proofs.lemmas.{Bool.cases_lt, List.Sums.prefix_len_stops}
use Rattle.std.proofs.{Math.Seq.{take-append_seam, drop-append-add, drop-cons}, lemmas.Grind.common_steps}
use Rattle.std.proofs.Common.{option_map, take-append-drop, ◌≡◌, ℕ, suc, ◌+◌, ◌-◌, ◌*◌, ◌^◌, ◌<◌, ◌≤◌, Bool, true, false, ◌&&◌, not, cond, nat_lt, nat_le, Option, Some, None, List, [], ◌∷◌, ◌++◌, length, take, drop, get_or, position, length-take-le, ◌⊎◌, inl, inr, refl, sym, ap, ◌∙◌, arith}
use Rattle.base_decimals.specs.Texts.{is_number, number_of, is_point, both_units, whole_units, place_units, units_at, dec_of}
use Rattle.base_decimals.{specs.Laws.{IsNumber, SaysWhole, SaysPlaces}, proofs.Digits.{and-true, number_short}}
use Rattle.base_decimals.proofs.Inverse.{digit_no_point, point_at, number_some}

pub bool_cases : (b : Bool) → (b ≡ true) ⊎ (b ≡ false)
bool_cases true = inl refl
bool_cases false = inr refl

pub is_number_is : (most : ℕ) (ds : List ℕ) → is_number most ds ≡ true → IsNumber most ds
is_number_is most ds h =
    let both = and-true (nat_lt 0 (length ds) && nat_le (length ds) most) (list_all is_ascii_digit ds) h in
    record {
      digits = both.1;
      some = grind (arith, common_steps, (and-true (nat_lt 0 (length ds)) (nat_le (length ds) most) both.0).0);
      short = number_short most ds h;
    }

-- a number is read as its value, and nothing else is read
pub number_cases : (most : ℕ) (ds : List ℕ) → (IsNumber most ds × (number_of most ds ≡ Some (digits_value 10 ds))) ⊎ (number_of most ds ≡ None)
number_cases most ds =
    elim (bool_cases (is_number most ds)) [
      | inl good ↦ inl (is_number_is most ds good, ap (λ b. cond b (Some (digits_value 10 ds)) None) good)
      | inr bad ↦ inr (ap (λ b. cond b (Some (digits_value 10 ds)) None) bad)
    ]

pub number_value : (most : ℕ) (ds : List ℕ) → IsNumber most ds → number_of most ds ≡ Some (digits_value 10 ds)
number_value most ds h = number_some most ds h.some h.short h.digits

pub whole_of_number : (ds : List ℕ) (o : Option ℕ) → number_of 20 ds ≡ o → whole_units ds ≡ option_map (λ n. n * 10 ^ 18) o
whole_of_number ds o e = ap (λ p. option_map (λ n. n * 10 ^ 18) p) e

pub places_of_number : (ds : List ℕ) (o : Option ℕ) → number_of 18 ds ≡ o → place_units ds ≡ option_map (λ n. n * 10 ^ (18 - length ds)) o
places_of_number ds o e = ap (λ p. option_map (λ n. n * 10 ^ (18 - length ds)) p) e

-- digits alone have no point
pub no_point : (ds : List ℕ) → list_all is_ascii_digit ds ≡ true → position_or_len is_point ds ≡ length ds
no_point [] h = refl
no_point (d ∷ ds) h =
    let both = and-true (is_ascii_digit d) (list_all is_ascii_digit ds) h in
    rw (digit_no_point d both.0) (omega (arith, no_point ds both.1))

pub position_none : (text : List ℕ) → length text ≤ position_or_len is_point text → position is_point text ≡ None
position_none text h = grind (arith, common_steps)

pub position_some : (text : List ℕ) → position_or_len is_point text < length text → position is_point text ≡ Some (position_or_len is_point text)
position_some text h = grind (arith, common_steps)

-- a text up to its first point and behind it
pub record Split (text : List ℕ) : Type 0 where
  pub whole : List ℕ
  pub places : List ℕ
  pub is : text ≡ whole ++ 46 ∷ places
  pub at : position is_point text ≡ Some (length whole)

pub point_there : (c : ℕ) → not (is_point c) ≡ false → c ≡ 46
point_there c h = grind (arith, common_steps)

pub split_at : (text : List ℕ) → position_or_len is_point text < length text → Split text
split_at text within =
    let i : ℕ = position_or_len is_point text in
    let at : get_or text i 0 ≡ 46 = point_there (get_or text i 0) (prefix_len_stops (λ c. not (is_point c)) text 0 within) in
    record {
      whole = take i text;
      places = drop (suc i) text;
      is = sym (take-append-drop i text) ∙ ap (λ l. take i text ++ l) (drop-cons text i 0 within ∙ ap (λ c. c ∷ drop (suc i) text) at);
      at = position_some text within ∙ ap (λ n. Some n) (sym (length-take-le i text (omega arith)));
    }

pub split_cases : (text : List ℕ) → (position is_point text ≡ None) ⊎ Split text
split_cases text = elim (cases_lt (position_or_len is_point text) (length text)) [ inl within ↦ inr (split_at text within) | inr none ↦ inl (position_none text none) ]

pub dec_of_split : (text ws fs : List ℕ) → text ≡ ws ++ 46 ∷ fs → position is_point text ≡ Some (length ws) → dec_of text ≡ both_units (whole_units ws) (place_units fs)
dec_of_split text ws fs e at =
    ap (λ o. units_at o text) at
    ∙ ap (λ l. both_units (whole_units (take (length ws) l)) (place_units (drop (length ws + 1) l))) e
    ∙ ap (λ l. both_units (whole_units l) (place_units (drop (length ws + 1) (ws ++ 46 ∷ fs)))) (take-append_seam ws (46 ∷ fs))
    ∙ ap (λ l. both_units (whole_units ws) (place_units l)) (drop-append-add ws (46 ∷ fs) 1)

pub reads_whole : (text : List ℕ) (n : ℕ) → SaysWhole text n → dec_of text ≡ Some n
reads_whole text n h =
    ap (λ o. units_at o text) (position_none text (omega (arith, no_point text h.0.digits)))
    ∙ whole_of_number text (Some (digits_value 10 text)) (number_value 20 text h.0)
    ∙ ap (λ m. Some m) (sym h.1)

pub reads_places : (text : List ℕ) (n : ℕ) → SaysPlaces text n → dec_of text ≡ Some n
reads_places text n h =
    dec_of_split text h.whole h.places h.is (ap (λ l. position is_point l) h.is ∙ point_at h.whole h.places h.whole_number.digits)
    ∙ ap (λ o. both_units o (place_units h.places)) (whole_of_number h.whole (Some (digits_value 10 h.whole)) (number_value 20 h.whole h.whole_number))
    ∙ ap (λ o. both_units (Some (digits_value 10 h.whole * 10 ^ 18)) o) (places_of_number h.places (Some (digits_value 10 h.places)) (number_value 18 h.places h.place_number))
    ∙ ap (λ m. Some m) (sym h.value)

pub whole_says : (text : List ℕ) (n : ℕ) → whole_units text ≡ Some n → SaysWhole text n
whole_says text n e =
    elim (number_cases 20 text) [
      | inl good ↦ let f : whole_units text ≡ Some (digits_value 10 text * 10 ^ 18) = whole_of_number text (Some (digits_value 10 text)) good.1 in
          (good.0, cc)
      | inr bad ↦ let f : whole_units text ≡ None = whole_of_number text None bad in
          absurd cc
    ]

pub places_say : (text ws fs : List ℕ) (n : ℕ) → text ≡ ws ++ 46 ∷ fs → both_units (whole_units ws) (place_units fs) ≡ Some n → SaysPlaces text n
places_say text ws fs n is e =
    elim (number_cases 20 ws) [
      | inl whole ↦ elim (number_cases 18 fs) [
        | inl places ↦
            let f : both_units (whole_units ws) (place_units fs) ≡ Some (digits_value 10 ws * 10 ^ 18 + digits_value 10 fs * 10 ^ (18 - length fs)) =
            ap (λ o. both_units o (place_units fs)) (whole_of_number ws (Some (digits_value 10 ws)) whole.1)
            ∙ ap (λ o. both_units (Some (digits_value 10 ws * 10 ^ 18)) o) (places_of_number fs (Some (digits_value 10 fs)) places.1) in
            record { whole = ws; places = fs; is = is; whole_number = whole.0; place_number = places.0; value = cc }
        | inr bad ↦
            let f : both_units (whole_units ws) (place_units fs) ≡ None =
            ap (λ o. both_units o (place_units fs)) (whole_of_number ws (Some (digits_value 10 ws)) whole.1)
            ∙ ap (λ o. both_units (Some (digits_value 10 ws * 10 ^ 18)) o) (places_of_number fs None bad) in
            absurd cc
      ]
      | inr bad ↦
          let f : both_units (whole_units ws) (place_units fs) ≡ None = ap (λ o. both_units o (place_units fs)) (whole_of_number ws None bad) in
          absurd cc
    ]

pub says : (text : List ℕ) (n : ℕ) → dec_of text ≡ Some n → SaysWhole text n ⊎ SaysPlaces text n
says text n e =
    elim (split_cases text) [
      | inl none ↦ inl (whole_says text n (sym (ap (λ o. units_at o text) none) ∙ e))
      | inr split ↦ inr (places_say text split.whole split.places n split.is (sym (dec_of_split text split.whole split.places split.is split.at) ∙ e))
    ]
