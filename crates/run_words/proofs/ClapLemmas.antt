-- What `clap` makes of at most six words, of which none begins with a hyphen.
use Rattle.std.proofs.Common.{◌≡◌, ◌∙◌, ap, refl, ℕ, suc, ◌≤◌, ◌==◌, ◌||◌, Bool, true, false, true≢false, List, [], ◌∷◌, length, map, None, Option, slice_get, codes, bytes_eq, arith, String, Global, string_bytes, ◌&&◌, fold}
use Rattle.std.specs.List.{list_all, list_any}
use Rattle.clap.specs.{Lexer.strip_byte, Matches.first_value, Simple.{App, Shape, built, is_simple, matches_of}}
use Rattle.clap.specs.Takes.{default_passes, is_valid, settle_passes, step_passes, takes, turn_passes, walk_passes}
use Rattle.clap.specs.Walk.{Held, Rule, Walk, arg_by_index, finished, first_of, idle, nothing_held, rows_of, to_positional, value, walked}
use Rattle.clap.{specs.declared.parser.matches.Found.Found, proofs.OnLiterals.clap_on_literals}
use Rattle.clap.proofs.WalkLemmas.{first_value-rows}
use Rattle.run_words.specs.{Line.six, Words.is_option}

pub six_is_simple : is_simple six ≡ true
unfolding clap_on_literals
six_is_simple = refl

-- ---- words that are no options

-- the word is none of the forms that `clap` looks for
abbrev IsPlain : List ℕ → Type 0
IsPlain w = (strip_byte 45 w ≡ None) × (bytes_eq w (45 ∷ 45 ∷ []) ≡ false)

plain : (w : List ℕ) → is_option w ≡ false → IsPlain w
plain [] h = (refl, refl)
plain (x ∷ xs) h =
    let other : (x == 45) ≡ false = h in
    (rw other refl, rw other refl)

both_false : (a b : Bool) → (a || b) ≡ false → (a ≡ false) × (b ≡ false)
both_false true b h = absurd (true≢false h)
both_false false b h = (refl, h)

pub any_of_texts : (words : List (String Global)) → list_any (λ word. is_option (string_bytes word)) words ≡ list_any is_option (map string_bytes words)
any_of_texts [] = refl
any_of_texts (w ∷ words) = ap (λ b. is_option (string_bytes w) || b) (any_of_texts words)

length_of_texts : (words : List (String Global)) → length (map string_bytes words) ≡ length words
length_of_texts [] = refl
length_of_texts (w ∷ words) = ap suc (length_of_texts words)

pub few_texts : (words : List (String Global)) → length words ≤ 6 → length (map string_bytes words) ≤ 6
few_texts words few = omega (arith, few, length_of_texts words)

-- ---- the walk over the words

abbrev shape : Shape
shape = (built six).top

abbrev rules : List Rule
rules = shape.rules

-- where the walk stands before the word of a place
abbrev at : ℕ → Held → Walk
at place held = record { held = held; waiting = idle; position = place; is_trailing = false; stopped = None }

-- the word goes to its place
abbrev next : ℕ → Held → List ℕ → Walk
next place held word = to_positional rules (arg_by_index rules place) word (at place held) held

step : (place : ℕ) (held : Held) (word : List ℕ) → IsPlain word → walked rules [] (at place held) word ≡ next place held word
unfolding walked
step place held word p = simp (p.0, p.1)

turn : (place : ℕ) (held : Held) (word : List ℕ) → IsPlain word → step_passes shape place held value ≡ true → turn_passes shape [] (at place held) word ≡ true
turn place held word p passes = simp (p.0, p.1, passes)

-- the walk from here over these words ends there, and each of them passes
abbrev Reaches : Walk → List (List ℕ) → Walk → Type 0
Reaches w words end = (fold (walked rules []) w words ≡ end) × (walk_passes shape [] w words ≡ true)

ends : (w : Walk) → Reaches w [] w
unfolding walk_passes
ends w = (refl, refl)

passes_on : (w next : Walk) (word : List ℕ) (rest : List (List ℕ)) → walked rules [] w word ≡ next → turn_passes shape [] w word ≡ true → walk_passes shape [] next rest ≡ true → walk_passes shape [] w (word ∷ rest) ≡ true
unfolding walk_passes
passes_on w next word rest is passes more = rw (passes, is) more

goes_on : (place : ℕ) (held : Held) (word : List ℕ) (rest : List (List ℕ)) (end : Walk) → IsPlain word → step_passes shape place held value ≡ true → Reaches (next place held word) rest end → Reaches (at place held) (word ∷ rest) end
goes_on place held word rest end p passes more =
    let is = step place held word p in (
      ap (λ (w : Walk). fold (walked rules []) w rest) is ∙ more.0,
      passes_on (at place held) (next place held word) word rest is (turn place held word p passes) more.1,
    )

-- what is held behind so many words
abbrev held_none : Held
held_none = nothing_held

abbrev held_one : List ℕ → Held
held_one a = (next 1 held_none a).held

abbrev held_two : List ℕ → List ℕ → Held
held_two a b = (next 2 (held_one a) b).held

abbrev held_three : List ℕ → List ℕ → List ℕ → Held
held_three a b c = (next 3 (held_two a b) c).held

abbrev held_four : List ℕ → List ℕ → List ℕ → List ℕ → Held
held_four a b c d = (next 4 (held_three a b c) d).held

abbrev held_five : List ℕ → List ℕ → List ℕ → List ℕ → List ℕ → Held
held_five a b c d e = (next 5 (held_four a b c d) e).held

abbrev held_six : List ℕ → List ℕ → List ℕ → List ℕ → List ℕ → List ℕ → Held
held_six a b c d e f = (next 6 (held_five a b c d e) f).held

-- ---- what is read

-- they are taken, and each stands at its place
pub record AreRead (words : List (List ℕ)) : Type 0 where
  pub taken : takes six words ≡ true
  pub first : first_of (codes "first") (matches_of six words) ≡ slice_get words 0
  pub second : first_of (codes "second") (matches_of six words) ≡ slice_get words 1
  pub third : first_of (codes "third") (matches_of six words) ≡ slice_get words 2
  pub fourth : first_of (codes "fourth") (matches_of six words) ≡ slice_get words 3
  pub fifth : first_of (codes "fifth") (matches_of six words) ≡ slice_get words 4
  pub sixth : first_of (codes "sixth") (matches_of six words) ≡ slice_get words 5

-- what comes after the walk passes
abbrev ends_well : Held → Bool
ends_well held = settle_passes rules shape.args_override_self held && (list_all default_passes rules && is_valid shape (finished rules held) false)

taken_by : (words : List (List ℕ)) (place : ℕ) (held : Held) → Reaches (at 1 held_none) words (at place held) → ends_well held ≡ true → takes six words ≡ true
unfolding clap_on_literals
taken_by words place held r well = rw (r.0, r.1) well

found_by : (id : List ℕ) (words : List (List ℕ)) (place : ℕ) (held : Held) (o : Option (List ℕ)) → Reaches (at 1 held_none) words (at place held) → first_of id (finished rules held) ≡ o → first_of id (matches_of six words) ≡ o
found_by id words place held o r is = ap (λ (w : Walk). first_of id (finished rules w.held)) r.0 ∙ is

none_reached : Reaches (at 1 held_none) [] (at 1 held_none)
unfolding clap_on_literals
none_reached =
    ends (at 1 held_none)

none_read : AreRead []
unfolding clap_on_literals
none_read =
    let r = none_reached in
    record {
      taken = taken_by [] 1 held_none r refl;
      first = found_by (codes "first") [] 1 held_none _ r refl;
      second = found_by (codes "second") [] 1 held_none _ r refl;
      third = found_by (codes "third") [] 1 held_none _ r refl;
      fourth = found_by (codes "fourth") [] 1 held_none _ r refl;
      fifth = found_by (codes "fifth") [] 1 held_none _ r refl;
      sixth = found_by (codes "sixth") [] 1 held_none _ r refl;
    }

one_reached : (a : List ℕ) → IsPlain a → Reaches (at 1 held_none) (a ∷ []) (at 2 (held_one a))
unfolding clap_on_literals
one_reached a p =
    goes_on 1 held_none a [] (at 2 (held_one a)) p refl (ends (at 2 (held_one a)))

one_read : (a : List ℕ) → IsPlain a → AreRead (a ∷ [])
unfolding clap_on_literals
one_read a p =
    let r = one_reached a p in
    record {
      taken = taken_by (a ∷ []) 2 (held_one a) r refl;
      first = found_by (codes "first") (a ∷ []) 2 (held_one a) _ r refl;
      second = found_by (codes "second") (a ∷ []) 2 (held_one a) _ r refl;
      third = found_by (codes "third") (a ∷ []) 2 (held_one a) _ r refl;
      fourth = found_by (codes "fourth") (a ∷ []) 2 (held_one a) _ r refl;
      fifth = found_by (codes "fifth") (a ∷ []) 2 (held_one a) _ r refl;
      sixth = found_by (codes "sixth") (a ∷ []) 2 (held_one a) _ r refl;
    }

two_reached : (a b : List ℕ) → IsPlain a → IsPlain b → Reaches (at 1 held_none) (a ∷ b ∷ []) (at 3 (held_two a b))
unfolding clap_on_literals
two_reached a b p q =
    goes_on 1 held_none a (b ∷ []) (at 3 (held_two a b)) p refl (
    goes_on 2 (held_one a) b [] (at 3 (held_two a b)) q refl (ends (at 3 (held_two a b)))
    )

two_read : (a b : List ℕ) → IsPlain a → IsPlain b → AreRead (a ∷ b ∷ [])
unfolding clap_on_literals
two_read a b p q =
    let r = two_reached a b p q in
    record {
      taken = taken_by (a ∷ b ∷ []) 3 (held_two a b) r refl;
      first = found_by (codes "first") (a ∷ b ∷ []) 3 (held_two a b) _ r refl;
      second = found_by (codes "second") (a ∷ b ∷ []) 3 (held_two a b) _ r refl;
      third = found_by (codes "third") (a ∷ b ∷ []) 3 (held_two a b) _ r refl;
      fourth = found_by (codes "fourth") (a ∷ b ∷ []) 3 (held_two a b) _ r refl;
      fifth = found_by (codes "fifth") (a ∷ b ∷ []) 3 (held_two a b) _ r refl;
      sixth = found_by (codes "sixth") (a ∷ b ∷ []) 3 (held_two a b) _ r refl;
    }

three_reached : (a b c : List ℕ) → IsPlain a → IsPlain b → IsPlain c → Reaches (at 1 held_none) (a ∷ b ∷ c ∷ []) (at 4 (held_three a b c))
unfolding clap_on_literals
three_reached a b c p q r =
    goes_on 1 held_none a (b ∷ c ∷ []) (at 4 (held_three a b c)) p refl (
    goes_on 2 (held_one a) b (c ∷ []) (at 4 (held_three a b c)) q refl (
    goes_on 3 (held_two a b) c [] (at 4 (held_three a b c)) r refl (ends (at 4 (held_three a b c)))
    )
    )

three_read : (a b c : List ℕ) → IsPlain a → IsPlain b → IsPlain c → AreRead (a ∷ b ∷ c ∷ [])
unfolding clap_on_literals
three_read a b c p q r =
    let r = three_reached a b c p q r in
    record {
      taken = taken_by (a ∷ b ∷ c ∷ []) 4 (held_three a b c) r refl;
      first = found_by (codes "first") (a ∷ b ∷ c ∷ []) 4 (held_three a b c) _ r refl;
      second = found_by (codes "second") (a ∷ b ∷ c ∷ []) 4 (held_three a b c) _ r refl;
      third = found_by (codes "third") (a ∷ b ∷ c ∷ []) 4 (held_three a b c) _ r refl;
      fourth = found_by (codes "fourth") (a ∷ b ∷ c ∷ []) 4 (held_three a b c) _ r refl;
      fifth = found_by (codes "fifth") (a ∷ b ∷ c ∷ []) 4 (held_three a b c) _ r refl;
      sixth = found_by (codes "sixth") (a ∷ b ∷ c ∷ []) 4 (held_three a b c) _ r refl;
    }

four_reached : (a b c d : List ℕ) → IsPlain a → IsPlain b → IsPlain c → IsPlain d → Reaches (at 1 held_none) (a ∷ b ∷ c ∷ d ∷ []) (at 5 (held_four a b c d))
unfolding clap_on_literals
four_reached a b c d p q r s =
    goes_on 1 held_none a (b ∷ c ∷ d ∷ []) (at 5 (held_four a b c d)) p refl (
    goes_on 2 (held_one a) b (c ∷ d ∷ []) (at 5 (held_four a b c d)) q refl (
    goes_on 3 (held_two a b) c (d ∷ []) (at 5 (held_four a b c d)) r refl (
    goes_on 4 (held_three a b c) d [] (at 5 (held_four a b c d)) s refl (ends (at 5 (held_four a b c d)))
    )
    )
    )

four_read : (a b c d : List ℕ) → IsPlain a → IsPlain b → IsPlain c → IsPlain d → AreRead (a ∷ b ∷ c ∷ d ∷ [])
unfolding clap_on_literals
four_read a b c d p q r s =
    let r = four_reached a b c d p q r s in
    record {
      taken = taken_by (a ∷ b ∷ c ∷ d ∷ []) 5 (held_four a b c d) r refl;
      first = found_by (codes "first") (a ∷ b ∷ c ∷ d ∷ []) 5 (held_four a b c d) _ r refl;
      second = found_by (codes "second") (a ∷ b ∷ c ∷ d ∷ []) 5 (held_four a b c d) _ r refl;
      third = found_by (codes "third") (a ∷ b ∷ c ∷ d ∷ []) 5 (held_four a b c d) _ r refl;
      fourth = found_by (codes "fourth") (a ∷ b ∷ c ∷ d ∷ []) 5 (held_four a b c d) _ r refl;
      fifth = found_by (codes "fifth") (a ∷ b ∷ c ∷ d ∷ []) 5 (held_four a b c d) _ r refl;
      sixth = found_by (codes "sixth") (a ∷ b ∷ c ∷ d ∷ []) 5 (held_four a b c d) _ r refl;
    }

five_reached : (a b c d e : List ℕ) → IsPlain a → IsPlain b → IsPlain c → IsPlain d → IsPlain e → Reaches (at 1 held_none) (a ∷ b ∷ c ∷ d ∷ e ∷ []) (at 6 (held_five a b c d e))
unfolding clap_on_literals
five_reached a b c d e p q r s t =
    goes_on 1 held_none a (b ∷ c ∷ d ∷ e ∷ []) (at 6 (held_five a b c d e)) p refl (
    goes_on 2 (held_one a) b (c ∷ d ∷ e ∷ []) (at 6 (held_five a b c d e)) q refl (
    goes_on 3 (held_two a b) c (d ∷ e ∷ []) (at 6 (held_five a b c d e)) r refl (
    goes_on 4 (held_three a b c) d (e ∷ []) (at 6 (held_five a b c d e)) s refl (
    goes_on 5 (held_four a b c d) e [] (at 6 (held_five a b c d e)) t refl (ends (at 6 (held_five a b c d e)))
    )
    )
    )
    )

five_read : (a b c d e : List ℕ) → IsPlain a → IsPlain b → IsPlain c → IsPlain d → IsPlain e → AreRead (a ∷ b ∷ c ∷ d ∷ e ∷ [])
unfolding clap_on_literals
five_read a b c d e p q r s t =
    let r = five_reached a b c d e p q r s t in
    record {
      taken = taken_by (a ∷ b ∷ c ∷ d ∷ e ∷ []) 6 (held_five a b c d e) r refl;
      first = found_by (codes "first") (a ∷ b ∷ c ∷ d ∷ e ∷ []) 6 (held_five a b c d e) _ r refl;
      second = found_by (codes "second") (a ∷ b ∷ c ∷ d ∷ e ∷ []) 6 (held_five a b c d e) _ r refl;
      third = found_by (codes "third") (a ∷ b ∷ c ∷ d ∷ e ∷ []) 6 (held_five a b c d e) _ r refl;
      fourth = found_by (codes "fourth") (a ∷ b ∷ c ∷ d ∷ e ∷ []) 6 (held_five a b c d e) _ r refl;
      fifth = found_by (codes "fifth") (a ∷ b ∷ c ∷ d ∷ e ∷ []) 6 (held_five a b c d e) _ r refl;
      sixth = found_by (codes "sixth") (a ∷ b ∷ c ∷ d ∷ e ∷ []) 6 (held_five a b c d e) _ r refl;
    }

six_reached : (a b c d e f : List ℕ) → IsPlain a → IsPlain b → IsPlain c → IsPlain d → IsPlain e → IsPlain f → Reaches (at 1 held_none) (a ∷ b ∷ c ∷ d ∷ e ∷ f ∷ []) (at 7 (held_six a b c d e f))
unfolding clap_on_literals
six_reached a b c d e f p q r s t u =
    goes_on 1 held_none a (b ∷ c ∷ d ∷ e ∷ f ∷ []) (at 7 (held_six a b c d e f)) p refl (
    goes_on 2 (held_one a) b (c ∷ d ∷ e ∷ f ∷ []) (at 7 (held_six a b c d e f)) q refl (
    goes_on 3 (held_two a b) c (d ∷ e ∷ f ∷ []) (at 7 (held_six a b c d e f)) r refl (
    goes_on 4 (held_three a b c) d (e ∷ f ∷ []) (at 7 (held_six a b c d e f)) s refl (
    goes_on 5 (held_four a b c d) e (f ∷ []) (at 7 (held_six a b c d e f)) t refl (
    goes_on 6 (held_five a b c d e) f [] (at 7 (held_six a b c d e f)) u refl (ends (at 7 (held_six a b c d e f)))
    )
    )
    )
    )
    )

six_read : (a b c d e f : List ℕ) → IsPlain a → IsPlain b → IsPlain c → IsPlain d → IsPlain e → IsPlain f → AreRead (a ∷ b ∷ c ∷ d ∷ e ∷ f ∷ [])
unfolding clap_on_literals
six_read a b c d e f p q r s t u =
    let r = six_reached a b c d e f p q r s t u in
    record {
      taken = taken_by (a ∷ b ∷ c ∷ d ∷ e ∷ f ∷ []) 7 (held_six a b c d e f) r refl;
      first = found_by (codes "first") (a ∷ b ∷ c ∷ d ∷ e ∷ f ∷ []) 7 (held_six a b c d e f) _ r refl;
      second = found_by (codes "second") (a ∷ b ∷ c ∷ d ∷ e ∷ f ∷ []) 7 (held_six a b c d e f) _ r refl;
      third = found_by (codes "third") (a ∷ b ∷ c ∷ d ∷ e ∷ f ∷ []) 7 (held_six a b c d e f) _ r refl;
      fourth = found_by (codes "fourth") (a ∷ b ∷ c ∷ d ∷ e ∷ f ∷ []) 7 (held_six a b c d e f) _ r refl;
      fifth = found_by (codes "fifth") (a ∷ b ∷ c ∷ d ∷ e ∷ f ∷ []) 7 (held_six a b c d e f) _ r refl;
      sixth = found_by (codes "sixth") (a ∷ b ∷ c ∷ d ∷ e ∷ f ∷ []) 7 (held_six a b c d e f) _ r refl;
    }

pub words_read : (words : List (List ℕ)) → length words ≤ 6 → list_any is_option words ≡ false → AreRead words
words_read [] few h = none_read
words_read (a ∷ []) few h =
    let first = both_false (is_option a) (list_any is_option ([])) h in
    one_read a (plain a first.0)
words_read (a ∷ b ∷ []) few h =
    let first = both_false (is_option a) (list_any is_option (b ∷ [])) h in
    let second = both_false (is_option b) (list_any is_option ([])) first.1 in
    two_read a b (plain a first.0) (plain b second.0)
words_read (a ∷ b ∷ c ∷ []) few h =
    let first = both_false (is_option a) (list_any is_option (b ∷ c ∷ [])) h in
    let second = both_false (is_option b) (list_any is_option (c ∷ [])) first.1 in
    let third = both_false (is_option c) (list_any is_option ([])) second.1 in
    three_read a b c (plain a first.0) (plain b second.0) (plain c third.0)
words_read (a ∷ b ∷ c ∷ d ∷ []) few h =
    let first = both_false (is_option a) (list_any is_option (b ∷ c ∷ d ∷ [])) h in
    let second = both_false (is_option b) (list_any is_option (c ∷ d ∷ [])) first.1 in
    let third = both_false (is_option c) (list_any is_option (d ∷ [])) second.1 in
    let fourth = both_false (is_option d) (list_any is_option ([])) third.1 in
    four_read a b c d (plain a first.0) (plain b second.0) (plain c third.0) (plain d fourth.0)
words_read (a ∷ b ∷ c ∷ d ∷ e ∷ []) few h =
    let first = both_false (is_option a) (list_any is_option (b ∷ c ∷ d ∷ e ∷ [])) h in
    let second = both_false (is_option b) (list_any is_option (c ∷ d ∷ e ∷ [])) first.1 in
    let third = both_false (is_option c) (list_any is_option (d ∷ e ∷ [])) second.1 in
    let fourth = both_false (is_option d) (list_any is_option (e ∷ [])) third.1 in
    let fifth = both_false (is_option e) (list_any is_option ([])) fourth.1 in
    five_read a b c d e (plain a first.0) (plain b second.0) (plain c third.0) (plain d fourth.0) (plain e fifth.0)
words_read (a ∷ b ∷ c ∷ d ∷ e ∷ f ∷ []) few h =
    let first = both_false (is_option a) (list_any is_option (b ∷ c ∷ d ∷ e ∷ f ∷ [])) h in
    let second = both_false (is_option b) (list_any is_option (c ∷ d ∷ e ∷ f ∷ [])) first.1 in
    let third = both_false (is_option c) (list_any is_option (d ∷ e ∷ f ∷ [])) second.1 in
    let fourth = both_false (is_option d) (list_any is_option (e ∷ f ∷ [])) third.1 in
    let fifth = both_false (is_option e) (list_any is_option (f ∷ [])) fourth.1 in
    let sixth = both_false (is_option f) (list_any is_option ([])) fifth.1 in
    six_read a b c d e f (plain a first.0) (plain b second.0) (plain c third.0) (plain d fourth.0) (plain e fifth.0) (plain f sixth.0)
words_read (a ∷ b ∷ c ∷ d ∷ e ∷ f ∷ g ∷ more) few h = absurd (omega (arith, few))

-- what a name finds among matches, where it finds that in the rows
pub found_at : (id : List ℕ) (f : Found) (a : App) (words : List (List ℕ)) (o : Option (List ℕ)) → a ≡ six → rows_of f ≡ matches_of a words
    → first_of id (matches_of six words) ≡ o → first_value f id ≡ o
found_at id f a words o same rows is = first_value-rows f id ∙ ap (first_of id) (rows ∙ ap (λ b. matches_of b words) same) ∙ is
