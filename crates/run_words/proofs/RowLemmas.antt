-- The words that are no command, and the command by what stands at the places.
use Rattle.std.proofs.Common.{◌≡◌, ◌∙◌, ◌⊎◌, inl, inr, refl, ap, sym, ℕ, suc, ◌<◌, ◌≤◌, ◌&&◌, ◌||◌, Bool, true, false, true≢false, cond, List, [], ◌∷◌, map, length, Option, Some, None, slice_get, bytes_eq, codes, arith, String, Global, string_bytes, ◌==◌, option_and_then, option_map}
use Rattle.std.specs.List.{list_any}
use Rattle.base_decimals.specs.Texts.{is_number, number_of}
use Rattle.run_words.specs.{declared.mode.Mode.Mode, Questions.{address_asked, kind_asked, of_account}}
use Rattle.run_words.specs.Words.{asking, at_height, behind_form, command_at, command_of, committing, count_of, every_mode, every_of, generating, grouping, height_of, is_bech32, is_every, is_keep, is_option, is_past, keeping, kept_mode, mode_of, of_pair, past_of, plain, seed_of, with_input, with_word}
use Rattle.run_words.proofs.ClapLemmas.{any_of_texts}
use Rattle.run_words.specs.declared.mode.Mode.TheVariants as mode
use Rattle.base_bech32.specs.declared.form.Form.{Form, TheVariants.{Hex, Bech32}}
use Rattle.base_types.specs.{declared.account.Account.Account, Accounts.account_from, Address.{address_of, bytes_of}}
use Rattle.line_json.specs.Addresses.{account_in, bytes_in, cons_in, operator_asked}
use Rattle.line_report.specs.declared.question.Query.TheVariants as question

both_none : {A : Type 0} (b : Bool) (x y : Option A) → x ≡ None → y ≡ None → cond b x y ≡ None
both_none true x y p q = p
both_none false x y p q = q

three_none : {A : Type 0} (a b : Bool) (x y z : Option A) → x ≡ None → y ≡ None → z ≡ None → cond a x (cond b y z) ≡ None
three_none true b x y z p q r = p
three_none false b x y z p q r = both_none b y z q r

four_none : {A : Type 0} (a b c : Bool) (x y z w : Option A) → x ≡ None → y ≡ None → z ≡ None → w ≡ None → cond a x (cond b y (cond c z w)) ≡ None
four_none true b c x y z w p q r t = p
four_none false b c x y z w p q r t = three_none b c y z w q r t

-- more than five words behind the form are no command
long_behind : (form : Form) (words : List (List ℕ)) → 5 < length words → behind_form form words ≡ None
long_behind form [] h = absurd (omega (arith, h))
long_behind form (a ∷ []) h = absurd (omega (arith, h))
long_behind form (a ∷ b ∷ []) h = absurd (omega (arith, h))
long_behind form (a ∷ b ∷ c ∷ []) h = absurd (omega (arith, h))
long_behind form (a ∷ b ∷ c ∷ d ∷ []) h = absurd (omega (arith, h))
long_behind form (a ∷ b ∷ c ∷ d ∷ e ∷ []) h = absurd (omega (arith, h))
long_behind form (a ∷ b ∷ c ∷ d ∷ e ∷ f ∷ more) h = four_none (is_keep a) (is_every a) (is_past a) None None None None refl refl refl refl

-- nor are more than six words
too_long : (words : List (List ℕ)) → 6 < length words → command_of words ≡ None
too_long [] h = absurd (omega (arith, h))
too_long (word ∷ words) h =
    both_none (is_bech32 word) (behind_form Bech32 words) (behind_form Hex (word ∷ words)) (long_behind Bech32 words (omega (arith, h))) (long_behind Hex (word ∷ words) (omega (arith, h)))

-- others are what their places say
by_places : (words : List (List ℕ)) → length words ≤ 6
    → command_of words ≡ command_at (slice_get words 0) (slice_get words 1) (slice_get words 2) (slice_get words 3) (slice_get words 4) (slice_get words 5)
by_places [] h = refl
by_places (a ∷ []) h = refl
by_places (a ∷ b ∷ []) h = refl
by_places (a ∷ b ∷ c ∷ []) h = refl
by_places (a ∷ b ∷ c ∷ d ∷ []) h = refl
by_places (a ∷ b ∷ c ∷ d ∷ e ∷ []) h = refl
by_places (a ∷ b ∷ c ∷ d ∷ e ∷ f ∷ []) h = refl
by_places (a ∷ b ∷ c ∷ d ∷ e ∷ f ∷ g ∷ more) h = absurd (omega (arith, h))

-- ---- a word that begins with a hyphen is none of those of a command

and_false : (b : Bool) → (b && false) ≡ false
and_false true = refl
and_false false = refl

-- it is the name of no command
record IsNoName (w : List ℕ) : Type 0 where
  generated : bytes_eq w (codes "gen") ≡ false
  tried : bytes_eq w (codes "trial") ≡ false
  replayed : bytes_eq w (codes "replay") ≡ false
  resumed : bytes_eq w (codes "resume") ≡ false
  tallied : bytes_eq w (codes "tally") ≡ false
  checked : bytes_eq w (codes "check") ≡ false
  asked : bytes_eq w (codes "query") ≡ false
  stated : bytes_eq w (codes "statement") ≡ false

no_name : (w : List ℕ) → is_option w ≡ true → IsNoName w
no_name [] h = absurd (true≢false (sym h))
no_name (x ∷ xs) h =
    let is : x ≡ 45 = grind (arith, h) in
    rw is (record { generated = refl; tried = refl; replayed = refl; resumed = refl; tallied = refl; checked = refl; asked = refl; stated = refl })

-- nor does it tell a form
no_form : (w : List ℕ) → is_option w ≡ true → is_bech32 w ≡ false
no_form [] h = absurd (true≢false (sym h))
no_form (x ∷ xs) h = let is : x ≡ 45 = grind (arith, h) in rw is refl

-- nor is it one of the words before a command
no_keep : (w : List ℕ) → is_option w ≡ true → is_keep w ≡ false
no_keep [] h = absurd (true≢false (sym h))
no_keep (x ∷ xs) h = let is : x ≡ 45 = grind (arith, h) in rw is refl

no_every : (w : List ℕ) → is_option w ≡ true → is_every w ≡ false
no_every [] h = absurd (true≢false (sym h))
no_every (x ∷ xs) h = let is : x ≡ 45 = grind (arith, h) in rw is refl

no_past : (w : List ℕ) → is_option w ≡ true → is_past w ≡ false
no_past [] h = absurd (true≢false (sym h))
no_past (x ∷ xs) h = let is : x ≡ 45 = grind (arith, h) in rw is refl

-- and is of no question
no_kind : (w : List ℕ) → is_option w ≡ true → kind_asked w ≡ None
no_kind [] h = absurd (true≢false (sym h))
no_kind (x ∷ xs) h = let is : x ≡ 45 = grind (arith, h) in rw is refl

never : {A B : Type 0} (o : Option A) → option_and_then {T = A} {U = B} (λ x. None) o ≡ None
never None = refl
never (Some x) = refl

no_question : (form : Form) (w text : List ℕ) → is_option w ≡ true → address_asked form w text ≡ None
no_question form [] text h = absurd (true≢false (sym h))
no_question form (x ∷ xs) text h =
    let is : x ≡ 45 = grind (arith, h) in
    let nothing : address_asked form (45 ∷ xs) text ≡ None = never (account_in form text) in
    rw is nothing

-- it is the text of no address
no_bytes : (w : List ℕ) → is_option w ≡ true → bytes_of w ≡ None
no_bytes [] h = absurd (true≢false (sym h))
no_bytes (x ∷ []) h = refl
no_bytes (x ∷ y ∷ ys) h = let is : x ≡ 45 = grind (arith, h) in rw is refl

neither : {A : Type 0} (b : Bool) (x : Option A) → x ≡ None → cond b x None ≡ None
neither true x h = h
neither false x h = refl

no_address : (w : List ℕ) → is_option w ≡ true → address_of w ≡ None
no_address w h = neither (length w == 40) (bytes_of w) (no_bytes w h)

-- nor a spelling, which begins with the letter c (99)
no_spelling : (form : Form) (rest w : List ℕ) → is_option w ≡ true → bytes_in form (99 ∷ rest) w ≡ None
no_spelling Hex rest w h = no_address w h
no_spelling Bech32 rest [] h = absurd (true≢false (sym h))
no_spelling Bech32 rest (x ∷ xs) h = let is : x ≡ 45 = grind (arith, h) in rw is refl

no_account : (form : Form) (w : List ℕ) → is_option w ≡ true → account_in form w ≡ None
no_account form w h = ap (option_map account_from) (no_spelling form _ w h)

no_operator : (form : Form) (w : List ℕ) → is_option w ≡ true → operator_asked form w ≡ None
no_operator form w h = ap (option_map account_from) (no_spelling form _ w h)

no_cons : (form : Form) (w : List ℕ) → is_option w ≡ true → cons_in form w ≡ None
no_cons form w h = no_spelling form _ w h

no_address_asked : (form : Form) (what w : List ℕ) → is_option w ≡ true → address_asked form what w ≡ None
no_address_asked form what w h =
    both_none (bytes_eq what (codes "signing")) (option_map (λ cons. question.Signing cons) (cons_in form w)) _
    (ap (option_map (λ cons. question.Signing cons)) (no_cons form w h))
    (both_none (bytes_eq what (codes "validator")) (option_map (λ who. question.Validator who) (operator_asked form w)) (option_and_then (λ who. of_account what who) (account_in form w))
    (ap (option_map (λ who. question.Validator who)) (no_operator form w h)) (ap (option_and_then (λ who. of_account what who)) (no_account form w h)))

no_number : (most : ℕ) (w : List ℕ) → is_option w ≡ true → number_of most w ≡ None
no_number most [] h = absurd (true≢false (sym h))
no_number most (x ∷ xs) h =
    let is : x ≡ 45 = grind (arith, h) in
    let none : is_number most (45 ∷ xs) ≡ false = and_false _ in
    rw (is, none) refl

no_seed : (w : List ℕ) → is_option w ≡ true → seed_of w ≡ None
no_seed w h = rw (no_number 20 w h) refl

no_count : (w : List ℕ) → is_option w ≡ true → count_of w ≡ None
no_count [] h = absurd (true≢false (sym h))
no_count (x ∷ xs) h =
    let is : x ≡ 45 = grind (arith, h) in
    let none : number_of 6 (45 ∷ xs) ≡ None = no_number 6 (45 ∷ xs) refl in
    rw (is, none) refl

not_every : (w : List ℕ) → is_option w ≡ true → every_of w ≡ None
not_every [] h = absurd (true≢false (sym h))
not_every (x ∷ xs) h =
    let is : x ≡ 45 = grind (arith, h) in
    let none : number_of 7 (45 ∷ xs) ≡ None = no_number 7 (45 ∷ xs) refl in
    rw (is, none) refl

no_height : (w : List ℕ) → is_option w ≡ true → height_of w ≡ None
no_height [] h = absurd (true≢false (sym h))
no_height (x ∷ xs) h =
    let is : x ≡ 45 = grind (arith, h) in
    let none : number_of 19 (45 ∷ xs) ≡ None = no_number 19 (45 ∷ xs) refl in
    rw (is, none) refl

without_count : (form : ℕ → ℕ → Mode) (seed : Option ℕ) → with_input form seed None ≡ None
without_count form None = refl
without_count form (Some n) = refl

no_input : (b d : Bool) (x y : Option Mode) → x ≡ None → y ≡ None → cond b x (cond d y None) ≡ None
no_input true d x y p q = p
no_input false true x y p q = q
no_input false false x y p q = refl

either_true : (a b : Bool) → (a || b) ≡ true → (a ≡ true) ⊎ (b ≡ true)
either_true true b h = inl refl
either_true false b h = inr h

-- three words, of which one begins with a hyphen, generate nothing
not_generated : (a b c : List ℕ) → list_any is_option (b ∷ c ∷ []) ≡ true → generating a b c ≡ None
not_generated a b c q = elim (either_true (is_option b) (list_any is_option (c ∷ [])) q) [
  | inl p ↦ no_input (bytes_eq a (codes "gen")) (bytes_eq a (codes "trial")) (with_input mode.Gen (seed_of b) (count_of c)) (with_input mode.Trial (seed_of b) (count_of c)) (rw (no_seed b p) refl) (rw (no_seed b p) refl)
  | inr r ↦ elim (either_true (is_option c) false r) [
    | inl p ↦ no_input (bytes_eq a (codes "gen")) (bytes_eq a (codes "trial")) (with_input mode.Gen (seed_of b) (count_of c)) (with_input mode.Trial (seed_of b) (count_of c)) (rw (no_count c p) (without_count mode.Gen (seed_of b))) (rw (no_count c p) (without_count mode.Trial (seed_of b)))
    | inr t ↦ absurd (true≢false (sym t))
  ]
]

-- nor do they ask anything
not_asked : (form : Form) (b c : List ℕ) → list_any is_option (b ∷ c ∷ []) ≡ true → address_asked form b c ≡ None
not_asked form b c q = elim (either_true (is_option b) (list_any is_option (c ∷ [])) q) [
  | inl p ↦ no_question form b c p
  | inr r ↦ elim (either_true (is_option c) false r) [
    | inl p ↦ no_address_asked form b c p
    | inr t ↦ absurd (true≢false (sym t))
  ]
]

-- nor are they of a pair
no_delegator : (first second : Option Account) → first ≡ None → of_pair first second ≡ None
no_delegator first second h = rw h refl

no_second : (first second : Option Account) → second ≡ None → of_pair first second ≡ None
no_second None second h = refl
no_second (Some a) second h = rw h refl

not_stated : (form : Form) (b c : List ℕ) → list_any is_option (b ∷ c ∷ []) ≡ true → of_pair (account_in form b) (operator_asked form c) ≡ None
not_stated form b c q = elim (either_true (is_option b) (list_any is_option (c ∷ [])) q) [
  | inl p ↦ no_delegator (account_in form b) (operator_asked form c) (no_account form b p)
  | inr r ↦ elim (either_true (is_option c) false r) [
    | inl p ↦ no_second (account_in form b) (operator_asked form c) (no_operator form c p)
    | inr t ↦ absurd (true≢false (sym t))
  ]
]

refused_options : (form : Form) (words : List (List ℕ)) → list_any is_option words ≡ true → mode_of form words ≡ None
refused_options form [] h = absurd (true≢false (sym h))
refused_options form (a ∷ []) h = elim (either_true (is_option a) false h) [
  | inl p ↦ rw ((no_name a p).replayed, (no_name a p).resumed, (no_name a p).tallied, (no_name a p).checked) refl
  | inr q ↦ absurd (true≢false (sym q))
]
refused_options form (a ∷ b ∷ []) h = elim (either_true (is_option a) (list_any is_option (b ∷ [])) h) [
  | inl p ↦ rw (no_name a p).asked refl
  | inr q ↦ elim (either_true (is_option b) false q) [
    | inl p ↦ neither (bytes_eq a (codes "query")) (option_map mode.Query (kind_asked b)) (ap (option_map mode.Query) (no_kind b p))
    | inr t ↦ absurd (true≢false (sym t))
  ]
]
refused_options form (a ∷ b ∷ c ∷ []) h = elim (either_true (is_option a) (list_any is_option (b ∷ c ∷ [])) h) [
  | inl p ↦ rw ((no_name a p).asked, (no_name a p).stated, (no_name a p).generated, (no_name a p).tried) refl
  | inr q ↦ both_none (bytes_eq a (codes "query")) (option_map mode.Query (address_asked form b c)) (cond (bytes_eq a (codes "statement")) (of_pair (account_in form b) (operator_asked form c)) (generating a b c))
      (ap (option_map mode.Query) (not_asked form b c q))
      (both_none (bytes_eq a (codes "statement")) (of_pair (account_in form b) (operator_asked form c)) (generating a b c) (not_stated form b c q) (not_generated a b c q))
]
refused_options form (a ∷ b ∷ c ∷ d ∷ more) h = refl

-- nor behind `keep`
refused_kept : (words : List (List ℕ)) → list_any is_option words ≡ true → kept_mode words ≡ None
refused_kept [] h = refl
refused_kept (a ∷ []) h = elim (either_true (is_option a) false h) [
  | inl p ↦ rw ((no_name a p).replayed, (no_name a p).resumed) refl
  | inr q ↦ absurd (true≢false (sym q))
]
refused_kept (a ∷ b ∷ more) h = refl

-- nor behind `past`
without_mode : (form : Form) (height : Option ℕ) → at_height form height None ≡ None
without_mode form None = refl
without_mode form (Some h) = refl

no_command_at : (form : Form) (height : Option ℕ) (m : Option Mode) → m ≡ None → at_height form height m ≡ None
no_command_at form height m none = ap (at_height form height) none ∙ without_mode form height

not_asking : (form : Form) (name what text : List ℕ) → list_any is_option (name ∷ what ∷ text ∷ []) ≡ true → asking form name what text ≡ None
not_asking form name what text h = elim (either_true (is_option name) (list_any is_option (what ∷ text ∷ [])) h) [
  | inl p ↦ rw (no_name name p).asked refl
  | inr q ↦ neither (bytes_eq name (codes "query")) (option_map mode.Query (address_asked form what text)) (ap (option_map mode.Query) (not_asked form what text q))
]

refused_past : (form : Form) (words : List (List ℕ)) → list_any is_option words ≡ true → past_of form words ≡ None
refused_past form [] h = refl
refused_past form (a ∷ []) h = refl
refused_past form (a ∷ b ∷ []) h = refl
refused_past form (a ∷ b ∷ c ∷ []) h = elim (either_true (is_option a) (list_any is_option (b ∷ c ∷ [])) h) [
  | inl p ↦ ap (λ (height : Option ℕ). at_height form height (with_word b c)) (no_height a p)
  | inr q ↦ no_command_at form (height_of a) (with_word b c) (refused_options form (b ∷ c ∷ []) q)
]
refused_past form (a ∷ b ∷ c ∷ d ∷ []) h = elim (either_true (is_option a) (list_any is_option (b ∷ c ∷ d ∷ [])) h) [
  | inl p ↦ ap (λ (height : Option ℕ). at_height form height (asking form b c d)) (no_height a p)
  | inr q ↦ no_command_at form (height_of a) (asking form b c d) (not_asking form b c d q)
]
refused_past form (a ∷ b ∷ c ∷ d ∷ e ∷ more) h = refl

-- nor behind `every`
without_name : (form : Form) (every : Option ℕ) → grouping form every None ≡ None
without_name form None = refl
without_name form (Some n) = refl

refused_every : (form : Form) (words : List (List ℕ)) → list_any is_option words ≡ true → every_mode form words ≡ None
refused_every form [] h = refl
refused_every form (a ∷ []) h = refl
refused_every form (a ∷ b ∷ []) h = elim (either_true (is_option a) (list_any is_option (b ∷ [])) h) [
  | inl p ↦ ap (λ (every : Option ℕ). grouping form every (committing b)) (not_every a p)
  | inr q ↦ ap (grouping form (every_of a)) (refused_kept (b ∷ []) q) ∙ without_name form (every_of a)
]
refused_every form (a ∷ b ∷ c ∷ more) h = refl

-- nor are they one behind the word for a form
refused_behind : (form : Form) (words : List (List ℕ)) → list_any is_option words ≡ true → behind_form form words ≡ None
refused_behind form [] h = refl
refused_behind form (word ∷ words) h =
    let none : plain form (mode_of form (word ∷ words)) ≡ None = ap (plain form) (refused_options form (word ∷ words) h) in
    elim (either_true (is_option word) (list_any is_option words) h) [
      | inl p ↦ rw (no_keep word p, no_every word p, no_past word p) none
      | inr q ↦
          four_none (is_keep word) (is_every word) (is_past word) (keeping form (kept_mode words)) (every_mode form words) (past_of form words) (plain form (mode_of form (word ∷ words))) (ap (keeping form) (refused_kept words q)) (refused_every form words q) (refused_past form words q) none
    ]

refused_words : (words : List (List ℕ)) → list_any is_option words ≡ true → command_of words ≡ None
refused_words [] h = absurd (true≢false (sym h))
refused_words (word ∷ words) h =
    let hex : behind_form Hex (word ∷ words) ≡ None = refused_behind Hex (word ∷ words) h in
    elim (either_true (is_option word) (list_any is_option words) h) [
      | inl p ↦ rw (no_form word p) hex
      | inr q ↦ both_none (is_bech32 word) (behind_form Bech32 words) (behind_form Hex (word ∷ words)) (refused_behind Bech32 words q) hex
    ]

-- ---- the same of texts

length_of_texts : (words : List (String Global)) → length (map string_bytes words) ≡ length words
length_of_texts [] = refl
length_of_texts (w ∷ words) = ap suc (length_of_texts words)

pub long_texts : (words : List (String Global)) → 6 < length words → command_of (map string_bytes words) ≡ None
long_texts words h = too_long (map string_bytes words) (omega (arith, h, length_of_texts words))

pub optional_texts : (words : List (String Global)) → list_any (λ word. is_option (string_bytes word)) words ≡ true → command_of (map string_bytes words) ≡ None
optional_texts words h = refused_words (map string_bytes words) (sym (any_of_texts words) ∙ h)

-- what is found at the places says what the words ask for
pub texts_by_places : (words : List (String Global)) (first second third fourth fifth sixth : Option (List ℕ)) → length words ≤ 6
    → first ≡ slice_get (map string_bytes words) 0 → second ≡ slice_get (map string_bytes words) 1 → third ≡ slice_get (map string_bytes words) 2 → fourth ≡ slice_get (map string_bytes words) 3
    → fifth ≡ slice_get (map string_bytes words) 4 → sixth ≡ slice_get (map string_bytes words) 5 → command_of (map string_bytes words) ≡ command_at first second third fourth fifth sixth
texts_by_places words first second third fourth fifth sixth few a b c d e f =
    let places = by_places (map string_bytes words) (omega (arith, few, length_of_texts words)) in
    rw (a, b, c, d, e, f) places
