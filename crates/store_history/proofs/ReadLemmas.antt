-- Bytes that are read.
use Rattle.std.proofs.Common.{◌≡◌, ◌∙◌, ℕ, zero, suc, ◌+◌, ◌^◌, ◌<◌, ◌≤◌, Bool, true, false, List, [], ◌∷◌, ◌++◌, drop, filter, get_or, inl, inr, length, map, take, Option, Some, None, refl, sym, ap, ap₂, subst, arith, if◌then◌else◌, nat_lt, IfSome, IsSomeAnd, MatchOption, w64, length-append, take-append-drop}
use Rattle.std.{specs.{Int.from_be_bytes, List.AllByRecursion}, proofs.lemmas.{Bool.cases_Bool, Nat.be_bytes_8}}
use Rattle.base_io.specs.{declared.keeper.Row.Row, Rows.Pair, Changes.{Rises, pair_of, value_of}}
use Rattle.store_history.specs.History.{IsFormed, IsHead, IsHistory, IsKept, eight_bytes, head_key, is_visible, kept_height, kept_key, kept_name, kept_value, last_of, number_at, number_in, stored_base, visible, was}
use Rattle.store_history.proofs.{MapLemmas.at_filter, KeyLemmas.{eight_long, height_back, name_back}}
use Rattle.store_history.proofs.{FormLemmas.was_back, ListLemmas.shown_last}

pub number_found : (bytes front : List ℕ) (n : ℕ) → front ≡ take 8 bytes → 8 ≤ length bytes → n ≡ from_be_bytes w64 front → Some n ≡ number_at bytes
unfolding number_in
number_found bytes front n is long number =
    let test : nat_lt (length bytes) 8 ≡ false = search (arith, Rattle.std.proofs.Common.rules) in
    ap (λ (m : ℕ). Some m) (number ∙ ap (from_be_bytes w64) is) ∙ sym (ap (λ (b : Bool). if b then None else Some (from_be_bytes w64 (take 8 bytes))) test)

take_small : (n : ℕ) (bs : List ℕ) → ((i : ℕ) → get_or bs i 0 < 256) → (i : ℕ) → get_or (take n bs) i 0 < 256
take_small zero bs small i = let none : get_or (take zero bs) i 0 ≡ 0 = refl in omega (arith, none)
take_small (suc n) [] small i = small i
take_small (suc n) (b ∷ bs) small zero = small 0
take_small (suc n) (b ∷ bs) small (suc i) = take_small n bs (λ j. small (suc j)) i

take_long : (n : ℕ) (bs : List ℕ) → n ≤ length bs → length (take n bs) ≡ n
take_long zero bs le = refl
take_long (suc n) [] le = absurd (omega (arith, le))
take_long (suc n) (b ∷ bs) le = let later = take_long n bs (omega (arith, le)) in omega (arith, later)

pub eight_read : (bytes front rest : List ℕ) (n : ℕ) → front ≡ take 8 bytes → rest ≡ drop 8 bytes → 8 ≤ length bytes → ((i : ℕ) → get_or bytes i 0 < 256) → n ≡ from_be_bytes w64 front → bytes ≡ eight_bytes n ++ rest
unfolding eight_bytes
eight_read bytes front rest n is others long small number =
    let spelled = be_bytes_8 (take 8 bytes) n (take_long 8 bytes long) (take_small 8 bytes small) (number ∙ ap (from_be_bytes w64) is) in
    sym (take-append-drop 8 bytes) ∙ ap₂ (λ (a b : List ℕ). a ++ b) (sym spelled) (sym others)

pub kept_key_read : {X : Type 0} (n : X → ℕ) (name : X → List ℕ) (r : Option X) (key rest : List ℕ) → key ≡ 96 ∷ rest
    → MatchOption r (length rest < 8) (λ it. (rest ≡ eight_bytes (n it) ++ name it) × (n it < 2 ^ 64))
    → MatchOption r ((height : ℕ) (other : List ℕ) → key ≡ kept_key height other → ⊥) (λ it. (key ≡ kept_key (n it) (name it)) × (n it < 2 ^ 64))
kept_key_read n name None key rest is short = λ height other e.
    let same : rest ≡ eight_bytes height ++ other = ap (λ (k : List ℕ). drop 1 k) (sym is ∙ e) in
    let len : length rest ≡ length (eight_bytes height) + length other = ap length same ∙ length-append (eight_bytes height) other in
    let eight = eight_long height in
    omega (arith, short, len, eight)
kept_key_read n name (Some it) key rest is h = (is ∙ ap (λ (t : List ℕ). 96 ∷ t) h.0, h.1)

-- ---- forms

pub is_kept_by : (base last : Option ℕ) (p : Pair) (n : ℕ) (name : List ℕ) (value : Option (List ℕ)) → n < 2 ^ 64 → p.0 ≡ kept_key n name → p.1 ≡ kept_value value → is_visible name ≡ true
    → IsSomeAnd base (λ b. b < n) × IsSomeAnd last (λ l. n ≤ l) → IsKept base last p
is_kept_by base last p n name value small key kept shown between =
    let height : kept_height p.0 ≡ n = ap kept_height key ∙ height_back n name small in
    let named : kept_name p.0 ≡ name = ap kept_name key ∙ name_back n name in
    record {
      key = key ∙ sym (ap₂ kept_key height named);
      name = ap is_visible named ∙ shown;
      value = kept ∙ sym (ap kept_value (ap was kept ∙ was_back value));
      above = subst (λ (m : ℕ). IsSomeAnd base (λ b. b < m)) (sym height) between.0;
      within = subst (λ (m : ℕ). IsSomeAnd last (λ l. m ≤ l)) (sym height) between.1;
    }

pub kept_between : (base last : Option ℕ) (p : Pair) (n : ℕ) (name : List ℕ) → n < 2 ^ 64 → p.0 ≡ kept_key n name → IsKept base last p → IsSomeAnd base (λ b. b < n) × IsSomeAnd last (λ l. n ≤ l)
kept_between base last p n name small key k =
    let height : kept_height p.0 ≡ n = ap kept_height key ∙ height_back n name small in
    (subst (λ (m : ℕ). IsSomeAnd base (λ b. b < m)) height k.above, subst (λ (m : ℕ). IsSomeAnd last (λ l. m ≤ l)) height k.within)

pub kept_shown : (base last : Option ℕ) (p : Pair) (n : ℕ) (name : List ℕ) → p.0 ≡ kept_key n name → IsKept base last p → is_visible name ≡ true
kept_shown base last p n name key k = ap is_visible (sym (ap kept_name key ∙ name_back n name)) ∙ k.name

-- ---- a history

pub history_head : (rows vis : List Pair) → Rises rows → vis ≡ visible rows → IsHistory rows → IfSome (value_of head_key vis) IsHead
history_head rows vis up is h = subst (λ (o : Option (List ℕ)). IfSome o IsHead) (sym (ap (value_of head_key) is ∙ at_filter is_visible head_key rows up refl)) h.head

pub history_formed : (rows vis : List Pair) (base last : Option ℕ) → Rises rows → vis ≡ visible rows → base ≡ stored_base rows → last ≡ last_of vis → IsHistory rows → AllByRecursion (IsFormed base last) rows
history_formed rows vis base last up is base_is last_is h =
    let at : last ≡ last_of rows = last_is ∙ ap last_of is ∙ shown_last rows up in
    subst (λ (b : Option ℕ). AllByRecursion (IsFormed b last) rows) (sym base_is) (subst (λ (l : Option ℕ). AllByRecursion (IsFormed (stored_base rows) l) rows) (sym at) h.formed)

pub history_by : (rows vis : List Pair) (base last : Option ℕ) → Rises rows → vis ≡ visible rows → base ≡ stored_base rows → last ≡ last_of vis → IfSome (value_of head_key vis) IsHead
    → AllByRecursion (IsFormed base last) rows → IsHistory rows
history_by rows vis base last up is base_is last_is head formed =
    let at : last ≡ last_of rows = last_is ∙ ap last_of is ∙ shown_last rows up in
    record {
      head = subst (λ (o : Option (List ℕ)). IfSome o IsHead) (ap (value_of head_key) is ∙ at_filter is_visible head_key rows up refl) head;
      formed = subst (λ (b : Option ℕ). AllByRecursion (IsFormed b (last_of rows)) rows) base_is (subst (λ (l : Option ℕ). AllByRecursion (IsFormed base l) rows) at formed);
    }

pub first_same : (a b : ℕ) (xs ys : List ℕ) → a ∷ xs ≡ b ∷ ys → a ≡ b
first_same a b xs ys e = cc

pub not_empty : (height : ℕ) (name key : List ℕ) → length key ≡ 0 → key ≡ kept_key height name → ⊥
not_empty height name [] none e = absurd cc
not_empty height name (b ∷ key) none e = omega (arith, none)

-- ---- rows and pairs

pub filter_pairs : (rows : List Row) → map pair_of (filter (λ r. is_visible r.key.items) rows) ≡ filter (λ p. is_visible p.0) (map pair_of rows)
filter_pairs [] = refl
filter_pairs (r ∷ rows) = elim (cases_Bool (is_visible r.key.items)) [
  | inl is ↦ rw is (ap (λ (ps : List Pair). pair_of r ∷ ps) (filter_pairs rows))
  | inr other ↦ rw other (filter_pairs rows)
]

pub none_mapped : (rows : List Row) → map pair_of rows ≡ [] → rows ≡ []
none_mapped [] e = refl
none_mapped (r ∷ rows) e = absurd cc
