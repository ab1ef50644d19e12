-- What the form of a history says of its rows, and rows that are of it.
use Rattle.std.proofs.Common.{◌≡◌, ◌∙◌, ℕ, ◌^◌, ◌<◌, ◌≤◌, true, List, length, Option, Some, None, refl, sym, ap, ap₂, subst, arith, if◌then◌else◌, option_and_then, unwrap_or, IfSome, IsSomeAnd, ◌==◌}
use Rattle.std.specs.Option.{option_flatten}
use Rattle.base_io.specs.{Rows.Pair, Changes.{Rises, value_of}}
use Rattle.store_history.specs.History.{Begins, IsBase, IsFormed, IsHead, IsHistory, IsKept, base_in, base_key, eight_bytes, head_key, height_in, is_visible, kept_height, kept_key, kept_value, last_of, number_at, number_in, stored_base, was}
use Rattle.store_history.{specs.Commits.{Seen, change_at, height_of}, proofs.MapLemmas.{all_at_value, all_from_values}}
use Rattle.store_history.proofs.KeyLemmas.{eight_long, height_back, name_back, number_back}

pub was_back : (o : Option (List ℕ)) → was (kept_value o) ≡ o
was_back None = refl
was_back (Some value) = refl

eight_front : (n : ℕ) → number_at (eight_bytes n) ≡ Some (number_in (eight_bytes n))
unfolding eight_bytes
eight_front n = refl

pub base_back : (n : ℕ) → n < 2 ^ 64 → base_in (eight_bytes n) ≡ Some n
base_back n small =
    ap (λ (len : ℕ). if len == 8 then number_at (eight_bytes n) else None) (eight_long n)
    ∙ eight_front n ∙ ap (λ (m : ℕ). Some m) (number_back n small)

-- ---- the head

pub head_small : (value : List ℕ) (last : ℕ) → IsHead value → height_in value ≡ Some last → last < 2 ^ 64
head_small value last head is = rw is at head

pub small_head : (value : List ℕ) (last : ℕ) → height_in value ≡ Some last → last < 2 ^ 64 → IsHead value
small_head value last is small = rw is small

-- the head that a commit puts
pub head_put : (cs : List Seen) (n : ℕ) → height_of cs ≡ Some n → (value : List ℕ) × (change_at head_key cs ≡ Some (Some value)) × (height_in value ≡ Some n)
head_put cs n is = go (change_at head_key cs) refl is
  where
    go : (o : Option (Option (List ℕ))) → change_at head_key cs ≡ o → option_and_then height_in (option_flatten o) ≡ Some n → (value : List ℕ) × (change_at head_key cs ≡ Some (Some value)) × (height_in value ≡ Some n)
    go None e is = absurd cc
    go (Some None) e is = absurd cc
    go (Some (Some value)) e is = (value, e, is)

-- ---- rows of a history

module _ (rows : List Pair) (h : IsHistory rows) where
  pub row_formed : (key value : List ℕ) → value_of key rows ≡ Some value → IsFormed (stored_base rows) (last_of rows) (key, value)
  row_formed key value is = all_at_value (IsFormed (stored_base rows) (last_of rows)) rows key value h.formed is

  pub last_small : (last : ℕ) → last_of rows ≡ Some last → last < 2 ^ 64
  last_small last is = go (value_of head_key rows) h.head is
    where
      go : (o : Option (List ℕ)) → IfSome o IsHead → option_and_then height_in o ≡ Some last → last < 2 ^ 64
      go None head is = absurd cc
      go (Some value) head is = head_small value last head is

  -- the base that stands is at most the last height
  pub base_within : (base last : ℕ) → stored_base rows ≡ Some base → last_of rows ≡ Some last → base ≤ last
  base_within base last is_base is_last = go (value_of base_key rows) refl is_base
    where
      inside : (b l : Option ℕ) → b ≡ Some base → l ≡ Some last → IsSomeAnd b (λ b. IsSomeAnd l (λ l. b ≤ l)) → base ≤ last
      inside b l p q le = rw (p, q) at le

      go : (o : Option (List ℕ)) → value_of base_key rows ≡ o → option_and_then base_in o ≡ Some base → base ≤ last
      go None e is = absurd cc
      go (Some value) e is = inside (stored_base rows) (last_of rows) is_base is_last ((row_formed base_key value e).based refl).within

  -- the base, also where none stands
  pub base_at_most : (last : ℕ) → last_of rows ≡ Some last → unwrap_or (stored_base rows) last ≤ last
  base_at_most last is_last = go (stored_base rows) refl
    where
      go : (o : Option ℕ) → stored_base rows ≡ o → unwrap_or o last ≤ last
      go None e = omega arith
      go (Some base) e = base_within base last e is_last

  -- nothing is kept at a height above the last one
  pub none_above : (last m : ℕ) (key : List ℕ) → last_of rows ≡ Some last → last < m → m < 2 ^ 64 → value_of (kept_key m key) rows ≡ None
  none_above last m key is_last less small = go (value_of (kept_key m key) rows) refl
    where
      inside : (l : Option ℕ) → l ≡ Some last → IsSomeAnd l (λ l. kept_height (kept_key m key) ≤ l) → ⊥
      inside l is le =
          let within : kept_height (kept_key m key) ≤ last = rw is at le in
          let height : kept_height (kept_key m key) ≡ m = height_back m key small in
          omega (arith, within, height, less)

      go : (o : Option (List ℕ)) → value_of (kept_key m key) rows ≡ o → o ≡ None
      go None e = refl
      go (Some value) e = absurd (inside (last_of rows) is_last ((row_formed (kept_key m key) value e).kept refl).within)

-- ---- a row that is noted

pub note_formed : (n base : ℕ) (name : List ℕ) (o : Option (List ℕ)) → n < 2 ^ 64 → is_visible name ≡ true → base < n → IsKept (Some base) (Some n) (kept_key n name, kept_value o)
note_formed n base name o small seen less = record {
  key = sym (ap₂ kept_key (height_back n name small) (name_back n name));
  name = ap is_visible (name_back n name) ∙ seen;
  value = sym (ap kept_value (was_back o));
  above = let height = height_back n name small in omega (arith, height, less);
  within = let height = height_back n name small in omega (arith, height);
}

-- a row that was kept is kept still, where the last height rises
pub kept_still : (base last : Option ℕ) (from before n : ℕ) (p : Pair) → last ≡ Some before → before < n → from ≡ unwrap_or base before → IsKept base last p → IsKept (Some from) (Some n) p
kept_still base last from before n p is less from_is k = record {
  key = k.key;
  name = k.name;
  value = k.value;
  above = up base k.above from_is;
  within = within last is k.within;
}
  where
    up : (b : Option ℕ) → IsSomeAnd b (λ b. b < kept_height p.0) → from ≡ unwrap_or b before → from < kept_height p.0
    up None h e = absurd h
    up (Some b) h e = omega (arith, h, e)

    within : (l : Option ℕ) → l ≡ Some before → IsSomeAnd l (λ l. kept_height p.0 ≤ l) → kept_height p.0 ≤ n
    within None e h = absurd h
    within (Some l) e h = let same : l ≡ before = cc in omega (arith, h, same, less)

-- ---- what a commit leaves

-- What a commit of a height leaves of rows: a history of its form with this base, and visible rows that are changed as it says.
pub record Leaves (cs : List Seen) (n base : ℕ) (rows new : List Pair) : Type 0 where
  pub rises : Rises new
  pub history : IsHistory new
  pub base_is : stored_base new ≡ Some base
  pub last_is : last_of new ≡ Some n
  pub seen : (key : List ℕ) → is_visible key ≡ true → value_of key new ≡ unwrap_or (change_at key cs) (value_of key rows)

pub leaves_from : (cs : List Seen) (n base : ℕ) (rows new : List Pair) → height_of cs ≡ Some n → n < 2 ^ 64 → base ≤ n → Rises new → stored_base new ≡ Some base
    → ((key : List ℕ) → is_visible key ≡ true → value_of key new ≡ unwrap_or (change_at key cs) (value_of key rows))
    → ((key value : List ℕ) → value_of key new ≡ Some value → Begins 96 key → IsKept (Some base) (Some n) (key, value))
    → ((key value : List ℕ) → value_of key new ≡ Some value → Begins 97 key → (key ≡ base_key) × (length value ≡ 8)) → Leaves cs n base rows new
leaves_from cs n base rows new height small le up base_is seen kept based =
    let (value, put, names) = head_put cs n height in
    let there : value_of head_key new ≡ Some value = seen head_key refl ∙ ap (λ (o : Option (Option (List ℕ))). unwrap_or o (value_of head_key rows)) put in
    let last_is : last_of new ≡ Some n = ap (option_and_then height_in) there ∙ names in
    record {
      rises = up;
      history = record {
        head = subst (λ (o : Option (List ℕ)). IfSome o IsHead) (sym there) (small_head value n names small);
        formed = all_from_values (IsFormed (stored_base new) (last_of new)) new up (λ key value is. record {
          kept = λ begins. subst (λ (b : Option ℕ). IsKept b (last_of new) (key, value)) (sym base_is) (subst (λ (l : Option ℕ). IsKept (Some base) l (key, value)) (sym last_is) (kept key value is begins));
          based = λ begins.
              let it = based key value is begins in
              subst (λ (b : Option ℕ). IsBase b (last_of new) (key, value)) (sym base_is) (subst (λ (l : Option ℕ). IsBase (Some base) l (key, value)) (sym last_is) (record { key = it.0; value = it.1; within = le }));
        });
      };
      base_is = base_is;
      last_is = last_is;
      seen = seen;
    }
