-- Records that stand for plain ones: found under one address, put under one, begun, counted, reset and banned.
use Rattle.std.proofs.Common.{◌≡◌, ◌∙◌, ℕ, ◌+◌, ◌-◌, ◌%◌, ◌≤◌, Bool, true, false, cond, List, [], ◌∷◌, length, get_or, Option, Some, None, refl, sym, ap, subst, arith, Ordering, Less, Equal, Greater}
use Rattle.std.specs.{Prelude.⊤, BTreeMap.{insert_entry, is_at}, Ordering.match_ordering}
use Rattle.base_types.specs.Orders.{cons_cmp}
use Rattle.base_roles.specs.{declared.{entities.SigningInfo.SigningInfo, params.Ctx.Ctx}, Entries.with}
use Rattle.rule_modules.specs.Evidence.{banned, banned_of}
use Rattle.rule_modules.specs.Window.{Signing, Window, IsRing, info_of, missed_of, signing_of, signing_started, begun_at, reset_at}
use Rattle.mod_signing.specs.{Calls.one_more, Kept.{Signed, Kept, signed_of, with_signed}, Rings.ring_with}
use Rattle.mod_signing.specs.{Stands.{IsSound, KeepsVotes, KeepsSignings, bans_if, bans_kept}, Laws.BanningCarries}
use Rattle.mod_signing.proofs.RingLemmas.{ring_voted, misses_voted, ring_reset, misses_reset}

-- ---- under one address

-- a record and a plain one, or neither
abbrev pub Both : ℕ → Option Signed → Option Signing → Type 0
Both w None None = ⊤
Both w None (Some s) = ⊥
Both w (Some k) None = ⊥
Both w (Some k) (Some s) = KeepsVotes w k s

pub looked_up : (w : ℕ) (kept : Kept) (i : Window) (cons : List ℕ) → KeepsSignings w kept i → Both w (signed_of kept cons) (signing_of i cons)
looked_up w [] [] cons h = tt
looked_up w [] (s ∷ ss) cons h = absurd h
looked_up w (k ∷ ks) [] cons h = absurd h
looked_up w (k ∷ ks) (s ∷ ss) cons h =
    subst (λ key. Both w (cond (is_at (cons_cmp cons) k.0) (Some k.1) (signed_of ks cons)) (cond (is_at (cons_cmp cons) key) (Some s.1) (signing_of ss cons))) h.0
    (by (is_at (cons_cmp cons) k.0) (looked_up w ks ss cons h.2))
  where
    by : (b : Bool) → Both w (signed_of ks cons) (signing_of ss cons) → Both w (cond b (Some k.1) (signed_of ks cons)) (cond b (Some s.1) (signing_of ss cons))
    by true later = h.1
    by false later = later

-- where a record stands, so does a plain one, and the other way round
pub plain_at : (w : ℕ) (kept : Kept) (i : Window) (cons : List ℕ) (k : Signed) → KeepsSignings w kept i → signed_of kept cons ≡ Some k → (s : Signing) × ((signing_of i cons ≡ Some s) × KeepsVotes w k s)
plain_at w kept i cons k h e = by (signing_of i cons) refl (subst (λ x. Both w x (signing_of i cons)) e (looked_up w kept i cons h))
  where
    by : (x : Option Signing) → signing_of i cons ≡ x → Both w (Some k) x → (s : Signing) × ((signing_of i cons ≡ Some s) × KeepsVotes w k s)
    by None e2 b = absurd b
    by (Some s) e2 b = (s, (e2, b))

pub none_at : (w : ℕ) (kept : Kept) (i : Window) (cons : List ℕ) → KeepsSignings w kept i → signed_of kept cons ≡ None → signing_of i cons ≡ None
none_at w kept i cons h e = by (signing_of i cons) refl (subst (λ x. Both w x (signing_of i cons)) e (looked_up w kept i cons h))
  where
    by : (x : Option Signing) → signing_of i cons ≡ x → Both w None x → signing_of i cons ≡ None
    by None e2 b = e2
    by (Some s) e2 b = absurd b

pub stands_at : (w : ℕ) (kept : Kept) (i : Window) (cons : List ℕ) (k : Signed) (s : Signing) → KeepsSignings w kept i → signed_of kept cons ≡ Some k → signing_of i cons ≡ Some s → KeepsVotes w k s
stands_at w kept i cons k s h e f = subst (λ y. Both w (Some k) y) f (subst (λ x. Both w x (signing_of i cons)) e (looked_up w kept i cons h))

-- ---- put under one address

pub keeps_with : (w : ℕ) (cons : List ℕ) (k : Signed) (s : Signing) (kept : Kept) (i : Window) → KeepsVotes w k s → KeepsSignings w kept i → KeepsSignings w (with_signed cons k kept) (with cons_cmp i cons s)
keeps_with w cons k s [] [] st h = (refl, st, tt)
keeps_with w cons k s [] (b ∷ ss) st h = absurd h
keeps_with w cons k s (a ∷ ks) [] st h = absurd h
keeps_with w cons k s (a ∷ ks) (b ∷ ss) st h =
    subst (λ key. KeepsSignings w (with_signed cons k (a ∷ ks)) (match_ordering (cons_cmp cons key) ((cons, s) ∷ b ∷ ss) ((b.0, s) ∷ ss) (b ∷ insert_entry cons_cmp ss cons s))) h.0
    (by (cons_cmp cons a.0) (keeps_with w cons k s ks ss st h.2))
  where
    by : (r : Ordering) → KeepsSignings w (insert_entry cons_cmp ks cons k) (insert_entry cons_cmp ss cons s)
        → KeepsSignings w (match_ordering r ((cons, k) ∷ a ∷ ks) ((a.0, k) ∷ ks) (a ∷ insert_entry cons_cmp ks cons k)) (match_ordering r ((cons, s) ∷ b ∷ ss) ((b.0, s) ∷ ss) (b ∷ insert_entry cons_cmp ss cons s))
    by Less later = (refl, st, h)
    by Equal later = (h.0, st, h.2)
    by Greater later = (h.0, h.1, later)

-- ---- one record

-- begun again
pub stands_begun : (w height : ℕ) (k : Signed) (s : Signing) → KeepsVotes w k s → KeepsVotes w (record k { info = record k.info { start = height } }) (record s { start = height })
stands_begun w height k s st = record { info = λ i. record (st.info i) { start = height }; ring = st.ring }

-- new
pub stands_new : (w height : ℕ) (info : SigningInfo) → info ≡ info_of w (begun_at height None) → KeepsVotes w (record { info = info; ring = [] }) (begun_at height None)
stands_new w height info e = record { info = e; ring = ring_reset w }

-- with one more vote
pub stands_voted : (w : ℕ) → 1 ≤ w → (b : Bool) (k : Signed) (s : Signing) → KeepsVotes w k s
    → KeepsVotes w (record { info = one_more (get_or k.ring (k.info.counted % w) false) b k.info; ring = ring_with (k.info.counted % w) b k.ring }) (record s { votes = b ∷ s.votes })
stands_voted w some b k s st = record {
  info =
      ap (λ n. one_more (get_or k.ring (n % w) false) b k.info) counted
      ∙ ap (one_more (get_or k.ring (length s.votes % w) false) b) st.info
      ∙ (λ j. record (info_of w (record s { votes = b ∷ s.votes })) { counted = more j; missed = misses j });
  ring = subst (λ n. IsRing w (b ∷ s.votes) (ring_with (n % w) b k.ring)) (sym counted) (ring_voted w some s.votes k.ring b st.ring);
}
  where
    counted : k.info.counted ≡ length s.votes
    counted = ap (λ x. x.counted) st.info

    more : length s.votes + 1 ≡ length (b ∷ s.votes)
    more = omega arith

    misses : missed_of w s.votes - cond (get_or k.ring (length s.votes % w) false) 1 0 + cond b 1 0 ≡ missed_of w (b ∷ s.votes)
    misses = sym (misses_voted w some s.votes k.ring b st.ring)

-- reset
pub stands_reset : (c : Ctx) (info : SigningInfo) (s : Signing) → info ≡ info_of c.params.signed_blocks_window (reset_at c s) → KeepsVotes c.params.signed_blocks_window (record { info = info; ring = [] }) (reset_at c s)
stands_reset c info s e = record { info = e; ring = ring_reset c.params.signed_blocks_window }

-- banned
pub stands_banned : (w until : ℕ) (k : Signed) (s : Signing) → KeepsVotes w k s
    → KeepsVotes w (record k { info = record k.info { jailed_until = until; tombstoned = true } }) (record s { jailed_until = until; tombstoned = true })
stands_banned w until k s st = record { info = λ i. record (st.info i) { jailed_until = until; tombstoned = true }; ring = st.ring }

-- ---- a record begins

-- the record of an address that begins at a height, or begins again; a new one has this info
abbrev pub begun_signed : SigningInfo → ℕ → Option Signed → Signed
begun_signed new height None = record { info = new; ring = [] }
begun_signed new height (Some k) = record k { info = record k.info { start = height } }

pub keeps_begun : (w height : ℕ) (new : SigningInfo) (cons : List ℕ) (kept : Kept) (i : Window) → new ≡ info_of w (begun_at height None) → KeepsSignings w kept i
    → KeepsSignings w (with_signed cons (begun_signed new height (signed_of kept cons)) kept) (signing_started height cons i)
keeps_begun w height new cons kept i e h = by (signed_of kept cons) (signing_of i cons) (looked_up w kept i cons h)
  where
    by : (x : Option Signed) (y : Option Signing) → Both w x y → KeepsSignings w (with_signed cons (begun_signed new height x) kept) (with cons_cmp i cons (begun_at height y))
    by None None b = keeps_with w cons (record { info = new; ring = [] }) (begun_at height None) kept i (stands_new w height new e) h
    by None (Some s) b = absurd b
    by (Some k) None b = absurd b
    by (Some k) (Some s) b = keeps_with w cons (record k { info = record k.info { start = height } }) (record s { start = height }) kept i (stands_begun w height k s b) h

-- the info of a new record
pub new_info_is : (w height : ℕ) → record { start = height; counted = 0; missed = 0; jailed_until = 0; tombstoned = false } ≡ info_of w (begun_at height None)
new_info_is w height = λ i. record { start = height; counted = 0; missed = sym (misses_reset w) i; jailed_until = 0; tombstoned = false }

-- ---- the law of banning

pub banning_carries : BanningCarries
banning_carries w kept i cons until h = by (signed_of kept cons) (signing_of i cons) (looked_up w kept i cons h)
  where
    by : (x : Option Signed) (y : Option Signing) → Both w x y → KeepsSignings w (bans_if x cons until kept) (banned_of y cons until i)
    by None None b = h
    by None (Some s) b = absurd b
    by (Some k) None b = absurd b
    by (Some k) (Some s) b = keeps_with w cons (record k { info = record k.info { jailed_until = until; tombstoned = true } }) (record s { jailed_until = until; tombstoned = true }) kept i (stands_banned w until k s b) h

-- where the records are sound, they still are
pub sound_banned : (kept : Kept) (cons : List ℕ) (until : ℕ) → IsSound kept → IsSound (bans_kept cons until kept)
sound_banned kept cons until h = record { window = h.window; some = h.some; most = h.most; kept = (banned cons until h.kept.0, banning_carries h.window kept h.kept.0 cons until h.kept.1) }
