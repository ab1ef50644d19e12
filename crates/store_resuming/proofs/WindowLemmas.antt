-- Signing records of which the last votes of the window are the same: votes, evidence, hooks and another window leave such ones again,
-- and what is told of them is one.
use Rattle.std.proofs.Common.{◌≡◌, ◌∙◌, ℕ, zero, suc, ◌+◌, ◌-◌, ◌%◌, ◌≤◌, ◌==◌, Bool, true, false, cond, List, [], ◌∷◌, ◌++◌, length, map, take, drop, Option, Some, None, Result, Ok, Err, refl, sym, ap, subst, arith, ◌&&◌, ◌||◌, min, not, nat_lt, reverse, if◌then◌else◌, option_map, Ordering, Less, Equal, Greater, take-take}
use Rattle.std.{specs.{Prelude.⊤, BTreeMap.{insert_entry, is_at}, Ordering.match_ordering}, proofs.Math.Nat.min-le_left}
use Rattle.std.proofs.lemmas.Bool.Decides.{nat_tests}
use Rattle.base_types.specs.Orders.{cons_cmp}
use Rattle.base_roles.specs.declared.entities.{SigningInfo.SigningInfo, Validator.Validator}
use Rattle.base_roles.specs.declared.{messages.{Evidence.Evidence, Vote.Vote}, params.Ctx.Ctx, refusal.Refusal.Refusal}
use Rattle.base_roles.specs.{declared.refusal.Refusal.TheVariants.{StillJailed, Tombstoned}, Entries.with}
use Rattle.base_roles.specs.{Flow.{◌>>=◌, ◌>>◌, stop_if}, Staked.{is_unbonded, validator_by_cons}, World.{View, World}}
use Rattle.base_roles.specs.declared.calls.Hook.{Hook}
use Rattle.base_roles.specs.declared.facts.Fact.TheVariants as fact
use Rattle.base_roles.specs.declared.calls.Hook.TheVariants as hook
use Rattle.rule_modules.specs.Amounts.{count_where}
use Rattle.rule_modules.specs.Evidence.{banned, banned_of, equivocation_handled, evidence_weighed, forever, is_too_old, window_bans}
use Rattle.rule_modules.specs.Slashing.{Slashes}
use Rattle.rule_modules.specs.Window.{Signing, Window, allowed_of, begun_at, info_of, is_downtime, may_leave, reset_at, signing_of, signing_started, vote_counted, voted, votes_kept, window_resized, window_told}
use Rattle.rule_machine.specs.Items.{ring_of}
use Rattle.law_records.specs.Records.{signed_in}
use Rattle.store_records.specs.declared.records.Signed.{Signed}
use Rattle.store_resuming.proofs.SideLemmas.{AreAlike, ToldAlike, same_then_alike}

-- the last votes of the window are the same, as many were counted, and all else is as it is
pub record SigningsAlike (window : ℕ) (s t : Signing) : Type 0 where
  pub start : s.start ≡ t.start
  pub counted : length s.votes ≡ length t.votes
  pub last : take window s.votes ≡ take window t.votes
  pub jailed_until : s.jailed_until ≡ t.jailed_until
  pub tombstoned : s.tombstoned ≡ t.tombstoned

-- the same of the records of all consensus addresses
abbrev pub WindowsAlike : ℕ → Window → Window → Type 0
WindowsAlike window [] [] = Unit {0}
WindowsAlike window [] (t ∷ ts) = ⊥
WindowsAlike window (s ∷ ss) [] = ⊥
WindowsAlike window (s ∷ ss) (t ∷ ts) = (s.0 ≡ t.0) × SigningsAlike window s.1 t.1 × WindowsAlike window ss ts

-- and of what is found of one
abbrev pub FoundAlike : ℕ → Option Signing → Option Signing → Type 0
FoundAlike window None None = Unit {0}
FoundAlike window None (Some t) = ⊥
FoundAlike window (Some s) None = ⊥
FoundAlike window (Some s) (Some t) = SigningsAlike window s t

-- ---- what is told of them

same_info : (window : ℕ) (s t : Signing) → SigningsAlike window s t → info_of window s ≡ info_of window t
same_info window s t a = λ i. record {
  start = a.start i;
  counted = a.counted i;
  missed = count_where (λ (missed : Bool). missed) (a.last i);
  jailed_until = a.jailed_until i;
  tombstoned = a.tombstoned i;
}

turned : ℕ → List Bool → List Bool
turned n xs = drop n xs ++ take n xs

same_ring : (window : ℕ) (s t : Signing) → SigningsAlike window s t → ring_of window s.votes ≡ ring_of window t.votes
unfolding turned
same_ring window s t a = λ i. turned (length (reverse (a.last i)) - a.counted i % window) (reverse (a.last i))

abbrev pub infos_of : ℕ → Window → List (List ℕ × SigningInfo)
infos_of window i = map (λ e. (e.0, info_of window e.1)) i

pub same_infos : (window : ℕ) (i j : Window) → WindowsAlike window i j → infos_of window i ≡ infos_of window j
same_infos window [] [] h = refl
same_infos window [] (t ∷ ts) h = absurd h
same_infos window (s ∷ ss) [] h = absurd h
same_infos window (s ∷ ss) (t ∷ ts) h = λ k. (h.0 k, same_info window s.1 t.1 h.1 k) ∷ same_infos window ss ts h.2 k

pub same_signed : (window : ℕ) (i j : Window) → WindowsAlike window i j → signed_in window i ≡ signed_in window j
same_signed window [] [] h = refl
same_signed window [] (t ∷ ts) h = absurd h
same_signed window (s ∷ ss) [] h = absurd h
same_signed window (s ∷ ss) (t ∷ ts) h = λ k. (h.0 k, record { info = same_info window s.1 t.1 h.1 k; ring = same_ring window s.1 t.1 h.1 k }) ∷ same_signed window ss ts h.2 k

-- ---- one record

pub found_alike : (window : ℕ) (cons : List ℕ) (i j : Window) → WindowsAlike window i j → FoundAlike window (signing_of i cons) (signing_of j cons)
found_alike window cons [] [] h = tt
found_alike window cons [] (t ∷ ts) h = absurd h
found_alike window cons (s ∷ ss) [] h = absurd h
found_alike window cons (s ∷ ss) (t ∷ ts) h = by (is_at (cons_cmp cons) s.0) (is_at (cons_cmp cons) t.0) (ap (is_at (cons_cmp cons)) h.0) (found_alike window cons ss ts h.2)
  where
    by : (a b : Bool) → a ≡ b → FoundAlike window (signing_of ss cons) (signing_of ts cons) → FoundAlike window (cond a (Some s.1) (signing_of ss cons)) (cond b (Some t.1) (signing_of ts cons))
    by true true e k = h.1
    by true false e k = absurd cc
    by false true e k = absurd cc
    by false false e k = k

pub put_alike : (window : ℕ) (cons : List ℕ) (s t : Signing) → SigningsAlike window s t → (i j : Window) → WindowsAlike window i j → WindowsAlike window (with cons_cmp i cons s) (with cons_cmp j cons t)
put_alike window cons s t a [] [] h = (refl, a, tt)
put_alike window cons s t a [] (y ∷ ys) h = absurd h
put_alike window cons s t a (x ∷ xs) [] h = absurd h
put_alike window cons s t a (x ∷ xs) (y ∷ ys) h =
    subst (λ (q : Ordering). WindowsAlike window (match_ordering (cons_cmp cons x.0) ((cons, s) ∷ x ∷ xs) ((x.0, s) ∷ xs) (x ∷ insert_entry cons_cmp xs cons s)) (match_ordering q ((cons, t) ∷ y ∷ ys) ((y.0, t) ∷ ys) (y ∷ insert_entry cons_cmp ys cons t)))
    (ap (cons_cmp cons) h.0) (by (cons_cmp cons x.0) (put_alike window cons s t a xs ys h.2))
  where
    by : (r : Ordering) → WindowsAlike window (insert_entry cons_cmp xs cons s) (insert_entry cons_cmp ys cons t)
        → WindowsAlike window (match_ordering r ((cons, s) ∷ x ∷ xs) ((x.0, s) ∷ xs) (x ∷ insert_entry cons_cmp xs cons s)) (match_ordering r ((cons, t) ∷ y ∷ ys) ((y.0, t) ∷ ys) (y ∷ insert_entry cons_cmp ys cons t))
    by Less k = (refl, a, h)
    by Equal k = (h.0, a, h.2)
    by Greater k = (h.0, h.1, k)

begun_alike : (window height : ℕ) (o p : Option Signing) → FoundAlike window o p → SigningsAlike window (begun_at height o) (begun_at height p)
begun_alike window height None None h = record { start = refl; counted = refl; last = refl; jailed_until = refl; tombstoned = refl }
begun_alike window height None (Some t) h = absurd h
begun_alike window height (Some s) None h = absurd h
begun_alike window height (Some s) (Some t) h = record { start = refl; counted = h.counted; last = h.last; jailed_until = h.jailed_until; tombstoned = h.tombstoned }

started_alike : (window height : ℕ) (cons : List ℕ) (i j : Window) → WindowsAlike window i j → WindowsAlike window (signing_started height cons i) (signing_started height cons j)
started_alike window height cons i j h =
    put_alike window cons (begun_at height (signing_of i cons)) (begun_at height (signing_of j cons)) (begun_alike window height (signing_of i cons) (signing_of j cons) (found_alike window cons i j h)) i j h

-- what hooks tell of like records is alike
pub window_tells : (window : ℕ) (i j : Window) → WindowsAlike window i j → (h : Hook) (v : View) → ToldAlike (WindowsAlike window) (window_told i h v) (window_told j h v)
window_tells window i j a (hook.Created x) v = (a, refl, refl)
window_tells window i j a (hook.Removed x) v = (a, refl, refl)
window_tells window i j a (hook.Bonded x) v = (started_alike window v.ctx.height x.cons i j a, refl, refl)
window_tells window i j a (hook.Starting x who) v = (a, refl, refl)
window_tells window i j a (hook.Modifying x who shares) v = (a, refl, refl)
window_tells window i j a (hook.Modified x who shares) v = (a, refl, refl)
window_tells window i j a (hook.Slashing x fraction) v = (a, refl, refl)

-- ---- another window

kept_alike : (window most new : ℕ) (s t : Signing) → most ≤ window → SigningsAlike window s t → SigningsAlike new (votes_kept most s) (votes_kept most t)
kept_alike window most new s t le a =
    let e : take most s.votes ≡ take most t.votes = sym (take-take most window s.votes le) ∙ ap (take most) a.last ∙ take-take most window t.votes le in
    record { start = a.start; counted = ap length e; last = ap (take new) e; jailed_until = a.jailed_until; tombstoned = a.tombstoned }

all_kept : (window most new : ℕ) → most ≤ window → (i j : Window) → WindowsAlike window i j
    → WindowsAlike new (map (λ (e : List ℕ × Signing). (e.0, votes_kept most e.1)) i) (map (λ (e : List ℕ × Signing). (e.0, votes_kept most e.1)) j)
all_kept window most new le [] [] h = tt
all_kept window most new le [] (t ∷ ts) h = absurd h
all_kept window most new le (s ∷ ss) [] h = absurd h
all_kept window most new le (s ∷ ss) (t ∷ ts) h = (h.0, kept_alike window most new s.1 t.1 le h.1, all_kept window most new le ss ts h.2)

pub resized_alike : (old new : ℕ) (i j : Window) → WindowsAlike old i j → WindowsAlike new (window_resized old new i) (window_resized old new j)
resized_alike old new i j h = by (old == new) refl
  where
    same : (old == new) ≡ true → old ≡ new
    same e = grind (arith, nat_tests)

    by : (b : Bool) → (old == new) ≡ b → WindowsAlike new (if b then i else map (λ (e : List ℕ × Signing). (e.0, votes_kept (min old new) e.1)) i) (if b then j else map (λ (e : List ℕ × Signing). (e.0, votes_kept (min old new) e.1)) j)
    by true e = subst (λ n. WindowsAlike n i j) (same e) h
    by false e = all_kept old (min old new) new (min-le_left old new) i j h

-- ---- votes

shorter : (n : ℕ) (xs ys : List Bool) → take (suc n) xs ≡ take (suc n) ys → take n xs ≡ take n ys
shorter n xs ys e = sym (take-take n (suc n) xs (omega arith)) ∙ ap (take n) e ∙ take-take n (suc n) ys (omega arith)

one_more : (window : ℕ) (b : Bool) (xs ys : List Bool) → take window xs ≡ take window ys → take window (b ∷ xs) ≡ take window (b ∷ ys)
one_more zero b xs ys e = refl
one_more (suc n) b xs ys e = ap (λ (l : List Bool). b ∷ l) (shorter n xs ys e)

now_alike : (window : ℕ) (b : Bool) (s t : Signing) → SigningsAlike window s t → SigningsAlike window (record s { votes = b ∷ s.votes }) (record t { votes = b ∷ t.votes })
now_alike window b s t a = record { start = a.start; counted = ap (λ n. suc n) a.counted; last = one_more window b s.votes t.votes a.last; jailed_until = a.jailed_until; tombstoned = a.tombstoned }

reset_alike : (c : Ctx) (window : ℕ) (s t : Signing) → SigningsAlike window s t → SigningsAlike window (reset_at c s) (reset_at c t)
reset_alike c window s t a = record { start = a.start; counted = refl; last = refl; jailed_until = refl; tombstoned = a.tombstoned }

same_downtime : (c : Ctx) (s t : Signing) (v : Validator) → SigningsAlike c.params.signed_blocks_window s t → is_downtime c s v ≡ is_downtime c t v
same_downtime c s t v a = λ i.
    nat_lt (a.start i + c.params.signed_blocks_window) c.height
    && nat_lt (allowed_of c.params) (count_where (λ (missed : Bool). missed) (a.last i))
    && not (is_unbonded v.status)

pub chosen_alike : {A B E : Type 0} (R : A → B → Type 0) (b : Bool) (x y : Result A E) (x2 y2 : Result B E) → AreAlike R x x2 → AreAlike R y y2 → AreAlike R (if b then x else y) (if b then x2 else y2)
chosen_alike R true x y x2 y2 h k = h
chosen_alike R false x y x2 y2 h k = k

chosen_both : {A B E : Type 0} (R : A → B → Type 0) (b d : Bool) (x y : Result A E) (x2 y2 : Result B E) → b ≡ d → AreAlike R x x2 → AreAlike R y y2 → AreAlike R (if b then x else y) (if d then x2 else y2)
chosen_both R b d x y x2 y2 e h k = subst (λ (t : Bool). AreAlike R (if b then x else y) (if t then x2 else y2)) e (chosen_alike R b x y x2 y2 h k)

-- the same answer, like records, and one world
abbrev pub BesideAlike : {A S H : Type 0} → ℕ → A × Window × World S H → A × Window × World S H → Type 0
BesideAlike window a b = (a.0 ≡ b.0) × WindowsAlike window a.1 b.1 × (a.2 ≡ b.2)

module _ {S H : Type 0} (lent : Slashes S H) where
  counted_alike : (o : Option Validator) (s t : Option Signing) (vote : Vote) (i j : Window) (w : World S H) → FoundAlike w.view.ctx.params.signed_blocks_window s t → WindowsAlike w.view.ctx.params.signed_blocks_window i j
      → AreAlike (BesideAlike w.view.ctx.params.signed_blocks_window) (vote_counted lent o s vote i w) (vote_counted lent o t vote j w)
  counted_alike None s t vote i j w f h = (refl, h, refl)
  counted_alike (Some v) None None vote i j w f h = (refl, h, refl)
  counted_alike (Some v) None (Some t) vote i j w f h = absurd f
  counted_alike (Some v) (Some s) None vote i j w f h = absurd f
  counted_alike (Some v) (Some s) (Some t) vote i j w f h =
      let c : Ctx = w.view.ctx in
      let window : ℕ = c.params.signed_blocks_window in
      let now : Signing = record s { votes = not vote.signed ∷ s.votes } in
      let now2 : Signing = record t { votes = not vote.signed ∷ t.votes } in
      let alike : SigningsAlike window now now2 = now_alike window (not vote.signed) s t f in
      let slash = lent.slash vote.cons (c.height - 2) vote.power c.params.slash_fraction_downtime w in
      chosen_alike (BesideAlike window) v.jailed _ _ _ _ (refl, h, refl)
      (chosen_both (BesideAlike window) (is_downtime c now v) (is_downtime c now2 v) _ _ _ _ (same_downtime c now now2 v alike)
      (same_then_alike (BesideAlike window) slash slash _ _ refl (λ p. (refl, put_alike window vote.cons (reset_at c now) (reset_at c now2) (reset_alike c window now now2 alike) i j h, refl)))
      (refl, put_alike window vote.cons now now2 alike i j h, refl))

  pub voted_beside : (vote : Vote) (i j : Window) (w : World S H) → WindowsAlike w.view.ctx.params.signed_blocks_window i j → AreAlike (BesideAlike w.view.ctx.params.signed_blocks_window) (voted lent vote i w) (voted lent vote j w)
  voted_beside vote i j w h =
      counted_alike (validator_by_cons (lent.stake w.mine) vote.cons) (signing_of i vote.cons) (signing_of j vote.cons) vote i j w (found_alike w.view.ctx.params.signed_blocks_window vote.cons i j h) h

  -- ---- evidence

  banned_alike : (window : ℕ) (cons : List ℕ) (until : ℕ) (i j : Window) → WindowsAlike window i j → WindowsAlike window (banned cons until i) (banned cons until j)
  banned_alike window cons until i j h = by (signing_of i cons) (signing_of j cons) (found_alike window cons i j h)
    where
      by : (o p : Option Signing) → FoundAlike window o p → WindowsAlike window (banned_of o cons until i) (banned_of p cons until j)
      by None None f = h
      by None (Some t) f = absurd f
      by (Some s) None f = absurd f
      by (Some s) (Some t) f =
          put_alike window cons (record s { jailed_until = until; tombstoned = true }) (record t { jailed_until = until; tombstoned = true })
          (record { start = f.start; counted = f.counted; last = f.last; jailed_until = refl; tombstoned = refl }) i j h

  same_tombstone : (window : ℕ) (o p : Option Signing) → FoundAlike window o p → option_map (λ (s : Signing). s.tombstoned) o ≡ option_map (λ (s : Signing). s.tombstoned) p
  same_tombstone window None None f = refl
  same_tombstone window None (Some t) f = absurd f
  same_tombstone window (Some s) None f = absurd f
  same_tombstone window (Some s) (Some t) f = λ i. Some (f.tombstoned i)

  weighed_alike : (window : ℕ) (o : Option Validator) (t : Option Bool) (e : Evidence) (i j : Window) (w : World S H) → WindowsAlike window i j → AreAlike (BesideAlike window) (evidence_weighed lent window_bans o t e i w) (evidence_weighed lent window_bans o t e j w)
  weighed_alike window None t e i j w h = (refl, h, refl)
  weighed_alike window (Some v) None e i j w h = (refl, h, refl)
  weighed_alike window (Some v) (Some t) e i j w h =
      let slash = lent.slash e.cons (e.height - 1) e.power w.view.ctx.params.slash_fraction_double_sign w in
      chosen_alike (BesideAlike window) (is_unbonded v.status || t || is_too_old w.view.ctx e) _ _ _ _ (refl, h, refl)
      (same_then_alike (BesideAlike window) slash slash _ _ refl (λ p. (refl, banned_alike window e.cons forever i j h, refl)))

  pub equivocation_beside : (window : ℕ) (e : Evidence) (i j : Window) (w : World S H) → WindowsAlike window i j → AreAlike (BesideAlike window) (equivocation_handled lent window_bans e i w) (equivocation_handled lent window_bans e j w)
  equivocation_beside window e i j w h =
      let o : Option Validator = validator_by_cons (lent.stake w.mine) e.cons in
      subst (λ (x : Option Bool). AreAlike (BesideAlike window) (equivocation_handled lent window_bans e i w) (evidence_weighed lent window_bans o x e j w))
      (same_tombstone window (signing_of i e.cons) (signing_of j e.cons) (found_alike window e.cons i j h))
      (weighed_alike window o (window_bans.tombstoned i e.cons) e i j w h)

-- ---- leaving jail

pub same_leave : (window now : ℕ) (o p : Option Signing) → FoundAlike window o p → may_leave now o ≡ may_leave now p
same_leave window now None None f = refl
same_leave window now None (Some t) f = absurd f
same_leave window now (Some s) None f = absurd f
same_leave window now (Some s) (Some t) f = λ i. stop_if (f.tombstoned i) Tombstoned >> stop_if (nat_lt now (f.jailed_until i)) (StillJailed (f.jailed_until i))
