-- What a keeper holds from line to line.
use Rattle.std.proofs.Common.{◌≡◌, ◌∙◌, ◌⊎◌, inl, inr, true≢false, List, [], Option, Some, None, Ok, Err, IfSome, refl, sym, ap, subst, IsSome}
use Rattle.chain_whole.specs.Chained.{Chained}
use Rattle.base_io.specs.{declared.keeper.KeepFault.KeepFault, Rows.{Makes, Pair}, Changes.LeavesRows}
use Rattle.base_roles.specs.declared.items.Item.{Item}
use Rattle.store_commits.specs.{Held.{HasRisen, items_at, rows_at}, Commits.{Commits, Holds}}
use Rattle.store_commits.proofs.Committing.{none_stored}
use Rattle.rule_machine.specs.Items.{items_of}
use Rattle.chain_modules.specs.Kept.{StandsFor}
use Rattle.rule_modules.specs.Chain.{State}
use Rattle.store_items.specs.Stored.{AreStored, rows_in}
use Rattle.run_app.specs.Machine.{SettledAt, Standing, StandsAt}
use Rattle.run_app.specs.Kept.{AreRowsOf, Began, BeganOnRows, HasGrown, Keeping, LeftIn, on_none}
use Rattle.store_rows.specs.Formats.{written}

-- ---- what a chain stands for

-- a chain stands for a state
pub stands_some : (x : Chained) (s : Standing) → StandsAt (Some x) s → (q : State) × (s ≡ Some q) × StandsFor x.kept q
stands_some x None h = absurd h
stands_some x (Some q) h = (q, refl, h)

settled_some : (x : Chained) (s : Standing) → SettledAt (Some x) s → (p : State) × (s ≡ Some p) × StandsFor x.settled p
settled_some x None h = absurd h
settled_some x (Some p) h = (p, refl, h)

-- ---- what a stop leaves

told_left : (rows : List Pair) (told : Option (List Pair)) (leaves : List Pair → Type 0) → IfSome told (λ now. now ≡ rows) → LeavesRows leaves told → IsSome told → (left : List Pair) → leaves left → left ≡ rows
told_left rows None leaves is settled some left l = absurd (true≢false (sym some))
told_left rows (Some now) leaves is settled some left l = settled left l ∙ is

rows_of_told : (began : Type 0) (told : Option (List Pair)) (s : Standing) → IfSome told (λ now. began) → IfSome told (λ now. now ≡ rows_at s) → (IsSome told → AreStored (items_at s)) → IfSome told (λ now. began × AreRowsOf now s)
rows_of_told began None s b rows stored = tt
rows_of_told began (Some now) s b rows stored = (b, (rows, stored refl))

module _ (b : Began) (chain : Option Chained) (told : Option (List Pair)) (honest : Type 0) (leaves : List Pair → Type 0) (s t : Standing) (k : Keeping b chain told honest leaves s t) where
  -- between lines just the rows of what was committed are left
  pub left_of : LeftIn b told honest leaves s s
  left_of = record {
    rows = rows_of_told (BeganOnRows b) told s k.began k.held.rows k.held.stored;
    stop = λ h some left l. inl (told_left (rows_at s) told leaves k.held.rows k.settled (k.tells h some) left l, k.held.stored (k.tells h some));
  }

  -- what the lines led to may be another chain, and another state
  pub led_on : (chain' : Option Chained) (t' : Standing) → StandsAt chain' t' → SettledAt chain' s → Keeping b chain' told honest leaves s t'
  led_on chain' t' stands same = record { stands = stands; same = same; held = k.held; began = k.began; tells = k.tells; settled = k.settled }

  module _ (told' : Option (List Pair)) (honest' : Type 0) (leaves' : List Pair → Type 0) where
    pub after_failure : (f : KeepFault) (items : List Item) → Commits (Err f) items told told' honest honest' leaves leaves' → (u : Standing) → items_at u ≡ items → LeftIn b told' honest' leaves' s u
    after_failure f items c u is = record { rows = rows told' c.err; stop = stop }
      where
        rows : (o : Option (List Pair)) → Makes (λ before. before) told o → IfSome o (λ now. BeganOnRows b × AreRowsOf now s)
        rows None m = tt
        rows (Some after) m =
            let was = subst (λ (o : Option (List Pair)). IfSome o (λ now. BeganOnRows b)) m.1 k.began in
            let held = subst (λ (o : Option (List Pair)). IfSome o (λ now. now ≡ rows_at s)) m.1 k.held.rows in
            let told : IsSome told = subst (λ (o : Option (List Pair)). IsSome o) (sym m.1) refl in
            (was, (m.2 ∙ held, k.held.stored told))

        stop : honest' → IsSome b.rows → (left : List Pair) → leaves' left → AreRowsOf left s ⊎ AreRowsOf left u
        stop h some left l = by (c.stop h (k.tells (c.back h) some) left l)
          where
            by : leaves left ⊎ ((left ≡ rows_in items) × AreStored items) → AreRowsOf left s ⊎ AreRowsOf left u
            by (inl was) = inl (told_left (rows_at s) told leaves k.held.rows k.settled (k.tells (c.back h) some) left was, k.held.stored (k.tells (c.back h) some))
            by (inr new) = inr (new.0 ∙ ap rows_in (sym is), subst AreStored (sym is) new.1)

    pub after_commit : (y : Chained) (q : State) → Commits (Ok tt) (items_of q) told told' honest honest' leaves leaves' → StandsFor y.kept q → StandsFor y.settled q → Keeping b (Some y) told' honest' leaves' (Some q) (Some q)
    after_commit y q c stands same = record {
      stands = stands;
      same = same;
      held = record { stored = c.stored; rows = rows told' c.ok };
      began = began told' c.ok;
      tells = λ h some. c.told h (k.tells (c.back h) some);
      settled = c.settled k.settled;
    }
      where
        rows : (o : Option (List Pair)) → Makes (λ before. rows_in (items_of q)) told o → IfSome o (λ now. now ≡ rows_in (items_of q))
        rows None m = tt
        rows (Some after) m = m.2

        began : (o : Option (List Pair)) → Makes (λ before. rows_in (items_of q)) told o → IfSome o (λ now. BeganOnRows b)
        began None m = tt
        began (Some after) m = subst (λ (o : Option (List Pair)). IfSome o (λ now. BeganOnRows b)) m.1 k.began

    -- a chain was committed that stands for what lines led to
    pub was_kept : (u : Standing) (x y : Chained) → StandsAt (Some x) u → y.kept ≡ x.kept → y.settled ≡ x.kept
        → ((q : State) → StandsFor x.kept q → Commits (Ok tt) (items_of q) told told' honest honest' leaves leaves') → Keeping b (Some y) told' honest' leaves' u u
    was_kept u x y stands kept settled commits =
        let q = stands_some x u stands in
        let new = after_commit y q.0 (commits q.0 q.2) (subst (λ m. StandsFor m q.0) (sym kept) q.2) (subst (λ m. StandsFor m q.0) (sym settled) q.2) in
        subst (λ (v : Standing). Keeping b (Some y) told' honest' leaves' v v) (sym q.1) new

    -- or was not
    pub was_unkept : (f : KeepFault) (u : Standing) (x : Chained) → StandsAt (Some x) u
        → ((q : State) → StandsFor x.kept q → Commits (Err f) (items_of q) told told' honest honest' leaves leaves') → LeftIn b told' honest' leaves' s u
    was_unkept f u x stands commits =
        let q = stands_some x u stands in
        after_failure f (items_of q.0) (commits q.0 q.2) u (ap items_at q.1)

-- ---- a chain that is there, or is not

pub at_some : (b : Began) (o : Option Chained) (x : Chained) (told : Option (List Pair)) (honest : Type 0) (leaves : List Pair → Type 0) (s t : Standing) → o ≡ Some x → Keeping b o told honest leaves s t
    → (p : State) × (q : State) × (s ≡ Some p) × (t ≡ Some q) × StandsFor x.settled p × StandsFor x.kept q
at_some b o x told honest leaves s t is k =
    let here = subst (λ (c : Option Chained). Keeping b c told honest leaves s t) is k in
    let q = stands_some x t here.stands in
    let p = settled_some x s here.same in
    (p.0, q.0, p.1, q.1, p.2, q.2)

-- before the genesis nothing was committed
pub at_first : (b : Began) (o : Option Chained) (told : Option (List Pair)) (honest : Type 0) (leaves : List Pair → Type 0) (s t : Standing) → o ≡ None → Keeping b o told honest leaves s t → (s ≡ None) × (t ≡ None)
at_first b o told honest leaves s t is k =
    let here = subst (λ (c : Option Chained). Keeping b c told honest leaves s t) is k in
    (here.same, here.stands)

-- ---- what is committed next

-- what a keeper holds of a chain may be followed by what the chain keeps
held_next : (b : Began) (x : Chained) (told : Option (List Pair)) (honest : Type 0) (leaves : List Pair → Type 0) (s t : Standing) → Keeping b (Some x) told honest leaves s t → HasGrown s t
    → (p : State) × (q : State) × StandsFor x.settled p × StandsFor x.kept q × HasRisen p q × Holds (items_of p) told
held_next b x told honest leaves None t k grown = absurd k.same
held_next b x told honest leaves (Some p) None k grown = absurd k.stands
held_next b x told honest leaves (Some p) (Some q) k grown = (p, q, k.same, k.stands, grown, k.held)

pub next_held : (b : Began) (o : Option Chained) (x : Chained) (told : Option (List Pair)) (honest : Type 0) (leaves : List Pair → Type 0) (s t : Standing) → o ≡ Some x → Keeping b o told honest leaves s t → HasGrown s t
    → (p : State) × (q : State) × StandsFor x.settled p × StandsFor x.kept q × HasRisen p q × Holds (items_of p) told
next_held b o x told honest leaves s t is k grown = held_next b x told honest leaves s t (subst (λ (c : Option Chained). Keeping b c told honest leaves s t) is k) grown

pub stands_at : (o : Option Chained) (x : Chained) (t : Standing) → o ≡ Some x → StandsAt o t → StandsAt (Some x) t
stands_at o x t is stands = subst (λ (c : Option Chained). StandsAt c t) is stands

-- before the genesis there is nothing to commit
pub none_kept : (b : Began) (o : Option Chained) (told : Option (List Pair)) (honest : Type 0) (leaves : List Pair → Type 0) (s t : Standing) → o ≡ None → Keeping b o told honest leaves s t → Keeping b o told honest leaves t t
none_kept b o told honest leaves s t is k =
    let n = at_first b o told honest leaves s t is k in
    subst (λ (u : Standing). Keeping b o told honest leaves u t) (n.0 ∙ sym n.1) k

-- a run that begins on no rows
pub begins_on_none : (rows told : Option (List Pair)) (honest : Type 0) (leaves : List Pair → Type 0) → IfSome told (λ now. now ≡ []) → Makes (λ before. before) rows told → (honest → IsSome rows → IsSome told) → LeavesRows leaves told → Keeping (record { first = None; rows = rows }) None told honest leaves None None
begins_on_none rows told honest leaves none same telling settled = record {
  stands = refl;
  same = refl;
  held = record { stored = λ some. none_stored; rows = none };
  began = began told none same;
  tells = telling;
  settled = settled;
}
  where
    began : (o : Option (List Pair)) → IfSome o (λ now. now ≡ []) → Makes (λ before. before) rows o → IfSome o (λ now. BeganOnRows (on_none rows))
    began None n m = tt
    began (Some now) n m = (written, m.1 ∙ ap Some (sym m.2 ∙ n))
