-- Two hooks, one after the other, are lawful where both are.
use Rattle.std.specs.Prelude.{◌≡◌, ℕ, ◌+◌, ◌*◌, ◌^◌, ◌≤◌, max, Bool, true, false, ◌&&◌, List, ◌++◌, refl, Option, Some, None}
use Rattle.std.proofs.Common.{◌∙◌, ap, subst, arith}
use Rattle.std.proofs.lemmas.Grind.{common_steps}
use Rattle.base_types.specs.declared.account.Account.TheVariants as account
use Rattle.base_types.specs.declared.account.Module.TheVariants.{Distribution}
use Rattle.base_roles.specs.Ground.{IsInOrder}
use Rattle.base_roles.specs.Holdings.{balance_of}
use Rattle.base_roles.specs.Hooks.{after, Tells, Stand, Ready, Keeps, IsGiven, Lawful}
use Rattle.base_roles.specs.Owing.{Lists, HoldsOwed}
use Rattle.base_roles.specs.Log.{Log}
use Rattle.base_roles.specs.World.{View, Hook, bonded, removed, Told, gives, exceeds}

-- one call after another
abbrev pub and_then : {S R : Type 0} → Told S → (S → View → Log → Told R) → Told R
and_then (gives s v log) next = next s v log
and_then (exceeds over) next = exceeds over

-- what the second call gives, behind what was given before it
abbrev pub given_with : {X Y : Type 0} → X → Log → Told Y → Told (X × Y)
given_with a log t = and_then t (λ b v more. gives (a, b) v (log ++ more))

-- The first, then the second on what that leaves. A pair stands for the lists for which both do, and for none where the
-- second owes something; it owes what the first owes.
abbrev pub pair_tells : {X Y : Type 0} → Tells X → Tells Y → Tells (X × Y)
pair_tells x y = record {
  told = λ s h v. and_then (x.told s.0 h v) (λ a w log. given_with a log (y.told s.1 h w));
  stands = λ s l. x.stands s.0 l × y.stands s.1 l × (y.owes s.1 ≡ None);
  owes = λ s. x.owes s.0;
  height = λ s. max (x.height s.0) (y.height s.1);
  quiet = λ s. x.quiet s.0 && y.quiet s.1;
  sure = λ s. x.sure s.0 && y.sure s.1;
  most_steps = λ s. x.most_steps s.0 + y.most_steps s.1;
}

Keeps-then : {N M : Type 0} (u v w : View) → (N → M) → Keeps N u v → Keeps M v w → Keeps N u w
Keeps-then u v w n p q = record {
  ctx = q.ctx ∙ p.ctx;
  supplies = q.supplies ∙ p.supplies;
  bonded = λ d. q.bonded d ∙ p.bonded d;
  not_bonded = λ d. q.not_bonded d ∙ p.not_bonded d;
  fee_collector = λ d. q.fee_collector d ∙ p.fee_collector d;
  distribution = λ m d. q.distribution (n m) d ∙ p.distribution m d;
  facts = (p.facts.0 ++ q.facts.0, grind (arith, common_steps, p.facts.1, q.facts.1));
}

pub HoldsOwed-none : (o : Option (List ℕ → ℕ)) (v : View) → o ≡ None → HoldsOwed o v
HoldsOwed-none None v e = tt
HoldsOwed-none (Some f) v e = cc

pub HoldsOwed-same : (o : Option (List ℕ → ℕ)) (v w : View) → ((d : List ℕ) → balance_of w.bank (account.Module Distribution) d ≡ balance_of v.bank (account.Module Distribution) d) → HoldsOwed o v → HoldsOwed o w
HoldsOwed-same None v w e h = tt
HoldsOwed-same (Some f) v w e h = λ d. ap (λ n. 10 ^ 18 * n) (e d) ∙ h d

-- where one call after another gives something, each does
ok_first : {S R : Type 0} (t : Told S) (next : S → View → Log → Told R) (r : R) (v : View) (log : Log) → and_then t next ≡ gives r v log
    → (s : S) × ((w : View) × ((k : Log) × ((t ≡ gives s w k) × (next s w k ≡ gives r v log))))
ok_first (gives s w k) next r v log e = (s, (w, (k, (refl, e))))
ok_first (exceeds over) next r v log e = cc

both-true : (a b : Bool) → a && b ≡ true → (a ≡ true) × (b ≡ true)
both-true true b e = (refl, e)
both-true false b e = absurd cc

module _ {X Y : Type 0} (x : Tells X) (y : Tells Y) where
  -- the two calls of a call that gives something
  pub record Halves (s s2 : X × Y) (h : Hook) (v v2 : View) : Type 0 where
    pub between : View
    pub first_log : Log
    pub second_log : Log
    pub first : x.told s.0 h v ≡ gives s2.0 between first_log
    pub second : y.told s.1 h between ≡ gives s2.1 v2 second_log

  halves : (s s2 : X × Y) (h : Hook) (v v2 : View) (log : Log) → (pair_tells x y).told s h v ≡ gives s2 v2 log → Halves s s2 h v v2
  halves s s2 h v v2 log e =
      let one = ok_first (x.told s.0 h v) (λ a w k. given_with a k (y.told s.1 h w)) s2 v2 log e in
      let two = ok_first (y.told s.1 h one.1.0) (λ b u more. gives (one.0, b) u (one.1.1.0 ++ more)) s2 v2 log one.1.1.1.1 in
      let same : two.1.0 ≡ v2 = cc in
      let made : (one.0, two.0) ≡ s2 = cc in
      record {
        between = one.1.0;
        first_log = one.1.1.0;
        second_log = two.1.1.0;
        first = subst (λ z. x.told s.0 h v ≡ gives z one.1.0 one.1.1.0) (ap (λ p. p.0) made) one.1.1.1.0;
        second = subst (λ z. y.told s.1 h one.1.0 ≡ gives z v2 two.1.1.0) (ap (λ p. p.1) made) (subst (λ u. y.told s.1 h one.1.0 ≡ gives two.0 u two.1.1.0) same two.1.1.1.0);
      }

  first_ready : (s : X × Y) (v : View) (h : Hook) (l : Lists) → Ready (pair_tells x y) s v h l → Ready x s.0 v h l
  first_ready s v h l r = record {
    stand = record { lists = r.stand.lists.0; owed = r.stand.owed; late = (let k : max (x.height s.0) (y.height s.1) ≤ v.ctx.height = r.stand.late in omega arith); in_order = r.stand.in_order };
    needs = r.needs;
    tokens = r.tokens;
  }

  second_ready : (s : X × Y) (v w : View) (h : Hook) (l : Lists) → Ready (pair_tells x y) s v h l → w.ctx ≡ v.ctx → IsInOrder w → Ready y s.1 w h l
  second_ready s v w h l r c i = record {
    stand = record { lists = r.stand.lists.1; owed = HoldsOwed-none (y.owes s.1) w r.stand.lists.2; late = (let k : max (x.height s.0) (y.height s.1) ≤ v.ctx.height = r.stand.late in let e : w.ctx.height ≡ v.ctx.height = ap (λ c. c.height) c in omega arith); in_order = i };
    needs = r.needs;
    tokens = r.tokens;
  }

  given_both : (s : X × Y) (h : Hook) (v : View) (a : X) (w : View) (k : Log) → x.told s.0 h v ≡ gives a w k → IsGiven (y.told s.1 h w) → IsGiven ((pair_tells x y).told s h v)
  given_both s h v a w k e g = ((a, g.0), (g.1.0, (k ++ g.1.1.0, ap (λ t. and_then t (λ a w log. given_with a log (y.told s.1 h w))) e ∙ ap (λ t. given_with a k t) g.1.1.1)))

  -- the second may be called on what the first leaves
  pub after_first : Lawful x → (s : X × Y) (h : Hook) (v : View) (l : Lists) (a : X) (w : View) (k : Log) → Ready (pair_tells x y) s v h l → x.told s.0 h v ≡ gives a w k → Ready y s.1 w h l
  after_first xl s h v l a w k r e = second_ready s v w h l r (xl.keeps s.0 a h v w k l (first_ready s v h l r) e).ctx (xl.follows s.0 a h v w k l (first_ready s v h l r) e).in_order

  module _ (xl : Lawful x) (yl : Lawful y) where
    keeps_both : (s s2 : X × Y) (h : Hook) (v v2 : View) (log : Log) (l : Lists) → Ready (pair_tells x y) s v h l → (pair_tells x y).told s h v ≡ gives s2 v2 log → Keeps (x.owes s.0 ≡ None) v v2
    keeps_both s s2 h v v2 log l r e =
        let t = halves s s2 h v v2 log e in
        Keeps-then v t.between v2 (λ n. r.stand.lists.2)
        (xl.keeps s.0 s2.0 h v t.between t.first_log l (first_ready s v h l r) t.first)
        (yl.keeps s.1 s2.1 h t.between v2 t.second_log l (after_first xl s h v l s2.0 t.between t.first_log r t.first) t.second)

    follows_both : (s s2 : X × Y) (h : Hook) (v v2 : View) (log : Log) (l : Lists) → Ready (pair_tells x y) s v h l → (pair_tells x y).told s h v ≡ gives s2 v2 log → Stand (pair_tells x y) s2 v2 (after h l)
    follows_both s s2 h v v2 log l r e =
        let t = halves s s2 h v v2 log e in
        let ready = after_first xl s h v l s2.0 t.between t.first_log r t.first in
        let q = yl.keeps s.1 s2.1 h t.between v2 t.second_log l ready t.second in
        let fx = xl.follows s.0 s2.0 h v t.between t.first_log l (first_ready s v h l r) t.first in
        let fy = yl.follows s.1 s2.1 h t.between v2 t.second_log l ready t.second in
        record {
          lists = (fx.lists, fy.lists, yl.owes_nothing s.1 s2.1 h t.between v2 t.second_log r.stand.lists.2 t.second);
          owed = HoldsOwed-same (x.owes s2.0) t.between v2 (q.distribution r.stand.lists.2) fx.owed;
          late = (let a : x.height s2.0 ≤ t.between.ctx.height = fx.late in let b : y.height s2.1 ≤ v2.ctx.height = fy.late in let k : v2.ctx.height ≡ t.between.ctx.height = ap (λ c. c.height) q.ctx in omega arith);
          in_order = fy.in_order;
        }

    sure_both : (s : X × Y) (h : Hook) (v : View) (l : Lists) → ((l2 : Lists) (w : View) → Ready x s.0 w h l2 → IsGiven (x.told s.0 h w)) → ((l2 : Lists) (w : View) → Ready y s.1 w h l2 → IsGiven (y.told s.1 h w))
        → Ready (pair_tells x y) s v h l → IsGiven ((pair_tells x y).told s h v)
    sure_both s h v l gx gy r =
        let one = gx l v (first_ready s v h l r) in
        given_both s h v one.0 one.1.0 one.1.1.0 one.1.1.1 (gy l one.1.0 (after_first xl s h v l one.0 one.1.0 one.1.1.0 r one.1.1.1))

    pub pair_lawful : Lawful (pair_tells x y)
    pair_lawful = record {
      keeps = keeps_both;
      follows = follows_both;
      owes_nothing = λ s s2 h v v2 log n e. (let t = halves s s2 h v v2 log e in xl.owes_nothing s.0 s2.0 h v t.between t.first_log n t.first);
      quiet_call = λ s h v q. (
          let b = both-true (x.quiet s.0) (y.quiet s.1) q in
          let one = xl.quiet_call s.0 h v b.0 in
          let two = yl.quiet_call s.1 h v b.1 in
          ((one.0, two.0), (one.1.0 ++ two.1.0, ap (λ t. and_then t (λ a w log. given_with a log (y.told s.1 h w))) one.1.1 ∙ ap (λ t. given_with one.0 one.1.0 t) two.1.1)));
      quiet_stands = λ s l q. (let b = both-true (x.quiet s.0) (y.quiet s.1) q in (xl.quiet_stands s.0 l b.0, yl.quiet_stands s.1 l b.1, yl.quiet_owes s.1 b.1));
      quiet_owes = λ s q. xl.quiet_owes s.0 (both-true (x.quiet s.0) (y.quiet s.1) q).0;
      quiet_height = λ s q. (let b = both-true (x.quiet s.0) (y.quiet s.1) q in omega (arith, xl.quiet_height s.0 b.0, yl.quiet_height s.1 b.1));
      quiet_sure = λ s q. (let b = both-true (x.quiet s.0) (y.quiet s.1) q in grind (arith, common_steps, xl.quiet_sure s.0 b.0, yl.quiet_sure s.1 b.1));
      quiet_steps = λ s q. (let b = both-true (x.quiet s.0) (y.quiet s.1) q in omega (arith, xl.quiet_steps s.0 b.0, yl.quiet_steps s.1 b.1));
      sure_bonded = λ s z v l q r. (let b = both-true (x.sure s.0) (y.sure s.1) q in sure_both s (bonded z) v l (λ l2 w. xl.sure_bonded s.0 z w l2 b.0) (λ l2 w. yl.sure_bonded s.1 z w l2 b.1) r);
      sure_removed = λ s z v l q r. (let b = both-true (x.sure s.0) (y.sure s.1) q in sure_both s (removed z) v l (λ l2 w. xl.sure_removed s.0 z w l2 b.0) (λ l2 w. yl.sure_removed s.1 z w l2 b.1) r);
      quiet_stays = λ s s2 h v v2 log e. (
          let t = halves s s2 h v v2 log e in
          λ i. xl.quiet_stays s.0 s2.0 h v t.between t.first_log t.first i && yl.quiet_stays s.1 s2.1 h t.between v2 t.second_log t.second i);
      sure_stays = λ s s2 h v v2 log e. (
          let t = halves s s2 h v v2 log e in
          λ i. xl.sure_stays s.0 s2.0 h v t.between t.first_log t.first i && yl.sure_stays s.1 s2.1 h t.between v2 t.second_log t.second i);
      steps_stay = λ s s2 h v v2 log e. (
          let t = halves s s2 h v v2 log e in
          omega (arith, xl.steps_stay s.0 s2.0 h v t.between t.first_log t.first, yl.steps_stay s.1 s2.1 h t.between v2 t.second_log t.second));
    }
