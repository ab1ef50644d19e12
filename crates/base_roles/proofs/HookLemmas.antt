-- For callers of hooks.
use Rattle.std.proofs.Common.{◌≡◌, ◌∙◌, ℕ, ◌≤◌, false, List, refl, sym, ap, subst, Result, Ok}
use Rattle.std.specs.{Prelude.⊤, BTreeMap.is_at}
use Rattle.base_types.specs.{declared.account.{Account.Account, Module.TheVariants.Distribution}, Orders.account_cmp}
use Rattle.base_types.specs.declared.account.Account.TheVariants as account
use Rattle.base_coins.specs.Coins.{Money}
use Rattle.base_roles.specs.{declared.{facts.Fact.Fact, faults.HookFault.HookFault}, Answers.Answers, Ground.IsInOrder}
use Rattle.base_roles.specs.Holdings.{Holdings, IsBacked, balance_of, moved}
use Rattle.base_roles.specs.{Hooks.{after, Tells, Stand, Ready, Stands, MayCall, Lawful}, Owing.Lists, Log.Log}
use Rattle.base_roles.specs.{Pair.{HoldsOwed-same, pair_tells, after_first}, World.{View, Hook, Told, gives, exceeds}}
use Rattle.base_roles.proofs.HoldingLemmas.{balance-moved_elsewhere}

-- a call that answered Ok leaves what was told of it
pub told-of_ok : {S : Type 0} (t : Told S) (s : S) (v : View) → Answers t (λ a. s ≡ a) v (Ok tt) → (log : Log) × (t ≡ gives s v log)
told-of_ok (gives s2 v2 log) s v h = (log, cc)
told-of_ok (exceeds over) s v h = absurd h

-- a call that answered Ok leaves some plain value that is held, which is what was told of it
pub picked : {S : Type 0} (t : Told S) (holds : S → Type 0) (v : View) → Answers t holds v (Ok tt) → (s : S) × (holds s × Answers t (λ a. s ≡ a) v (Ok tt))
picked (gives s v2 log) holds v a = (s, (a.0, (refl, a.1)))
picked (exceeds over) holds v a = absurd a

-- what is told of a call, and whether it may be made, under another name of it
pub told_as : {S : Type 0} (t : Tells S) (s : S) (h k : Hook) (v w : View) (holds : S → Type 0) (r : Result ⊤ HookFault) → h ≡ k → Answers (t.told s k v) holds w r → Answers (t.told s h v) holds w r
told_as t s h k v w holds r e a = subst (λ x. Answers (t.told s x v) holds w r) (sym e) a

pub may_as : {S : Type 0} (t : Tells S) (holds : S → Type 0) (h k : Hook) (v : View) → h ≡ k → MayCall holds t h v → MayCall holds t k v
may_as t holds h k v e m = subst (λ x. MayCall holds t x v) e m

-- hooks stand as before over a ground in order whose context and distribution account are the same
pub Stand-same : {S : Type 0} (t : Tells S) (s : S) (v w : View) (l : Lists) → w.ctx ≡ v.ctx
    → ((d : List ℕ) → balance_of w.bank (account.Module Distribution) d ≡ balance_of v.bank (account.Module Distribution) d) → IsInOrder w → Stand t s v l → Stand t s w l
Stand-same t s v w l c e i p = record {
  lists = p.lists;
  owed = HoldsOwed-same (t.owes s) v w e p.owed;
  late = subst (λ x. t.height s ≤ x.height) (sym c) p.late;
  in_order = i;
}

-- hooks stand as before over other facts
pub stand-noted : {S : Type 0} (t : Tells S) (s : S) (v : View) (facts : List Fact) (l : Lists) → Stand t s v l → Stand t s (record v { facts = facts }) l
stand-noted t s v facts l p = Stand-same t s v (record v { facts = facts }) l refl (λ d. refl)
    (record { params = p.in_order.params; time = p.in_order.time; height = p.in_order.height; bank = p.in_order.bank }) p

-- the same of what they keep
pub stands-noted : {S : Type 0} (t : Tells S) (holds : S → Type 0) (v : View) (facts : List Fact) (l : Lists) → Stands holds t v l → Stands holds t (record v { facts = facts }) l
stands-noted t holds v facts l p = (p.0, (p.1.0, stand-noted t p.0 v facts l p.1.1))

-- Hooks stand as before after coins were sent between other accounts than that of distribution, where the bank is still in
-- order.
pub Stand-after_send : {S : Type 0} (t : Tells S) (s : S) (from to : Account) (coins : Money) (v : View) (bank : Holdings) (facts : List Fact) (l : Lists) → bank ≡ moved from to coins v.bank → IsBacked bank
    → is_at (account_cmp (account.Module Distribution)) from ≡ false → is_at (account_cmp (account.Module Distribution)) to ≡ false → Stand t s v l → Stand t s (record { bank = bank; ctx = v.ctx; facts = facts }) l
Stand-after_send t s from to coins v bank facts l e b f g p =
    Stand-same t s v (record { bank = bank; ctx = v.ctx; facts = facts }) l refl
    (λ d. ap (λ h. balance_of h (account.Module Distribution) d) e ∙ balance-moved_elsewhere coins v.bank from to (account.Module Distribution) d p.in_order.bank.balances_ascend f g)
    (record { params = p.in_order.params; time = p.in_order.time; height = p.in_order.height; bank = b }) p

-- the second of a pair may be called where the first answered Ok
pub second_may : {X Y : Type 0} (x : Tells X) (y : Tells Y) → Lawful x → (first left : X → Type 0) (second : Y → Type 0) (h : Hook) (v w : View) → MayCall (λ p. first p.0 × second p.1) (pair_tells x y) h v
    → ((a : X) → first a → Answers (x.told a h v) left w (Ok tt)) → MayCall second y h w
second_may x y xl first left second h v w r e =
    let p = picked (x.told r.0.0 h v) left w (e r.0.0 r.1.0.0) in
    let t = told-of_ok (x.told r.0.0 h v) p.0 w p.1.1 in
    (r.0.1, (r.1.0.1, (r.1.1.0, after_first x y xl r.0 h v r.1.1.0 p.0 w t.0 r.1.1.1 t.1)))

-- where a hook answered Ok, the hooks stand for the lists after it
pub Stand-after_ok : {S : Type 0} (t : Tells S) → Lawful t → (s s2 : S) (h : Hook) (v v2 : View) (l : Lists) → Ready t s v h l → Answers (t.told s h v) (λ a. s2 ≡ a) v2 (Ok tt) → Stand t s2 v2 (after h l)
Stand-after_ok t lawful s s2 h v v2 l r e = let told = told-of_ok (t.told s h v) s2 v2 e in lawful.follows s s2 h v v2 told.0 l r told.1

-- the same of what they keep
pub Stands-after_ok : {S : Type 0} (t : Tells S) → Lawful t → (old new : S → Type 0) (h : Hook) (v w : View) (r : MayCall old t h v) → ((s : S) → old s → Answers (t.told s h v) new w (Ok tt)) → Stands new t w (after h r.1.1.0)
Stands-after_ok t lawful old new h v w r e =
    let p = picked (t.told r.0 h v) new w (e r.0 r.1.0) in
    (p.0, (p.1.0, Stand-after_ok t lawful r.0 p.0 h v w r.1.1.0 r.1.1.1 p.1.1))
