-- Completing key by key: what stands after one, the whole, and how many steps they take.
use Rattle.std.proofs.Common.{◌≡◌, ◌∙◌, ℕ, ◌+◌, ◌*◌, ◌^◌, ◌<◌, ◌≤◌, Bool, true, false, cond, not, List, [], ◌∷◌, drop, refl, sym, ap, subst, arith, All, filter, map, sum, length, ◌||◌}
use Rattle.std.specs.{List.list_any, Map.values_of}
use Rattle.std.proofs.lemmas.List.Elements.{All-nil, All-cons, All-head, All-tail, recursion_from_All}
use Rattle.base_types.specs.declared.account.Account.TheVariants as account
use Rattle.base_types.specs.declared.account.Module.TheVariants as holder
use Rattle.base_roles.specs.declared.{entities.UnbondingEntry.UnbondingEntry, params.Ctx.Ctx}
use Rattle.base_roles.specs.{Ground.{AreInRange, IsInOrder, end_of_blocks}, Holdings.{balance_of, IsBacked}}
use Rattle.base_roles.specs.{Orders.pair_cmp, StakeChanges.HoldsStake, World.View}
use Rattle.rule_modules.specs.{Amounts.count_where, EntrySlashes.unbonding_made, Owed.{balances_of, entry_balances}}
use Rattle.rule_modules.specs.Sound.{UnbondingIsSound}
use Rattle.rule_modules.specs.Unbondings.{UnbondingLists, entries_of, with_entries, is_mature, paid_back, completed}
use Rattle.rule_modules.proofs.OrderLemmas.{pair_total}
use Rattle.mod_entries.specs.{Kept.Kept, Walked.{stepped, keys_where, is_due, mature_entries}}
use Rattle.mod_entries.proofs.{CountLemmas.drop_end, WalkedLemmas.stepped-walked}
use Rattle.mod_unbonding.specs.{Calls.{AreSoundLists, mature_balances}, Walked.{Key, paid_at}}
use Rattle.mod_unbonding.proofs.EntriesLemmas.{all-entries, all-at, list-at, ascend-entries, total-entries}
use Rattle.mod_unbonding.proofs.PaidLemmas.{paid_out, mature-left, ctx-paid, held-paid, IsHeld}
use Rattle.mod_unbonding.proofs.WalkedLemmas.{completed-walked, stepped-end}

-- entries of which none is mature stay, and nothing is paid
none_mature : (now : ℕ) (es : List UnbondingEntry) → list_any (is_mature now) es ≡ false → filter (λ e. not (is_mature now e)) es ≡ es
none_mature now [] h = refl
none_mature now (e ∷ es) h = by (is_mature now e) (list_any (is_mature now) es) h (none_mature now es)
  where
    rest : List UnbondingEntry
    rest = filter (λ x. not (is_mature now x)) es

    by : (b c : Bool) → (b || c) ≡ false → (c ≡ false → rest ≡ es) → cond (not b) (e ∷ rest) rest ≡ e ∷ es
    by true c h later = absurd cc
    by false c h later = ap (λ l. e ∷ l) (later h)

none_paid : (delegator : List ℕ) (es : List UnbondingEntry) (v : View) → list_any (is_mature v.ctx.time) es ≡ false → paid_back delegator es v ≡ v
none_paid delegator [] v h = refl
none_paid delegator (e ∷ es) v h = by (is_mature v.ctx.time e) (list_any (is_mature v.ctx.time) es) h (none_paid delegator es v)
  where
    paid : View
    paid = paid_back delegator es (paid_out delegator e.balance v)

    by : (b c : Bool) → (b || c) ≡ false → (c ≡ false → paid_back delegator es v ≡ v) → cond b paid (paid_back delegator es v) ≡ v
    by true c h later = absurd cc
    by false c h later = later h

module _ (ctx : Ctx) where
  stays : (k : Key) (es : List UnbondingEntry) (v : View) → v.ctx ≡ ctx → (paid_at k es v).1.ctx ≡ ctx
  stays k es v c = ctx-paid k.0 es v ∙ c

  skips : (k : Key) (es : List UnbondingEntry) (v : View) → v.ctx ≡ ctx → is_due unbonding_made ctx.time k es ≡ false → paid_at k es v ≡ (es, v)
  skips k es v c h =
      let none : list_any (is_mature v.ctx.time) es ≡ false = ap (λ (x : Ctx). list_any (is_mature x.time) es) c ∙ h in
      λ i. (none_mature v.ctx.time es none i, none_paid k.0 es v none i)

  -- completing the keys that have a mature entry is completing all
  pub stepped-completed : (u : UnbondingLists) (v : View) → v.ctx ≡ ctx → AreSoundLists u → stepped pair_cmp paid_at (keys_where (is_due unbonding_made ctx.time) u) u v ≡ completed u v
  stepped-completed u v c h =
      stepped-walked pair_cmp pair_total paid_at (λ (x : View). x.ctx ≡ ctx) stays (is_due unbonding_made ctx.time) skips u v c h.1.ascend (recursion_from_All (λ p. 0 < length p.1) u h.1.some) ∙ sym (completed-walked u v)

-- ---- what stands once one key was completed

module _ (now : ℕ) (delegator operator : List ℕ) (u : UnbondingLists) (h : AreSoundLists u) where
  abbrev old : List UnbondingEntry
  old = entries_of u delegator operator

  abbrev left : List UnbondingEntry
  left = filter (λ e. not (is_mature now e)) old

  all_filter : (P : UnbondingEntry → Type 0) (es : List UnbondingEntry) → All P es → All P (filter (λ e. not (is_mature now e)) es)
  all_filter P [] a = All-nil P
  all_filter P (e ∷ es) a = by (is_mature now e) (all_filter P es (All-tail P e es a))
    where
      rest : List UnbondingEntry
      rest = filter (λ x. not (is_mature now x)) es

      by : (b : Bool) → All P rest → All P (cond (not b) (e ∷ rest) rest)
      by true later = later
      by false later = All-cons P e rest (All-head P e es a) later

  length_filter : (es : List UnbondingEntry) → length (filter (λ e. not (is_mature now e)) es) ≤ length es
  length_filter [] = omega arith
  length_filter (e ∷ es) = by (is_mature now e) (length_filter es)
    where
      rest : List UnbondingEntry
      rest = filter (λ x. not (is_mature now x)) es

      by : (b : Bool) → length rest ≤ length es → length (cond (not b) (e ∷ rest) rest) ≤ length (e ∷ es)
      by true later = let goal : length rest ≤ length (e ∷ es) = omega (arith, later) in goal
      by false later = let goal : length (e ∷ rest) ≤ length (e ∷ es) = omega (arith, later) in goal

  pub completed-sound : AreSoundLists (with_entries delegator operator left u)
  completed-sound = (
    h.0,
    record {
      ascend = ascend-entries delegator operator left u h.1.ascend;
      some = all-entries (λ p. 0 < length p.1) u h.1.ascend h.1.some delegator operator left (λ s. s);
      most = all-entries (λ p. length p.1 ≤ 100) u h.1.ascend h.1.most delegator operator left
          (λ s. let n = length_filter old in let m = list-at (λ l. length l ≤ 100) u (omega arith) h.1.most delegator operator in omega (arith, n, m));
      entries = all-entries (λ p. All (UnbondingIsSound h.0) p.1) u h.1.ascend h.1.entries delegator operator left (λ s. all_filter (UnbondingIsSound h.0) old (all-at (UnbondingIsSound h.0) u h.1.entries delegator operator));
    },
  )

  -- the balances fall by the mature ones
  pub completed-balances : entry_balances (with_entries delegator operator left u) + mature_balances now old ≡ entry_balances u
  completed-balances =
      let a = total-entries balances_of refl delegator operator left u h.1.ascend in
      let b = mature-left now old in
      omega (arith, a, b)

  abbrev mature_of : List UnbondingEntry → ℕ
  mature_of es = count_where (is_mature now) es

  none_left : (es : List UnbondingEntry) → mature_of (filter (λ e. not (is_mature now e)) es) ≡ 0
  none_left [] = refl
  none_left (e ∷ es) = by (is_mature now e) refl (none_left es)
    where
      rest : List UnbondingEntry
      rest = filter (λ x. not (is_mature now x)) es

      by : (b : Bool) → is_mature now e ≡ b → mature_of rest ≡ 0 → mature_of (cond (not b) (e ∷ rest) rest) ≡ 0
      by true q later = later
      by false q later = let one : ◌≡◌ {A = ℕ} (cond (is_mature now e) 1 0) 0 = ap (λ b. cond b 1 0) q in omega (arith, one, later)

  abbrev all_mature : UnbondingLists → ℕ
  all_mature x = sum (map mature_of (values_of x))

  mature_falls : all_mature (with_entries delegator operator left u) + mature_of old ≡ all_mature u
  mature_falls =
      let a = total-entries mature_of refl delegator operator left u h.1.ascend in
      let b = none_left old in
      omega (arith, a, b)

  -- so many fewer are mature
  pub completed-mature : mature_entries unbonding_made now (with_entries delegator operator left u) + mature_of old ≡ mature_entries unbonding_made now u
  completed-mature = mature_falls

-- ---- while keys are completed one after another

-- what stands then, since some entries and a ground
pub record IsCompleting (u : UnbondingLists) (v : View) (u2 : UnbondingLists) (v2 : View) : Type 0 where
  pub entries : AreSoundLists u2
  pub in_order : IsInOrder v2
  pub ctx : v2.ctx ≡ v.ctx
  pub accounts : (bonded other : ℕ) → HoldsStake v bonded (other + entry_balances u) → HoldsStake v2 bonded (other + entry_balances u2)

-- the same, once the entries of a key were paid
pub still_in_order : (v v2 : View) → v2.ctx ≡ v.ctx → IsBacked v2.bank → IsInOrder v → IsInOrder v2
still_in_order v v2 e b h = record {
  params = subst (λ (c : Ctx). AreInRange c.params) (sym e) h.params;
  time = subst (λ (c : Ctx). c.time < end_of_blocks) (sym e) h.time;
  height = subst (λ (c : Ctx). c.height < 2 ^ 63) (sym e) h.height;
  bank = b;
}

pub completing-none : (u : UnbondingLists) (v : View) → AreSoundLists u → IsInOrder v → IsCompleting u v u v
completing-none u v h o = record { entries = h; in_order = o; ctx = refl; accounts = λ bonded other k. k }

module _ (u : UnbondingLists) (v : View) (start : HoldsStake v 0 (entry_balances u)) (u2 : UnbondingLists) (v2 : View) (c : IsCompleting u v u2 v2) (key : Key) where
  abbrev es : List UnbondingEntry
  es = entries_of u2 key.0 key.1

  abbrev pub u3 : UnbondingLists
  u3 = with_entries key.0 key.1 (paid_at key es v2).0 u2

  abbrev v3 : View
  v3 = (paid_at key es v2).1

  falls : entry_balances u3 + mature_balances v2.ctx.time es ≡ entry_balances u2
  falls = completed-balances v2.ctx.time key.0 key.1 u2 c.entries

  holds : (bonded other : ℕ) → HoldsStake v2 bonded (other + entry_balances u2) → IsHeld key.0 bonded (other + entry_balances u3) v3
  holds bonded other h =
      held-paid key.0 es v2 bonded (other + entry_balances u3) c.in_order.bank (record {
        in_bonded = h.in_bonded;
        in_not_bonded = let p = h.in_not_bonded in let q = falls in omega (arith, p, q);
      })

  now_held : HoldsStake v2 0 (0 + entry_balances u2)
  now_held = c.accounts 0 0 (record { in_bonded = start.in_bonded; in_not_bonded = let p = start.in_not_bonded in omega (arith, p) })

  pub can_pay : mature_balances v2.ctx.time es ≤ balance_of v2.bank (account.Module holder.NotBonded) v2.ctx.params.bond_denom
  can_pay = let a = now_held.in_not_bonded in let b = falls in omega (arith, a, b)

  pub completing-one : IsCompleting u v u3 v3
  completing-one =
      let later = ctx-paid key.0 es v2 in
      record {
        entries = completed-sound v2.ctx.time key.0 key.1 u2 c.entries;
        in_order = still_in_order v2 v3 later (holds 0 0 now_held).0 c.in_order;
        ctx = later ∙ c.ctx;
        accounts = λ bonded other h. (holds bonded other (c.accounts bonded other h)).1;
      }

  -- so many fewer are mature
  pub mature-one : (now : ℕ) → v2.ctx.time ≡ now → mature_entries unbonding_made now u3 + count_where (is_mature now) es ≡ mature_entries unbonding_made now u2
  mature-one now e = subst (λ t. mature_entries unbonding_made t u3 + count_where (is_mature t) es ≡ mature_entries unbonding_made t u2) e (completed-mature v2.ctx.time key.0 key.1 u2 c.entries)

-- the keys that have a mature entry, of what a register holds and of what is seen of it
pub due-seen : (now : ℕ) (held seen : Kept Key UnbondingEntry) → held ≡ seen → keys_where (is_due unbonding_made now) held.lists ≡ keys_where (is_due unbonding_made now) seen.lists
due-seen now held seen e = ap (λ (k : Kept Key UnbondingEntry). keys_where (is_due unbonding_made now) k.lists) e

-- all keys that have a mature entry were completed
pub completed-all : (ks : List Key) (i : ℕ) (u : UnbondingLists) (v : View) (u2 : UnbondingLists) (v2 : View) → stepped pair_cmp paid_at (drop i ks) u2 v2 ≡ stepped pair_cmp paid_at ks u v → length ks ≤ i
    → ks ≡ keys_where (is_due unbonding_made v.ctx.time) u → AreSoundLists u → (u2, v2) ≡ completed u v
completed-all ks i u v u2 v2 told all is h =
    sym (stepped-end paid_at (drop i ks) u2 v2 (drop_end ks i all)) ∙ told ∙ ap (λ l. stepped pair_cmp paid_at l u v) is ∙ stepped-completed v.ctx u v refl h

-- ---- how many steps

-- the steps to find the keys: one for each, and one more
pub cost-first : (steps first keys due all : ℕ) → steps ≤ first + due + 1 → keys ≡ due → steps + 6 * keys + 8 * all ≤ first + 1 + 7 * keys + 8 * all
cost-first steps first keys due all cost same = omega (arith, cost, same)

-- those of one more key
pub cost-next : (steps steps2 m keys left left2 first all now then : ℕ) → steps2 ≤ steps + (6 + 8 * m) → then + m ≡ now → left ≡ left2 + 1 → steps + 6 * left + 8 * now ≤ first + 1 + 7 * keys + 8 * all
    → steps2 + 6 * left2 + 8 * then ≤ first + 1 + 7 * keys + 8 * all
cost-next steps steps2 m keys left left2 first all now then cost fall one h = omega (arith, cost, fall, one, h)

-- and of all of them
pub cost-all : (steps keys left first all now : ℕ) → keys ≤ all → steps + 6 * left + 8 * now ≤ first + 1 + 7 * keys + 8 * all → steps ≤ first + (15 * all + 1)
cost-all steps keys left first all now few h = omega (arith, few, h)

-- and of those up to a key at which memory was wanting
pub cost-stopped : (steps steps2 m keys left left2 first all now then : ℕ) → steps2 ≤ steps + (6 + 8 * m) → then + m ≡ now → left ≡ left2 + 1 → keys ≤ all → steps + 6 * left + 8 * now ≤ first + 1 + 7 * keys + 8 * all → steps2 ≤ first + (15 * all + 1)
cost-stopped steps steps2 m keys left left2 first all now then cost fall one few h = omega (arith, cost, fall, one, few, h)
