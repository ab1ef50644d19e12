-- What stands once an amount was unbonded and is kept as an entry: the accounts, and the entries.
use Rattle.std.proofs.Common.{◌≡◌, ◌∙◌, ℕ, ◌+◌, ◌^◌, ◌<◌, ◌≤◌, Bool, true, false, cond, List, [], Some, refl, sym, ap, subst, arith, zero, suc, All, length, max, if◌then◌else◌}
use Rattle.std.proofs.{Math.Nat.{le-max_left, le-max_right}, lemmas.List.Elements.All-weaker}
use Rattle.base_types.specs.declared.account.Account.TheVariants as account
use Rattle.base_types.specs.declared.account.Module.TheVariants as holder
use Rattle.base_types.specs.declared.status.BondStatus.TheVariants.{Bonded, Unbonded}
use Rattle.base_roles.specs.declared.{entities.{UnbondingEntry.UnbondingEntry, Validator.Validator}, params.Ctx.Ctx}
use Rattle.base_roles.specs.{Holdings.{balance_of, IsBacked}, Hooks.{Tells, Stand, Keeps}, Owing.Lists}
use Rattle.base_roles.specs.Staked.{Staked, validator_at, is_bonded, bonded_tokens, other_tokens}
use Rattle.base_roles.{specs.{StakeChanges.{HoldsStake, IsUnbonded}, World.View}, proofs.HoldingLemmas.balance-most}
use Rattle.rule_modules.specs.{Delegating.pool, Owed.{balances_of, entry_balances}, Sound.UnbondingIsSound}
use Rattle.rule_modules.specs.Unbondings.{UnbondingLists, entries_of, with_entries, grown}
use Rattle.rule_modules.proofs.SoundLemmas.{to_points}
use Rattle.mod_staking.{specs.Calls.IsSoundStake, proofs.GroundLemmas.{stand-paid, paid-accounts, holds-kept}}
use Rattle.mod_unbonding.specs.Calls.{AreSoundLists, IsWhole, AreWhole, HoldsEntries, moved_out}
use Rattle.mod_unbonding.proofs.ChangeLemmas.{added, more, all-grown, balances-grown, length-grown, balance-within}
use Rattle.mod_unbonding.proofs.EntriesLemmas.{all-entries, all-at, ascend-entries, total-entries, total-within}

-- ---- the accounts

some_is : (a b : Validator) → Some a ≡ Some b → a ≡ b
some_is a b h = cc

-- what is left to be owed, once an amount left the tokens of a validator of this status
after_out : (b : Bool) (bonded other bonded2 other2 entries out : ℕ) → bonded2 + (if b then out else 0) ≡ bonded → other2 + (if b then 0 else out) ≡ other
    → (bonded ≡ bonded2 + cond b out 0) × (other + entries + cond b out 0 ≡ other2 + (entries + out))
after_out true bonded other bonded2 other2 entries out e f = (omega (arith, e), omega (arith, f))
after_out false bonded other bonded2 other2 entries out e f = (omega (arith, e), omega (arith, f))

-- an amount moved from the bonded to the not-bonded account, if so
record IsMovedOut (b : Bool) (n : ℕ) (v v2 : View) : Type 0 where
  ctx : v2.ctx ≡ v.ctx
  bonded : balance_of v2.bank (account.Module holder.Bonded) v.ctx.params.bond_denom + cond b n 0 ≡ balance_of v.bank (account.Module holder.Bonded) v.ctx.params.bond_denom
  other : balance_of v2.bank (account.Module holder.NotBonded) v.ctx.params.bond_denom ≡ balance_of v.bank (account.Module holder.NotBonded) v.ctx.params.bond_denom + cond b n 0

moved-out : (b : Bool) (n : ℕ) (delegator : List ℕ) (v v2 : View) → IsBacked v.bank → (b ≡ true → n ≤ balance_of v.bank (account.Module holder.Bonded) v.ctx.params.bond_denom) → v2 ≡ moved_out b n v → IsMovedOut b n v v2
moved-out false n delegator v v2 k h e = subst (IsMovedOut false n v) (sym e) (record { ctx = refl; bonded = omega arith; other = omega arith })
moved-out true zero delegator v v2 k h e = subst (IsMovedOut true zero v) (sym e) (record { ctx = refl; bonded = omega arith; other = omega arith })
moved-out true (suc n) delegator v v2 k h e =
    let p = paid-accounts v v2 (suc n) (omega arith) k Unbonded (pool Bonded) delegator (h refl) e in
    record { ctx = p.ctx; bonded = let a = p.bonded in omega (arith, a); other = let a = p.other in omega (arith, a) }

module _ (delegator operator : List ℕ) (part out : ℕ) (s s1 : Staked) (iu : IsUnbonded delegator operator part out s s1) (v : Validator) (f : validator_at s operator ≡ Some v) where
  same_v : iu.v ≡ v
  same_v = some_is iu.v v (sym iu.validator ∙ f)

  same_bonded : is_bonded iu.v.status ≡ is_bonded v.status
  same_bonded = ap (λ (x : Validator). is_bonded x.status) same_v

  pub out_most : IsSoundStake s → out ≤ 10 ^ 18
  out_most h =
      let at = (to_points h.0 s h.1).validators operator v f in
      let few = at.tokens in
      let within : out ≤ v.tokens = subst (λ (x : Validator). out ≤ x.tokens) same_v iu.within in
      omega (arith, few, within)

  module _ (N : Type 0) (v0 v1 : View) (k : Keeps N v0 v1) (u : UnbondingLists) (h : HoldsEntries v0 s u) where
    held : HoldsStake v1 (bonded_tokens s) (other_tokens s + entry_balances u)
    held = holds-kept N v0 v1 (bonded_tokens s) (other_tokens s + entry_balances u) k h

    owed : (bonded_tokens s ≡ bonded_tokens s1 + cond (is_bonded v.status) out 0) × (other_tokens s + entry_balances u + cond (is_bonded v.status) out 0 ≡ other_tokens s1 + (entry_balances u + out))
    owed = subst (λ b. (bonded_tokens s ≡ bonded_tokens s1 + cond b out 0) × (other_tokens s + entry_balances u + cond b out 0 ≡ other_tokens s1 + (entry_balances u + out))) same_bonded
        (after_out (is_bonded iu.v.status) (bonded_tokens s) (other_tokens s) (bonded_tokens s1) (other_tokens s1) (entry_balances u) out iu.bonded iu.other)

    enough_at : (b : Bool) → bonded_tokens s ≡ bonded_tokens s1 + cond b out 0 → b ≡ true → out ≤ balance_of v1.bank (account.Module holder.Bonded) v1.ctx.params.bond_denom
    enough_at true e p = let a = held.in_bonded in omega (arith, a, e)
    enough_at false e p = absurd cc

    pub out_enough : is_bonded v.status ≡ true → out ≤ balance_of v1.bank (account.Module holder.Bonded) v1.ctx.params.bond_denom
    out_enough = enough_at (is_bonded v.status) owed.0

    module _ (b1 : IsBacked v1.bank) (v2 : View) (m : v2 ≡ moved_out (is_bonded v.status) out v1) where
      moved : IsMovedOut (is_bonded v.status) out v1 v2
      moved = moved-out (is_bonded v.status) out delegator v1 v2 b1 out_enough m

      less : (a b c d e : ℕ) → a ≤ b → a ≡ c + d → e + d ≡ b → c ≤ e
      less a b c d e p q r = omega (arith, p, q, r)

      rises : (a b c d e : ℕ) → a ≤ b → a + d ≡ c → e ≡ b + d → c ≤ e
      rises a b c d e p q r = omega (arith, p, q, r)

      -- the accounts hold what is then owed to validators, and to the entries with this amount
      pub held-out : HoldsStake v2 (bonded_tokens s1) (other_tokens s1 + (entry_balances u + out))
      held-out = record {
        in_bonded = subst (λ (c : Ctx). bonded_tokens s1 ≤ balance_of v2.bank (account.Module holder.Bonded) c.params.bond_denom) (sym moved.ctx) (less _ _ _ _ _ held.in_bonded owed.0 moved.bonded);
        in_not_bonded = subst (λ (c : Ctx). other_tokens s1 + (entry_balances u + out) ≤ balance_of v2.bank (account.Module holder.NotBonded) c.params.bond_denom) (sym moved.ctx) (rises _ _ _ _ _ held.in_not_bonded owed.1 moved.other);
      }

-- hooks stand as before once an amount moved
pub stand-out : {S : Type 0} (t : Tells S) (hs : S) (l : Lists) (v v2 : View) (b : Bool) (n : ℕ) → IsBacked v2.bank → v2 ≡ moved_out b n v → Stand t hs v l → Stand t hs v2 l
stand-out t hs l v v2 true n k e p = stand-paid t hs l v v2 k (pool Bonded) [] Unbonded n e p
stand-out t hs l v v2 false n k e p = subst (λ x. Stand t hs x l) (sym e) p

-- ---- the entries

pub later_entry : (a b : ℕ) → a ≤ b → (e : UnbondingEntry) → UnbondingIsSound a e → UnbondingIsSound b e
later_entry a b p e h = record { initial = h.initial; balance = h.balance; created = let c = h.created in omega (arith, c, p) }

within_max : (a b : ℕ) → (a ≤ max a b) × (b ≤ max a b)
within_max a b = (le-max_left a b, le-max_right a b)

pub all_both : {A : Type 0} (P Q : A → Type 0) (xs : List A) → All P xs → All Q xs → All (λ x. P x × Q x) xs
all_both P Q xs p q = λ i d lt. (p i d lt, q i d lt)

module _ (u : UnbondingLists) (delegator operator : List ℕ) (height completes out : ℕ) (h : AreSoundLists u) (w : AreWhole height u) (most : entry_balances u + out ≤ 10 ^ 18) where
  abbrev old : List UnbondingEntry
  old = entries_of u delegator operator

  abbrev top : ℕ
  top = max h.0 height

  -- what is told of each old entry
  abbrev Known : UnbondingEntry → Type 0
  Known e = (UnbondingIsSound h.0 e × IsWhole height e) × (e.balance ≤ balances_of old)

  known : All Known old
  known = all_both (λ e. UnbondingIsSound h.0 e × IsWhole height e) (λ e. e.balance ≤ balances_of old) old
      (all_both (UnbondingIsSound h.0) (IsWhole height) old (all-at (UnbondingIsSound h.0) u h.1.entries delegator operator) (all-at (IsWhole height) u w delegator operator))
      (balance-within old)

  within : balances_of old ≤ entry_balances u
  within = total-within balances_of refl delegator operator u

  sound_new : UnbondingIsSound top (added height completes out)
  sound_new = record { initial = let a = most in omega (arith, a); balance = omega arith; created = (within_max h.0 height).1 }

  sound_more : (e : UnbondingEntry) → Known e → e.created ≡ height → UnbondingIsSound top (more height completes out e)
  sound_more e k c =
      let whole = k.0.1 c in
      let few = k.1 in
      let a = most in
      let b = within in
      let l = k.0.0.balance in
      record {
        initial = omega (arith, whole, few, a, b);
        balance = omega (arith, l);
        created = let d = k.0.0.created in let m = (within_max h.0 height).0 in omega (arith, d, m);
      }

  pub grown-sound : All (UnbondingIsSound top) (grown height completes out old)
  grown-sound = all-grown height completes out Known (UnbondingIsSound top) old known (λ e k. later_entry h.0 top (within_max h.0 height).0 e k.0.0) sound_new sound_more

  -- an entry that was made at a height has its whole amount, as before
  grown-whole : (at : ℕ) → AreWhole at u → All (IsWhole at) (grown height completes out old)
  grown-whole at k = all-grown height completes out (IsWhole at) (IsWhole at) old (all-at (IsWhole at) u k delegator operator) (λ e x. x) (λ c. refl) (λ e x c d. let same = x d in omega (arith, same))

  pub made-whole : (at : ℕ) → AreWhole at u → AreWhole at (with_entries delegator operator (grown height completes out old) u)
  made-whole at k = all-entries (λ p. All (IsWhole at) p.1) u h.1.ascend k delegator operator (grown height completes out old) (λ s. grown-whole at k)

  pub made-sound : length old < 100 → AreSoundLists (with_entries delegator operator (grown height completes out old) u)
  made-sound room = (
    top,
    record {
      ascend = ascend-entries delegator operator (grown height completes out old) u h.1.ascend;
      some = all-entries (λ p. 0 < length p.1) u h.1.ascend h.1.some delegator operator (grown height completes out old) (λ s. s);
      most = all-entries (λ p. length p.1 ≤ 100) u h.1.ascend h.1.most delegator operator (grown height completes out old) (λ s. let n = length-grown height completes out old in omega (arith, n, room));
      entries = all-entries (λ p. All (UnbondingIsSound top) p.1) u h.1.ascend
          (All-weaker (λ p. All (UnbondingIsSound h.0) p.1) (λ p. All (UnbondingIsSound top) p.1) (λ p a. All-weaker (UnbondingIsSound h.0) (UnbondingIsSound top) (later_entry h.0 top (within_max h.0 height).0) p.1 a) u h.1.entries)
          delegator operator (grown height completes out old) (λ s. grown-sound);
    },
  )

  pub made-balances : entry_balances (with_entries delegator operator (grown height completes out old) u) ≡ entry_balances u + out
  made-balances =
      let a = total-entries balances_of refl delegator operator (grown height completes out old) u h.1.ascend in
      let b = balances-grown height completes out old in
      omega (arith, a, b)

-- ---- all together

-- the entries are sound, and the accounts hold what is owed, as before
pub record IsMade (u u2 : UnbondingLists) (s1 : Staked) (v2 : View) : Type 0 where
  pub entries : AreSoundLists u2
  pub whole : (at : ℕ) → AreWhole at u → AreWhole at u2
  pub accounts : HoldsEntries v2 s1 u2

module _ (delegator operator : List ℕ) (part out : ℕ) (s s1 : Staked) (iu : IsUnbonded delegator operator part out s s1) (v : Validator) (f : validator_at s operator ≡ Some v) (N : Type 0) (v0 v1 : View) (k : Keeps N v0 v1)
    (u : UnbondingLists) (h : AreSoundLists u) (w : AreWhole v0.ctx.height u) (a : HoldsEntries v0 s u) (b1 : IsBacked v1.bank) (v2 : View) (b2 : IsBacked v2.bank) (m : v2 ≡ moved_out (is_bonded v.status) out v1)
    (room : length (entries_of u delegator operator) < 100) (completes : ℕ) where
  then_held : HoldsStake v2 (bonded_tokens s1) (other_tokens s1 + (entry_balances u + out))
  then_held = held-out delegator operator part out s s1 iu v f N v0 v1 k u a b1 v2 m

  then_most : entry_balances u + out ≤ 10 ^ 18
  then_most =
      let has = then_held.in_not_bonded in
      let few = balance-most v2.bank (account.Module holder.NotBonded) v2.ctx.params.bond_denom b2 in
      omega (arith, has, few)

  pub made : (u2 : UnbondingLists) → u2 ≡ with_entries delegator operator (grown v0.ctx.height completes out (entries_of u delegator operator)) u → IsMade u u2 s1 v2
  made u2 e = subst (λ x. IsMade u x s1 v2) (sym e) (record {
    entries = made-sound u delegator operator v0.ctx.height completes out h w then_most room;
    whole = made-whole u delegator operator v0.ctx.height completes out h w then_most;
    accounts = subst (λ n. HoldsStake v2 (bonded_tokens s1) (other_tokens s1 + n)) (sym (made-balances u delegator operator v0.ctx.height completes out h w then_most)) then_held;
  })
