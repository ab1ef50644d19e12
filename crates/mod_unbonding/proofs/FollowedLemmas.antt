-- Entries that follow a redelegation: what they lose, and what then stands.
use Rattle.std.proofs.Common.{◌≡◌, ◌∙◌, ℕ, ◌+◌, ◌≤◌, ◌<◌, Bool, true, false, cond, List, [], ◌∷◌, length, drop, refl, sym, ap, subst, arith, ◌-◌, min, All, get_or}
use Rattle.std.proofs.lemmas.List.Elements.{All-nil, All-cons, All-head, All-tail}
use Rattle.base_types.specs.declared.account.Account.TheVariants as account
use Rattle.base_types.specs.declared.account.Module.TheVariants as holder
use Rattle.base_roles.specs.{declared.entities.UnbondingEntry.UnbondingEntry, Ground.IsInOrder, Holdings.balance_of}
use Rattle.base_roles.specs.{Lent.IsBurned, StakeChanges.HoldsStake, World.{View, burnt}}
use Rattle.rule_modules.specs.{EntrySlashes.{is_hit, entries_followed}, Owed.{balances_of, entry_balances}}
use Rattle.rule_modules.specs.{Sound.UnbondingIsSound, Unbondings.{UnbondingLists, entries_of, with_entries}}
use Rattle.mod_entries.proofs.CountLemmas.{next_of, drop_end}
use Rattle.mod_unbonding.{specs.Calls.AreSoundLists, proofs.ChangeLemmas.balances-cons}
use Rattle.mod_unbonding.proofs.EntriesLemmas.{all-entries, all-at, list-at, ascend-entries, total-entries}
use Rattle.mod_unbonding.proofs.SlashedLemmas.{burned-once}

module _ (from now : ℕ) where
  -- what an entry loses of so much
  abbrev pub lost_of : ℕ → UnbondingEntry → ℕ
  lost_of left e = cond (is_hit from now e.created e.completes) (min left e.balance) 0

  within : (b : Bool) (left balance : ℕ) → (cond b (min left balance) 0 ≤ left) × (cond b (min left balance) 0 ≤ balance)
  within true left balance = (omega arith, omega arith)
  within false left balance = (omega arith, omega arith)

  pub lost-within : (left : ℕ) (e : UnbondingEntry) → (lost_of left e ≤ left) × (lost_of left e ≤ e.balance)
  lost-within left e = within (is_hit from now e.created e.completes) left e.balance

  -- the entry then
  abbrev pub less : ℕ → UnbondingEntry → UnbondingEntry
  less left e = record e { balance = e.balance - lost_of left e }

  one_more : (left lost rest : ℕ) → lost ≤ left → rest ≤ left - lost → lost + rest ≤ left
  one_more left lost rest p q = omega (arith, p, q)

  -- they lose no more than that
  pub followed-most : (es : List UnbondingEntry) (left : ℕ) → (entries_followed from now left es).0 ≤ left
  followed-most [] left = omega arith
  followed-most (e ∷ es) left = one_more left (lost_of left e) _ (lost-within left e).0 (followed-most es (left - lost_of left e))

  falls_by : (had lost rest sum all : ℕ) → lost ≤ had → rest + sum ≡ all → ((had - lost) + rest) + (lost + sum) ≡ had + all
  falls_by had lost rest sum all p q = omega (arith, p, q)

  -- the balances fall by what is lost
  pub followed-balances : (es : List UnbondingEntry) (left : ℕ) → balances_of (entries_followed from now left es).1 + (entries_followed from now left es).0 ≡ balances_of es
  followed-balances [] left = refl
  followed-balances (e ∷ es) left =
      let lost = lost_of left e in
      let rest = entries_followed from now (left - lost) es in
      let p : balances_of (less left e ∷ rest.1) ≡ (e.balance - lost) + balances_of rest.1 = balances-cons (less left e) rest.1 in
      ap (λ n. n + (lost + rest.0)) p ∙ falls_by e.balance lost (balances_of rest.1) rest.0 (balances_of es) (lost-within left e).1 (followed-balances es (left - lost)) ∙ sym (balances-cons e es)

  pub followed-length : (es : List UnbondingEntry) (left : ℕ) → length (entries_followed from now left es).1 ≡ length es
  followed-length [] left = refl
  followed-length (e ∷ es) left =
      let rest = (entries_followed from now (left - lost_of left e) es).1 in
      let r : length rest ≡ length es = followed-length es (left - lost_of left e) in
      let goal : length (less left e ∷ rest) ≡ length (e ∷ es) = omega (arith, r) in
      goal

  followed-entries : (height : ℕ) (es : List UnbondingEntry) (left : ℕ) → All (UnbondingIsSound height) es → All (UnbondingIsSound height) (entries_followed from now left es).1
  followed-entries height [] left h = All-nil (UnbondingIsSound height)
  followed-entries height (e ∷ es) left h =
      let one = All-head (UnbondingIsSound height) e es h in
      let least = one.balance in
      All-cons (UnbondingIsSound height) (less left e) (entries_followed from now (left - lost_of left e) es).1
      (record { initial = one.initial; balance = fewer e.balance (lost_of left e) e.initial least; created = one.created })
      (followed-entries height es (left - lost_of left e) (All-tail (UnbondingIsSound height) e es h))
    where
      fewer : (a b c : ℕ) → a ≤ c → a - b ≤ c
      fewer a b c p = omega (arith, p)

  -- ---- walking entries

  one_less : (tokens left lost rest all : ℕ) → lost ≤ left → left ≤ tokens → (lost + rest) + (tokens - left) ≡ all → rest + (tokens - (left - lost)) ≡ all
  one_less tokens left lost rest all p q r = omega (arith, p, q, r)

  pub sum-step : (es : List UnbondingEntry) (i : ℕ) (e : UnbondingEntry) → i < length es → e ≡ get_or es i e → (tokens left all lost next : ℕ) → lost ≡ lost_of left e → next ≡ left - lost → left ≤ tokens
      → (entries_followed from now left (drop i es)).0 + (tokens - left) ≡ all → ((entries_followed from now next (drop (i + 1) es)).0 + (tokens - next) ≡ all) × (next ≤ tokens)
  sum-step es i e lt is tokens left all lost next p q w h =
      let later = drop (i + 1) es in
      let next_is : next ≡ left - lost_of left e = q ∙ ap (λ x. left - x) p in
      let here = ap (λ l. (entries_followed from now left l).0 + (tokens - left)) (sym (next_of es i e lt is)) ∙ h in
      let there = one_less tokens left (lost_of left e) (entries_followed from now (left - lost_of left e) later).0 all (lost-within left e).0 w here in
      (subst (λ n. (entries_followed from now n later).0 + (tokens - n) ≡ all) (sym next_is) there, subst (λ n. n ≤ tokens) (sym next_is) (no_more left (lost_of left e) tokens w))
    where
      no_more : (a b c : ℕ) → a ≤ c → a - b ≤ c
      no_more a b c p = omega (arith, p)

  pub sum-end : (es : List UnbondingEntry) (i : ℕ) → length es ≤ i → (tokens left all : ℕ) → (entries_followed from now left (drop i es)).0 + (tokens - left) ≡ all → tokens - left ≡ all
  sum-end es i m tokens left all h = nothing_more (tokens - left) all (ap (λ l. (entries_followed from now left l).0 + (tokens - left)) (sym (drop_end es i m)) ∙ h)
    where
      nothing_more : (a b : ℕ) → 0 + a ≡ b → a ≡ b
      nothing_more a b p = omega (arith, p)

  pub list-step : (es : List UnbondingEntry) (i : ℕ) (e : UnbondingEntry) → i < length es → e ≡ get_or es i e → (left lost next : ℕ) → lost ≡ lost_of left e → next ≡ left - lost
      → (entries_followed from now left (drop i es)).1 ≡ record e { balance = e.balance - lost } ∷ (entries_followed from now next (drop (i + 1) es)).1
  list-step es i e lt is left lost next p q =
      let later = drop (i + 1) es in
      let next_is : next ≡ left - lost_of left e = q ∙ ap (λ x. left - x) p in
      ap (λ l. (entries_followed from now left l).1) (next_of es i e lt is)
      ∙ (λ j. record e { balance = e.balance - sym p j } ∷ (entries_followed from now (sym next_is j) later).1)

-- ---- the entries of a key

module _ (delegator operator : List ℕ) (from now tokens : ℕ) (u : UnbondingLists) (h : AreSoundLists u) where
  abbrev old : List UnbondingEntry
  old = entries_of u delegator operator

  abbrev new : ℕ × List UnbondingEntry
  new = entries_followed from now tokens old

  pub followed-sound : AreSoundLists (with_entries delegator operator new.1 u)
  followed-sound = (
    h.0,
    record {
      ascend = ascend-entries delegator operator new.1 u h.1.ascend;
      some = all-entries (λ p. 0 < length p.1) u h.1.ascend h.1.some delegator operator new.1 (λ s. s);
      most = all-entries (λ p. length p.1 ≤ 100) u h.1.ascend h.1.most delegator operator new.1
          (λ s. subst (λ n. n ≤ 100) (sym (followed-length from now old tokens)) (list-at (λ l. length l ≤ 100) u (omega arith) h.1.most delegator operator));
      entries = all-entries (λ p. All (UnbondingIsSound h.0) p.1) u h.1.ascend h.1.entries delegator operator new.1 (λ s. followed-entries from now h.0 old tokens (all-at (UnbondingIsSound h.0) u h.1.entries delegator operator));
    },
  )

  pub followed-owed : entry_balances (with_entries delegator operator new.1 u) + new.0 ≡ entry_balances u
  followed-owed =
      less_by _ (balances_of old) (entry_balances u) (balances_of new.1) new.0 (total-entries balances_of refl delegator operator new.1 u h.1.ascend) (followed-balances from now old tokens)
    where
      less_by : (then_owed had owed has lost : ℕ) → then_owed + had ≡ owed + has → has + lost ≡ had → then_owed + lost ≡ owed
      less_by then_owed had owed has lost p q = omega (arith, p, q)

  module _ (v : View) (o : IsInOrder v) (a : HoldsStake v 0 (entry_balances u)) where
    -- the account has what burns
    pub can_burn : new.0 ≤ balance_of v.bank (account.Module holder.NotBonded) v.ctx.params.bond_denom
    can_burn = enough (entry_balances (with_entries delegator operator new.1 u)) new.0 (entry_balances u) _ followed-owed a.in_not_bonded
      where
        enough : (a b c d : ℕ) → a + b ≡ c → c ≤ d → b ≤ d
        enough a b c d p q = omega (arith, p, q)

    pub burned-followed : IsBurned v (burnt holder.NotBonded v.ctx.params.bond_denom new.0 v) (entry_balances u) (entry_balances (with_entries delegator operator new.1 u))
    burned-followed = burned-once v new.0 (entry_balances u) (entry_balances (with_entries delegator operator new.1 u)) o.bank can_burn followed-owed
