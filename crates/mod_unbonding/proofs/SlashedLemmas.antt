-- What a slash of the entries of one key leaves of the entries and of the accounts.
use Rattle.std.proofs.Common.{◌≡◌, ◌∙◌, ℕ, ◌+◌, ◌-◌, ◌<◌, ◌≤◌, Bool, true, false, cond, List, [], ◌∷◌, drop, get_or, refl, sym, ap, subst, arith, ◌&&◌, All, map, length, min, filter, sum}
use Rattle.std.{specs.{BTreeMap.is_at, Cmp.eq_by_cmp_equiv, List.AllByRecursion}, proofs.lemmas.List.Sums.sum_by-cons}
use Rattle.std.proofs.lemmas.List.Elements.{All-nil, All-cons, All-head, All-tail, recursion_from_All}
use Rattle.base_types.specs.{declared.account.Account.Account, Orders.{account_cmp, denom_cmp}}
use Rattle.base_types.specs.declared.account.Account.TheVariants as account
use Rattle.base_types.specs.declared.account.Module.TheVariants as holder
use Rattle.base_roles.specs.{declared.entities.UnbondingEntry.UnbondingEntry, Ground.IsInOrder}
use Rattle.base_roles.specs.{Orders.{pair_cmp, same_addr}, Holdings.{balance_of, IsBacked}, Lent.IsBurned}
use Rattle.base_roles.specs.{StakeChanges.{of_bond, HoldsStake}, World.{View, burnt}, declared.params.Ctx.Ctx}
use Rattle.base_roles.proofs.HoldingLemmas.{account_total, denom_total}
use Rattle.base_roles.proofs.BurnLemmas.{burns_by_amounts, burns_lower_supplies}
use Rattle.rule_modules.proofs.OrderLemmas.{pair_total}
use Rattle.rule_modules.specs.EntrySlashes.{is_hit, part_of, burned_of, entry_slashed, entries_slashed}
use Rattle.rule_modules.specs.{Owed.{balances_of, entry_balances}, Sound.UnbondingIsSound}
use Rattle.rule_modules.specs.Unbondings.{UnbondingLists, entries_of, with_entries}
use Rattle.mod_entries.specs.{Lists.{list_at, with_list}, Slashed.is_from, Walked.{stepped, keys_where}}
use Rattle.mod_entries.proofs.{CountLemmas.{next_of, drop_end}, WalkedLemmas.stepped-walked}
use Rattle.mod_unbonding.specs.{Calls.AreSoundLists, Walked.{Key, slashed_in, slashed_at}}
use Rattle.mod_unbonding.proofs.{ChangeLemmas.balances-cons, CompletedLemmas.still_in_order}
use Rattle.mod_unbonding.proofs.WalkedLemmas.{slashed-walked, stepped-end}
use Rattle.mod_unbonding.proofs.EntriesLemmas.{all-entries, all-at, list-at, ascend-entries, total-entries}

module _ (infraction factor now : ℕ) where
  abbrev slashed : UnbondingEntry → UnbondingEntry
  slashed e = entry_slashed infraction factor now e

  abbrev hit : UnbondingEntry → Bool
  hit e = is_hit infraction now e.created e.completes

  -- what an entry loses
  abbrev lost : UnbondingEntry → ℕ
  lost e = min (part_of factor e.initial) e.balance

  pub burned-cons : (e : UnbondingEntry) (es : List UnbondingEntry) → burned_of infraction factor now (e ∷ es) ≡ cond (hit e) (lost e) 0 + burned_of infraction factor now es
  burned-cons e es = by (hit e)
    where
      rest : List UnbondingEntry
      rest = filter hit es

      by : (b : Bool) → sum (map lost (cond b (e ∷ rest) rest)) ≡ cond b (lost e) 0 + sum (map lost rest)
      by true = sum_by-cons (λ (n : ℕ). n) (lost e) (map lost rest)
      by false = omega arith

  one_less : (e : UnbondingEntry) → (slashed e).balance + cond (hit e) (lost e) 0 ≡ e.balance
  one_less e = by (hit e)
    where
      by : (b : Bool) → (cond b (record e { balance = e.balance - part_of factor e.initial }) e).balance + cond b (lost e) 0 ≡ e.balance
      by true = monus e.balance (part_of factor e.initial)
        where
          monus : (b p : ℕ) → (b - p) + min p b ≡ b
          monus b p = omega arith
      by false = omega arith

  -- the balances fall by what is burned
  pub slashed-balances : (es : List UnbondingEntry) → balances_of (map slashed es) + burned_of infraction factor now es ≡ balances_of es
  slashed-balances [] = refl
  slashed-balances (e ∷ es) =
      let a = balances-cons (slashed e) (map slashed es) in
      let b = burned-cons e es in
      let c = balances-cons e es in
      let d = one_less e in
      let r = slashed-balances es in
      let goal : balances_of (slashed e ∷ map slashed es) + burned_of infraction factor now (e ∷ es) ≡ balances_of (e ∷ es) = omega (arith, a, b, c, d, r) in
      goal

  still_sound : (height : ℕ) (e : UnbondingEntry) → UnbondingIsSound height e → UnbondingIsSound height (slashed e)
  still_sound height e h = by (hit e)
    where
      by : (b : Bool) → UnbondingIsSound height (cond b (record e { balance = e.balance - part_of factor e.initial }) e)
      by true = record { initial = h.initial; balance = let k = h.balance in omega (arith, k); created = h.created }
      by false = h

  all_slashed : (height : ℕ) (es : List UnbondingEntry) → All (UnbondingIsSound height) es → All (UnbondingIsSound height) (map slashed es)
  all_slashed height [] h = All-nil (UnbondingIsSound height)
  all_slashed height (e ∷ es) h =
      All-cons (UnbondingIsSound height) (slashed e) (map slashed es) (still_sound height e (All-head (UnbondingIsSound height) e es h)) (all_slashed height es (All-tail (UnbondingIsSound height) e es h))

  length_slashed : (es : List UnbondingEntry) → length (map slashed es) ≡ length es
  length_slashed [] = refl
  length_slashed (e ∷ es) = let r = length_slashed es in let goal : length (slashed e ∷ map slashed es) ≡ length (e ∷ es) = omega (arith, r) in goal

  module _ (delegator operator : List ℕ) (u : UnbondingLists) (h : AreSoundLists u) where
    abbrev old : List UnbondingEntry
    old = entries_of u delegator operator

    pub slashed-sound : AreSoundLists (with_entries delegator operator (map slashed old) u)
    slashed-sound = (
      h.0,
      record {
        ascend = ascend-entries delegator operator (map slashed old) u h.1.ascend;
        some = all-entries (λ p. 0 < length p.1) u h.1.ascend h.1.some delegator operator (map slashed old) (λ s. s);
        most = all-entries (λ p. length p.1 ≤ 100) u h.1.ascend h.1.most delegator operator (map slashed old)
            (λ s. let n = length_slashed old in let m = list-at (λ l. length l ≤ 100) u (omega arith) h.1.most delegator operator in omega (arith, n, m));
        entries = all-entries (λ p. All (UnbondingIsSound h.0) p.1) u h.1.ascend h.1.entries delegator operator (map slashed old) (λ s. all_slashed h.0 old (all-at (UnbondingIsSound h.0) u h.1.entries delegator operator));
      },
    )

    pub slashed-owed : entry_balances (with_entries delegator operator (map slashed old) u) + burned_of infraction factor now old ≡ entry_balances u
    slashed-owed =
        let a = total-entries balances_of refl delegator operator (map slashed old) u h.1.ascend in
        let b = slashed-balances old in
        omega (arith, a, b)

-- ---- one burn, and one behind another

-- an amount of the bond denomination burned, by which less is owed
pub burned-once : (v : View) (n owed owed2 : ℕ) → IsBacked v.bank → n ≤ balance_of v.bank (account.Module holder.NotBonded) v.ctx.params.bond_denom → owed2 + n ≡ owed
    → IsBurned v (burnt holder.NotBonded v.ctx.params.bond_denom n v) owed owed2
burned-once v n owed owed2 b h e = record {
  falls = omega (arith, e);
  from_not_bonded = λ d. less _ _ n owed owed2 (is_at (denom_cmp d) bond) (is_at (denom_cmp bond) d) (flipped d) e (burns_by_amounts v.bank from bond n b h from d);
  supply = λ d. less _ _ n owed owed2 (is_at (denom_cmp d) bond) (is_at (denom_cmp bond) d) (flipped d) e (burns_lower_supplies v.bank from bond n b h d);
  others = λ who d f. same _ _ n (is_at (account_cmp who) from) (is_at (denom_cmp d) bond) ((eq_by_cmp_equiv account_total).symm who from ∙ f) (burns_by_amounts v.bank from bond n b h who d);
}
  where
    from : Account
    from = account.Module holder.NotBonded

    bond : List ℕ
    bond = v.ctx.params.bond_denom

    flipped : (d : List ℕ) → is_at (denom_cmp d) bond ≡ is_at (denom_cmp bond) d
    flipped d = (eq_by_cmp_equiv denom_total).symm d bond

    less : (x x2 n owed owed2 : ℕ) (a c : Bool) → a ≡ c → owed2 + n ≡ owed → x2 + cond a n 0 ≡ x → x2 + cond c owed 0 ≡ x + cond c owed2 0
    less x x2 n owed owed2 true true q e p = omega (arith, e, p)
    less x x2 n owed owed2 false false q e p = omega (arith, p)
    less x x2 n owed owed2 true false q e p = absurd cc
    less x x2 n owed owed2 false true q e p = absurd cc

    same : (x x2 n : ℕ) (a c : Bool) → a ≡ false → x2 + cond (a && c) n 0 ≡ x → x2 ≡ x
    same x x2 n true c q p = absurd cc
    same x x2 n false c q p = omega (arith, p)

-- a burn behind another
pub burned-then : (v v2 v3 : View) (owed owed2 owed3 : ℕ) → v2.ctx ≡ v.ctx → IsBurned v v2 owed owed2 → IsBurned v2 v3 owed2 owed3 → IsBurned v v3 owed owed3
burned-then v v2 v3 owed owed2 owed3 c a b = record {
  falls = let p = a.falls in let q = b.falls in omega (arith, p, q);
  from_not_bonded = λ d. together _ _ _ _ _ _ (a.from_not_bonded d) (here d owed2 owed3 _ _ (b.from_not_bonded d));
  supply = λ d. together _ _ _ _ _ _ (a.supply d) (here d owed2 owed3 _ _ (b.supply d));
  others = λ who d f. b.others who d f ∙ a.others who d f;
}
  where
    together : (b1 b2 b3 x1 x2 x3 : ℕ) → b2 + x1 ≡ b1 + x2 → b3 + x2 ≡ b2 + x3 → b3 + x1 ≡ b1 + x3
    together b1 b2 b3 x1 x2 x3 p q = omega (arith, p, q)

    here : (d : List ℕ) (m n x y : ℕ) → x + of_bond v2 d m ≡ y + of_bond v2 d n → x + of_bond v d m ≡ y + of_bond v d n
    here d m n x y p = subst (λ (k : Ctx). x + cond (is_at (denom_cmp k.params.bond_denom) d) m 0 ≡ y + cond (is_at (denom_cmp k.params.bond_denom) d) n 0) c p

-- ---- while keys are slashed one after another

-- what stands then, since some entries and a ground
pub record IsSlashing (u : UnbondingLists) (v : View) (u2 : UnbondingLists) (v2 : View) : Type 0 where
  pub entries : AreSoundLists u2
  pub in_order : IsInOrder v2
  pub ctx : v2.ctx ≡ v.ctx
  pub burned : IsBurned v v2 (entry_balances u) (entry_balances u2)
  pub account : HoldsStake v2 0 (entry_balances u2)

pub slashing-none : (u : UnbondingLists) (v : View) → AreSoundLists u → IsInOrder v → HoldsStake v 0 (entry_balances u) → IsSlashing u v u v
slashing-none u v s o a = record {
  entries = s;
  in_order = o;
  ctx = refl;
  burned = record { falls = omega arith; from_not_bonded = λ d. refl; supply = λ d. refl; others = λ who d f. refl };
  account = a;
}

module _ (infraction factor : ℕ) (u : UnbondingLists) (v : View) (u2 : UnbondingLists) (v2 : View) (c : IsSlashing u v u2 v2) (key : Key) where
  abbrev now_es : List UnbondingEntry
  now_es = entries_of u2 key.0 key.1

  abbrev pub u3 : UnbondingLists
  u3 = with_entries key.0 key.1 (slashed_in infraction factor key now_es v2).0 u2

  abbrev v3 : View
  v3 = (slashed_in infraction factor key now_es v2).1

  abbrev lost_now : ℕ
  lost_now = burned_of infraction factor v2.ctx.time now_es

  owed_now : entry_balances u3 + lost_now ≡ entry_balances u2
  owed_now = slashed-owed infraction factor v2.ctx.time key.0 key.1 u2 c.entries

  pub can_burn : lost_now ≤ balance_of v2.bank (account.Module holder.NotBonded) v2.ctx.params.bond_denom
  can_burn = let a = c.account.in_not_bonded in let b = owed_now in omega (arith, a, b)

  burned_now : IsBurned v2 v3 (entry_balances u2) (entry_balances u3)
  burned_now = burned-once v2 lost_now (entry_balances u2) (entry_balances u3) c.in_order.bank can_burn owed_now

  left_over : (has had owed owed2 : ℕ) (b : Bool) → b ≡ true → has + cond b owed 0 ≡ had + cond b owed2 0 → owed ≤ had → owed2 ≤ has
  left_over has had owed owed2 true e p q = omega (arith, p, q)
  left_over has had owed owed2 false e p q = absurd cc

  pub slashing-one : IsBacked v3.bank → IsSlashing u v u3 v3
  slashing-one backed = record {
    entries = slashed-sound infraction factor v2.ctx.time key.0 key.1 u2 c.entries;
    in_order = still_in_order v2 v3 refl backed c.in_order;
    ctx = c.ctx;
    burned = burned-then v v2 v3 (entry_balances u) (entry_balances u2) (entry_balances u3) c.ctx c.burned burned_now;
    account = record {
      in_bonded = omega arith;
      in_not_bonded = left_over _ _ (entry_balances u2) (entry_balances u3) _ ((eq_by_cmp_equiv denom_total).refl v2.ctx.params.bond_denom) (burned_now.from_not_bonded v2.ctx.params.bond_denom) c.account.in_not_bonded;
    };
  }

-- ---- slashing the keys of an operator is the rule's slash

module _ (operator : List ℕ) (infraction factor : ℕ) where
  -- a key is of this operator
  abbrev is_own : Key → List UnbondingEntry → Bool
  is_own key es = is_from (λ (k : Key). k.1) operator key es

  all_of : (u : UnbondingLists) → AllByRecursion (λ (k : Key). same_addr k.1 operator ≡ true) (keys_where is_own u)
  all_of [] = tt
  all_of (p ∷ u) = by (same_addr p.0.1 operator) refl (all_of u)
    where
      by : (b : Bool) → same_addr p.0.1 operator ≡ b → AllByRecursion (λ (k : Key). same_addr k.1 operator ≡ true) (keys_where is_own u)
          → AllByRecursion (λ (k : Key). same_addr k.1 operator ≡ true) (map (λ (x : Key × List UnbondingEntry). x.0) (cond b (p ∷ filter (λ x. is_own x.0 x.1) u) (filter (λ x. is_own x.0 x.1) u)))
      by true e later = (e, later)
      by false e later = later

  one_of : (k : Key) (es : List UnbondingEntry) (v : View) (b : Bool) → same_addr k.1 operator ≡ b → slashed_at operator infraction factor k es v ≡ cond b (slashed_in infraction factor k es v) (es, v)
  one_of k es v b e = ap (λ c. cond c (slashed_in infraction factor k es v) (es, v)) e

  stepped-of : (ks : List Key) → AllByRecursion (λ (k : Key). same_addr k.1 operator ≡ true) ks → (u : UnbondingLists) (v : View) → stepped pair_cmp (slashed_in infraction factor) ks u v ≡ stepped pair_cmp (slashed_at operator infraction factor) ks u v
  stepped-of [] h u v = refl
  stepped-of (k ∷ ks) h u v =
      let es = list_at pair_cmp u k in
      let one = slashed_in infraction factor k es v in
      stepped-of ks h.1 (with_list pair_cmp k one.0 u) one.1
      ∙ ap (λ (r : List UnbondingEntry × View). stepped pair_cmp (slashed_at operator infraction factor) ks (with_list pair_cmp k r.0 u) r.1) (sym (one_of k es v true h.0))

  same_ctx : (k : Key) (es : List UnbondingEntry) (v : View) → (slashed_at operator infraction factor k es v).1.ctx ≡ v.ctx
  same_ctx k es v = by (same_addr k.1 operator)
    where
      by : (b : Bool) → (cond {A = List UnbondingEntry × View} b (slashed_in infraction factor k es v) (es, v)).1.ctx ≡ v.ctx
      by true = refl
      by false = refl

  pub stepped-slashed : (u : UnbondingLists) (v : View) → AreSoundLists u → stepped pair_cmp (slashed_in infraction factor) (keys_where is_own u) u v ≡ entries_slashed operator infraction factor u v
  stepped-slashed u v h =
      let some = recursion_from_All (λ p. 0 < length p.1) u h.1.some in
      stepped-of (keys_where is_own u) (all_of u) u v
      ∙ stepped-walked pair_cmp pair_total (slashed_at operator infraction factor) (λ (x : View). x.ctx ≡ v.ctx) (λ k es v2 c. same_ctx k es v2 ∙ c) is_own (λ k es v2 c e. one_of k es v2 false e) u v refl h.1.ascend some
      ∙ sym (slashed-walked operator infraction factor u v some)

  -- all keys of the operator were slashed
  pub slashed-all : (ks : List Key) (i : ℕ) (u : UnbondingLists) (v : View) (u2 : UnbondingLists) (v2 : View) → stepped pair_cmp (slashed_in infraction factor) (drop i ks) u2 v2 ≡ stepped pair_cmp (slashed_in infraction factor) ks u v → length ks ≤ i
      → ks ≡ keys_where is_own u → AreSoundLists u → (u2, v2) ≡ entries_slashed operator infraction factor u v
  slashed-all ks i u v u2 v2 told all is h =
      sym (stepped-end (slashed_in infraction factor) (drop i ks) u2 v2 (drop_end ks i all)) ∙ told ∙ ap (λ l. stepped pair_cmp (slashed_in infraction factor) l u v) is ∙ stepped-slashed u v h

-- ---- walking entries

pub burned-step : (infraction factor now : ℕ) (es : List UnbondingEntry) (i : ℕ) (e : UnbondingEntry) → i < length es → e ≡ get_or es i e → (sum next : ℕ)
    → next ≡ sum + cond (is_hit infraction now e.created e.completes) (min (part_of factor e.initial) e.balance) 0
    → sum + burned_of infraction factor now (drop i es) ≡ burned_of infraction factor now es → next + burned_of infraction factor now (drop (i + 1) es) ≡ burned_of infraction factor now es
burned-step infraction factor now es i e less is sum next n told =
    let c = ap (burned_of infraction factor now) (next_of es i e less is) ∙ burned-cons infraction factor now e (drop (i + 1) es) in
    omega (arith, n, told, c)
