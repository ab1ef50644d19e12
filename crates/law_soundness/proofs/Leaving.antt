-- Undelegating, and cancelling it, keep a state sound.
use Rattle.std.proofs.Common.{◌≡◌, ◌∙◌, ℕ, ◌+◌, ◌^◌, ◌≤◌, ◌==◌, Bool, true, false, cond, List, [], ◌∷◌, length, Some, None, Option, refl, sym, ap, subst, arith, if◌then◌else◌, IfOk, find, nat_lt, nat_le, unwrap_or, All, Contains}
use Rattle.std.{specs.{BTreeMap.is_at, List.AllByRecursion}, proofs.lemmas.Bool.Decides.nat_tests}
use Rattle.std.proofs.lemmas.List.Elements.{recursion_from_All}
use Rattle.base_types.specs.declared.account.Account.TheVariants as account
use Rattle.base_types.specs.declared.account.Module.TheVariants as holder
use Rattle.base_types.specs.declared.status.BondStatus.TheVariants.{Unbonded}
use Rattle.base_coins.specs.{declared.coin.Coin.Coin, Coins.coin_then}
use Rattle.base_roles.specs.declared.{entities.{UnbondingEntry.UnbondingEntry, Validator.Validator}, params.Ctx.Ctx}
use Rattle.base_roles.specs.declared.refusal.Refusal.TheVariants.{WrongDenom, NonPositive, NoValidator, NoDelegation, NoTokens, TooManyShares, RateInvalid, UnbondingsFull, Jailed, NoEntry, CancelTooMuch, Overflow}
use Rattle.base_roles.specs.{World.{View, World, sent, over_view}, Entries.at, Orders.pair_cmp}
use Rattle.base_roles.specs.Staked.{Staked, is_bonded, lists_of, delegation, validator_at}
use Rattle.rule_modules.specs.{Delegating.{pool, delegated, is_wrong}, Amounts.bond_coins}
use Rattle.rule_modules.specs.Chain.{Hooks, State, chain_told, staked_in, with_staked}
use Rattle.rule_modules.specs.{Effects.{cancel_unbonding, undelegate}, StepLaws.AreWhole}
use Rattle.rule_modules.specs.Owed.{balances_of, entry_balances}
use Rattle.rule_modules.specs.Sound.{RedelegationsAreSound, UnbondingIsSound, UnbondingsAreSound}
use Rattle.rule_modules.specs.Unbonding.{shares_to_unbond, unbonded_shares}
use Rattle.rule_modules.specs.Unbondings.{UnbondingLists, can_be_cancelled, cancelled, completion, entries_of, grown, lowered, undelegated, with_entries}
use Rattle.rule_modules.proofs.GoingLemmas.{on_found, on_lifted, on_stop}
use Rattle.law_soundness.proofs.{Burns.total_in, Delegating.{all_other, delegated_fits, to_not_bonded}}
use Rattle.law_soundness.proofs.Entries.{EntriesLeft, PairFits, PairsFit, entries_gone, entries_put, from_pairs, grown_balances, grown_length, grown_sound, lowered_balances, lowered_sound, lowered_whole, own_entries, own_within, to_pairs, whole_entries, Entries}
use Rattle.law_soundness.proofs.{Lists.{looked_up, weaker}, Moves.keeps}
use Rattle.law_soundness.proofs.Points.{StakeFits, StateFits, from_fits, to_fits, AreAllWhole, StateLeft, WholeEntries}
use Rattle.law_soundness.proofs.{Standing.own_place, Steps.{and_also, on_lifted_then, on_then, weaker_if}}
use Rattle.law_soundness.proofs.Unbonding.{HasUnbonded, unbonded_fits}
use Rattle.law_soundness.specs.StepLaws.{CancellingKeepsSoundness, IsSoundAfter, UndelegatingKeepsSoundness}
use Rattle.base_shares.specs.Shares.{amount_out, has_invalid_rate, shares_for_amount}

-- the shares that are unbonded are among those that a delegation holds
pub unbonding_within : (held : Option ℕ) (v : Validator) (amount : ℕ) → IfOk (shares_to_unbond held v amount) (λ x. (held ≡ Some x.0) × (x.1 ≤ x.0))
unbonding_within held v amount =
    on_found held NoDelegation _ _ (λ all f. on_stop (v.tokens == 0) NoTokens _ _ (λ a. on_lifted (λ fault. TooManyShares) (shares_for_amount v.tokens v.shares amount) _ _ (λ part e.
    on_stop (nat_lt all part) TooManyShares _ _ (λ l. and_also f (at_most all part l)))))
  where
    at_most : (a n : ℕ) → nat_lt a n ≡ false → n ≤ a
    at_most a n e = grind (arith, nat_tests)

-- the first entry that can be cancelled is lowered
lowered_left : (height now amount last : ℕ) (u : UnbondingLists) (who op : List ℕ) (e : UnbondingEntry) → PairsFit last u → find (can_be_cancelled height now) (entries_of u who op) ≡ Some e
    → EntriesLeft last who op (lowered height now amount (entries_of u who op)) u
lowered_left height now amount last u who op e h found = by (at pair_cmp u (who, op)) refl found
  where
    by : (r : Option Entries) → at pair_cmp u (who, op) ≡ r → find (can_be_cancelled height now) (unwrap_or r []) ≡ Some e → EntriesLeft last who op (lowered height now amount (unwrap_or r [])) u
    by None f g = absurd cc
    by (Some es) f g = chosen (lowered height now amount es) (lowered_sound height now amount last es own.entries) (λ w. lowered_whole height now amount last es (whole w))
      where
        own : PairFits last es
        own = looked_up (λ (p : (List ℕ × List ℕ) × Entries). PairFits last p.1) (is_at (pair_cmp (who, op))) (PairFits last) (λ k x t j. j) u es f h.pairs

        whole : AllByRecursion (λ p. WholeEntries last p.1) u → WholeEntries last es
        whole w = looked_up (λ (p : (List ℕ × List ℕ) × Entries). WholeEntries last p.1) (is_at (pair_cmp (who, op))) (WholeEntries last) (λ k x t j. j) u es f w

        within : (a b : ℕ) → a ≤ b → b ≤ 100 → a ≤ 100
        within a b l m = omega (arith, l, m)

        chosen : (ls : Entries) → (length ls ≤ length es) × AllByRecursion (UnbondingIsSound last) ls → (AllByRecursion (λ p. WholeEntries last p.1) u → WholeEntries last ls) → EntriesLeft last who op ls u
        chosen [] k j = entries_gone last who op es u h f
        chosen (x ∷ xs) k j = entries_put last who op (x ∷ xs) u h (record { some = omega arith; most = within (length (x ∷ xs)) (length es) k.0 own.most; entries = k.1 }) j

module _ (P : List ℕ → Type 0) (T : List ℕ → ℕ) where
  -- validators, delegations and unbonding entries after a message, at the height of before
  pub record PairsLeft (w : World Staked Hooks) (old u : UnbondingLists) (x : World Staked Hooks) : Type 0 where
    pub fits : StakeFits P T 0 (entry_balances u) (lists_of x.mine) x
    pub ctx : x.view.ctx ≡ w.view.ctx
    pub pairs : PairsFit w.view.ctx.height u
    pub whole : AllByRecursion (λ p. WholeEntries w.view.ctx.height p.1) old → AllByRecursion (λ p. WholeEntries w.view.ctx.height p.1) u

  -- they are put back into the state
  pub state_pairs : (w : State) (u : UnbondingLists) (x : World Staked Hooks) → StateFits P T w → PairsLeft (staked_in w) w.mine.unbondings u x → StateLeft P T w (with_staked (record w.mine { unbondings = u }) x)
  state_pairs w u x h k = record {
    fits = record {
      stake = k.fits;
      unbondings = subst (λ (c : Ctx). UnbondingsAreSound c.height u) (sym k.ctx) (from_pairs w.view.ctx.height u k.pairs);
      redelegations = subst (λ (c : Ctx). RedelegationsAreSound c.height w.mine.redelegations) (sym k.ctx) h.redelegations;
    };
    whole = λ j. subst (λ (c : Ctx). AllByRecursion (λ p. WholeEntries c.height p.1) u) (sym k.ctx) (k.whole j);
    ctx = k.ctx;
  }

  -- ---- undelegating

  -- what went out is in the not-bonded account, besides what is owed there
  moved_out : (s : Bool) (n m : ℕ) (v : View) (x : World Staked Hooks) → StakeFits P T (0 + cond s m 0) (n + cond s 0 m) (lists_of x.mine) x → x.view.ctx ≡ v.ctx
      → StakeFits P T 0 (n + m) (lists_of (if s then over_view (sent (account.Module holder.Bonded) (account.Module holder.NotBonded) (bond_coins v m)) x else x).mine)
      (if s then over_view (sent (account.Module holder.Bonded) (account.Module holder.NotBonded) (bond_coins v m)) x else x)
      × ((if s then over_view (sent (account.Module holder.Bonded) (account.Module holder.NotBonded) (bond_coins v m)) x else x).view.ctx ≡ v.ctx)
  moved_out true n m v x h c =
      let coins : bond_coins x.view m ≡ bond_coins v m = ap (λ (k : Ctx). coin_then k.params.bond_denom m []) c in
      let moved : StakeFits P T 0 (n + 0 + m) (lists_of x.mine) (over_view (sent (account.Module holder.Bonded) (account.Module holder.NotBonded) (bond_coins x.view m)) x) = to_not_bonded P T 0 (n + 0) (lists_of x.mine) x m h in (
        subst (λ k. StakeFits P T 0 (n + m) (lists_of x.mine) (over_view (sent (account.Module holder.Bonded) (account.Module holder.NotBonded) k) x)) coins
            (subst (λ k. StakeFits P T 0 k (lists_of x.mine) (over_view (sent (account.Module holder.Bonded) (account.Module holder.NotBonded) (bond_coins x.view m)) x)) (same n m) moved),
        c,
      )
    where
      same : (n m : ℕ) → n + 0 + m ≡ n + m
      same n m = omega arith
  moved_out false n m v x h c = (h, c)

  undelegated_fits : (who operator : List ℕ) (coin : Coin) (u : UnbondingLists) (w : World Staked Hooks) → StakeFits P T 0 (entry_balances u) (lists_of w.mine) w → PairsFit w.view.ctx.height u → AllByRecursion (λ p. WholeEntries w.view.ctx.height p.1) u
      → IfOk (undelegated chain_told who operator coin u w) (λ x. PairsLeft w u x.1 x.2)
  undelegated_fits who operator coin u w h pairs whole =
      on_stop (coin.amount == 0) NonPositive _ _ (λ a. on_found (validator_at w.mine operator) NoValidator _ _ (λ v found.
      on_then (shares_to_unbond (delegation w.mine who operator) v coin.amount) _ (λ x. (delegation w.mine who operator ≡ Some x.0) × (x.1 ≤ x.0)) _ (unbonding_within (delegation w.mine who operator) v coin.amount) (λ x within.
      on_stop (is_wrong coin w.view) WrongDenom _ _ (λ b.
      let es = entries_of u who operator in
      on_stop (nat_le w.view.ctx.params.max_entries (length es)) UnbondingsFull _ _ (λ full.
      let height = w.view.ctx.height in
      let n = entry_balances u in
      let same : v.operator ≡ operator = h.staked.operators operator v found in
      on_lifted_then Overflow (unbonded_shares chain_told v who x.0 x.1 w) _ (HasUnbonded P T 0 n w v (amount_out v.tokens v.shares x.1)) _
      (unbonded_fits P T 0 n w v who x.0 x.1 h (own_place P T height w.mine operator v h.staked found) (ap (delegation w.mine who) same ∙ within.0) within.1) (λ y k.
      let out : ℕ = y.0 in
      let fits = subst (λ m. StakeFits P T (0 + cond (is_bonded v.status) m 0) (n + cond (is_bonded v.status) 0 m) (lists_of y.1.mine) y.1) (sym k.amount) k.fits in
      let z : World Staked Hooks = if is_bonded v.status then over_view (sent (account.Module holder.Bonded) (account.Module holder.NotBonded) (bond_coins w.view out)) y.1 else y.1 in
      let moved = moved_out (is_bonded v.status) n out w.view y.1 fits k.ctx in
      let ls = grown height (completion w.view.ctx) out es in
      let lengths = grown_length height (completion w.view.ctx) out es in
      let sound = grown_sound height (completion w.view.ctx) out es (own_entries height u who operator pairs) (whole_entries height u who operator whole)
      (fewer (balances_of es) n out _ (own_within u who operator) (all_other P T 0 (n + out) _ _ moved.0)) in
      let left : EntriesLeft height who operator ls u = entries_put height who operator ls u pairs
      (record { some = lengths.0; most = not_full (length ls) (length es) w.view.ctx.params.max_entries lengths.1 full h.ground.order.params.max_entries_most; entries = sound.0 }) (λ j. sound.1) in
      record {
        fits = subst (λ m. StakeFits P T 0 m (lists_of z.mine) z) (more n out (balances_of es) (balances_of ls) (entry_balances (with_entries who operator ls u)) left.balances (grown_balances height (completion w.view.ctx) out es)) moved.0;
        ctx = moved.1;
        pairs = left.fits;
        whole = left.whole;
      }))))))
    where
      fewer : (a n o t : ℕ) → a ≤ n → t + (n + o) ≤ 10 ^ 18 → a + o ≤ 10 ^ 18
      fewer a n o t l m = omega (arith, l, m)

      not_full : (k m most : ℕ) → k ≤ m + 1 → nat_le most m ≡ false → most ≤ 100 → k ≤ 100
      not_full k m most l e p = grind (arith, nat_tests)

      more : (n o b c e : ℕ) → e + b ≡ n + c → c ≡ b + o → n + o ≡ e
      more n o b c e f g = omega (arith, f, g)

  pub undelegate_fits : (who operator : List ℕ) (coin : Coin) (w : State) → StateFits P T w → AreAllWhole w → IfOk (undelegate who operator coin w) (StateLeft P T w)
  undelegate_fits who operator coin w h whole =
      on_then (undelegated chain_told who operator coin w.mine.unbondings (staked_in w)) _ (λ x. PairsLeft (staked_in w) w.mine.unbondings x.1 x.2) _
      (undelegated_fits who operator coin w.mine.unbondings (staked_in w) h.stake (to_pairs w.view.ctx.height w.mine.unbondings h.unbondings) whole)
      (λ x k. state_pairs w x.1 x.2 h k)

  -- ---- cancelling

  cancelled_fits : (who operator : List ℕ) (coin : Coin) (height : ℕ) (u : UnbondingLists) (w : World Staked Hooks) → StakeFits P T 0 (entry_balances u) (lists_of w.mine) w → PairsFit w.view.ctx.height u
      → IfOk (cancelled chain_told who operator coin height u w) (λ x. PairsLeft w u x.1 x.2)
  cancelled_fits who operator coin height u w h pairs =
      on_stop (coin.amount == 0) NonPositive _ _ (λ a. on_stop (is_wrong coin w.view) WrongDenom _ _ (λ b. on_found (validator_at w.mine operator) NoValidator _ _ (λ v found.
      on_stop (has_invalid_rate v.tokens v.shares) RateInvalid _ _ (λ c. on_stop v.jailed Jailed _ _ (λ d.
      let es = entries_of u who operator in
      let now = w.view.ctx.time in
      on_found (find (can_be_cancelled height now) es) NoEntry _ _ (λ e there. on_stop (nat_lt e.balance coin.amount) CancelTooMuch _ _ (λ f.
      let ls = lowered height now coin.amount es in
      let left : EntriesLeft w.view.ctx.height who operator ls u = lowered_left height now coin.amount w.view.ctx.height u who operator e pairs there in
      let less : balances_of ls + coin.amount ≡ balances_of es = lowered_balances height now coin.amount es e there (at_most e.balance coin.amount f) in
      let n = entry_balances (with_entries who operator ls u) in
      let before : entry_balances u ≡ n + coin.amount = more (entry_balances u) n (balances_of es) (balances_of ls) coin.amount left.balances less in
      on_then (delegated chain_told v who coin.amount (pool Unbonded) w) _ (λ x. StakeFits P T 0 n (lists_of x.1.mine) x.1 × (x.1.view.ctx ≡ w.view.ctx)) _
      (delegated_fits P T v who coin.amount (pool Unbonded) 0 n w (subst (λ m. StakeFits P T 0 m (lists_of w.mine) w) before h) (own_place P T w.view.ctx.height w.mine operator v h.staked found))
      (λ x k. record { fits = k.0; ctx = k.1; pairs = left.fits; whole = left.whole }))))))))
    where
      at_most : (a n : ℕ) → nat_lt a n ≡ false → n ≤ a
      at_most a n e = grind (arith, nat_tests)

      more : (u n b c a : ℕ) → n + b ≡ u + c → c + a ≡ b → u ≡ n + a
      more u n b c a f g = omega (arith, f, g)

  pub cancel_fits : (who operator : List ℕ) (coin : Coin) (height : ℕ) (w : State) → StateFits P T w → IfOk (cancel_unbonding who operator coin height w) (StateLeft P T w)
  cancel_fits who operator coin height w h =
      on_then (cancelled chain_told who operator coin height w.mine.unbondings (staked_in w)) _ (λ x. PairsLeft (staked_in w) w.mine.unbondings x.1 x.2) _
      (cancelled_fits who operator coin height w.mine.unbondings (staked_in w) h.stake (to_pairs w.view.ctx.height w.mine.unbondings h.unbondings))
      (λ x k. state_pairs w x.1 x.2 h k)

pub to_whole : (w : State) → AreWhole w → AreAllWhole w
to_whole w h =
    weaker (λ p. All (λ e. e.created ≡ w.view.ctx.height → e.balance ≡ e.initial) p.1) (λ p. WholeEntries w.view.ctx.height p.1) (λ p k. recursion_from_All (λ e. e.created ≡ w.view.ctx.height → e.balance ≡ e.initial) p.1 k) w.mine.unbondings
    (recursion_from_All (λ p. All (λ e. e.created ≡ w.view.ctx.height → e.balance ≡ e.initial) p.1) w.mine.unbondings h)

pub undelegating_keeps_soundness : UndelegatingKeepsSoundness
undelegating_keeps_soundness who operator coin w s whole =
    let P : List ℕ → Type 0 = Contains s.few.some in
    let T : List ℕ → ℕ = total_in w.view in
    weaker_if (undelegate who operator coin w) (StateLeft P T w) (IsSoundAfter w) (undelegate_fits P T who operator coin w (to_fits w s) (to_whole w whole)) (λ x k. from_fits x s.few.some T s.few.few k.fits)

pub cancelling_keeps_soundness : CancellingKeepsSoundness
cancelling_keeps_soundness who operator coin height =
    keeps (cancel_unbonding who operator coin height) (λ P T w h. cancel_fits P T who operator coin height w h)
