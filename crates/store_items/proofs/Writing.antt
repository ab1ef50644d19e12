-- Each item of a sound state can be written.
use Rattle.std.proofs.Common.{◌≡◌, ◌∙◌, ℕ, ◌+◌, suc, ◌-◌, ◌%◌, ◌^◌, ◌<◌, ◌≤◌, ◌==◌, Bool, true, false, cond, List, [], ◌∷◌, ◌++◌, length, map, take, drop, reverse, min, nat_le, Option, Some, None, refl, sym, ap, subst, arith, inl, inr, length-append, All, Contains, ◌⊎◌, option_map, Decides, filter_map, flat_map, length-take, length-drop}
use Rattle.std.specs.{Set.is_member, List.{AllByRecursion, cons_option}, Map.{keys_of, values_of}, Ordering.eq_by_cmp}
use Rattle.std.{specs.Cmp.eq_by_cmp_equiv, proofs.lemmas.List.{length-reverse, Elements.recursion_from_All}}
use Rattle.std.proofs.lemmas.Map.{Keys.IsDistinct-from_sorted, Made.{is_member-Decides, length-le_from_is_member}}
use Rattle.std.proofs.lemmas.{Map.Text.is_eq-slice_cmp, Slice.Eq.bytes_eq-Decides}
use Rattle.base_types.specs.Orders.{denom_cmp}
use Rattle.base_coins.specs.Coins.{IsMoney, Money}
use Rattle.base_roles.specs.declared.entities.{Historical.Historical, Purse.Purse, SigningInfo.SigningInfo}
use Rattle.base_roles.specs.declared.{entities.StartingInfo.StartingInfo, items.Item.Item}
use Rattle.base_roles.proofs.HoldingLemmas.{denom_total}
use Rattle.base_roles.specs.declared.items.Item.TheVariants as item
use Rattle.rule_machine.specs.Items.{entry_items, ground_items, historical_items, holding_items, items_of, purse_items, reward_items, ring_of, shared_items, signing_items, staked_items}
use Rattle.store_rows.specs.Spelled.{IsCountable, IsWritable}
use Rattle.rule_modules.specs.Chain.{State, shared_in, window_in}
use Rattle.rule_modules.specs.Periods.{Periods, Rewards, history_kept, ratio_at, references_of, starts_of}
use Rattle.rule_modules.specs.Sound.{AreAtMost, IsSound, PeriodsAreSound, PurseIsSound, denominations_of, names_in, names_of_periods, names_of_purses, names_of_ratios}
use Rattle.base_records.proofs.MemberLemmas.{Member, member, member-cases, member-left, member-right}
use Rattle.store_items.proofs.Blocks.{member-map}

-- ---- few names in a list

same_names : (a b : List ℕ) → Decides (eq_by_cmp denom_cmp a b) (a ≡ b)
same_names a b = subst (λ r. Decides r (a ≡ b)) (sym (is_eq-slice_cmp a b)) (bytes_eq-Decides a b)

all_of : {A : Type 0} (P : A → Type 0) (xs : List A) (x : A) → AllByRecursion P xs → Member xs x → P x
all_of P [] x h m = absurd m
all_of P (y ∷ ys) x h (inl e) = subst P e h.0
all_of P (y ∷ ys) x h (inr m) = all_of P ys x h.1 m

all_at : {A : Type 0} (P : A → Type 0) (xs : List A) (x : A) → All P xs → Member xs x → P x
all_at P xs x h m = all_of P xs x (recursion_from_All P xs h) m

length_of_names : (c : Money) → length (names_in c) ≡ length c
length_of_names [] = refl
length_of_names (e ∷ c) = ap suc (length_of_names c)

module _ (all : List (List ℕ)) (few : AreAtMost 1000000 all) where
  among : (names : List (List ℕ)) → ((d : List ℕ) → Member names d → Member all d) → (d : List ℕ) → is_member (eq_by_cmp denom_cmp) names d ≡ true → is_member (eq_by_cmp denom_cmp) few.some d ≡ true
  among names within d h =
      let there : Contains names d = (is_member-Decides same_names names d).0 h in
      (is_member-Decides same_names few.some d).1 (all_at (Contains few.some) all d few.all (within d (member names d there)))

  -- a list of coins whose names are among these is short
  coins_short : (c : Money) → IsMoney c → ((d : List ℕ) → Member (names_in c) d → Member all d) → IsCountable c
  coins_short c money within =
      let fewer : length (names_in c) ≤ length few.some = length-le_from_is_member (eq_by_cmp_equiv denom_total) (names_in c) few.some (IsDistinct-from_sorted denom_cmp (keys_of c) money.sorted) (among (names_in c) within) in
      let most : length few.some ≤ 1000000 = few.few in
      let same : length (names_in c) ≡ length c = length_of_names c in
      omega (arith, fewer, most, same)

-- ---- the names of purses and of ratios

in_purses : (es : List (List ℕ × Purse)) (e : List ℕ × Purse) (d : List ℕ) → Member es e → Member (names_in e.1.outstanding ++ names_in e.1.commission ++ names_in e.1.current) d → Member (names_of_purses (values_of es)) d
in_purses [] e d m n = absurd m
in_purses (x ∷ es) e d (inl s) n =
    member-left (names_in x.1.outstanding ++ names_in x.1.commission ++ names_in x.1.current) (names_of_purses (values_of es)) d (subst (λ (y : List ℕ × Purse). Member (names_in y.1.outstanding ++ names_in y.1.commission ++ names_in y.1.current) d) (sym s) n)
in_purses (x ∷ es) e d (inr m) n =
    member-right (names_in x.1.outstanding ++ names_in x.1.commission ++ names_in x.1.current) (names_of_purses (values_of es)) d (in_purses es e d m n)

in_ratios : (rs : List (ℕ × Money)) (r : ℕ × Money) (d : List ℕ) → Member rs r → Member (names_in r.1) d → Member (names_of_ratios rs) d
in_ratios [] r d m n = absurd m
in_ratios (x ∷ rs) r d (inl s) n = member-left (names_in x.1) (names_of_ratios rs) d (subst (λ (y : ℕ × Money). Member (names_in y.1) d) (sym s) n)
in_ratios (x ∷ rs) r d (inr m) n = member-right (names_in x.1) (names_of_ratios rs) d (in_ratios rs r d m n)

in_periods : (es : List (List ℕ × Periods)) (e : List ℕ × Periods) (d : List ℕ) → Member es e → Member (names_of_ratios e.1.ratios) d → Member (names_of_periods (values_of es)) d
in_periods [] e d m n = absurd m
in_periods (x ∷ es) e d (inl s) n = member-left (names_of_ratios x.1.ratios) (names_of_periods (values_of es)) d (subst (λ (y : List ℕ × Periods). Member (names_of_ratios y.1.ratios) d) (sym s) n)
in_periods (x ∷ es) e d (inr m) n = member-right (names_of_ratios x.1.ratios) (names_of_periods (values_of es)) d (in_periods es e d m n)

-- the ratio at a period is one of them, or empty
ratio_short : (rs : List (ℕ × Money)) (n : ℕ) → ((r : ℕ × Money) → Member rs r → IsCountable r.1) → IsCountable (ratio_at rs n)
ratio_short [] n h = omega arith
ratio_short (r ∷ rs) n h = by (nat_le r.0 n) (ratio_short rs n (λ x m. h x (inr m)))
  where
    by : (b : Bool) → IsCountable (ratio_at rs n) → IsCountable (cond b r.1 (ratio_at rs n))
    by true later = h r (inl refl)
    by false later = later

-- ---- the ring

ring_short : (window : ℕ) (votes : List Bool) → window ≤ 100000 → length (ring_of window votes) ≤ 100000
ring_short window votes most =
    let last = reverse (take window votes) in
    let older = length last - length votes % window in
    let whole : length last ≤ window = omega (arith, length-reverse (take window votes), length-take window votes) in
    omega (arith, whole, most, length-take older last, length-drop older last, length-append (drop older last) (take older last))

-- ---- all items

-- the item can be written, and where it is a signing record its window has at most 100,000 places
abbrev CanStand : Item → Type 0
CanStand (item.Signing cons info ring) = length ring ≤ 100000
CanStand i = IsWritable i

abbrev AllWritten : List Item → Type 0
AllWritten items = (i : Item) → Member items i → CanStand i

both : (xs ys : List Item) → AllWritten xs → AllWritten ys → AllWritten (xs ++ ys)
both xs ys a b i m = by (member-cases xs ys i m)
  where
    by : Member xs i ⊎ Member ys i → CanStand i
    by (inl l) = a i l
    by (inr r) = b i r

mapped : {A : Type 0} (f : A → Item) (es : List A) → ((e : A) → Member es e → CanStand (f e)) → AllWritten (map f es)
mapped f es h i m = let e = member-map f es i m in subst CanStand e.2 (h e.0 e.1)

single : (i : Item) → CanStand i → AllWritten (i ∷ [])
single i h j (inl e) = subst CanStand e h
single i h j (inr m) = absurd m

flat : {A : Type 0} (g : A → List Item) (es : List A) → ((e : A) → Member es e → AllWritten (g e)) → AllWritten (flat_map g es)
flat g [] h i m = absurd m
flat g (x ∷ es) h i m = both (g x) (flat_map g es) (h x (inl refl)) (flat g es (λ e n. h e (inr n))) i m

module _ (o : List ℕ) (p : Periods) (starts : List StartingInfo) (short : (r : ℕ × Money) → Member p.ratios r → IsCountable r.1) where
  kept_short : (n : ℕ) (b : Bool) (h : Historical) → cond b None (Some (record { ratio = ratio_at p.ratios n; count = references_of p starts n })) ≡ Some h → IsCountable h.ratio
  kept_short n true h e = absurd cc
  kept_short n false h e = subst (λ (m : Money). IsCountable m) (ratio_is h e) (ratio_short p.ratios n short)
    where
      ratio_is : (h : Historical) → Some (record { ratio = ratio_at p.ratios n; count = references_of p starts n }) ≡ Some h → ratio_at p.ratios n ≡ h.ratio
      ratio_is h e = ap (λ (x : Option Historical). ratio_in x) e
        where
          ratio_in : Option Historical → Money
          ratio_in None = []
          ratio_in (Some y) = y.ratio

  histories : (rs : List (ℕ × Money)) → AllWritten (filter_map (λ ended. option_map (λ h. item.Historical o ended.0 h) (history_kept p starts ended.0)) rs)
  histories [] i m = absurd m
  histories (r ∷ rs) i m = by (history_kept p starts r.0) refl m (λ n. histories rs i n)
    where
      by : (k : Option Historical) → history_kept p starts r.0 ≡ k
          → Member (cons_option (option_map (λ h. item.Historical o r.0 h) k) (filter_map (λ ended. option_map (λ h. item.Historical o ended.0 h) (history_kept p starts ended.0)) rs)) i
          → (Member (filter_map (λ ended. option_map (λ h. item.Historical o ended.0 h) (history_kept p starts ended.0)) rs) i → CanStand i) → CanStand i
      by None e n later = later n
      by (Some h) e (inl s) later = subst CanStand s (kept_short r.0 (references_of p starts r.0 == 0) h e)
      by (Some h) e (inr n) later = later n

module _ (p : State) (s : IsSound p) where
  abbrev balance_names : List (List ℕ)
  balance_names = map (λ e. e.0.1) p.view.bank.balances

  abbrev pool_names : List (List ℕ)
  pool_names = names_in (shared_in p).purses.pool

  abbrev purse_names : List (List ℕ)
  purse_names = names_of_purses (values_of (shared_in p).purses.purses)

  abbrev period_names : List (List ℕ)
  period_names = names_of_periods (values_of (shared_in p).rewards.periods)

  of_pool : (d : List ℕ) → Member pool_names d → Member (denominations_of p) d
  of_pool d m = member-left (balance_names ++ pool_names ++ purse_names) period_names d (member-left (balance_names ++ pool_names) purse_names d (member-right balance_names pool_names d m))

  of_purses : (d : List ℕ) → Member purse_names d → Member (denominations_of p) d
  of_purses d m = member-left (balance_names ++ pool_names ++ purse_names) period_names d (member-right (balance_names ++ pool_names) purse_names d m)

  of_periods : (d : List ℕ) → Member period_names d → Member (denominations_of p) d
  of_periods d m = member-right (balance_names ++ pool_names ++ purse_names) period_names d m

  short : (c : Money) → IsMoney c → ((d : List ℕ) → Member (names_in c) d → Member (denominations_of p) d) → IsCountable c
  short = coins_short (denominations_of p) s.few

  purse_written : (e : List ℕ × Purse) → Member (shared_in p).purses.purses e → CanStand (item.Purse e.0 e.1)
  purse_written e m =
      let sound = all_at (λ (x : List ℕ × Purse). PurseIsSound x.1) (shared_in p).purses.purses e s.purses.purses m in
      let within : (d : List ℕ) → Member (names_in e.1.outstanding ++ names_in e.1.commission ++ names_in e.1.current) d → Member (denominations_of p) d = λ d n. of_purses d (in_purses (shared_in p).purses.purses e d m n) in
      let front : List (List ℕ) = names_in e.1.outstanding ++ names_in e.1.commission in (
        short e.1.outstanding sound.outstanding (λ d n. within d (member-left front (names_in e.1.current) d (member-left (names_in e.1.outstanding) (names_in e.1.commission) d n))),
        short e.1.commission sound.commission (λ d n. within d (member-left front (names_in e.1.current) d (member-right (names_in e.1.outstanding) (names_in e.1.commission) d n))),
        short e.1.current sound.current (λ d n. within d (member-right front (names_in e.1.current) d n)),
      )

  ratios_short : (e : List ℕ × Periods) → Member (shared_in p).rewards.periods e → (r : ℕ × Money) → Member e.1.ratios r → IsCountable r.1
  ratios_short e m r n =
      let sound = all_at (λ (x : List ℕ × Periods). PeriodsAreSound p.view.ctx.height (starts_of (shared_in p).rewards x.0) x.1) (shared_in p).rewards.periods e s.rewards.periods m in
      short r.1 (all_at (λ (x : ℕ × Money). IsMoney x.1) e.1.ratios r sound.lists n) (λ d k. of_periods d (in_periods (shared_in p).rewards.periods e d m (in_ratios e.1.ratios r d n k)))

  countable_entries : {A : Type 0} (xs : List A) → length xs ≤ 100 → IsCountable xs
  countable_entries xs most = omega (arith, most)

  all_members : AllWritten (items_of p)
  all_members =
      both (ground_items p.view ++ staked_items p.mine.staked) (entry_items p.mine.unbondings p.mine.redelegations ++ (signing_items window (window_in p) ++ shared_items (shared_in p)))
      (both (ground_items p.view) (staked_items p.mine.staked) ground staked)
      (both (entry_items p.mine.unbondings p.mine.redelegations) (signing_items window (window_in p) ++ shared_items (shared_in p)) entries
      (both (signing_items window (window_in p)) (shared_items (shared_in p)) signings shared))
    where
      window : ℕ
      window = p.view.ctx.params.signed_blocks_window

      balances : AllWritten (map (λ e. item.Balance e.0.0 e.0.1 e.1) p.view.bank.balances)
      balances = mapped (λ e. item.Balance e.0.0 e.0.1 e.1) p.view.bank.balances (λ e m. all_at (λ x. 0 < x.1) p.view.bank.balances e s.ground.bank.balances_positive m)

      supplies : AllWritten (map (λ e. item.Supply e.0 e.1) p.view.bank.supplies)
      supplies = mapped (λ e. item.Supply e.0 e.1) p.view.bank.supplies (λ e m. all_at (λ x. 0 < x.1) p.view.bank.supplies e s.ground.bank.supplies_positive m)

      ground : AllWritten (ground_items p.view)
      ground =
          both (item.Head p.view.ctx.height p.view.ctx.time ∷ []) (item.Parameters p.view.ctx.params ∷ holding_items p.view.bank) (single _ tt)
          (both (item.Parameters p.view.ctx.params ∷ []) (holding_items p.view.bank) (single _ tt) (both _ _ balances supplies))

      staked : AllWritten (staked_items p.mine.staked)
      staked = both _ _ (mapped (λ e. item.Validator e.1) p.mine.staked.validators (λ e m. tt)) (mapped (λ e. item.Delegation e.0.0 e.0.1 e.1) p.mine.staked.delegations (λ e m. tt))

      entries : AllWritten (entry_items p.mine.unbondings p.mine.redelegations)
      entries = both _ _
          (mapped (λ e. item.Unbonding e.0.0 e.0.1 e.1) p.mine.unbondings (λ e m. countable_entries e.1 (all_at (λ x. length x.1 ≤ 100) p.mine.unbondings e s.unbondings.most m)))
          (mapped (λ e. item.Redelegation e.0.0 e.0.1 e.0.2 e.1) p.mine.redelegations (λ e m. countable_entries e.1 (all_at (λ x. length x.1 ≤ 100) p.mine.redelegations e s.redelegations.most m)))

      signings : AllWritten (signing_items window (window_in p))
      signings = mapped _ (window_in p) (λ e m. ring_short window e.1.votes s.ground.params.signed_blocks_window_most)

      purses : AllWritten (purse_items (shared_in p).purses)
      purses = both _ _ (mapped (λ e. item.Purse e.0 e.1) (shared_in p).purses.purses purse_written) (single (item.Pool (shared_in p).purses.pool) (short (shared_in p).purses.pool s.purses.pool of_pool))

      rewards : AllWritten (reward_items (shared_in p).rewards)
      rewards =
          both _ _ (mapped (λ e. item.CurrentPeriod e.0 e.1.current) (shared_in p).rewards.periods (λ e m. tt))
          (both _ _ (flat (historical_items (shared_in p).rewards) (shared_in p).rewards.periods (λ e m. histories e.0 e.1 (starts_of (shared_in p).rewards e.0) (ratios_short e m) (reverse e.1.ratios)))
          (both _ _ (mapped (λ e. item.Start e.0.0 e.0.1 e.1) (shared_in p).rewards.starts (λ e m. tt))
          (flat (λ e. map (λ event. item.Event e.0 event) e.1.events) (shared_in p).rewards.periods (λ e m. mapped (λ event. item.Event e.0 event) e.1.events (λ x k. tt)))))

      shared : AllWritten (shared_items (shared_in p))
      shared = both _ _ purses (both _ _ (mapped (λ e. item.Withdraw e.0 e.1) (shared_in p).withdraw (λ e m. tt)) rewards)

can_be_written : (i : Item) → CanStand i → IsWritable i
can_be_written (item.Head height time) h = h
can_be_written (item.Parameters params) h = h
can_be_written (item.Balance account denom amount) h = h
can_be_written (item.Supply denom amount) h = h
can_be_written (item.Validator validator) h = h
can_be_written (item.Delegation operator delegator shares) h = h
can_be_written (item.Unbonding delegator operator entries) h = h
can_be_written (item.Redelegation delegator source target entries) h = h
can_be_written (item.Signing cons info ring) h = omega (arith, h)
can_be_written (item.Purse operator purse) h = h
can_be_written (item.Pool coins) h = h
can_be_written (item.Withdraw delegator to) h = h
can_be_written (item.CurrentPeriod operator period) h = h
can_be_written (item.Historical operator period history) h = h
can_be_written (item.Start operator delegator info) h = h
can_be_written (item.Event operator event) h = h

pub all_written : (p : State) → IsSound p → (i : Item) → Contains (items_of p) i → IsWritable i
all_written p s i c = can_be_written i (all_members p s i (member (items_of p) i c))

pub windows_short : (p : State) → IsSound p → (cons : List ℕ) (info : SigningInfo) (ring : List Bool) → Contains (items_of p) (item.Signing cons info ring) → length ring ≤ 100000
windows_short p s cons info ring c = all_members p s (item.Signing cons info ring) (member (items_of p) (item.Signing cons info ring) c)
