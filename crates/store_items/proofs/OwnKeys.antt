-- No two items of a sound state have one key.
use Rattle.std.proofs.Common.{◌≡◌, ◌∙◌, ℕ, ◌+◌, ◌<◌, ◌≤◌, ◌==◌, Bool, true, false, cond, List, [], ◌∷◌, ◌++◌, map, reverse, Option, Some, None, refl, sym, ap, subst, arith, inl, inr, All, ◌⊎◌, option_map, filter_map, flat_map}
use Rattle.std.specs.{Cmp.{IsTotalOrder, on_total, then_total}, List.{AllByRecursion, cons_option}}
use Rattle.std.{specs.{List.Sorted.IsStrictlySortedBy, Map.keys_of}, proofs.lemmas.List.{map-append, reverse-append}}
use Rattle.std.proofs.lemmas.List.Elements.{recursion_from_All}
use Rattle.base_coins.specs.Coins.{Money}
use Rattle.base_types.specs.Orders.{addr_cmp}
use Rattle.base_roles.specs.declared.entities.{Historical.Historical, SlashEvent.SlashEvent, StartingInfo.StartingInfo}
use Rattle.base_roles.specs.{declared.{entities.Validator.Validator, items.Item.Item}, Items.{IsOnce, key_of}}
use Rattle.base_roles.{specs.Orders.triple_cmp, proofs.HoldingLemmas.{denom_total, place_total}}
use Rattle.base_roles.specs.declared.items.Item.TheVariants as item
use Rattle.rule_machine.specs.Items.{historical_items, items_of, ring_of, signing_items}
use Rattle.rule_modules.specs.{Chain.{State, shared_in, window_in}, Periods.{Periods, Rewards, history_kept, starts_of}}
use Rattle.rule_modules.specs.{Window.info_of, Sound.{AreFalling, GrowWithHeight, IsSound, PeriodsAreSound}}
use Rattle.rule_modules.proofs.OrderLemmas.{addr_total, cons_total, pair_total}
use Rattle.base_records.proofs.MemberLemmas.{Member, Once, contained, member-cases, member-right, once, once-append}
use Rattle.store_items.proofs.Blocks.{Block, join, mapped, member-flat, member-map, once_flat, one, rank}

triple_total : IsTotalOrder triple_cmp
triple_total = then_total (on_total (λ t. t.0) addr_total) (then_total (on_total (λ t. t.1) addr_total) (on_total (λ t. t.2) addr_total))

-- ---- nothing is asked of an entry

abbrev Any : {A : Type 0} → A → Type 0
Any a = Unit {0}

any : {A : Type 0} (xs : List A) → AllByRecursion Any xs
any [] = tt
any (x ∷ xs) = (tt, any xs)

-- ---- the periods of an operator

below_limit : (limit : ℕ) (rs : List (ℕ × Money)) (n : ℕ) → AreFalling limit rs → Member (map (λ r. r.0) rs) n → n < limit
below_limit limit [] n f m = absurd m
below_limit limit (r ∷ rs) n f (inl e) = let low : r.0 < limit = f.0 in omega (arith, low, e)
below_limit limit (r ∷ rs) n f (inr m) =
    let low : r.0 < limit = f.0 in
    let less : n < r.0 = below_limit r.0 rs n f.1 m in
    omega (arith, low, less)

falling_once : (limit : ℕ) (rs : List (ℕ × Money)) → AreFalling limit rs → Once (map (λ r. r.0) rs)
falling_once limit [] f = tt
falling_once limit (r ∷ rs) f = (λ m. let less : r.0 < r.0 = below_limit r.0 rs r.0 f.1 m in absurd (omega (arith, less)), falling_once r.0 rs f.1)

reverse_member : {A : Type 0} (xs : List A) (x : A) → Member (reverse xs) x → Member xs x
reverse_member [] x m = m
reverse_member (y ∷ ys) x m = by (member-cases (reverse ys) (y ∷ []) x (subst (λ l. Member l x) (reverse-append (y ∷ []) ys) m)) (λ l. reverse_member ys x l)
  where
    by : Member (reverse ys) x ⊎ Member (y ∷ []) x → (Member (reverse ys) x → Member ys x) → Member (y ∷ ys) x
    by (inl l) later = inr (later l)
    by (inr (inl e)) later = inl e
    by (inr (inr n)) later = absurd n

-- where the first parts stand once, so do they backwards
once_reversed : (rs : List (ℕ × Money)) → Once (map (λ r. r.0) rs) → Once (map (λ r. r.0) (reverse rs))
once_reversed [] h = tt
once_reversed (r ∷ rs) h =
    subst (λ l. Once (map (λ x. x.0) l)) (sym (reverse-append (r ∷ []) rs))
    (subst Once (sym (map-append (λ x. x.0) (reverse rs) (r ∷ []))) (once-append (map (λ x. x.0) (reverse rs)) (r.0 ∷ []) (once_reversed rs h.1) (λ m. m, tt) apart))
  where
    apart : (n : ℕ) → Member (map (λ x. x.0) (reverse rs)) n → Member (r.0 ∷ []) n → ⊥
    apart n p (inl e) =
        let x = member-map (λ x. x.0) (reverse rs) n p in
        h.0 (subst (Member (map (λ x. x.0) rs)) (x.2 ∙ sym e) (mapped_member rs x.0 (reverse_member rs x.0 x.1)))
      where
        mapped_member : (xs : List (ℕ × Money)) (x : ℕ × Money) → Member xs x → Member (map (λ y. y.0) xs) x.0
        mapped_member [] x m = absurd m
        mapped_member (y ∷ ys) x (inl e) = inl (ap (λ z. z.0) e)
        mapped_member (y ∷ ys) x (inr m) = inr (mapped_member ys x m)
    apart n p (inr m) = absurd m

-- what is made of some ratios, each told by its period
module _ (o : List ℕ) (kept : ℕ → Option Historical) where
  abbrev history : ℕ × Money → Option Item
  history ended = option_map (λ h. item.Historical o ended.0 h) (kept ended.0)

  histories : (rs : List (ℕ × Money)) (i : Item) → Member (filter_map history rs) i → (n : ℕ) × Member (map (λ r. r.0) rs) n × ((h : Historical) × (item.Historical o n h ≡ i))
  histories [] i m = absurd m
  histories (r ∷ rs) i m = by (kept r.0) m (λ n. let x = histories rs i n in (x.0, inr x.1, x.2))
    where
      by : (k : Option Historical) → Member (cons_option (option_map (λ h. item.Historical o r.0 h) k) (filter_map history rs)) i
          → (Member (filter_map history rs) i → (n : ℕ) × Member (map (λ r. r.0) (r ∷ rs)) n × ((h : Historical) × (item.Historical o n h ≡ i)))
          → (n : ℕ) × Member (map (λ r. r.0) (r ∷ rs)) n × ((h : Historical) × (item.Historical o n h ≡ i))
      by None n later = later n
      by (Some h) (inl e) later = (r.0, inl refl, (h, e))
      by (Some h) (inr n) later = later n

  histories_once : (rs : List (ℕ × Money)) → Once (map (λ r. r.0) rs) → Once (map key_of (filter_map history rs))
  histories_once [] h = tt
  histories_once (r ∷ rs) h = by (kept r.0) (histories_once rs h.1)
    where
      first : (x : Historical) → Member (map key_of (filter_map history rs)) (key_of (item.Historical o r.0 x)) → ⊥
      first x m =
          let i = member-map key_of (filter_map history rs) (key_of (item.Historical o r.0 x)) m in
          let y = histories rs i.0 i.1 in
          let keys : key_of (item.Historical o y.0 y.2.0) ≡ key_of (item.Historical o r.0 x) = ap key_of y.2.1 ∙ i.2 in
          let same : y.0 ≡ r.0 = cc in
          h.0 (subst (Member (map (λ q. q.0) rs)) same y.1)

      by : (k : Option Historical) → Once (map key_of (filter_map history rs)) → Once (map key_of (cons_option (option_map (λ h. item.Historical o r.0 h) k) (filter_map history rs)))
      by None later = later
      by (Some x) later = (first x, later)

-- ---- the slash events of an operator

-- no later event has a period that is not above
later_period : (e : SlashEvent) (es : List SlashEvent) (f : SlashEvent) → GrowWithHeight (e ∷ es) → Member es f → e.period < f.period
later_period e [] f g m = absurd m
later_period e (x ∷ es) f g (inl s) = let less : e.period < x.period = g.0 in let same : x.period ≡ f.period = ap (λ (y : SlashEvent). y.period) s in omega (arith, less, same)
later_period e (x ∷ es) f g (inr m) =
    let less : e.period < x.period = g.0 in
    let more : x.period < f.period = later_period x es f g.2 m in
    omega (arith, less, more)

grown_rest : (e : SlashEvent) (es : List SlashEvent) → GrowWithHeight (e ∷ es) → GrowWithHeight es
grown_rest e [] g = tt
grown_rest e (x ∷ es) g = g.2

-- the period of an event's key
abbrev period_in : Item → ℕ
period_in (item.Event o e) = e.period
period_in _ = 0

event_period : (o : List ℕ) (e f : SlashEvent) → key_of (item.Event o e) ≡ key_of (item.Event o f) → e.period ≡ f.period
event_period o e f same = ap period_in same

events_once : (o : List ℕ) (es : List SlashEvent) → GrowWithHeight es → Once (map key_of (map (λ event. item.Event o event) es))
events_once o [] g = tt
events_once o (e ∷ es) g = (first, events_once o es (grown_rest e es g))
  where
    first : Member (map key_of (map (λ event. item.Event o event) es)) (key_of (item.Event o e)) → ⊥
    first m =
        let i = member-map key_of (map (λ event. item.Event o event) es) (key_of (item.Event o e)) m in
        let f = member-map (λ event. item.Event o event) es i.0 i.1 in
        let keys : key_of (item.Event o f.0) ≡ key_of (item.Event o e) = ap key_of f.2 ∙ i.2 in
        let same : f.0.period ≡ e.period = event_period o f.0 e keys in
        let less : e.period < f.0.period = later_period e es f.0 g f.1 in
        absurd (omega (arith, same, less))

-- ---- of all operators

abbrev owner : Item → Option (List ℕ)
owner (item.Historical o n h) = Some o
owner (item.Event o e) = Some o
owner _ = None

owner_by_key : (i : Item) → owner (key_of i) ≡ owner i
owner_by_key (item.Head height time) = refl
owner_by_key (item.Parameters params) = refl
owner_by_key (item.Balance account denom amount) = refl
owner_by_key (item.Supply denom amount) = refl
owner_by_key (item.Validator validator) = refl
owner_by_key (item.Delegation operator delegator shares) = refl
owner_by_key (item.Unbonding delegator operator entries) = refl
owner_by_key (item.Redelegation delegator source target entries) = refl
owner_by_key (item.Signing cons info ring) = refl
owner_by_key (item.Purse operator purse) = refl
owner_by_key (item.Pool coins) = refl
owner_by_key (item.Withdraw delegator to) = refl
owner_by_key (item.CurrentPeriod operator period) = refl
owner_by_key (item.Historical operator period history) = refl
owner_by_key (item.Start operator delegator info) = refl
owner_by_key (item.Event operator event) = refl

all_member : {A : Type 0} (P : A → Type 0) (xs : List A) (x : A) → AllByRecursion P xs → Member xs x → P x
all_member P [] x h m = absurd m
all_member P (y ∷ ys) x h (inl e) = subst P e h.0
all_member P (y ∷ ys) x h (inr m) = all_member P ys x h.1 m

-- the operator of a validator's key
abbrev operator_in : Item → List ℕ
operator_in (item.Validator w) = w.operator
operator_in _ = []

own_operator : (u v : Validator) → key_of (item.Validator u) ≡ key_of (item.Validator v) → u.operator ≡ v.operator
own_operator u v e = ap operator_in e

module _ (p : State) (s : IsSound p) where
  abbrev rewards : Rewards
  rewards = (shared_in p).rewards

  abbrev events_in : List ℕ × Periods → List Item
  events_in e = map (λ event. item.Event e.0 event) e.1.events

  periods_in : (e : List ℕ × Periods) → Member rewards.periods e → PeriodsAreSound p.view.ctx.height (starts_of rewards e.0) e.1
  periods_in e m = all_member (λ x. PeriodsAreSound p.view.ctx.height (starts_of rewards x.0) x.1) rewards.periods e (recursion_from_All _ rewards.periods s.rewards.periods) m

  of_history : (e : List ℕ × Periods) (i : Item) → Member (historical_items rewards e) i → (n : ℕ) × ((h : Historical) × (item.Historical e.0 n h ≡ i))
  of_history e i m = let x = histories e.0 (history_kept e.1 (starts_of rewards e.0)) (reverse e.1.ratios) i m in (x.0, x.2)

  of_event : (e : List ℕ × Periods) (i : Item) → Member (events_in e) i → (x : SlashEvent) × (item.Event e.0 x ≡ i)
  of_event e i m = let x = member-map (λ event. item.Event e.0 event) e.1.events i m in (x.0, x.2)

  history_owned : (e : List ℕ × Periods) (i : Item) → Member (historical_items rewards e) i → owner i ≡ Some e.0
  history_owned e i m = ap owner (sym (of_history e i m).1.1)

  event_owned : (e : List ℕ × Periods) (i : Item) → Member (events_in e) i → owner i ≡ Some e.0
  event_owned e i m = ap owner (sym (of_event e i m).1)

  history_block : Block 81 81 (flat_map (historical_items rewards) rewards.periods)
  history_block = record {
    once = once_flat addr_cmp addr_total (historical_items rewards) owner owner_by_key history_owned rewards.periods each s.rewards.periods_ascend;
    from = λ i m. let same : rank i ≡ 81 = kind i m in omega (arith, same);
    to = λ i m. let same : rank i ≡ 81 = kind i m in omega (arith, same);
  }
    where
      kind : (i : Item) → Member (flat_map (historical_items rewards) rewards.periods) i → rank i ≡ 81
      kind i m =
          let e = member-flat addr_cmp addr_total (historical_items rewards) owner owner_by_key history_owned rewards.periods i m in
          ap rank (sym (of_history e.0 i e.2).1.1)

      each : (e : List ℕ × Periods) → Member rewards.periods e → Once (map key_of (historical_items rewards e))
      each e m =
          let sound = periods_in e m in
          histories_once e.0 (history_kept e.1 (starts_of rewards e.0)) (reverse e.1.ratios) (once_reversed e.1.ratios (falling_once e.1.current e.1.ratios sound.falling))

  event_block : Block 83 83 (flat_map events_in rewards.periods)
  event_block = record {
    once = once_flat addr_cmp addr_total events_in owner owner_by_key event_owned rewards.periods (λ e m. events_once e.0 e.1.events (periods_in e m).order) s.rewards.periods_ascend;
    from = λ i m. let same : rank i ≡ 83 = kind i m in omega (arith, same);
    to = λ i m. let same : rank i ≡ 83 = kind i m in omega (arith, same);
  }
    where
      kind : (i : Item) → Member (flat_map events_in rewards.periods) i → rank i ≡ 83
      kind i m =
          let e = member-flat addr_cmp addr_total events_in owner owner_by_key event_owned rewards.periods i m in
          ap rank (sym (of_event e.0 i e.2).1)

  -- ---- all kinds

  block : Block 1 83 (items_of p)
  block =
      join 1 33 34 83 _ _ (omega arith) (omega arith) (omega arith)
      (join 1 17 32 33 _ _ (omega arith) (omega arith) (omega arith)
      (join 1 1 2 17 (item.Head p.view.ctx.height p.view.ctx.time ∷ []) _ (omega arith) (omega arith) (omega arith) (one _ 1 refl)
      (join 2 2 16 17 (item.Parameters p.view.ctx.params ∷ []) _ (omega arith) (omega arith) (omega arith) (one _ 2 refl)
      (join 16 16 17 17 _ _ (omega arith) (omega arith) (omega arith) balances supplies)))
      (join 32 32 33 33 _ _ (omega arith) (omega arith) (omega arith) validators delegations))
      (join 34 35 48 83 _ _ (omega arith) (omega arith) (omega arith)
      (join 34 34 35 35 _ _ (omega arith) (omega arith) (omega arith) unbondings redelegations)
      (join 48 48 64 83 _ _ (omega arith) (omega arith) (omega arith) signings
      (join 64 65 66 83 _ _ (omega arith) (omega arith) (omega arith)
      (join 64 64 65 65 _ _ (omega arith) (omega arith) (omega arith) purses (one _ 65 refl))
      (join 66 66 80 83 _ _ (omega arith) (omega arith) (omega arith) withdraws
      (join 80 80 81 83 _ _ (omega arith) (omega arith) (omega arith) currents
      (join 81 81 82 83 _ _ (omega arith) (omega arith) (omega arith) history_block
      (join 82 82 83 83 _ _ (omega arith) (omega arith) (omega arith) starts event_block)))))))
    where
      balances : Block 16 16 (map (λ e. item.Balance e.0.0 e.0.1 e.1) p.view.bank.balances)
      balances = mapped _ place_total Any (λ e. item.Balance e.0.0 e.0.1 e.1) (λ a b x y same. let u : a.0.0 ≡ b.0.0 = cc in let v : a.0.1 ≡ b.0.1 = cc in λ i. (u i, v i)) 16 (λ e. refl) p.view.bank.balances (any _) s.ground.bank.balances_ascend

      supplies : Block 17 17 (map (λ e. item.Supply e.0 e.1) p.view.bank.supplies)
      supplies = mapped _ denom_total Any (λ e. item.Supply e.0 e.1) (λ a b x y same. cc) 17 (λ e. refl) p.view.bank.supplies (any _) s.ground.bank.supplies_ascend

      validators : Block 32 32 (map (λ e. item.Validator e.1) p.mine.staked.validators)
      validators = mapped _ addr_total (λ e. e.1.operator ≡ e.0) (λ e. item.Validator e.1) (λ a b x y same. sym x ∙ own_operator a.1 b.1 same ∙ y) 32 (λ e. refl) p.mine.staked.validators (recursion_from_All _ p.mine.staked.validators s.staked.operators) s.staked.validators_ascend

      delegations : Block 33 33 (map (λ e. item.Delegation e.0.0 e.0.1 e.1) p.mine.staked.delegations)
      delegations = mapped _ pair_total Any (λ e. item.Delegation e.0.0 e.0.1 e.1) (λ a b x y same. let u : a.0.0 ≡ b.0.0 = cc in let v : a.0.1 ≡ b.0.1 = cc in λ i. (u i, v i)) 33 (λ e. refl) p.mine.staked.delegations (any _) s.staked.delegations_ascend

      unbondings : Block 34 34 (map (λ e. item.Unbonding e.0.0 e.0.1 e.1) p.mine.unbondings)
      unbondings = mapped _ pair_total Any (λ e. item.Unbonding e.0.0 e.0.1 e.1) (λ a b x y same. let u : a.0.0 ≡ b.0.0 = cc in let v : a.0.1 ≡ b.0.1 = cc in λ i. (u i, v i)) 34 (λ e. refl) p.mine.unbondings (any _) s.unbondings.ascend

      redelegations : Block 35 35 (map (λ e. item.Redelegation e.0.0 e.0.1 e.0.2 e.1) p.mine.redelegations)
      redelegations = mapped _ triple_total Any (λ e. item.Redelegation e.0.0 e.0.1 e.0.2 e.1) (λ a b x y same. let u : a.0.0 ≡ b.0.0 = cc in let v : a.0.1 ≡ b.0.1 = cc in let w : a.0.2 ≡ b.0.2 = cc in λ i. (u i, v i, w i)) 35 (λ e. refl) p.mine.redelegations (any _) s.redelegations.ascend

      signings : Block 48 48 (signing_items p.view.ctx.params.signed_blocks_window (window_in p))
      signings = mapped _ cons_total Any (λ e. item.Signing e.0 (info_of p.view.ctx.params.signed_blocks_window e.1) (ring_of p.view.ctx.params.signed_blocks_window e.1.votes)) (λ a b x y same. cc) 48 (λ e. refl) (window_in p) (any _) s.window.ascend

      purses : Block 64 64 (map (λ e. item.Purse e.0 e.1) (shared_in p).purses.purses)
      purses = mapped _ addr_total Any (λ e. item.Purse e.0 e.1) (λ a b x y same. cc) 64 (λ e. refl) (shared_in p).purses.purses (any _) s.purses.ascend

      withdraws : Block 66 66 (map (λ e. item.Withdraw e.0 e.1) (shared_in p).withdraw)
      withdraws = mapped _ addr_total Any (λ e. item.Withdraw e.0 e.1) (λ a b x y same. cc) 66 (λ e. refl) (shared_in p).withdraw (any _) s.payees

      currents : Block 80 80 (map (λ e. item.CurrentPeriod e.0 e.1.current) rewards.periods)
      currents = mapped _ addr_total Any (λ e. item.CurrentPeriod e.0 e.1.current) (λ a b x y same. cc) 80 (λ e. refl) rewards.periods (any _) s.rewards.periods_ascend

      starts : Block 82 82 (map (λ e. item.Start e.0.0 e.0.1 e.1) rewards.starts)
      starts = mapped _ pair_total Any (λ e. item.Start e.0.0 e.0.1 e.1) (λ a b x y same. let u : a.0.0 ≡ b.0.0 = cc in let v : a.0.1 ≡ b.0.1 = cc in λ i. (u i, v i)) 82 (λ e. refl) rewards.starts (any _) s.rewards.starts_ascend

pub keys_once : (p : State) → IsSound p → IsOnce (map key_of (items_of p))
keys_once p s = once (map key_of (items_of p)) (block p s).once
