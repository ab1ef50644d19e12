-- Records whose keys ascend are told by their items.
use Rattle.std.proofs.Common.{◌≡◌, ◌∙◌, ℕ, List, [], ◌∷◌, ◌++◌, map, refl, sym, ap, subst, inl, inr, ◌⊎◌, All, Ordering, Less}
use Rattle.std.specs.{Cmp.{IsTotalOrder, on_total}, List.{AllByRecursion, Sorted.IsStrictlySortedBy}, Map.keys_of}
use Rattle.std.{specs.Ordering.on, proofs.lemmas.List.Elements.recursion_from_All}
use Rattle.base_types.specs.Orders.{addr_cmp, cons_cmp, denom_cmp}
use Rattle.base_roles.specs.declared.{entities.Validator.Validator, items.Item.Item}
use Rattle.base_roles.{specs.Orders.{pair_cmp, place_cmp, triple_cmp}, proofs.HoldingLemmas.{denom_total, place_total}}
use Rattle.base_roles.specs.declared.items.Item.TheVariants as item
use Rattle.base_records.proofs.AscendLemmas.{same_members}
use Rattle.base_records.proofs.MemberLemmas.{Member, member-left, member-right, member-cases}
use Rattle.rule_modules.proofs.OrderLemmas.{addr_total, cons_total, pair_total}
use Rattle.rule_machine.specs.Items.{entry_items, holding_items, staked_items}
use Rattle.store_records.specs.Plain.{AreAscending, PlainSeen, SharedSeen, event_at, event_cmp, listed, period_cmp, reward_items, shared_items}
use Rattle.store_records.proofs.OrderLemmas.{event_total, period_total, triple_total}

-- ---- ascending entries with the same members are the same

module _ {K X : Type 0} (cmp : K → K → Ordering) where
  all_on : (k : K) (es : List (K × X)) → AllByRecursion (λ x. cmp k x ≡ Less) (keys_of es) → AllByRecursion (λ e. cmp k e.0 ≡ Less) es
  all_on k [] h = tt
  all_on k (e ∷ es) h = (h.0, all_on k es h.1)

  sorted_on : (es : List (K × X)) → IsStrictlySortedBy cmp (keys_of es) → IsStrictlySortedBy (on (λ e. e.0) cmp) es
  unfolding IsStrictlySortedBy
  sorted_on [] s = tt
  sorted_on (e ∷ es) s = (all_on e.0 es s.0, sorted_on es s.1)

  pub same_entries : IsTotalOrder cmp → (es fs : List (K × X)) → IsStrictlySortedBy cmp (keys_of es) → IsStrictlySortedBy cmp (keys_of fs)
      → ((e : K × X) → Member es e → Member fs e) → ((e : K × X) → Member fs e → Member es e) → es ≡ fs
  same_entries o es fs s t f g = same_members (on_total (λ (e : K × X). e.0) o) es fs (sorted_on es s) (sorted_on fs t) f g

-- ---- of which record an item is

pub from_map : {A : Type 0} (P : Item → Type 0) (f : A → Item) (es : List A) → ((e : A) → Member es e → P (f e)) → (i : Item) → Member (map f es) i → P i
from_map P f [] h i m = absurd m
from_map P f (e ∷ es) h i (inl q) = subst P q (h e (inl refl))
from_map P f (e ∷ es) h i (inr m) = from_map P f es (λ x n. h x (inr n)) i m

pub in_map : {A : Type 0} (f : A → Item) (es : List A) (e : A) → Member es e → Member (map f es) (f e)
in_map f [] e m = absurd m
in_map f (x ∷ es) e (inl q) = inl (ap f q)
in_map f (x ∷ es) e (inr m) = inr (in_map f es e m)

pub from_both : (P : Item → Type 0) (xs ys : List Item) → ((i : Item) → Member xs i → P i) → ((i : Item) → Member ys i → P i) → (i : Item) → Member (xs ++ ys) i → P i
from_both P xs ys f g i m = by (member-cases xs ys i m)
  where
    by : Member xs i ⊎ Member ys i → P i
    by (inl h) = f i h
    by (inr h) = g i h

-- an item is that of a record
abbrev pub StandsIn : PlainSeen → Item → Type 0
StandsIn r (item.Head height time) = (r.ctx.height ≡ height) × (r.ctx.time ≡ time)
StandsIn r (item.Parameters params) = r.ctx.params ≡ params
StandsIn r (item.Balance account denom amount) = Member r.lists.bank.balances ((account, denom), amount)
StandsIn r (item.Supply denom amount) = Member r.lists.bank.supplies (denom, amount)
StandsIn r (item.Validator validator) = Member r.lists.staked.validators (validator.operator, validator)
StandsIn r (item.Delegation operator delegator shares) = Member r.lists.staked.delegations ((operator, delegator), shares)
StandsIn r (item.Unbonding delegator operator entries) = Member r.lists.unbondings ((delegator, operator), entries)
StandsIn r (item.Redelegation delegator source target entries) = Member r.lists.redelegations ((delegator, source, target), entries)
StandsIn r (item.Signing cons info ring) = Member r.lists.signings (cons, record { info = info; ring = ring })
StandsIn r (item.Purse operator purse) = Member r.lists.shared.purses (operator, purse)
StandsIn r (item.Pool coins) = r.pool ≡ coins
StandsIn r (item.Withdraw delegator to) = Member r.lists.shared.payees (delegator, to)
StandsIn r (item.CurrentPeriod operator period) = Member r.lists.shared.currents (operator, period)
StandsIn r (item.Historical operator period history) = Member r.lists.shared.histories ((operator, period), history)
StandsIn r (item.Start operator delegator info) = Member r.lists.shared.starts ((operator, delegator), info)
StandsIn r (item.Event operator event) = Member r.lists.shared.events ((operator, event.height, event.period), event.fraction)

own : (es : List (List ℕ × Validator)) (e : List ℕ × Validator) → AllByRecursion (λ x. x.1.operator ≡ x.0) es → Member es e → e.1.operator ≡ e.0
own [] e h m = absurd m
own (x ∷ es) e h (inl q) = subst (λ y. y.1.operator ≡ y.0) q h.0
own (x ∷ es) e h (inr m) = own es e h.1 m

-- validators stand under their operators
abbrev pub AreOwn : PlainSeen → Type 0
AreOwn r = All (λ e. e.1.operator ≡ e.0) r.lists.staked.validators

pub own_key : (r : PlainSeen) → AreOwn r → (e : List ℕ × Validator) → Member r.lists.staked.validators e → e.1.operator ≡ e.0
own_key r h e m = own r.lists.staked.validators e (recursion_from_All (λ x. x.1.operator ≡ x.0) r.lists.staked.validators h) m

pub under_own : (r : PlainSeen) → AreOwn r → (e : List ℕ × Validator) → Member r.lists.staked.validators e → Member r.lists.staked.validators (e.1.operator, e.1)
under_own r h e m = subst (λ o. Member r.lists.staked.validators (o, e.1)) (sym (own_key r h e m)) m

-- ---- the parts of the list

module _ (r : PlainSeen) where
  abbrev holdings : List Item
  holdings = holding_items r.lists.bank

  abbrev ground : List Item
  ground = item.Head r.ctx.height r.ctx.time ∷ item.Parameters r.ctx.params ∷ holdings

  abbrev stakes : List Item
  stakes = staked_items r.lists.staked

  abbrev entries : List Item
  entries = entry_items r.lists.unbondings r.lists.redelegations

  abbrev signings : List Item
  signings = map (λ e. item.Signing e.0 e.1.info e.1.ring) r.lists.signings

  abbrev shared : List Item
  shared = shared_items r.pool r.lists.shared

  abbrev rewards : List Item
  rewards = reward_items r.lists.shared

  abbrev balances : List Item
  balances = map (λ e. item.Balance e.0.0 e.0.1 e.1) r.lists.bank.balances

  abbrev supplies : List Item
  supplies = map (λ e. item.Supply e.0 e.1) r.lists.bank.supplies

  abbrev validators : List Item
  validators = map (λ e. item.Validator e.1) r.lists.staked.validators

  abbrev delegations : List Item
  delegations = map (λ e. item.Delegation e.0.0 e.0.1 e.1) r.lists.staked.delegations

  abbrev unbondings : List Item
  unbondings = map (λ e. item.Unbonding e.0.0 e.0.1 e.1) r.lists.unbondings

  abbrev redelegations : List Item
  redelegations = map (λ e. item.Redelegation e.0.0 e.0.1 e.0.2 e.1) r.lists.redelegations

  abbrev purses : List Item
  purses = map (λ e. item.Purse e.0 e.1) r.lists.shared.purses

  abbrev pool : List Item
  pool = item.Pool r.pool ∷ []

  abbrev payees : List Item
  payees = map (λ e. item.Withdraw e.0 e.1) r.lists.shared.payees

  abbrev currents : List Item
  currents = map (λ e. item.CurrentPeriod e.0 e.1) r.lists.shared.currents

  abbrev histories : List Item
  histories = map (λ e. item.Historical e.0.0 e.0.1 e.1) r.lists.shared.histories

  abbrev starts : List Item
  starts = map (λ e. item.Start e.0.0 e.0.1 e.1) r.lists.shared.starts

  abbrev events : List Item
  events = map (λ e. item.Event e.0.0 (event_at e)) r.lists.shared.events

  in_ground : (i : Item) → Member ground i → Member (listed r) i
  in_ground i m = member-left (ground ++ stakes) (entries ++ (signings ++ shared)) i (member-left ground stakes i m)

  in_stakes : (i : Item) → Member stakes i → Member (listed r) i
  in_stakes i m = member-left (ground ++ stakes) (entries ++ (signings ++ shared)) i (member-right ground stakes i m)

  in_entries : (i : Item) → Member entries i → Member (listed r) i
  in_entries i m = member-right (ground ++ stakes) (entries ++ (signings ++ shared)) i (member-left entries (signings ++ shared) i m)

  in_signings : (i : Item) → Member signings i → Member (listed r) i
  in_signings i m = member-right (ground ++ stakes) (entries ++ (signings ++ shared)) i (member-right entries (signings ++ shared) i (member-left signings shared i m))

  in_shared : (i : Item) → Member shared i → Member (listed r) i
  in_shared i m = member-right (ground ++ stakes) (entries ++ (signings ++ shared)) i (member-right entries (signings ++ shared) i (member-right signings shared i m))

  in_purses : (i : Item) → Member (purses ++ pool) i → Member (listed r) i
  in_purses i m = in_shared i (member-left (purses ++ pool) (payees ++ rewards) i m)

  in_rewards : (i : Item) → Member rewards i → Member (listed r) i
  in_rewards i m = in_shared i (member-right (purses ++ pool) (payees ++ rewards) i (member-right payees rewards i m))

  in_later : (i : Item) → Member (histories ++ (starts ++ events)) i → Member (listed r) i
  in_later i m = in_rewards i (member-right currents (histories ++ (starts ++ events)) i m)

  pub stands_listed : (i : Item) → StandsIn r i → Member (listed r) i
  stands_listed (item.Head height time) h = in_ground (item.Head height time) (inl (λ j. item.Head (h.0 j) (h.1 j)))
  stands_listed (item.Parameters given) h = in_ground (item.Parameters given) (inr (inl (λ j. item.Parameters (h j))))
  stands_listed (item.Balance account denom amount) m =
      let i = item.Balance account denom amount in
      in_ground i (inr (inr (member-left balances supplies i (in_map (λ e. item.Balance e.0.0 e.0.1 e.1) r.lists.bank.balances ((account, denom), amount) m))))
  stands_listed (item.Supply denom amount) m =
      let i = item.Supply denom amount in
      in_ground i (inr (inr (member-right balances supplies i (in_map (λ e. item.Supply e.0 e.1) r.lists.bank.supplies (denom, amount) m))))
  stands_listed (item.Validator validator) m =
      let i = item.Validator validator in
      in_stakes i (member-left validators delegations i (in_map (λ e. item.Validator e.1) r.lists.staked.validators (validator.operator, validator) m))
  stands_listed (item.Delegation operator delegator shares) m =
      let i = item.Delegation operator delegator shares in
      in_stakes i (member-right validators delegations i (in_map (λ e. item.Delegation e.0.0 e.0.1 e.1) r.lists.staked.delegations ((operator, delegator), shares) m))
  stands_listed (item.Unbonding delegator operator list) m =
      let i = item.Unbonding delegator operator list in
      in_entries i (member-left unbondings redelegations i (in_map (λ e. item.Unbonding e.0.0 e.0.1 e.1) r.lists.unbondings ((delegator, operator), list) m))
  stands_listed (item.Redelegation delegator source target list) m =
      let i = item.Redelegation delegator source target list in
      in_entries i (member-right unbondings redelegations i (in_map (λ e. item.Redelegation e.0.0 e.0.1 e.0.2 e.1) r.lists.redelegations ((delegator, source, target), list) m))
  stands_listed (item.Signing cons info ring) m =
      in_signings (item.Signing cons info ring) (in_map (λ e. item.Signing e.0 e.1.info e.1.ring) r.lists.signings (cons, record { info = info; ring = ring }) m)
  stands_listed (item.Purse operator purse) m =
      let i = item.Purse operator purse in
      in_purses i (member-left purses pool i (in_map (λ e. item.Purse e.0 e.1) r.lists.shared.purses (operator, purse) m))
  stands_listed (item.Pool coins) h = in_purses (item.Pool coins) (member-right purses pool (item.Pool coins) (inl (λ j. item.Pool (h j))))
  stands_listed (item.Withdraw delegator to) m =
      let i = item.Withdraw delegator to in
      in_shared i (member-right (purses ++ pool) (payees ++ rewards) i (member-left payees rewards i (in_map (λ e. item.Withdraw e.0 e.1) r.lists.shared.payees (delegator, to) m)))
  stands_listed (item.CurrentPeriod operator period) m =
      let i = item.CurrentPeriod operator period in
      in_rewards i (member-left currents (histories ++ (starts ++ events)) i (in_map (λ e. item.CurrentPeriod e.0 e.1) r.lists.shared.currents (operator, period) m))
  stands_listed (item.Historical operator period history) m =
      let i = item.Historical operator period history in
      in_later i (member-left histories (starts ++ events) i (in_map (λ e. item.Historical e.0.0 e.0.1 e.1) r.lists.shared.histories ((operator, period), history) m))
  stands_listed (item.Start operator delegator info) m =
      let i = item.Start operator delegator info in
      in_later i (member-right histories (starts ++ events) i (member-left starts events i (in_map (λ e. item.Start e.0.0 e.0.1 e.1) r.lists.shared.starts ((operator, delegator), info) m)))
  stands_listed (item.Event operator event) m =
      let i = item.Event operator event in
      in_later i (member-right histories (starts ++ events) i (member-right starts events i (in_map (λ e. item.Event e.0.0 (event_at e)) r.lists.shared.events ((operator, event.height, event.period), event.fraction) m)))

  abbrev P : Item → Type 0
  P = StandsIn r

  ground_stands : (i : Item) → Member ground i → P i
  ground_stands i (inl q) = subst P q (refl, refl)
  ground_stands i (inr (inl q)) = subst P q refl
  ground_stands i (inr (inr m)) =
      from_both P balances supplies (from_map P (λ e. item.Balance e.0.0 e.0.1 e.1) r.lists.bank.balances (λ e n. n)) (from_map P (λ e. item.Supply e.0 e.1) r.lists.bank.supplies (λ e n. n)) i m

  stakes_stand : AreOwn r → (i : Item) → Member stakes i → P i
  stakes_stand h = from_both P validators delegations (from_map P (λ e. item.Validator e.1) r.lists.staked.validators (under_own r h))
      (from_map P (λ e. item.Delegation e.0.0 e.0.1 e.1) r.lists.staked.delegations (λ e n. n))

  entries_stand : (i : Item) → Member entries i → P i
  entries_stand = from_both P unbondings redelegations (from_map P (λ e. item.Unbonding e.0.0 e.0.1 e.1) r.lists.unbondings (λ e n. n))
      (from_map P (λ e. item.Redelegation e.0.0 e.0.1 e.0.2 e.1) r.lists.redelegations (λ e n. n))

  signings_stand : (i : Item) → Member signings i → P i
  signings_stand = from_map P (λ e. item.Signing e.0 e.1.info e.1.ring) r.lists.signings (λ e n. n)

  pool_stands : (i : Item) → Member pool i → P i
  pool_stands i (inl q) = subst P q refl
  pool_stands i (inr m) = absurd m

  rewards_stand : (i : Item) → Member rewards i → P i
  rewards_stand =
      from_both P currents (histories ++ (starts ++ events)) (from_map P (λ e. item.CurrentPeriod e.0 e.1) r.lists.shared.currents (λ e n. n))
      (from_both P histories (starts ++ events) (from_map P (λ e. item.Historical e.0.0 e.0.1 e.1) r.lists.shared.histories (λ e n. n))
      (from_both P starts events (from_map P (λ e. item.Start e.0.0 e.0.1 e.1) r.lists.shared.starts (λ e n. n))
      (from_map P (λ e. item.Event e.0.0 (event_at e)) r.lists.shared.events (λ e n. n))))

  shared_stands : (i : Item) → Member shared i → P i
  shared_stands =
      from_both P (purses ++ pool) (payees ++ rewards) (from_both P purses pool (from_map P (λ e. item.Purse e.0 e.1) r.lists.shared.purses (λ e n. n)) pool_stands)
      (from_both P payees rewards (from_map P (λ e. item.Withdraw e.0 e.1) r.lists.shared.payees (λ e n. n)) rewards_stand)

  pub listed_stands : AreOwn r → (i : Item) → Member (listed r) i → StandsIn r i
  listed_stands h =
      from_both P (ground ++ stakes) (entries ++ (signings ++ shared)) (from_both P ground stakes ground_stands (stakes_stand h))
      (from_both P entries (signings ++ shared) entries_stand (from_both P signings shared signings_stand shared_stands))

-- ---- records with the same items are the same

module _ (r q : PlainSeen) (up : AreAscending r.lists) (up2 : AreAscending q.lists)
    (f : (i : Item) → StandsIn r i → StandsIn q i) (g : (i : Item) → StandsIn q i → StandsIn r i) where
  same_validators : r.lists.staked.validators ≡ q.lists.staked.validators
  same_validators =
      same_entries addr_cmp addr_total r.lists.staked.validators q.lists.staked.validators up.validators up2.validators
      (λ e m. subst (λ o. Member q.lists.staked.validators (o, e.1)) (own_key r up.operators e m) (f (item.Validator e.1) (under_own r up.operators e m)))
      (λ e m. subst (λ o. Member r.lists.staked.validators (o, e.1)) (own_key q up2.operators e m) (g (item.Validator e.1) (under_own q up2.operators e m)))

  same_balances : r.lists.bank.balances ≡ q.lists.bank.balances
  same_balances =
      same_entries place_cmp place_total r.lists.bank.balances q.lists.bank.balances up.balances up2.balances
      (λ e m. f (item.Balance e.0.0 e.0.1 e.1) m) (λ e m. g (item.Balance e.0.0 e.0.1 e.1) m)

  same_supplies : r.lists.bank.supplies ≡ q.lists.bank.supplies
  same_supplies =
      same_entries denom_cmp denom_total r.lists.bank.supplies q.lists.bank.supplies up.supplies up2.supplies (λ e m. f (item.Supply e.0 e.1) m) (λ e m. g (item.Supply e.0 e.1) m)

  same_delegations : r.lists.staked.delegations ≡ q.lists.staked.delegations
  same_delegations =
      same_entries pair_cmp pair_total r.lists.staked.delegations q.lists.staked.delegations up.delegations up2.delegations
      (λ e m. f (item.Delegation e.0.0 e.0.1 e.1) m) (λ e m. g (item.Delegation e.0.0 e.0.1 e.1) m)

  same_unbondings : r.lists.unbondings ≡ q.lists.unbondings
  same_unbondings =
      same_entries pair_cmp pair_total r.lists.unbondings q.lists.unbondings up.unbondings up2.unbondings
      (λ e m. f (item.Unbonding e.0.0 e.0.1 e.1) m) (λ e m. g (item.Unbonding e.0.0 e.0.1 e.1) m)

  same_redelegations : r.lists.redelegations ≡ q.lists.redelegations
  same_redelegations =
      same_entries triple_cmp triple_total r.lists.redelegations q.lists.redelegations up.redelegations up2.redelegations
      (λ e m. f (item.Redelegation e.0.0 e.0.1 e.0.2 e.1) m) (λ e m. g (item.Redelegation e.0.0 e.0.1 e.0.2 e.1) m)

  same_signings : r.lists.signings ≡ q.lists.signings
  same_signings =
      same_entries cons_cmp cons_total r.lists.signings q.lists.signings up.signings up2.signings
      (λ e m. f (item.Signing e.0 e.1.info e.1.ring) m) (λ e m. g (item.Signing e.0 e.1.info e.1.ring) m)

  abbrev s : SharedSeen
  s = r.lists.shared

  abbrev t : SharedSeen
  t = q.lists.shared

  same_shared : s ≡ t
  same_shared = λ i. record {
    purses = same_entries addr_cmp addr_total s.purses t.purses up.shared.purses up2.shared.purses (λ e m. f (item.Purse e.0 e.1) m) (λ e m. g (item.Purse e.0 e.1) m) i;
    payees = same_entries addr_cmp addr_total s.payees t.payees up.shared.payees up2.shared.payees (λ e m. f (item.Withdraw e.0 e.1) m) (λ e m. g (item.Withdraw e.0 e.1) m) i;
    currents = same_entries addr_cmp addr_total s.currents t.currents up.shared.currents up2.shared.currents (λ e m. f (item.CurrentPeriod e.0 e.1) m) (λ e m. g (item.CurrentPeriod e.0 e.1) m) i;
    histories = same_entries period_cmp period_total s.histories t.histories up.shared.histories up2.shared.histories
        (λ e m. f (item.Historical e.0.0 e.0.1 e.1) m) (λ e m. g (item.Historical e.0.0 e.0.1 e.1) m) i;
    starts = same_entries pair_cmp pair_total s.starts t.starts up.shared.starts up2.shared.starts (λ e m. f (item.Start e.0.0 e.0.1 e.1) m) (λ e m. g (item.Start e.0.0 e.0.1 e.1) m) i;
    events = same_entries event_cmp event_total s.events t.events up.shared.events up2.shared.events (λ e m. f (item.Event e.0.0 (event_at e)) m) (λ e m. g (item.Event e.0.0 (event_at e)) m) i;
  }

  pub same_standing : r ≡ q
  same_standing =
      let head = f (item.Head r.ctx.height r.ctx.time) (refl, refl) in
      let given = f (item.Parameters r.ctx.params) refl in
      let coins = f (item.Pool r.pool) refl in
      λ i. record {
        ctx = record { height = sym head.0 i; time = sym head.1 i; params = sym given i };
        pool = sym coins i;
        lists = record {
          bank = record { balances = same_balances i; supplies = same_supplies i };
          staked = record { validators = same_validators i; delegations = same_delegations i };
          unbondings = same_unbondings i;
          redelegations = same_redelegations i;
          signings = same_signings i;
          shared = same_shared i;
        };
      }

-- Records whose keys ascend are the same where their lists have the same items, in whatever order.
pub same_records : (r q : PlainSeen) → AreAscending r.lists → AreAscending q.lists → ((i : Item) → Member (listed r) i → Member (listed q) i) → ((i : Item) → Member (listed q) i → Member (listed r) i) → r ≡ q
same_records r q up up2 f g =
    same_standing r q up up2 (λ i h. listed_stands q up2.operators i (f i (stands_listed r i h))) (λ i h. listed_stands r up.operators i (g i (stands_listed q i h)))
