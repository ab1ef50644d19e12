-- Records whose keys ascend list no key twice; and what stands once in a list does so in every order.
use Rattle.std.proofs.Common.{◌≡◌, ◌∙◌, ℕ, suc, zero, ◌<◌, ◌≤◌, List, [], ◌∷◌, ◌++◌, length, get_or, map, refl, sym, ap, subst, arith, inl, inr, ◌⊎◌, swap, Ordering, Less, Equal, IsPermutation}
use Rattle.std.specs.{Cmp.IsTotalOrder, List.{AllByRecursion, Sorted.IsStrictlySortedBy}, Map.keys_of}
use Rattle.std.proofs.lemmas.{Bool.{cases_eq, cases_lt}, Cmp.tied_itself, List.map-append}
use Rattle.std.proofs.lemmas.List.{Edits.{Swapped, swapped_from_swap, length-swap}, Elements.recursion_from_All}
use Rattle.std.proofs.lemmas.List.Sorted.{IsPermutation-keeps}
use Rattle.base_types.specs.Orders.{addr_cmp, cons_cmp, denom_cmp}
use Rattle.base_coins.specs.Coins.{Money}
use Rattle.base_roles.specs.declared.{entities.{SlashEvent.SlashEvent, Validator.Validator}, items.Item.Item}
use Rattle.base_roles.specs.Items.{key_of, no_address, no_info, no_purse, no_validator}
use Rattle.base_roles.{specs.Orders.{pair_cmp, place_cmp, triple_cmp}, proofs.HoldingLemmas.{denom_total, place_total}}
use Rattle.base_roles.specs.declared.items.Item.TheVariants as item
use Rattle.base_records.proofs.MemberLemmas.{Member, Once, member, contained, member-cases, once-append}
use Rattle.rule_modules.proofs.OrderLemmas.{addr_total, cons_total, pair_total}
use Rattle.rule_machine.specs.Items.{entry_items, holding_items, staked_items}
use Rattle.store_records.specs.Plain.{PlainSeen, SharedSeen, AreAscending, event_at, event_cmp, listed, period_cmp, reward_items, shared_items}
use Rattle.store_records.proofs.OrderLemmas.{event_total, period_total, triple_total}

-- ---- the same in another order

-- where a place went when two changed places
moved : {A : Type 0} (f g : ℕ → A) (a b n : ℕ) → Swapped f g a b → a < n → b < n → (p : ℕ) → p < n
    → (s : ℕ) × (s < n) × (g p ≡ f s) × (p ≡ a → s ≡ b) × (p ≡ b → s ≡ a) × ((p ≡ a → ⊥) → (p ≡ b → ⊥) → s ≡ p)
moved f g a b n sw la lb p lp = by (cases_eq p a) (cases_eq p b)
  where
    by : (p ≡ a) ⊎ (p ≡ a → ⊥) → (p ≡ b) ⊎ (p ≡ b → ⊥) → (s : ℕ) × (s < n) × (g p ≡ f s) × (p ≡ a → s ≡ b) × (p ≡ b → s ≡ a) × ((p ≡ a → ⊥) → (p ≡ b → ⊥) → s ≡ p)
    by (inl e) other = (b, lb, ap g e ∙ sw.0, (λ x. refl), (λ x. sym x ∙ e), (λ x y. absurd (x e)))
    by (inr u) (inl e) = (a, la, ap g e ∙ sw.1, (λ x. absurd (u x)), (λ x. refl), (λ x y. absurd (y e)))
    by (inr u) (inr v) = (p, lp, sw.2 p u v, (λ x. absurd (u x)), (λ x. absurd (v x)), (λ x y. refl))

images_differ : (a b i j s t : ℕ) → (i ≡ j → ⊥) → (i ≡ a → s ≡ b) → (i ≡ b → s ≡ a) → ((i ≡ a → ⊥) → (i ≡ b → ⊥) → s ≡ i) → (j ≡ a → t ≡ b) → (j ≡ b → t ≡ a) → ((j ≡ a → ⊥) → (j ≡ b → ⊥) → t ≡ j) → s ≡ t → ⊥
images_differ a b i j s t ne p q r x y z e = grind arith

module _ {A : Type 0} where
  -- no two places have one element
  abbrev AreApart : List A → Type 0
  AreApart xs = (i j : ℕ) (d : A) → i < j → j < length xs → get_or xs i d ≡ get_or xs j d → ⊥

  either_way : (xs : List A) → AreApart xs → (i j : ℕ) (d : A) → (i ≡ j → ⊥) → i < length xs → j < length xs → get_or xs i d ≡ get_or xs j d → ⊥
  either_way xs h i j d ne p q e = by (cases_lt i j)
    where
      by : (i < j) ⊎ (j ≤ i) → ⊥
      by (inl l) = h i j d l q e
      by (inr l) = h j i d (omega (arith, l, ne)) p (sym e)

  place : (xs : List A) (x d : A) → Member xs x → (j : ℕ) × (j < length xs) × (get_or xs j d ≡ x)
  place [] x d m = absurd m
  place (y ∷ ys) x d (inl e) = (0, omega arith, e)
  place (y ∷ ys) x d (inr m) = let r = place ys x d m in (suc r.0, omega (arith, r.1), r.2)

  there : (xs : List A) (j : ℕ) (d : A) → j < length xs → Member xs (get_or xs j d)
  there [] j d lt = absurd (omega (arith, lt))
  there (y ∷ ys) zero d lt = inl refl
  there (y ∷ ys) (suc j) d lt = let less : j < length ys = omega (arith, lt) in inr (there ys j d less)

  apart : (xs : List A) → Once xs → AreApart xs
  apart [] o i j d l lt e = absurd (omega (arith, lt))
  apart (x ∷ xs) o i zero d l lt e = absurd (omega (arith, l))
  apart (x ∷ xs) o zero (suc j) d l lt e = let less : j < length xs = omega (arith, lt) in o.0 (subst (Member xs) (sym e) (there xs j d less))
  apart (x ∷ xs) o (suc i) (suc j) d l lt e = let less : j < length xs = omega (arith, lt) in let below : i < j = omega (arith, l) in apart xs o.1 i j d below less e

  once : (xs : List A) → AreApart xs → Once xs
  once [] h = tt
  once (x ∷ xs) h = (first, once xs (λ i j d l lt e. let less : suc i < suc j = omega (arith, l) in let most : suc j < length (x ∷ xs) = omega (arith, lt) in h (suc i) (suc j) d less most e))
    where
      first : Member xs x → ⊥
      first m =
          let r = place xs x x m in
          let most : suc r.0 < length (x ∷ xs) = omega (arith, r.1) in
          let less : 0 < suc r.0 = omega arith in
          h 0 (suc r.0) x less most (sym r.2)

  swapped_apart : (xs : List A) (a b : ℕ) → a < length xs → b < length xs → AreApart xs → AreApart (swap xs a b)
  swapped_apart xs a b la lb h i j d l lt e =
      let long = length-swap xs a b in
      let j_less : j < length xs = omega (arith, long, lt) in
      let i_less : i < length xs = omega (arith, l, j_less) in
      let sw = swapped_from_swap xs (swap xs a b) a b d la lb refl in
      let u = moved (λ k. get_or xs k d) (λ k. get_or (swap xs a b) k d) a b (length xs) sw la lb i i_less in
      let v = moved (λ k. get_or xs k d) (λ k. get_or (swap xs a b) k d) a b (length xs) sw la lb j j_less in
      let differ : i ≡ j → ⊥ = λ q. omega (arith, q, l) in
      either_way xs h u.0 v.0 d (images_differ a b i j u.0 v.0 differ u.3 u.4 u.5 v.3 v.4 v.5) u.1 v.1 (sym u.2 ∙ e ∙ v.2)

  -- what stands once does so in every order
  pub once_anyway : (xs ys : List A) → IsPermutation xs ys → Once xs → Once ys
  once_anyway xs ys p o = once ys (IsPermutation-keeps xs AreApart (apart xs o) (λ l a b la lb h. swapped_apart l a b la lb h) ys p)

-- ---- kinds of items

-- the number of an item's kind, in the order of the list
abbrev pub kind_of : Item → ℕ
kind_of (item.Head height time) = 0
kind_of (item.Parameters params) = 1
kind_of (item.Balance account denom amount) = 2
kind_of (item.Supply denom amount) = 3
kind_of (item.Validator validator) = 4
kind_of (item.Delegation operator delegator shares) = 5
kind_of (item.Unbonding delegator operator entries) = 6
kind_of (item.Redelegation delegator source target entries) = 7
kind_of (item.Signing cons info ring) = 8
kind_of (item.Purse operator purse) = 9
kind_of (item.Pool coins) = 10
kind_of (item.Withdraw delegator to) = 11
kind_of (item.CurrentPeriod operator period) = 12
kind_of (item.Historical operator period history) = 13
kind_of (item.Start operator delegator info) = 14
kind_of (item.Event operator event) = 15

-- each key stands once, and kinds are from one number up to another
record AreKeys (low high : ℕ) (items : List Item) : Type 0 where
  once : Once (map key_of items)
  above : (k : Item) → Member (map key_of items) k → low ≤ kind_of k
  below : (k : Item) → Member (map key_of items) k → kind_of k < high

both : (low mid high : ℕ) (xs ys : List Item) → low ≤ mid → mid ≤ high → AreKeys low mid xs → AreKeys mid high ys → AreKeys low high (xs ++ ys)
both low mid high xs ys l h a b =
    let keys = map-append key_of xs ys in
    record {
      once = subst Once (sym keys) (once-append (map key_of xs) (map key_of ys) a.once b.once apart_keys);
      above = λ k m. least k (member-cases (map key_of xs) (map key_of ys) k (subst (λ (ks : List Item). Member ks k) keys m));
      below = λ k m. most k (member-cases (map key_of xs) (map key_of ys) k (subst (λ (ks : List Item). Member ks k) keys m));
    }
  where
    apart_keys : (k : Item) → Member (map key_of xs) k → Member (map key_of ys) k → ⊥
    apart_keys k m n = let p : kind_of k < mid = a.below k m in let q : mid ≤ kind_of k = b.above k n in absurd (omega (arith, p, q))

    least : (k : Item) → Member (map key_of xs) k ⊎ Member (map key_of ys) k → low ≤ kind_of k
    least k (inl m) = a.above k m
    least k (inr m) = let q : mid ≤ kind_of k = b.above k m in omega (arith, l, q)

    most : (k : Item) → Member (map key_of xs) k ⊎ Member (map key_of ys) k → kind_of k < high
    most k (inl m) = let p : kind_of k < mid = a.below k m in omega (arith, h, p)
    most k (inr m) = b.below k m

-- one item alone
alone : (n : ℕ) (i : Item) → kind_of (key_of i) ≡ n → AreKeys n (suc n) (i ∷ [])
alone n i e = record { once = ((λ m. m), tt); above = λ k m. least k m; below = λ k m. most k m }
  where
    least : (k : Item) → Member (key_of i ∷ []) k → n ≤ kind_of k
    least k (inl q) = let is : kind_of k ≡ n = ap kind_of (sym q) ∙ e in omega (arith, is)
    least k (inr m) = absurd m

    most : (k : Item) → Member (key_of i ∷ []) k → kind_of k < suc n
    most k (inl q) = let is : kind_of k ≡ n = ap kind_of (sym q) ∙ e in omega (arith, is)
    most k (inr m) = absurd m

-- the items of entries whose keys ascend
module _ {K X : Type 0} (cmp : K → K → Ordering) (o : IsTotalOrder cmp) (of : K × X → Item) (gone : K → Item) (n : ℕ) (kind : (k : K) → kind_of (gone k) ≡ n) (told : (k q : K) → gone k ≡ gone q → k ≡ q) where
  -- each item has the key of its entry
  abbrev AreTold : List (K × X) → Type 0
  AreTold es = AllByRecursion (λ e. key_of (of e) ≡ gone e.0) es

  none_below : (k : K) (es : List (K × X)) → AreTold es → AllByRecursion (λ y. cmp k y ≡ Less) (keys_of es) → Member (map key_of (map of es)) (gone k) → ⊥
  none_below k [] t h m = m
  none_below k (e ∷ es) t h (inl q) =
      let same : e.0 ≡ k = told e.0 k (sym t.0 ∙ q) in
      let tied : Less ≡ Equal = sym h.0 ∙ ap (cmp k) same ∙ tied_itself o k in
      cc
  none_below k (e ∷ es) t h (inr m) = none_below k es t.1 h.1 m

  rows_once : (es : List (K × X)) → AreTold es → IsStrictlySortedBy cmp (keys_of es) → Once (map key_of (map of es))
  unfolding IsStrictlySortedBy
  rows_once [] t s = tt
  rows_once (e ∷ es) t s = ((λ m. none_below e.0 es t.1 s.0 (subst (Member (map key_of (map of es))) t.0 m)), rows_once es t.1 s.1)

  rows_kind : (es : List (K × X)) → AreTold es → (k : Item) → Member (map key_of (map of es)) k → kind_of k ≡ n
  rows_kind [] t k m = absurd m
  rows_kind (e ∷ es) t k (inl q) = ap kind_of (sym q ∙ t.0) ∙ kind e.0
  rows_kind (e ∷ es) t k (inr m) = rows_kind es t.1 k m

  keys : (es : List (K × X)) → AreTold es → IsStrictlySortedBy cmp (keys_of es) → AreKeys n (suc n) (map of es)
  keys es t s = record {
    once = rows_once es t s;
    above = λ k m. let is = rows_kind es t k m in omega (arith, is);
    below = λ k m. let is = rows_kind es t k m in omega (arith, is);
  }

  module _ (each : (e : K × X) → key_of (of e) ≡ gone e.0) where
    all_told : (es : List (K × X)) → AreTold es
    all_told [] = tt
    all_told (e ∷ es) = (each e, all_told es)

    rows : (es : List (K × X)) → IsStrictlySortedBy cmp (keys_of es) → AreKeys n (suc n) (map of es)
    rows es s = keys es (all_told es) s

-- ---- each kind

one_validator : (v w : Validator) → item.Validator v ≡ item.Validator w → v ≡ w
one_validator v w e = cc

operator_told : (k q : List ℕ) → item.Validator (no_validator k) ≡ item.Validator (no_validator q) → k ≡ q
operator_told k q e = ap (λ v. v.operator) (one_validator (no_validator k) (no_validator q) e)

operators : (es : List (List ℕ × Validator)) → AllByRecursion (λ e. e.1.operator ≡ e.0) es → AllByRecursion (λ e. item.Validator (no_validator e.1.operator) ≡ item.Validator (no_validator e.0)) es
operators [] h = tt
operators (e ∷ es) h = (ap (λ (o : List ℕ). item.Validator (no_validator o)) h.0, operators es h.1)

one_event : (o p : List ℕ) (x y : SlashEvent) → item.Event o x ≡ item.Event p y → (o ≡ p) × (x ≡ y)
one_event o p x y e = (cc, cc)

-- the key of an event
abbrev event_gone : List ℕ × ℕ × ℕ → Item
event_gone k = item.Event k.0 (record { height = k.1; period = k.2; fraction = 0 })

event_told : (k q : List ℕ × ℕ × ℕ) → event_gone k ≡ event_gone q → k ≡ q
event_told k q e =
    let p = one_event k.0 q.0 (record { height = k.1; period = k.2; fraction = 0 }) (record { height = q.1; period = q.2; fraction = 0 }) e in
    λ i. (p.0 i, (p.1 i).height, (p.1 i).period)

module _ (r : PlainSeen) (a : AreAscending r.lists) where
  ground : AreKeys 0 4 (item.Head r.ctx.height r.ctx.time ∷ item.Parameters r.ctx.params ∷ holding_items r.lists.bank)
  ground =
      let l = r.lists.bank in
      let balances = rows place_cmp place_total (λ e. item.Balance e.0.0 e.0.1 e.1) (λ k. item.Balance k.0 k.1 0) 2 (λ k. refl) (λ k q e. let x : k.0 ≡ q.0 = cc in let y : k.1 ≡ q.1 = cc in λ i. (x i, y i)) (λ e. refl) l.balances a.balances in
      let supplies = rows denom_cmp denom_total (λ e. item.Supply e.0 e.1) (λ k. item.Supply k 0) 3 (λ k. refl) (λ k q e. cc) (λ e. refl) l.supplies a.supplies in
      both 0 1 4 (item.Head r.ctx.height r.ctx.time ∷ []) (item.Parameters r.ctx.params ∷ holding_items l) (omega arith) (omega arith) (alone 0 (item.Head r.ctx.height r.ctx.time) refl)
      (both 1 2 4 (item.Parameters r.ctx.params ∷ []) (holding_items l) (omega arith) (omega arith) (alone 1 (item.Parameters r.ctx.params) refl)
      (both 2 3 4 (map (λ e. item.Balance e.0.0 e.0.1 e.1) l.balances) (map (λ e. item.Supply e.0 e.1) l.supplies) (omega arith) (omega arith) balances supplies))

  stakes : AreKeys 4 6 (staked_items r.lists.staked)
  stakes =
      let l = r.lists.staked in
      let validators = keys addr_cmp addr_total (λ e. item.Validator e.1) (λ k. item.Validator (no_validator k)) 4 (λ k. refl) operator_told l.validators
      (operators l.validators (recursion_from_All (λ e. e.1.operator ≡ e.0) l.validators a.operators)) a.validators in
      let delegations = rows pair_cmp pair_total (λ e. item.Delegation e.0.0 e.0.1 e.1) (λ k. item.Delegation k.0 k.1 0) 5 (λ k. refl) (λ k q e. let x : k.0 ≡ q.0 = cc in let y : k.1 ≡ q.1 = cc in λ i. (x i, y i)) (λ e. refl) l.delegations a.delegations in
      both 4 5 6 (map (λ e. item.Validator e.1) l.validators) (map (λ e. item.Delegation e.0.0 e.0.1 e.1) l.delegations) (omega arith) (omega arith) validators delegations

  entries : AreKeys 6 8 (entry_items r.lists.unbondings r.lists.redelegations)
  entries =
      let l = r.lists in
      let unbondings = rows pair_cmp pair_total (λ e. item.Unbonding e.0.0 e.0.1 e.1) (λ k. item.Unbonding k.0 k.1 []) 6 (λ k. refl) (λ k q e. let x : k.0 ≡ q.0 = cc in let y : k.1 ≡ q.1 = cc in λ i. (x i, y i)) (λ e. refl) l.unbondings a.unbondings in
      let redelegations = rows triple_cmp triple_total (λ e. item.Redelegation e.0.0 e.0.1 e.0.2 e.1) (λ k. item.Redelegation k.0 k.1 k.2 []) 7 (λ k. refl)
      (λ k q e. let x : k.0 ≡ q.0 = cc in let y : k.1 ≡ q.1 = cc in let z : k.2 ≡ q.2 = cc in λ i. (x i, y i, z i)) (λ e. refl) l.redelegations a.redelegations in
      both 6 7 8 (map (λ e. item.Unbonding e.0.0 e.0.1 e.1) l.unbondings) (map (λ e. item.Redelegation e.0.0 e.0.1 e.0.2 e.1) l.redelegations) (omega arith) (omega arith) unbondings redelegations

  signings : AreKeys 8 9 (map (λ e. item.Signing e.0 e.1.info e.1.ring) r.lists.signings)
  signings = rows cons_cmp cons_total (λ e. item.Signing e.0 e.1.info e.1.ring) (λ k. item.Signing k no_info []) 8 (λ k. refl) (λ k q e. cc) (λ e. refl) r.lists.signings a.signings

  rewards : AreKeys 12 16 (reward_items r.lists.shared)
  rewards =
      let l = r.lists.shared in
      let currents = rows addr_cmp addr_total (λ e. item.CurrentPeriod e.0 e.1) (λ k. item.CurrentPeriod k 0) 12 (λ k. refl) (λ k q e. cc) (λ e. refl) l.currents a.shared.currents in
      let histories = rows period_cmp period_total (λ e. item.Historical e.0.0 e.0.1 e.1) (λ k. item.Historical k.0 k.1 (record { ratio = []; count = 0 })) 13 (λ k. refl)
      (λ k q e. let x : k.0 ≡ q.0 = cc in let y : k.1 ≡ q.1 = cc in λ i. (x i, y i)) (λ e. refl) l.histories a.shared.histories in
      let starts = rows pair_cmp pair_total (λ e. item.Start e.0.0 e.0.1 e.1) (λ k. item.Start k.0 k.1 (record { period = 0; stake = 0; height = 0 })) 14 (λ k. refl)
      (λ k q e. let x : k.0 ≡ q.0 = cc in let y : k.1 ≡ q.1 = cc in λ i. (x i, y i)) (λ e. refl) l.starts a.shared.starts in
      let events = rows event_cmp event_total (λ e. item.Event e.0.0 (event_at e)) event_gone 15 (λ k. refl) event_told (λ e. refl) l.events a.shared.events in
      both 12 13 16 (map (λ e. item.CurrentPeriod e.0 e.1) l.currents)
      (map (λ e. item.Historical e.0.0 e.0.1 e.1) l.histories ++ (map (λ e. item.Start e.0.0 e.0.1 e.1) l.starts ++ map (λ e. item.Event e.0.0 (event_at e)) l.events)) (omega arith) (omega arith) currents
      (both 13 14 16 (map (λ e. item.Historical e.0.0 e.0.1 e.1) l.histories) (map (λ e. item.Start e.0.0 e.0.1 e.1) l.starts ++ map (λ e. item.Event e.0.0 (event_at e)) l.events) (omega arith) (omega arith) histories
      (both 14 15 16 (map (λ e. item.Start e.0.0 e.0.1 e.1) l.starts) (map (λ e. item.Event e.0.0 (event_at e)) l.events) (omega arith) (omega arith) starts events))

  shared : AreKeys 9 16 (shared_items r.pool r.lists.shared)
  shared =
      let l = r.lists.shared in
      let purses = rows addr_cmp addr_total (λ e. item.Purse e.0 e.1) (λ k. item.Purse k no_purse) 9 (λ k. refl) (λ k q e. cc) (λ e. refl) l.purses a.shared.purses in
      let payees = rows addr_cmp addr_total (λ e. item.Withdraw e.0 e.1) (λ k. item.Withdraw k no_address) 11 (λ k. refl) (λ k q e. cc) (λ e. refl) l.payees a.shared.payees in
      both 9 11 16 (map (λ e. item.Purse e.0 e.1) l.purses ++ item.Pool r.pool ∷ []) (map (λ e. item.Withdraw e.0 e.1) l.payees ++ reward_items l) (omega arith) (omega arith)
      (both 9 10 11 (map (λ e. item.Purse e.0 e.1) l.purses) (item.Pool r.pool ∷ []) (omega arith) (omega arith) purses (alone 10 (item.Pool r.pool) refl))
      (both 11 12 16 (map (λ e. item.Withdraw e.0 e.1) l.payees) (reward_items l) (omega arith) (omega arith) payees rewards)

  all_keys : AreKeys 0 16 (listed r)
  all_keys =
      let l = r.lists in
      both 0 6 16 ((item.Head r.ctx.height r.ctx.time ∷ item.Parameters r.ctx.params ∷ holding_items l.bank) ++ staked_items l.staked)
      (entry_items l.unbondings l.redelegations ++ (map (λ e. item.Signing e.0 e.1.info e.1.ring) l.signings ++ shared_items r.pool l.shared)) (omega arith) (omega arith)
      (both 0 4 6 (item.Head r.ctx.height r.ctx.time ∷ item.Parameters r.ctx.params ∷ holding_items l.bank) (staked_items l.staked) (omega arith) (omega arith) ground stakes)
      (both 6 8 16 (entry_items l.unbondings l.redelegations) (map (λ e. item.Signing e.0 e.1.info e.1.ring) l.signings ++ shared_items r.pool l.shared) (omega arith) (omega arith) entries
      (both 8 9 16 (map (λ e. item.Signing e.0 e.1.info e.1.ring) l.signings) (shared_items r.pool l.shared) (omega arith) (omega arith) signings shared))

-- No key stands twice in the list of records whose keys ascend.
pub listed_once : (r : PlainSeen) → AreAscending r.lists → Once (map key_of (listed r))
listed_once r a = let k = all_keys r a in k.once
