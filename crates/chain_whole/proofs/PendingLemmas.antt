-- Pending rewards in the order of delegations, against those of the machine, by delegator first.
use Rattle.std.proofs.Common.{◌≡◌, ◌∙◌, ℕ, ◌+◌, ◌<◌, ◌≤◌, List, [], ◌∷◌, ◌++◌, map, take, length, get_or, Some, refl, sym, ap, subst, arith, ◌≢◌, All, Ordering, Less, Equal, Greater, is_eq, flat_map, IsPermutation, append-nil, take_all}
use Rattle.std.specs.{Ordering.match_ordering, Cmp.tied_itself, BTreeMap.insert_entry, List.AllByRecursion}
use Rattle.std.specs.{List.Sorted.IsStrictlySortedBy, Map.keys_of}
use Rattle.std.proofs.lemmas.{Grind.{common_steps, flat_map-append}, List.Elements.{All-append, All-get_or, All-map}}
use Rattle.std.proofs.lemmas.List.Sorted.{IsPermutation-append_right, IsPermutation-cons, IsPermutation-map, IsPermutation-middle, IsPermutation-refl, IsPermutation-sym, IsPermutation-trans}
use Rattle.base_types.proofs.MapLemmas.{all-put, equal}
use Rattle.base_roles.specs.{declared.{entities.Validator.Validator, items.Item.Item}, Orders.pair_cmp}
use Rattle.base_roles.specs.Staked.{Staked, delegation, validator_at}
use Rattle.base_roles.specs.declared.items.Item.TheVariants as item
use Rattle.base_messages.specs.declared.report.Pending.{Pending}
use Rattle.rule_modules.{specs.Chain.{State, Stakes}, proofs.{EntryLemmas.to_all, OrderLemmas.pair_total}}
use Rattle.rule_modules.proofs.SoundLemmas.{exact_pair}
use Rattle.mod_staking.specs.Items.{items_of}
use Rattle.rule_machine.specs.{Orders.entries_with, Report.{Delegations, by_delegator, pending_at, pending_of}}
use Rattle.chain_modules.specs.{declared.modules.Modules.Modules, Kept.{StandsFor, kept_of}, Marks.AreAtRest}
use Rattle.chain_whole.specs.Pending.{IsStanding, pending_for, pending_in, pending_of_item}

-- ---- entries that are put in order

module _ {K X : Type 0} (cmp : K → K → Ordering) where
  -- no entry has this key
  abbrev pub IsFresh : K → List (K × X) → Type 0
  IsFresh k es = AllByRecursion (λ y. cmp k y ≢ Equal) (keys_of es)

  -- none of these has a key of the first ones, or that of an earlier one
  abbrev pub AreFresh : List (K × X) → List (K × X) → Type 0
  AreFresh es [] = Unit {0}
  AreFresh es (n ∷ ns) = IsFresh n.0 es × AreFresh (n ∷ es) ns

  inserted : (k : K) (v : X) (es : List (K × X)) → IsFresh k es → IsPermutation ((k, v) ∷ es) (insert_entry cmp es k v)
  inserted k v [] h = IsPermutation-refl ((k, v) ∷ [])
  inserted k v (e ∷ es) h = by (cmp k e.0) h.0 (inserted k v es h.1)
    where
      by : (r : Ordering) → r ≢ Equal → IsPermutation ((k, v) ∷ es) (insert_entry cmp es k v) → IsPermutation ((k, v) ∷ e ∷ es) (match_ordering r ((k, v) ∷ e ∷ es) ((e.0, v) ∷ es) (e ∷ insert_entry cmp es k v))
      by Less n p = IsPermutation-refl ((k, v) ∷ e ∷ es)
      by Equal n p = absurd (n refl)
      by Greater n p =
          IsPermutation-trans ((k, v) ∷ e ∷ es) (e ∷ (k, v) ∷ es) (e ∷ insert_entry cmp es k v)
          (IsPermutation-sym (e ∷ (k, v) ∷ es) ((k, v) ∷ e ∷ es) (IsPermutation-middle (e ∷ []) (k, v) es)) (IsPermutation-cons e ((k, v) ∷ es) (insert_entry cmp es k v) p)

  moved : (ns es fs : List (K × X)) → ((m : K) → IsFresh m es → IsFresh m fs) → AreFresh es ns → AreFresh fs ns
  moved [] es fs h d = tt
  moved (n ∷ ns) es fs h d = (h n.0 d.0, moved ns (n ∷ es) (n ∷ fs) (λ m k. (k.0, h m k.1)) d.1)

  pub all_put : (ns es : List (K × X)) → AreFresh es ns → IsPermutation (ns ++ es) (entries_with cmp es ns)
  all_put [] es d = IsPermutation-refl es
  all_put (n ∷ ns) es d =
      let now : List (K × X) = insert_entry cmp es n.0 n.1 in
      IsPermutation-trans (n ∷ (ns ++ es)) (ns ++ n ∷ es) (entries_with cmp now ns)
      (IsPermutation-sym (ns ++ n ∷ es) (n ∷ (ns ++ es)) (IsPermutation-middle ns n es))
      (IsPermutation-trans (ns ++ n ∷ es) (ns ++ now) (entries_with cmp now ns) (IsPermutation-append_right ns (n ∷ es) now (inserted n.0 n.1 es d.0))
      (all_put ns now (moved ns (n ∷ es) now (λ m k. all-put cmp (λ y. cmp m y ≢ Equal) es n.0 n.1 k.0 k.1) d.1)))

-- ---- delegations

-- the key of a delegation, its delegator first
abbrev turned : List ℕ × List ℕ → List ℕ × List ℕ
turned k = (k.1, k.0)

abbrev turned_entry : (List ℕ × List ℕ) × ℕ → (List ℕ × List ℕ) × ℕ
turned_entry d = (turned d.0, d.1)

keys_apart : (a b : List ℕ × List ℕ) → pair_cmp a b ≡ Less → pair_cmp (turned b) (turned a) ≢ Equal
keys_apart a b l e =
    let t : turned b ≡ turned a = exact_pair (turned b) (turned a) e in
    let same : a ≡ b = λ i. ((sym t i).1, (sym t i).0) in
    let own : pair_cmp a a ≡ Less = ap (pair_cmp a) same ∙ l in
    let tied : pair_cmp a a ≡ Equal = equal (pair_cmp a a) (ap is_eq (tied_itself pair_total a)) in
    let clash : Less ≡ Equal = sym own ∙ tied in cc

module _ (d : (List ℕ × List ℕ) × ℕ) (es : Delegations) where
  one_more : (ds : Delegations) → AllByRecursion (λ y. pair_cmp d.0 y ≡ Less) (keys_of ds) → AllByRecursion (λ x. IsFresh pair_cmp (turned x.0) es) ds → AllByRecursion (λ x. IsFresh pair_cmp (turned x.0) (turned_entry d ∷ es)) ds
  one_more [] l f = tt
  one_more (x ∷ ds) l f = ((keys_apart d.0 x.0 l.0, f.0), one_more ds l.1 f.1)

fresh_all : (ds es : Delegations) → IsStrictlySortedBy pair_cmp (keys_of ds) → AllByRecursion (λ x. IsFresh pair_cmp (turned x.0) es) ds → AreFresh pair_cmp es (map turned_entry ds)
unfolding IsStrictlySortedBy
fresh_all [] es s f = tt
fresh_all (d ∷ ds) es s f = (f.0, fresh_all ds (turned_entry d ∷ es) s.1 (one_more d es ds s.0 f.1))

none_yet : (ds : Delegations) → AllByRecursion (λ x. IsFresh {X = ℕ} pair_cmp (turned x.0) []) ds
none_yet [] = tt
none_yet (d ∷ ds) = (tt, none_yet ds)

-- by delegator they are the same delegations
pub delegations_permuted : (ds : Delegations) → IsStrictlySortedBy pair_cmp (keys_of ds) → IsPermutation (map turned_entry ds) (by_delegator ds)
delegations_permuted ds s = subst (λ l. IsPermutation l (by_delegator ds)) (append-nil (map turned_entry ds)) (all_put pair_cmp (map turned_entry ds) [] (fresh_all ds [] s (none_yet ds)))

turned_pending : (p : State) (ds : Delegations) → map (λ d. record { delegator = d.0.0; operator = d.0.1; coins = pending_at (validator_at p.mine.staked d.0.1) d.0.0 d.1 p }) (map turned_entry ds) ≡ map (λ e. pending_for p e.0.0 e.0.1 e.1) ds
turned_pending p [] = refl
turned_pending p (d ∷ ds) = ap (λ (l : List Pending). pending_for p d.0.0 d.0.1 d.1 ∷ l) (turned_pending p ds)

-- The machine's pending rewards are those of all delegations, in another order.
pub pending_permuted : (p : State) → IsStrictlySortedBy pair_cmp (keys_of p.mine.staked.delegations) → IsPermutation (pending_of p) (pending_in p)
pending_permuted p s =
    let f : (List ℕ × List ℕ) × ℕ → Pending = λ d. record { delegator = d.0.0; operator = d.0.1; coins = pending_at (validator_at p.mine.staked d.0.1) d.0.0 d.1 p } in
    let ds : Delegations = p.mine.staked.delegations in
    IsPermutation-sym (pending_in p) (pending_of p) (subst (λ l. IsPermutation l (pending_of p)) (turned_pending p ds) (IsPermutation-map f (map turned_entry ds) (by_delegator ds) (delegations_permuted ds s)))

-- ---- the items of delegations

after_validators : (p : State) (vs : List (List ℕ × Validator)) (items : List Item) → flat_map (pending_of_item p) (map (λ e. item.Validator e.1) vs ++ items) ≡ flat_map (pending_of_item p) items
after_validators p [] items = refl
after_validators p (v ∷ vs) items = after_validators p vs items

of_delegations : (p : State) (ds : Delegations) → flat_map (pending_of_item p) (map (λ e. item.Delegation e.0.0 e.0.1 e.1) ds) ≡ map (λ e. pending_for p e.0.0 e.0.1 e.1) ds
of_delegations p [] = refl
of_delegations p (d ∷ ds) = ap (λ (l : List Pending). pending_for p d.0.0 d.0.1 d.1 ∷ l) (of_delegations p ds)

-- the pending rewards of the items of staking are those of all delegations
pub pending_of_items : (p : State) → flat_map (pending_of_item p) (items_of p.mine.staked) ≡ pending_in p
pending_of_items p = after_validators p p.mine.staked.validators (map (λ e. item.Delegation e.0.0 e.0.1 e.1) p.mine.staked.delegations) ∙ of_delegations p p.mine.staked.delegations

validators_stand : (s : Staked) (vs : List (List ℕ × Validator)) → All (λ e. IsStanding s (item.Validator e.1)) vs
validators_stand s vs = λ i d lt. tt

-- an item of staking that is a delegation is one that stands
all_stand : (s : Staked) → IsStrictlySortedBy pair_cmp (keys_of s.delegations) → All (IsStanding s) (items_of s)
all_stand s o =
    All-append (IsStanding s) (map (λ e. item.Validator e.1) s.validators) (map (λ e. item.Delegation e.0.0 e.0.1 e.1) s.delegations)
    (All-map (IsStanding s) (λ e. item.Validator e.1) s.validators (validators_stand s s.validators))
    (All-map (IsStanding s) (λ e. item.Delegation e.0.0 e.0.1 e.1) s.delegations (to_all pair_cmp pair_total (λ e. delegation s e.0.1 e.0.0 ≡ Some e.1) s.delegations o (λ k n h. h)))

-- so is the one at a place of those of modules at rest
pub one_stands : {E : Type 0} (m : Modules E) → AreAtRest m → (items : List Item) (i : ℕ) (x : Item) → items ≡ items_of m.stakes.staking.staked → i < length items → x ≡ get_or items i x → IsStanding m.stakes.staking.staked x
one_stands m rest items i x e lt is =
    let s : Staked = m.stakes.staking.staked in
    let ascend : IsStrictlySortedBy pair_cmp (keys_of s.delegations) = subst (λ (k : Stakes). IsStrictlySortedBy pair_cmp (keys_of k.staked.delegations)) rest.stands.keeps.stakes rest.stands.sound.staked.delegations_ascend in
    subst (IsStanding s) (sym is) (All-get_or (IsStanding s) items i x lt (subst (All (IsStanding s)) (sym e) (all_stand s ascend)))

-- one more item gives its pending reward
pub pending_more : (p : State) (items : List Item) (i : ℕ) (x : Item) (list list2 : List Pending) → i < length items → x ≡ get_or items i x → list ≡ flat_map (pending_of_item p) (take i items)
    → list2 ≡ list ++ pending_of_item p x → list2 ≡ flat_map (pending_of_item p) (take (i + 1) items)
pending_more p items i x list list2 lt is so e =
    e ∙ ap (λ (l : List Pending). l ++ pending_of_item p x) so ∙ ap (λ (y : Item). flat_map (pending_of_item p) (take i items) ++ pending_of_item p y) is ∙ sym (more items i x lt)
  where
    more : (xs : List Item) (j : ℕ) (d : Item) → j < length xs → flat_map (pending_of_item p) (take (j + 1) xs) ≡ flat_map (pending_of_item p) (take j xs) ++ pending_of_item p (get_or xs j d)
    more xs j d l = grind (arith, common_steps, flat_map-append)

-- and all items those of all delegations
pub all_pending : {E : Type 0} (m : Modules E) (p : State) → StandsFor (kept_of m) p → (items : List Item) (i : ℕ) (list : List Pending) → items ≡ items_of m.stakes.staking.staked → length items ≤ i
    → list ≡ flat_map (pending_of_item p) (take i items) → list ≡ pending_in p
all_pending m p s items i list e most so =
    so ∙ ap (λ (l : List Item). flat_map (pending_of_item p) l) (take_all i items most ∙ e ∙ ap (λ (k : Stakes). items_of k.staked) (sym s.keeps.stakes)) ∙ pending_of_items p
