-- The items of distribution, each of its kind, and with one more.
use Rattle.std.proofs.Common.{◌≡◌, ◌∙◌, ℕ, Bool, true, false, List, [], ◌∷◌, ◌++◌, refl, sym, ap, subst, ◌||◌, is_some}
use Rattle.std.specs.{BTreeMap.insert_entry, List.Sorted.IsStrictlySortedBy, Map.keys_of}
use Rattle.base_types.specs.Orders.{addr_cmp}
use Rattle.base_roles.specs.{declared.items.Item.Item, Orders.pair_cmp, Items.{IsOnce, IsAdded, AreChanges, HasRoom}}
use Rattle.base_roles.specs.declared.items.Item.TheVariants as item
use Rattle.rule_modules.{proofs.OrderLemmas.{addr_total, pair_total}, specs.Purses.Purses}
use Rattle.base_records.specs.{Kinds.{AreOf, either}, Items.{rows_of, AnyValue}}
use Rattle.base_records.proofs.KindLemmas.{added-first, added-second, by-either, changes-both, of-both, once-both}
use Rattle.base_records.proofs.MemberLemmas.{member, contained, member-left, member-right}
use Rattle.base_records.proofs.RowLemmas.{row-added, rows-of-kind}
use Rattle.mod_allocation.specs.Items.{is_shared, is_pool, purse_item, purse_gone, purse_entry, pool_item, same_purse}
use Rattle.mod_allocation.proofs.KindLemmas.{purse-rowed, of-pool}
use Rattle.mod_allocation.specs.Items as alloc
use Rattle.mod_periods.specs.Kept as f1_kept
use Rattle.mod_periods.proofs.KindLemmas.{current-rowed, historical-rowed, start-rowed, event-rowed}
use Rattle.mod_periods.proofs.OrderLemmas.{period_total, event_total}
use Rattle.mod_periods.specs.Items.{is_record, current_item, current_gone, current_entry, historical_item, historical_gone, historical_entry, start_item, start_gone, start_entry, event_item, event_gone, event_entry, same_period, same_history, same_start}
use Rattle.mod_periods.specs.Items as f1
use Rattle.mod_distribution.specs.Kept.{KeptShared, Payees, kept_with}
use Rattle.mod_distribution.specs.Items.{items_of, is_distributed, payee_item, payee_gone, payee_entry, same_payee, is_payee}
use Rattle.mod_distribution.proofs.KindLemmas.{payee-rowed, payee-is, shared-by-key, payee-by-key, record-by-key, payees-apart, purses-apart}

-- ---- each list of items is of its kind

pub of_payees : (w : Payees) → AreOf is_payee (rows_of payee_item w)
of_payees w i c = sym (payee-is i) ∙ rows-of-kind addr_cmp addr_total AnyValue payee_item payee_gone same_payee payee_entry payee-rowed w (λ k v m. tt) i c

-- an item of a narrower kind
weaker : (one other : Item → Bool) (xs : List Item) → ((i : Item) → one i ≡ true → other i ≡ true) → AreOf one xs → AreOf other xs
weaker one other xs f a i c = f i (a i c)

pub shared_items : (p : Purses) → AreOf is_shared (alloc.items_of p)
shared_items p = weaker (either is_purse is_pool) is_shared (alloc.items_of p) of_either
    (of-both is_purse is_pool (rows_of purse_item p.purses) (pool_item p.pool ∷ [])
    (rows-of-kind addr_cmp addr_total AnyValue purse_item purse_gone same_purse purse_entry purse-rowed p.purses (λ q v m. tt)) (of-pool p.pool))
  where
    is_purse : Item → Bool
    is_purse i = is_some (purse_entry i)

    of_either : (i : Item) → either is_purse is_pool i ≡ true → is_shared i ≡ true
    of_either (item.Purse o p) e = refl
    of_either (item.Pool c) e = refl
    of_either _ e = absurd cc

pub record_items : (k : f1_kept.Kept) → AreOf is_record (f1.items_of k)
record_items k = weaker all is_record (f1.items_of k) of_all
    (of-both is_current later (rows_of current_item k.current) _ (rows-of-kind addr_cmp addr_total AnyValue current_item current_gone same_period current_entry current-rowed k.current (λ q v m. tt))
    (of-both is_historical last (rows_of historical_item k.historical) _ (rows-of-kind f1_kept.period_cmp period_total AnyValue historical_item historical_gone same_history historical_entry historical-rowed k.historical (λ q v m. tt))
    (of-both is_start is_event (rows_of start_item k.starts) (rows_of event_item k.events) (rows-of-kind pair_cmp pair_total AnyValue start_item start_gone same_start start_entry start-rowed k.starts (λ q v m. tt))
    (rows-of-kind f1_kept.event_cmp event_total AnyValue event_item event_gone same_period event_entry event-rowed k.events (λ q v m. tt)))))
  where
    is_current : Item → Bool
    is_current i = is_some (current_entry i)

    is_historical : Item → Bool
    is_historical i = is_some (historical_entry i)

    is_start : Item → Bool
    is_start i = is_some (start_entry i)

    is_event : Item → Bool
    is_event i = is_some (event_entry i)

    last : Item → Bool
    last = either is_start is_event

    later : Item → Bool
    later = either is_historical last

    all : Item → Bool
    all = either is_current later

    of_all : (i : Item) → all i ≡ true → is_record i ≡ true
    of_all (item.CurrentPeriod o p) e = refl
    of_all (item.Historical o p h) e = refl
    of_all (item.Start o d x) e = refl
    of_all (item.Event o x) e = refl
    of_all _ e = absurd cc

no_first : (b c : Bool) → (b || c) ≡ false → b ≡ false
no_first true c e = absurd cc
no_first false c e = refl

no_second : (b c : Bool) → (b || c) ≡ false → c ≡ false
no_second true c e = absurd cc
no_second false c e = e

is_second : (b c : Bool) → c ≡ true → (b || c) ≡ true
is_second true c e = refl
is_second false c e = e

neither : (a b c : Bool) → a ≡ false → b ≡ false → c ≡ false → (a || (b || c)) ≡ false
neither a b c e f g = λ i. e i || (f i || g i)

module _ (k : KeptShared) (of_shared : AreOf is_shared (alloc.items_of k.purses)) (of_records : AreOf is_record (f1.items_of k.rewards)) where
  pub of_rest : AreOf (either is_payee is_record) (rows_of payee_item k.withdraw ++ f1.items_of k.rewards)
  of_rest = of-both is_payee is_record (rows_of payee_item k.withdraw) (f1.items_of k.rewards) (of_payees k.withdraw) of_records

  -- each item is told once where it is in each list
  pub once_all : IsOnce (alloc.items_of k.purses) → IsOnce (rows_of payee_item k.withdraw) → IsOnce (f1.items_of k.rewards) → IsOnce (items_of k)
  once_all a b c = once-both shared-by-key (by-either is_payee is_record payee-by-key record-by-key) purses-apart (alloc.items_of k.purses) (rows_of payee_item k.withdraw ++ f1.items_of k.rewards) of_shared of_rest a
      (once-both payee-by-key record-by-key payees-apart (rows_of payee_item k.withdraw) (f1.items_of k.rewards) (of_payees k.withdraw) of_records b c)

  -- ---- with one more

  -- of purses and the pool
  pub shared_added : (p : Purses) (new : Item) → is_shared new ≡ true → IsAdded (alloc.items_of k.purses) new (alloc.items_of p) → IsAdded (items_of k) new (items_of (record k { purses = p }))
  shared_added p new is a =
      added-first shared-by-key (by-either is_payee is_record payee-by-key record-by-key) purses-apart (alloc.items_of k.purses) (alloc.items_of p) (rows_of payee_item k.withdraw ++ f1.items_of k.rewards) new is of_rest a

  -- of payees
  pub payee_added : (who to : List ℕ) → IsStrictlySortedBy addr_cmp (keys_of k.withdraw) → IsAdded (items_of k) (payee_item who to) (items_of (record k { withdraw = insert_entry addr_cmp k.withdraw who to }))
  payee_added who to s =
      added-second shared-by-key (by-either is_payee is_record payee-by-key record-by-key) purses-apart
      (rows_of payee_item k.withdraw ++ f1.items_of k.rewards) (rows_of payee_item (insert_entry addr_cmp k.withdraw who to) ++ f1.items_of k.rewards) (alloc.items_of k.purses) (payee_item who to) refl of_shared
      (added-first payee-by-key record-by-key payees-apart (rows_of payee_item k.withdraw) (rows_of payee_item (insert_entry addr_cmp k.withdraw who to)) (f1.items_of k.rewards) (payee_item who to) refl of_records
      (row-added addr_cmp addr_total AnyValue payee_item payee_gone same_payee payee_entry payee-rowed k.withdraw (λ q v m. tt) s who to tt))

  -- of periods, starts and slash events
  pub record_added : (r : f1_kept.Kept) (new : Item) → is_record new ≡ true → either is_payee is_record new ≡ true → IsAdded (f1.items_of k.rewards) new (f1.items_of r) → IsAdded (items_of k) new (items_of (record k { rewards = r }))
  record_added r new is is_rest a =
      added-second shared-by-key (by-either is_payee is_record payee-by-key record-by-key) purses-apart
      (rows_of payee_item k.withdraw ++ f1.items_of k.rewards) (rows_of payee_item k.withdraw ++ f1.items_of r) (alloc.items_of k.purses) new is_rest of_shared
      (added-second payee-by-key record-by-key payees-apart (f1.items_of k.rewards) (f1.items_of r) (rows_of payee_item k.withdraw) new is (of_payees k.withdraw) a)

-- an item that is none of a payee is added by those whose kind it is
pub loaded : (k : KeptShared) (p : Purses) (r : f1_kept.Kept) (new : Item) → is_payee new ≡ false → (is_shared new ≡ true → IsAdded (alloc.items_of k.purses) new (alloc.items_of p)) → (is_shared new ≡ false → p ≡ k.purses)
    → (is_record new ≡ true → IsAdded (f1.items_of k.rewards) new (f1.items_of r)) → (is_record new ≡ false → r ≡ k.rewards) → is_distributed new ≡ true → IsAdded (items_of k) new (items_of (kept_with r p k.withdraw))
loaded k p r new none shared unshared recorded unrecorded some = by (is_shared new) (is_record new) refl refl
  where
    shared_k : AreOf is_shared (alloc.items_of k.purses)
    shared_k = shared_items k.purses

    records_k : AreOf is_record (f1.items_of k.rewards)
    records_k = record_items k.rewards

    by : (a b : Bool) → is_shared new ≡ a → is_record new ≡ b → IsAdded (items_of k) new (items_of (kept_with r p k.withdraw))
    by true b e f = subst (λ x. IsAdded (items_of k) new (items_of (kept_with x p k.withdraw))) (sym (unrecorded (no_second (is_payee new) (is_record new) (purses-apart new e))))
        (shared_added k shared_k records_k p new e (shared e))
    by false true e f = subst (λ x. IsAdded (items_of k) new (items_of (kept_with r x k.withdraw))) (sym (unshared e)) (record_added k shared_k records_k r new f (is_second (is_payee new) (is_record new) f) (recorded f))
    by false false e f = let g : false ≡ true = sym (neither (is_shared new) (is_payee new) (is_record new) e none f) ∙ some in absurd cc

-- and its kind is told
pub of_kind : (new : Item) → is_payee new ≡ false → (a b : Bool) → a ≡ is_shared new → b ≡ is_record new → (a || b) ≡ is_distributed new
of_kind new none a b e f = (λ i. e i || f i) ∙ by (is_shared new) (is_payee new) (is_record new) none
  where
    by : (x y z : Bool) → y ≡ false → (x || z) ≡ (x || (y || z))
    by x y z n = ap (λ t. x || (t || z)) (sym n)

-- an item that is of another kind
pub no_payee : (new : Item) → ((d to : List ℕ) → new ≡ item.Withdraw d to → ⊥) → is_payee new ≡ false
no_payee (item.Withdraw d to) h = absurd (h d to refl)
no_payee _ h = refl

-- what an item of no kind leaves
pub unloaded : (k : KeptShared) (p : Purses) (r : f1_kept.Kept) (new : Item) → (is_shared new ≡ false → p ≡ k.purses) → (is_record new ≡ false → r ≡ k.rewards) → is_distributed new ≡ false → kept_with r p k.withdraw ≡ k
unloaded k p r new unshared unrecorded none =
    let rest = no_second (is_shared new) (is_payee new || is_record new) none in
    λ i. kept_with (unrecorded (no_second (is_payee new) (is_record new) rest) i) (unshared (no_first (is_shared new) (is_payee new || is_record new) none) i) k.withdraw

-- memory was wanting in none of three
pub none_spent : (a b c : Bool) → (a ≡ true → false ≡ true) → (b ≡ true → false ≡ true) → c ≡ false → (a || (b || c)) ≡ true → false ≡ true
none_spent true b c f g e h = f refl
none_spent false true c f g e h = g refl
none_spent false false c f g e h = sym e ∙ h

pub first_or : (a b : Bool) → a ≡ true → true ≡ (a || b)
first_or a b e = λ i. sym e i || b

pub second_or : (a b : Bool) → a ≡ false → b ≡ (a || b)
second_or a b e = λ i. sym e i || b

-- ---- changes of all

module _ (was now : KeptShared) (was_shared : AreOf is_shared (alloc.items_of was.purses)) (was_records : AreOf is_record (f1.items_of was.rewards)) (now_shared : AreOf is_shared (alloc.items_of now.purses))
    (now_records : AreOf is_record (f1.items_of now.rewards)) (a b c : List (Item × Bool)) where
  pub changes_all : AreChanges (alloc.items_of was.purses) (alloc.items_of now.purses) a → AreChanges (rows_of payee_item was.withdraw) (rows_of payee_item now.withdraw) b
      → AreChanges (f1.items_of was.rewards) (f1.items_of now.rewards) c → AreChanges (items_of was) (items_of now) (a ++ (b ++ c))
  changes_all x y z =
      changes-both shared-by-key (by-either is_payee is_record payee-by-key record-by-key) purses-apart (alloc.items_of was.purses) (alloc.items_of now.purses) (rows_of payee_item was.withdraw ++ f1.items_of was.rewards)
      (rows_of payee_item now.withdraw ++ f1.items_of now.rewards) a (b ++ c) was_shared now_shared (of_rest was was_shared was_records) (of_rest now now_shared now_records) x
      (changes-both payee-by-key record-by-key payees-apart (rows_of payee_item was.withdraw) (rows_of payee_item now.withdraw) (f1.items_of was.rewards) (f1.items_of now.rewards) b c
      (of_payees was.withdraw) (of_payees now.withdraw) was_records now_records y z)

-- ---- room for one more

module _ (k : KeptShared) (new : Item) (room : HasRoom (items_of k) new) where
  pub room_in_shared : HasRoom (alloc.items_of k.purses) new
  room_in_shared i c e = room i (contained (items_of k) i (member-left (alloc.items_of k.purses) (rows_of payee_item k.withdraw ++ f1.items_of k.rewards) i (member (alloc.items_of k.purses) i c))) e

  pub room_in_records : HasRoom (f1.items_of k.rewards) new
  room_in_records i c e = room i (contained (items_of k) i
      (member-right (alloc.items_of k.purses) (rows_of payee_item k.withdraw ++ f1.items_of k.rewards) i
      (member-right (rows_of payee_item k.withdraw) (f1.items_of k.rewards) i (member (f1.items_of k.rewards) i c)))) e
