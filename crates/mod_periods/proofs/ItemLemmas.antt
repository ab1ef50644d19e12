-- The items of records: told apart by their kinds, and with one more.
use Rattle.std.proofs.Common.{◌≡◌, ℕ, Bool, true, false, List, ◌++◌, refl, is_some}
use Rattle.std.specs.{List.Sorted.IsStrictlySortedBy, Map.keys_of, BTreeMap.insert_entry}
use Rattle.base_types.specs.Orders.{addr_cmp}
use Rattle.base_roles.specs.declared.entities.{Historical.Historical, StartingInfo.StartingInfo, SlashEvent.SlashEvent}
use Rattle.base_roles.specs.{declared.items.Item.Item, Items.IsAdded, Orders.pair_cmp}
use Rattle.base_roles.specs.declared.items.Item.TheVariants as item
use Rattle.base_records.specs.{Kinds.{AreApart, AreOf, IsByKey, either}, Items.{rows_of, AnyValue}}
use Rattle.base_records.proofs.KindLemmas.{added-first, added-second, by-either, of-both}
use Rattle.base_records.proofs.RowLemmas.{row-added, rows-of-kind}
use Rattle.mod_periods.specs.Kept.{Kept, period_cmp, event_cmp, with_current, with_history, with_info, with_event}
use Rattle.mod_periods.specs.Items.{items_of, is_record, current_item, historical_item, start_item, event_item, current_gone, historical_gone, start_gone, event_gone, current_entry, historical_entry, start_entry, event_entry, same_period, same_history, same_start}
use Rattle.mod_periods.proofs.KindLemmas.{current-rowed, historical-rowed, start-rowed, event-rowed}
use Rattle.mod_periods.proofs.OrderLemmas.{addr_total, period_total, pair_total, event_total}

-- ---- four kinds that are told apart

abbrev is_current : Item → Bool
is_current i = is_some (current_entry i)

abbrev is_historical : Item → Bool
is_historical i = is_some (historical_entry i)

abbrev is_start : Item → Bool
is_start i = is_some (start_entry i)

abbrev is_event : Item → Bool
is_event i = is_some (event_entry i)

pub starts-apart : AreApart is_start is_event
starts-apart (item.Start o d s) e = refl
starts-apart _ e = absurd cc

pub historical-apart : AreApart is_historical (either is_start is_event)
historical-apart (item.Historical o p h) e = refl
historical-apart _ e = absurd cc

pub current-apart : AreApart is_current (either is_historical (either is_start is_event))
current-apart (item.CurrentPeriod o p) e = refl
current-apart _ e = absurd cc

by_key_third : IsByKey (either is_start is_event)
by_key_third = by-either is_start is_event start-rowed.kind event-rowed.kind

by_key_second : IsByKey (either is_historical (either is_start is_event))
by_key_second = by-either is_historical (either is_start is_event) historical-rowed.kind by_key_third

-- an item that is none of the four
pub no_record : (i : Item) → ((o : List ℕ) (p : ℕ) → i ≡ item.CurrentPeriod o p → ⊥) → ((o : List ℕ) (p : ℕ) (h : Historical) → i ≡ item.Historical o p h → ⊥)
    → ((o d : List ℕ) (s : StartingInfo) → i ≡ item.Start o d s → ⊥) → ((o : List ℕ) (e : SlashEvent) → i ≡ item.Event o e → ⊥) → is_record i ≡ false
no_record (item.CurrentPeriod o p) a b c d = absurd (a o p refl)
no_record (item.Historical o p h) a b c d = absurd (b o p h refl)
no_record (item.Start o w s) a b c d = absurd (c o w s refl)
no_record (item.Event o e) a b c d = absurd (d o e refl)
no_record _ a b c d = refl

-- ---- one more

module _ (k : Kept) where
  abbrev currents : List Item
  currents = rows_of current_item k.current

  abbrev histories : List Item
  histories = rows_of historical_item k.historical

  abbrev starts : List Item
  starts = rows_of start_item k.starts

  abbrev events : List Item
  events = rows_of event_item k.events

  of_current : AreOf is_current currents
  of_current = rows-of-kind addr_cmp addr_total AnyValue current_item current_gone same_period current_entry current-rowed k.current (λ q v m. tt)

  of_historical : AreOf is_historical histories
  of_historical = rows-of-kind period_cmp period_total AnyValue historical_item historical_gone same_history historical_entry historical-rowed k.historical (λ q v m. tt)

  of_start : AreOf is_start starts
  of_start = rows-of-kind pair_cmp pair_total AnyValue start_item start_gone same_start start_entry start-rowed k.starts (λ q v m. tt)

  of_event : AreOf is_event events
  of_event = rows-of-kind event_cmp event_total AnyValue event_item event_gone same_period event_entry event-rowed k.events (λ q v m. tt)

  of_third : AreOf (either is_start is_event) (starts ++ events)
  of_third = of-both is_start is_event starts events of_start of_event

  of_second : AreOf (either is_historical (either is_start is_event)) (histories ++ (starts ++ events))
  of_second = of-both is_historical (either is_start is_event) histories (starts ++ events) of_historical of_third

  in_second : (more : List Item) (new : Item) → either is_historical (either is_start is_event) new ≡ true → IsAdded (histories ++ (starts ++ events)) new more → IsAdded (items_of k) new (currents ++ more)
  in_second more new is a = added-second current-rowed.kind by_key_second current-apart (histories ++ (starts ++ events)) more currents new is of_current a

  in_third : (more : List Item) (new : Item) → either is_start is_event new ≡ true → IsAdded (starts ++ events) new more → IsAdded (histories ++ (starts ++ events)) new (histories ++ more)
  in_third more new is a = added-second historical-rowed.kind by_key_third historical-apart (starts ++ events) more histories new is of_historical a

  pub current-added : (o : List ℕ) (n : ℕ) → IsStrictlySortedBy addr_cmp (keys_of k.current) → IsAdded (items_of k) (item.CurrentPeriod o n) (items_of (with_current o n k))
  current-added o n s = added-first current-rowed.kind by_key_second current-apart currents (rows_of current_item (insert_entry addr_cmp k.current o n)) (histories ++ (starts ++ events)) (current_item o n) refl of_second
      (row-added addr_cmp addr_total AnyValue current_item current_gone same_period current_entry current-rowed k.current (λ q v m. tt) s o n tt)

  pub historical-added : (o : List ℕ) (p : ℕ) (h : Historical) → IsStrictlySortedBy period_cmp (keys_of k.historical) → IsAdded (items_of k) (item.Historical o p h) (items_of (with_history o p h k))
  historical-added o p h s = in_second (rows_of historical_item (insert_entry period_cmp k.historical (o, p) h) ++ (starts ++ events)) (historical_item (o, p) h) refl
      (added-first historical-rowed.kind by_key_third historical-apart histories (rows_of historical_item (insert_entry period_cmp k.historical (o, p) h)) (starts ++ events) (historical_item (o, p) h) refl of_third
      (row-added period_cmp period_total AnyValue historical_item historical_gone same_history historical_entry historical-rowed k.historical (λ q v m. tt) s (o, p) h tt))

  pub start-added : (delegator o : List ℕ) (info : StartingInfo) → IsStrictlySortedBy pair_cmp (keys_of k.starts) → IsAdded (items_of k) (item.Start o delegator info) (items_of (with_info delegator o info k))
  start-added delegator o info s =
      let more = rows_of start_item (insert_entry pair_cmp k.starts (o, delegator) info) in
      in_second (histories ++ (more ++ events)) (start_item (o, delegator) info) refl
      (in_third (more ++ events) (start_item (o, delegator) info) refl
      (added-first start-rowed.kind event-rowed.kind starts-apart starts more events (start_item (o, delegator) info) refl of_event
      (row-added pair_cmp pair_total AnyValue start_item start_gone same_start start_entry start-rowed k.starts (λ q v m. tt) s (o, delegator) info tt)))

  pub event-added : (o : List ℕ) (e : SlashEvent) → IsStrictlySortedBy event_cmp (keys_of k.events) → IsAdded (items_of k) (item.Event o e) (items_of (with_event o e k))
  event-added o e s =
      let key : List ℕ × ℕ × ℕ = (o, e.height, e.period) in
      let more = rows_of event_item (insert_entry event_cmp k.events (o, e.height, e.period) e.fraction) in
      in_second (histories ++ (starts ++ more)) (item.Event o e) refl
      (in_third (starts ++ more) (item.Event o e) refl
      (added-second start-rowed.kind event-rowed.kind starts-apart events more starts (item.Event o e) refl of_start
      (row-added event_cmp event_total AnyValue event_item event_gone same_period event_entry event-rowed k.events (λ q v m. tt) s key e.fraction tt)))
