-- The four kinds of records: how their keys are told apart, and how items belong to them.
use Rattle.std.proofs.Common.{◌≡◌, ℕ, List, refl, ap, inl, inr, ◌⊎◌, Equal, nat_cmp}
use Rattle.std.proofs.lemmas.Map.Lookups.{exact_bytes, exact_unsigned, exact_pairs}
use Rattle.base_types.specs.Orders.{addr_cmp}
use Rattle.base_roles.specs.{declared.{entities.SlashEvent.SlashEvent, items.Item.Item}, Orders.pair_cmp}
use Rattle.base_roles.specs.declared.items.Item.TheVariants as item
use Rattle.rule_modules.proofs.SoundLemmas.{exact_addr, exact_pair}
use Rattle.base_records.{specs.Items.{AnyValue, IsRowed}, proofs.RowedLemmas.{IsOfKind, IsOfOther, rowed}}
use Rattle.mod_periods.specs.Kept.{period_cmp, event_cmp}
use Rattle.mod_periods.specs.Items.{current_item, historical_item, start_item, event_item, current_gone, historical_gone, start_gone, event_gone, current_entry, historical_entry, start_entry, event_entry, same_period, same_history, same_start}
use Rattle.mod_periods.proofs.SameLemmas.{period-yes, period-no, history-yes, history-no, start-yes, start-no}

-- ---- equal keys are one key

pub same_period_key : (a b : List ℕ × ℕ) → period_cmp a b ≡ Equal → a ≡ b
same_period_key a b e = exact_pairs addr_cmp nat_cmp exact_bytes exact_unsigned a b e

pub same_event_key : (a b : List ℕ × ℕ × ℕ) → event_cmp a b ≡ Equal → a ≡ b
same_event_key a b e =
    let both = exact_pairs period_cmp nat_cmp same_period_key exact_unsigned ((a.0, a.1), a.2) ((b.0, b.1), b.2) e in
    λ i. ((both i).0.0, (both i).0.1, (both i).1)

-- ---- what is asked of each kind

current_or_not : (i : Item) → IsOfKind AnyValue current_item i ⊎ IsOfOther current_entry i
current_or_not (item.CurrentPeriod o p) = inl (record { key = o; value = p; made = refl; fits = tt })
current_or_not _ = inr (refl, refl)

pub current-rowed : IsRowed addr_cmp AnyValue current_item current_gone same_period current_entry
current-rowed = rowed addr_cmp AnyValue current_item current_gone same_period current_entry
    current_or_not (λ k v f. refl) (λ k. refl) (λ k v f. refl) (λ k. refl) (λ k q e. cc) exact_addr period-yes period-no

historical_or_not : (i : Item) → IsOfKind AnyValue historical_item i ⊎ IsOfOther historical_entry i
historical_or_not (item.Historical o p h) = inl (record { key = (o, p); value = h; made = refl; fits = tt })
historical_or_not _ = inr (refl, refl)

pub historical-rowed : IsRowed period_cmp AnyValue historical_item historical_gone same_history historical_entry
historical-rowed = rowed period_cmp AnyValue historical_item historical_gone same_history historical_entry
    historical_or_not (λ k v f. refl) (λ k. refl) (λ k v f. refl) (λ k. refl)
    (λ k q e. let a : k.0 ≡ q.0 = cc in let b : k.1 ≡ q.1 = cc in (λ i. (a i, b i))) same_period_key history-yes history-no

start_or_not : (i : Item) → IsOfKind AnyValue start_item i ⊎ IsOfOther start_entry i
start_or_not (item.Start o d s) = inl (record { key = (o, d); value = s; made = refl; fits = tt })
start_or_not _ = inr (refl, refl)

pub start-rowed : IsRowed pair_cmp AnyValue start_item start_gone same_start start_entry
start-rowed = rowed pair_cmp AnyValue start_item start_gone same_start start_entry
    start_or_not (λ k v f. refl) (λ k. refl) (λ k v f. refl) (λ k. refl)
    (λ k q e. let a : k.0 ≡ q.0 = cc in let b : k.1 ≡ q.1 = cc in (λ i. (a i, b i))) exact_pair start-yes start-no

event_or_not : (i : Item) → IsOfKind AnyValue event_item i ⊎ IsOfOther event_entry i
event_or_not (item.Event o s) = inl (record { key = (o, s.height, s.period); value = s.fraction; made = refl; fits = tt })
event_or_not _ = inr (refl, refl)

event_parts : (o p : List ℕ) (x y : SlashEvent) → item.Event o x ≡ item.Event p y → (o ≡ p) × (x ≡ y)
event_parts o p x y e = let a : o ≡ p = cc in let b : x ≡ y = cc in (a, b)

same_event_item : (k q : List ℕ × ℕ × ℕ) → event_gone k ≡ event_gone q → k ≡ q
same_event_item k q e =
    let r = event_parts k.0 q.0 (record { height = k.1; period = k.2; fraction = 0 }) (record { height = q.1; period = q.2; fraction = 0 }) e in
    let a : k.0 ≡ q.0 = r.0 in
    let b : k.1 ≡ q.1 = ap (λ x. x.height) r.1 in
    let c : k.2 ≡ q.2 = ap (λ x. x.period) r.1 in
    (λ i. (a i, b i, c i))

pub event-rowed : IsRowed event_cmp AnyValue event_item event_gone same_period event_entry
event-rowed = rowed event_cmp AnyValue event_item event_gone same_period event_entry
    event_or_not (λ k v f. refl) (λ k. refl) (λ k v f. refl) (λ k. refl) same_event_item same_event_key period-yes period-no
