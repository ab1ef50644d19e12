-- The items of a plain state are those of its records, whose keys ascend where the state is sound.
use Rattle.std.proofs.Common.{◌≡◌, ◌∙◌, ℕ, List, [], ◌∷◌, ◌++◌, Option, Some, None, option_map, map, refl, sym, ap, subst, reverse, filter_map, flat_map}
use Rattle.std.{specs.{List.{cons_option, Sorted.IsStrictlySortedBy}, Map.keys_of}, proofs.lemmas.List.map-append}
use Rattle.base_types.specs.Orders.{addr_cmp, cons_cmp}
use Rattle.base_coins.specs.Coins.{Money}
use Rattle.base_roles.specs.declared.{entities.{Historical.Historical, SlashEvent.SlashEvent}, items.Item.Item}
use Rattle.base_roles.specs.declared.items.Item.TheVariants as item
use Rattle.rule_modules.specs.{Chain.{State, shared_in, window_in}, Periods.{Periods, Rewards, history_kept, starts_of}}
use Rattle.rule_modules.specs.{Sound.IsSound, Window.{Signing, Window, info_of}}
use Rattle.rule_machine.specs.Items.{historical_items, items_of, ring_of, signing_items, entry_items, ground_items, staked_items, reward_items as items_of_rewards}
use Rattle.store_records.specs.{declared.records.Signed.Signed, Plain.{AreAscending, event_at, listed, reward_items}}
use Rattle.law_records.specs.Records.{events_in, histories_in, plain_of, shared_of, signed_in}
use Rattle.law_records.proofs.RewardLists.{block, current_keys, histories_ascend, slashes_ascend}

-- ---- items

signing_rows : (window : ℕ) (i : Window) → map (λ (e : List ℕ × Signed). item.Signing e.0 e.1.info e.1.ring) (signed_in window i) ≡ signing_items window i
signing_rows window [] = refl
signing_rows window (e ∷ es) = ap (λ (l : List Item). item.Signing e.0 (info_of window e.1) (ring_of window e.1.votes) ∷ l) (signing_rows window es)

current_rows : (es : List (List ℕ × Periods)) → map (λ (e : List ℕ × ℕ). item.CurrentPeriod e.0 e.1) (map (λ (e : List ℕ × Periods). (e.0, e.1.current)) es) ≡ map (λ (e : List ℕ × Periods). item.CurrentPeriod e.0 e.1.current) es
current_rows [] = refl
current_rows (e ∷ es) = ap (λ (l : List Item). item.CurrentPeriod e.0 e.1.current ∷ l) (current_rows es)

abbrev history_item : (List ℕ × ℕ) × Historical → Item
history_item e = item.Historical e.0.0 e.0.1 e.1

block_rows : (o : List ℕ) (H : ℕ → Option Historical) (l : List (ℕ × Money)) → map history_item (block o H l) ≡ filter_map (λ (ended : ℕ × Money). option_map (λ h. item.Historical o ended.0 h) (H ended.0)) l
block_rows o H [] = refl
block_rows o H (x ∷ xs) = by (H x.0) (block_rows o H xs)
  where
    by : (h : Option Historical) → map history_item (block o H xs) ≡ filter_map (λ (ended : ℕ × Money). option_map (λ h. item.Historical o ended.0 h) (H ended.0)) xs
        → map history_item (cons_option (option_map (λ (y : Historical). ((o, x.0), y)) h) (block o H xs)) ≡ cons_option (option_map (λ y. item.Historical o x.0 y) h) (filter_map (λ (ended : ℕ × Money). option_map (λ h. item.Historical o ended.0 h) (H ended.0)) xs)
    by None k = k
    by (Some h) k = ap (λ (l : List Item). item.Historical o x.0 h ∷ l) k

history_rows : (r : Rewards) (es : List (List ℕ × Periods)) → map history_item (flat_map (histories_in r) es) ≡ flat_map (historical_items r) es
history_rows r [] = refl
history_rows r (e ∷ es) =
    map-append history_item (histories_in r e) (flat_map (histories_in r) es)
    ∙ (λ i. block_rows e.0 (history_kept e.1 (starts_of r e.0)) (reverse e.1.ratios) i ++ history_rows r es i)

abbrev slash_item : (List ℕ × ℕ × ℕ) × ℕ → Item
slash_item e = item.Event e.0.0 (event_at e)

slash_rows : (o : List ℕ) (xs : List SlashEvent) → map slash_item (map (λ (x : SlashEvent). ((o, x.height, x.period), x.fraction)) xs) ≡ map (λ (event : SlashEvent). item.Event o event) xs
slash_rows o [] = refl
slash_rows o (x ∷ xs) = ap (λ (l : List Item). item.Event o x ∷ l) (slash_rows o xs)

event_rows : (es : List (List ℕ × Periods)) → map slash_item (flat_map events_in es) ≡ flat_map (λ (e : List ℕ × Periods). map (λ (event : SlashEvent). item.Event e.0 event) e.1.events) es
event_rows [] = refl
event_rows (e ∷ es) = map-append slash_item (events_in e) (flat_map events_in es) ∙ (λ i. slash_rows e.0 e.1.events i ++ event_rows es i)

-- the items of every state are those of its records, in their order
pub items_are_listed : (p : State) → items_of p ≡ listed (plain_of p)
items_are_listed p =
    let d = shared_in p in
    let r = d.rewards in
    let rewards : items_of_rewards r ≡ reward_items (shared_of d)
    = λ i. sym (current_rows r.periods) i ++ (sym (history_rows r r.periods) i ++ (map (λ e. item.Start e.0.0 e.0.1 e.1) r.starts ++ sym (event_rows r.periods) i)) in
    λ i. (ground_items p.view ++ staked_items p.mine.staked)
    ++ (entry_items p.mine.unbondings p.mine.redelegations
    ++ (sym (signing_rows p.view.ctx.params.signed_blocks_window (window_in p)) i
    ++ ((map (λ e. item.Purse e.0 e.1) d.purses.purses ++ item.Pool d.purses.pool ∷ []) ++ (map (λ e. item.Withdraw e.0 e.1) d.withdraw ++ rewards i))))

-- ---- keys

signed_keys : (window : ℕ) (i : Window) → keys_of (signed_in window i) ≡ keys_of i
signed_keys window [] = refl
signed_keys window (e ∷ es) = ap (λ (l : List (List ℕ)). e.0 ∷ l) (signed_keys window es)

-- the keys of the records of a sound state ascend
pub plain_ascends : (p : State) → IsSound p → AreAscending (plain_of p).lists
plain_ascends p s =
    let r = (shared_in p).rewards in
    record {
      balances = s.ground.bank.balances_ascend;
      supplies = s.ground.bank.supplies_ascend;
      validators = s.staked.validators_ascend;
      operators = s.staked.operators;
      delegations = s.staked.delegations_ascend;
      unbondings = s.unbondings.ascend;
      redelegations = s.redelegations.ascend;
      signings = subst (IsStrictlySortedBy cons_cmp) (sym (signed_keys p.view.ctx.params.signed_blocks_window (window_in p))) s.window.ascend;
      shared = record {
        purses = s.purses.ascend;
        payees = s.payees;
        currents = subst (IsStrictlySortedBy addr_cmp) (sym (current_keys r.periods)) s.rewards.periods_ascend;
        histories = histories_ascend r p.view.ctx.height s.rewards;
        starts = s.rewards.starts_ascend;
        events = slashes_ascend p.view.ctx.height r s.rewards;
      };
    }
