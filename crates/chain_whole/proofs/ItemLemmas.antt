-- What the modules keep is listed as the items of each state for which it stands.
use Rattle.std.proofs.Common.{◌≡◌, ◌∙◌, ℕ, zero, suc, ◌≤◌, Bool, List, [], ◌∷◌, ◌++◌, append_assoc, length, map, take, drop, Option, Some, None, option_map, refl, sym, ap, subst, arith, inl, inr, ◌-◌, ◌%◌, ◌⊎◌, reverse, filter_map, flat_map, drop_at, length-append, take-append-drop, take_at}
use Rattle.std.{specs.List.cons_option, proofs.lemmas.List.map-append}
use Rattle.base_coins.specs.Coins.{Money}
use Rattle.base_roles.specs.declared.{entities.{Historical.Historical, SlashEvent.SlashEvent}, items.Item.Item}
use Rattle.base_roles.specs.World.{View}
use Rattle.base_roles.specs.declared.items.Item.TheVariants as item
use Rattle.base_records.specs.Items.{rows_of}
use Rattle.rule_modules.specs.{Chain.{State, shared_in, window_in}, Distribution.Shared}
use Rattle.rule_modules.specs.{Periods.{Periods, Rewards, history_kept, starts_of}, Sound.RewardsAreSound}
use Rattle.rule_modules.specs.Window.{Window, IsRing}
use Rattle.mod_allocation.specs.Items as alloc
use Rattle.mod_bank.specs.Items as bank
use Rattle.mod_periods.specs.Kept as f1
use Rattle.mod_periods.specs.Items.{current_item, event_item, historical_item, start_item, items_of as record_items}
use Rattle.mod_periods.specs.Stands.{KeepsRewards}
use Rattle.mod_signing.specs.{Kept.Kept, Stands.KeepsSignings}
use Rattle.mod_signing.specs.Items as window
use Rattle.mod_distribution.specs.{Kept.KeptShared, Stands.KeepsShared}
use Rattle.mod_distribution.specs.Items as distr
use Rattle.rule_machine.specs.Items.{entry_items, historical_items, holding_items, items_of, reward_items, ring_of, shared_items, signing_items, staked_items}
use Rattle.chain_modules.specs.Kept.{KeptState, StandsFor}
use Rattle.chain_modules.specs.Items.{ctx_items, items_of_stakes, items_of as module_items}
use Rattle.law_records.proofs.RewardLists.{block, currents, currents_kept, events_at, histories, histories_kept, slashes, slashes_kept}
use Rattle.law_records.proofs.RingLaws.{one_ring}

-- ---- rewards

current_rows : (es : List (List ℕ × Periods)) → rows_of current_item (currents es) ≡ map (λ e. item.CurrentPeriod e.0 e.1.current) es
current_rows [] = refl
current_rows (e ∷ es) = ap (λ l. item.CurrentPeriod e.0 e.1.current ∷ l) (current_rows es)

block_rows : (o : List ℕ) (H : ℕ → Option Historical) (l : List (ℕ × Money)) → rows_of historical_item (block o H l) ≡ filter_map (λ ended. option_map (λ h. item.Historical o ended.0 h) (H ended.0)) l
block_rows o H [] = refl
block_rows o H (x ∷ xs) = by (H x.0) (block_rows o H xs)
  where
    by : (h : Option Historical) → rows_of historical_item (block o H xs) ≡ filter_map (λ ended. option_map (λ h. item.Historical o ended.0 h) (H ended.0)) xs
        → rows_of historical_item (cons_option (option_map (λ y. ((o, x.0), y)) h) (block o H xs)) ≡ cons_option (option_map (λ y. item.Historical o x.0 y) h) (filter_map (λ ended. option_map (λ h. item.Historical o ended.0 h) (H ended.0)) xs)
    by None k = k
    by (Some h) k = ap (λ l. item.Historical o x.0 h ∷ l) k

history_rows : (r : Rewards) (es : List (List ℕ × Periods)) → rows_of historical_item (flat_map (histories r) es) ≡ flat_map (historical_items r) es
history_rows r [] = refl
history_rows r (e ∷ es) =
    map-append (λ x. historical_item x.0 x.1) (histories r e) (flat_map (histories r) es)
    ∙ (λ i. block_rows e.0 (history_kept e.1 (starts_of r e.0)) (reverse e.1.ratios) i ++ history_rows r es i)

slash_rows : (o : List ℕ) (xs : List SlashEvent) → rows_of event_item (events_at o xs) ≡ map (λ event. item.Event o event) xs
slash_rows o [] = refl
slash_rows o (x ∷ xs) = ap (λ l. item.Event o x ∷ l) (slash_rows o xs)

event_rows : (es : List (List ℕ × Periods)) → rows_of event_item (flat_map slashes es) ≡ flat_map (λ e. map (λ event. item.Event e.0 event) e.1.events) es
event_rows [] = refl
event_rows (e ∷ es) = map-append (λ x. event_item x.0 x.1) (slashes e) (flat_map slashes es) ∙ (λ i. slash_rows e.0 e.1.events i ++ event_rows es i)

pub rewards_listed : (height : ℕ) (k : f1.Kept) (r : Rewards) → f1.AreInOrder k → KeepsRewards k r → RewardsAreSound height r → record_items k ≡ reward_items r
rewards_listed height k r o s sound = λ i.
    (ap (rows_of current_item) (currents_kept k r o s) ∙ current_rows r.periods) i
    ++ ((ap (rows_of historical_item) (histories_kept r height k o s sound) ∙ history_rows r r.periods) i
    ++ (rows_of start_item (s.starts i) ++ (ap (rows_of event_item) (slashes_kept height k r o s sound) ∙ event_rows r.periods) i))

-- ---- distribution

shared_listed : (height : ℕ) (k : KeptShared) (d : Shared) → distr.AreInOrder k → KeepsShared k d → RewardsAreSound height d.rewards → distr.items_of k ≡ shared_items d
shared_listed height k d o s sound = λ i.
    alloc.items_of (s.purses i) ++ (rows_of distr.payee_item (s.withdraw i) ++ rewards_listed height k.rewards d.rewards o.rewards s.rewards sound i)

-- ---- signing records

signings_listed : (n : ℕ) (k : Kept) (w : Window) → KeepsSignings n k w → window.items_of k ≡ signing_items n w
signings_listed n [] [] h = refl
signings_listed n [] (s ∷ ss) h = absurd h
signings_listed n (k ∷ ks) [] h = absurd h
signings_listed n (k ∷ ks) (s ∷ ss) h = λ i. item.Signing (h.0 i) (h.1.info i) (one_ring n s.1.votes k.1.ring h.1.ring i) ∷ signings_listed n ks ss h.2 i

-- ---- all of it

grouped : (b c d e : List Item) → b ++ ((c ++ d) ++ e) ≡ (b ++ c) ++ (d ++ e)
grouped b c d e = ap (λ l. b ++ l) (append_assoc c d e) ∙ sym (append_assoc b c (d ++ e))

pub items_are_kept : (k : KeptState) (p : State) → distr.AreInOrder k.shared → StandsFor k p → module_items k ≡ items_of p
items_are_kept k p o s =
    let v = p.view in
    let m = p.mine in
    let n = v.ctx.params.signed_blocks_window in
    let signings : KeepsSignings n k.signings (window_in p) = subst (λ (u : View). KeepsSignings u.ctx.params.signed_blocks_window k.signings (window_in p)) (sym s.keeps.view) s.keeps.signings in
    (λ i. ctx_items (sym s.keeps.view i).ctx ++ (bank.items_of (sym s.keeps.view i).bank ++ (items_of_stakes (sym s.keeps.stakes i) ++ (signings_listed n k.signings (window_in p) signings i
    ++ shared_listed v.ctx.height k.shared (shared_in p) o s.keeps.shared s.sound.rewards i))))
    ∙ ap (λ l. ctx_items v.ctx ++ l) (grouped (holding_items v.bank) (staked_items m.staked) (entry_items m.unbondings m.redelegations) (signing_items n (window_in p) ++ shared_items (shared_in p)))
