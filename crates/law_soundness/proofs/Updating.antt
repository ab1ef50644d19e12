-- Replacing the parameters keeps a state sound: what never changes of them is what the accounts owe in, and of no signing record
-- are more votes counted.
use Rattle.std.proofs.Common.{◌≡◌, ◌∙◌, ℕ, ◌+◌, ◌^◌, ◌<◌, ◌≤◌, cond, List, length, Option, Some, None, refl, sym, ap, subst, arith, Contains, IfOk, IsSome, option_map, map}
use Rattle.std.specs.{BTreeMap.is_at, List.{AllByRecursion, Sorted.IsStrictlySortedBy}}
use Rattle.std.proofs.lemmas.List.Elements.{recursion_from_All, All-from_recursion}
use Rattle.base_types.specs.Orders.{cons_cmp, denom_cmp}
use Rattle.base_roles.specs.declared.facts.Fact.TheVariants as fact
use Rattle.base_roles.specs.{declared.params.Params.Params, Holdings.supply_of, Ranges.out_of_range}
use Rattle.base_roles.{specs.Staked.{bonded_tokens, other_tokens}, proofs.RangeLemmas.in_range}
use Rattle.law_soundness.proofs.{Burns.{quiet_behind, total_in}, Lists.{mapped_all, weaker}}
use Rattle.law_soundness.proofs.{Points.{IsRecorded, MessageLeft, StateFits, from_fits, to_fits}, Steps.weaker_if}
use Rattle.law_soundness.specs.StepLaws.{IsSoundAfter, UpdatingKeepsSoundness}
use Rattle.rule_modules.proofs.ParameterLemmas.{fixed_same, on_update, one_resized, resized_at, resized_each, resized_fewer, resized_keys, same_start}
use Rattle.rule_modules.specs.{Chain.State, Owed.entry_balances}
use Rattle.rule_modules.specs.Parameters.{fixed_changed, update_params, with_updated}
use Rattle.rule_modules.specs.{Sound.{SigningIsSound, WindowIsSound}, StepLaws.SupplyFallsByBurns}
use Rattle.rule_modules.specs.Window.{Signing, Window, signing_of, window_resized}

-- ---- signing records

each_sound : (height old new : ℕ) (i : Window) → AllByRecursion (λ (e : List ℕ × Signing). SigningIsSound height e.1) i → AllByRecursion (λ (e : List ℕ × Signing). SigningIsSound height e.1) (map (λ e. (e.0, one_resized old new e.1)) i)
each_sound height old new i h =
    mapped_all (λ (e : List ℕ × Signing). SigningIsSound height e.1) (λ e. (e.0, one_resized old new e.1)) i
    (weaker (λ (e : List ℕ × Signing). SigningIsSound height e.1) (λ e. SigningIsSound height (one_resized old new e.1)) (λ e k. record {
      counted = within (length (one_resized old new e.1).votes) (length e.1.votes) height (resized_fewer old new e.1) k.counted;
      start = subst (λ n. n < 2 ^ 63) (sym (same_start old new e.1)) k.start;
    }) i h)
  where
    within : (a b n : ℕ) → a ≤ b → b ≤ n → a ≤ n
    within a b n l m = omega (arith, l, m)

pub window_updated : (height old new : ℕ) (i : Window) → WindowIsSound height i → WindowIsSound height (window_resized old new i)
window_updated height old new i h =
    subst (WindowIsSound height) (sym (resized_each old new i)) (record {
      ascend = subst (IsStrictlySortedBy cons_cmp) (sym (resized_keys (one_resized old new) i)) h.ascend;
      records = All-from_recursion (λ (e : List ℕ × Signing). SigningIsSound height e.1) (map (λ e. (e.0, one_resized old new e.1)) i)
          (each_sound height old new i (recursion_from_All (λ (e : List ℕ × Signing). SigningIsSound height e.1) i h.records));
    })

-- a record that stands still does
recorded_still : (old new : ℕ) (i : Window) (cons : List ℕ) → IsSome (signing_of i cons) → IsSome (signing_of (window_resized old new i) cons)
recorded_still old new i cons h =
    subst (λ j. IsSome (signing_of j cons)) (sym (resized_each old new i)) (subst IsSome (sym (resized_at (one_resized old new) i cons)) (mapped (signing_of i cons) h))
  where
    mapped : (s : Option Signing) → IsSome s → IsSome (option_map (one_resized old new) s)
    mapped None k = k
    mapped (Some s) k = refl

-- ---- the state

module _ (P : List ℕ → Type 0) (T : List ℕ → ℕ) where
  pub update_fits : (authority : List ℕ) (p : Params) (w : State) → StateFits P T w → IfOk (update_params authority p w) (MessageLeft P T w)
  update_fits authority p w h = on_update authority p w (MessageLeft P T w) updated
    where
      updated : out_of_range p ≡ None → fixed_changed w.view.ctx.params p ≡ None → MessageLeft P T w (with_updated authority p w)
      updated range fixed =
          let s = h.stake in
          let same = fixed_same w.view.ctx.params p fixed in
          let bond : w.view.ctx.params.bond_denom ≡ p.bond_denom = same.0 in
          let owed_as = λ (d : List ℕ) (n : ℕ). ap (λ b. cond (is_at (denom_cmp b) d) n 0) bond in
          record {
            fits = record {
              stake = record {
                ground = record {
                  order = record { params = in_range p range; time = s.ground.order.time; height = s.ground.order.height; bank = s.ground.order.bank };
                  held = s.ground.held;
                  total = λ d. ap (λ n. supply_of w.view.bank d + n) (quiet_behind w.view.facts (fact.ParamsChanged authority) (λ e. refl) d) ∙ s.ground.total d;
                };
                staked = s.staked;
                bonded = λ d. s.bonded d ∙ owed_as d (bonded_tokens w.mine.staked + 0);
                not_bonded = λ d. s.not_bonded d ∙ owed_as d (other_tokens w.mine.staked + entry_balances w.mine.unbondings);
                owed = s.owed;
                shared = s.shared;
                window = window_updated w.view.ctx.height w.view.ctx.params.signed_blocks_window p.signed_blocks_window w.hooks.1 s.window;
                recorded = weaker (IsRecorded w.hooks.1) (IsRecorded (window_resized w.view.ctx.params.signed_blocks_window p.signed_blocks_window w.hooks.1))
                    (λ e k u. recorded_still w.view.ctx.params.signed_blocks_window p.signed_blocks_window w.hooks.1 e.1.cons (k u)) w.mine.staked.validators s.recorded;
              };
              unbondings = h.unbondings;
              redelegations = h.redelegations;
            };
            whole = λ k. k;
            moment = record { height = refl; time = refl; bond_denom = sym bond; power_reduction = sym same.1 };
          }

pub updating_keeps_soundness : UpdatingKeepsSoundness
updating_keeps_soundness authority p w s =
    weaker_if (update_params authority p w) (MessageLeft (Contains s.few.some) (total_in w.view) w) (IsSoundAfter w)
    (update_fits (Contains s.few.some) (total_in w.view) authority p w (to_fits w s)) (λ x k. from_fits x s.few.some (total_in w.view) s.few.few k.fits)

pub updates_burn_nothing : (authority : List ℕ) (p : Params) (w : State) → IfOk (update_params authority p w) (SupplyFallsByBurns w)
updates_burn_nothing authority p w =
    on_update authority p w (SupplyFallsByBurns w) (λ range fixed d. ap (λ n. supply_of w.view.bank d + n) (quiet_behind w.view.facts (fact.ParamsChanged authority) (λ e. refl) d))
