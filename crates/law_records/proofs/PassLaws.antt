-- Records that pass all tests are those of a sound state, and the records of a sound state pass them.
use Rattle.std.proofs.Common.{◌≡◌, ◌∙◌, ℕ, ◌^◌, ◌<◌, true, List, length, Option, Some, None, option_map, refl, sym, ap, ◌&&◌, is_some, IsSome}
use Rattle.std.{specs.BTreeMap.is_at, proofs.lemmas.Map.Made.lookup-map_values}
use Rattle.base_types.specs.Orders.{addr_cmp, cons_cmp}
use Rattle.base_roles.specs.{Entries.at, Orders.pair_cmp, Staked.{Staked, lists_of, validator_at}}
use Rattle.rule_modules.specs.{Chain.{State, shared_in, window_in}, Distribution.Shared, Periods.{Periods, start_of}}
use Rattle.rule_modules.specs.{Sound.{AreRecorded, IsSound, StakedIsSound, StandsFor}, Window.{Window, signing_of}}
use Rattle.rule_modules.proofs.{EntryLemmas.from_all, OrderLemmas.pair_total, SoundLemmas.exact_pair}
use Rattle.store_records.specs.{declared.records.Signed.Signed, States.{signing_in, state_of, window_of}}
use Rattle.store_soundness.specs.Accounts.{holds_stake, holds_rewards}
use Rattle.store_soundness.specs.{Entries.{are_unbondings_sound, are_redelegations_sound}, Events.are_events_sound}
use Rattle.store_soundness.specs.Histories.{are_counted, do_ratios_grow}
use Rattle.store_soundness.specs.Ranges.{is_context_sound, are_backed, are_validators_sound, are_currents_in_range, are_few}
use Rattle.store_soundness.specs.Shares.{are_shares_delegated, are_cons_distinct}
use Rattle.store_soundness.specs.Signing.{are_recorded, are_signings_sound}
use Rattle.store_soundness.specs.Sound.{are_values_sound, are_stakes_sound, are_rewards_sound, are_others_sound}
use Rattle.store_soundness.specs.Standing.{are_begun, have_keys, stands_for_stakes}
use Rattle.law_records.specs.{Coins.AreCoins, HistoryLaws.AreRewardsTested, PassLaws.{SoundRecordsPass, TestsMakeSound}}
use Rattle.law_records.{specs.Records.{plain_of, shared_of, signed_as, signed_in}, proofs.AccountLaws.accounts_decide}
use Rattle.law_records.proofs.{BackedLaws.backed_decides, DecisionLaws.ground_is_decided}
use Rattle.law_records.proofs.{FewLaws.{few_decides, few_told}, FewPass.few_too, HistoryLaws.are_rewards_sound_by_tests}
use Rattle.law_records.proofs.{OperatorLemmas.{first_true, second_true}, RangeLaws.validators_decide}
use Rattle.law_records.proofs.{ShareLaws.staked_decide, EntryLaws.{unbondings_decide, redelegations_decide}}
use Rattle.law_records.proofs.{RecordLaws.plain_ascends, RewardLists.current_at}
use Rattle.law_records.proofs.RewardPass.{begun_pass, both_true, counted_pass, events_pass, histories_belong, ranges_pass, ratios_money, ratios_pass}
use Rattle.law_records.proofs.{SigningLaws.{recorded_decides, window_sound}, SigningPass.signings_pass}
use Rattle.law_records.proofs.StandLaws.{periods_stand, stands_decide}

-- ---- distribution

-- where distribution stands for validators and delegations, each start is of an operator with periods
pub starts_there : (height : ℕ) (s : Staked) (d : Shared) → StakedIsSound height s → StandsFor d (lists_of s) → (operator delegator : List ℕ) → is_some (start_of d.rewards delegator operator) ≡ true → is_some (at addr_cmp d.rewards.periods operator) ≡ true
starts_there height s d k h operator delegator t = h.periods operator ∙ by (at pair_cmp s.delegations (operator, delegator)) refl (sym (h.starts delegator operator) ∙ t)
  where
    by : (r : Option ℕ) → at pair_cmp s.delegations (operator, delegator) ≡ r → is_some r ≡ true → is_some (validator_at s operator) ≡ true
    by None f u = absurd cc
    by (Some n) f u = from_all pair_cmp pair_total (λ (e : (List ℕ × List ℕ) × ℕ). IsSome (validator_at s e.0.0)) s.delegations exact_pair k.existing (operator, delegator) n f

mapped : {A B : Type 0} (f : A → B) (r : Option A) → is_some (option_map f r) ≡ is_some r
mapped f None = refl
mapped f (Some x) = refl

-- the plain state of the records stands for the same
stands_too : (p : State) → StandsFor (shared_in p) (lists_of p.mine.staked) → StandsFor (shared_in (state_of (plain_of p))) (lists_of p.mine.staked)
stands_too p h = record {
  purses = h.purses;
  periods = λ operator.
      periods_stand (shared_of (shared_in p)) operator
      ∙ ap is_some (current_at operator (shared_in p).rewards.periods) ∙ mapped (λ (x : Periods). x.current) (at addr_cmp (shared_in p).rewards.periods operator) ∙ h.periods operator;
  starts = h.starts;
}

pub rewards_pass : (p : State) → IsSound p → length (shared_in p).rewards.starts < 2 ^ 64 → length (shared_of (shared_in p)).events < 2 ^ 64 → are_rewards_sound (plain_of p) ≡ true
rewards_pass p s few fewer =
    let height = p.view.ctx.height in
    let d = shared_in p in
    let started = starts_there height p.mine.staked d s.staked s.stands in
    both_true (both_true (both_true
    (both_true ((stands_decide (plain_of p)).1 (stands_too p s.stands)) (begun_pass height d s.rewards started))
    (counted_pass height d s.rewards started few fewer)) (ratios_pass height d s.rewards started)) (events_pass height d s.rewards started)

-- ---- signing records and entries

signed_at : (window : ℕ) (cons : List ℕ) (i : Window) → is_some (at cons_cmp (signed_in window i) cons) ≡ is_some (signing_of i cons)
signed_at window cons i = ap is_some (lookup-map_values (signed_as window) (is_at (cons_cmp cons)) i) ∙ mapped (signed_as window) (at cons_cmp i cons)

recorded_at : (window : ℕ) (cons : List ℕ) (signings : List (List ℕ × Signed)) → is_some (signing_of (window_of window signings) cons) ≡ is_some (at cons_cmp signings cons)
recorded_at window cons signings = ap is_some (lookup-map_values (signing_in window) (is_at (cons_cmp cons)) signings) ∙ mapped (signing_in window) (at cons_cmp signings cons)

pub others_pass : (p : State) → IsSound p → are_others_sound (plain_of p) ≡ true
others_pass p s =
    let height = p.view.ctx.height in
    let window = p.view.ctx.params.signed_blocks_window in
    let i = window_in p in
    let recorded : AreRecorded p.mine.staked (window_of window (signed_in window i)) = λ v there bonded. recorded_at window v.cons (signed_in window i) ∙ signed_at window v.cons i ∙ s.recorded v there bonded in
    both_true (both_true (both_true ((recorded_decides p.mine.staked window (signed_in window i)).1 recorded) (signings_pass height window i s.window))
    ((unbondings_decide height p.mine.unbondings s.unbondings.ascend).1 s.unbondings)) ((redelegations_decide height p.mine.redelegations s.redelegations.ascend).1 s.redelegations)

-- ---- all tests

pub sound_records_pass : SoundRecordsPass
sound_records_pass p s m =
    let r = plain_of p in
    let height = p.view.ctx.height in
    let d = shared_in p in
    let staked = p.mine.staked in
    let started = starts_there height staked d s.staked s.stands in
    let ascend = plain_ascends p s in
    let coins : AreCoins r = record { pool = s.purses.pool; purses = s.purses.purses; ratios = ratios_money height d s.rewards started } in
    let ground : (is_context_sound r.ctx && are_backed r.lists.bank.balances r.lists.bank.supplies) ≡ true
    = (ground_is_decided r ascend).1 (record { params = s.ground.params; time = s.ground.time; height = s.ground.height; bank = s.ground.bank }) in
    let few : are_few r ≡ true = (few_decides r (histories_belong height d s.rewards started)).1 (few_too p 1_000_000 s.rewards started s.few) in
    let values : are_values_sound r ≡ true = both_true (both_true (both_true ground ((validators_decide height staked.validators).1 s.staked.validators)) (ranges_pass height d s.rewards started)) few in
    let validators = are_validators_sound height staked.validators in
    let shares = are_shares_delegated staked.validators staked.delegations in
    let cons = are_cons_distinct staked.validators in
    let three : (validators && shares && cons) ≡ true = (staked_decide height staked s.staked.validators_ascend s.staked.operators s.staked.delegations_ascend m.shares).1 s.staked in
    let accounts : (holds_stake r && holds_rewards r) ≡ true
    = (accounts_decide r coins s.ground.bank).1 (record { bonded = s.accounts.bonded; not_bonded = s.accounts.not_bonded; distribution = s.accounts.distribution }) in
    let stakes : are_stakes_sound r ≡ true
    = both_true (both_true (both_true (second_true validators shares (first_true (validators && shares) cons three)) (second_true (validators && shares) cons three)) (first_true (holds_stake r) (holds_rewards r) accounts))
    (second_true (holds_stake r) (holds_rewards r) accounts) in
    (ascend, coins, both_true (both_true (both_true values stakes) (rewards_pass p s m.starts m.events)) (others_pass p s))

pub tests_make_sound : TestsMakeSound
tests_make_sound r a coins m t =
    let height = r.ctx.height in
    let l = r.lists in
    let first = first_true (are_values_sound r && are_stakes_sound r && are_rewards_sound r) (are_others_sound r) t in
    let others = second_true (are_values_sound r && are_stakes_sound r && are_rewards_sound r) (are_others_sound r) t in
    let second = first_true (are_values_sound r && are_stakes_sound r) (are_rewards_sound r) first in
    let rewards = second_true (are_values_sound r && are_stakes_sound r) (are_rewards_sound r) first in
    let values : are_values_sound r ≡ true = first_true (are_values_sound r) (are_stakes_sound r) second in
    let stakes : are_stakes_sound r ≡ true = second_true (are_values_sound r) (are_stakes_sound r) second in
    -- values
    let context = is_context_sound r.ctx in
    let backed = are_backed l.bank.balances l.bank.supplies in
    let validators = are_validators_sound height l.staked.validators in
    let currents = are_currents_in_range l.shared.currents in
    let few = second_true (context && backed && validators && currents) (are_few r) values in
    let four = first_true (context && backed && validators && currents) (are_few r) values in
    let ranges = second_true (context && backed && validators) currents four in
    let three = first_true (context && backed && validators) currents four in
    let valid = second_true (context && backed) validators three in
    let ground = first_true (context && backed) validators three in
    -- stakes
    let shares = are_shares_delegated l.staked.validators l.staked.delegations in
    let cons = are_cons_distinct l.staked.validators in
    let held = first_true (shares && cons && holds_stake r) (holds_rewards r) stakes in
    let owed = second_true (shares && cons && holds_stake r) (holds_rewards r) stakes in
    let stake = second_true (shares && cons) (holds_stake r) held in
    let both = first_true (shares && cons) (holds_stake r) held in
    -- distribution
    let tested : AreRewardsTested r = record { ascend = a; coins = coins; ranges = ranges; passed = rewards } in
    let keys = first_true (have_keys l) (are_begun height l.shared.currents l.shared.starts)
    (first_true (stands_for_stakes height l) (are_counted l.shared)
    (first_true (stands_for_stakes height l && are_counted l.shared) (do_ratios_grow None l.shared.histories)
    (first_true (stands_for_stakes height l && are_counted l.shared && do_ratios_grow None l.shared.histories) (are_events_sound height l.shared) rewards))) in
    -- others
    let recorded = are_recorded l.staked.validators l.signings in
    let signings = are_signings_sound height r.ctx.params.signed_blocks_window l.signings in
    let unbondings = are_unbondings_sound height l.unbondings in
    let redelegations = are_redelegations_sound height l.redelegations in
    let last = second_true (recorded && signings && unbondings) redelegations others in
    let front = first_true (recorded && signings && unbondings) redelegations others in
    let unbound = second_true (recorded && signings) unbondings front in
    let signed = first_true (recorded && signings) unbondings front in
    record {
      ground = (ground_is_decided r a).0 ground;
      few = few_told r few;
      staked = (staked_decide height l.staked a.validators a.operators a.delegations m.shares).0 (both_true (both_true valid (first_true shares cons both)) (second_true shares cons both));
      accounts = (accounts_decide r coins ((backed_decides l.bank a.balances a.supplies).0 (second_true context backed ground))).0 (both_true stake owed);
      stands = (stands_decide r).0 keys;
      purses = record { ascend = a.shared.purses; purses = coins.purses; pool = coins.pool };
      rewards = are_rewards_sound_by_tests r tested;
      payees = a.shared.payees;
      window = window_sound height r.ctx.params.signed_blocks_window l.signings a.signings (second_true recorded signings signed);
      recorded = (recorded_decides l.staked r.ctx.params.signed_blocks_window l.signings).0 (first_true recorded signings signed);
      unbondings = (unbondings_decide height l.unbondings a.unbondings).0 unbound;
      redelegations = (redelegations_decide height l.redelegations a.redelegations).0 last;
    }
