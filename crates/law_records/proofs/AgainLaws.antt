-- Records that pass the tests are those of their plain state.
use Rattle.std.proofs.Common.{◌≡◌, ◌∙◌, ℕ, Bool, true, List, [], ◌∷◌, map, refl, sym, ap, ◌&&◌, flat_map}
use Rattle.base_roles.specs.declared.entities.Historical.{Historical}
use Rattle.rule_modules.specs.{Chain.{shared_in, window_in}, Distribution.Shared, Sound.RewardsAreSound}
use Rattle.mod_periods.specs.{Kept.AreInOrder, Stands.KeepsRewards}
use Rattle.store_records.specs.{Plain.{SharedSeen, PlainSeen, AreAscending, listed}, States.{state_of, window_of}}
use Rattle.store_soundness.specs.Ranges.{is_context_sound, are_backed, are_validators_sound, are_currents_in_range, are_few}
use Rattle.store_soundness.specs.Signing.{are_recorded, are_signings_sound}
use Rattle.store_soundness.specs.Entries.{are_unbondings_sound, are_redelegations_sound}
use Rattle.store_soundness.specs.Sound.{are_values_sound, are_stakes_sound, are_rewards_sound, are_others_sound, is_sound}
use Rattle.law_records.specs.{Again.{RecordsAreThoseOfState, SigningsAreThoseOfVotes}, Coins.AreCoins}
use Rattle.law_records.specs.{HistoryLaws.{AreRewardsTested, kept_rewards}, Records.{plain_of, shared_of, signed_in}}
use Rattle.law_records.proofs.HistoryLaws.{are_rewards_sound_by_tests, are_rewards_kept_by_tests}
use Rattle.law_records.proofs.{OperatorLemmas.{first_true, second_true}, RecordLaws.items_are_listed}
use Rattle.law_records.proofs.{RewardLists.{currents_kept, histories_kept, slashes_kept}, RingLaws.signings_kept}

-- ---- what is told by all tests

module _ (r : PlainSeen) (t : is_sound r ≡ true) where
  values_pass : are_values_sound r ≡ true
  values_pass = first_true (are_values_sound r) (are_stakes_sound r) (first_true (are_values_sound r && are_stakes_sound r) (are_rewards_sound r) (first_true (are_values_sound r && are_stakes_sound r && are_rewards_sound r) (are_others_sound r) t))

  rewards_pass : are_rewards_sound r ≡ true
  rewards_pass = second_true (are_values_sound r && are_stakes_sound r) (are_rewards_sound r) (first_true (are_values_sound r && are_stakes_sound r && are_rewards_sound r) (are_others_sound r) t)

  others_pass : are_others_sound r ≡ true
  others_pass = second_true (are_values_sound r && are_stakes_sound r && are_rewards_sound r) (are_others_sound r) t

  currents_pass : are_currents_in_range r.lists.shared.currents ≡ true
  currents_pass =
      let one = is_context_sound r.ctx in
      let two = are_backed r.lists.bank.balances r.lists.bank.supplies in
      let three = are_validators_sound r.ctx.height r.lists.staked.validators in
      let four = are_currents_in_range r.lists.shared.currents in
      second_true (one && two && three) four (first_true (one && two && three && four) (are_few r) values_pass)

  signings_pass : are_signings_sound r.ctx.height r.ctx.params.signed_blocks_window r.lists.signings ≡ true
  signings_pass =
      let one = are_recorded r.lists.staked.validators r.lists.signings in
      let two = are_signings_sound r.ctx.height r.ctx.params.signed_blocks_window r.lists.signings in
      let three = are_unbondings_sound r.ctx.height r.lists.unbondings in
      let four = are_redelegations_sound r.ctx.height r.lists.redelegations in
      second_true one two (first_true (one && two) three (first_true (one && two && three) four others_pass))

-- ---- distribution

-- lists that stand for the rewards of their plain state are those of its records
shared_again : (r : PlainSeen) → AreAscending r.lists → KeepsRewards (kept_rewards r.lists.shared) (shared_in (state_of r)).rewards → RewardsAreSound r.ctx.height (shared_in (state_of r)).rewards
    → shared_of (shared_in (state_of r)) ≡ r.lists.shared
shared_again r a k s =
    let l = r.lists.shared in
    let rewards = (shared_in (state_of r)).rewards in
    let ordered : AreInOrder (kept_rewards l) = record { current = a.shared.currents; historical = a.shared.histories; starts = a.shared.starts; events = a.shared.events } in
    let currents = currents_kept (kept_rewards l) rewards ordered k in
    let histories = histories_kept rewards r.ctx.height (kept_rewards l) ordered k s in
    let events = slashes_kept r.ctx.height (kept_rewards l) rewards ordered k s in
    λ i. record {
      purses = l.purses;
      payees = l.payees;
      currents = sym currents i;
      histories = sym histories i;
      starts = l.starts;
      events = sym events i;
    }

-- ---- all records

-- Records whose keys ascend and that pass all tests are those of their plain state.
pub plain_again : (r : PlainSeen) → AreAscending r.lists → AreCoins r → is_sound r ≡ true → plain_of (state_of r) ≡ r
plain_again r a coins t =
    let tested : AreRewardsTested r = record { ascend = a; coins = coins; ranges = currents_pass r t; passed = rewards_pass r t } in
    let shared = shared_again r a (are_rewards_kept_by_tests r tested) (are_rewards_sound_by_tests r tested) in
    let signings = signings_kept r.ctx.height r.ctx.params.signed_blocks_window r.lists.signings (signings_pass r t) in
    λ i. record {
      ctx = r.ctx;
      pool = r.pool;
      lists = record {
        bank = r.lists.bank;
        staked = r.lists.staked;
        unbondings = r.lists.unbondings;
        redelegations = r.lists.redelegations;
        signings = signings i;
        shared = shared i;
      };
    }

-- ---- as laws

pub signings_again : SigningsAreThoseOfVotes
signings_again r t = signings_kept r.ctx.height r.ctx.params.signed_blocks_window r.lists.signings t

pub records_again : RecordsAreThoseOfState
records_again r a coins t = let same = plain_again r a coins t in (same, items_are_listed (state_of r) ∙ ap listed same)
