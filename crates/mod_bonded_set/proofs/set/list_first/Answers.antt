use Rattle.std.proofs.Common.{◌≡◌, ◌∙◌, ◌≤◌, None, ap, sym, subst, arith, option_map}
use Rattle.base_table.specs.Tabled.{entry_above}
use Rattle.mod_staking.specs.Places.{standing, standing_cmp, power_place, in_order}
use Rattle.mod_bonded_set.proofs.{SetLemmas.by_place, StakeLemmas.{sound_ascend, sound_keyed, sound_tokens}}
use Rattle.mod_bonded_set.proofs.PassedLemmas.{Passed, passed-first, passed-step, passed-over, passed-joining, passed-set, by_power_found}
use Rattle.mod_bonded_set.proofs.set.list_first.Goals as goal

pub loop-passed-init : goal.loop-passed-init
loop-passed-init g c =
    let es = by_place c.args.power_reduction c.args.staking.now.staked.validators in
    record { passed = subst (λ l. Passed es 0 l None) (sym c.requires.none) (passed-first es); cost = omega arith }

pub place_of-requires-clause-tokens : goal.place_of-requires-clause-tokens
place_of-requires-clause-tokens g c =
    let s = c.args.staking.now.staked in
    sound_tokens s c.in-Some.v.now.operator c.in-Some.v.now c.requires.sound
    (by_power_found c.args.power_reduction s.validators (sound_ascend s c.requires.sound) (sound_keyed s c.requires.sound) c.loop-passed.last c.in-Some.v.now
    (c.in-Some.ensures.validator ∙ ap (λ r. option_map (λ e. e.1) (entry_above standing_cmp (in_order standing_cmp (power_place r) s.validators) (option_map standing c.loop-passed.last))) c.requires.power))

pub loop-passed-preserved : goal.loop-passed-preserved
loop-passed-preserved g c =
    let s = c.args.staking.now.staked in
    let cost = c.loop-passed.invariant.cost in
    let step = c.next_behind.ensures.cost in
    record {
      passed = passed-step c.args.power_reduction s.validators (sound_ascend s c.requires.sound) (sound_keyed s c.requires.sound) c.loop-passed._passed c.loop-passed.list.items c.list_new.new.list.items c.loop-passed.last c.in-Some.v.now c.place_of.result
          c.loop-passed.invariant.passed
          (c.in-Some.ensures.validator ∙ ap (λ r. option_map (λ e. e.1) (entry_above standing_cmp (in_order standing_cmp (power_place r) s.validators) (option_map standing c.loop-passed.last))) c.requires.power)
          c.in_ok-list_new-in-Some.ensures.ok c.place_of.ensures;
      cost = omega (arith, cost, step);
    }

pub returns-in-None-clause-joining : goal.returns-in-None-clause-joining
returns-in-None-clause-joining g c =
    let s = c.args.staking.now.staked in
    let r = c.args.power_reduction in
    let few : c.loop-passed._passed ≤ c.args.most = omega arith in
    let all = passed-over r s.validators (sound_ascend s c.requires.sound) (sound_keyed s c.requires.sound) c.loop-passed._passed c.args.most c.loop-passed.list.items c.loop-passed.last c.loop-passed.invariant.passed few
    (c.in-None.ensures.validator ∙ ap (λ r. option_map (λ e. e.1) (entry_above standing_cmp (in_order standing_cmp (power_place r) s.validators) (option_map standing c.loop-passed.last))) c.requires.power) in
    passed-joining r s.validators (sound_ascend s c.requires.sound) (sound_keyed s c.requires.sound) c.args.most c.loop-passed.list.items (option_map standing c.loop-passed.last) all

pub returns-in-None-clause-set : goal.returns-in-None-clause-set
returns-in-None-clause-set g c =
    let s = c.args.staking.now.staked in
    let r = c.args.power_reduction in
    let few : c.loop-passed._passed ≤ c.args.most = omega arith in
    let all = passed-over r s.validators (sound_ascend s c.requires.sound) (sound_keyed s c.requires.sound) c.loop-passed._passed c.args.most c.loop-passed.list.items c.loop-passed.last c.loop-passed.invariant.passed few
    (c.in-None.ensures.validator ∙ ap (λ r. option_map (λ e. e.1) (entry_above standing_cmp (in_order standing_cmp (power_place r) s.validators) (option_map standing c.loop-passed.last))) c.requires.power) in
    passed-set r s.validators (sound_ascend s c.requires.sound) (sound_keyed s c.requires.sound) c.args.most c.loop-passed.list.items (option_map standing c.loop-passed.last) all

pub returns-clause-joining : goal.returns-clause-joining
returns-clause-joining g c =
    let s = c.args.staking.now.staked in
    let r = c.args.power_reduction in
    let last : c.loop-passed._passed ≡ c.args.most = omega arith in
    let all = subst (λ n. Passed (by_place r s.validators) n c.loop-passed.list.items (option_map standing c.loop-passed.last)) last c.loop-passed.invariant.passed in
    passed-joining r s.validators (sound_ascend s c.requires.sound) (sound_keyed s c.requires.sound) c.args.most c.loop-passed.list.items (option_map standing c.loop-passed.last) all

pub returns-clause-set : goal.returns-clause-set
returns-clause-set g c =
    let s = c.args.staking.now.staked in
    let r = c.args.power_reduction in
    let last : c.loop-passed._passed ≡ c.args.most = omega arith in
    let all = subst (λ n. Passed (by_place r s.validators) n c.loop-passed.list.items (option_map standing c.loop-passed.last)) last c.loop-passed.invariant.passed in
    passed-set r s.validators (sound_ascend s c.requires.sound) (sound_keyed s c.requires.sound) c.args.most c.loop-passed.list.items (option_map standing c.loop-passed.last) all
