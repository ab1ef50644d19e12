use Rattle.std.proofs.Common.{◌∙◌, ap, arith, not, option_map}
use Rattle.base_types.specs.Orders.{addr_cmp}
use Rattle.base_table.specs.Tabled.{entry_above}
use Rattle.mod_staking.specs.{Places.{standing, bonded_place, in_order}, KnownSet.is_within}
use Rattle.mod_bonded_set.proofs.StakeLemmas.{sound_ascend, sound_keyed}
use Rattle.mod_bonded_set.proofs.PassedLemmas.{left-step, left-less, left-leaving, bonded_count}
use Rattle.mod_bonded_set.proofs.set.who_leaves.Goals as goal

pub loop-v-preserved : goal.loop-v-preserved
loop-v-preserved g c =
    let s = c.args.staking.now.staked in
    let r = c.args.power_reduction in
    let found = c.in-Some.ensures.validator ∙ ap (λ q. option_map (λ e. e.1) (entry_above addr_cmp (in_order addr_cmp (bonded_place c.args.staking.now.power_reduction) s.validators) q)) c.as_ref.ensures.value ∙ ap (λ n. option_map (λ e. e.1) (entry_above addr_cmp (in_order addr_cmp (bonded_place n) s.validators) c.loop-v.after)) c.requires.power in
    let less = left-less r s.validators (sound_ascend s c.requires.sound) (sound_keyed s c.requires.sound) c.loop-v.after c.in-Some.v.now found in
    record {
      left = left-step r s.validators (sound_ascend s c.requires.sound) (sound_keyed s c.requires.sound) (λ v. not (is_within r (option_map standing c.args.last.now) v)) c.loop-v.leaving.items c.list_outside.new.list.items c.loop-v.after c.in-Some.v.now
          c.loop-v.invariant.left found c.in_ok-list_outside.ensures.ok;
      cost = omega (arith, less);
    }

pub returns-clause-leaving : goal.returns-clause-leaving
returns-clause-leaving g c = λ most tells.
    let s = c.args.staking.now.staked in
    let r = c.args.power_reduction in
    left-leaving r s.validators (sound_ascend s c.requires.sound) (sound_keyed s c.requires.sound) most (option_map standing c.args.last.now) c.loop-v.leaving.items c.loop-v.after c.loop-v.invariant.left
    (c.in_default.ensures.validator ∙ ap (λ q. option_map (λ e. e.1) (entry_above addr_cmp (in_order addr_cmp (bonded_place c.args.staking.now.power_reduction) s.validators) q)) c.as_ref.ensures.value ∙ ap (λ n. option_map (λ e. e.1) (entry_above addr_cmp (in_order addr_cmp (bonded_place n) s.validators) c.loop-v.after)) c.requires.power) tells

pub returns-clause-cost : goal.returns-clause-cost
returns-clause-cost g c =
    let s = c.args.staking.now.staked in
    let count = bonded_count c.args.power_reduction s.validators (sound_ascend s c.requires.sound) (sound_keyed s c.requires.sound) in
    let cost = c.loop-v.invariant.cost in
    let step = c.next_bonded.ensures.cost in
    omega (arith, count, cost, step)

pub loop-v-smaller : goal.loop-v-smaller
loop-v-smaller g c =
    let s = c.args.staking.now.staked in
    let r = c.args.power_reduction in
    let found = c.in-Some.ensures.validator ∙ ap (λ q. option_map (λ e. e.1) (entry_above addr_cmp (in_order addr_cmp (bonded_place c.args.staking.now.power_reduction) s.validators) q)) c.as_ref.ensures.value ∙ ap (λ n. option_map (λ e. e.1) (entry_above addr_cmp (in_order addr_cmp (bonded_place n) s.validators) c.loop-v.after)) c.requires.power in
    let less = left-less r s.validators (sound_ascend s c.requires.sound) (sound_keyed s c.requires.sound) c.loop-v.after c.in-Some.v.now found in
    omega (arith, less)

pub returns-in_err-list_outside-clause-cost : goal.returns-in_err-list_outside-clause-cost
returns-in_err-list_outside-clause-cost g c =
    let s = c.args.staking.now.staked in
    let count = bonded_count c.args.power_reduction s.validators (sound_ascend s c.requires.sound) (sound_keyed s c.requires.sound) in
    let cost = c.loop-v.invariant.cost in
    let step = c.next_bonded.ensures.cost in
    omega (arith, count, cost, step)
