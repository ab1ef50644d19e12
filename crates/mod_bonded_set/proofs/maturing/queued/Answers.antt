use Rattle.std.proofs.Common.{◌≡◌, ◌∙◌, ◌++◌, ◌<◌, ◌≤◌, [], ◌∷◌, Some, length, length-append, sym, ap, subst, arith}
use Rattle.base_table.specs.Tabled.{entry_above}
use Rattle.mod_staking.specs.Places.{time_cmp, maturing_place, in_order}
use Rattle.base_records.proofs.WalkLemmas.{left_of}
use Rattle.mod_bonded_set.specs.Sets.{due_in}
use Rattle.mod_bonded_set.proofs.DueLemmas.{due-end, due-stop, due-next, due-shorter, due-steps, found_place, queue-ascend}
use Rattle.mod_bonded_set.proofs.{PassedLemmas.{some_mapped, none_mapped}, StakeLemmas.{sound_ascend, sound_keyed}}
use Rattle.mod_bonded_set.proofs.maturing.queued.Goals as goal

pub loop-v-preserved : goal.loop-v-preserved
loop-v-preserved g c =
    let s = c.args.staking.now.staked in
    let r = c.args.staking.now.power_reduction in
    let queue = in_order time_cmp (maturing_place r) s.validators in
    let v = c.in-Some.v.now in
    let m = some_mapped v (entry_above time_cmp queue c.loop-v.after) c.in-Some.ensures.validator in
    let e = m.0 in
    let place = found_place c.args.now r s.validators (sound_ascend s c.requires.sound) (sound_keyed s c.requires.sound) c.loop-v.after e m.1.0 ∙ ap (λ x. (x.unbonding_time, x.operator)) (sym m.1.1) in
    let due : v.unbonding_time ≤ c.args.now = omega arith in
    record {
      told = subst (λ p. c.push.new.self.items ++ due_in c.args.now (left_of time_cmp queue (Some p)) ≡ due_in c.args.now queue) place
          (due-next c.args.now queue (queue-ascend c.args.now r s.validators (sound_ascend s c.requires.sound) (sound_keyed s c.requires.sound)) c.loop-v.due.items c.loop-v.after c.loop-v.invariant.told e m.1.0 c.push.new.self.items
          (subst (λ p. p.0 ≤ c.args.now) (sym place) due) (c.in_ok-push.ensures.items ∙ ap (λ p. c.loop-v.due.items ++ p.1 ∷ []) (sym place)));
      cost =
          let longer = ap length c.in_ok-push.ensures.items ∙ length-append c.loop-v.due.items (v.operator ∷ []) in
          let before = c.loop-v.invariant.cost in
          let turn = c.next_maturing.ensures.cost in
          omega (arith, longer, before, turn);
    }

pub loop-v-smaller : goal.loop-v-smaller
loop-v-smaller g c =
    let s = c.args.staking.now.staked in
    let r = c.args.staking.now.power_reduction in
    let queue = in_order time_cmp (maturing_place r) s.validators in
    let v = c.in-Some.v.now in
    let m = some_mapped v (entry_above time_cmp queue c.loop-v.after) c.in-Some.ensures.validator in
    let place = found_place c.args.now r s.validators (sound_ascend s c.requires.sound) (sound_keyed s c.requires.sound) c.loop-v.after m.0 m.1.0 ∙ ap (λ x. (x.unbonding_time, x.operator)) (sym m.1.1) in
    subst (λ p. length (left_of time_cmp queue (Some p)) < length (left_of time_cmp queue c.loop-v.after)) place
    (due-shorter c.args.now queue (queue-ascend c.args.now r s.validators (sound_ascend s c.requires.sound) (sound_keyed s c.requires.sound)) c.loop-v.due.items c.loop-v.after c.loop-v.invariant.told m.0 m.1.0)

pub returns-clause-due : goal.returns-clause-due
returns-clause-due g c =
    let s = c.args.staking.now.staked in
    let r = c.args.staking.now.power_reduction in
    let queue = in_order time_cmp (maturing_place r) s.validators in
    due-end c.args.now queue (queue-ascend c.args.now r s.validators (sound_ascend s c.requires.sound) (sound_keyed s c.requires.sound)) c.loop-v.due.items c.loop-v.after c.loop-v.invariant.told
    (none_mapped (entry_above time_cmp queue c.loop-v.after) c.in_default.ensures.validator)

pub returns-then-nanos-clause-due : goal.returns-then-nanos-clause-due
returns-then-nanos-clause-due g c =
    let s = c.args.staking.now.staked in
    let r = c.args.staking.now.power_reduction in
    let queue = in_order time_cmp (maturing_place r) s.validators in
    let v = c.in-Some.v.now in
    let m = some_mapped v (entry_above time_cmp queue c.loop-v.after) c.in-Some.ensures.validator in
    let place = found_place c.args.now r s.validators (sound_ascend s c.requires.sound) (sound_keyed s c.requires.sound) c.loop-v.after m.0 m.1.0 ∙ ap (λ x. (x.unbonding_time, x.operator)) (sym m.1.1) in
    let late : c.args.now < v.unbonding_time = omega arith in
    due-stop c.args.now queue (queue-ascend c.args.now r s.validators (sound_ascend s c.requires.sound) (sound_keyed s c.requires.sound)) c.loop-v.due.items c.loop-v.after c.loop-v.invariant.told m.0 m.1.0 (subst (λ p. c.args.now < p.0) (sym place) late)

pub returns-clause-cost : goal.returns-clause-cost
returns-clause-cost g c =
    let s = c.args.staking.now.staked in
    due-steps c.args.now c.args.staking.now.power_reduction s.validators (sound_ascend s c.requires.sound) (sound_keyed s c.requires.sound) c.loop-v.due.items c.loop-v.after c.loop-v.invariant.told c.args.steps.now c.loop-v.steps c.next_maturing.new.steps
    c.loop-v.invariant.cost c.next_maturing.ensures.cost

pub returns-then-nanos-clause-cost : goal.returns-then-nanos-clause-cost
returns-then-nanos-clause-cost g c =
    let s = c.args.staking.now.staked in
    due-steps c.args.now c.args.staking.now.power_reduction s.validators (sound_ascend s c.requires.sound) (sound_keyed s c.requires.sound) c.loop-v.due.items c.loop-v.after c.loop-v.invariant.told c.args.steps.now c.loop-v.steps c.next_maturing.new.steps
    c.loop-v.invariant.cost c.next_maturing.ensures.cost

pub returns-in_err-push-clause-cost : goal.returns-in_err-push-clause-cost
returns-in_err-push-clause-cost g c =
    let s = c.args.staking.now.staked in
    due-steps c.args.now c.args.staking.now.power_reduction s.validators (sound_ascend s c.requires.sound) (sound_keyed s c.requires.sound) c.loop-v.due.items c.loop-v.after c.loop-v.invariant.told c.args.steps.now c.loop-v.steps c.next_maturing.new.steps
    c.loop-v.invariant.cost c.next_maturing.ensures.cost
