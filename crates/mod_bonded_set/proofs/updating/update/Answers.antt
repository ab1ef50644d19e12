use Rattle.std.proofs.Common.{◌≡◌, ◌∙◌, ℕ, ◌^◌, ◌≤◌, None, length, refl, ap, sym, subst, arith, rules, ◌-◌, Ok, Err, IfErr, option_map}
use Rattle.std.specs.{List.AllByRecursion, Map.values_of}
use Rattle.base_types.specs.declared.account.Account.TheVariants as account
use Rattle.base_types.specs.declared.account.Module.TheVariants as holder
use Rattle.base_roles.specs.{declared.entities.Validator.Validator, Ground.seen, Holdings.balance_of, Staked.is_bonded}
use Rattle.base_roles.specs.Flow.{each}
use Rattle.base_roles.specs.declared.faults.HookFault.TheVariants as hook
use Rattle.rule_modules.specs.{Amounts.count_where, Answers.Leaves}
use Rattle.rule_modules.specs.BondedSet.{HaveOwnOperators, joined_set, set_updated, tokens_of, difference_moved}
use Rattle.rule_modules.specs.Unbondings.{completion}
use Rattle.mod_staking.specs.{Calls.behind_log, KnownSet.IsKnown, Places.standing, Scenes.IsScene}
use Rattle.mod_bonded_set.specs.{Calls.AllStays, Sets.{AllStand, all_joined, all_left, all_leavings_noted}}
use Rattle.mod_bonded_set.proofs.{KnownLemmas.known_after, JoinedLemmas.memory_wanting}
use Rattle.mod_bonded_set.proofs.LoopLemmas.{turns_within, fine, register-none, stays-none, stays-then}
use Rattle.mod_bonded_set.proofs.PassedLemmas.{joining-few, leaving-few}
use Rattle.mod_bonded_set.proofs.SceneLemmas.{leaving-stand-now, backed2, enough-to_bonded, enough-from_bonded, accounts3, stand3}
use Rattle.mod_bonded_set.proofs.StandLemmas.{joining-stand, joining-apart, joining-all, leaving-apart, leaving-all}
use Rattle.mod_bonded_set.proofs.StakeLemmas.{sound_ascend, sound_keyed, sound_tokens}
use Rattle.mod_bonded_set.proofs.UpdateLemmas.{leaves-updated, leaves-stopped}
use Rattle.mod_bonded_set.proofs.updating.update.Goals as goal

pub join_all-requires : goal.join_all-requires
join_all-requires g c =
    let s = c.args.staking.now.staked in
    let p = c.args.g.now.ctx.params in
    let sound = c.requires.scene.hooked.sound in
    let is = c.as_slice-joining.ensures.value ∙ c.in_ok-moves.ensures.joining in
    record {
      stand = subst (AllStand s) (sym is) (joining-stand s sound p.power_reduction p.max_validators);
      apart = subst HaveOwnOperators (sym is) (joining-apart s sound p.power_reduction p.max_validators);
      hooked = c.requires.scene.hooked;
    }

pub leave_all-requires : goal.leave_all-requires
leave_all-requires g c =
    let s = c.args.staking.now.staked in
    let p = c.args.g.now.ctx.params in
    let sound = c.requires.scene.hooked.sound in
    let s1 = c.join_all.new.staking.staked in
    let is = c.as_slice-joining.ensures.value ∙ c.in_ok-moves.ensures.joining in
    let out = c.as_slice-leaving.ensures.value ∙ c.in_ok-moves.ensures.leaving in
    let joined = c.in_ok-join_all.ensures.staked ∙ ap (λ l. all_joined l s) is in
    record {
      stand = subst (AllStand s1) (sym out) (leaving-stand-now s sound p.power_reduction p.max_validators s1 c.in_ok-join_all.ensures.hooked.sound joined);
      apart = subst HaveOwnOperators (sym out) (leaving-apart s sound p.power_reduction p.max_validators);
      sound = c.in_ok-join_all.ensures.hooked.sound;
      in_order = c.in_ok-join_all.ensures.hooked.stand.1.1.in_order;
    }

pub tokens_of-joined-requires : goal.tokens_of-joined-requires
tokens_of-joined-requires g c =
    let s = c.args.staking.now.staked in
    let p = c.args.g.now.ctx.params in
    let sound = c.requires.scene.hooked.sound in
    let is = c.as_slice-joining.ensures.value ∙ c.in_ok-moves.ensures.joining in
    subst (AllByRecursion (λ (v : Validator). v.tokens ≤ 10 ^ 18)) (sym is) (joining-all s sound p.power_reduction p.max_validators (λ v. v.tokens ≤ 10 ^ 18) (λ v f e. sound_tokens s v.operator v sound f))

pub tokens_of-left-requires : goal.tokens_of-left-requires
tokens_of-left-requires g c =
    let s = c.args.staking.now.staked in
    let p = c.args.g.now.ctx.params in
    let sound = c.requires.scene.hooked.sound in
    let out = c.as_slice-leaving.ensures.value ∙ c.in_ok-moves.ensures.leaving in
    subst (AllByRecursion (λ (v : Validator). v.tokens ≤ 10 ^ 18)) (sym out) (leaving-all s sound p.power_reduction p.max_validators (λ v. v.tokens ≤ 10 ^ 18) (λ v f e. sound_tokens s v.operator v sound f))

pub move_difference-requires : goal.move_difference-requires
move_difference-requires g c =
    let t = g.H.StakingHooks.tells in
    let s = c.args.staking.now.staked in
    let p = c.args.g.now.ctx.params in
    let scene = c.requires.scene in
    let sound = scene.hooked.sound in
    let s1 = c.join_all.new.staking.staked in
    let s2 = c.leave_all.new.staking.staked in
    let v0 = seen g.B.Bank.holdings c.args.g.now in
    let v1 = seen g.B.Bank.holdings c.join_all.new.g in
    let v2 = seen g.B.Bank.holdings c.leave_all.new.g in
    let is = c.as_slice-joining.ensures.value ∙ c.in_ok-moves.ensures.joining in
    let out = c.as_slice-leaving.ensures.value ∙ c.in_ok-moves.ensures.leaving in
    let joined = c.in_ok-join_all.ensures.staked ∙ ap (λ l. all_joined l s) is in
    let left = c.in_ok-leave_all.ensures.staked ∙ ap (λ l. all_left v1.ctx.height (completion v1.ctx) l s1) out in
    let ground = c.in_ok-leave_all.ensures.ground ∙ ap (λ l. all_leavings_noted l v1) out in
    let kept = c.in_ok-join_all.ensures.keeps scene.hooked.stand.0 scene.hooked.stand.1.0 scene.hooked.stand.1.1 in
    let after = c.in_ok-join_all.ensures.hooked in
    let more = c.tokens_of-joined.ensures ∙ ap tokens_of is in
    let less = c.tokens_of-left.ensures ∙ ap tokens_of out in
    record {
      backed = backed2 t s sound p.power_reduction p.max_validators s1 after.sound joined v0 v1 (t.owes scene.hooked.stand.0 ≡ None) kept scene.accounts after.stand.0 after.stand.1.1 v1.ctx.height (completion v1.ctx) s2 left v2 ground;
      not_bonded = subst (λ (k : ℕ × ℕ). k.0 - k.1 ≤ balance_of v2.bank (account.Module holder.NotBonded) v2.ctx.params.bond_denom) (λ i. (sym more i, sym less i)) (enough-to_bonded t s sound p.power_reduction p.max_validators s1 after.sound joined v0 v1 (t.owes scene.hooked.stand.0 ≡ None) kept scene.accounts after.stand.0 after.stand.1.1 v1.ctx.height (completion v1.ctx) s2 left v2 ground);
      bonded = subst (λ (k : ℕ × ℕ). k.1 - k.0 ≤ balance_of v2.bank (account.Module holder.Bonded) v2.ctx.params.bond_denom) (λ i. (sym more i, sym less i)) (enough-from_bonded t s sound p.power_reduction p.max_validators s1 after.sound joined v0 v1 (t.owes scene.hooked.stand.0 ≡ None) kept scene.accounts after.stand.0 after.stand.1.1 v1.ctx.height (completion v1.ctx) s2 left v2 ground);
    }

pub tell-requires : goal.tell-requires
tell-requires g c =
    let s = c.args.staking.now.staked in
    let p = c.args.g.now.ctx.params in
    let s1 = c.join_all.new.staking.staked in
    let k = c.leave_all.new.staking in
    let v1 = seen g.B.Bank.holdings c.join_all.new.g in
    let is = c.as_slice-joining.ensures.value ∙ c.in_ok-moves.ensures.joining in
    let out = c.as_slice-leaving.ensures.value ∙ c.in_ok-moves.ensures.leaving in
    let joined = c.in_ok-join_all.ensures.staked ∙ ap (λ l. all_joined l s) is in
    let left = c.in_ok-leave_all.ensures.staked ∙ ap (λ l. all_left v1.ctx.height (completion v1.ctx) l s1) out in
    let power = ap (λ b. b.power_reduction) (c.leave_all.ensures.register.behind ∙ c.join_all.ensures.stays.register.behind) ∙ c.requires.power in
    subst (λ r. IsKnown r (option_map standing c.in_ok-moves.moves.last) k.staked.validators) (sym power)
    (known_after p.power_reduction p.max_validators v1.ctx.height (completion v1.ctx) s s1 k.staked (option_map standing c.in_ok-moves.moves.last) c.in_ok-moves.ensures.unmoved joined left)

pub returns-clause-scene : goal.returns-clause-scene
returns-clause-scene g c =
    let t = g.H.StakingHooks.tells in
    let s = c.args.staking.now.staked in
    let p = c.args.g.now.ctx.params in
    let scene = c.requires.scene in
    let sound = scene.hooked.sound in
    let s1 = c.join_all.new.staking.staked in
    let s2 = c.leave_all.new.staking.staked in
    let v0 = seen g.B.Bank.holdings c.args.g.now in
    let v1 = seen g.B.Bank.holdings c.join_all.new.g in
    let v2 = seen g.B.Bank.holdings c.leave_all.new.g in
    let is = c.as_slice-joining.ensures.value ∙ c.in_ok-moves.ensures.joining in
    let out = c.as_slice-leaving.ensures.value ∙ c.in_ok-moves.ensures.leaving in
    let joined = c.in_ok-join_all.ensures.staked ∙ ap (λ l. all_joined l s) is in
    let left = c.in_ok-leave_all.ensures.staked ∙ ap (λ l. all_left v1.ctx.height (completion v1.ctx) l s1) out in
    let ground = c.in_ok-leave_all.ensures.ground ∙ ap (λ l. all_leavings_noted l v1) out in
    let kept = c.in_ok-join_all.ensures.keeps scene.hooked.stand.0 scene.hooked.stand.1.0 scene.hooked.stand.1.1 in
    let after = c.in_ok-join_all.ensures.hooked in
    let more = c.tokens_of-joined.ensures ∙ ap tokens_of is in
    let less = c.tokens_of-left.ensures ∙ ap tokens_of out in
    let v3 = seen g.B.Bank.holdings c.move_difference.new.g in
    let moved = c.in_ok-move_difference.ensures.moved ∙ (λ i. difference_moved (more i) (less i) v2) in
    subst (λ k. IsScene t (g.H.StakingHooks.holds c.join_all.new.hooks) v3 k.staked) (sym c.tell.ensures) (record {
      hooked = record { sound = c.in_ok-leave_all.ensures.sound; stand = (after.stand.0, (after.stand.1.0, stand3 t s sound p.power_reduction p.max_validators s1 after.sound joined v0 v1 (t.owes scene.hooked.stand.0 ≡ None) kept scene.accounts after.stand.0 after.stand.1.1 v1.ctx.height (completion v1.ctx) s2 left v2 ground v3 moved c.move_difference.ensures.backed)) };
      accounts = accounts3 t s sound p.power_reduction p.max_validators s1 after.sound joined v0 v1 (t.owes scene.hooked.stand.0 ≡ None) kept scene.accounts after.stand.0 after.stand.1.1 v1.ctx.height (completion v1.ctx) s2 left v2 ground v3 moved c.move_difference.ensures.backed;
    })

pub returns-clause-told : goal.returns-clause-told
returns-clause-told g c = λ h o log.
    let t = g.H.StakingHooks.tells in
    let s = c.args.staking.now.staked in
    let p = c.args.g.now.ctx.params in
    let scene = c.requires.scene in
    let sound = scene.hooked.sound in
    let s1 = c.join_all.new.staking.staked in
    let s2 = c.leave_all.new.staking.staked in
    let v0 = seen g.B.Bank.holdings c.args.g.now in
    let v1 = seen g.B.Bank.holdings c.join_all.new.g in
    let v2 = seen g.B.Bank.holdings c.leave_all.new.g in
    let is = c.as_slice-joining.ensures.value ∙ c.in_ok-moves.ensures.joining in
    let out = c.as_slice-leaving.ensures.value ∙ c.in_ok-moves.ensures.leaving in
    let joined = c.in_ok-join_all.ensures.staked ∙ ap (λ l. all_joined l s) is in
    let left = c.in_ok-leave_all.ensures.staked ∙ ap (λ l. all_left v1.ctx.height (completion v1.ctx) l s1) out in
    let ground = c.in_ok-leave_all.ensures.ground ∙ ap (λ l. all_leavings_noted l v1) out in
    let kept = c.in_ok-join_all.ensures.keeps scene.hooked.stand.0 scene.hooked.stand.1.0 scene.hooked.stand.1.1 in
    let after = c.in_ok-join_all.ensures.hooked in
    let more = c.tokens_of-joined.ensures ∙ ap tokens_of is in
    let less = c.tokens_of-left.ensures ∙ ap tokens_of out in
    let v3 = seen g.B.Bank.holdings c.move_difference.new.g in
    let moved = c.in_ok-move_difference.ensures.moved ∙ (λ i. difference_moved (more i) (less i) v2) in
    let holds = g.H.StakingHooks.holds c.join_all.new.hooks in
    subst (λ k. Leaves (set_updated t.told (behind_log log s h v0)) k.staked holds v3 (Ok tt)) (sym c.tell.ensures)
    (leaves-updated t.told (behind_log log s h v0) s1 s2 holds v1 v2 v3 (subst (λ l. Leaves (each (joined_set t.told) l (behind_log log s h v0)) s1 holds v1 (Ok tt)) is (c.in_ok-join_all.ensures.told h o log)) left ground moved)

pub returns-in_err-moves-clause-told : goal.returns-in_err-moves-clause-told
returns-in_err-moves-clause-told g c = λ h o log.
    let rule = set_updated g.H.StakingHooks.tells.told (behind_log log c.args.staking.now.staked h (seen g.B.Bank.holdings c.args.g.now)) in
    let fault = c.in_err-moves.field-0.0 in
    let given : c.from_residual.result ≡ Err fault = search rules in
    let is : fault ≡ hook.NoMemory = c.in_err-moves.ensures.fault in
    subst (Leaves rule c.args.staking.now.staked (g.H.StakingHooks.holds c.args.hooks.now) (seen g.B.Bank.holdings c.args.g.now)) (sym (given ∙ ap Err is))
    (memory_wanting rule c.args.staking.now.staked (g.H.StakingHooks.holds c.args.hooks.now) (seen g.B.Bank.holdings c.args.g.now))

pub returns-in_err-leave_all-clause-told : goal.returns-in_err-leave_all-clause-told
returns-in_err-leave_all-clause-told g c = λ h o log.
    let rule = set_updated g.H.StakingHooks.tells.told (behind_log log c.args.staking.now.staked h (seen g.B.Bank.holdings c.args.g.now)) in
    let fault = c.in_err-leave_all.field-0.0 in
    let given : c.from_residual-in_err-leave_all.result ≡ Err fault = search rules in
    let is : fault ≡ hook.NoMemory = c.in_err-leave_all.ensures.fault in
    subst (Leaves rule c.leave_all.new.staking.staked (g.H.StakingHooks.holds c.join_all.new.hooks) (seen g.B.Bank.holdings c.leave_all.new.g)) (sym (given ∙ ap Err is))
    (memory_wanting rule c.leave_all.new.staking.staked (g.H.StakingHooks.holds c.join_all.new.hooks) (seen g.B.Bank.holdings c.leave_all.new.g))

pub returns-in_err-move_difference-clause-told : goal.returns-in_err-move_difference-clause-told
returns-in_err-move_difference-clause-told g c = λ h o log.
    let rule = set_updated g.H.StakingHooks.tells.told (behind_log log c.args.staking.now.staked h (seen g.B.Bank.holdings c.args.g.now)) in
    let fault = c.in_err-move_difference.field-0.0 in
    let given : c.from_residual-in_err-move_difference.result ≡ Err fault = search rules in
    let is : fault ≡ hook.NoMemory = c.in_err-move_difference.ensures.fault in
    subst (Leaves rule c.leave_all.new.staking.staked (g.H.StakingHooks.holds c.join_all.new.hooks) (seen g.B.Bank.holdings c.move_difference.new.g)) (sym (given ∙ ap Err is))
    (memory_wanting rule c.leave_all.new.staking.staked (g.H.StakingHooks.holds c.join_all.new.hooks) (seen g.B.Bank.holdings c.move_difference.new.g))

pub returns-in_err-join_all-clause-told : goal.returns-in_err-join_all-clause-told
returns-in_err-join_all-clause-told g c = λ h o log.
    let t = g.H.StakingHooks.tells in
    let w = behind_log log c.args.staking.now.staked h (seen g.B.Bank.holdings c.args.g.now) in
    let s1 = c.join_all.new.staking.staked in
    let v1 = seen g.B.Bank.holdings c.join_all.new.g in
    let holds = g.H.StakingHooks.holds c.join_all.new.hooks in
    let fault = c.in_err-join_all.field-0.0 in
    let given : c.from_residual-in_err-join_all.result ≡ Err fault = search rules in
    let is = c.as_slice-joining.ensures.value ∙ c.in_ok-moves.ensures.joining in
    subst (Leaves (set_updated t.told w) s1 holds v1) (sym given)
    (leaves-stopped t.told w s1 holds v1 fault (subst (λ l. Leaves (each (joined_set t.told) l w) s1 holds v1 (Err fault)) is (c.in_err-join_all.ensures.told h o log)))

pub returns-in_err-join_all-clause-sure : goal.returns-in_err-join_all-clause-sure
returns-in_err-join_all-clause-sure g c = λ h o stand sure.
    let fault = c.in_err-join_all.field-0.0 in
    let given : c.from_residual-in_err-join_all.result ≡ Err fault = search rules in
    subst (λ r. IfErr r (λ f. f ≡ hook.NoMemory)) (sym given) (c.in_err-join_all.ensures.sure h o stand sure)

pub returns-in_err-join_all-clause-cost : goal.returns-in_err-join_all-clause-cost
returns-in_err-join_all-clause-cost g c = λ h o few_steps bank_steps.
    let a = c.who_moves.ensures.cost in
    let s = c.args.staking.now.staked in
    let p = c.args.g.now.ctx.params in
    let sound = c.requires.scene.hooked.sound in
    let is = c.as_slice-joining.ensures.value ∙ c.in_ok-moves.ensures.joining in
    let few = subst (λ l. length l ≤ p.max_validators) (sym is) (joining-few p.power_reduction s.validators (sound_ascend s sound) (sound_keyed s sound) p.max_validators) in
    let turns = turns_within _ p.max_validators (g.H.StakingHooks.tells.most_steps h) few few_steps in
    let j = c.join_all.ensures.cost h o in
    omega (arith, a, turns, j)

pub returns-in_err-leave_all-clause-cost : goal.returns-in_err-leave_all-clause-cost
returns-in_err-leave_all-clause-cost g c = λ h o few_steps bank_steps.
    let a = c.who_moves.ensures.cost in
    let s = c.args.staking.now.staked in
    let p = c.args.g.now.ctx.params in
    let sound = c.requires.scene.hooked.sound in
    let is = c.as_slice-joining.ensures.value ∙ c.in_ok-moves.ensures.joining in
    let few = subst (λ l. length l ≤ p.max_validators) (sym is) (joining-few p.power_reduction s.validators (sound_ascend s sound) (sound_keyed s sound) p.max_validators) in
    let turns = turns_within _ p.max_validators (g.H.StakingHooks.tells.most_steps h) few few_steps in
    let j = c.join_all.ensures.cost h o in
    let out = c.as_slice-leaving.ensures.value ∙ c.in_ok-moves.ensures.leaving in
    let less = subst (λ l. length l ≤ count_where (λ v. is_bonded v.status) (values_of s.validators)) (sym out) (leaving-few p.power_reduction s.validators (sound_ascend s sound) (sound_keyed s sound) p.max_validators) in
    let l = c.leave_all.ensures.cost in
    omega (arith, a, turns, j, less, l)

pub returns-in_err-move_difference-clause-cost : goal.returns-in_err-move_difference-clause-cost
returns-in_err-move_difference-clause-cost g c = λ h o few_steps bank_steps.
    let a = c.who_moves.ensures.cost in
    let s = c.args.staking.now.staked in
    let p = c.args.g.now.ctx.params in
    let sound = c.requires.scene.hooked.sound in
    let is = c.as_slice-joining.ensures.value ∙ c.in_ok-moves.ensures.joining in
    let few = subst (λ l. length l ≤ p.max_validators) (sym is) (joining-few p.power_reduction s.validators (sound_ascend s sound) (sound_keyed s sound) p.max_validators) in
    let turns = turns_within _ p.max_validators (g.H.StakingHooks.tells.most_steps h) few few_steps in
    let j = c.join_all.ensures.cost h o in
    let out = c.as_slice-leaving.ensures.value ∙ c.in_ok-moves.ensures.leaving in
    let less = subst (λ l. length l ≤ count_where (λ v. is_bonded v.status) (values_of s.validators)) (sym out) (leaving-few p.power_reduction s.validators (sound_ascend s sound) (sound_keyed s sound) p.max_validators) in
    let l = c.leave_all.ensures.cost in
    let most_steps = ap g.B.Bank.most_steps c.leave_all.ensures.bank ∙ c.join_all.ensures.stays.bank in
    let m = c.move_difference.ensures.cost in
    omega (arith, a, turns, j, less, l, most_steps, m, bank_steps)

pub returns-clause-cost : goal.returns-clause-cost
returns-clause-cost g c = λ h o few_steps bank_steps.
    let a = c.who_moves.ensures.cost in
    let s = c.args.staking.now.staked in
    let p = c.args.g.now.ctx.params in
    let sound = c.requires.scene.hooked.sound in
    let is = c.as_slice-joining.ensures.value ∙ c.in_ok-moves.ensures.joining in
    let few = subst (λ l. length l ≤ p.max_validators) (sym is) (joining-few p.power_reduction s.validators (sound_ascend s sound) (sound_keyed s sound) p.max_validators) in
    let turns = turns_within _ p.max_validators (g.H.StakingHooks.tells.most_steps h) few few_steps in
    let j = c.join_all.ensures.cost h o in
    let out = c.as_slice-leaving.ensures.value ∙ c.in_ok-moves.ensures.leaving in
    let less = subst (λ l. length l ≤ count_where (λ v. is_bonded v.status) (values_of s.validators)) (sym out) (leaving-few p.power_reduction s.validators (sound_ascend s sound) (sound_keyed s sound) p.max_validators) in
    let l = c.leave_all.ensures.cost in
    let most_steps = ap g.B.Bank.most_steps c.leave_all.ensures.bank ∙ c.join_all.ensures.stays.bank in
    let m = c.move_difference.ensures.cost in
    omega (arith, a, turns, j, less, l, most_steps, m, bank_steps)

pub returns-in_err-moves-clause-stays : goal.returns-in_err-moves-clause-stays
returns-in_err-moves-clause-stays g c = stays-none g.B.Bank.marks g.B.Bank.most_steps g.H.StakingHooks.marks c.args.g.now c.args.hooks.now c.args.staking.now c.from_residual.result

pub returns-in_err-join_all-clause-stays : goal.returns-in_err-join_all-clause-stays
returns-in_err-join_all-clause-stays g c =
    let fault = c.in_err-join_all.field-0.0 in
    let given : c.from_residual-in_err-join_all.result ≡ Err fault = search rules in
    subst (AllStays g.B.Bank.marks g.B.Bank.most_steps g.H.StakingHooks.marks c.args.g.now c.join_all.new.g c.args.hooks.now c.join_all.new.hooks c.args.staking.now c.join_all.new.staking) (sym given)
    c.in_err-join_all.ensures.stays

pub returns-in_err-leave_all-clause-stays : goal.returns-in_err-leave_all-clause-stays
returns-in_err-leave_all-clause-stays g c =
    let fault = c.in_err-leave_all.field-0.0 in
    let given : c.from_residual-in_err-leave_all.result ≡ Err fault = search rules in
    subst (AllStays g.B.Bank.marks g.B.Bank.most_steps g.H.StakingHooks.marks c.args.g.now c.leave_all.new.g c.args.hooks.now c.join_all.new.hooks c.args.staking.now c.leave_all.new.staking) (sym given)
    (stays-then g.B.Bank.marks g.B.Bank.most_steps g.H.StakingHooks.marks c.args.g.now c.join_all.new.g c.leave_all.new.g c.args.hooks.now c.join_all.new.hooks c.join_all.new.hooks c.args.staking.now c.join_all.new.staking c.leave_all.new.staking (Err fault) c.in_ok-join_all.ensures.stays (record { undone = c.leave_all.ensures.undone; bank = ap g.B.Bank.most_steps c.leave_all.ensures.bank; hook_marks = refl; register = c.in_err-leave_all.ensures.register }))

pub returns-in_err-move_difference-clause-stays : goal.returns-in_err-move_difference-clause-stays
returns-in_err-move_difference-clause-stays g c =
    let fault = c.in_err-move_difference.field-0.0 in
    let given : c.from_residual-in_err-move_difference.result ≡ Err fault = search rules in
    subst (AllStays g.B.Bank.marks g.B.Bank.most_steps g.H.StakingHooks.marks c.args.g.now c.move_difference.new.g c.args.hooks.now c.join_all.new.hooks c.args.staking.now c.leave_all.new.staking) (sym given)
    (stays-then g.B.Bank.marks g.B.Bank.most_steps g.H.StakingHooks.marks c.args.g.now c.leave_all.new.g c.move_difference.new.g c.args.hooks.now c.join_all.new.hooks c.join_all.new.hooks c.args.staking.now c.leave_all.new.staking c.leave_all.new.staking (Err fault) (stays-then g.B.Bank.marks g.B.Bank.most_steps g.H.StakingHooks.marks c.args.g.now c.join_all.new.g c.leave_all.new.g c.args.hooks.now c.join_all.new.hooks c.join_all.new.hooks c.args.staking.now c.join_all.new.staking c.leave_all.new.staking fine c.in_ok-join_all.ensures.stays (record { undone = c.leave_all.ensures.undone; bank = ap g.B.Bank.most_steps c.leave_all.ensures.bank; hook_marks = refl; register = c.in_ok-leave_all.ensures.register })) (record { undone = c.move_difference.ensures.undone; bank = c.move_difference.ensures.bank; hook_marks = refl; register = register-none c.leave_all.new.staking (Err fault) }))

pub returns-clause-stays : goal.returns-clause-stays
returns-clause-stays g c =
    subst (λ k. AllStays g.B.Bank.marks g.B.Bank.most_steps g.H.StakingHooks.marks c.args.g.now c.move_difference.new.g c.args.hooks.now c.join_all.new.hooks c.args.staking.now k fine) (sym c.tell.ensures)
    (stays-then g.B.Bank.marks g.B.Bank.most_steps g.H.StakingHooks.marks c.args.g.now c.leave_all.new.g c.move_difference.new.g c.args.hooks.now c.join_all.new.hooks c.join_all.new.hooks c.args.staking.now c.leave_all.new.staking c.leave_all.new.staking fine (stays-then g.B.Bank.marks g.B.Bank.most_steps g.H.StakingHooks.marks c.args.g.now c.join_all.new.g c.leave_all.new.g c.args.hooks.now c.join_all.new.hooks c.join_all.new.hooks c.args.staking.now c.join_all.new.staking c.leave_all.new.staking fine c.in_ok-join_all.ensures.stays (record { undone = c.leave_all.ensures.undone; bank = ap g.B.Bank.most_steps c.leave_all.ensures.bank; hook_marks = refl; register = c.in_ok-leave_all.ensures.register })) (record { undone = c.move_difference.ensures.undone; bank = c.move_difference.ensures.bank; hook_marks = refl; register = register-none c.leave_all.new.staking fine }))
