use Rattle.std.proofs.Common.{◌≡◌, ◌∙◌, ℕ, ◌<◌, ◌≤◌, false, sym, ap, subst, arith, rules, Ok, Err, length, nat_le}
use Rattle.std.proofs.lemmas.Bool.Decides.{nat_tests}
use Rattle.base_roles.specs.{Ground.seen, Staked.{is_bonded, lists_of}, Flow.{◌>>=◌}, Stops.stop_of_hook, World.View}
use Rattle.base_roles.specs.declared.faults.MessageFault.TheVariants as stop
use Rattle.rule_modules.specs.{Unbonding.shares_unbonded, Unbondings.{entries_of, with_entries, grown, undelegated}}
use Rattle.mod_staking.specs.Calls.{behind_log}
use Rattle.mod_entries.{specs.Answers.AnswersBoth, proofs.AnswerLemmas.{answers_refused, answers_fault}}
use Rattle.mod_unbonding.specs.Calls.{moved_out}
use Rattle.mod_unbonding.proofs.AskedLemmas.{asked-given, undelegated-asked, undelegated_from, answers_made, entry_made}
use Rattle.mod_unbonding.proofs.MadeLemmas.{out_most, out_enough, stand-out, made}
use Rattle.mod_unbonding.proofs.unbondings.Unbondings.undelegate.Goals as goal

pub unbond-requires-clause-shares : goal.unbond-requires-clause-shares
unbond-requires-clause-shares g c =
    (asked-given c.args.delegator.now c.args.operator.now c.args.coin.now c.args.self.now.lists c.args.staking.now.staked (seen g.B.Bank.holdings c.args.g.now) c.in_ok-asked.asked.0 c.in_ok-asked.asked.1 (sym c.in_ok-asked.ensures)).shares

pub completion-completes-requires-clause-time : goal.completion-completes-requires-clause-time
completion-completes-requires-clause-time g c = c.requires.scene.hooked.stand.1.1.in_order.time

pub completion-completes-requires-clause-unbonding : goal.completion-completes-requires-clause-unbonding
completion-completes-requires-clause-unbonding g c = c.requires.scene.hooked.stand.1.1.in_order.params.unbonding_time_most

pub move_out-requires-clause-backed : goal.move_out-requires-clause-backed
move_out-requires-clause-backed g c = c.in_ok-out.ensures.stand.1.1.in_order.bank

pub move_out-requires-clause-most : goal.move_out-requires-clause-most
move_out-requires-clause-most g c =
    let v0 = seen g.B.Bank.holdings c.args.g.now in
    let a = asked-given c.args.delegator.now c.args.operator.now c.args.coin.now c.args.self.now.lists c.args.staking.now.staked v0 c.in_ok-asked.asked.0 c.in_ok-asked.asked.1 (sym c.in_ok-asked.ensures) in
    out_most c.args.delegator.now c.args.operator.now c.in_ok-asked.asked.1 c.in_ok-out.out c.args.staking.now.staked c.unbond.new.self.staked c.in_ok-out.ensures.unbonded c.in_ok-asked.asked.0 a.found c.requires.scene.hooked.sound

pub move_out-requires-clause-enough : goal.move_out-requires-clause-enough
move_out-requires-clause-enough g c = λ e.
    let v0 = seen g.B.Bank.holdings c.args.g.now in
    let v1 = seen g.B.Bank.holdings c.unbond.new.g in
    let a = asked-given c.args.delegator.now c.args.operator.now c.args.coin.now c.args.self.now.lists c.args.staking.now.staked v0 c.in_ok-asked.asked.0 c.in_ok-asked.asked.1 (sym c.in_ok-asked.ensures) in
    out_enough c.args.delegator.now c.args.operator.now c.in_ok-asked.asked.1 c.in_ok-out.out c.args.staking.now.staked c.unbond.new.self.staked c.in_ok-out.ensures.unbonded c.in_ok-asked.asked.0 a.found
    _ v0 v1 (c.in_ok-out.ensures.keeps c.requires.scene.hooked.stand.0 c.requires.scene.hooked.stand.1.0 c.requires.scene.hooked.stand.1.1) c.args.self.now.lists c.requires.scene.accounts (sym c.is_bonded.ensures ∙ e)

pub add-requires-clause-amount : goal.add-requires-clause-amount
add-requires-clause-amount g c =
    let v0 = seen g.B.Bank.holdings c.args.g.now in
    let a = asked-given c.args.delegator.now c.args.operator.now c.args.coin.now c.args.self.now.lists c.args.staking.now.staked v0 c.in_ok-asked.asked.0 c.in_ok-asked.asked.1 (sym c.in_ok-asked.ensures) in
    out_most c.args.delegator.now c.args.operator.now c.in_ok-asked.asked.1 c.in_ok-out.out c.args.staking.now.staked c.unbond.new.self.staked c.in_ok-out.ensures.unbonded c.in_ok-asked.asked.0 a.found c.requires.scene.hooked.sound

-- fewer entries than the most are fewer than 100
room_for : (v : View) (n : ℕ) → v.ctx.params.max_entries ≤ 100 → nat_le v.ctx.params.max_entries n ≡ false → n < 100
room_for v n p e = grind (arith, nat_tests, p, e)

pub returns-clause-whole : goal.returns-clause-whole
returns-clause-whole g c =
    let delegator = c.args.delegator.now in
    let operator = c.args.operator.now in
    let u = c.args.self.now.lists in
    let s = c.args.staking.now.staked in
    let v0 = seen g.B.Bank.holdings c.args.g.now in
    let v1 = seen g.B.Bank.holdings c.unbond.new.g in
    let v2 = seen g.B.Bank.holdings c.move_out.new.g in
    let v = c.in_ok-asked.asked.0 in
    let part = c.in_ok-asked.asked.1 in
    let a = asked-given delegator operator c.args.coin.now u s v0 v part (sym c.in_ok-asked.ensures) in
    let m : v2 ≡ moved_out (is_bonded v.status) c.in_ok-out.out v1 = c.in_ok-move_out.ensures.moved ∙ ap (λ b. moved_out b c.in_ok-out.out v1) c.is_bonded.ensures in
    (made delegator operator part c.in_ok-out.out s c.unbond.new.self.staked c.in_ok-out.ensures.unbonded v a.found _ v0 v1 (c.in_ok-out.ensures.keeps c.requires.scene.hooked.stand.0 c.requires.scene.hooked.stand.1.0 c.requires.scene.hooked.stand.1.1)
    u c.requires.scene.entries c.requires.whole c.requires.scene.accounts c.in_ok-out.ensures.stand.1.1.in_order.bank v2 c.in_ok-move_out.ensures.backed m (room_for v0 (length (entries_of u delegator operator)) c.requires.scene.hooked.stand.1.1.in_order.params.max_entries_most a.room)
    c.completion-completes.result c.add.new.self.lists (ap (λ k. k.lists) c.in_ok-add.ensures.ok)).whole

pub returns-clause-scene : goal.returns-clause-scene
returns-clause-scene g c =
    let delegator = c.args.delegator.now in
    let operator = c.args.operator.now in
    let u = c.args.self.now.lists in
    let s = c.args.staking.now.staked in
    let v0 = seen g.B.Bank.holdings c.args.g.now in
    let v1 = seen g.B.Bank.holdings c.unbond.new.g in
    let v2 = seen g.B.Bank.holdings c.move_out.new.g in
    let v = c.in_ok-asked.asked.0 in
    let part = c.in_ok-asked.asked.1 in
    let a = asked-given delegator operator c.args.coin.now u s v0 v part (sym c.in_ok-asked.ensures) in
    let m : v2 ≡ moved_out (is_bonded v.status) c.in_ok-out.out v1 = c.in_ok-move_out.ensures.moved ∙ ap (λ b. moved_out b c.in_ok-out.out v1) c.is_bonded.ensures in
    let p = c.in_ok-out.ensures.stand in
    let all = (made delegator operator part c.in_ok-out.out s c.unbond.new.self.staked c.in_ok-out.ensures.unbonded v a.found _ v0 v1 (c.in_ok-out.ensures.keeps c.requires.scene.hooked.stand.0 c.requires.scene.hooked.stand.1.0 c.requires.scene.hooked.stand.1.1)
    u c.requires.scene.entries c.requires.whole c.requires.scene.accounts c.in_ok-out.ensures.stand.1.1.in_order.bank v2 c.in_ok-move_out.ensures.backed m (room_for v0 (length (entries_of u delegator operator)) c.requires.scene.hooked.stand.1.1.in_order.params.max_entries_most a.room)
    c.completion-completes.result c.add.new.self.lists (ap (λ k. k.lists) c.in_ok-add.ensures.ok)) in
    record {
      hooked = record {
        sound = c.in_ok-out.ensures.sound;
        stand = (p.0, (p.1.0, stand-out g.H.StakingHooks.tells p.0 (lists_of c.unbond.new.self.staked) v1 v2 (is_bonded v.status) c.in_ok-out.out c.in_ok-move_out.ensures.backed m p.1.1));
      };
      entries = all.entries;
      accounts = all.accounts;
    }

pub returns-clause-told : goal.returns-clause-told
returns-clause-told g c = λ hs o log.
    let delegator = c.args.delegator.now in
    let operator = c.args.operator.now in
    let u = c.args.self.now.lists in
    let s = c.args.staking.now.staked in
    let v0 = seen g.B.Bank.holdings c.args.g.now in
    let v1 = seen g.B.Bank.holdings c.unbond.new.g in
    let v2 = seen g.B.Bank.holdings c.move_out.new.g in
    let v = c.in_ok-asked.asked.0 in
    let part = c.in_ok-asked.asked.1 in
    let a = asked-given delegator operator c.args.coin.now u s v0 v part (sym c.in_ok-asked.ensures) in
    let m : v2 ≡ moved_out (is_bonded v.status) c.in_ok-out.out v1 = c.in_ok-move_out.ensures.moved ∙ ap (λ b. moved_out b c.in_ok-out.out v1) c.is_bonded.ensures in
    let told = g.H.StakingHooks.tells.told in
    let w = behind_log log s hs v0 in
    let is = undelegated-asked told delegator operator u w c.args.coin.now ∙ ap (λ r. r >>= undelegated_from told delegator operator u w) (sym c.in_ok-asked.ensures) in
    let k = c.in_ok-out.ensures.keeps c.requires.scene.hooked.stand.0 c.requires.scene.hooked.stand.1.0 c.requires.scene.hooked.stand.1.1 in
    subst (λ r. AnswersBoth r c.add.new.self.lists c.unbond.new.self.staked (g.H.StakingHooks.holds c.unbond.new.hooks) v2 (Ok c.completion-completes.result)) (sym is)
    (subst (λ n. AnswersBoth (undelegated_from told delegator operator u w (v, part)) c.add.new.self.lists c.unbond.new.self.staked (g.H.StakingHooks.holds c.unbond.new.hooks) v2 (Ok n)) (sym c.completion-completes.ensures)
    (answers_made told delegator operator u w v part c.unbond.new.self.staked (g.H.StakingHooks.holds c.unbond.new.hooks) v1 v2 c.in_ok-out.out c.add.new.self.lists (c.in_ok-out.ensures.told hs o log) k.ctx
    (ap (λ k. k.lists) c.in_ok-add.ensures.ok ∙ ap (λ n. with_entries delegator operator (grown v0.ctx.height n c.in_ok-out.out (entries_of u delegator operator)) u) c.completion-completes.ensures) m))

pub returns-in_err-asked-clause-told : goal.returns-in_err-asked-clause-told
returns-in_err-asked-clause-told g c = λ hs o log.
    let delegator = c.args.delegator.now in
    let operator = c.args.operator.now in
    let u = c.args.self.now.lists in
    let s = c.args.staking.now.staked in
    let v0 = seen g.B.Bank.holdings c.args.g.now in
    let told = g.H.StakingHooks.tells.told in
    let w = behind_log log s hs v0 in
    let why = c.in_err-asked.field-0.0 in
    let given : c.from_residual.result ≡ Err (stop.Refused why) = search rules in
    let is = undelegated-asked told delegator operator u w c.args.coin.now ∙ ap (λ r. r >>= undelegated_from told delegator operator u w) (sym c.in_err-asked.ensures) in
    subst (AnswersBoth (undelegated told delegator operator c.args.coin.now u w) u s (g.H.StakingHooks.holds c.args.hooks.now) v0) (sym given)
    (answers_refused (undelegated told delegator operator c.args.coin.now u w) u s (g.H.StakingHooks.holds c.args.hooks.now) v0 why is)

pub returns-in_err-out-clause-told : goal.returns-in_err-out-clause-told
returns-in_err-out-clause-told g c = λ hs o log.
    let delegator = c.args.delegator.now in
    let operator = c.args.operator.now in
    let u = c.args.self.now.lists in
    let s = c.args.staking.now.staked in
    let v0 = seen g.B.Bank.holdings c.args.g.now in
    let told = g.H.StakingHooks.tells.told in
    let w = behind_log log s hs v0 in
    let v1 = seen g.B.Bank.holdings c.unbond.new.g in
    let s1 = c.unbond.new.self.staked in
    let holds1 = g.H.StakingHooks.holds c.unbond.new.hooks in
    let fault = c.in_err-out.field-0.0 in
    let given : c.from_residual-in_err-out.result ≡ Err (stop_of_hook fault) = search rules in
    let is = undelegated-asked told delegator operator u w c.args.coin.now ∙ ap (λ r. r >>= undelegated_from told delegator operator u w) (sym c.in_ok-asked.ensures) in
    subst (AnswersBoth (undelegated told delegator operator c.args.coin.now u w) u s1 holds1 v1) (sym given)
    (subst (λ r. AnswersBoth r u s1 holds1 v1 (Err (stop_of_hook fault))) (sym is)
    (answers_fault (shares_unbonded told delegator operator c.in_ok-asked.asked.1 w) (entry_made told delegator operator u w c.in_ok-asked.asked.0) s1 s1 holds1 holds1 v1 v1 u fault (c.in_err-out.ensures.told hs o log)))
