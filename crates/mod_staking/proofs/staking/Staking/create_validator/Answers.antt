use Rattle.std.proofs.Common.{◌≡◌, ◌∙◌, ap, sym, subst, Ok, Err}
use Rattle.base_roles.specs.{Ground.seen, Hooks.Stand}
use Rattle.base_roles.specs.Staked.{validator_at, put_validator, lists_of, bonded_tokens, other_tokens}
use Rattle.base_roles.specs.{StakeChanges.HoldsStake, Answers.AnswersAs}
use Rattle.base_roles.specs.declared.calls.Hook.TheVariants.{Created as created}
use Rattle.base_roles.proofs.HookLemmas.{Stand-after_ok, told-of_ok, picked}
use Rattle.rule_modules.specs.Delegating.{wallet, delegated}
use Rattle.rule_modules.proofs.SoundLemmas.{IsSoundAt, to_points, from_points, found_itself}
use Rattle.mod_staking.{specs.Calls.behind_log, proofs.{ListLemmas.lists-joined, GroundLemmas.holds-kept}}
use Rattle.mod_staking.proofs.DelegateLemmas.{keeps-ok}
use Rattle.mod_staking.proofs.CreateLemmas.{created_then, answers_ok, answers_err, rates, sound-created, ready-created, joined_tokens}
use Rattle.mod_staking.proofs.staking.Staking.create_validator.Goals as goal

pub delegate_to-delegated-requires-clause-stands : goal.delegate_to-delegated-requires-clause-stands
delegate_to-delegated-requires-clause-stands g c =
    let v = c.new_validator-v.result in
    ap (λ r. validator_at r.staked v.operator) c.in_ok-add.ensures.ok ∙ found_itself c.args.self.now.staked v

pub delegate_to-delegated-requires-clause-scene : goal.delegate_to-delegated-requires-clause-scene
delegate_to-delegated-requires-clause-scene g c =
    let s = c.args.self.now.staked in
    let h = to_points c.requires.scene.hooked.sound.0 s c.requires.scene.hooked.sound.1 in
    let v = c.new_validator-v.result in
    let t = g.H.StakingHooks.tells in
    let hs = c.requires.scene.hooked.stand.0 in
    let u = seen g.B.Bank.holdings c.args.g.now in
    let u2 = seen g.B.Bank.holdings c.after_validator_created.new.g in
    let p = picked (t.told hs (created v) u) (g.H.StakingHooks.holds c.after_validator_created.new.self) u2 (c.in_ok-after_validator_created.ensures.told hs c.requires.scene.hooked.stand.1.0) in
    let ready = ready-created s c.args.m.now c.args.g.now.ctx.time v c.new_validator-v.ensures (sym c.in-None.ensures.value) t hs u c.requires.scene.hooked.stand.1.1 in
    let keeps = keeps-ok t g.met.H.StakingHooks.lawful hs p.0 (created v) u u2 (lists_of s) ready p.1.1 in
    record {
      hooked = record {
        sound = (
          c.requires.scene.hooked.sound.0,
          from_points c.requires.scene.hooked.sound.0 c.add.new.self.staked (subst (IsSoundAt c.requires.scene.hooked.sound.0) (sym (ap (λ r. r.staked) c.in_ok-add.ensures.ok))
              (sound-created c.requires.scene.hooked.sound.0 s h c.args.m.now c.args.g.now.ctx.time v c.new_validator-v.ensures (rates c.args.m.now c.args.g.now.ctx.params.min_commission_rate (sym c.in_ok-form_create.ensures)) (sym c.in-None.ensures.value) (sym c.in-None-at_cons.ensures.value))),
        );
        stand = (
          p.0,
          (
            p.1.0,
            subst (Stand t p.0 u2) (sym (lists-joined s v) ∙ ap lists_of (sym (ap (λ r. r.staked) c.in_ok-add.ensures.ok)))
                (Stand-after_ok t g.met.H.StakingHooks.lawful hs p.0 (created v) u u2 (lists_of s) ready p.1.1),
          ),
        );
      };
      accounts = subst (λ x. HoldsStake u2 (bonded_tokens x) (other_tokens x)) (sym (ap (λ r. r.staked) c.in_ok-add.ensures.ok))
          (joined_tokens s c.args.m.now c.args.g.now.ctx.time v c.new_validator-v.ensures (sym c.in-None.ensures.value) u2 (holds-kept _ u u2 _ _ keeps c.requires.scene.accounts));
    }

pub returns-in-Ok-clause-told : goal.returns-in-Ok-clause-told
returns-in-Ok-clause-told g c = λ hs o.
    let s = c.args.self.now.staked in
    let m = c.args.m.now in
    let v = c.new_validator-v.result in
    let t = g.H.StakingHooks.tells in
    let u = seen g.B.Bank.holdings c.args.g.now in
    let u2 = seen g.B.Bank.holdings c.after_validator_created.new.g in
    let p = picked (t.told hs (created v) u) (g.H.StakingHooks.holds c.after_validator_created.new.self) u2 (c.in_ok-after_validator_created.ensures.told hs o) in
    let given = told-of_ok (t.told hs (created v) u) p.0 u2 p.1.1 in
    let is = created_then t.told m s hs u v p.0 u2 given.0 c.new_validator-v.ensures (sym c.in_ok-form_create.ensures) (sym c.in-None.ensures.value) (sym c.in-None-at_cons.ensures.value) (sym c.is_other.ensures ∙ c.if-is_other.false) given.1 in
    let staked : c.add.new.self.staked ≡ put_validator v s = ap (λ r. r.staked) c.in_ok-add.ensures.ok in
    let last : AnswersAs (delegated t.told v m.validator m.amount.amount wallet (behind_log given.0 (put_validator v s) p.0 u2)) c.delegate_to-delegated.new.self.staked (g.H.StakingHooks.holds c.delegate_to-delegated.new.hooks) (seen g.B.Bank.holdings c.delegate_to-delegated.new.g) (Ok c.in-Ok.field-0)
    = subst (λ x. AnswersAs (delegated t.told v m.validator m.amount.amount wallet (behind_log given.0 x p.0 u2)) c.delegate_to-delegated.new.self.staked (g.H.StakingHooks.holds c.delegate_to-delegated.new.hooks) (seen g.B.Bank.holdings c.delegate_to-delegated.new.g) (Ok c.in-Ok.field-0)) staked (c.in-Ok.ensures.told p.0 p.1.0 given.0) in
    subst (λ r. AnswersAs r c.delegate_to-delegated.new.self.staked (g.H.StakingHooks.holds c.delegate_to-delegated.new.hooks) (seen g.B.Bank.holdings c.delegate_to-delegated.new.g) (Ok tt)) (sym is)
    (answers_ok _ _ _ _ _ last)

pub returns-in-Err-clause-told : goal.returns-in-Err-clause-told
returns-in-Err-clause-told g c = λ hs o.
    let s = c.args.self.now.staked in
    let m = c.args.m.now in
    let v = c.new_validator-v.result in
    let t = g.H.StakingHooks.tells in
    let u = seen g.B.Bank.holdings c.args.g.now in
    let u2 = seen g.B.Bank.holdings c.after_validator_created.new.g in
    let p = picked (t.told hs (created v) u) (g.H.StakingHooks.holds c.after_validator_created.new.self) u2 (c.in_ok-after_validator_created.ensures.told hs o) in
    let given = told-of_ok (t.told hs (created v) u) p.0 u2 p.1.1 in
    let is = created_then t.told m s hs u v p.0 u2 given.0 c.new_validator-v.ensures (sym c.in_ok-form_create.ensures) (sym c.in-None.ensures.value) (sym c.in-None-at_cons.ensures.value) (sym c.is_other.ensures ∙ c.if-is_other.false) given.1 in
    let staked : c.add.new.self.staked ≡ put_validator v s = ap (λ r. r.staked) c.in_ok-add.ensures.ok in
    let last : AnswersAs (delegated t.told v m.validator m.amount.amount wallet (behind_log given.0 (put_validator v s) p.0 u2)) c.delegate_to-delegated.new.self.staked (g.H.StakingHooks.holds c.delegate_to-delegated.new.hooks) (seen g.B.Bank.holdings c.delegate_to-delegated.new.g) (Err c.in-Err.stop)
    = subst (λ x. AnswersAs (delegated t.told v m.validator m.amount.amount wallet (behind_log given.0 x p.0 u2)) c.delegate_to-delegated.new.self.staked (g.H.StakingHooks.holds c.delegate_to-delegated.new.hooks) (seen g.B.Bank.holdings c.delegate_to-delegated.new.g) (Err c.in-Err.stop)) staked (c.in-Err.ensures.told p.0 p.1.0 given.0) in
    subst (λ r. AnswersAs r c.delegate_to-delegated.new.self.staked (g.H.StakingHooks.holds c.delegate_to-delegated.new.hooks) (seen g.B.Bank.holdings c.delegate_to-delegated.new.g) (Err c.in-Err.stop)) (sym is)
    (answers_err _ _ _ _ _ last)
