use Rattle.std.proofs.Common.{◌≡◌, ◌∙◌, refl, ap, sym, subst, Result, Ok, Err, OnOk}
use Rattle.std.specs.Prelude.{⊤}
use Rattle.base_roles.specs.{declared.faults.HookFault.HookFault, Answers.Answers, Ground.seen, Hooks.Stand}
use Rattle.base_roles.specs.{Staked.{lists_of, bonded_tokens, other_tokens}, StakeChanges.HoldsStake}
use Rattle.base_roles.specs.declared.calls.Hook.TheVariants.{Created as created}
use Rattle.base_roles.proofs.HookLemmas.{Stand-after_ok, picked}
use Rattle.rule_modules.proofs.SoundLemmas.{IsSoundAt, to_points, from_points}
use Rattle.mod_staking.proofs.{ListLemmas.lists-joined, GroundLemmas.holds-kept, DelegateLemmas.keeps-ok}
use Rattle.mod_staking.proofs.CreateLemmas.{sound-created, ready-created, joined_tokens}
use Rattle.mod_staking.proofs.staking.Staking.admit.Goals as goal

-- what follows where a call answered Ok
where_ok : (r : Result ⊤ HookFault) (P : Type 0) → (r ≡ Ok tt → P) → OnOk r P
where_ok (Ok done) P f = f refl
where_ok (Err fault) P f = tt

pub returns-clause-scene : goal.returns-clause-scene
returns-clause-scene g c =
    let s = c.args.self.now.staked in
    let h = to_points c.requires.scene.hooked.sound.0 s c.requires.scene.hooked.sound.1 in
    let v = c.new_validator-v.result in
    let t = g.H.StakingHooks.tells in
    let hs = c.requires.scene.hooked.stand.0 in
    let holds = g.H.StakingHooks.holds c.after_validator_created.new.self in
    let u = seen g.B.Bank.holdings c.args.g.now in
    let u2 = seen g.B.Bank.holdings c.after_validator_created.new.g in
    let ready = ready-created s c.args.m.now c.args.g.now.ctx.time v c.new_validator-v.ensures c.requires.new t hs u c.requires.scene.hooked.stand.1.1 in
    where_ok c.after_validator_created.result _ (λ e.
    let p = picked (t.told hs (created v) u) holds u2 (subst (λ r. Answers (t.told hs (created v) u) holds u2 r) e (c.after_validator_created.ensures.told hs c.requires.scene.hooked.stand.1.0)) in
    let keeps = keeps-ok t g.met.H.StakingHooks.lawful hs p.0 (created v) u u2 (lists_of s) ready p.1.1 in
    record {
      hooked = record {
        sound = (
          c.requires.scene.hooked.sound.0,
          from_points c.requires.scene.hooked.sound.0 c.add.new.self.staked (subst (IsSoundAt c.requires.scene.hooked.sound.0) (sym (ap (λ r. r.staked) c.in_ok-add.ensures.ok))
              (sound-created c.requires.scene.hooked.sound.0 s h c.args.m.now c.args.g.now.ctx.time v c.new_validator-v.ensures c.requires.rates c.requires.new c.requires.new_cons)),
        );
        stand = (
          p.0,
          (
            p.1.0,
            subst (Stand t p.0 u2) (sym (lists-joined s v) ∙ ap lists_of (sym (ap (λ r. r.staked) c.in_ok-add.ensures.ok)))
                (Stand-after_ok t g.met.H.StakingHooks.lawful hs p.0 (created v) u u2 (lists_of s) ready p.1.1),
          ),
        );
      };
      accounts = subst (λ x. HoldsStake u2 (bonded_tokens x) (other_tokens x)) (sym (ap (λ r. r.staked) c.in_ok-add.ensures.ok))
          (joined_tokens s c.args.m.now c.args.g.now.ctx.time v c.new_validator-v.ensures c.requires.new u2 (holds-kept _ u u2 _ _ keeps c.requires.scene.accounts));
    })
