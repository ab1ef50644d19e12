use Rattle.std.proofs.Common.{◌∙◌, ap, sym, subst}
use Rattle.base_roles.specs.{Ground.seen, Hooks.Stand, Staked.lists_of}
use Rattle.base_roles.specs.declared.calls.Hook.TheVariants.{Removed as removed}
use Rattle.base_roles.proofs.HookLemmas.{stand-noted, Stand-after_ok, picked}
use Rattle.rule_modules.proofs.SoundLemmas.{IsSoundAt, to_points, from_points}
use Rattle.mod_staking.proofs.{IndexLemmas.alone_without, SoundLemmas.sound-taken, ListLemmas.lists-left}
use Rattle.mod_staking.proofs.{GroundLemmas.keeps-noted, DelegateLemmas.keeps-ok}
use Rattle.mod_staking.proofs.RemoveLemmas.{ready-removed, sure_fault}
use Rattle.mod_staking.proofs.staking.Staking.remove.Goals as goal

pub take-requires-clause-alone : goal.take-requires-clause-alone
take-requires-clause-alone g c =
    let s = c.args.self.now.staked in
    let h = to_points c.requires.hooked.sound.0 s c.requires.hooked.sound.1 in
    alone_without s.validators c.args.v.now h.validators_ascend c.requires.stands (λ o x e i. h.cons o c.args.v.now.operator x c.args.v.now e c.requires.stands i)

pub after_validator_removed-requires : goal.after_validator_removed-requires
after_validator_removed-requires g c =
    let s = c.args.self.now.staked in
    let h = to_points c.requires.hooked.sound.0 s c.requires.hooked.sound.1 in
    let hs = c.requires.hooked.stand.0 in
    (hs, (c.requires.hooked.stand.1.0, (lists_of s, ready-removed c.requires.hooked.sound.0 s c.args.v.now h c.requires.stands c.requires.empty g.H.StakingHooks.tells hs (seen g.B.Bank.holdings c.args.g.now) c.requires.hooked.stand.1.1)))

pub returns-in-Err-clause-sure : goal.returns-in-Err-clause-sure
returns-in-Err-clause-sure g c = λ hs o stand sure.
    let s = c.args.self.now.staked in
    let h = to_points c.requires.hooked.sound.0 s c.requires.hooked.sound.1 in
    let t = g.H.StakingHooks.tells in
    let u = seen g.B.Bank.holdings c.args.g.now in
    let ready = ready-removed c.requires.hooked.sound.0 s c.args.v.now h c.requires.stands c.requires.empty t hs u stand in
    sure_fault t g.met.H.StakingHooks.lawful hs (g.H.StakingHooks.holds c.after_validator_removed.new.self) c.args.v.now u (seen g.B.Bank.holdings c.after_validator_removed.new.g) (lists_of s) c.in-Err.fault sure ready (c.in-Err.ensures.told hs o)

pub returns-clause-hooked : goal.returns-clause-hooked
returns-clause-hooked g c =
    let s = c.args.self.now.staked in
    let h = to_points c.requires.hooked.sound.0 s c.requires.hooked.sound.1 in
    let t = g.H.StakingHooks.tells in
    let hs = c.requires.hooked.stand.0 in
    let u = seen g.B.Bank.holdings c.args.g.now in
    let u2 = seen g.B.Bank.holdings c.after_validator_removed.new.g in
    let ready = ready-removed c.requires.hooked.sound.0 s c.args.v.now h c.requires.stands c.requires.empty t hs u c.requires.hooked.stand.1.1 in
    let p = picked (t.told hs (removed c.args.v.now) u) (g.H.StakingHooks.holds c.after_validator_removed.new.self) u2 (c.in-Ok.ensures.told hs c.requires.hooked.stand.1.0) in
    let stand = Stand-after_ok t g.met.H.StakingHooks.lawful hs p.0 (removed c.args.v.now) u u2 (lists_of s) ready p.1.1 in
    record {
      sound = (
        c.requires.hooked.sound.0,
        from_points c.requires.hooked.sound.0 c.take.new.self.staked (subst (IsSoundAt c.requires.hooked.sound.0) (sym (ap (λ r. r.staked) c.in_ok-take.ensures.ok))
            (sound-taken c.requires.hooked.sound.0 s c.args.v.now h c.requires.stands c.requires.empty)),
      );
      stand = (
        p.0,
        (
          p.1.0,
          stand-noted t p.0 u2 c.push.new.self (lists_of c.take.new.self.staked)
              (subst (Stand t p.0 u2) (sym (lists-left s c.args.v.now.operator h.validators_ascend) ∙ ap lists_of (sym (ap (λ r. r.staked) c.in_ok-take.ensures.ok))) stand),
        ),
      );
    }

pub returns-clause-keeps : goal.returns-clause-keeps
returns-clause-keeps g c = λ hs o stand.
    let s = c.args.self.now.staked in
    let h = to_points c.requires.hooked.sound.0 s c.requires.hooked.sound.1 in
    let t = g.H.StakingHooks.tells in
    let u = seen g.B.Bank.holdings c.args.g.now in
    let u2 = seen g.B.Bank.holdings c.after_validator_removed.new.g in
    let p = picked (t.told hs (removed c.args.v.now) u) (g.H.StakingHooks.holds c.after_validator_removed.new.self) u2 (c.in-Ok.ensures.told hs o) in
    let ready = ready-removed c.requires.hooked.sound.0 s c.args.v.now h c.requires.stands c.requires.empty t hs u stand in
    keeps-noted _ u u2 _ c.push.new.self c.in_ok-push.ensures.ok (keeps-ok t g.met.H.StakingHooks.lawful hs p.0 (removed c.args.v.now) u u2 (lists_of s) ready p.1.1)
