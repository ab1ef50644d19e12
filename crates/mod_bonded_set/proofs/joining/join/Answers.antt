use Rattle.std.proofs.Common.{sym, subst}
use Rattle.base_roles.specs.{Ground.seen, Hooks.Stand, Staked.lists_of}
use Rattle.base_roles.specs.declared.calls.Hook.TheVariants.{Bonded as bonded}
use Rattle.base_roles.proofs.HookLemmas.{stand-noted, Stand-after_ok, picked}
use Rattle.mod_staking.proofs.{DelegateLemmas.keeps-ok, GroundLemmas.{keeps-noted, keeps_then}}
use Rattle.mod_bonded_set.proofs.JoinLemmas.{in_set, changed_is, lists-joined_set, ready-bonded, sure_bonded_fault, nothing_kept}
use Rattle.mod_bonded_set.proofs.joining.join.Goals as goal

pub after_validator_bonded-requires : goal.after_validator_bonded-requires
after_validator_bonded-requires g c =
    let s = c.args.staking.now.staked in
    let s2 = c.set_status.new.self.staked in
    let v = c.args.v.now in
    let e = changed_is _ s s2 v c.requires.stands c.in_ok-set_status.ensures.changed in
    let t = g.H.StakingHooks.tells in
    let hs = c.requires.hooked.stand.0 in
    let u = seen g.B.Bank.holdings c.args.g.now in
    let stand = subst (Stand t hs _) (sym (lists-joined_set s s2 v c.requires.stands e)) (stand-noted t hs u c.set_status.new.facts (lists_of s) c.requires.hooked.stand.1.1) in
    (hs, (c.requires.hooked.stand.1.0, (lists_of s2, ready-bonded s2 s v c.in_ok-set_status.ensures.sound e t hs _ stand)))

pub returns-in-Err-clause-sure : goal.returns-in-Err-clause-sure
returns-in-Err-clause-sure g c = λ hs o stand sure.
    let s = c.args.staking.now.staked in
    let s2 = c.set_status.new.self.staked in
    let v = c.args.v.now in
    let e = changed_is _ s s2 v c.requires.stands c.in_ok-set_status.ensures.changed in
    let t = g.H.StakingHooks.tells in
    let u = seen g.B.Bank.holdings c.args.g.now in
    let stand2 = subst (Stand t hs _) (sym (lists-joined_set s s2 v c.requires.stands e)) (stand-noted t hs u c.set_status.new.facts (lists_of s) stand) in
    sure_bonded_fault t g.met.H.StakingHooks.lawful hs (g.H.StakingHooks.holds c.after_validator_bonded.new.self) (in_set v) _ (seen g.B.Bank.holdings c.after_validator_bonded.new.g) (lists_of s2) c.in-Err.fault sure
    (ready-bonded s2 s v c.in_ok-set_status.ensures.sound e t hs _ stand2) (c.in-Err.ensures.told hs o)

pub returns-in-Ok-clause-hooked : goal.returns-in-Ok-clause-hooked
returns-in-Ok-clause-hooked g c =
    let s = c.args.staking.now.staked in
    let s2 = c.set_status.new.self.staked in
    let v = c.args.v.now in
    let e = changed_is _ s s2 v c.requires.stands c.in_ok-set_status.ensures.changed in
    let t = g.H.StakingHooks.tells in
    let hs = c.requires.hooked.stand.0 in
    let u = seen g.B.Bank.holdings c.args.g.now in
    let u2 = seen g.B.Bank.holdings c.after_validator_bonded.new.g in
    let stand2 = subst (Stand t hs _) (sym (lists-joined_set s s2 v c.requires.stands e)) (stand-noted t hs u c.set_status.new.facts (lists_of s) c.requires.hooked.stand.1.1) in
    let p = picked (t.told hs (bonded (in_set v)) _) (g.H.StakingHooks.holds c.after_validator_bonded.new.self) u2 (c.in-Ok.ensures.told hs c.requires.hooked.stand.1.0) in
    record {
      sound = c.in_ok-set_status.ensures.sound;
      stand = (p.0, (p.1.0, Stand-after_ok t g.met.H.StakingHooks.lawful hs p.0 (bonded (in_set v)) _ u2 (lists_of s2) (ready-bonded s2 s v c.in_ok-set_status.ensures.sound e t hs _ stand2) p.1.1));
    }

pub returns-in-Ok-clause-keeps : goal.returns-in-Ok-clause-keeps
returns-in-Ok-clause-keeps g c = λ hs o stand.
    let s = c.args.staking.now.staked in
    let s2 = c.set_status.new.self.staked in
    let v = c.args.v.now in
    let e = changed_is _ s s2 v c.requires.stands c.in_ok-set_status.ensures.changed in
    let t = g.H.StakingHooks.tells in
    let u = seen g.B.Bank.holdings c.args.g.now in
    let u2 = seen g.B.Bank.holdings c.after_validator_bonded.new.g in
    let stand2 = subst (Stand t hs _) (sym (lists-joined_set s s2 v c.requires.stands e)) (stand-noted t hs u c.set_status.new.facts (lists_of s) stand) in
    let p = picked (t.told hs (bonded (in_set v)) _) (g.H.StakingHooks.holds c.after_validator_bonded.new.self) u2 (c.in-Ok.ensures.told hs o) in
    keeps_then _ _ u _ u2 (λ x. x) (keeps-noted _ u u _ c.set_status.new.facts c.in_ok-set_status.ensures.told (nothing_kept _ u))
    (keeps-ok t g.met.H.StakingHooks.lawful hs p.0 (bonded (in_set v)) _ u2 (lists_of s2) (ready-bonded s2 s v c.in_ok-set_status.ensures.sound e t hs _ stand2) p.1.1)
