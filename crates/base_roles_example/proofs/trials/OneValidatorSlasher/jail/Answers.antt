use Rattle.base_roles_example.proofs.TrialLemmas.{jailed-once, is_jailed-once, lists-once, same-once, same_by_cons-once}
use Rattle.base_roles_example.proofs.trials.OneValidatorSlasher.jail.Goals as goal

pub returns-clause-told : goal.returns-clause-told
returns-clause-told g c = let s = c.args.self.now in jailed-once s.validator s.spare s.delegator s.shares c.args._cons.now c.requires.sound c.requires.known

pub returns-clause-jailed : goal.returns-clause-jailed
returns-clause-jailed g c = let s = c.args.self.now in is_jailed-once s.validator s.spare s.delegator s.shares c.args._cons.now c.requires.sound c.requires.known

pub returns-clause-lists : goal.returns-clause-lists
returns-clause-lists g c = let s = c.args.self.now in lists-once s.validator s.spare s.delegator s.shares

pub returns-clause-still : goal.returns-clause-still
returns-clause-still g c = let s = c.args.self.now in same-once s.validator s.spare s.delegator s.shares

pub returns-clause-still_by_cons : goal.returns-clause-still_by_cons
returns-clause-still_by_cons g c = let s = c.args.self.now in same_by_cons-once s.validator s.spare s.delegator s.shares
