use Rattle.std.proofs.Common.{refl}
use Rattle.std.proofs.lemmas.Result.{err_from_is_err_and}
use Rattle.base_roles.{specs.Ground.seen, proofs.HookLemmas.{may_as, told_as}}
use Rattle.rule_modules.specs.Distribution.{ended, reward_withdrawn}
use Rattle.mod_distribution.specs.{Stands.KeepsShared, Tells.distribution_tells}
use Rattle.mod_distribution.proofs.CarryLemmas.{told_fault, told_left}
use Rattle.mod_distribution.proofs.ReadyLemmas.{can_be_paid, has_records, has_started, no_period, no_purse_yet, none_later, not_started}
use Rattle.mod_distribution.proofs.hooks.DistrStakingHooks.hear.Goals as goal

-- ---- created

pub make_records-requires-clause-kept : goal.make_records-requires-clause-kept
make_records-requires-clause-kept g c = (c.requires.0.rewards, c.requires.1.0.rewards)

pub make_records-requires-clause-new : goal.make_records-requires-clause-new
make_records-requires-clause-new g c =
    let u = seen g.B.Bank.holdings c.args.g.now in
    let m = may_as distribution_tells (KeepsShared c.args.self.now.kept) _ _ u c.in-Created.is c.requires in
    no_period c.args.self.now.kept m.0 u m.1.1.0 m.1.0 m.1.1.1.stand c.in-Created.validator.operator m.1.1.1.needs

pub make_records-requires-clause-purse : goal.make_records-requires-clause-purse
make_records-requires-clause-purse g c =
    let u = seen g.B.Bank.holdings c.args.g.now in
    let m = may_as distribution_tells (KeepsShared c.args.self.now.kept) _ _ u c.in-Created.is c.requires in
    no_purse_yet c.args.self.now.kept m.0 u m.1.1.0 m.1.0 m.1.1.1.stand c.in-Created.validator.operator m.1.1.1.needs

pub returns-in-Created-clause-told : goal.returns-in-Created-clause-told
returns-in-Created-clause-told g c = λ d h.
    let u = seen g.B.Bank.holdings c.args.g.now in
    told_as distribution_tells d _ _ u _ _ _ c.in-Created.is (c.make_records.ensures.told d u h)

-- ---- removed

pub remove_records-requires-clause-records : goal.remove_records-requires-clause-records
remove_records-requires-clause-records g c =
    let u = seen g.B.Bank.holdings c.args.g.now in
    let m = may_as distribution_tells (KeepsShared c.args.self.now.kept) _ _ u c.in-Removed.is c.requires in
    has_records c.args.self.now.kept m.0 u m.1.1.0 m.1.0 m.1.1.1.stand c.in-Removed.validator.operator m.1.1.1.needs.0

pub remove_records-requires-clause-none : goal.remove_records-requires-clause-none
remove_records-requires-clause-none g c = λ who.
    let u = seen g.B.Bank.holdings c.args.g.now in
    let m = may_as distribution_tells (KeepsShared c.args.self.now.kept) _ _ u c.in-Removed.is c.requires in
    not_started c.args.self.now.kept m.0 u m.1.1.0 m.1.0 m.1.1.1.stand who c.in-Removed.validator.operator (m.1.1.1.needs.1 who)

pub remove_records-requires-clause-paid : goal.remove_records-requires-clause-paid
remove_records-requires-clause-paid g c = let m = c.requires in can_be_paid c.args.self.now.kept m.0 (seen g.B.Bank.holdings c.args.g.now) m.1.1.0 m.1.0 m.1.1.1.stand

pub returns-in-Removed-clause-told : goal.returns-in-Removed-clause-told
returns-in-Removed-clause-told g c = λ d h. told_as distribution_tells d _ _ _ _ _ _ c.in-Removed.is (c.remove_records.ensures.told d h)

-- ---- bonded

pub returns-in-Bonded-clause-told : goal.returns-in-Bonded-clause-told
returns-in-Bonded-clause-told g c = λ d h. told_as distribution_tells d _ _ _ _ _ _ c.in-Bonded.is (h, refl)

-- ---- before a delegation is created

pub end_period-requires-clause-records : goal.end_period-requires-clause-records
end_period-requires-clause-records g c =
    let u = seen g.B.Bank.holdings c.args.g.now in
    let m = may_as distribution_tells (KeepsShared c.args.self.now.kept) _ _ u c.in-Starting.is c.requires in
    has_records c.args.self.now.kept m.0 u m.1.1.0 m.1.0 m.1.1.1.stand c.in-Starting.validator.operator m.1.1.1.needs.0

pub end_period-requires-clause-tokens : goal.end_period-requires-clause-tokens
end_period-requires-clause-tokens g c = (may_as distribution_tells (KeepsShared c.args.self.now.kept) _ _ _ c.in-Starting.is c.requires).1.1.1.tokens

pub returns-in_err-end_period-in-Starting-clause-told : goal.returns-in_err-end_period-in-Starting-clause-told
returns-in_err-end_period-in-Starting-clause-told g c = λ d h.
    let p = err_from_is_err_and c.from_residual.result c.from_residual.ensures.1 in
    let rule = ended c.in-Starting.validator d (seen g.B.Bank.holdings c.args.g.now) in
    told_as distribution_tells d _ _ _ _ _ _ c.in-Starting.is
    (rw (p.1, p.2) (told_fault c.end_period.new.self.kept (seen g.B.Bank.holdings c.end_period.new.g) rule c.in_err-end_period-in-Starting.field-0.0 (c.in_err-end_period-in-Starting.ensures.ended d h)))

pub returns-in_ok-end_period-in-Starting-clause-told : goal.returns-in_ok-end_period-in-Starting-clause-told
returns-in_ok-end_period-in-Starting-clause-told g c = λ d h.
    let rule = ended c.in-Starting.validator d (seen g.B.Bank.holdings c.args.g.now) in
    told_as distribution_tells d _ _ _ _ _ _ c.in-Starting.is
    (told_left c.end_period.new.self.kept (seen g.B.Bank.holdings c.end_period.new.g) rule c.in_ok-end_period-in-Starting.field-0 (c.in_ok-end_period-in-Starting.ensures.ended d h))

-- ---- before shares change

pub take_reward-requires-clause-started : goal.take_reward-requires-clause-started
take_reward-requires-clause-started g c =
    let u = seen g.B.Bank.holdings c.args.g.now in
    let m = may_as distribution_tells (KeepsShared c.args.self.now.kept) _ _ u c.in-Modifying.is c.requires in
    has_started c.args.self.now.kept m.0 u m.1.1.0 m.1.0 m.1.1.1.stand c.in-Modifying.delegator c.in-Modifying.validator.operator m.1.1.1.needs.0

pub take_reward-requires-clause-shares : goal.take_reward-requires-clause-shares
take_reward-requires-clause-shares g c =
    let r = (may_as distribution_tells (KeepsShared c.args.self.now.kept) _ _ _ c.in-Modifying.is c.requires).1.1.1 in
    record { tokens = r.tokens; some = r.needs.1; most = r.needs.2 }

pub take_reward-requires-clause-paid : goal.take_reward-requires-clause-paid
take_reward-requires-clause-paid g c = let m = c.requires in can_be_paid c.args.self.now.kept m.0 (seen g.B.Bank.holdings c.args.g.now) m.1.1.0 m.1.0 m.1.1.1.stand

pub returns-in_err-take_reward-in-Modifying-clause-told : goal.returns-in_err-take_reward-in-Modifying-clause-told
returns-in_err-take_reward-in-Modifying-clause-told g c = λ d h.
    let p = err_from_is_err_and c.from_residual-in_err-take_reward-in-Modifying.result c.from_residual-in_err-take_reward-in-Modifying.ensures.1 in
    let rule = reward_withdrawn c.in-Modifying.validator c.in-Modifying.delegator c.in-Modifying.shares d (seen g.B.Bank.holdings c.args.g.now) in
    told_as distribution_tells d _ _ _ _ _ _ c.in-Modifying.is
    (rw (p.1, p.2) (told_fault c.take_reward.new.self.kept (seen g.B.Bank.holdings c.take_reward.new.g) rule c.in_err-take_reward-in-Modifying.field-0.0 (c.in_err-take_reward-in-Modifying.ensures.withdrawn d h)))

pub returns-in_ok-take_reward-in-Modifying-clause-told : goal.returns-in_ok-take_reward-in-Modifying-clause-told
returns-in_ok-take_reward-in-Modifying-clause-told g c = λ d h.
    let rule = reward_withdrawn c.in-Modifying.validator c.in-Modifying.delegator c.in-Modifying.shares d (seen g.B.Bank.holdings c.args.g.now) in
    told_as distribution_tells d _ _ _ _ _ _ c.in-Modifying.is
    (told_left c.take_reward.new.self.kept (seen g.B.Bank.holdings c.take_reward.new.g) rule c.in_ok-take_reward-in-Modifying.field-0 (c.in_ok-take_reward-in-Modifying.ensures.withdrawn d h))

-- ---- after a delegation was changed

pub start-requires-clause-records : goal.start-requires-clause-records
start-requires-clause-records g c =
    let u = seen g.B.Bank.holdings c.args.g.now in
    let m = may_as distribution_tells (KeepsShared c.args.self.now.kept) _ _ u c.in-Modified.is c.requires in
    has_records c.args.self.now.kept m.0 u m.1.1.0 m.1.0 m.1.1.1.stand c.in-Modified.validator.operator m.1.1.1.needs.0

pub start-requires-clause-shares : goal.start-requires-clause-shares
start-requires-clause-shares g c =
    let r = (may_as distribution_tells (KeepsShared c.args.self.now.kept) _ _ _ c.in-Modified.is c.requires).1.1.1 in
    record { tokens = r.tokens; some = r.needs.2; most = r.needs.3 }

pub start-requires-clause-new : goal.start-requires-clause-new
start-requires-clause-new g c =
    let u = seen g.B.Bank.holdings c.args.g.now in
    let m = may_as distribution_tells (KeepsShared c.args.self.now.kept) _ _ u c.in-Modified.is c.requires in
    not_started c.args.self.now.kept m.0 u m.1.1.0 m.1.0 m.1.1.1.stand c.in-Modified.delegator c.in-Modified.validator.operator m.1.1.1.needs.1

pub returns-in-Modified-clause-told : goal.returns-in-Modified-clause-told
returns-in-Modified-clause-told g c = λ d h. told_as distribution_tells d _ _ _ _ _ _ c.in-Modified.is (c.start.ensures.told d h)

-- ---- before a slash

pub record_slash-requires-clause-records : goal.record_slash-requires-clause-records
record_slash-requires-clause-records g c =
    let u = seen g.B.Bank.holdings c.args.g.now in
    let m = may_as distribution_tells (KeepsShared c.args.self.now.kept) _ _ u c.in-Slashing.is c.requires in
    has_records c.args.self.now.kept m.0 u m.1.1.0 m.1.0 m.1.1.1.stand c.in-Slashing.validator.operator m.1.1.1.needs.0

pub record_slash-requires-clause-tokens : goal.record_slash-requires-clause-tokens
record_slash-requires-clause-tokens g c = (may_as distribution_tells (KeepsShared c.args.self.now.kept) _ _ _ c.in-Slashing.is c.requires).1.1.1.tokens

pub record_slash-requires-clause-part : goal.record_slash-requires-clause-part
record_slash-requires-clause-part g c = (may_as distribution_tells (KeepsShared c.args.self.now.kept) _ _ _ c.in-Slashing.is c.requires).1.1.1.needs.1

pub record_slash-requires-clause-heights : goal.record_slash-requires-clause-heights
record_slash-requires-clause-heights g c =
    let u = seen g.B.Bank.holdings c.args.g.now in
    let m = may_as distribution_tells (KeepsShared c.args.self.now.kept) _ _ u c.in-Slashing.is c.requires in
    none_later c.args.self.now.kept m.0 u m.1.1.0 m.1.0 m.1.1.1.stand c.in-Slashing.validator.operator m.1.1.1.needs.0

pub returns-in-Slashing-clause-told : goal.returns-in-Slashing-clause-told
returns-in-Slashing-clause-told g c = λ d h. told_as distribution_tells d _ _ _ _ _ _ c.in-Slashing.is (c.record_slash.ensures.told d h)
