use Rattle.std.proofs.Common.{◌≡◌, ◌∙◌, Some, ap, sym, subst, rules, IfOk, IsSome, is_some, option_copied}
use Rattle.base_table.proofs.WalkLemmas.{is_some-map}
use Rattle.base_roles.specs.{Answers.Follows, Ground.seen, Staked.validator_at, StakeChanges.IsUnbonded}
use Rattle.rule_modules.{specs.Unbonding.shares_unbonded, proofs.SoundLemmas.to_points}
use Rattle.mod_staking.{specs.Calls.over, proofs.LogLemmas.unbonded-behind}
use Rattle.mod_staking.proofs.unbonding.StakingUnbonder.unbond.Goals as goal

pub unwrap-requires : goal.unwrap-requires
unwrap-requires g c =
    let s = c.args.self.now.staked in
    let h = to_points c.requires.sound.0 s c.requires.sound.1 in
    let stands : IsSome (validator_at s c.args.operator.now) = h.existing (c.args.operator.now, c.args.delegator.now) c.requires.shares.0 c.requires.shares.1.0 in
    sym (is_some-map (λ x. x.now) c.at.result) ∙ ap is_some c.at.ensures.value ∙ stands

pub returns-clause-unbonded : goal.returns-clause-unbonded
returns-clause-unbonded g c =
    let v = c.unwrap.result.now in
    let found : validator_at c.args.self.now.staked c.args.operator.now ≡ Some v = sym c.at.ensures.value ∙ ap option_copied c.unwrap.ensures in
    let own : v.operator ≡ c.args.operator.now = c.known.ensures.operators c.args.operator.now v found in
    subst (λ o. IfOk c.unbond_from.result (λ out. IsUnbonded c.args.delegator.now o c.args.shares out c.args.self.now.staked c.unbond_from.new.self.staked)) own c.unbond_from.ensures.unbonded

pub returns-clause-told : goal.returns-clause-told
returns-clause-told g c = λ h o log.
    let told = g.H.StakingHooks.tells.told in
    let u = seen g.B.Bank.holdings c.args.g.now in
    let s2 = c.unbond_from.new.self.staked in
    let holds2 = g.H.StakingHooks.holds c.unbond_from.new.hooks in
    let u2 = seen g.B.Bank.holdings c.unbond_from.new.g in
    let first : Follows (shares_unbonded told c.args.delegator.now c.args.operator.now c.args.shares (over c.args.self.now.staked h u)) s2 holds2 u2 c.unbond_from.result = search rules in
    unbonded-behind told c.args.delegator.now c.args.operator.now c.args.shares log c.args.self.now.staked h u s2 holds2 u2 c.unbond_from.result first
