use Rattle.std.proofs.Common.{◌≡◌, ◌∙◌, Some, sym, ap, IsSome, is_some, option_copied}
use Rattle.base_table.proofs.WalkLemmas.{is_some-map}
use Rattle.base_roles.specs.{Staked.validator_at, World.View}
use Rattle.rule_modules.specs.{Chain.shared_in, Distribution.pending}
use Rattle.chain_modules.specs.Kept.{kept_of}
use Rattle.chain_whole.proofs.AskingLemmas.{has_shares, is_known, is_started, pends}
use Rattle.chain_whole.proofs.pending.pending_at.Goals as goal

pub unwrap-requires : goal.unwrap-requires
unwrap-requires g c =
    let m = c.args.modules.now in
    let s = c.requires.rest in
    let stands : IsSome (validator_at m.stakes.staking.staked c.args.operator.now) = is_known (kept_of m) s.state s.stands c.args.delegator.now c.args.operator.now c.args.shares c.requires.standing in
    sym (is_some-map (λ x. x.now) c.validator.result) ∙ ap is_some c.validator.ensures.value ∙ stands

pub pending-requires-clause-started : goal.pending-requires-clause-started
pending-requires-clause-started g c =
    let m = c.args.modules.now in
    let s = c.requires.rest in
    let v = c.unwrap.result.now in
    let found : validator_at m.stakes.staking.staked c.args.operator.now ≡ Some v = sym c.validator.ensures.value ∙ ap option_copied c.unwrap.ensures in
    is_started (kept_of m) s.state s.stands c.args.delegator.now c.args.operator.now c.args.shares c.requires.standing v found

pub pending-requires-clause-shares : goal.pending-requires-clause-shares
pending-requires-clause-shares g c =
    let m = c.args.modules.now in
    let s = c.requires.rest in
    let v = c.unwrap.result.now in
    let found : validator_at m.stakes.staking.staked c.args.operator.now ≡ Some v = sym c.validator.ensures.value ∙ ap option_copied c.unwrap.ensures in
    has_shares (kept_of m) s.state s.stands c.args.delegator.now c.args.operator.now c.args.shares c.requires.standing v found

pub returns : goal.returns
returns g c = λ p s.
    let m = c.args.modules.now in
    let v = c.unwrap.result.now in
    let who = c.args.delegator.now in
    let shares = c.args.shares in
    let found : validator_at m.stakes.staking.staked c.args.operator.now ≡ Some v = sym c.validator.ensures.value ∙ ap option_copied c.unwrap.ensures in
    let given = c.pending.ensures.pending (shared_in p) p.view s.keeps.shared (ap (λ (u : View). u.ctx.height) s.keeps.view) in
    pends (kept_of m) p s who c.args.operator.now shares c.requires.standing v found c.in_ok-coins.coins (sym (c.in_ok-coins.ensures (pending v who shares (shared_in p) p.view) given))
