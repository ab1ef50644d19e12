use Rattle.std.proofs.Common.{◌≡◌, ◌∙◌, sym, ap, Some, is_some, option_copied}
use Rattle.base_roles.{specs.Staked.validator_by_cons, proofs.StakeLemmas.{on_ok, on_both}}
use Rattle.mod_slashing.proofs.StillLemmas.{stands-here, jail-held, jail-is, jail-lists, jail-same, jail-same_by_cons, jail-bonded, jail-other}
use Rattle.mod_slashing.proofs.slashing.CoreSlasher.jail.Goals as goal

pub jail-requires-clause-known : goal.jail-requires-clause-known
jail-requires-clause-known g c =
    let s = c.args.self.now.staking.staked in
    let v = c.unwrap.result.now in
    let found : validator_by_cons s c.args.cons.now ≡ Some v = sym c.by_cons.ensures.value ∙ ap option_copied c.unwrap.ensures in
    ap is_some (stands-here s c.args.cons.now v c.requires.sound.staked found)

pub returns-clause-told : goal.returns-clause-told
returns-clause-told g c =
    let s = c.args.self.now.staking.staked in
    let v = c.unwrap.result.now in
    let found : validator_by_cons s c.args.cons.now ≡ Some v = sym c.by_cons.ensures.value ∙ ap option_copied c.unwrap.ensures in
    on_ok c.jail.result (λ e i. record { staked = jail-held s c.args.cons.now v c.requires.sound.staked found c.jail.new.self.staked e i; unbondings = g.U.UnbondingSlash.held c.args.self.now.unbondings; redelegations = g.R.RedelegationSlash.held c.args.self.now.redelegations }) c.jail.ensures.jailed

pub returns-clause-jailed : goal.returns-clause-jailed
returns-clause-jailed g c =
    let s = c.args.self.now.staking.staked in
    let v = c.unwrap.result.now in
    let found : validator_by_cons s c.args.cons.now ≡ Some v = sym c.by_cons.ensures.value ∙ ap option_copied c.unwrap.ensures in
    on_ok c.jail.result (λ e. jail-is s c.args.cons.now v c.requires.sound.staked found c.jail.new.self.staked e) c.jail.ensures.jailed

pub returns-clause-lists : goal.returns-clause-lists
returns-clause-lists g c =
    let s = c.args.self.now.staking.staked in
    let v = c.unwrap.result.now in
    let found : validator_by_cons s c.args.cons.now ≡ Some v = sym c.by_cons.ensures.value ∙ ap option_copied c.unwrap.ensures in
    on_ok c.jail.result (λ e. jail-lists s c.args.cons.now v c.requires.sound.staked found c.jail.new.self.staked e) c.jail.ensures.jailed

pub returns-clause-bonded : goal.returns-clause-bonded
returns-clause-bonded g c =
    let s = c.args.self.now.staking.staked in
    let v = c.unwrap.result.now in
    let found : validator_by_cons s c.args.cons.now ≡ Some v = sym c.by_cons.ensures.value ∙ ap option_copied c.unwrap.ensures in
    on_ok c.jail.result (λ e. jail-bonded s c.args.cons.now v c.requires.sound.staked found c.jail.new.self.staked e) c.jail.ensures.jailed

pub returns-clause-other : goal.returns-clause-other
returns-clause-other g c =
    let s = c.args.self.now.staking.staked in
    let v = c.unwrap.result.now in
    let found : validator_by_cons s c.args.cons.now ≡ Some v = sym c.by_cons.ensures.value ∙ ap option_copied c.unwrap.ensures in
    on_ok c.jail.result (λ e. jail-other s c.args.cons.now v c.requires.sound.staked found c.jail.new.self.staked e) c.jail.ensures.jailed

pub returns-clause-still : goal.returns-clause-still
returns-clause-still g c =
    let s = c.args.self.now.staking.staked in
    let v = c.unwrap.result.now in
    let found : validator_by_cons s c.args.cons.now ≡ Some v = sym c.by_cons.ensures.value ∙ ap option_copied c.unwrap.ensures in
    on_ok c.jail.result (λ e. jail-same s c.args.cons.now v c.requires.sound.staked found c.jail.new.self.staked e) c.jail.ensures.jailed

pub returns-clause-still_by_cons : goal.returns-clause-still_by_cons
returns-clause-still_by_cons g c =
    let s = c.args.self.now.staking.staked in
    let v = c.unwrap.result.now in
    let found : validator_by_cons s c.args.cons.now ≡ Some v = sym c.by_cons.ensures.value ∙ ap option_copied c.unwrap.ensures in
    on_both c.jail.result (λ e k. jail-same_by_cons s c.args.cons.now v c.requires.sound.staked found c.jail.new.self.staked e k) c.jail.ensures.jailed c.jail.ensures.sound
