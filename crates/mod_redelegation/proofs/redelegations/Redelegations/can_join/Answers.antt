use Rattle.std.proofs.Common.{sym}
use Rattle.rule_modules.proofs.SoundLemmas.{to_points}
use Rattle.mod_redelegation.proofs.redelegations.Redelegations.can_join.Goals as goal

pub shares_given-requires : goal.shares_given-requires
shares_given-requires g c =
    let at = to_points c.requires.sound.0 c.args.staking.now.staked c.requires.sound.1 in
    (at.validators c.args.target.now _ (sym c.in-Some.ensures.value)).tokens
