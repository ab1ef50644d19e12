use Rattle.std.proofs.Common.{sym}
use Rattle.rule_modules.proofs.SoundLemmas.{to_points}
use Rattle.mod_unbonding.proofs.unbondings.Unbondings.can_undelegate.Goals as goal

pub shares_to_unbond-requires : goal.shares_to_unbond-requires
shares_to_unbond-requires g c =
    let at = to_points c.requires.sound.0 c.args.staking.now.staked c.requires.sound.1 in
    record { tokens = (at.validators c.args.operator.now _ (sym c.in-Some.ensures.value)).tokens }
