use Rattle.std.proofs.Common.{◌≡◌, ◌∙◌, sym, ap, Some}
use Rattle.base_roles.specs.{Ground.seen, Staked.validator_at}
use Rattle.rule_modules.proofs.SoundLemmas.{to_points}
use Rattle.mod_slashing.proofs.BurntLemmas.{has-tokens}
use Rattle.mod_slashing.proofs.burning.slash_rest.Goals as goal

pub slash_validator-requires-clause-stands : goal.slash_validator-requires-clause-stands
slash_validator-requires-clause-stands g c =
    let s = c.args.staking.now.staked in
    let found : validator_at s c.args.operator.now ≡ Some c.in-Some.v.now = sym c.in-Some.ensures.value in
    let at = to_points c.requires.hooked.sound.0 s c.requires.hooked.sound.1 in
    ap (validator_at s) (at.operators c.args.operator.now c.in-Some.v.now found) ∙ found

pub slash_validator-requires-clause-tokens : goal.slash_validator-requires-clause-tokens
slash_validator-requires-clause-tokens g c =
    let s = c.args.staking.now.staked in
    let found : validator_at s c.args.operator.now ≡ Some c.in-Some.v.now = sym c.in-Some.ensures.value in
    let at = to_points c.requires.hooked.sound.0 s c.requires.hooked.sound.1 in
    has-tokens c.in-Some.v.now s (seen g.B.Bank.holdings c.args.g.now) (ap (validator_at s) (at.operators c.args.operator.now c.in-Some.v.now found) ∙ found) c.requires.accounts
