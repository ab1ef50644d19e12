use Rattle.std.proofs.Common.{◌≡◌, ◌∙◌, Some, ap, sym, refl, option_copied}
use Rattle.base_roles.specs.Staked.{validator_at}
use Rattle.mod_staking.proofs.SoundLemmas.{sound-set}
use Rattle.mod_staking.proofs.staking.Staking.jail.Goals as goal

pub returns-clause-sound : goal.returns-clause-sound
returns-clause-sound g c =
    let v = c.unwrap.result.now in
    let found : validator_at c.args.self.now.staked c.args.operator.now ≡ Some v = sym c.at.ensures.value ∙ ap option_copied c.unwrap.ensures in
    let own : v.operator ≡ c.args.operator.now = c.known.ensures.operators c.args.operator.now v found in
    sound-set c.args.self.now.staked c.put.new.self.staked _ v c.requires.sound (ap (validator_at c.args.self.now.staked) own ∙ found) (ap (λ r. r.staked) c.in_ok-put.ensures.ok) refl refl refl
    (λ m. record { max_rate = m.max_rate; rate = m.rate; max_change = m.max_change; tokens = m.tokens; empty = m.empty })
