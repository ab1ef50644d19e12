use Rattle.std.proofs.Common.{◌≡◌, ◌∙◌, Some, ap, sym, subst, ◌≤◌, ◌^◌}
use Rattle.base_roles.specs.Staked.{validator_at}
use Rattle.mod_staking.proofs.{EditLemmas.{edited-rate, edited-least, edited-both}, SoundLemmas.sound-set}
use Rattle.mod_staking.proofs.staking.Staking.edit_validator.Goals as goal

pub returns-clause-sound : goal.returns-clause-sound
returns-clause-sound g c =
    let s = c.args.self.now.staked in
    let v = c.in-Some.v.now in
    let w = c.in_ok-set.set in
    let found : validator_at s c.args.m.now.validator ≡ Some v = sym c.in-Some.ensures.value in
    let own : v.operator ≡ c.args.m.now.validator = c.known.ensures.operators c.args.m.now.validator v found in
    let p = edited-both v c.in_ok-rated.rated w
    (edited-rate c.args.m.now.rate c.args.g.now.ctx.time c.args.g.now.ctx.params.min_commission_rate v c.in_ok-rated.rated (sym c.in_ok-rated.ensures))
    (edited-least c.args.m.now.min_self_delegation c.in_ok-rated.rated w (sym c.in_ok-set.ensures)) in
    sound-set s c.put.new.self.staked w v c.requires.sound (ap (validator_at s) (p.operator ∙ own) ∙ found) (ap (λ r. r.staked) c.in_ok-put.ensures.ok) p.cons p.shares p.operator
    (λ m. record {
      max_rate = subst (λ n. n ≤ 10 ^ 18) (sym p.max_rate) m.max_rate;
      rate = p.rate m.rate;
      max_change = subst (λ n. n ≤ w.commission.max_rate) (sym p.max_change) (subst (λ n. v.commission.max_change ≤ n) (sym p.max_rate) m.max_change);
      tokens = subst (λ n. n ≤ 10 ^ 18) (sym p.tokens) m.tokens;
      empty = λ z. p.tokens ∙ m.empty (sym p.shares ∙ z);
    })
