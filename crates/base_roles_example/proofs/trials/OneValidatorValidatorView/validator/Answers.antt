use Rattle.std.proofs.Common.{◌∙◌, sym, arith}
use Rattle.std.proofs.lemmas.Map.Lookups.{exact_bytes}
use Rattle.base_roles_example.proofs.TrialLemmas.{spare_at-once}
use Rattle.base_roles_example.proofs.trials.OneValidatorValidatorView.validator.Goals as goal

pub returns-in-Equal-clause-own : goal.returns-in-Equal-clause-own
returns-in-Equal-clause-own g c = sym (exact_bytes c.args.operator.now c.args.self.now.validator.operator (sym c.cmp.ensures ∙ c.in-Equal.is))

pub returns-in-Equal-cmp : goal.returns-in-Equal-cmp
returns-in-Equal-cmp g c =
    let s = c.args.self.now in let found = sym c.cmp-in-Some.ensures ∙ c.in-Equal-cmp.is in
    record {
      value =
          spare_at-once s.validator s.spare s.delegator s.shares c.args.operator.now c.in-Some.v c.in-Some.is
          (λ e. c.in_default.not-Equal (c.cmp.ensures ∙ e)) found;
      own = sym (exact_bytes c.args.operator.now c.in-Some.v.operator found);
      cost = omega arith;
    }
