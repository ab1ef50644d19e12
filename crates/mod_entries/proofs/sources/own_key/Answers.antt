use Rattle.std.proofs.Common.{◌∙◌, Some, None, cond, sym, ap, option_map}
use Rattle.mod_entries.specs.Sources.{own_key}
use Rattle.mod_entries.proofs.sources.own_key.Goals as goal

pub returns-then-not-is_same : goal.returns-then-not-is_same
returns-then-not-is_same g c =
    sym (ap (λ o. own_key c.args.operator.now (option_map (λ e. (e.0.now, e.1.now)) o)) c.in_ok-place.was
    ∙ ap (λ b. cond b (Some c.in_ok-place.place.now.1) None) (sym c.is_same.ensures ∙ c.if-not-is_same.true))

pub returns : goal.returns
returns g c =
    sym (ap (λ o. own_key c.args.operator.now (option_map (λ e. (e.0.now, e.1.now)) o)) c.in_ok-place.was
    ∙ ap (λ b. cond b (Some c.in_ok-place.place.now.1) None) (sym c.is_same.ensures ∙ c.if-not-is_same.false))
