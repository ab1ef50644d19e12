use Rattle.std.proofs.Common.{◌∙◌, ◌++◌, [], ◌∷◌, sym, ap, if◌then◌else◌}
use Rattle.base_roles.specs.declared.facts.Fact.TheVariants as fact
use Rattle.base_records.proofs.KindLemmas.{on_ok}
use Rattle.mod_sums.proofs.ToldLemmas.{no_coins, some_coins}
use Rattle.mod_distribution.proofs.commissions.tell_some_commission.Goals as goal

pub returns-then-len-eq0-clause-told : goal.returns-then-len-eq0-clause-told
returns-then-len-eq0-clause-told c = ap (λ b. if b then c.args.facts.now else c.args.facts.now ++ fact.Commission c.args.operator.now c.args.to.now c.args.coins ∷ []) (sym (no_coins c.args.coins (sym c.len.ensures.len ∙ c.if-len-eq0.true)))

pub returns-clause-told : goal.returns-clause-told
returns-clause-told c = on_ok c.tell_commission.result
    (λ told. told ∙ ap (λ b. if b then c.args.facts.now else c.args.facts.now ++ fact.Commission c.args.operator.now c.args.to.now c.args.coins ∷ []) (sym (some_coins c.args.coins (λ e. c.if-len-eq0.false (c.len.ensures.len ∙ e)))))
    c.tell_commission.ensures.told
