use Rattle.std.proofs.Common.{◌∙◌, nat_lt, [], Some, None, refl, sym, ap, subst}
use Rattle.base_coins.specs.Coins.{Money}
use Rattle.rule_machine.specs.Genesis.{has_too_much, denominations_with}
use Rattle.chain_whole.specs.Supplies.{IsLow}
use Rattle.chain_whole.proofs.ConditionLemmas.{holds_first, fails_first, at_none, at_some, many_test}
use Rattle.chain_whole.proofs.{DelegatedLemmas.at_start, SupplyLemmas.{too_much, not_too_much}}
use Rattle.chain_whole.proofs.conditions.amount_condition.Goals as goal

pub returns-in-None-clause-number : goal.returns-in-None-clause-number
returns-in-None-clause-number c =
    let g = c.args.genesis.now in
    holds_first 11 (has_too_much (at_start g)) (many_test g) (too_much (at_start g) (at_none _ _ c.in_ok-supplies_at_start.field-0 c.in-None.is c.in_ok-supplies_at_start.ensures))

pub returns-then-has_too_many-clause-number : goal.returns-then-has_too_many-clause-number
returns-then-has_too_many-clause-number c =
    let g = c.args.genesis.now in
    let left = at_some _ _ c.in_ok-supplies_at_start.field-0 c.in-Some.supplies c.in-Some.is c.in_ok-supplies_at_start.ensures in
    fails_first 11 (has_too_much (at_start g)) (many_test g) (Some 12) (not_too_much (at_start g) (subst IsLow left.0 left.1))
    (holds_first 12 (nat_lt 1_000_000 (denominations_with g.params.bond_denom (at_start g))) []
    (ap (λ (s : Money). nat_lt 1_000_000 (denominations_with g.params.bond_denom s)) (sym left.0) ∙ sym c.if-has_too_many.ensures))

pub returns-clause-number : goal.returns-clause-number
returns-clause-number c =
    let g = c.args.genesis.now in
    let left = at_some _ _ c.in_ok-supplies_at_start.field-0 c.in-Some.supplies c.in-Some.is c.in_ok-supplies_at_start.ensures in
    fails_first 11 (has_too_much (at_start g)) (many_test g) None (not_too_much (at_start g) (subst IsLow left.0 left.1))
    (fails_first 12 (nat_lt 1_000_000 (denominations_with g.params.bond_denom (at_start g))) [] None
    (ap (λ (s : Money). nat_lt 1_000_000 (denominations_with g.params.bond_denom s)) (sym left.0) ∙ sym c.if-has_too_many.ensures) refl)
