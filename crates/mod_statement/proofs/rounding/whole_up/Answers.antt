use Rattle.std.proofs.Common.{◌≡◌, ◌*◌, ◌^◌, ◌∙◌, ap, arith}
use Rattle.base_decimals.specs.Rounding.{up}
use Rattle.mod_statement.proofs.rounding.whole_up.Goals as goal

pub returns : goal.returns
returns c =
    let same : c.args.amount * 1 ≡ c.args.amount = omega arith in
    c.part_up.ensures ∙ ap (λ n. up n (10 ^ 18)) same
