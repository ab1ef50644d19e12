use Rattle.std.proofs.Common.{length-set, ℕ, ◌+◌, ◌-◌, ◌/◌, ◌%◌, ◌++◌, length, drop, length-take-le, ap, ◌∙◌, arith}
use Rattle.std.proofs.Math.ListN.{set}
use Rattle.base_decimals.{specs.Texts.last_digits, proofs.Written.whole_written}
use Rattle.base_decimals.proofs.text.write_whole.Goals as goal

pub returns : goal.returns
returns c =
    let out = c.args.out.now in
    let end : ℕ = length out - 1 in
    let digit : ℕ = 48 + c.args.value % 10 in
    ap (λ ds. ds ++ drop end (set out end digit))
    (c.write_digits.ensures ∙ ap (λ i. last_digits i (c.args.value / 10)) (length-take-le end (set out end digit) (omega (arith, length-set out end digit))))
    ∙ whole_written out c.args.value c.requires.some
