use Rattle.std.proofs.Common.{ℕ, ◌-◌, ◌/◌, ◌%◌, ◌^◌, ◌≤◌, arith}
use Rattle.std.proofs.lemmas.Grind.{common_steps}
use Rattle.base_decimals.proofs.Division.{guess_right, guess_one_less, guess_two_less}
use Rattle.base_decimals.proofs.kernel.divide_digit.Goals as goal

pub returns-then-owed-left-clause-whole : goal.returns-then-owed-left-clause-whole
returns-then-owed-left-clause-whole c =
    let r : ℕ = c.args.rest in
    let u : ℕ = c.args.divisor / 2 ^ 64 in
    guess_right r c.args.digit (r / u) u (c.args.divisor % 2 ^ 64) c.args.divisor (omega arith) (omega arith) (omega arith)

pub returns-then-owed-left-2-clause-whole : goal.returns-then-owed-left-2-clause-whole
returns-then-owed-left-2-clause-whole c =
    let r : ℕ = c.args.rest in
    let u : ℕ = c.args.divisor / 2 ^ 64 in
    let some : 1 ≤ r / u = grind (arith, common_steps) in
    guess_one_less r c.args.digit (r / u) (r / u - 1) u (c.args.divisor % 2 ^ 64) c.args.divisor (omega arith) (omega arith) (omega arith) (omega arith) (omega arith)

pub returns-else-owed-left-2-clause-whole : goal.returns-else-owed-left-2-clause-whole
returns-else-owed-left-2-clause-whole c =
    let r : ℕ = c.args.rest in
    let u : ℕ = c.args.divisor / 2 ^ 64 in
    let some : 2 ≤ r / u = grind (arith, common_steps) in
    guess_two_less r c.args.digit (r / u) (r / u - 2) u (c.args.divisor % 2 ^ 64) c.args.divisor (omega arith) (omega arith) (omega arith) (omega arith) (omega arith) (grind (arith, common_steps))
