use Rattle.std.proofs.Common.{◌∙◌}
use Rattle.run_app.proofs.StatingLemmas.{validator_none, validator_some}
use Rattle.run_app.proofs.stating.Following.validator.Goals as goal

pub returns-in-Some : goal.returns-in-Some
returns-in-Some c = λ p stands. validator_some c.args.self.now.pair c.in-Some.pair p _ c.in-Some.is (c.copied.ensures ∙ c.validator.ensures p stands)

pub returns-in-None : goal.returns-in-None
returns-in-None c = λ p stands. validator_none c.args.self.now.pair p c.in-None.is
