use Rattle.std.proofs.Common.{None}
use Rattle.run_app.proofs.StatingLemmas.{no_pair, nothing_told, told_so, untold_so}
use Rattle.run_app.proofs.stating.Following.take_start.Goals as goal

pub returns-in_default-clause-told : goal.returns-in_default-clause-told
returns-in_default-clause-told c =
    nothing_told c.args.self.now.pair None 0 c.args.facts.now c.args.recorder.now.noted.notes c.args.self.now.tracker c.args.self.now.made.items (no_pair c.args.self.now.pair c.in_default.not-Some)

pub returns-in-Ok-clause-told : goal.returns-in-Ok-clause-told
returns-in-Ok-clause-told c =
    told_so c.args.self.now.pair c.in-Some.pair c.in-Some.is None 0 c.args.facts.now c.args.recorder.now.noted.notes c.args.self.now.tracker c.args.self.now.made.items _ _ c.in-Ok.ensures.made

pub returns-in-Err-clause-stop : goal.returns-in-Err-clause-stop
returns-in-Err-clause-stop c =
    untold_so c.args.self.now.pair c.in-Some.pair c.in-Some.is None 0 c.args.facts.now c.args.recorder.now.noted.notes c.args.self.now.tracker c.args.number c.in-Err.fault _ c.in-Err.ensures.fault c.not_bounded.ensures
