use Rattle.std.proofs.lemmas.Result.{IfErr-weaker, on_ok_weaker}
use Rattle.run_app.proofs.CheckLemmas.{checks_all, checks_part}
use Rattle.run_app.proofs.checking.answer_lines.Goals as goal

pub returns-clause-all : goal.returns-clause-all
returns-clause-all g c = on_ok_weaker c.take_lines.result (checks_all c.args.form _ _ _ _ _ _) c.take_lines.ensures.all

pub returns-clause-part : goal.returns-clause-part
returns-clause-part g c = IfErr-weaker c.take_lines.result _ _ (checks_part c.args.form _ _ _ _ _ _) c.take_lines.ensures.part
