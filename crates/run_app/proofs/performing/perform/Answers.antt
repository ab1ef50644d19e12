use Rattle.std.proofs.Common.{◌∙◌, refl, sym}
use Rattle.run_app.proofs.{CountLemmas.{quiet_read, still_read}, WayLemmas.{kept_commits, plain_few}}
use Rattle.run_app.proofs.performing.perform.Goals as goal

pub carry_out-requires : goal.carry_out-requires
carry_out-requires g c = record { every = c.requires.every; few = plain_few c.args.command c.in-Plain.mode c.requires.few (sym c.way_of.ensures ∙ c.in-Plain.is) }

pub keep-requires-clause-commits : goal.keep-requires-clause-commits
keep-requires-clause-commits g c = kept_commits c.args.command c.in-Kept.mode (sym c.way_of.ensures ∙ c.in-Kept.is)

pub returns-in-Plain-clause-ends : goal.returns-in-Plain-clause-ends
returns-in-Plain-clause-ends g c = rw (← c.way_of.ensures, c.in-Plain.is) c.carry_out.ensures.ends

pub returns-in-Plain-clause-unkept : goal.returns-in-Plain-clause-unkept
returns-in-Plain-clause-unkept g c = rw (← c.way_of.ensures, c.in-Plain.is) c.carry_out.ensures.unkept

pub returns-in-Kept-clause-ends : goal.returns-in-Kept-clause-ends
returns-in-Kept-clause-ends g c = rw (← c.way_of.ensures, c.in-Kept.is) c.keep.ensures.ends

pub returns-in-Kept-clause-unkept : goal.returns-in-Kept-clause-unkept
returns-in-Kept-clause-unkept g c = rw (← c.way_of.ensures, c.in-Kept.is) c.keep.ensures.unkept

pub returns-in-Past-clause-ends : goal.returns-in-Past-clause-ends
returns-in-Past-clause-ends g c = rw (← c.way_of.ensures, c.in-Past.is) (refl, c.answer_past.ensures.ends)

pub returns-in-Past-clause-unkept : goal.returns-in-Past-clause-unkept
returns-in-Past-clause-unkept g c = rw (← c.way_of.ensures, c.in-Past.is) (λ off. let u = c.answer_past.ensures.unkept off in (u.0, (refl, u.1)))

pub returns-in-Kept-clause-reads : goal.returns-in-Kept-clause-reads
returns-in-Kept-clause-reads g c = still_read c.args.command.every c.keep.result _ _ c.keep.ensures.reads

pub returns-in-Past-clause-reads : goal.returns-in-Past-clause-reads
returns-in-Past-clause-reads g c = quiet_read c.args.command.every c.answer_past.result _ _ c.answer_past.ensures.read refl
