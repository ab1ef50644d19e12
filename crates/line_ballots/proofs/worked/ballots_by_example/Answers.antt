use Rattle.std.proofs.Common.{refl}
use Rattle.line_json.proofs.{OnWritten.written_on_literals, ReadingOnLiterals.reading_on_literals}
use Rattle.line_json.proofs.SpelledOnLiterals.{spelled_on_literals}
use Rattle.line_ballots.specs.Ballots.{ballot_of, ballot_of_tree, choice_of}
use Rattle.line_ballots.proofs.worked.ballots_by_example.Goals as goal

pub returns-clause-read : goal.returns-clause-read
unfolding reading_on_literals choice_of ballot_of_tree ballot_of
returns-clause-read c = record { yes = refl; abstain = refl; no = refl; veto = refl; turned = refl }

pub returns-clause-refused : goal.returns-clause-refused
unfolding reading_on_literals choice_of ballot_of_tree ballot_of
returns-clause-refused c = record {
  nothing = refl;
  cut = refl;
  block = refl;
  array = refl;
  no_voter = refl;
  of_module = refl;
  unknown = refl;
  empty = refl;
  large = refl;
  further = refl;
}

pub returns-clause-written : goal.returns-clause-written
unfolding written_on_literals
returns-clause-written c = record { line = refl }

pub returns-clause-spelled : goal.returns-clause-spelled
unfolding spelled_on_literals choice_of ballot_of_tree ballot_of
returns-clause-spelled c = record { account = refl; operator = refl; digits = refl }
