use Rattle.std.proofs.Common.{refl}
use Rattle.base_bech32.proofs.OnLiterals.{spellings_on_literals}
use Rattle.base_bech32.proofs.laws.spellings_by_example.Goals as goal

pub returns : goal.returns
unfolding spellings_on_literals
returns c = record {
  digits = refl;
  number = refl;
  letter = refl;
  no_letter = refl;
  expansion = refl;
  residue = refl;
  spelling = refl;
  read = refl;
  sum = refl;
  digit = refl;
  length = refl;
  capitals = refl;
  account = refl;
  operator = refl;
}
