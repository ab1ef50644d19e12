-- Worked ballots, and the line of a tally.
use Rattle.std.specs.Prelude.{◌≡◌, ℕ, ◌*◌, ◌^◌, List, [], ◌++◌, replicate, codes, Ok, Err}
use Rattle.base_bech32.specs.declared.form.Form.TheVariants.{Hex, Bech32}
use Rattle.base_messages.specs.declared.faults.LineFault.TheVariants.{BadShape, NotJson}
use Rattle.mod_tally.specs.declared.choice.Choice.{Choice}
use Rattle.mod_tally.specs.declared.choice.Choice.TheVariants.{Yes, Abstain, No, Veto}
use Rattle.mod_tally.specs.declared.outcome.Tally.{Tally}
use Rattle.line_ballots.specs.declared.ballot.Ballot.{Ballot}
use Rattle.line_ballots.specs.Ballots.{ballot_of, text_of_tally}

-- the line of a ballot of the user of twenty bytes 11 (hexadecimal)
abbrev pub ballot_line : List ℕ → List ℕ
ballot_line option =
    codes "{\"kind\":\"ballot\",\"voter\":\"1111111111111111111111111111111111111111\",\"option\":\""
    ++ option ++ codes "\"}"

-- and that ballot
abbrev pub ballot_for : Choice → Ballot
ballot_for choice = record { voter = replicate 20 17; choice = choice }

-- each choice has its name
pub record BallotsRead : Type 0 where
  pub yes : ballot_of Hex (ballot_line (codes "yes")) ≡ Ok (ballot_for Yes)
  pub abstain : ballot_of Hex (ballot_line (codes "abstain")) ≡ Ok (ballot_for Abstain)
  pub no : ballot_of Hex (ballot_line (codes "no")) ≡ Ok (ballot_for No)
  pub veto : ballot_of Hex (ballot_line (codes "no_with_veto")) ≡ Ok (ballot_for Veto)
  -- members stand in any order, and the last of one name counts
  pub turned :
      ballot_of Hex (
      codes "{\"option\":\"no\",\"voter\":\"1111111111111111111111111111111111111111\","
      ++ codes "\"kind\":\"ballot\",\"option\":\"yes\"}")
      ≡ Ok (ballot_for Yes)

-- what is no ballot
pub record BallotsRefused : Type 0 where
  pub nothing : ballot_of Hex [] ≡ Err NotJson
  pub cut : ballot_of Hex (codes "{\"kind\":\"ballot\",\"voter\":\"1111\"") ≡ Err NotJson
  pub block : ballot_of Hex (codes "{\"kind\":\"block\"}") ≡ Err (BadShape 140)
  pub array : ballot_of Hex (codes "[]") ≡ Err (BadShape 140)
  pub no_voter : ballot_of Hex (codes "{\"kind\":\"ballot\",\"option\":\"yes\"}") ≡ Err (BadShape 141)
  pub of_module :
      ballot_of Hex (
      codes "{\"kind\":\"ballot\",\"voter\":\"0000000000000000000000000000000000000001\","
      ++ codes "\"option\":\"yes\"}")
      ≡ Err (BadShape 141)
  pub unknown : ballot_of Hex (ballot_line (codes "maybe")) ≡ Err (BadShape 142)
  pub empty : ballot_of Hex (ballot_line []) ≡ Err (BadShape 142)
  pub large : ballot_of Hex (ballot_line (codes "Yes")) ≡ Err (BadShape 142)
  pub further : ballot_of Hex (ballot_line (codes "yes\",\"weight\":\"1")) ≡ Err (BadShape 0)

-- a ballot of the voter of this text, for yes
abbrev pub spelled_line : List ℕ → List ℕ
spelled_line voter = codes "{\"kind\":\"ballot\",\"voter\":\"" ++ voter ++ codes "\",\"option\":\"yes\"}"

-- a voter is spelled as an account, and as nothing else
pub record SpellingsRead : Type 0 where
  pub account : ballot_of Bech32 (spelled_line (codes "cosmos1zyg3zyg3zyg3zyg3zyg3zyg3zyg3zyg3pahzj0")) ≡ Ok (ballot_for Yes)
  pub operator :
      ballot_of Bech32 (spelled_line (codes "cosmosvaloper1zyg3zyg3zyg3zyg3zyg3zyg3zyg3zyg3yfrh7u"))
      ≡ Err (BadShape 141)
  pub digits : ballot_of Bech32 (ballot_line (codes "yes")) ≡ Err (BadShape 141)

-- 700,000 tokens for yes, a unit of 10^-18 for no with veto, and 1,000,000 bonded
abbrev pub told : Tally
told = record { yes = 700000 * 10 ^ 18; abstain = 0; no = 0; veto = 1; bonded = 1000000 }

pub record TalliesWritten : Type 0 where
  pub line :
      text_of_tally told
      ≡ codes "{\"abstain\":\"0.000000000000000000\",\"bonded\":\"1000000\",\"kind\":\"tally\","
      ++ codes "\"no\":\"0.000000000000000000\",\"no_with_veto\":\"0.000000000000000001\","
      ++ codes "\"yes\":\"700000.000000000000000000\"}\n"
