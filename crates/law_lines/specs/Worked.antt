-- Worked lines, in hexadecimal digits: what the lines of a small run tell, and lines of which none tells a fact.
use Rattle.std.specs.Prelude.{◌≡◌, ℕ, List, [], ◌∷◌, ◌++◌, codes, Option, Some, None}
use Rattle.base_types.specs.declared.account.Account.TheVariants as account
use Rattle.base_types.specs.declared.account.Module.TheVariants.{FeeCollector, Bonded}
use Rattle.base_bech32.specs.declared.form.Form.TheVariants.{Hex}
use Rattle.base_roles.specs.declared.facts.Fact.{Fact}
use Rattle.base_roles.specs.declared.facts.Fact.TheVariants as fact
use Rattle.line_json.specs.WrittenExample.{block_lines, genesis_line, ones, threes, twos, uatom}
use Rattle.law_lines.specs.Reading.{fact_in, facts_in}

-- what a line tells
abbrev pub told : List ℕ → Option (ℕ × Fact)
told line = fact_in Hex line

pub record LinesTell : Type 0 where
  pub run : facts_in Hex (genesis_line ++ block_lines)
      ≡ (1, fact.Transfer (account.User ones) (account.Module FeeCollector) (uatom 10))
      ∷ (1, fact.Transfer (account.User ones) (account.User twos) (uatom 100)) ∷ []
  pub burn : told (codes "{\"amount\":\"3\",\"denom\":\"uatom\",\"from\":\"bonded_tokens_pool\",\"height\":7,\"kind\":\"burn\"}")
      ≡ Some (7, fact.Burn Bonded (record { denom = codes "uatom"; amount = 3 }))
  -- the order of members says nothing
  pub order : told (codes "{\"kind\":\"burn\",\"height\":7,\"amount\":\"3\",\"from\":\"bonded_tokens_pool\",\"denom\":\"uatom\"}")
      ≡ Some (7, fact.Burn Bonded (record { denom = codes "uatom"; amount = 3 }))
  pub paid : told (codes "{\"coins\":[{\"amount\":\"1\",\"denom\":\"uatom\"}],\"delegator\":\"1111111111111111111111111111111111111111\","
      ++ codes "\"height\":7,\"kind\":\"paid\",\"reward\":[{\"amount\":\"1.500000000000000000\",\"denom\":\"uatom\"}],"
      ++ codes "\"to\":\"2222222222222222222222222222222222222222\",\"validator\":\"3333333333333333333333333333333333333333\"}")
      ≡ Some (7, fact.Paid ones threes twos (uatom 1_500_000_000_000_000_000) (uatom 1))

pub record LinesTellNothing : Type 0 where
  pub outcome : told (codes "{\"height\":7,\"kind\":\"accepted\",\"tx\":2}") ≡ None
  pub no_amount : told (codes "{\"denom\":\"uatom\",\"from\":\"bonded_tokens_pool\",\"height\":7,\"kind\":\"burn\"}") ≡ None
  pub no_height : told (codes "{\"amount\":\"3\",\"denom\":\"uatom\",\"from\":\"bonded_tokens_pool\",\"kind\":\"burn\"}") ≡ None
  pub no_module : told (codes "{\"amount\":\"3\",\"denom\":\"uatom\",\"from\":\"gov\",\"height\":7,\"kind\":\"burn\"}") ≡ None
  pub no_json : told (codes "burn 3 uatom") ≡ None
