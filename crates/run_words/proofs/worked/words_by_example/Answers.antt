use Rattle.std.proofs.Common.{◌≡◌, refl, ℕ, List, Ok, codes}
use Rattle.base_bech32.{specs.Reading.unspelled, proofs.OnLiterals.spellings_on_literals}
use Rattle.base_types.specs.declared.account.Module.TheVariants as holder
use Rattle.base_types.specs.{Accounts.account_from, Modules.module_bytes}
use Rattle.line_json.specs.Addresses.{account_prefix, cons_prefix, operator_prefix}
use Rattle.line_report.specs.declared.question.Query.TheVariants as question
use Rattle.run_words.specs.declared.mode.Mode.TheVariants.{Query}
use Rattle.run_words.specs.Worked.{asks_spelled, bech32, spelled_cons, spelled_module, spelled_operator, spelled_user, user_bytes}
use Rattle.run_words.proofs.worked.words_by_example.Goals as goal

-- what is read of a text is asked about
rewards_of : (text bytes : List ℕ) → unspelled account_prefix text ≡ Ok bytes → asks_spelled (codes "rewards") text ≡ bech32 (Query (question.Rewards (account_from bytes)))
rewards_of text bytes h = rw h refl

holdings_of : (text bytes : List ℕ) → unspelled account_prefix text ≡ Ok bytes → asks_spelled (codes "account") text ≡ bech32 (Query (question.Account (account_from bytes)))
holdings_of text bytes h = rw h refl

validator_of : (text bytes : List ℕ) → unspelled operator_prefix text ≡ Ok bytes → asks_spelled (codes "validator") text ≡ bech32 (Query (question.Validator (account_from bytes)))
validator_of text bytes h = rw h refl

signing_of : (text bytes : List ℕ) → unspelled cons_prefix text ≡ Ok bytes → asks_spelled (codes "signing") text ≡ bech32 (Query (question.Signing bytes))
signing_of text bytes h = rw h refl

pub returns-clause-spelled : goal.returns-clause-spelled
unfolding spellings_on_literals
returns-clause-spelled c = record {
  replay = refl;
  tally = refl;
  check = refl;
  pool = refl;
  generated = refl;
  tried = refl;
  rewards = rewards_of spelled_user user_bytes refl;
  holdings = holdings_of spelled_module (module_bytes holder.Distribution) refl;
  validator = validator_of spelled_operator user_bytes refl;
  signing = signing_of spelled_cons user_bytes refl;
}
