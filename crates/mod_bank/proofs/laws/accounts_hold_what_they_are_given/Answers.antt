use Rattle.mod_bank.proofs.GivenLemmas.{each_holds_what_it_is_given, supplies_are_what_all_are_given}
use Rattle.mod_bank.proofs.laws.accounts_hold_what_they_are_given.Goals as goal

pub returns : goal.returns
returns c = record { balances = each_holds_what_it_is_given; supplies = supplies_are_what_all_are_given }
