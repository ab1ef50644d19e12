use Rattle.test_modules.proofs.BankLemmas.{unmarked}
use Rattle.test_modules.proofs.bank_tests.two_accounts.Goals as goal

pub returns-clause-marks : goal.returns-clause-marks
returns-clause-marks g c = unmarked c.start.result _ c.start.ensures.book
