use Rattle.chain_whole.proofs.SupplyLemmas.{HeldSoFar}
use Rattle.chain_whole.proofs.supplies.supplies_of.Given as goal

abbrev pub invariant-loop-account : goal.invariant-loop-account
invariant-loop-account l = HeldSoFar l.accounts l.account-index l.supplies.entries
