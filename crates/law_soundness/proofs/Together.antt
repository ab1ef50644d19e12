-- Every atomic step keeps a state sound.
use Rattle.rule_modules.specs.StepLaws.{KeptByMessages, KeptByBlocks, SoundIsKept}
use Rattle.law_soundness.specs.StepLaws.{IsSoundAfter}
use Rattle.law_soundness.proofs.Moves.{fees_keep_soundness, sends_keep_soundness, payees_keep_soundness}
use Rattle.law_soundness.proofs.Pool.{funding_keeps_soundness, spending_keeps_soundness, commissions_keep_soundness}
use Rattle.law_soundness.proofs.Standing.{edits_keep_soundness, unjailing_keeps_soundness}
use Rattle.law_soundness.proofs.{Updating.updating_keeps_soundness, Rewards.rewards_keep_soundness}
use Rattle.law_soundness.proofs.{Delegating.delegating_keeps_soundness, Creating.creating_keeps_soundness}
use Rattle.law_soundness.proofs.Leaving.{undelegating_keeps_soundness, cancelling_keeps_soundness}
use Rattle.law_soundness.proofs.{Redelegating.redelegating_keeps_soundness, Following.next_block_keeps_soundness}
use Rattle.law_soundness.proofs.Allocating.{allocation_keeps_soundness}
use Rattle.law_soundness.proofs.Voting.{votes_keep_soundness, evidence_keeps_soundness}
use Rattle.law_soundness.proofs.{Bonding.bonding_keeps_soundness, Maturing.maturing_keeps_soundness}
use Rattle.law_soundness.proofs.Ending.{unbondings_step_keeps_soundness, redelegations_step_keeps_soundness}

by_messages : KeptByMessages IsSoundAfter
by_messages = record {
  fees = fees_keep_soundness;
  sends = sends_keep_soundness;
  creates = creating_keeps_soundness;
  edits = edits_keep_soundness;
  delegates = delegating_keeps_soundness;
  undelegates = undelegating_keeps_soundness;
  redelegates = redelegating_keeps_soundness;
  cancels = cancelling_keeps_soundness;
  unjails = unjailing_keeps_soundness;
  withdraws = rewards_keep_soundness;
  commissions = commissions_keep_soundness;
  payees = payees_keep_soundness;
  funds = funding_keeps_soundness;
  spends = spending_keeps_soundness;
  updates = updating_keeps_soundness;
}

by_blocks : KeptByBlocks IsSoundAfter
by_blocks = record {
  next = next_block_keeps_soundness;
  allocates = allocation_keeps_soundness;
  votes = votes_keep_soundness;
  evidence = evidence_keeps_soundness;
  sets = bonding_keeps_soundness;
  matures = maturing_keeps_soundness;
  pays = unbondings_step_keeps_soundness;
  ends = redelegations_step_keeps_soundness;
}

pub sound_is_kept : SoundIsKept
sound_is_kept = (by_messages, by_blocks)
