-- Every message keeps accounts reached.
use Rattle.law_rewards.specs.Changes.{MessagesKeepReached}
use Rattle.law_rewards.specs.StateLaws.{QuietMessagesKeepReached, StandingMessagesKeepReached}
use Rattle.law_rewards.proofs.{Beginnings.reward_messages_keep_reached, Quiet.quiet_messages_keep_reached}
use Rattle.law_rewards.proofs.Edits.{standing_messages_keep_reached}
use Rattle.law_rewards.proofs.Delegating.{delegating_keeps_reached, cancelling_keeps_reached}
use Rattle.law_rewards.proofs.{Creating.creating_keeps_reached, Undelegating.undelegating_keeps_reached}
use Rattle.law_rewards.proofs.Redelegating.{redelegating_keeps_reached}

pub messages_keep_reached : MessagesKeepReached
messages_keep_reached =
    let quiet : QuietMessagesKeepReached = quiet_messages_keep_reached in
    let standing : StandingMessagesKeepReached = standing_messages_keep_reached in
    record {
      fees = λ payer fee m. quiet.fees payer fee;
      sends = λ from to coins m. quiet.sends from to coins;
      creates = creating_keeps_reached;
      edits = standing.edits;
      delegates = delegating_keeps_reached;
      undelegates = λ who operator coin w sound whole. undelegating_keeps_reached who operator coin w sound;
      redelegates = redelegating_keeps_reached;
      cancels = cancelling_keeps_reached;
      unjails = standing.unjails;
      withdraws = reward_messages_keep_reached;
      commissions = quiet.commissions;
      payees = quiet.payees;
      funds = λ who coins m. quiet.funds who coins;
      spends = λ authority to coins m. quiet.spends authority to coins;
      updates = quiet.updates;
    }
