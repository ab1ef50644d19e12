-- Each payment of a reward that a block of a run tells is that of a fair withdrawal.
use Rattle.std.proofs.Common.{List, [], ◌∷◌, Result, Ok, Err, ap, sym, subst, ◌∙◌, IfOk}
use Rattle.base_messages.specs.declared.{block.Block.Block, faults.BlockFault.BlockFault}
use Rattle.rule_machine.specs.Machine.{Step, step}
use Rattle.rule_modules.specs.Chain.{State}
use Rattle.law_rewards.{specs.Withdrawals.{payments_in, AreSent}, proofs.Finding.payments_are_fairly_told}
use Rattle.law_runs.specs.{Runs.SaysFairly, RunLaws.RunSaysFairly}
use Rattle.law_runs.{specs.Readers.{TellsFairly, RunTellsFairly, RunsTellFairly}, proofs.Saying.runs_say_fairly}

tells : (w : State) (s : Step) → SaysFairly w s → TellsFairly w s
tells w s k = record {
  more = k.more;
  log_is = k.log_is;
  told = λ before after who operator to reward coins e.
      payments_are_fairly_told w.log k.more before after who operator to reward coins k.fair (ap payments_in (sym e) ∙ k.payments) (subst (λ fs. AreSent [] fs) e k.sent);
}

run_tells : (blocks : List Block) (w : State) → RunSaysFairly blocks w → RunTellsFairly blocks w
run_tells [] w h = tt
run_tells (b ∷ blocks) w h = by (step b w) h (λ u k. run_tells blocks u k)
  where
    by : (q : Result Step BlockFault) → IfOk q (λ s. SaysFairly w s × RunSaysFairly blocks s.state) → ((u : State) → RunSaysFairly blocks u → RunTellsFairly blocks u)
        → IfOk q (λ s. TellsFairly w s × RunTellsFairly blocks s.state)
    by (Ok s) k rest = (tells w s k.0, rest s.state k.1)
    by (Err fault) k rest = tt

pub runs_tell_fairly : RunsTellFairly
runs_tell_fairly = λ r. run_tells r.blocks r.start.state (runs_say_fairly r)
