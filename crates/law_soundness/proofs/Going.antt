-- What holds of blocks that go on from a sound state, put together.
use Rattle.std.proofs.Common.{◌+◌, ◌^◌, ◌<◌, List, length}
use Rattle.base_messages.specs.declared.block.Block.{Block}
use Rattle.rule_machine.specs.{Machine.run_of, Promises.AreInput}
use Rattle.rule_modules.specs.{Chain.State, Sound.IsSound}
use Rattle.law_soundness.proofs.{Answered.all_answered, Burns.total_in, Points.to_fits, Refusals.runs_name_conditions}
use Rattle.law_soundness.proofs.{Running.{runs_burn, runs_keep_soundness}, Starting.{room, started_well}}
use Rattle.law_soundness.specs.Going.{GoSoundly, RunsGoSoundly}

onward : (blocks : List Block) (w : State) → AreInput blocks → IsSound w → w.view.ctx.height + length blocks < 2 ^ 63 → GoSoundly blocks w
onward blocks w input s few =
    let end : IsSound (run_of blocks w).state = runs_keep_soundness blocks w input s few in
    record {
      begun = s;
      sound = end;
      accounts = (s.accounts, end.accounts);
      supplies = runs_burn blocks w input s few;
      transactions = runs_name_conditions blocks w input s few;
      faults = all_answered s.few.some s.few.few blocks (total_in w.view) w input.coins (to_fits w s) few;
    }

pub runs_go_soundly : RunsGoSoundly
runs_go_soundly = record {
  onward = onward;
  replays = λ r.
      let s = started_well r in
      onward r.blocks r.start.state r.input s.sound (room r.start.state.view.ctx.height (length r.blocks) s.height r.input.few);
}
