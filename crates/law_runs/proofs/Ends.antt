-- What a genesis and blocks lead to has reached accounts, so claims are bracketed there, and shortfalls bounded.
use Rattle.std.proofs.Common.{length}
use Rattle.rule_machine.specs.{GenesisState.chain_started, Promises.{ClaimsAreBracketed, ShortfallsAreBounded, run_in}}
use Rattle.law_soundness.proofs.{Starting.{IsWellStarted, room, runs_are_sound, started_well}, Steps.from_if}
use Rattle.law_rewards.{specs.States.AreReached, proofs.Claims.{reached_is_bracketed, reached_has_shortfall_within}}
use Rattle.law_rewards.proofs.{Holding.outstanding_is_logged, Unstarted.rewards_run_exactly_where_held}
use Rattle.law_runs.specs.RunLaws.{RunsAreReached, RunsRunWhereHeld, RunsLogOutstanding}
use Rattle.law_runs.proofs.{Running.runs_keep_reached, Starts.genesis_is_reached, Unstarted.runs_are_started}

pub runs_are_reached : RunsAreReached
runs_are_reached = λ r.
    let s : IsWellStarted r.start = started_well r in
    let reached : AreReached r.start.state = from_if (λ x. AreReached x.state) (chain_started r.genesis) r.start r.started (genesis_is_reached r.genesis r.good) in
    runs_keep_reached r.blocks r.start.state r.input s.sound reached (room r.start.state.view.ctx.height (length r.blocks) s.height r.input.few)

pub claims_are_bracketed : ClaimsAreBracketed
claims_are_bracketed = λ r. reached_is_bracketed (run_in r).state (runs_are_sound r) (runs_are_reached r)

pub runs_run_where_held : RunsRunWhereHeld
runs_run_where_held = λ r. rewards_run_exactly_where_held (run_in r).state (runs_are_sound r) (runs_are_reached r) (runs_are_started r)

pub runs_log_outstanding : RunsLogOutstanding
runs_log_outstanding = λ r d v found. outstanding_is_logged (run_in r).state d v (runs_are_reached r) found

pub shortfalls_are_bounded : ShortfallsAreBounded
shortfalls_are_bounded = λ r d v found. reached_has_shortfall_within (run_in r).state (runs_are_reached r) d v found
