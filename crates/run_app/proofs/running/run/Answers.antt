use Rattle.std.proofs.Common.{map, string_bytes}
use Rattle.run_words.specs.Words.{command_of}
use Rattle.run_app.{specs.{Commands.way_of, Counts.every_of}, proofs.ModeLemmas.fit_command}
use Rattle.run_app.proofs.AloneLemmas.{each_line_alone}
use Rattle.run_app.proofs.CommandLemmas.{complete_unasked, ends_unasked, is_of_command, is_of_no_command, kept_unasked, read_unasked, unkept_unasked, write_unasked}
use Rattle.run_app.proofs.{CountLemmas.{rose_keep, rose_read, rose_write}, RejoinLemmas.runs_go_on}
use Rattle.run_app.proofs.{RightLemmas.statements_right, SoundLemmas.lines_replayed, StopLemmas.stops_unbegun}
use Rattle.run_app.proofs.{WayLemmas.{untroubled_way, way_commits, way_stops}, WholeLemmas.answers_replayed}
use Rattle.run_app.proofs.running.run.Goals as goal

pub perform-requires-clause-few : goal.perform-requires-clause-few
perform-requires-clause-few g c = (fit_command (map string_bytes c.args.words.now) c.in-Ok.command c.in-Ok.ensures.command).few

pub perform-requires-clause-every : goal.perform-requires-clause-every
perform-requires-clause-every g c = (fit_command (map string_bytes c.args.words.now) c.in-Ok.command c.in-Ok.ensures.command).some

-- ---- a command

pub returns-in-Ok-clause-ends : goal.returns-in-Ok-clause-ends
returns-in-Ok-clause-ends g c = rw c.in-Ok.ensures.command c.perform.ensures.ends

pub returns-in-Ok-clause-unkept : goal.returns-in-Ok-clause-unkept
returns-in-Ok-clause-unkept g c = rw c.in-Ok.ensures.command c.perform.ensures.unkept

pub returns-in-Ok-clause-stops : goal.returns-in-Ok-clause-stops
returns-in-Ok-clause-stops g c = rw c.in-Ok.ensures.command (way_stops c.in-Ok.command.form c.in-Ok.command.every (way_of c.in-Ok.command) _ _ _ _ _ _ _ _ _ c.perform.result c.perform.ensures.ends)

pub returns-in-Ok-clause-usage : goal.returns-in-Ok-clause-usage
returns-in-Ok-clause-usage g c = is_of_command c.perform.result _ c.in-Ok.command c.in-Ok.ensures.command c.perform.ensures.busy

pub returns-in-Ok-clause-complete : goal.returns-in-Ok-clause-complete
returns-in-Ok-clause-complete g c =
    rw c.in-Ok.ensures.command
    (λ calm reads writes.
    untroubled_way c.in-Ok.command.form c.in-Ok.command.every (way_of c.in-Ok.command) (way_commits c.in-Ok.command) _ _ _ _ _ _ _ _ _ _ _ _ _ c.perform.ensures.ends calm c.perform.ensures.busy
    (λ e. reads (rose_read c.in-Ok.command.every c.perform.result _ _ c.perform.ensures.reads e)) (λ e. writes (rose_write c.perform.result _ _ c.perform.ensures.writes.0 e)) (rose_keep c.perform.result _ _ c.perform.ensures.keeps) c.perform.ensures.unkept)

pub returns-in-Ok-clause-reads : goal.returns-in-Ok-clause-reads
returns-in-Ok-clause-reads g c = rw c.in-Ok.ensures.command c.perform.ensures.reads

-- ---- no command

pub returns-in-Err-clause-ends : goal.returns-in-Err-clause-ends
returns-in-Err-clause-ends g c = rw c.status_of_words.ensures (ends_unasked c.in-Err.fault _ _ _ _ _ _ c.in-Err.ensures.usage)

pub returns-in-Err-clause-unkept : goal.returns-in-Err-clause-unkept
returns-in-Err-clause-unkept g c = rw c.status_of_words.ensures (λ off. unkept_unasked c.in-Err.fault _ _ _ c.in-Err.ensures.usage)

pub returns-in-Err-clause-stops : goal.returns-in-Err-clause-stops
returns-in-Err-clause-stops g c = stops_unbegun _ _ _ _ _ _

pub returns-in-Err-clause-usage : goal.returns-in-Err-clause-usage
returns-in-Err-clause-usage g c = rw c.status_of_words.ensures (is_of_no_command c.in-Err.fault _ c.in-Err.ensures.usage)

pub returns-in-Err-clause-reads : goal.returns-in-Err-clause-reads
returns-in-Err-clause-reads g c = rw c.status_of_words.ensures (read_unasked (every_of (command_of (map string_bytes c.args.words.now))) c.in-Err.fault _)

pub returns-in-Err-clause-writes : goal.returns-in-Err-clause-writes
returns-in-Err-clause-writes g c = rw c.status_of_words.ensures (write_unasked c.in-Err.fault _ _)

pub returns-in-Err-clause-keeps : goal.returns-in-Err-clause-keeps
returns-in-Err-clause-keeps g c = rw c.status_of_words.ensures (kept_unasked c.in-Err.fault _)

pub returns-in-Err-clause-complete : goal.returns-in-Err-clause-complete
returns-in-Err-clause-complete g c = rw c.status_of_words.ensures (λ calm reads writes. complete_unasked c.in-Err.fault _ _ _ _ _ _ _ c.in-Err.ensures.usage calm)

-- ---- laws

pub returns-in-Ok-clause-alone : goal.returns-in-Ok-clause-alone
returns-in-Ok-clause-alone g c = each_line_alone

pub returns-in-Err-clause-alone : goal.returns-in-Err-clause-alone
returns-in-Err-clause-alone g c = each_line_alone

pub returns-in-Ok-clause-replayed : goal.returns-in-Ok-clause-replayed
returns-in-Ok-clause-replayed g c = lines_replayed

pub returns-in-Err-clause-replayed : goal.returns-in-Err-clause-replayed
returns-in-Err-clause-replayed g c = lines_replayed

pub returns-in-Ok-clause-whole : goal.returns-in-Ok-clause-whole
returns-in-Ok-clause-whole g c = λ form. answers_replayed form (lines_replayed form)

pub returns-in-Err-clause-whole : goal.returns-in-Err-clause-whole
returns-in-Err-clause-whole g c = λ form. answers_replayed form (lines_replayed form)

pub returns-in-Ok-clause-continued : goal.returns-in-Ok-clause-continued
returns-in-Ok-clause-continued g c = runs_go_on

pub returns-in-Err-clause-continued : goal.returns-in-Err-clause-continued
returns-in-Err-clause-continued g c = runs_go_on

pub returns-in-Ok-clause-statements : goal.returns-in-Ok-clause-statements
returns-in-Ok-clause-statements g c = statements_right

pub returns-in-Err-clause-statements : goal.returns-in-Err-clause-statements
returns-in-Err-clause-statements g c = statements_right
