use Rattle.std.proofs.Common.{◌≡◌, ◌∙◌, ◌<◌, ap, flat_map, length, refl, rules}
use Rattle.line_statements.specs.Statements.{text_of_statement}
use Rattle.run_app.proofs.ModeLemmas.{busy_so, keep_so, read_so, writes_so, written_so}
use Rattle.run_app.proofs.StatingLemmas.{a_chain, last_missing, last_unfound, last_unwritten, last_written, no_chain, none_made, some_made}
use Rattle.run_app.proofs.stating.write_statements.Goals as goal

pub returns-then-is_none-clause-ends : goal.returns-then-is_none-clause-ends
returns-then-is_none-clause-ends g c = λ s at.
    let stating = c.args.stating.now in
    last_missing c.args.form stating.chain stating.following.tracker stating.following.made.items (g.K.Sink.written c.args.sink.now) s (no_chain stating.chain c.is_none.result c.is_none.ensures c.if-is_none.true) at

pub returns-then-is_empty-clause-ends : goal.returns-then-is_empty-clause-ends
returns-then-is_empty-clause-ends g c =
    let stating = c.args.stating.now in
    let none : length c.args.stating.now.following.made.items ≡ 0 = search rules in
    let w = g.K.Sink.written c.args.sink.now in
    last_unfound c.args.form stating.chain stating.following.tracker stating.following.made.items w w (a_chain stating.chain c.is_none.result c.is_none.ensures c.if-is_none.false) (none_made stating.following.made.items none) refl

pub returns-in-Ok-clause-ends : goal.returns-in-Ok-clause-ends
returns-in-Ok-clause-ends g c =
    let stating = c.args.stating.now in
    let some : 0 < length c.args.stating.now.following.made.items = search rules in
    let text = c.deref.ensures.value ∙ c.in-Ok.ensures.text ∙ ap (flat_map (text_of_statement c.args.form)) c.as_slice.ensures.value in
    last_written c.args.form stating.chain stating.following.tracker stating.following.made.items (g.K.Sink.written c.args.sink.now) (g.K.Sink.written c.write_text.new.sink) c.status_of_sink.result
    (a_chain stating.chain c.is_none.result c.is_none.ensures c.if-is_none.false) (some_made stating.following.made.items some) text
    (rw c.status_of_sink.ensures (written_so c.write_text.result _ _ _ c.write_text.ensures.text c.write_text.ensures.front))

pub returns-in-Err-clause-ends : goal.returns-in-Err-clause-ends
returns-in-Err-clause-ends g c =
    let stating = c.args.stating.now in
    let w = g.K.Sink.written c.args.sink.now in
    last_unwritten c.args.form stating.chain stating.following.tracker stating.following.made.items w w (a_chain stating.chain c.is_none.result c.is_none.ensures c.if-is_none.false) refl

pub returns-in-Ok-clause-busy : goal.returns-in-Ok-clause-busy
returns-in-Ok-clause-busy g c = rw c.status_of_sink.ensures (busy_so c.write_text.result)

pub returns-in-Ok-clause-read : goal.returns-in-Ok-clause-read
returns-in-Ok-clause-read g c = rw c.status_of_sink.ensures (read_so c.write_text.result)

pub returns-in-Ok-clause-keep : goal.returns-in-Ok-clause-keep
returns-in-Ok-clause-keep g c = rw c.status_of_sink.ensures (keep_so c.write_text.result)

pub returns-in-Ok-clause-writes : goal.returns-in-Ok-clause-writes
returns-in-Ok-clause-writes g c = rw c.status_of_sink.ensures (writes_so c.write_text.result _ _ _ c.write_text.ensures.clean c.write_text.ensures.cause c.write_text.ensures.quiet)
