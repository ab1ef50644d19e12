use Rattle.std.proofs.Common.{◌∙◌, sym, ap}
use Rattle.base_roles.proofs.StakeLemmas.{on_ok}
use Rattle.rule_modules.specs.Amounts.{count_where}
use Rattle.mod_signing.{specs.{Kept.keeping, Resizing.last_votes_of}, proofs.CallLemmas.places_are}
use Rattle.mod_signing.proofs.ResizedLemmas.{record_cut, record_kept, spent_stays}
use Rattle.mod_signing.proofs.resizing.resize_one.Goals as goal

pub of-requires : goal.of-requires
of-requires g c =
    let e = c.args.entry.now in
    record { places = sym (places_are c.args.tables.now.kept c.args.cons.now e.info e.places c.requires.entry) }

pub returns-then-has_room-clause-ok : goal.returns-then-has_room-clause-ok
returns-then-has_room-clause-ok g c =
    let e = c.args.entry.now in
    ap (λ k. keeping k c.args.tables.now)
    (record_kept c.args.window c.args.cons.now e.info e.places c.args.tables.now.kept c.requires.entry (sym c.has_room.ensures ∙ c.if-has_room.true))

pub returns-clause-ok : goal.returns-clause-ok
returns-clause-ok g c =
    let old = c.args.tables.now in
    let e = c.args.entry.now in
    on_ok c.put_record.result (λ p. p ∙ ap (λ k. keeping k old) (
    record_cut c.args.window c.args.cons.now e.info e.places old.kept c.requires.entry (sym c.has_room.ensures ∙ c.if-has_room.false) c.in_ok-votes.votes c.len.result c.misses.result
    (c.in_ok-votes.ensures ∙ ap (last_votes_of c.args.window e.info.counted) c.of.ensures) c.len.ensures (c.misses.ensures ∙ ap (count_where (λ x. x)) c.as_slice.ensures)
    )) c.put_record.ensures.ok

pub returns-clause-spent : goal.returns-clause-spent
returns-clause-spent g c = λ h.
    spent_stays c.args.tables.now c.put_record.new.self _ c.put_record.result c.put_record.ensures.ok c.put_record.ensures.spent_err h
