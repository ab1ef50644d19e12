use Rattle.line_json.proofs.CompactBlockLemmas.{evidence_is_compact, evidence_is_compact_by_name}
use Rattle.line_json.proofs.compact_block.EvidenceFromCompact.from_compact.Goals as goal

pub returns-in-Some : goal.returns-in-Some
returns-in-Some c =
    evidence_is_compact c.args.form c.in_ok-cons.cons _ c.in_ok-height.height c.in_ok-text_of_time.text_of_time.now c.in_ok-time.time c.in_ok-power.power
    c.of.ensures c.in_ok-height.ensures.1 c.in_ok-time.ensures c.in_ok-power.ensures.1
    c.in_ok-at_cons.ensures c.in_ok-cons.ensures c.in_ok-at_height.ensures c.in_ok-height.ensures.0 c.in-Some.ensures c.in_ok-text_of_time.ensures c.in_ok-at_power.ensures c.in_ok-power.ensures.0 c.in_ok-rest.ensures

pub returns : goal.returns
returns c =
    evidence_is_compact_by_name c.args.form c.in_ok-cons.cons _ c.in_ok-height.height c.in_ok-text_of_time-2.text_of_time.now c.in_ok-time-2.time c.in_ok-power-2.power
    c.of-2.ensures c.in_ok-height.ensures.1 c.in_ok-time-2.ensures c.in_ok-power-2.ensures.1
    c.in_ok-at_cons.ensures c.in_ok-cons.ensures c.in_ok-at_height.ensures c.in_ok-height.ensures.0 c.in_ok-at_power-2.ensures c.in_ok-power-2.ensures.0 c.in_ok-at_time.ensures c.in_ok-text_of_time-2.ensures c.in_ok-rest-2.ensures
