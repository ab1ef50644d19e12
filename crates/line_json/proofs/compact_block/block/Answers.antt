use Rattle.std.proofs.Common.{◌≡◌, [], subst, sym, eqb-true}
use Rattle.std.proofs.lemmas.List.{nil_from_length}
use Rattle.line_json.specs.{Block.{evidence_of, tx_of, vote_of}, Compact.IsCompactList}
use Rattle.line_json.proofs.CompactBlockLemmas.{block_is_compact}
use Rattle.line_json.proofs.compact_block.block.Goals as goal

pub returns : goal.returns
returns c =
    let f = c.args.form in
    let votes = subst (λ vs. IsCompactList (vote_of f) 1 c.in_ok-at_votes.at_votes.now vs c.in_ok-votes.behind_votes.now) (sym c.of.ensures) c.in_ok-votes.ensures in
    let evidence = subst (λ es. IsCompactList (evidence_of f) 1 c.in_ok-at_evidence.at_evidence.now es c.in_ok-evidence.behind_evidence.now) (sym c.of-2.ensures) c.in_ok-evidence.ensures in
    let txs = subst (λ ts. IsCompactList (tx_of f) 5 c.in_ok-at_txs.at_txs.now ts c.in_ok-txs.behind_txs.now) (sym c.of-3.ensures) c.in_ok-txs.ensures in
    let nothing : c.in_ok-rest.rest.now ≡ [] = nil_from_length c.in_ok-rest.rest.now (eqb-true _ 0 (sym c.if-not-is_empty.ensures)) in
    block_is_compact f c.in_ok-height.height c.in_ok-text_of_time.text_of_time.now c.in_ok-time.time c.of.result c.of-2.result c.of-3.result c.in_ok-height.ensures.1 c.in_ok-time.ensures
    c.in_ok-at_height.ensures c.in_ok-height.ensures.0 c.in_ok-at_time.ensures c.in_ok-text_of_time.ensures c.in_ok-at_votes.ensures votes c.in_ok-at_evidence.ensures evidence c.in_ok-at_txs.ensures txs c.in_ok-rest.ensures nothing
