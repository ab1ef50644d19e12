-- The text of a block is cut into its lines, of which those of facts are read.
use Rattle.std.{specs.List.cons_option, proofs.lemmas.List.Elements.{All-head, All-tail}}
use Rattle.std.proofs.Common.{filter_map, flat_map, ◌≡◌, ℕ, ◌+◌, ◌^◌, ◌<◌, List, [], ◌∷◌, ◌++◌, length, map, None, All, refl, sym, ap, ◌∙◌, arith, append_assoc, append-nil}
use Rattle.serde_json.specs.{Data.Data, Written.compact_text}
use Rattle.base_bech32.specs.declared.form.Form.{Form}
use Rattle.base_roles.specs.declared.facts.Fact.{Fact}
use Rattle.base_messages.specs.declared.report.{BlockReport.BlockReport, TxReport.TxReport}
use Rattle.line_json.specs.{Facts.fact_data, Line.line_of, Outcomes.outcome_data}
use Rattle.line_json.specs.Written.{block_data, genesis_data, text_of_block, text_of_facts, text_of_txs}
use Rattle.line_json.proofs.EndLemmas.{first_line}
use Rattle.law_lines.specs.Laws.{BlocksAreRead, GenesesTellNoFact, ReportsAreRead, told_of}
use Rattle.law_lines.specs.{Ranges.{IsCount, IsFact, IsReport, IsTxReport}, Reading.{fact_in, facts_in}}
use Rattle.law_lines.proofs.FactLemmas.{fact_is_read}
use Rattle.law_lines.proofs.OtherLemmas.{no_fact_of_block, no_fact_of_genesis, no_fact_of_outcome}

-- facts, each at this height
abbrev at : ℕ → List Fact → List (ℕ × Fact)
at h facts = map (λ told. (h, told)) facts

at_both : (h : ℕ) (xs ys : List Fact) → at h (xs ++ ys) ≡ at h xs ++ at h ys
at_both h [] ys = refl
at_both h (x ∷ xs) ys = ap (λ l. (h, x) ∷ l) (at_both h xs ys)

next_line : (f : Form) (d : Data) (rest : List ℕ) → facts_in f (line_of d ++ rest) ≡ cons_option (fact_in f (compact_text d)) (facts_in f rest)
next_line f d rest = ap (filter_map (fact_in f)) (first_line d rest)

other_line : (f : Form) (d : Data) (rest : List ℕ) → fact_in f (compact_text d) ≡ None → facts_in f (line_of d ++ rest) ≡ facts_in f rest
other_line f d rest h = next_line f d rest ∙ ap (λ o. cons_option o (facts_in f rest)) h

facts_then : (f : Form) (h : ℕ) (facts : List Fact) (rest : List ℕ) → IsCount h → All IsFact facts → facts_in f (text_of_facts f h facts ++ rest) ≡ at h facts ++ facts_in f rest
facts_then f h [] rest few are = refl
facts_then f h (x ∷ xs) rest few are =
    let later : List ℕ = text_of_facts f h xs in
    ap (facts_in f) (append_assoc (line_of (fact_data f h x)) later rest)
    ∙ next_line f (fact_data f h x) (later ++ rest)
    ∙ ap (λ o. cons_option o (facts_in f (later ++ rest))) (fact_is_read f h x few (All-head IsFact x xs are))
    ∙ ap (λ l. (h, x) ∷ l) (facts_then f h xs rest few (All-tail IsFact x xs are))

module _ (g : List TxReport → List Fact) (none : g [] ≡ []) (next : (t : TxReport) (ts : List TxReport) → g (t ∷ ts) ≡ t.facts ++ g ts) where
  txs_then : (f : Form) (h place : ℕ) (txs : List TxReport) (rest : List ℕ) → IsCount h → place + length txs < 2 ^ 64 → All IsTxReport txs
      → facts_in f (text_of_txs f h place txs ++ rest) ≡ at h (g txs) ++ facts_in f rest
  txs_then f h place [] rest few fits are = ap (λ l. at h l ++ facts_in f rest) (sym none)
  txs_then f h place (t ∷ ts) rest few fits are =
      let k : IsTxReport t = All-head IsTxReport t ts are in
      let facts : List ℕ = text_of_facts f h t.facts in
      let end : List ℕ = line_of (outcome_data h place t.outcome) in
      let later : List ℕ = text_of_txs f h (place + 1) ts in
      let here : IsCount place = omega (arith, fits) in
      let there : place + 1 + length ts < 2 ^ 64 = omega (arith, fits) in
      ap (facts_in f) (append_assoc (facts ++ end) later rest ∙ append_assoc facts end (later ++ rest))
      ∙ facts_then f h t.facts (end ++ (later ++ rest)) few k.facts
      ∙ ap (λ l. at h t.facts ++ l) (other_line f (outcome_data h place t.outcome) (later ++ rest) (no_fact_of_outcome f h place t.outcome few here k.outcome) ∙ txs_then f h (place + 1) ts rest few there (All-tail IsTxReport t ts are))
      ∙ sym (append_assoc (at h t.facts) (at h (g ts)) (facts_in f rest))
      ∙ ap (λ l. l ++ facts_in f rest) (sym (at_both h t.facts (g ts)) ∙ ap (at h) (sym (next t ts)))

  parts_then : (f : Form) (h time : ℕ) (begun ended : List Fact) (rest : List ℕ) → IsCount h → All IsFact begun → All IsFact ended → (txs : List TxReport) → IsCount (length txs) → All IsTxReport txs
      → facts_in f ((((line_of (block_data h time) ++ text_of_facts f h begun) ++ text_of_txs f h 0 txs) ++ text_of_facts f h ended) ++ rest) ≡ at h ((begun ++ g txs) ++ ended) ++ facts_in f rest
  parts_then f h time begun ended rest few b e txs many t =
      let line : List ℕ = line_of (block_data h time) in
      let first : List ℕ = text_of_facts f h begun in
      let middle : List ℕ = text_of_txs f h 0 txs in
      let last : List ℕ = text_of_facts f h ended in
      ap (facts_in f) (append_assoc ((line ++ first) ++ middle) last rest ∙ append_assoc (line ++ first) middle (last ++ rest) ∙ append_assoc line first (middle ++ (last ++ rest)))
      ∙ other_line f (block_data h time) (first ++ (middle ++ (last ++ rest))) (no_fact_of_block f h time few)
      ∙ facts_then f h begun (middle ++ (last ++ rest)) few b
      ∙ ap (λ l. at h begun ++ l) (txs_then f h 0 txs (last ++ rest) few (omega (arith, many)) t ∙ ap (λ l. at h (g txs) ++ l) (facts_then f h ended rest few e))
      ∙ sym (append_assoc (at h begun) (at h (g txs)) (at h ended ++ facts_in f rest))
      ∙ ap (λ l. l ++ (at h ended ++ facts_in f rest)) (sym (at_both h begun (g txs)))
      ∙ sym (append_assoc (at h (begun ++ g txs)) (at h ended) (facts_in f rest))
      ∙ ap (λ l. l ++ facts_in f rest) (sym (at_both h (begun ++ g txs) ended))

by_parts : (f : Form) (h time : ℕ) (begun ended : List Fact) (rest : List ℕ) → IsCount h → All IsFact begun → All IsFact ended → (txs : List TxReport) → IsCount (length txs) → All IsTxReport txs
    → facts_in f (text_of_block f (record { height = h; time = time; begun = begun; txs = txs; ended = ended }) ++ rest) ≡ told_of (record { height = h; time = time; begun = begun; txs = txs; ended = ended }) ++ facts_in f rest
by_parts f h time begun ended rest few b e = parts_then _ refl (λ t ts. refl) f h time begun ended rest few b e

block_then : (f : Form) (block : BlockReport) (rest : List ℕ) → IsReport block → facts_in f (text_of_block f block ++ rest) ≡ told_of block ++ facts_in f rest
block_then f block rest r = by_parts f block.height block.time block.begun block.ended rest r.height r.begun r.ended block.txs r.few r.txs

pub blocks_read : BlocksAreRead
blocks_read f block r = ap (facts_in f) (sym (append-nil (text_of_block f block))) ∙ block_then f block [] r ∙ append-nil (told_of block)

pub reports_read : ReportsAreRead
reports_read f [] r = refl
reports_read f (b ∷ bs) r =
    block_then f b (flat_map (text_of_block f) bs) (All-head IsReport b bs r) ∙ ap (λ l. told_of b ++ l) (reports_read f bs (All-tail IsReport b bs r))

pub geneses_read : GenesesTellNoFact
geneses_read f supply rest = other_line f (genesis_data supply) rest (no_fact_of_genesis f supply)
