-- What written lines say was burned is what the facts say.
use Rattle.std.proofs.Common.{sum, flat_map, ◌≡◌, ℕ, ◌+◌, List, [], ◌∷◌, ◌++◌, map, refl, sym, ap, ◌∙◌}
use Rattle.std.proofs.lemmas.List.Sums.{sum_by-cons}
use Rattle.base_roles.specs.{Holdings.supply_of, declared.facts.Fact.Fact}
use Rattle.base_messages.specs.declared.report.BlockReport.{BlockReport}
use Rattle.rule_modules.specs.Laws.{burned_in}
use Rattle.rule_machine.specs.Promises.{facts_of, run_in}
use Rattle.law_soundness.proofs.{Burns.burned_together, Starting.supplies_fall_by_burns}
use Rattle.law_lines.{specs.Laws.{SuppliesFallByWrittenBurns, told_of}, proofs.ReportLemmas.reports_read}

abbrev pub facts_alone : List (ℕ × Fact) → List Fact
facts_alone told = map (λ t. t.1) told

pub facts_first : (h : ℕ) (facts : List Fact) (rest : List (ℕ × Fact)) → facts_alone (map (λ told. (h, told)) facts ++ rest) ≡ facts ++ facts_alone rest
facts_first h [] rest = refl
facts_first h (x ∷ xs) rest = ap (λ l. x ∷ l) (facts_first h xs rest)

burned_by_lines : (d : List ℕ) (blocks : List BlockReport) → burned_in d (facts_alone (flat_map told_of blocks)) ≡ sum (map (λ b. burned_in d (facts_of b)) blocks)
burned_by_lines d [] = refl
burned_by_lines d (b ∷ bs) =
    ap (burned_in d) (facts_first b.height (facts_of b) (flat_map told_of bs))
    ∙ burned_together d (facts_of b) (facts_alone (flat_map told_of bs))
    ∙ ap (λ n. burned_in d (facts_of b) + n) (burned_by_lines d bs)
    ∙ sym (sum_by-cons (λ n. n) (burned_in d (facts_of b)) (map (λ c. burned_in d (facts_of c)) bs))

pub written_burns : SuppliesFallByWrittenBurns
written_burns f r d are =
    ap (λ n. supply_of (run_in r).state.view.bank d + n) (ap (λ l. burned_in d (facts_alone l)) (reports_read f (run_in r).reports are) ∙ burned_by_lines d (run_in r).reports)
    ∙ supplies_fall_by_burns r d
