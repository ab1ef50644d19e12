use Rattle.std.proofs.Common.{◌∙◌, ap, sym, ◌+◌, drop}
use Rattle.std.proofs.lemmas.List.Sums.{sum_by-cons}
use Rattle.line_json.proofs.ListLemmas.{drop_next, found_within}
use Rattle.run_trial.specs.Summary.{burned_amount, burned_by}
use Rattle.run_trial.proofs.counting.burned_at.Goals as goal

pub returns-in-Some : goal.returns-in-Some
returns-in-Some c =
    let rest = drop (c.args.place + 1) c.args.facts.now in
    ap burned_by (drop_next c.args.facts.now c.args.place c.in-Some.fact.now c.in-Some.ensures) ∙ sum_by-cons burned_amount c.in-Some.fact.now rest
    ∙ ap (λ n. n + burned_by rest) (sym c.burned_amount.ensures)

pub returns-in-None : goal.returns-in-None
returns-in-None c = absurd (found_within c.args.facts.now c.args.place c.requires c.in-None.ensures)
