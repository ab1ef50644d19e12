-- The text of the report, section by section, and answers without lines.
use Rattle.std.proofs.Common.{◌≡◌, ◌∙◌, sym, ℕ, List, [], ◌∷◌, ◌++◌, map, length, refl, ap, append_assoc, Some, None, ◌+◌, ◌<◌, drop, get_or, flat_map, append-nil}
use Rattle.std.proofs.lemmas.Grind.{flat_map-append}
use Rattle.serde_json.specs.{Data.Data, Written.compact_text}
use Rattle.line_json.specs.Line.{line_of}
use Rattle.base_bech32.specs.declared.form.Form.{Form}
use Rattle.rule_machine.specs.Report.{Report}
use Rattle.line_report.specs.Lines.{account_line, delegation_line, lines_of, pending_line, pool_line, redelegation_lines, signing_line, supply_line, text_of, unbonding_lines, validator_line}
use Rattle.line_report.{specs.Queries.text_if_any, proofs.OrderLemmas.drop_next}

-- texts of lists that follow one another
text_then : (xs ys : List Data) (rest : List ℕ) → text_of ys ≡ rest → text_of (xs ++ ys) ≡ text_of xs ++ rest
text_then xs ys rest h = flat_map-append line_of xs ys ∙ ap (λ l. text_of xs ++ l) h

pub text_of_one : (line : Data) → text_of (line ∷ []) ≡ line_of line
text_of_one line = append-nil (line_of line)

pub text_of_sections : (f : Form) (r : Report) → text_of (lines_of f r) ≡
    line_of (supply_line r.supply) ++ (text_of (map (account_line f) r.accounts) ++ (text_of (map (validator_line f) r.validators)
    ++ (text_of (map (delegation_line f) r.delegations) ++ (text_of (map (pending_line f) r.pending) ++ (text_of (flat_map (unbonding_lines f) r.unbondings)
    ++ (text_of (flat_map (redelegation_lines f) r.redelegations) ++ (text_of (map (signing_line f) r.signing) ++ line_of (pool_line r.pool))))))))
text_of_sections f r =
    let pool : List Data = pool_line r.pool ∷ [] in
    let signing : List Data = map (signing_line f) r.signing in
    let redelegations : List Data = flat_map (redelegation_lines f) r.redelegations in
    let unbondings : List Data = flat_map (unbonding_lines f) r.unbondings in
    let pending : List Data = map (pending_line f) r.pending in
    let delegations : List Data = map (delegation_line f) r.delegations in
    let validators : List Data = map (validator_line f) r.validators in
    let accounts : List Data = map (account_line f) r.accounts in
    ap (λ l. line_of (supply_line r.supply) ++ l)
    (text_then accounts (validators ++ (delegations ++ (pending ++ (unbondings ++ (redelegations ++ (signing ++ pool)))))) _
    (text_then validators (delegations ++ (pending ++ (unbondings ++ (redelegations ++ (signing ++ pool))))) _
    (text_then delegations (pending ++ (unbondings ++ (redelegations ++ (signing ++ pool)))) _
    (text_then pending (unbondings ++ (redelegations ++ (signing ++ pool))) _
    (text_then unbondings (redelegations ++ (signing ++ pool)) _
    (text_then redelegations (signing ++ pool) _
    (text_then signing pool _ (text_of_one (pool_line r.pool)))))))))

grown : (old new part rest : List ℕ) → new ≡ old ++ part → new ++ rest ≡ old ++ (part ++ rest)
grown old new part rest h = ap (λ l. l ++ rest) h ∙ append_assoc old part rest

-- what was written section by section
pub in_turn : (f : Form) (r : Report) (o0 o1 o2 o3 o4 o5 o6 o7 o8 o9 : List ℕ) → o0 ≡ [] → o1 ≡ o0 ++ line_of (supply_line r.supply)
    → o2 ≡ o1 ++ text_of (map (account_line f) r.accounts) → o3 ≡ o2 ++ text_of (map (validator_line f) r.validators)
    → o4 ≡ o3 ++ text_of (map (delegation_line f) r.delegations) → o5 ≡ o4 ++ text_of (map (pending_line f) r.pending)
    → o6 ≡ o5 ++ text_of (flat_map (unbonding_lines f) r.unbondings) → o7 ≡ o6 ++ text_of (flat_map (redelegation_lines f) r.redelegations)
    → o8 ≡ o7 ++ text_of (map (signing_line f) r.signing) → o9 ≡ o8 ++ line_of (pool_line r.pool) → o9 ≡ text_of (lines_of f r)
in_turn f r o0 o1 o2 o3 o4 o5 o6 o7 o8 o9 e0 e1 e2 e3 e4 e5 e6 e7 e8 e9 =
    let p8 : List ℕ = line_of (pool_line r.pool) in
    let p7 : List ℕ = text_of (map (signing_line f) r.signing) ++ p8 in
    let p6 : List ℕ = text_of (flat_map (redelegation_lines f) r.redelegations) ++ p7 in
    let p5 : List ℕ = text_of (flat_map (unbonding_lines f) r.unbondings) ++ p6 in
    let p4 : List ℕ = text_of (map (pending_line f) r.pending) ++ p5 in
    let p3 : List ℕ = text_of (map (delegation_line f) r.delegations) ++ p4 in
    let p2 : List ℕ = text_of (map (validator_line f) r.validators) ++ p3 in
    let p1 : List ℕ = text_of (map (account_line f) r.accounts) ++ p2 in
    let p0 : List ℕ = line_of (supply_line r.supply) ++ p1 in
    e9 ∙ (grown o7 o8 (text_of (map (signing_line f) r.signing)) p8 e8 ∙ (grown o6 o7 (text_of (flat_map (redelegation_lines f) r.redelegations)) p7 e7
    ∙ (grown o5 o6 (text_of (flat_map (unbonding_lines f) r.unbondings)) p6 e6 ∙ (grown o4 o5 (text_of (map (pending_line f) r.pending)) p5 e5
    ∙ (grown o3 o4 (text_of (map (delegation_line f) r.delegations)) p4 e4 ∙ (grown o2 o3 (text_of (map (validator_line f) r.validators)) p3 e3
    ∙ (grown o1 o2 (text_of (map (account_line f) r.accounts)) p2 e2 ∙ (grown o0 o1 (line_of (supply_line r.supply)) p1 e1
    ∙ (ap (λ l. l ++ p0) e0 ∙ sym (text_of_sections f r))))))))))

-- a line for the next element
pub line_pushed : {T : Type 0} (line : T → Data) (xs : List T) (place : ℕ) (x : T) (old new all : List ℕ) → place < length xs → x ≡ get_or xs place x →
    new ≡ old ++ line_of (line x) → old ++ text_of (map line (drop place xs)) ≡ all → new ++ text_of (map line (drop (place + 1) xs)) ≡ all
line_pushed line xs place x old new all lt is pushed before =
    let rest : List ℕ = text_of (map line (drop (place + 1) xs)) in
    let next : text_of (map line (drop place xs)) ≡ line_of (line x) ++ rest = ap (λ ys. text_of (map line ys)) (drop_next xs place x lt is) in
    grown old new (line_of (line x)) rest pushed ∙ (ap (λ l. old ++ l) (sym next) ∙ before)
