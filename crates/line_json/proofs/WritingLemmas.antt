-- What a writer has written after a value, a member or a line.
use Rattle.std.proofs.Common.{◌≡◌, ◌∙◌, ap, subst, ℕ, ◌+◌, List, [], ◌∷◌, ◌++◌, map, drop, Some, slice_get, append_assoc}
use Rattle.json.specs.{Token.Token, Print.print, Tree.{items_tokens, members_tokens}}
use Rattle.serde_json.specs.{Data.{Data, Members}, View.items_of, Written.{items_outline, members_outline}}
use Rattle.serde_json.proofs.Texts.{print-outline}
use Rattle.line_json.{specs.{Line.line_of, Told.data_tokens}, proofs.ListLemmas.drop_next}

-- values of elements, with the end of their array
abbrev pub values_tokens : {C : Type 0} → (C → Data) → List C → List Token
values_tokens form xs = items_tokens (items_outline (items_of (map form xs)))

-- members, with the end of their object
abbrev pub rest_tokens : Members → List Token
rest_tokens ms = members_tokens (members_outline ms)

-- the value of one more element was written
pub value_written : {C : Type 0} (form : C → Data) (old new whole : List Token) (x : C) (xs : List C)
    → new ≡ old ++ data_tokens (form x) → old ++ values_tokens form (x ∷ xs) ≡ whole → new ++ values_tokens form xs ≡ whole
value_written form old new whole x xs grown before = rw (grown, append_assoc old (data_tokens (form x)) (values_tokens form xs)) before

-- the value of the element at a place was written
pub element_written : {C : Type 0} (form : C → Data) (old new whole : List Token) (xs : List C) (place : ℕ) (x : C) → Some x ≡ slice_get xs place
    → new ≡ old ++ data_tokens (form x) → old ++ values_tokens form (drop place xs) ≡ whole → new ++ values_tokens form (drop (place + 1) xs) ≡ whole
element_written form old new whole xs place x found grown before =
    value_written form old new whole x (drop (place + 1) xs) grown (subst (λ ys. old ++ values_tokens form ys ≡ whole) (drop_next xs place x found) before)

-- the line of an object whose tokens a writer wrote after a text
pub line_written : (text out : List ℕ) (tokens : List Token) (d : Data)
    → tokens ≡ data_tokens d → out ≡ (text ++ print tokens) ++ 10 ∷ [] → out ≡ text ++ line_of d
line_written text out tokens d told ended =
    ended ∙ append_assoc text (print tokens) (10 ∷ []) ∙ ap (λ s. text ++ (s ++ 10 ∷ [])) (ap print told ∙ print-outline d)
