-- What pieces of text and values come to, one after another.
use Rattle.std.proofs.Common.{◌≡◌, ◌∙◌, ap, subst, ℕ, ◌+◌, List, [], ◌∷◌, ◌++◌, Bool, true, codes, map, drop, Some, slice_get, append_assoc}
use Rattle.serde_json.specs.{Data.Data, View.items_of, Written.{comma_if, compact_text, items_text}}
use Rattle.line_json.proofs.ListLemmas.{drop_next}

-- one text was appended, and then another
after : {b c : List ℕ} (a t u : List ℕ) → b ≡ a ++ t → c ≡ b ++ u → c ≡ a ++ (t ++ u)
after a t u h k = k ∙ ap (λ s. s ++ u) h ∙ append_assoc a t u

-- the piece in front of the amount of a coin, and that in front of its denomination
abbrev pub amount_piece : List ℕ
amount_piece = 123 ∷ 34 ∷ (codes "amount" ++ 34 ∷ 58 ∷ [])

abbrev pub denom_piece : List ℕ
denom_piece = 44 ∷ 34 ∷ (codes "denom" ++ 34 ∷ 58 ∷ [])

-- the pieces and values of a coin were appended, one after another
pub coin_appended : (o comma amount denom : List ℕ) {o₁ o₂ o₃ o₄ o₅ o₆ : List ℕ}
    → o₁ ≡ o ++ comma → o₂ ≡ o₁ ++ amount_piece → o₃ ≡ o₂ ++ amount → o₄ ≡ o₃ ++ denom_piece → o₅ ≡ o₄ ++ denom → o₆ ≡ o₅ ++ 125 ∷ []
    → o₆ ≡ o ++ (comma ++ (amount_piece ++ (amount ++ (denom_piece ++ (denom ++ 125 ∷ [])))))
coin_appended o comma amount denom {o₁ = o₁} {o₂ = o₂} {o₃ = o₃} {o₄ = o₄} h₁ h₂ h₃ h₄ h₅ h₆ =
    after o comma (amount_piece ++ (amount ++ (denom_piece ++ (denom ++ 125 ∷ [])))) h₁
    (after o₁ amount_piece (amount ++ (denom_piece ++ (denom ++ 125 ∷ []))) h₂
    (after o₂ amount (denom_piece ++ (denom ++ 125 ∷ [])) h₃
    (after o₃ denom_piece (denom ++ 125 ∷ []) h₄
    (after o₄ denom (125 ∷ []) h₅ h₆))))

-- the texts of elements, with the end of their array
abbrev pub elements_text : {C : Type 0} → (C → Data) → Bool → List C → List ℕ
elements_text form later xs = items_text later (items_of (map form xs))

-- the element at a place was appended
pub element_appended : {C : Type 0} (form : C → Data) (later : Bool) (old new whole : List ℕ) (xs : List C) (place : ℕ) (x : C) → Some x ≡ slice_get xs place
    → new ≡ old ++ (comma_if later ++ compact_text (form x)) → old ++ elements_text form later (drop place xs) ≡ whole
    → new ++ elements_text form true (drop (place + 1) xs) ≡ whole
element_appended form later old new whole xs place x found grown before =
    let rest = elements_text form true (drop (place + 1) xs) in
    let next : old ++ (comma_if later ++ (compact_text (form x) ++ rest)) ≡ whole
    = subst (λ ys. old ++ elements_text form later ys ≡ whole) (drop_next xs place x found) before in
    rw (grown, append_assoc old (comma_if later ++ compact_text (form x)) rest, append_assoc (comma_if later) (compact_text (form x)) rest) next
