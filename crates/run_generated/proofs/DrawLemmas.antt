-- What is left of the numbers of a loop, and of what is drawn for them.
use Rattle.std.proofs.Common.{◌≡◌, ◌∙◌, ap, sym, subst, arith, ℕ, suc, ◌+◌, ◌-◌, ◌<◌, ◌≤◌, List, [], ◌∷◌, ◌++◌, map, append_assoc, append-nil}
use Rattle.run_generated.specs.Drawing.{Draw, Drawn, in_turn, numbers_from}

-- none are left at the end
pub none_left : (first end : ℕ) → end ≤ first → numbers_from first (end - first) ≡ []
none_left first end h =
    let none : end - first ≡ 0 = omega (arith, h) in
    ap (numbers_from first) none

-- before it the next is left, and those behind it
pub next_left : (first end : ℕ) → first < end → numbers_from first (end - first) ≡ first ∷ numbers_from (first + 1) (end - (first + 1))
next_left first end h =
    let one_more : end - first ≡ suc (end - (first + 1)) = omega (arith, h) in
    ap (numbers_from first) one_more

-- all are left at the beginning
all_left : (end : ℕ) → numbers_from 0 (end - 0) ≡ numbers_from 0 end
all_left end =
    let all : end - 0 ≡ end = omega arith in
    ap (numbers_from 0) all

-- ---- values by their numbers

-- none was made
pub none_made : {A : Type 0} (form : ℕ → A) (made : List A) (end : ℕ) → made ≡ []
    → made ++ map form (numbers_from 0 (end - 0)) ≡ map form (numbers_from 0 end)
none_made form made end none = ap (λ m. m ++ map form (numbers_from 0 (end - 0))) none ∙ ap (map form) (all_left end)

-- a value was made for the next number
pub one_made : {A : Type 0} (form : ℕ → A) (made made' : List A) (number end : ℕ) (whole : List A) → number < end → made' ≡ made ++ form number ∷ []
    → made ++ map form (numbers_from number (end - number)) ≡ whole → made' ++ map form (numbers_from (number + 1) (end - (number + 1))) ≡ whole
one_made form made made' number end whole h grown before =
    let rest = map form (numbers_from (number + 1) (end - (number + 1))) in
    let next : made ++ form number ∷ rest ≡ whole = subst (λ ns. made ++ map form ns ≡ whole) (next_left number end h) before in
    subst (λ m. m ++ rest ≡ whole) (sym grown) (append_assoc made (form number ∷ []) rest ∙ next)

-- values were made for all of them
pub all_made : {A : Type 0} (form : ℕ → A) (made : List A) (number end : ℕ) (whole : List A) → end ≤ number
    → made ++ map form (numbers_from number (end - number)) ≡ whole → made ≡ whole
all_made form made number end whole h before = sym (append-nil made) ∙ subst (λ ns. made ++ map form ns ≡ whole) (none_left number end h) before

-- ---- what is drawn for them

-- values that were drawn, and the state behind them
abbrev pub as_drawn : {A : Type 0} → ℕ → List A → Drawn (List A)
as_drawn x values = record { value = values; state = x }

-- what was drawn, and behind it what is drawn further
abbrev pub behind : {A : Type 0} → List A → Drawn (List A) → Drawn (List A)
behind front further = as_drawn further.state (front ++ further.value)

abbrev values_of : {A : Type 0} → Drawn (List A) → List A
values_of d = d.value

abbrev state_of : {A : Type 0} → Drawn (List A) → ℕ
state_of d = d.state

-- none was drawn
pub none_drawn : {A : Type 0} (draw : ℕ → Draw A) (front : List A) (end x : ℕ) → front ≡ []
    → behind front (in_turn draw (numbers_from 0 (end - 0)) x) ≡ in_turn draw (numbers_from 0 end) x
none_drawn draw front end x none = ap (λ f. behind f (in_turn draw (numbers_from 0 (end - 0)) x)) none ∙ ap (λ ns. in_turn draw ns x) (all_left end)

-- one more value in front of what is drawn further
regrouped : {A : Type 0} (front : List A) (a : A) (further : Drawn (List A)) → behind (front ++ a ∷ []) further ≡ behind front (as_drawn further.state (a ∷ further.value))
regrouped front a further = ap (as_drawn further.state) (append_assoc front (a ∷ []) further.value)

-- the next was drawn
pub one_drawn : {A : Type 0} (draw : ℕ → Draw A) (front front' : List A) (number end x x' : ℕ) (a : A) (whole : Drawn (List A)) → number < end
    → a ≡ (draw number x).value → x' ≡ (draw number x).state → front' ≡ front ++ a ∷ []
    → behind front (in_turn draw (numbers_from number (end - number)) x) ≡ whole
    → behind front' (in_turn draw (numbers_from (number + 1) (end - (number + 1))) x') ≡ whole
one_drawn draw front front' number end x x' a whole h value state grown before =
    let rest = numbers_from (number + 1) (end - (number + 1)) in
    let d = draw number x in
    let next : behind front (in_turn draw (number ∷ rest) x) ≡ whole = subst (λ ns. behind front (in_turn draw ns x) ≡ whole) (next_left number end h) before in
    let joined : behind (front ++ d.value ∷ []) (in_turn draw rest d.state) ≡ whole = regrouped front d.value (in_turn draw rest d.state) ∙ next in
    let moved : behind (front ++ d.value ∷ []) (in_turn draw rest x') ≡ whole = subst (λ s. behind (front ++ d.value ∷ []) (in_turn draw rest s) ≡ whole) (sym state) joined in
    subst (λ f. behind f (in_turn draw rest x') ≡ whole) (sym (grown ∙ ap (λ v. front ++ v ∷ []) value)) moved

-- all were drawn: what is drawn for all of them is what was drawn, and the state is the last
all_drawn : {A : Type 0} (draw : ℕ → Draw A) (front : List A) (number end x : ℕ) (whole : Drawn (List A)) → end ≤ number
    → behind front (in_turn draw (numbers_from number (end - number)) x) ≡ whole → behind front (as_drawn x []) ≡ whole
all_drawn draw front number end x whole h before = subst (λ ns. behind front (in_turn draw ns x) ≡ whole) (none_left number end h) before

pub values_drawn : {A : Type 0} (draw : ℕ → Draw A) (front : List A) (number end x : ℕ) (whole : Drawn (List A)) → end ≤ number
    → behind front (in_turn draw (numbers_from number (end - number)) x) ≡ whole → front ≡ whole.value
values_drawn draw front number end x whole h before = sym (append-nil front) ∙ ap values_of (all_drawn draw front number end x whole h before)

pub state_drawn : {A : Type 0} (draw : ℕ → Draw A) (front : List A) (number end x : ℕ) (whole : Drawn (List A)) → end ≤ number
    → behind front (in_turn draw (numbers_from number (end - number)) x) ≡ whole → x ≡ whole.state
state_drawn draw front number end x whole h before = ap state_of (all_drawn draw front number end x whole h before)

-- ---- states alone

-- the next was passed
pub one_passed : {A : Type 0} (draw : ℕ → Draw A) (number end x x' last : ℕ) → number < end → x' ≡ (draw number x).state
    → (in_turn draw (numbers_from number (end - number)) x).state ≡ last
    → (in_turn draw (numbers_from (number + 1) (end - (number + 1))) x').state ≡ last
one_passed draw number end x x' last h state before =
    let rest = numbers_from (number + 1) (end - (number + 1)) in
    let next : (in_turn draw rest (draw number x).state).state ≡ last = subst (λ ns. (in_turn draw ns x).state ≡ last) (next_left number end h) before in
    subst (λ s. (in_turn draw rest s).state ≡ last) (sym state) next

-- all were passed
pub all_passed : {A : Type 0} (draw : ℕ → Draw A) (number end x last : ℕ) → end ≤ number
    → (in_turn draw (numbers_from number (end - number)) x).state ≡ last → x ≡ last
all_passed draw number end x last h before = subst (λ ns. (in_turn draw ns x).state ≡ last) (none_left number end h) before
