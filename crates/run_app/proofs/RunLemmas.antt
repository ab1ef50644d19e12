-- Runs that go on.
use Rattle.std.proofs.Common.{◌≡◌, ◌∙◌, ℕ, ◌+◌, List, [], ◌∷◌, ◌++◌, length, Option, Some, refl, sym, ap, append_assoc, arith, add-zero, append-nil}
use Rattle.base_bech32.specs.declared.form.Form.{Form}
use Rattle.run_app.specs.{Machine.Standing, Parts.Grows, Runs.{before, ran_from, AreAnswered}}

pub ran-append : (form : Form) (n : ℕ) (s : Standing) (ls more : List (List ℕ)) (text : List ℕ) (end : Standing) → AreAnswered form n s ls text end → ran_from form n s (ls ++ more) ≡ before text (ran_from form (n + length ls) end more)
ran-append form n s [] more text end good = rw (add-zero n, good.0, good.1) refl
ran-append form n s (l ∷ ls) more text end good =
    let m : n + 1 + length ls ≡ n + length (l ∷ ls) = omega arith in
    rw (good.2, ran-append form (n + 1) good.0.standing ls more good.1 end good.4, m, good.3) (ap (λ (t : List ℕ). record { text = t; fault = (ran_from form (n + length (l ∷ ls)) end more).fault }) (sym (append_assoc good.0.text _ _)))

pub answered-append : (form : Form) (n : ℕ) (s : Standing) (a b : List (List ℕ)) (text : List ℕ) (middle : Standing) (text' : List ℕ) (end : Standing) → AreAnswered form n s a text middle → AreAnswered form (n + length a) middle b text' end → AreAnswered form n s (a ++ b) (text ++ text') end
answered-append form n s [] b text middle text' end g h =
    let h2 : AreAnswered form n s b text' end = rw (add-zero n, g.1) at h in
    rw g.0 h2
answered-append form n s (l ∷ a) b text middle text' end g h =
    let m : n + length (l ∷ a) ≡ n + 1 + length a = omega arith in
    let h2 : AreAnswered form (n + 1 + length a) middle b text' end = rw m at h in
    (g.0, g.1 ++ text', g.2, ap (λ (t : List ℕ). t ++ text') g.3 ∙ append_assoc g.0.text g.1 text', answered-append form (n + 1) g.0.standing a b g.1 middle text' end g.4 h2)

pub no_growth : (w : Option (List ℕ)) → Grows w w []
no_growth w = λ old told. told ∙ ap Some (sym (append-nil old))

pub grows_on : (w w1 w' : Option (List ℕ)) (text text' : List ℕ) → Grows w w1 text → Grows w1 w' text' → Grows w w' (text ++ text')
grows_on w w1 w' text text' h k = λ old told. k _ (h old told) ∙ ap Some (append_assoc old text text')
