-- One step of the loops: what was still to be counted is what is next, and the rest.
use Rattle.std.proofs.Common.{◌≡◌, ◌∙◌, List, ◌∷◌, ℕ, Option, sym, ap, subst}
use Rattle.base_types.specs.Orders.{addr_cmp}
use Rattle.base_roles.specs.Entries.{at}
use Rattle.mod_tally.specs.{declared.{choice.Choice.Choice, outcome.Tally.Tally, polls.Poll.Poll}, Ballots.Chosen}
use Rattle.mod_tally.specs.Counting.{CanClose, CanCount, CanCountLeft, CanWalk, Polls, Running, closed, counted, delegation_counted, left_counted, walked}
use Rattle.mod_tally.specs.Tally.{Delegations}

-- delegations that can be walked, and what they come to
pub record IsAlong (chosen : Chosen) (ds : Delegations) (r end : Running) : Type 0 where
  pub can : CanWalk chosen ds r
  pub walked : walked chosen ds r ≡ end

-- the same list under another name
pub along_same : (chosen : Chosen) (ds es : Delegations) (r end : Running) → ds ≡ es → IsAlong chosen ds r end → IsAlong chosen es r end
along_same chosen ds es r end e h = subst (λ (fs : Delegations). IsAlong chosen fs r end) e h

-- what the next delegation asks
pub first_can : (chosen : Chosen) (d : (List ℕ × List ℕ) × ℕ) (ds : Delegations) (r end : Running) (o : Option Choice) → o ≡ chosen d.0.1
    → IsAlong chosen (d ∷ ds) r end → CanCount o (at addr_cmp r.0 d.0.0) d.1 r.1
first_can chosen d ds r end o e h = subst (λ p. CanCount p (at addr_cmp r.0 d.0.0) d.1 r.1) (sym e) h.can.0

-- behind it
pub along_next : (chosen : Chosen) (d : (List ℕ × List ℕ) × ℕ) (ds : Delegations) (r new end : Running) (o : Option Choice) → o ≡ chosen d.0.1
    → new ≡ counted o (at addr_cmp r.0 d.0.0) d.0.0 d.1 r → IsAlong chosen (d ∷ ds) r end → IsAlong chosen ds new end
along_next chosen d ds r new end o e step h =
    let is : new ≡ delegation_counted chosen d r = step ∙ ap (λ p. counted p (at addr_cmp r.0 d.0.0) d.0.0 d.1 r) e in
    record { can = subst (CanWalk chosen ds) (sym is) h.can.1; walked = ap (walked chosen ds) is ∙ h.walked }

-- ---- operators

-- validators that can be closed, and what they come to
pub record IsClosing (chosen : Chosen) (es : Polls) (t end : Tally) : Type 0 where
  pub can : CanClose chosen es t
  pub closed : closed chosen es t ≡ end

pub closing_same : (chosen : Chosen) (es fs : Polls) (t end : Tally) → es ≡ fs → IsClosing chosen es t end → IsClosing chosen fs t end
closing_same chosen es fs t end e h = subst (λ (gs : Polls). IsClosing chosen gs t end) e h

pub first_closes : (chosen : Chosen) (e : List ℕ × Poll) (es : Polls) (t end : Tally) (o : Option Choice) → o ≡ chosen e.0
    → IsClosing chosen (e ∷ es) t end → CanCountLeft o e.1 t
first_closes chosen e es t end o same h = subst (λ p. CanCountLeft p e.1 t) (sym same) h.can.0

pub closing_next : (chosen : Chosen) (e : List ℕ × Poll) (es : Polls) (t new end : Tally) (o : Option Choice) → o ≡ chosen e.0
    → new ≡ left_counted o e.1 t → IsClosing chosen (e ∷ es) t end → IsClosing chosen es new end
closing_next chosen e es t new end o same step h =
    let is : new ≡ left_counted (chosen e.0) e.1 t = step ∙ ap (λ p. left_counted p e.1 t) same in
    record { can = subst (CanClose chosen es) (sym is) h.can.1; closed = ap (closed chosen es) is ∙ h.closed }
