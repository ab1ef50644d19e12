use Rattle.std.proofs.Common.{◌≡◌, true, rules, [], ◌∷◌, ◌++◌, length, sym, subst}
use Rattle.mod_recorder.{specs.Recorded.are_rising, proofs.RecordLemmas.marked_up}
use Rattle.mod_recorder.proofs.records.RecorderRecords.mark.Goals as goal

pub invariant_of-self-2 : goal.invariant_of-self-2
invariant_of-self-2 g c =
    let s = c.self.inside in
    let counted : c.len.result ≡ length s.notes.items = search rules in
    subst (λ l. are_rising s.settled.notes l (length s.notes.items) ≡ true) (sym c.in_ok-push.ensures.items)
    (subst (λ n. are_rising s.settled.notes (s.marks.items ++ record { notes = n; before = s.before } ∷ []) (length s.notes.items) ≡ true) (sym counted) (marked_up s.notes.items s.before s.marks.items s.settled c.self.invariant))
