-- The first stretch is what stands before the first slash.
use Rattle.std.proofs.Common.{◌≡◌, ℕ, ◌<◌, ◌≤◌, Bool, true, false, not, List, length, get_or, take, sym, ap, ◌∙◌, arith, take_all}
use Rattle.std.{specs.List.prefix_len, proofs.lemmas.List.{get_or_read, Elements.All-take, Sums.prefix_len_is}}
use Rattle.mod_statement.specs.declared.entry.Entry.{Entry, TheVariants.Ended}
use Rattle.mod_statement.specs.{Entries.{AreBehind, is_behind, is_slash}, Slack.first_stretch}

-- no slash stands before a place
abbrev pub NoneBefore : List Entry → ℕ → Type 0
NoneBefore es n = (k : ℕ) → k < n → is_slash (get_or es k Ended) ≡ false

pub stretch_is : (es : List Entry) (n : ℕ) → n ≤ length es → NoneBefore es n → (n < length es → is_slash (get_or es n Ended) ≡ true)
    → first_stretch es ≡ take n es
stretch_is es n within none end =
    ap (λ k. take k es) (prefix_len_is (λ e. not (is_slash e)) es n Ended within (λ k h. ap not (none k h)) (λ h. ap not (end h)))

-- an entry that was looked at
pub slash_at : (es : List Entry) (i : ℕ) (e : Entry) (t : Bool) → i < length es → e ≡ get_or es i e → is_slash e ≡ t → is_slash (get_or es i Ended) ≡ t
slash_at es i e t lt is h = ap is_slash (sym (get_or_read es i e lt is Ended)) ∙ h

-- entries without a slash are one stretch
pub stretch_whole : (es : List Entry) (i : ℕ) → length es ≤ i → NoneBefore es i → first_stretch es ≡ es
stretch_whole es i h none =
    stretch_is es (length es) (omega arith) (λ k lt. none k (omega arith)) (λ lt. absurd (omega arith)) ∙ take_all (length es) es (omega arith)

-- entries of a stretch may stand behind a start as all may
pub stretch_behind : (es : List Entry) → AreBehind es → AreBehind (first_stretch es)
stretch_behind es a = All-take (λ e. is_behind e ≡ true) (prefix_len (λ e. not (is_slash e)) es) es a
