-- The ideal of a span of the log is that of the entries that a statement has of it, but for how often shares left.
use Rattle.std.proofs.Common.{◌≡◌, ◌∙◌, ℕ, ◌+◌, ◌*◌, ◌^◌, ◌==◌, Bool, true, false, List, [], ◌∷◌, map, refl, sym, ap, arith, if◌then◌else◌}
use Rattle.base_coins.specs.Coins.{amount_of}
use Rattle.base_decimals.specs.Fractions.{Fraction, fraction_of}
use Rattle.base_shares.specs.Burns.{ratio_of}
use Rattle.base_roles.specs.Log.{LogEntry}
use Rattle.base_roles.specs.Log as log
use Rattle.rule_modules.specs.Amounts.{count_where}
use Rattle.rule_modules.specs.Ideal.{Ideal, Span, ◌⊕◌, ◌⊗◌, ideal_after, ideal_of, ideal_over, ideal_start, is_left, shared_out, stretch_closed}
use Rattle.mod_statement.specs.declared.entry.Entry.{Entry, TheVariants.{Started, Allocated, Ended, Slashed, Touched}}
use Rattle.mod_statement.specs.Bracketed.{logged, span_stated}
use Rattle.law_statements.specs.Resting.{IsSpanOf, entries_in, untouched}

none_more : (a b : ℕ) → a + b ≡ a + (0 + b)
none_more a b = omega arith

one_more : (a b : ℕ) → a + 1 + b ≡ a + (1 + b)
one_more a b = omega arith

from_none : (n : ℕ) → 0 + n ≡ n
from_none n = omega arith

-- an ideal without how often shares left
abbrev pub kept : Ideal → Ideal
kept i = record i { left = 0 }

module _ (d : List ℕ) (first : Fraction) where
  -- ---- one entry

  -- what an entry makes of an ideal depends on what is kept of it
  shared_kept : (raw tokens : ℕ) (i : Ideal) → kept (shared_out raw tokens i) ≡ kept (shared_out raw tokens (kept i))
  shared_kept raw tokens i = by (tokens == 0)
    where
      by : (b : Bool)
          → kept (if b then i else record i { reward = i.reward ⊕ fraction_of raw ⊗ i.stake ⊗ ratio_of 1 tokens; rate = i.rate ⊕ fraction_of raw ⊗ ratio_of 1 tokens })
          ≡ kept (if b then kept i else record (kept i) { reward = i.reward ⊕ fraction_of raw ⊗ i.stake ⊗ ratio_of 1 tokens; rate = i.rate ⊕ fraction_of raw ⊗ ratio_of 1 tokens })
      by true = refl
      by false = refl

  same_shared : (raw tokens : ℕ) (i j : Ideal) → kept i ≡ kept j → kept (shared_out raw tokens i) ≡ kept (shared_out raw tokens j)
  same_shared raw tokens i j h = shared_kept raw tokens i ∙ ap (λ x. kept (shared_out raw tokens x)) h ∙ sym (shared_kept raw tokens j)

  same_ended : (i j : Ideal) → kept i ≡ kept j → kept (record i { ended = i.ended + 1 }) ≡ kept (record j { ended = j.ended + 1 })
  same_ended i j h = ap (λ (x : Ideal). record x { ended = x.ended + 1 }) h

  same_closed : (burn tokens : ℕ) (i j : Ideal) → kept i ≡ kept j → kept (stretch_closed first burn tokens i) ≡ kept (stretch_closed first burn tokens j)
  same_closed burn tokens i j h = ap (λ (x : Ideal). stretch_closed first burn tokens x) h

  -- ---- entries of the log, and those that a statement has

  over_log : (ls : List LogEntry) (i j : Ideal) → kept i ≡ kept j → kept (ideal_over d first i ls) ≡ kept (ideal_over d first j (map logged (entries_in ls)))
  over_log [] i j h = h
  over_log (log.allocated share rest tokens ∷ ls) i j h =
      over_log ls (shared_out (amount_of rest d) tokens i) (shared_out (amount_of rest d) tokens j) (same_shared (amount_of rest d) tokens i j h)
  over_log (log.ended period increment tokens ∷ ls) i j h = over_log ls (record i { ended = i.ended + 1 }) (record j { ended = j.ended + 1 }) (same_ended i j h)
  over_log (log.slashed burn tokens fraction ∷ ls) i j h =
      over_log ls (stretch_closed first burn tokens i) (stretch_closed first burn tokens j) (same_closed burn tokens i j h)
  over_log (log.left ∷ ls) i j h = over_log ls (record i { left = i.left + 1 }) j h
  over_log (log.made ∷ ls) i j h = over_log ls i j h
  over_log (log.started who shares tokens all stake ∷ ls) i j h = over_log ls i j h
  over_log (log.withdrawn who payee full outstanding ∷ ls) i j h = over_log ls i j h
  over_log (log.commission coins ∷ ls) i j h = over_log ls i j h

  over_rest : (es : List Entry) (i j : Ideal) → kept i ≡ kept j → kept (ideal_over d first i (map logged es)) ≡ kept (ideal_over d first j (map logged (untouched es)))
  over_rest [] i j h = h
  over_rest (Allocated coins tokens ∷ es) i j h =
      over_rest es (shared_out (amount_of coins d) tokens i) (shared_out (amount_of coins d) tokens j) (same_shared (amount_of coins d) tokens i j h)
  over_rest (Ended ∷ es) i j h = over_rest es (record i { ended = i.ended + 1 }) (record j { ended = j.ended + 1 }) (same_ended i j h)
  over_rest (Slashed burned tokens ∷ es) i j h =
      over_rest es (stretch_closed first burned tokens i) (stretch_closed first burned tokens j) (same_closed burned tokens i j h)
  over_rest (Started shares tokens total ∷ es) i j h = over_rest es i j h
  over_rest (Touched ∷ es) i j h = over_rest es (record i { left = i.left + 1 }) j h

  -- ---- how often shares left

  left_over : (ls : List LogEntry) (i : Ideal) → (ideal_over d first i ls).left ≡ i.left + count_where is_left ls
  left_over [] i = omega arith
  left_over (log.allocated share rest tokens ∷ ls) i = left_over ls (shared_out (amount_of rest d) tokens i) ∙ by (tokens == 0)
    where
      by : (b : Bool)
          → (if b then i else record i { reward = i.reward ⊕ fraction_of (amount_of rest d) ⊗ i.stake ⊗ ratio_of 1 tokens; rate = i.rate ⊕ fraction_of (amount_of rest d) ⊗ ratio_of 1 tokens }).left + count_where is_left ls
          ≡ i.left + (0 + count_where is_left ls)
      by true = omega arith
      by false = omega arith
  left_over (log.ended period increment tokens ∷ ls) i = left_over ls (record i { ended = i.ended + 1 }) ∙ none_more i.left (count_where is_left ls)
  left_over (log.slashed burn tokens fraction ∷ ls) i = left_over ls (stretch_closed first burn tokens i) ∙ none_more i.left (count_where is_left ls)
  left_over (log.left ∷ ls) i = left_over ls (record i { left = i.left + 1 }) ∙ one_more i.left (count_where is_left ls)
  left_over (log.made ∷ ls) i = left_over ls i ∙ none_more i.left (count_where is_left ls)
  left_over (log.started who shares tokens all stake ∷ ls) i = left_over ls i ∙ none_more i.left (count_where is_left ls)
  left_over (log.withdrawn who payee full outstanding ∷ ls) i = left_over ls i ∙ none_more i.left (count_where is_left ls)
  left_over (log.commission coins ∷ ls) i = left_over ls i ∙ none_more i.left (count_where is_left ls)

-- ---- a span

module _ (d : List ℕ) (s : Span) (es : List Entry) (h : IsSpanOf s es) where
  -- what is kept of its ideal is that of its entries
  pub same_kept : kept (ideal_of d s) ≡ kept (ideal_of d (span_stated es))
  same_kept =
      let f : Fraction = ratio_of (h.shares * h.tokens) h.total in
      let start : Ideal = ideal_start f in
      ap (λ (x : Fraction). kept (ideal_over d x (ideal_start x) s.entries)) h.first
      ∙ over_log d f s.entries start start refl
      ∙ ap (λ (l : List Entry). kept (ideal_over d f start (map logged l))) (sym h.same)
      ∙ sym (over_rest d f h.rest start start refl)
      ∙ ap (λ (l : List Entry). kept (ideal_of d (span_stated l))) (sym h.is)

  -- and its start
  pub same_first : s.first ≡ (span_stated es).first
  same_first = h.first ∙ ap (λ (l : List Entry). (span_stated l).first) (sym h.is)

  -- how often shares left in it
  pub left_is : (ideal_of d s).left ≡ count_where is_left s.entries
  left_is = left_over d s.first s.entries (ideal_start s.first) ∙ from_none (count_where is_left s.entries)
