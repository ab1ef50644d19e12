-- The format that rows of items tell.
use Rattle.std.proofs.Common.{◌≡◌, ◌∙◌, inl, inr, ℕ, Bool, true, false, cond, eqb, List, [], ◌∷◌, Some, refl, sym, ap, Less, eqb-true}
use Rattle.sqlite_rules.{specs.Lists.Has, proofs.ListLemmas.all_has}
use Rattle.base_io.specs.{Rows.{Pair, key_cmp}, Changes.Rises}
use Rattle.base_roles.specs.declared.items.Item.TheVariants as item
use Rattle.store_rows.specs.{declared.format.Format.{Format, TheVariants.{First, Second}}, Rows.row_in}
use Rattle.store_rows.specs.Told.{format_in, format_told, is_head_key}
use Rattle.store_items.proofs.Listed.{never_itself}

one_alone : (key : List ℕ) → is_head_key key ≡ true → key ≡ 1 ∷ []
one_alone [] e = absurd cc
one_alone (b ∷ []) e = ap (λ (n : ℕ). n ∷ []) (eqb-true b 1 e)
one_alone (b ∷ c ∷ more) e = absurd cc

first_is : (f : Format) (height time : ℕ) (ps : List Pair) → format_told (row_in f (item.Head height time) ∷ ps) ≡ Some f
first_is First height time ps = refl
first_is Second height time ps = refl

-- the last height tells it, among rows in the order of their keys
pub told_by_head : (f : Format) (height time : ℕ) (ps : List Pair) → Rises ps → Has ps (row_in f (item.Head height time)) → format_told ps ≡ Some f
told_by_head f height time [] up h = absurd h
told_by_head f height time (p ∷ ps) up (inl same) = ap (λ (q : Pair). format_told (q ∷ ps)) (sym same) ∙ first_is f height time ps
told_by_head f height time (p ∷ ps) up (inr later) = go (is_head_key p.0) refl (told_by_head f height time ps up.1 later)
  where
    below : key_cmp p.0 (1 ∷ []) ≡ Less
    below = all_has (λ (q : Pair). key_cmp p.0 q.0 ≡ Less) ps (row_in f (item.Head height time)) up.0 later

    go : (b : Bool) → is_head_key p.0 ≡ b → format_told ps ≡ Some f → format_told (p ∷ ps) ≡ Some f
    go true is others = absurd (never_itself p.0 (1 ∷ []) below (one_alone p.0 is))
    go false is others = ap (λ (b : Bool). cond b (format_in p.1) (format_told ps)) is ∙ others
