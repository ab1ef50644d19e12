-- The answers of what asks for past rows.
use Rattle.std.proofs.Common.{◌≡◌, ◌∙◌, ◌⊎◌, ℕ, ◌<◌, ◌≤◌, List, map, Option, Some, None, Ok, Err, sym, ap, subst, Vec, unwrap_or}
use Rattle.std.specs.{declared.alloc.Global.Global, List.AllByRecursion}
use Rattle.base_io.specs.{declared.keeper.Row.Row, Rows.Pair, Changes.{Rises, pair_of}}
use Rattle.store_history.specs.{declared.going_back.PastFault.TheVariants.{BadHistory, NoPast}, Answers.Tells}
use Rattle.store_history.specs.{Held.{IsWhole, undone}, History.{ArePast, IsHistory, last_of, stored_base, visible}}
use Rattle.store_history.proofs.{ListLemmas.shown_last, UndoLemmas.{are_past, formed_whole}}

-- the last height, and the base, as they are known
last_at : (rows vis : List Pair) (last : Option ℕ) → Rises rows → vis ≡ visible rows → last ≡ last_of vis → last_of rows ≡ last
last_at rows vis last up is known = sym (known ∙ ap last_of is ∙ shown_last rows up)

pub tells_no_head : (rows vis : List Pair) (height : ℕ) → Rises rows → vis ≡ visible rows → None ≡ last_of vis → Tells rows height (Err BadHistory)
tells_no_head rows vis height up is known = λ h. last_at rows vis None up is known

pub tells_outside : (rows vis : List Pair) (stood : Option ℕ) (height base last : ℕ) → Rises rows → vis ≡ visible rows → stood ≡ stored_base rows → Some last ≡ last_of vis → IsHistory rows
    → base ≡ unwrap_or stood last → (height < base) ⊎ (last < height) → Tells rows height (Err (NoPast base last))
tells_outside rows vis stood height base last up is base_is known h from outside = record {
  history = h;
  last_is = last_at rows vis (Some last) up is known;
  base_is = from ∙ ap (λ (b : Option ℕ). unwrap_or b last) base_is;
  outside = outside;
}

pub all_whole : (rows : List Pair) → IsHistory rows → AllByRecursion IsWhole rows
all_whole rows h = formed_whole (stored_base rows) (last_of rows) rows h.formed

pub tells_past : (rows vis gone : List Pair) (stood : Option ℕ) (height base last : ℕ) (past : Vec Row Global) → Rises rows → vis ≡ visible rows → stood ≡ stored_base rows → Some last ≡ last_of vis → IsHistory rows
    → base ≡ unwrap_or stood last → base ≤ height → height ≤ last → (AllByRecursion IsWhole rows → gone ≡ undone height rows vis) → map pair_of past.items ≡ gone → Tells rows height (Ok past)
tells_past rows vis gone stood height base last past up is base_is known h from low high step moved =
    let last_is = last_at rows vis (Some last) up is known in (
      (
        last,
        record {
          history = h;
          last_is = last_is;
          low = subst (λ (b : ℕ). b ≤ height) (from ∙ ap (λ (b : Option ℕ). unwrap_or b last) base_is) low;
          high = high;
        },
      ),
      subst (λ (ps : List Pair). ArePast rows height ps) (sym (moved ∙ step (all_whole rows h) ∙ ap (undone height rows) is)) (are_past rows up h last last_is height),
    )
