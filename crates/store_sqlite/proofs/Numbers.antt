-- The numbers of the rows rise: of a store that is not broken, and of what an open finds in the files.
use Rattle.std.proofs.Common.{◌≡◌, ◌∙◌, ℕ, inl, inr, List, [], ◌∷◌, filter, refl, sym, ap, subst, arith}
use Rattle.std.{proofs.Math.Logic.∥∥₁_elim, specs.List.AllZip}
use Rattle.sqlite_value.specs.Order.{Row, column}
use Rattle.sqlite_trees.specs.{declared.store.Shape.Shape, Tree.{Trees, IsTable}, Props.IsOrdered-prop}
use Rattle.sqlite_trees.specs.View.{View, IsOrdered, IsShaped}
use Rattle.sqlite_trees.specs.Objects.{IsListed, catalog_tree, number_in, shape_code}
use Rattle.sqlite_trees.specs.declared.store.Shape.TheVariants as shape
use Rattle.sqlite_rules.{specs.Lists.Has, proofs.ListLemmas.has_filtered}
use Rattle.sqlite_catalog.{specs.Listing.{IsSound, IsTableRow, is_table_row}, proofs.LayoutLemmas.row_found}
use Rattle.sqlite_wal.specs.Recovery.{Image}
use Rattle.sqlite_pool.specs.File.{version_in, in_use}
use Rattle.sqlite_store.specs.{Listing.{all_shapes, all_reals, file_trees}, Listed.{catalog_rows, is_listed}}
use Rattle.sqlite_store.proofs.ListingLemmas.{all_ordered}
use Rattle.sqlite.specs.Files.{AreFoundIn}
use Rattle.store_sqlite.specs.Kept.{kept, kept_schema, IsNumbered}

one_zip : {X Y : Type 0} (P : X → Y → Type 0) (xs : List X) (y : Y) → AllZip P xs (y ∷ []) → (x : X) × Has xs x × P x y
one_zip P [] y h = absurd h
one_zip P (x ∷ xs) y h = (x, inl refl, h.0)

is_table : (s : Shape) → shape_code s ≡ 1 → s ≡ shape.Table
is_table shape.Absent h = absurd (omega (arith, h))
is_table shape.Table h = refl
is_table (shape.Index o) h = absurd (omega (arith, h))
is_table shape.Pageless h = absurd (omega (arith, h))
is_table shape.FrozenTable h = absurd (omega (arith, h))
is_table (shape.FrozenIndex o) h = absurd (omega (arith, h))

-- of trees in the order of their shapes, which the list of objects gives
pub rise_in : (shapes : ℕ → Shape) (reals : ℕ → ℕ) (trees : Trees) → IsOrdered shapes trees → IsListed (trees catalog_tree) shapes reals → IsSound kept_schema trees → IsNumbered (trees 0)
rise_in shapes reals trees ordered listed sound =
    let objects : List Row = trees catalog_tree in
    let rising : IsTable objects = (subst (λ s. IsShaped s objects) listed.itself.0 (ordered catalog_tree)).0 in
    let found = one_zip IsTableRow (filter is_table_row objects) kept sound.lists.listed.tables in
    let there = (has_filtered is_table_row objects found.0 found.1).0 in
    let row = row_found objects found.0 0 rising there found.2.described.id in
    let code : shape_code (shapes 0) ≡ 1 = listed.shapes 0 (λ e. absurd (omega (arith, e))) (λ e. absurd (omega (arith, e))) ∙ ap (λ r. number_in (column r 5)) row ∙ found.2.described.shape_is in
    subst (λ s. IsShaped s (trees 0)) (is_table (shapes 0) code) (ordered 0)

pub numbers_rise : (v : View) → IsOrdered v.shape v.trees → IsListed (v.trees catalog_tree) v.shape v.reals → IsSound kept_schema v.trees → IsNumbered (v.trees 0)
numbers_rise v = rise_in v.shape v.reals v.trees

-- the trees that an open finds are those of a whole file, or there are none
pub found_rise : (image : Image) (db : Trees) → AreFoundIn image db → IsSound kept_schema db → IsNumbered (db 0)
found_rise image db (inl it) sound =
    let pages = it.1 in
    let wanted = it.2 in
    let trees : Trees = file_trees it.0 wanted pages in
    let is : db ≡ trees = it.5 in
    let ordered : IsOrdered (all_shapes wanted) trees = ∥∥₁_elim it.4 (IsOrdered-prop _ _) (λ ours. all_ordered ours.file.db (version_in pages)) in
    let listed : IsListed (trees catalog_tree) (all_shapes wanted) (all_reals wanted) = rw (catalog_rows it.0 wanted (in_use it.0 pages)) (is_listed wanted) in
    subst (λ (t : Trees). IsNumbered (t 0)) (sym is) (rise_in (all_shapes wanted) (all_reals wanted) trees ordered listed (subst (IsSound kept_schema) is sound))
found_rise image db (inr none) sound = rw (none.1.0 0 (omega arith)) (tt, tt)
