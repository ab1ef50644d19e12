-- What a keeper of a database file tells.
use Rattle.std.proofs.Common.{◌≡◌, ◌∙◌, ◌⊎◌, inl, inr, List, [], Option, Some, refl, sym, ap, subst, subst₂}
use Rattle.sqlite_wal.specs.Recovery.{Image}
use Rattle.sqlite_trees.specs.Tree.{Trees}
use Rattle.sqlite_catalog.specs.Listing.{IsSound}
use Rattle.sqlite.specs.{Effect.{Database, IsDatabase}, Files.HoldsDatabase, Start.FindsIn}
use Rattle.sqlite.specs.State.{State, Opens, IsLive}
use Rattle.base_io.specs.Rows.{Pair}
use Rattle.store_sqlite.{specs.Kept.{AreRowsOf, IsNumbered, kept_schema, map_of, no_schema}, proofs.Numbers.found_rise}

-- the rows that are told are those of the database that the files hold
pub finds_rows : (image : Image) (s : State) (told : Option (List Pair)) → FindsIn image s → Opens s → IsLive s → (s.now.schema ≡ no_schema) ⊎ (s.now.schema ≡ kept_schema)
    → (s.now.schema ≡ kept_schema → told ≡ Some (map_of (s.committed.trees 0))) → (s.now.schema ≡ no_schema → told ≡ Some []) → (db : Trees) → HoldsDatabase image db
    → (rows : List Pair) × (told ≡ Some rows) × AreRowsOf db rows
finds_rows image s told finds opens live which kept fresh db holds =
    let is : s.committed.trees ≡ db = finds.holds db holds in
    let good : IsDatabase s.now = (live opens.is_open).0 in
    let now_is : s.now.trees ≡ db = ap (λ (d : Database). d.trees) opens.clean ∙ is in
    elim which [
      | inl none ↦ ([], fresh none, inr (subst₂ IsSound none now_is good, refl))
      | inr table ↦ (map_of (db 0), kept table ∙ ap (λ (t : Trees). Some (map_of (t 0))) is, inl (subst₂ IsSound table now_is good, refl))
    ]

-- the numbers of the rows rise, as those of the files do
pub opened_rises : (image : Image) (s : State) → FindsIn image s → Opens s → IsLive s → s.now.schema ≡ kept_schema → IsNumbered (s.now.trees 0)
opened_rises image s found opens live schema =
    let same : s.now.trees ≡ s.committed.trees = ap (λ (d : Database). d.trees) opens.clean in
    let sound : IsSound kept_schema s.committed.trees = subst₂ IsSound schema same (live opens.is_open).0 in
    subst (λ (t : Trees). IsNumbered (t 0)) (sym same) (found_rise image s.committed.trees found.reads sound)
