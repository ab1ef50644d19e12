-- Entries in the order of their keys.
use Rattle.std.specs.Prelude.{List, [], ◌∷◌}
use Rattle.std.specs.declared.cmp.Ordering.{Ordering}
use Rattle.base_roles.specs.Entries.{with}

module _ {K X : Type 0} (cmp : K → K → Ordering) where
  -- entries with further ones, each put at its key
  abbrev pub entries_with : List (K × X) → List (K × X) → List (K × X)
  entries_with es [] = es
  entries_with es (new ∷ news) = entries_with (with cmp es new.0 new.1) news

  -- entries in the order of their keys; of those of one key the last stands
  abbrev pub in_order : List (K × X) → List (K × X)
  in_order es = entries_with [] es
