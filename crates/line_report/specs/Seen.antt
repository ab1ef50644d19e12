-- Entries of lent values, as the values that they lend.
use Rattle.std.specs.Prelude.{List, map}
use Rattle.std.specs.Borrow.{Bor}

-- entries of lent values
abbrev pub seen : {K X : Type 0} → List (K × Bor X) → List (K × X)
seen es = map (λ e. (e.0, e.1.now)) es
