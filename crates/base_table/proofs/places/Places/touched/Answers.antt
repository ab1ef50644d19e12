use Rattle.std.proofs.Common.{subst}
use Rattle.std.specs.{List.IsDistinct, Map.keys_of, Ordering.eq_by_cmp}
use Rattle.base_table.proofs.places.Places.touched.Goals as goal

pub returns-clause-distinct : goal.returns-clause-distinct
returns-clause-distinct g c =
    subst (λ m. IsDistinct (eq_by_cmp g.K.Ord.cmp) (keys_of m.touched)) c.self.view_is
    (subst (λ e. IsDistinct e (keys_of c.self.inside.touched.entries)) (λ i x y. g.met.K.Ord.matches_eq x y i) c.len.ensures.unique)
