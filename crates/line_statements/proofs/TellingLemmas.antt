-- What a writer has written after a statement.
use Rattle.std.proofs.Common.{◌≡◌, ◌∙◌, ap, List, [], ◌∷◌, ◌++◌, append_assoc}
use Rattle.json.specs.Token.{Token}

-- an object was begun, and its members were written in three steps, with a key before the second
pub object_told : (t0 t1 t2 t3 t4 t5 : List Token) (begin name : Token) (first value rest : List Token)
    → t1 ≡ t0 ++ begin ∷ [] → t2 ≡ t1 ++ first → t3 ≡ t2 ++ name ∷ [] → t4 ≡ t3 ++ value → t5 ≡ t4 ++ rest
    → t5 ≡ t0 ++ begin ∷ (first ++ name ∷ (value ++ rest))
object_told t0 t1 t2 t3 t4 t5 begin name first value rest h1 h2 h3 h4 h5 =
    h5 ∙ ap (λ t. t ++ rest) (h4 ∙ ap (λ t. t ++ value) (h3 ∙ ap (λ t. t ++ name ∷ []) (h2 ∙ ap (λ t. t ++ first) h1)))
    ∙ append_assoc (((t0 ++ begin ∷ []) ++ first) ++ name ∷ []) value rest
    ∙ append_assoc ((t0 ++ begin ∷ []) ++ first) (name ∷ []) (value ++ rest)
    ∙ append_assoc (t0 ++ begin ∷ []) first (name ∷ (value ++ rest))
    ∙ append_assoc t0 (begin ∷ []) (first ++ name ∷ (value ++ rest))
