use Rattle.std.proofs.Common.{◌≡◌, ◌∙◌, ap, Option, Some, None, Bool, List, ℕ, MatchOption}
use Rattle.json.specs.{Token.Token, Find.{BeginsWith, as_object}}
use Rattle.json.specs.Json as json
use Rattle.line_json.specs.{Members.{named_among, texts_of}, Tape.{IsTree, tree_at, keys_among}}
use Rattle.line_json.proofs.PlaceLemmas.{named_there, no_members_there}
use Rattle.line_json.proofs.place.PlaceTree.named_among.Goals as goal

either : (ts : List Token) (h : IsTree ts) (names : List (List ℕ)) (r : Option Bool)
    → MatchOption r ((j : json.Json) → BeginsWith ts j → as_object j ≡ None) (λ b. (j : json.Json) → BeginsWith ts j → (ms : json.Members) × (j ≡ json.object ms) × (keys_among names ms ≡ b))
    → r ≡ named_among names (tree_at ts)
either ts h names None told = no_members_there ts h names told
either ts h names (Some b) told = named_there ts h names b told

pub returns : goal.returns
returns c =
    either c.self.inside.element c.self.invariant (texts_of c.args.names.now) _ c.are_named.ensures
    ∙ ap (λ ts. named_among (texts_of c.args.names.now) (tree_at ts)) c.self.view_is
