-- Ballots one after another: of each voter the last stands.
use Rattle.std.proofs.Common.{◌≡◌, ◌∙◌, ℕ, Bool, true, false, cond, List, [], ◌∷◌, Option, Some, None, refl, sym, ap}
use Rattle.std.specs.{Option.option_or, BTreeMap.is_at}
use Rattle.base_types.{specs.Orders.addr_cmp, proofs.MapLemmas.at-put}
use Rattle.base_roles.specs.{Entries.{at, with}, Orders.same_addr}
use Rattle.rule_modules.proofs.OrderLemmas.{addr_total, same_back}
use Rattle.mod_tally.specs.{declared.choice.Choice.Choice, Ballots.{Cast, chosen_in}}

-- nothing stands in place of a choice
pub or_none : (o : Option Choice) → option_or o None ≡ o
or_none None = refl
or_none (Some c) = refl

or_cast : (o : Option Choice) (b : Bool) (c : Choice) (before : Option Choice) → option_or o (cond b (Some c) before) ≡ option_or (option_or o (cond b (Some c) None)) before
or_cast (Some later) b c before = refl
or_cast None true c before = refl
or_cast None false c before = refl

-- a ballot that was cast is an earlier one of those to come
pub cast_next : (b : List ℕ × Choice) (later es : Cast) (voter : List ℕ)
    → option_or (chosen_in later voter) (at addr_cmp (with addr_cmp es b.0 b.1) voter) ≡ option_or (chosen_in (b ∷ later) voter) (at addr_cmp es voter)
cast_next b later es voter =
    ap (option_or (chosen_in later voter)) (at-put addr_cmp addr_total es b.0 voter b.1 ∙ ap (λ t. cond t (Some b.1) (at addr_cmp es voter)) (same_back voter b.0))
    ∙ or_cast (chosen_in later voter) (same_addr b.0 voter) b.1 (at addr_cmp es voter)
