-- What is found on a tape is found in the tree that `serde_json` reads. A name may stand twice: the last value counts in both.
use Rattle.std.proofs.Common.{◌≡◌, ℕ, Bool, true, false, ◌&&◌, cond, bytes_eq, List, Option, Some, None, Ordering, Less, Equal, Greater, option_and_then, is_eq, nat_cmp, refl, sym, ap, ◌∙◌}
use Rattle.std.{specs.{Cmp.Lexicographic.slice_cmp, Ordering.match_ordering}, proofs.lemmas.Map.Text.is_eq-slice_cmp}
use Rattle.std.proofs.lemmas.Slice.Eq.{bytes_eq-Decides}
use Rattle.json.specs.Json as json
use Rattle.json.specs.Find as find
use Rattle.json.proofs.Found.{not_found, Some_inj}
use Rattle.serde_json.specs.{Data.{Data, Members, no_members, member, put}, Find.get_member, Read.{of_json, of_members}}
use Rattle.serde_json.proofs.Views.{get_member-put, get_member-put_other}
use Rattle.line_json.specs.{Members.{is_among, are_among}, Tape.keys_among}

-- ---- what is found by a name

-- what is found is the tree of the member, or what was there before
abbrev pub Alike : Option json.Json → Option Data → Option Data → Type 0
Alike None before after = after ≡ before
Alike (Some j) before after = (d : Data) × (of_json j ≡ Some d) × (after ≡ Some d)

-- one member, and then those behind it
turn : (b : Bool) (name k : List ℕ) (j : json.Json) (d : Data) (found : Members) (o : Option json.Json) (after : Option Data) → bytes_eq k name ≡ b → of_json j ≡ Some d
    → Alike o (get_member name (put k d found)) after → Alike (find.later_or o (cond b (Some j) None)) (get_member name found) after
turn b name k j d found (Some l) after same is h = h
turn true name k j d found None after same is h =
    let equal : k ≡ name = (bytes_eq-Decides k name).0 same in
    (d, is, h ∙ ap (λ n. get_member n (put k d found)) (sym equal) ∙ get_member-put k d found)
turn false name k j d found None after same is h = h ∙ get_member-put_other name k d found (λ equal. absurd (cc_apart (sym same ∙ (bytes_eq-Decides k name).1 (sym equal))))
  where
    cc_apart : false ≡ true → ⊥
    cc_apart e = absurd cc

pub get_alike : (name : List ℕ) (ms : json.Members) (found ds : Members) → of_members ms found ≡ Some ds → Alike (find.get_member name ms) (get_member name found) (get_member name ds)
get_alike name json.no_members found ds e = ap (get_member name) (sym (Some_inj found ds e))
get_alike name (json.member k j ms) found ds e = go (λ d h. get_alike name ms (put k d found) ds h) (of_json j) refl e
  where
    go : ((d : Data) → of_members ms (put k d found) ≡ Some ds → Alike (find.get_member name ms) (get_member name (put k d found)) (get_member name ds))
        → (o : Option Data) → of_json j ≡ o → option_and_then (λ d. of_members ms (put k d found)) o ≡ Some ds → Alike (find.get_member name (json.member k j ms)) (get_member name found) (get_member name ds)
    go again None is h = not_found ds h
    go again (Some d) is h = turn (bytes_eq k name) name k j d found (find.get_member name ms) (get_member name ds) refl is (again d h)

-- ---- the names of the members

twice : (b c : Bool) → (b && c) ≡ (b && (b && c))
twice true c = refl
twice false c = refl

swapped : (a b c : Bool) → (a && (b && c)) ≡ (b && (a && c))
swapped true true c = refl
swapped true false c = refl
swapped false true c = refl
swapped false false c = refl

regrouped : (a b c : Bool) → (a && (b && c)) ≡ ((b && a) && c)
regrouped true true c = refl
regrouped true false c = refl
regrouped false true c = refl
regrouped false false c = refl

among_put_at : (o : Ordering) (names : List (List ℕ)) (k l : List ℕ) (d e : Data) (ms : Members) → slice_cmp nat_cmp k l ≡ o → are_among names (put k d ms) ≡ (is_among names k && are_among names ms)
    → are_among names (match_ordering o (member k d (member l e ms)) (member l d ms) (member l e (put k d ms))) ≡ (is_among names k && (is_among names l && are_among names ms))
among_put_at Less names k l d e ms is later = refl
among_put_at Equal names k l d e ms is later =
    let same : k ≡ l = (bytes_eq-Decides k l).0 (sym (is_eq-slice_cmp k l) ∙ ap is_eq is) in
    twice (is_among names l) (are_among names ms) ∙ ap (λ n. is_among names n && (is_among names l && are_among names ms)) (sym same)
among_put_at Greater names k l d e ms is later = ap (λ b. is_among names l && b) later ∙ swapped (is_among names l) (is_among names k) (are_among names ms)

among_put : (names : List (List ℕ)) (k : List ℕ) (d : Data) (ms : Members) → are_among names (put k d ms) ≡ (is_among names k && are_among names ms)
among_put names k d no_members = refl
among_put names k d (member l e ms) = among_put_at _ names k l d e ms refl (among_put names k d ms)

pub among_alike : (names : List (List ℕ)) (ms : json.Members) (found ds : Members) → of_members ms found ≡ Some ds → are_among names ds ≡ (keys_among names ms && are_among names found)
among_alike names json.no_members found ds e = ap (are_among names) (sym (Some_inj found ds e))
among_alike names (json.member k j ms) found ds e = go (λ d h. among_alike names ms (put k d found) ds h) (of_json j) e
  where
    go : ((d : Data) → of_members ms (put k d found) ≡ Some ds → are_among names ds ≡ (keys_among names ms && are_among names (put k d found)))
        → (o : Option Data) → option_and_then (λ d. of_members ms (put k d found)) o ≡ Some ds → are_among names ds ≡ (keys_among names (json.member k j ms) && are_among names found)
    go again None h = not_found ds h
    go again (Some d) h =
        again d h ∙ ap (λ b. keys_among names ms && b) (among_put names k d found)
        ∙ regrouped (keys_among names ms) (is_among names k) (are_among names found)
