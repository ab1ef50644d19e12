-- What a place of a tape answers is what the tree there answers.
use Rattle.std.proofs.Common.{◌≡◌, ℕ, Bool, true, false, ◌&&◌, List, ◌∷◌, Option, Some, None, option_map, option_and_then, refl, sym, ap, ◌∙◌, subst}
use Rattle.json.specs.{Token.Token, Find.{BeginsWith, InItems, InMembers, NextItem, NextMember, Finds}}
use Rattle.json.proofs.Found.{not_found, Some_inj}
use Rattle.json.specs.Json as json
use Rattle.json.specs.Find as find
use Rattle.serde_json.specs.Data.{Data, null, boolean, number, string, array, object, Items, no_items, item, no_members}
use Rattle.serde_json.specs.Find.{get, as_bool, as_number, as_u64, as_str, as_array, as_object}
use Rattle.serde_json.specs.Read.{number_of, of_json, of_items, of_members}
use Rattle.line_json.specs.Members.{as_count, are_among, named_among}
use Rattle.line_json.specs.Tape.{count_of, Spells, IsTree, tree_at, elements_of, elements_at, AreElements, keys_among}
use Rattle.line_json.proofs.TapeLemmas.{tree_at-Spells, items_begin, count_of-number_of}
use Rattle.line_json.proofs.TreeLemmas.{Alike, get_alike, among_alike}

-- what a map was given
unmapped : {A B : Type 0} (f : A → B) (o : Option A) (b : B) → option_map f o ≡ Some b → (a : A) × (o ≡ Some a) × (b ≡ f a)
unmapped f None b e = not_found b e
unmapped f (Some a) b e = (a, refl, sym (Some_inj (f a) b e))

-- ---- a value and its tree

string_alike : (j : json.Json) (d : Data) → of_json j ≡ Some d → find.as_str j ≡ as_str d
string_alike json.null d e = ap as_str (Some_inj null d e)
string_alike (json.boolean b) d e = ap as_str (Some_inj (boolean b) d e)
string_alike (json.number s) d e = sym (ap as_str (unmapped number (number_of s) d e).2)
string_alike (json.string s) d e = ap as_str (Some_inj (string s) d e)
string_alike (json.array js) d e = sym (ap as_str (unmapped array (of_items js) d e).2)
string_alike (json.object ms) d e = sym (ap as_str (unmapped object (of_members ms no_members) d e).2)

boolean_alike : (j : json.Json) (d : Data) → of_json j ≡ Some d → find.as_bool j ≡ as_bool d
boolean_alike json.null d e = ap as_bool (Some_inj null d e)
boolean_alike (json.boolean b) d e = ap as_bool (Some_inj (boolean b) d e)
boolean_alike (json.number s) d e = sym (ap as_bool (unmapped number (number_of s) d e).2)
boolean_alike (json.string s) d e = ap as_bool (Some_inj (string s) d e)
boolean_alike (json.array js) d e = sym (ap as_bool (unmapped array (of_items js) d e).2)
boolean_alike (json.object ms) d e = sym (ap as_bool (unmapped object (of_members ms no_members) d e).2)

number_alike : (j : json.Json) (d : Data) → of_json j ≡ Some d → as_number d ≡ option_and_then number_of (find.as_number j)
number_alike json.null d e = sym (ap as_number (Some_inj null d e))
number_alike (json.boolean b) d e = sym (ap as_number (Some_inj (boolean b) d e))
number_alike (json.number s) d e = let u = unmapped number (number_of s) d e in ap as_number u.2 ∙ sym u.1
number_alike (json.string s) d e = sym (ap as_number (Some_inj (string s) d e))
number_alike (json.array js) d e = ap as_number (unmapped array (of_items js) d e).2
number_alike (json.object ms) d e = ap as_number (unmapped object (of_members ms no_members) d e).2

member_alike : (name : List ℕ) (j : json.Json) (d : Data) → of_json j ≡ Some d → Alike (find.get name j) None (get name d)
member_alike name json.null d e = sym (ap (get name) (Some_inj null d e))
member_alike name (json.boolean b) d e = sym (ap (get name) (Some_inj (boolean b) d e))
member_alike name (json.number s) d e = ap (get name) (unmapped number (number_of s) d e).2
member_alike name (json.string s) d e = sym (ap (get name) (Some_inj (string s) d e))
member_alike name (json.array js) d e = ap (get name) (unmapped array (of_items js) d e).2
member_alike name (json.object ms) d e =
    let u = unmapped object (of_members ms no_members) d e in
    subst (λ t. Alike (find.get name (json.object ms)) None (get name t)) (sym u.2) (get_alike name ms no_members u.0 u.1)

no_array : (j : json.Json) (d : Data) → of_json j ≡ Some d → find.as_array j ≡ None → as_array d ≡ None
no_array json.null d e h = sym (ap as_array (Some_inj null d e))
no_array (json.boolean b) d e h = sym (ap as_array (Some_inj (boolean b) d e))
no_array (json.number s) d e h = ap as_array (unmapped number (number_of s) d e).2
no_array (json.string s) d e h = sym (ap as_array (Some_inj (string s) d e))
no_array (json.array js) d e h = not_found js (sym h)
no_array (json.object ms) d e h = ap as_array (unmapped object (of_members ms no_members) d e).2

no_object : (j : json.Json) (d : Data) → of_json j ≡ Some d → find.as_object j ≡ None → as_object d ≡ None
no_object json.null d e h = sym (ap as_object (Some_inj null d e))
no_object (json.boolean b) d e h = sym (ap as_object (Some_inj (boolean b) d e))
no_object (json.number s) d e h = ap as_object (unmapped number (number_of s) d e).2
no_object (json.string s) d e h = sym (ap as_object (Some_inj (string s) d e))
no_object (json.array js) d e h = ap as_object (unmapped array (of_items js) d e).2
no_object (json.object ms) d e h = not_found ms (sym h)

-- ---- a place of a tape

module _ (ts : List Token) (h : IsTree ts) where
  -- the value there, and its tree
  is : tree_at ts ≡ h.0
  is = tree_at-Spells ts h.0 h.1

  pub string_there : (r : Option (List ℕ)) → ((j : json.Json) → BeginsWith ts j → r ≡ find.as_str j) → r ≡ as_str (tree_at ts)
  string_there r told = told h.1.0 h.1.1 ∙ string_alike h.1.0 h.0 h.1.2 ∙ sym (ap as_str is)

  pub boolean_there : (r : Option Bool) → ((j : json.Json) → BeginsWith ts j → r ≡ find.as_bool j) → r ≡ as_bool (tree_at ts)
  boolean_there r told = told h.1.0 h.1.1 ∙ boolean_alike h.1.0 h.0 h.1.2 ∙ sym (ap as_bool is)

  pub count_there : (r : Option (List ℕ)) → ((j : json.Json) → BeginsWith ts j → r ≡ find.as_number j) → option_and_then count_of r ≡ as_count (tree_at ts)
  count_there r told =
      counts r ∙ ap (option_and_then as_u64) (ap (option_and_then number_of) (told h.1.0 h.1.1) ∙ sym (number_alike h.1.0 h.0 h.1.2) ∙ sym (ap as_number is))
    where
      counts : (o : Option (List ℕ)) → option_and_then count_of o ≡ option_and_then as_u64 (option_and_then number_of o)
      counts None = refl
      counts (Some s) = count_of-number_of s

  pub found_there : (name : List ℕ) (us : List Token) → ((j : json.Json) → BeginsWith ts j → Finds (Some us) (find.get name j)) → IsTree us × (Some (tree_at us) ≡ get name (tree_at ts))
  found_there name us told =
      let found = told h.1.0 h.1.1 in
      let alike : Alike (Some found.0) None (get name h.0) = subst (λ o. Alike o None (get name h.0)) found.1 (member_alike name h.1.0 h.0 h.1.2) in
      let spells : Spells us alike.0 = (found.0, found.2, alike.1) in
      ((alike.0, spells), ap Some (tree_at-Spells us alike.0 spells) ∙ sym (ap (get name) is ∙ alike.2))

  pub found_nowhere : (name : List ℕ) → ((j : json.Json) → BeginsWith ts j → Finds None (find.get name j)) → None ≡ get name (tree_at ts)
  found_nowhere name told =
      let alike : Alike None None (get name h.0) = subst (λ o. Alike o None (get name h.0)) (told h.1.0 h.1.1) (member_alike name h.1.0 h.0 h.1.2) in
      sym (ap (get name) is ∙ alike)

  pub elements_there : (us : List Token) → ((j : json.Json) → BeginsWith ts j → (js : json.Items) × (j ≡ json.array js) × InItems us js) → AreElements us × (Some (elements_at us) ≡ as_array (tree_at ts))
  elements_there us told =
      let inside = told h.1.0 h.1.1 in
      let u = unmapped array (of_items inside.0) h.0 (sym (ap of_json inside.1) ∙ h.1.2) in
      let spells : Spells (Token.begin_array ∷ us) (array u.0) = (json.array inside.0, items_begin us inside.0 inside.2, ap (option_map array) u.1) in
      ((inside.0, inside.2, u.0, u.1), ap (λ d. Some (elements_of d)) (tree_at-Spells (Token.begin_array ∷ us) (array u.0) spells) ∙ sym (ap as_array (is ∙ u.2)))

  pub no_elements_there : ((j : json.Json) → BeginsWith ts j → find.as_array j ≡ None) → None ≡ as_array (tree_at ts)
  no_elements_there told = sym (ap as_array is ∙ no_array h.1.0 h.0 h.1.2 (told h.1.0 h.1.1))

  -- all members of the object have one of these names, or one has none of them
  pub named_there : (names : List (List ℕ)) (b : Bool) → ((j : json.Json) → BeginsWith ts j → (ms : json.Members) × (j ≡ json.object ms) × (keys_among names ms ≡ b)) → Some b ≡ named_among names (tree_at ts)
  named_there names b told =
      let inside = told h.1.0 h.1.1 in
      let u = unmapped object (of_members inside.0 no_members) h.0 (sym (ap of_json inside.1) ∙ h.1.2) in
      let all : are_among names u.0 ≡ b = among_alike names inside.0 no_members u.0 u.1 ∙ and_true (keys_among names inside.0) ∙ inside.2 in
      ap Some (sym all) ∙ sym (ap (named_among names) (is ∙ u.2))
    where
      and_true : (c : Bool) → (c && true) ≡ c
      and_true true = refl
      and_true false = refl

  pub no_members_there : (names : List (List ℕ)) → ((j : json.Json) → BeginsWith ts j → find.as_object j ≡ None) → None ≡ named_among names (tree_at ts)
  no_members_there names told = ap (option_map (are_among names)) (sym (ap as_object is ∙ no_object h.1.0 h.0 h.1.2 (told h.1.0 h.1.1)))

-- ---- elements that are left

-- the elements that are left are those of the tree
pub elements_are : (ts : List Token) (js : json.Items) (ds : Items) → InItems ts js → of_items js ≡ Some ds → elements_at ts ≡ ds
elements_are ts js ds within e =
    ap elements_of (tree_at-Spells (Token.begin_array ∷ ts) (array ds) (json.array js, items_begin ts js within, ap (option_map array) e))

pub last_element : (old new : List Token) → AreElements old → NextItem old None new → elements_at old ≡ no_items
last_element old new h next =
    let ends : h.0 ≡ json.no_items = next h.0 h.1 in
    elements_are old h.0 h.2 h.1 h.3 ∙ sym (Some_inj no_items h.2 (ap of_items (sym ends) ∙ h.3))

first_item : (o : Option Data) (js : json.Items) (ds : Items) → option_and_then (λ d. option_map (item d) (of_items js)) o ≡ Some ds → (d : Data) × (o ≡ Some d) × (es : Items) × (of_items js ≡ Some es) × (ds ≡ item d es)
first_item None js ds e = not_found ds e
first_item (Some d) js ds e = let u = unmapped (item d) (of_items js) ds e in (d, refl, u.0, u.1, u.2)

pub next_element : (old new us : List Token) → AreElements old → NextItem old (Some us) new → IsTree us × AreElements new × (elements_at old ≡ item (tree_at us) (elements_at new))
next_element old new us h next =
    let n = next h.0 h.1 in
    let parts = first_item (of_json n.0) n.1 h.2 (ap of_items (sym n.2) ∙ h.3) in
    let spells : Spells us parts.0 = (n.0, n.3, parts.1) in
    let element : tree_at us ≡ parts.0 = tree_at-Spells us parts.0 spells in
    let others : elements_at new ≡ parts.2 = elements_are new n.1 parts.2 n.4 parts.3 in
    ((parts.0, spells), (n.1, n.4, parts.2, parts.3), elements_are old h.0 h.2 h.1 h.3 ∙ parts.4 ∙ ap (λ d. item d parts.2) (sym element) ∙ ap (item (tree_at us)) (sym others))
