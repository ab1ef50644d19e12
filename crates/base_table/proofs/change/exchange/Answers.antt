use Rattle.std.proofs.Common.{◌≡◌, Bool, true, false, cond, List, [], ◌∷◌, Some, None, refl, sym, ◌∙◌, ap, subst, option_map}
use Rattle.std.specs.{BTreeMap.{get, get_key, insert_entry, is_at, ContainsKey}, Map.{lookup, lookup_key, remove_entry}}
use Rattle.std.specs.BTreeMap.Entry.{entry_key, entry_map_ref, entry_value, map_with_value, map_without_entry, MatchEntry}
use Rattle.base_table.specs.Places.{slot_of, slot_or, slots}
use Rattle.base_table.proofs.{ChangeLemmas.{exchanged-found, exchanged-new, listed-found, listed-new}, EachLemmas.lookup-each, PlaceLemmas.named_at}
use Rattle.base_table.proofs.change.exchange.Goals as goal

remove-missing : {K X : Type 0} (test : K → Bool) (es : List (K × X)) → lookup test es ≡ None → remove_entry test es ≡ es
remove-missing test [] none = refl
remove-missing test (e ∷ es) none = elim (test e.0) as (λ b. cond b (Some e.1) (lookup test es) ≡ None → cond b es (e ∷ remove_entry test es) ≡ e ∷ es) [ true ↦ λ none. cc | false ↦ λ none. ap (λ l. e ∷ l) (remove-missing test es none) ] none

pub refilled-requires : goal.refilled-requires
refilled-requires g c =
    let ps = c.args.tree.now.entries in
    let test = is_at (g.K.Ord.cmp c.args.key.now) in
    named_at g.met.K.Ord.total c.args.key.now (slots ps) c.get.result.now.slot c.requires.named
    (lookup-each slot_of test ps ∙ ap (option_map slot_of)
    (ap (λ k. lookup (is_at (g.K.Ord.cmp k)) ps) (sym c.in_ok-name.ensures.same) ∙ sym c.in_ok-entry.ensures.value ∙ ap entry_value c.in-Occupied.is ∙ c.get.ensures))

pub returns-in_ok-place-in-Occupied-clause-ok : goal.returns-in_ok-place-in-Occupied-clause-ok
returns-in_ok-place-in-Occupied-clause-ok g c =
    let cmp = g.K.Ord.cmp in
    let ps = c.args.tree.now.entries in
    let k = c.args.key.now in
    let same = c.in_ok-name.ensures.same in
    let found = ap (λ k. lookup (is_at (cmp k)) ps) (sym same) ∙ sym c.in_ok-entry.ensures.value ∙ ap entry_value c.in-Occupied.is in
    let place = c.in_ok-place-in-Occupied.place in
    exchanged-found g.met.K.Ord.total ps k c.in_ok-entry.ensures.ordered c.args.touched.now.entries c.requires.named c.requires.stamped c.args.value c.tree-in-Occupied-1.given.0.entries place
    (ap (λ m. m.entries) (c.tree-in-Occupied-1.given.1 (sym c.in_ok-entry.ensures.same_map ∙ ap (λ e. (entry_map_ref e).ghost_name) c.in-Occupied.is ∙ sym c.insert-before.ensures.written.0))
    ∙ ap (λ m. m.entries) c.insert-before.ensures.written.1 ∙ ap (λ e. (map_with_value e place).entries) (sym c.in-Occupied.is) ∙ c.in_ok-entry.ensures.update.1 place ∙ ap (λ k. insert_entry cmp ps k place) same)
    c.in_ok-place-in-Occupied.ensures.named c.key.result.now c.get.result.now
    (ap (λ k. lookup_key (is_at (cmp k)) ps) (sym same)
    ∙ (subst (λ e. MatchEntry e (ContainsKey cmp c.args.tree.now c.in_ok-name.name × (get_key cmp c.args.tree.now c.in_ok-name.name ≡ Some (entry_key e))) (get cmp c.args.tree.now c.in_ok-name.name ≡ None)) c.in-Occupied.is c.in_ok-entry.ensures.found).1
    ∙ ap (λ n. Some n) (sym c.key.ensures))
    (found ∙ c.get.ensures) c.in_ok-place-in-Occupied.ensures.shows c.in_ok-place-in-Occupied.ensures.stamp
    c.insert-before.result.slot (ap slot_or (sym (found ∙ c.insert-before.ensures.old)))

pub returns-in_ok-place-in-Occupied-clause-listed : goal.returns-in_ok-place-in-Occupied-clause-listed
returns-in_ok-place-in-Occupied-clause-listed g c =
    let cmp = g.K.Ord.cmp in
    let ps = c.args.tree.now.entries in
    let k = c.args.key.now in
    let same = c.in_ok-name.ensures.same in
    let found = ap (λ k. lookup (is_at (cmp k)) ps) (sym same) ∙ sym c.in_ok-entry.ensures.value ∙ ap entry_value c.in-Occupied.is in
    listed-found g.met.K.Ord.total ps k c.in_ok-entry.ensures.ordered c.args.touched.now.entries c.key.result.now c.get.result.now c.requires.named c.requires.stamped
    (ap (λ k. lookup_key (is_at (cmp k)) ps) (sym same)
    ∙ (subst (λ e. MatchEntry e (ContainsKey cmp c.args.tree.now c.in_ok-name.name × (get_key cmp c.args.tree.now c.in_ok-name.name ≡ Some (entry_key e))) (get cmp c.args.tree.now c.in_ok-name.name ≡ None)) c.in-Occupied.is c.in_ok-entry.ensures.found).1
    ∙ ap (λ n. Some n) (sym c.key.ensures))
    (found ∙ c.get.ensures) g.K.PartialEq.eq g.met.K.Ord.matches_eq c.args.touched.now c.refilled.new.touched.entries refl c.in_ok-place-in-Occupied.ensures.listed

pub returns-in-Ok-clause-ok : goal.returns-in-Ok-clause-ok
returns-in-Ok-clause-ok g c =
    let cmp = g.K.Ord.cmp in
    let ps = c.args.tree.now.entries in
    let k = c.args.key.now in
    let same = c.in_ok-name.ensures.same in
    let missed = ap (λ k. lookup (is_at (cmp k)) ps) (sym same)
    ∙ subst (λ e. MatchEntry e (ContainsKey cmp c.args.tree.now c.in_ok-name.name × (get_key cmp c.args.tree.now c.in_ok-name.name ≡ Some (entry_key e))) (get cmp c.args.tree.now c.in_ok-name.name ≡ None)) c.in-Vacant.is c.in_ok-entry.ensures.found in
    let place = c.fresh.result in
    exchanged-new g.met.K.Ord.total ps k c.in_ok-entry.ensures.ordered c.args.touched.now.entries c.requires.named c.requires.stamped c.args.value c.tree-in-Ok-1.given.0.entries place
    (ap (λ m. m.entries) (c.tree-in-Ok-1.given.1 (sym c.in_ok-entry.ensures.same_map ∙ ap (λ e. (entry_map_ref e).ghost_name) c.in-Vacant.is ∙ sym c.insert_entry-new.ensures.0))
    ∙ ap (λ m. m.entries) c.insert_entry-new.ensures.1 ∙ ap (λ e. (map_with_value e place).entries) (sym c.in-Vacant.is) ∙ c.in_ok-entry.ensures.update.1 place ∙ ap (λ k. insert_entry cmp ps k place) same)
    (c.fresh.ensures.named cmp k) missed c.fresh.ensures.slot (c.fresh.ensures.stamp ∙ c.len.ensures.len) _ (ap slot_or (sym missed))

pub returns-in-Ok-clause-listed : goal.returns-in-Ok-clause-listed
returns-in-Ok-clause-listed g c =
    let cmp = g.K.Ord.cmp in
    let ps = c.args.tree.now.entries in
    let k = c.args.key.now in
    let same = c.in_ok-name.ensures.same in
    let missed = ap (λ k. lookup (is_at (cmp k)) ps) (sym same)
    ∙ subst (λ e. MatchEntry e (ContainsKey cmp c.args.tree.now c.in_ok-name.name × (get_key cmp c.args.tree.now c.in_ok-name.name ≡ Some (entry_key e))) (get cmp c.args.tree.now c.in_ok-name.name ≡ None)) c.in-Vacant.is c.in_ok-entry.ensures.found in
    listed-new g.met.K.Ord.total ps k c.in_ok-entry.ensures.ordered c.args.touched.now.entries c.requires.named c.requires.stamped missed g.K.PartialEq.eq g.met.K.Ord.matches_eq c.args.touched.now c.enter.new.touched.entries refl
    c.in-Ok.ensures.listed

pub returns-in-Err-clause-tree_err : goal.returns-in-Err-clause-tree_err
returns-in-Err-clause-tree_err g c =
    let cmp = g.K.Ord.cmp in
    let missed = subst (λ e. MatchEntry e (ContainsKey cmp c.args.tree.now c.in_ok-name.name × (get_key cmp c.args.tree.now c.in_ok-name.name ≡ Some (entry_key e))) (get cmp c.args.tree.now c.in_ok-name.name ≡ None)) c.in-Vacant.is c.in_ok-entry.ensures.found in
    ap (λ m. m.entries) (c.tree-in-Err-1.given.1 (sym c.in_ok-entry.ensures.same_map ∙ ap (λ e. (entry_map_ref e).ghost_name) c.in-Vacant.is ∙ sym c.insert_entry-new.ensures.0))
    ∙ c.remove.ensures.removed ∙ c.insert_entry-new.ensures.5 ∙ ap (λ e. (map_without_entry e).entries) (sym c.in-Vacant.is) ∙ c.in_ok-entry.ensures.removal.1
    ∙ remove-missing (is_at (cmp c.in_ok-name.name)) c.args.tree.now.entries missed
