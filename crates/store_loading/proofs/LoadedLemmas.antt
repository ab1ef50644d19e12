-- Modules that were filled are those of the records.
use Rattle.std.proofs.Common.{◌≡◌, [], map, sym, ap, subst, IfOk, OnOk, Result, Ok, Err}
use Rattle.std.specs.Prelude.{⊤}
use Rattle.base_roles.specs.{declared.{faults.RecordFault.RecordFault, params.Ctx.Ctx}, Items.key_of}
use Rattle.base_records.proofs.MemberLemmas.{once}
use Rattle.mod_distribution.specs.Items as distr
use Rattle.chain_modules.specs.{declared.modules.Modules.Modules, Kept.{AreSet, IsNewOver, kept_of, parts_of}}
use Rattle.chain_modules.specs.Marks.{marks_of, no_marks, settled_of}
use Rattle.store_records.{specs.Plain.{AreAscending, PlainSeen, listed}, proofs.OnceLaws.listed_once}
use Rattle.store_loading.specs.Loaded.{AreLoaded, AreUnspent, HaveOwnKeys, HoldItems, empty_ground, plain_in}
use Rattle.store_loading.proofs.FillLemmas.{keep_just}

-- the items of records have keys of their own
pub own_keys : (r : PlainSeen) → AreAscending r.lists → HaveOwnKeys (listed r)
own_keys r up = once (map key_of (listed r)) (listed_once r up)

-- modules are new over their own context
pub new_here : {E : Type 0} (ctx : Ctx) (m : Modules E) → IsNewOver (empty_ground ctx) m → IsNewOver (empty_ground m.ground.ctx) m
new_here ctx m new = subst (λ x. IsNewOver (empty_ground x) m) (sym (ap (λ g. g.ctx) new.ground)) new

-- Modules that have just the items of records are loaded from them.
pub are_loaded : {E : Type 0} (r : PlainSeen) (m : Modules E) → AreAscending r.lists → AreAscending (plain_in (kept_of m)).lists → distr.AreInOrder (kept_of m).shared → HoldItems (listed r) (kept_of m)
    → m.ground.ctx ≡ r.ctx → m.ground.facts ≡ [] → settled_of m ≡ parts_of m → marks_of m ≡ no_marks → AreUnspent m → AreSet m → AreLoaded r m
are_loaded r m up up2 order holds ctx facts settled unmarked unspent power = record {
  kept = keep_just r (kept_of m) up up2 holds ctx facts;
  power = power;
  unmarked = unmarked;
  settled = settled;
  order = subst (λ parts. distr.AreInOrder parts.shared) (sym settled) order;
  unspent = unspent;
}

-- what was filled is the answer
pub answered : {E : Type 0} (r : PlainSeen) (m : Modules E) (filled : Result ⊤ RecordFault) (answer : Result (Modules E) RecordFault) → IfOk answer (λ same. same ≡ m) → IfOk answer (λ _. filled ≡ Ok tt)
    → OnOk filled (AreLoaded r m) → IfOk answer (AreLoaded r)
answered r m filled (Ok x) same ok loaded = subst (AreLoaded r) (sym same) (subst (λ f. OnOk f (AreLoaded r m)) ok loaded)
answered r m filled (Err fault) same ok loaded = tt
