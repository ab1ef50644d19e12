use Rattle.std.proofs.Common.{◌≡◌, ◌∙◌, ◌==◌, true, false, [], ◌∷◌, ◌++◌, Some, None, refl, ap, sym, subst, arith, Result, Ok, Err, OnOk, option_map, option_copied}
use Rattle.std.{specs.Prelude.⊤, proofs.lemmas.Bool.Decides.nat_tests}
use Rattle.base_types.specs.declared.status.BondStatus.TheVariants.{Unbonded}
use Rattle.base_roles.specs.{declared.entities.Validator.Validator, Ground.seen, Hooks.Stand}
use Rattle.base_roles.{specs.Staked.{validator_at, put_validator, lists_of}, proofs.HookLemmas.stand-noted}
use Rattle.base_roles.specs.declared.facts.Fact.TheVariants as fact
use Rattle.rule_modules.{proofs.SoundLemmas.found_itself, specs.{Answers.Leaves, BondedSet.matured}}
use Rattle.mod_staking.{specs.Calls.{with_if, behind_log}, proofs.GroundLemmas.{keeps-noted, keeps_then}}
use Rattle.mod_staking.proofs.{IndexLemmas.keyed_found, ListLemmas.lists-put}
use Rattle.mod_bonded_set.{specs.Sets.is_due, proofs.{DueLemmas.some_same, JoinLemmas.nothing_kept}}
use Rattle.mod_bonded_set.proofs.MatureLemmas.{unbonded, unbonded_told, leaves-kept, leaves-removed}
use Rattle.mod_bonded_set.proofs.StakeLemmas.{sound_keyed}
use Rattle.mod_bonded_set.proofs.maturing.mature.Goals as goal

-- what follows of a call that answered Ok
where_ok : {E : Type 0} (r : Result ⊤ E) (P Q : Type 0) → (P → Q) → OnOk r P → OnOk r Q
where_ok (Ok done) P Q f p = f p
where_ok (Err fault) P Q f p = tt

pub remove_validator-requires-clause-known : goal.remove_validator-requires-clause-known
remove_validator-requires-clause-known g c =
    let s = c.args.staking.now.staked in
    let o = c.args.operator.now in
    let v = c.unwrap-v.result.now in
    let s2 = c.set_status.new.self.staked in
    let u = seen g.B.Bank.holdings c.args.g.now in
    let found : validator_at s o ≡ Some v = sym c.validator.ensures.value ∙ ap option_copied c.unwrap-v.ensures in
    let own : v.operator ≡ o = keyed_found s.validators o v (sound_keyed s c.requires.hooked.sound) found in
    let at_own : validator_at s v.operator ≡ Some v = ap (validator_at s) own ∙ found in
    let put : s2 ≡ put_validator (unbonded v) s = c.in_ok-set_status.ensures.changed ∙ ap (λ x. with_if (option_map (λ (w : Validator). record w { status = Unbonded; unbonding_height = v.unbonding_height; unbonding_time = v.unbonding_time }) x) s) found in
    let facts = c.in_ok-set_status.ensures.told ∙ ap (λ p. u.facts ++ fact.Changed p Unbonded ∷ []) (sym own) in
    let u2 = record u { facts = c.set_status.new.facts } in
    let ground : u2 ≡ unbonded_told v u = λ i. record u { facts = facts i } in
    let t = g.H.StakingHooks.tells in
    let lists : lists_of s2 ≡ lists_of s = ap lists_of put ∙ lists-put s (unbonded v) v at_own in
    let none : v.shares ≡ 0 = cc in
    let at : validator_at s2 o ≡ Some (unbonded v) = ap (λ x. validator_at x o) put ∙ ap (validator_at (put_validator (unbonded v) s)) (sym own) ∙ found_itself s (unbonded v) in
    (unbonded v, (at, none, refl))

pub remove_validator-requires-clause-hooked : goal.remove_validator-requires-clause-hooked
remove_validator-requires-clause-hooked g c =
    let s = c.args.staking.now.staked in
    let o = c.args.operator.now in
    let v = c.unwrap-v.result.now in
    let s2 = c.set_status.new.self.staked in
    let u = seen g.B.Bank.holdings c.args.g.now in
    let found : validator_at s o ≡ Some v = sym c.validator.ensures.value ∙ ap option_copied c.unwrap-v.ensures in
    let own : v.operator ≡ o = keyed_found s.validators o v (sound_keyed s c.requires.hooked.sound) found in
    let at_own : validator_at s v.operator ≡ Some v = ap (validator_at s) own ∙ found in
    let put : s2 ≡ put_validator (unbonded v) s = c.in_ok-set_status.ensures.changed ∙ ap (λ x. with_if (option_map (λ (w : Validator). record w { status = Unbonded; unbonding_height = v.unbonding_height; unbonding_time = v.unbonding_time }) x) s) found in
    let facts = c.in_ok-set_status.ensures.told ∙ ap (λ p. u.facts ++ fact.Changed p Unbonded ∷ []) (sym own) in
    let u2 = record u { facts = c.set_status.new.facts } in
    let ground : u2 ≡ unbonded_told v u = λ i. record u { facts = facts i } in
    let t = g.H.StakingHooks.tells in
    let lists : lists_of s2 ≡ lists_of s = ap lists_of put ∙ lists-put s (unbonded v) v at_own in
    let stand2 = subst (Stand t c.requires.hooked.stand.0 u2) (sym lists) (stand-noted t c.requires.hooked.stand.0 u c.set_status.new.facts (lists_of s) c.requires.hooked.stand.1.1) in
    record { sound = c.in_ok-set_status.ensures.sound; stand = (c.requires.hooked.stand.0, (c.requires.hooked.stand.1.0, stand2)) }

pub returns-then-raw-eq0-clause-told : goal.returns-then-raw-eq0-clause-told
returns-then-raw-eq0-clause-told g c = λ h held log x at.
    let s = c.args.staking.now.staked in
    let o = c.args.operator.now in
    let v = c.unwrap-v.result.now in
    let s2 = c.set_status.new.self.staked in
    let u = seen g.B.Bank.holdings c.args.g.now in
    let found : validator_at s o ≡ Some v = sym c.validator.ensures.value ∙ ap option_copied c.unwrap-v.ensures in
    let own : v.operator ≡ o = keyed_found s.validators o v (sound_keyed s c.requires.hooked.sound) found in
    let at_own : validator_at s v.operator ≡ Some v = ap (validator_at s) own ∙ found in
    let put : s2 ≡ put_validator (unbonded v) s = c.in_ok-set_status.ensures.changed ∙ ap (λ x. with_if (option_map (λ (w : Validator). record w { status = Unbonded; unbonding_height = v.unbonding_height; unbonding_time = v.unbonding_time }) x) s) found in
    let facts = c.in_ok-set_status.ensures.told ∙ ap (λ p. u.facts ++ fact.Changed p Unbonded ∷ []) (sym own) in
    let u2 = record u { facts = c.set_status.new.facts } in
    let ground : u2 ≡ unbonded_told v u = λ i. record u { facts = facts i } in
    let t = g.H.StakingHooks.tells in
    let lists : lists_of s2 ≡ lists_of s = ap lists_of put ∙ lists-put s (unbonded v) v at_own in
    let due = ap (λ (x : Validator). is_due c.args.g.now.ctx.time x) (some_same c.requires.stands.0 v (sym c.requires.stands.1.0 ∙ found)) in
    let is : is_due u.ctx.time v ≡ true = sym due ∙ c.requires.stands.1.1 in
    let zero : v.shares ≡ 0 = cc in
    let none : (v.shares == 0) ≡ true = grind (arith, nat_tests, zero) in
    let there : validator_at s2 o ≡ Some (unbonded v) = ap (λ y. validator_at y o) put ∙ ap (validator_at (put_validator (unbonded v) s)) (sym own) ∙ found_itself s (unbonded v) in
    let same : v ≡ x = some_same v x (sym found ∙ at) in
    let holds = g.H.StakingHooks.holds c.remove_validator.new.hooks in
    let u3 = seen g.B.Bank.holdings c.remove_validator.new.g in
    subst (λ y. Leaves (matured t.told y (behind_log log s h u)) c.remove_validator.new.self.staked holds u3 c.remove_validator.result) same
    (leaves-removed t.told v log h s u is s2 c.remove_validator.new.self.staked holds u2 u3 c.remove_validator.result none put ground (c.remove_validator.ensures.told h held (unbonded v) there))

pub returns-then-raw-eq0-clause-sure : goal.returns-then-raw-eq0-clause-sure
returns-then-raw-eq0-clause-sure g c = λ h held stand sure.
    let s = c.args.staking.now.staked in
    let o = c.args.operator.now in
    let v = c.unwrap-v.result.now in
    let s2 = c.set_status.new.self.staked in
    let u = seen g.B.Bank.holdings c.args.g.now in
    let found : validator_at s o ≡ Some v = sym c.validator.ensures.value ∙ ap option_copied c.unwrap-v.ensures in
    let own : v.operator ≡ o = keyed_found s.validators o v (sound_keyed s c.requires.hooked.sound) found in
    let at_own : validator_at s v.operator ≡ Some v = ap (validator_at s) own ∙ found in
    let put : s2 ≡ put_validator (unbonded v) s = c.in_ok-set_status.ensures.changed ∙ ap (λ x. with_if (option_map (λ (w : Validator). record w { status = Unbonded; unbonding_height = v.unbonding_height; unbonding_time = v.unbonding_time }) x) s) found in
    let facts = c.in_ok-set_status.ensures.told ∙ ap (λ p. u.facts ++ fact.Changed p Unbonded ∷ []) (sym own) in
    let u2 = record u { facts = c.set_status.new.facts } in
    let ground : u2 ≡ unbonded_told v u = λ i. record u { facts = facts i } in
    let t = g.H.StakingHooks.tells in
    let lists : lists_of s2 ≡ lists_of s = ap lists_of put ∙ lists-put s (unbonded v) v at_own in
    let stand2 = subst (Stand t h u2) (sym lists) (stand-noted t h u c.set_status.new.facts (lists_of s) stand) in
    c.remove_validator.ensures.sure h held stand2 sure

pub returns-then-raw-eq0-clause-keeps : goal.returns-then-raw-eq0-clause-keeps
returns-then-raw-eq0-clause-keeps g c = λ h held stand.
    let s = c.args.staking.now.staked in
    let o = c.args.operator.now in
    let v = c.unwrap-v.result.now in
    let s2 = c.set_status.new.self.staked in
    let u = seen g.B.Bank.holdings c.args.g.now in
    let found : validator_at s o ≡ Some v = sym c.validator.ensures.value ∙ ap option_copied c.unwrap-v.ensures in
    let own : v.operator ≡ o = keyed_found s.validators o v (sound_keyed s c.requires.hooked.sound) found in
    let at_own : validator_at s v.operator ≡ Some v = ap (validator_at s) own ∙ found in
    let put : s2 ≡ put_validator (unbonded v) s = c.in_ok-set_status.ensures.changed ∙ ap (λ x. with_if (option_map (λ (w : Validator). record w { status = Unbonded; unbonding_height = v.unbonding_height; unbonding_time = v.unbonding_time }) x) s) found in
    let facts = c.in_ok-set_status.ensures.told ∙ ap (λ p. u.facts ++ fact.Changed p Unbonded ∷ []) (sym own) in
    let u2 = record u { facts = c.set_status.new.facts } in
    let ground : u2 ≡ unbonded_told v u = λ i. record u { facts = facts i } in
    let t = g.H.StakingHooks.tells in
    let lists : lists_of s2 ≡ lists_of s = ap lists_of put ∙ lists-put s (unbonded v) v at_own in
    let stand2 = subst (Stand t h u2) (sym lists) (stand-noted t h u c.set_status.new.facts (lists_of s) stand) in
    let first = keeps-noted (t.owes h ≡ None) u u (fact.Changed o Unbonded) c.set_status.new.facts c.in_ok-set_status.ensures.told (nothing_kept (t.owes h ≡ None) u) in
    where_ok c.remove_validator.result _ _ (λ k. keeps_then (t.owes h ≡ None) (t.owes h ≡ None) u u2 (seen g.B.Bank.holdings c.remove_validator.new.g) (λ n. n) first k) (c.remove_validator.ensures.keeps h held stand2)

pub returns-clause-told : goal.returns-clause-told
returns-clause-told g c = λ h held log x at.
    let s = c.args.staking.now.staked in
    let o = c.args.operator.now in
    let v = c.unwrap-v.result.now in
    let s2 = c.set_status.new.self.staked in
    let u = seen g.B.Bank.holdings c.args.g.now in
    let found : validator_at s o ≡ Some v = sym c.validator.ensures.value ∙ ap option_copied c.unwrap-v.ensures in
    let own : v.operator ≡ o = keyed_found s.validators o v (sound_keyed s c.requires.hooked.sound) found in
    let at_own : validator_at s v.operator ≡ Some v = ap (validator_at s) own ∙ found in
    let put : s2 ≡ put_validator (unbonded v) s = c.in_ok-set_status.ensures.changed ∙ ap (λ x. with_if (option_map (λ (w : Validator). record w { status = Unbonded; unbonding_height = v.unbonding_height; unbonding_time = v.unbonding_time }) x) s) found in
    let facts = c.in_ok-set_status.ensures.told ∙ ap (λ p. u.facts ++ fact.Changed p Unbonded ∷ []) (sym own) in
    let u2 = record u { facts = c.set_status.new.facts } in
    let ground : u2 ≡ unbonded_told v u = λ i. record u { facts = facts i } in
    let t = g.H.StakingHooks.tells in
    let lists : lists_of s2 ≡ lists_of s = ap lists_of put ∙ lists-put s (unbonded v) v at_own in
    let due = ap (λ (x : Validator). is_due c.args.g.now.ctx.time x) (some_same c.requires.stands.0 v (sym c.requires.stands.1.0 ∙ found)) in
    let is : is_due u.ctx.time v ≡ true = sym due ∙ c.requires.stands.1.1 in
    let is_raw = c.raw.ensures.value in
    let other = c.if-raw-eq0.false in
    let some : (v.shares == 0) ≡ false = grind (arith, nat_tests, is_raw, other) in
    let same : v ≡ x = some_same v x (sym found ∙ at) in
    let holds = g.H.StakingHooks.holds c.args.hooks.now in
    subst (λ y. Leaves (matured t.told y (behind_log log s h u)) s2 holds u2 (Ok tt)) same (leaves-kept t.told v log h s u is s2 holds u2 some put ground held)

pub returns-clause-hooked : goal.returns-clause-hooked
returns-clause-hooked g c =
    let s = c.args.staking.now.staked in
    let o = c.args.operator.now in
    let v = c.unwrap-v.result.now in
    let s2 = c.set_status.new.self.staked in
    let u = seen g.B.Bank.holdings c.args.g.now in
    let found : validator_at s o ≡ Some v = sym c.validator.ensures.value ∙ ap option_copied c.unwrap-v.ensures in
    let own : v.operator ≡ o = keyed_found s.validators o v (sound_keyed s c.requires.hooked.sound) found in
    let at_own : validator_at s v.operator ≡ Some v = ap (validator_at s) own ∙ found in
    let put : s2 ≡ put_validator (unbonded v) s = c.in_ok-set_status.ensures.changed ∙ ap (λ x. with_if (option_map (λ (w : Validator). record w { status = Unbonded; unbonding_height = v.unbonding_height; unbonding_time = v.unbonding_time }) x) s) found in
    let facts = c.in_ok-set_status.ensures.told ∙ ap (λ p. u.facts ++ fact.Changed p Unbonded ∷ []) (sym own) in
    let u2 = record u { facts = c.set_status.new.facts } in
    let ground : u2 ≡ unbonded_told v u = λ i. record u { facts = facts i } in
    let t = g.H.StakingHooks.tells in
    let lists : lists_of s2 ≡ lists_of s = ap lists_of put ∙ lists-put s (unbonded v) v at_own in
    let stand2 = subst (Stand t c.requires.hooked.stand.0 u2) (sym lists) (stand-noted t c.requires.hooked.stand.0 u c.set_status.new.facts (lists_of s) c.requires.hooked.stand.1.1) in
    record { sound = c.in_ok-set_status.ensures.sound; stand = (c.requires.hooked.stand.0, (c.requires.hooked.stand.1.0, stand2)) }

pub returns-then-raw-eq0-clause-cost : goal.returns-then-raw-eq0-clause-cost
returns-then-raw-eq0-clause-cost g c = λ x at some.
    let found : validator_at c.args.staking.now.staked c.args.operator.now ≡ Some c.unwrap-v.result.now = sym c.validator.ensures.value ∙ ap option_copied c.unwrap-v.ensures in
    let zero : c.unwrap-v.result.now.shares ≡ 0 = cc in
    let none : (c.unwrap-v.result.now.shares == 0) ≡ true = grind (arith, nat_tests, zero) in
    let clash : true ≡ false = sym none ∙ ap (λ (v : Validator). v.shares == 0) (some_same c.unwrap-v.result.now x (sym found ∙ at)) ∙ some in
    absurd cc
