-- Parameters that change: what holds where they may, what refuses where they may not, and what stays.
use Rattle.std.proofs.Common.{◌≡◌, ℕ, ◌≤◌, Bool, true, false, List, [], ◌∷◌, length, Option, Some, None, refl, ap, arith, ◌==◌, not, option_map, min, take, map, if◌then◌else◌, IfOk, Ok, length-take}
use Rattle.std.{specs.{BTreeMap.is_at, Map.keys_of}, proofs.lemmas.Bool.Decides.nat_tests}
use Rattle.base_types.specs.Orders.{cons_cmp, denom_cmp}
use Rattle.base_coins.proofs.{Amounts.is_equal, Order.same_name}
use Rattle.base_roles.specs.declared.params.Params.{Params}
use Rattle.base_roles.specs.declared.refusal.Refusal.TheVariants.{NotAuthority, ParamRange, ParamFixed}
use Rattle.base_roles.specs.{Flow.{◌>>◌, stop_if}, Orders.same_addr, Ranges.{out_of_range, unless}}
use Rattle.base_roles.proofs.RangeLemmas.{unless_none}
use Rattle.rule_modules.specs.{Chain.State, Conditions.{when, first_of}}
use Rattle.rule_modules.specs.Parameters.{fixed_changed, may_update, refused_for, update_params, with_updated}
use Rattle.rule_modules.specs.RefusalOrder.{refused_in, refusal_of, against_update}
use Rattle.rule_modules.specs.Window.{Signing, Window, signing_of, votes_kept, window_resized}

-- ---- the message

-- what holds of the state that is due where the parameters are in their ranges and none changes that never does, holds after it
pub on_update : (authority : List ℕ) (p : Params) (w : State) (Q : State → Type 0) → (out_of_range p ≡ None → fixed_changed w.view.ctx.params p ≡ None → Q (with_updated authority p w)) → IfOk (update_params authority p w) Q
on_update authority p w Q h = by (not (same_addr authority w.view.ctx.params.authority)) (out_of_range p) refl (fixed_changed w.view.ctx.params p) refl
  where
    by : (b : Bool) (r : Option ℕ) → out_of_range p ≡ r → (f : Option ℕ) → fixed_changed w.view.ctx.params p ≡ f
        → IfOk ((stop_if b NotAuthority >> (refused_for ParamRange r >> refused_for ParamFixed f)) >> Ok (with_updated authority p w)) Q
    by true r e f g = tt
    by false (Some n) e f g = tt
    by false None e (Some n) g = tt
    by false None e None g = h e g

-- so it is where nothing refuses
pub let_in : (authority : List ℕ) (old new : Params) → may_update authority old new ≡ Ok tt → (out_of_range new ≡ None) × (fixed_changed old new ≡ None)
let_in authority old new e = by (not (same_addr authority old.authority)) (out_of_range new) refl (fixed_changed old new) refl e
  where
    by : (b : Bool) (r : Option ℕ) → out_of_range new ≡ r → (f : Option ℕ) → fixed_changed old new ≡ f → (stop_if b NotAuthority >> (refused_for ParamRange r >> refused_for ParamFixed f)) ≡ Ok tt
        → (out_of_range new ≡ None) × (fixed_changed old new ≡ None)
    by true r e f g h = absurd cc
    by false (Some n) e f g h = absurd cc
    by false None e (Some n) g h = absurd cc
    by false None e None g h = (e, g)

pub updates_refused : (authority : List ℕ) (p : Params) (w : State) → refusal_of (update_params authority p) w ≡ first_of (against_update authority p w)
updates_refused authority p w = by (not (same_addr authority w.view.ctx.params.authority)) (out_of_range p) (fixed_changed w.view.ctx.params p)
  where
    by : (b : Bool) (r f : Option ℕ) → refused_in ((stop_if b NotAuthority >> (refused_for ParamRange r >> refused_for ParamFixed f)) >> Ok (with_updated authority p w))
        ≡ first_of (when b NotAuthority ∷ option_map ParamRange r ∷ option_map ParamFixed f ∷ [])
    by true r f = refl
    by false (Some n) f = refl
    by false None (Some n) = refl
    by false None None = refl

-- ---- what never changes

-- where none changes that never does, the denomination is the same, and a unit of power is as many tokens
pub fixed_same : (old new : Params) → fixed_changed old new ≡ None → (old.bond_denom ≡ new.bond_denom) × (old.power_reduction ≡ new.power_reduction)
fixed_same old new e =
    let one = unless_none (is_at (denom_cmp old.bond_denom) new.bond_denom) 10 (unless (old.power_reduction == new.power_reduction) 11 ∷ []) e in
    let two = unless_none (old.power_reduction == new.power_reduction) 11 [] one.1 in
    (same_name old.bond_denom new.bond_denom (is_equal old.bond_denom new.bond_denom one.0), same old.power_reduction new.power_reduction two.0)
  where
    same : (a b : ℕ) → (a == b) ≡ true → a ≡ b
    same a b h = grind (arith, nat_tests)

-- ---- signing records

-- a record, resized or not
abbrev pub one_resized : ℕ → ℕ → Signing → Signing
one_resized old new s = if old == new then s else votes_kept (min old new) s

-- the records are resized one by one
pub resized_each : (old new : ℕ) (i : Window) → window_resized old new i ≡ map (λ e. (e.0, one_resized old new e.1)) i
resized_each old new i = by (old == new)
  where
    stays : (j : Window) → j ≡ map (λ e. (e.0, e.1)) j
    stays [] = refl
    stays (e ∷ es) = ap (λ t. e ∷ t) (stays es)

    by : (b : Bool) → (if b then i else map (λ e. (e.0, votes_kept (min old new) e.1)) i) ≡ map (λ e. (e.0, (if b then e.1 else votes_kept (min old new) e.1))) i
    by true = stays i
    by false = refl

-- under the same keys
pub resized_keys : (f : Signing → Signing) (i : Window) → keys_of (map (λ e. (e.0, f e.1)) i) ≡ keys_of i
resized_keys f [] = refl
resized_keys f (e ∷ es) = ap (λ t. e.0 ∷ t) (resized_keys f es)

pub resized_at : (f : Signing → Signing) (i : Window) (cons : List ℕ) → signing_of (map (λ e. (e.0, f e.1)) i) cons ≡ option_map f (signing_of i cons)
resized_at f [] cons = refl
resized_at f (e ∷ es) cons = by (is_at (cons_cmp cons) e.0) (resized_at f es cons)
  where
    by : (b : Bool) → signing_of (map (λ x. (x.0, f x.1)) es) cons ≡ option_map f (signing_of es cons)
        → (if b then Some (f e.1) else signing_of (map (λ x. (x.0, f x.1)) es) cons) ≡ option_map f (if b then Some e.1 else signing_of es cons)
    by true h = refl
    by false h = h

-- of no record are more votes counted
pub resized_fewer : (old new : ℕ) (s : Signing) → length (one_resized old new s).votes ≤ length s.votes
resized_fewer old new s = by (old == new)
  where
    fewer : (n : ℕ) (votes : List Bool) → length (take n votes) ≤ length votes
    fewer n votes = omega (arith, length-take n votes)

    by : (b : Bool) → length (if b then s else votes_kept (min old new) s).votes ≤ length s.votes
    by true = omega arith
    by false = fewer (min old new) s.votes

-- and its start stays
pub same_start : (old new : ℕ) (s : Signing) → (one_resized old new s).start ≡ s.start
same_start old new s = by (old == new)
  where
    by : (b : Bool) → (if b then s else votes_kept (min old new) s).start ≡ s.start
    by true = refl
    by false = refl
