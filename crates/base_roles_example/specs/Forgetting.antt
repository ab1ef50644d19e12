-- What hooks tell that keep less than their plain value has, and that they are lawful.
use Rattle.std.specs.Prelude.{◌≡◌, ℕ, ◌≤◌, List, [], ◌∷◌, refl, None, true, false}
use Rattle.std.proofs.Common.{subst, arith}
use Rattle.base_roles.specs.declared.facts.Fact.TheVariants.{Started}
use Rattle.base_roles.specs.Ground.{IsInOrder}
use Rattle.base_roles.specs.Hooks.{Tells, Keeps, Lawful}
use Rattle.base_roles.specs.Log.{Log}
use Rattle.base_roles.specs.NoHooks.{Keeps-same}
use Rattle.base_roles.specs.World.{View, gives, noted}
use Rattle.base_roles.specs.declared.calls.Hook.{Hook}
use Rattle.base_roles.specs.declared.calls.Hook.TheVariants.{Created as created, Removed as removed, Bonded as bonded, Starting as starting, Modifying as modifying, Modified as modified, Slashing as slashing}

-- the latest height, and 0 where there is none
abbrev pub latest : List ℕ → ℕ
latest [] = 0
latest (n ∷ ns) = n

-- the heights at which validators were bonded, after a hook
abbrev pub heights_after : List ℕ → Hook → View → List ℕ
heights_after ns (created v) u = ns
heights_after ns (removed v) u = ns
heights_after ns (bonded v) u = u.ctx.height ∷ ns
heights_after ns (starting v delegator) u = ns
heights_after ns (modifying v delegator shares) u = ns
heights_after ns (modified v delegator shares) u = ns
heights_after ns (slashing v fraction) u = ns

-- the ground after a hook: the start of a delegation is told, with the latest height
abbrev pub view_after : List ℕ → Hook → View → View
view_after ns (created v) u = u
view_after ns (removed v) u = u
view_after ns (bonded v) u = u
view_after ns (starting v delegator) u = noted (Started delegator v.operator (latest ns) v.shares) u
view_after ns (modifying v delegator shares) u = u
view_after ns (modified v delegator shares) u = u
view_after ns (slashing v fraction) u = u

abbrev pub forgetting_tells : Tells (List ℕ)
forgetting_tells = record {
  told = λ ns h u. gives (heights_after ns h u) (view_after ns h u) [];
  stands = λ ns l. Unit {0};
  owes = λ ns. None;
  height = latest;
  quiet = λ ns. false;
  sure = λ ns. true;
  most_steps = λ ns. 0;
}

keeps_after : {N : Type 0} (ns : List ℕ) (h : Hook) (u : View) → Keeps N u (view_after ns h u)
keeps_after ns (created v) u = Keeps-same u
keeps_after ns (removed v) u = Keeps-same u
keeps_after ns (bonded v) u = Keeps-same u
keeps_after ns (starting v delegator) u = record { ctx = refl; supplies = refl; bonded = λ d. refl; not_bonded = λ d. refl; fee_collector = λ d. refl; distribution = λ n d. refl; facts = (Started delegator v.operator (latest ns) v.shares ∷ [], refl) }
keeps_after ns (modifying v delegator shares) u = Keeps-same u
keeps_after ns (modified v delegator shares) u = Keeps-same u
keeps_after ns (slashing v fraction) u = Keeps-same u

late_after : (ns : List ℕ) (h : Hook) (u : View) → latest ns ≤ u.ctx.height → latest (heights_after ns h u) ≤ (view_after ns h u).ctx.height
late_after ns (created v) u p = p
late_after ns (removed v) u p = p
late_after ns (bonded v) u p = omega arith
late_after ns (starting v delegator) u p = p
late_after ns (modifying v delegator shares) u p = p
late_after ns (modified v delegator shares) u p = p
late_after ns (slashing v fraction) u p = p

in_order_after : (ns : List ℕ) (h : Hook) (u : View) → IsInOrder u → IsInOrder (view_after ns h u)
in_order_after ns (created v) u i = i
in_order_after ns (removed v) u i = i
in_order_after ns (bonded v) u i = i
in_order_after ns (starting v delegator) u i = record { params = i.params; time = i.time; height = i.height; bank = i.bank }
in_order_after ns (modifying v delegator shares) u i = i
in_order_after ns (modified v delegator shares) u i = i
in_order_after ns (slashing v fraction) u i = i

given_heights : (s s2 : List ℕ) (v v2 : View) (k log : Log) → gives s v k ≡ gives s2 v2 log → s ≡ s2
given_heights s s2 v v2 k log e = cc

given_view : (s s2 : List ℕ) (v v2 : View) (k log : Log) → gives s v k ≡ gives s2 v2 log → v ≡ v2
given_view s s2 v v2 k log e = cc

never : {A : Type 0} → false ≡ true → A
never e = absurd cc

pub forgetting_lawful : Lawful forgetting_tells
forgetting_lawful = record {
  keeps = λ s s2 h v v2 log l r e. subst (λ w. Keeps (forgetting_tells.owes s ≡ None) v w) (given_view _ s2 _ v2 [] log e) (keeps_after s h v);
  follows = λ s s2 h v v2 log l r e. record {
    lists = tt;
    owed = tt;
    late = subst (λ w. latest s2 ≤ w.ctx.height) (given_view _ s2 _ v2 [] log e) (subst (λ ns. latest ns ≤ (view_after s h v).ctx.height) (given_heights _ s2 _ v2 [] log e) (late_after s h v r.stand.late));
    in_order = subst IsInOrder (given_view _ s2 _ v2 [] log e) (in_order_after s h v r.stand.in_order);
  };
  owes_nothing = λ s s2 h v v2 log n e. refl;
  quiet_call = λ s h v q. never q;
  quiet_stands = λ s l q. tt;
  quiet_owes = λ s q. refl;
  quiet_height = λ s q. never q;
  quiet_sure = λ s q. refl;
  quiet_steps = λ s q. refl;
  sure_bonded = λ s x v l q r. (v.ctx.height ∷ s, (v, ([], refl)));
  sure_removed = λ s x v l q r. (s, (v, ([], refl)));
  quiet_stays = λ s s2 h v v2 log e. refl;
  sure_stays = λ s s2 h v v2 log e. refl;
  steps_stay = λ s s2 h v v2 log e. refl;
}
