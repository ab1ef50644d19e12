-- Hooks that do nothing are lawful, and listen.
use Rattle.std.specs.Prelude.{◌≡◌, ℕ, [], refl, None, true, false, replicate}
use Rattle.std.proofs.Common.{subst, sym, ap, rules}
use Rattle.base_roles.specs.Extra.{Listens}
use Rattle.base_roles.specs.Ground.{IsInOrder}
use Rattle.base_roles.specs.Hooks.{Tells, Keeps, Lawful}
use Rattle.base_roles.specs.Log.{Log}
use Rattle.base_roles.specs.World.{View, Told, gives, exceeds}

pub Keeps-same : {N : Type 0} (v : View) → Keeps N v v
Keeps-same v = record { ctx = refl; supplies = refl; bonded = λ d. refl; not_bonded = λ d. refl; fee_collector = λ d. refl; distribution = λ n d. refl; facts = ([], search rules) }

pub Keeps-given : {S N : Type 0} (s s2 : S) (v v2 : View) (log log2 : Log) → gives s v log ≡ gives s2 v2 log2 → Keeps N v v2
Keeps-given {N = N} s s2 v v2 log log2 e = let h : v ≡ v2 = cc in subst (λ w. Keeps N v w) h (Keeps-same v)

-- what hooks tell that do nothing
abbrev pub nothing_told : Tells (Unit {0})
nothing_told = record {
  told = λ s h v. gives s v [];
  stands = λ s l. Unit {0};
  owes = λ s. None;
  height = λ s. 0;
  quiet = λ s. true;
  sure = λ s. true;
  most_steps = λ s. 0;
}

in_order_still : (v v2 : View) (s s2 : Unit {0}) (log log2 : Log) → gives s v log ≡ gives s2 v2 log2 → IsInOrder v → IsInOrder v2
in_order_still v v2 s s2 log log2 e i = let h : v ≡ v2 = cc in subst IsInOrder h i

pub nothing_lawful : Lawful nothing_told
nothing_lawful = record {
  keeps = λ s s2 h v v2 log l r e. Keeps-given s s2 v v2 [] log e;
  follows = λ s s2 h v v2 log l r e. record { lists = tt; owed = tt; late = search rules; in_order = in_order_still v v2 s s2 [] log e r.stand.in_order };
  owes_nothing = λ s s2 h v v2 log n e. refl;
  quiet_call = λ s h v q. (s, ([], refl));
  quiet_stands = λ s l q. tt;
  quiet_owes = λ s q. refl;
  quiet_height = λ s q. refl;
  quiet_sure = λ s q. refl;
  quiet_steps = λ s q. refl;
  sure_bonded = λ s x v l q r. (s, (v, ([], refl)));
  sure_removed = λ s x v l q r. (s, (v, ([], refl)));
  quiet_stays = λ s s2 h v v2 log e. refl;
  sure_stays = λ s s2 h v v2 log e. refl;
  steps_stay = λ s s2 h v v2 log e. refl;
}

-- what is logged of what is given
abbrev pub log_of : {S : Type 0} → Told S → Log
log_of (gives s v log) = log
log_of (exceeds over) = []

-- the laws of a listener that hears nothing, and keeps the number of its open marks alone
pub nothing_listens : {S : Type 0} {open_of : S → ℕ} → Listens {S = S} {H = Unit {0}} {M = ℕ} {K = Unit {0}} {P = Unit {0}} (λ _ _. Unit {0}) nothing_told open_of (λ _. tt) (λ s. replicate (open_of s) tt)
    (λ _. []) (λ _. false) (λ _. tt) (λ _ _ _. tt)
nothing_listens = record {
  quiet = λ h. refl;
  logs_nothing = λ h h2 hook v v2 log e. sym (ap log_of e);
  some = λ s. (tt, tt);
  read = λ h. tt;
  is_read = λ s h k. refl;
  adds = λ h h2 hook v v2 log e. refl;
  same_marks = λ a b e. ap (λ n. replicate n tt) e;
  restores = λ a b e. refl;
  no_items = λ k. refl;
  no_kinds = λ i. refl;
}
