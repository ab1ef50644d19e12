-- Listeners that hold what they heard, as a plain value: they are lawful, and listen.
use Rattle.std.specs.Prelude.{◌≡◌, true, false, List, [], refl, None}
use Rattle.std.proofs.Common.{subst, sym, ap, rules}
use Rattle.base_roles.specs.Extra.{Listens}
use Rattle.base_roles.specs.Ground.{IsInOrder}
use Rattle.base_roles.specs.Hooks.{Tells, Lawful}
use Rattle.base_roles.specs.Log.{Log}
use Rattle.base_roles.specs.NoHooks.{Keeps-given, log_of}
use Rattle.base_roles.specs.World.{View, Hook, bonded, removed, gives}

-- what a listener tells that hears this
abbrev pub listener_tells : {P : Type 0} → (P → Hook → View → P) → Tells P
listener_tells hears = record {
  told = λ p hook v. gives (hears p hook v) v [];
  stands = λ p l. Unit {0};
  owes = λ p. None;
  height = λ p. 0;
  quiet = λ p. true;
  sure = λ p. true;
  most_steps = λ p. 0;
}

module _ {P : Type 0} (hears : P → Hook → View → P) where
  in_order_heard : (p p2 : P) (v v2 : View) (log log2 : Log) → gives p v log ≡ gives p2 v2 log2 → IsInOrder v → IsInOrder v2
  in_order_heard p p2 v v2 log log2 e i = let h : v ≡ v2 = cc in subst IsInOrder h i

  pub listener_lawful : Lawful (listener_tells hears)
  listener_lawful = record {
    keeps = λ p p2 h v v2 log l r e. Keeps-given (hears p h v) p2 v v2 [] log e;
    follows = λ p p2 h v v2 log l r e. record { lists = tt; owed = tt; late = search rules; in_order = in_order_heard (hears p h v) p2 v v2 [] log e r.stand.in_order };
    owes_nothing = λ p p2 h v v2 log n e. refl;
    quiet_call = λ p h v q. (hears p h v, ([], refl));
    quiet_stands = λ p l q. tt;
    quiet_owes = λ p q. refl;
    quiet_height = λ p q. refl;
    quiet_sure = λ p q. refl;
    quiet_steps = λ p q. refl;
    sure_bonded = λ p x v l q r. (hears p (bonded x) v, (v, ([], refl)));
    sure_removed = λ p x v l q r. (hears p (removed x) v, (v, ([], refl)));
    quiet_stays = λ p p2 h v v2 log e. refl;
    sure_stays = λ p p2 h v v2 log e. refl;
    steps_stay = λ p p2 h v v2 log e. refl;
  }

  heard_then : (p p2 : P) (v v2 : View) (log : Log) → gives p v [] ≡ gives p2 v2 log → p2 ≡ p
  heard_then p p2 v v2 log e = cc

  -- the laws of one whose records are what it heard, and which has no items
  pub listener_listens : {S : Type 0} {heard : S → P} {marks : S → List P} → Listens (λ s p. heard s ≡ p) (listener_tells hears) marks heard marks (λ _. []) (λ _. false) heard hears
  listener_listens {heard = heard} = record {
    quiet = λ h. refl;
    logs_nothing = λ h h2 hook v v2 log e. sym (ap log_of e);
    some = λ s. (heard s, refl);
    read = λ h. h;
    is_read = λ s h k. k;
    adds = λ h h2 hook v v2 log e. heard_then (hears h hook v) h2 v v2 log e;
    same_marks = λ a b e. e;
    restores = λ a b e. e;
    no_items = λ k. refl;
    no_kinds = λ i. refl;
  }
