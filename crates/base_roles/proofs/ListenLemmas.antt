-- Quiet hooks, as a listener's are: where they may be called.
use Rattle.std.proofs.Common.{◌≡◌, ◌≤◌, arith, ◌^◌, true}
use Rattle.base_roles.specs.{Ground.IsInOrder, Hooks.{Tells, Needs, MayCall, Lawful, validator_in}, Owing.Lists, Pair.HoldsOwed-none, World.{View, Hook}}

module _ {H : Type 0} (t : Tells H) (lawful : Lawful t) (quiet : (h : H) → t.quiet h ≡ true) where
  -- quiet hooks may be called over any ground in order, for lists that the call needs
  pub quiet_may : (holds : H → Type 0) → (h : H) × holds h → (hook : Hook) (w : View) (l : Lists) → Needs hook l → (validator_in hook).tokens ≤ 10 ^ 18 → IsInOrder w → MayCall holds t hook w
  quiet_may holds k hook w l needs tokens order = (
    k.0,
    (
      k.1,
      (
        l,
        record {
          stand = record {
            lists = lawful.quiet_stands k.0 l (quiet k.0);
            owed = HoldsOwed-none (t.owes k.0) w (lawful.quiet_owes k.0 (quiet k.0));
            late = (let none = lawful.quiet_height k.0 (quiet k.0) in omega (arith, none));
            in_order = order;
          };
          needs = needs;
          tokens = tokens;
        },
      ),
    ),
  )
