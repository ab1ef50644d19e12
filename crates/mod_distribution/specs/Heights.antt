-- Sound rewards know of no height above their greatest, and are sound at each height from it on.
use Rattle.std.specs.Prelude.{ℕ, ◌≤◌, max, List, [], ◌∷◌, ◌++◌, map}
use Rattle.std.specs.List.{AllByRecursion}
use Rattle.std.proofs.Common.{arith}
use Rattle.std.proofs.lemmas.List.Elements.{All-from_recursion, recursion_from_All}
use Rattle.base_roles.specs.declared.entities.SlashEvent.{SlashEvent}
use Rattle.base_roles.specs.declared.entities.StartingInfo.{StartingInfo}
use Rattle.law_soundness.proofs.Lists.{weaker, both_all}
use Rattle.rule_modules.specs.Periods.{Periods, Rewards, starts_of}
use Rattle.rule_modules.specs.Sound.{PeriodsAreSound, RewardsAreSound, StartIsSound, EventIsSound}
use Rattle.mod_distribution.specs.Tells.{greatest, heights_of, last_height}

-- ---- the greatest of numbers

append_left : (xs ys : List ℕ) (n : ℕ) → greatest (xs ++ ys) ≤ n → greatest xs ≤ n
append_left [] ys n h = omega arith
append_left (x ∷ xs) ys n h =
    let both : max x (greatest (xs ++ ys)) ≤ n = h in
    let here : x ≤ n = omega (arith, both) in
    let rest : greatest (xs ++ ys) ≤ n = omega (arith, both) in
    let more = append_left xs ys n rest in
    omega (arith, here, more)

append_right : (xs ys : List ℕ) (n : ℕ) → greatest (xs ++ ys) ≤ n → greatest ys ≤ n
append_right [] ys n h = h
append_right (x ∷ xs) ys n h = let both : max x (greatest (xs ++ ys)) ≤ n = h in append_right xs ys n (omega (arith, both))

append_both : (xs ys : List ℕ) (n : ℕ) → greatest xs ≤ n → greatest ys ≤ n → greatest (xs ++ ys) ≤ n
append_both [] ys n h k = k
append_both (x ∷ xs) ys n h k =
    let both : max x (greatest xs) ≤ n = h in
    let rest : greatest xs ≤ n = omega (arith, both) in
    let more = append_both xs ys n rest k in
    omega (arith, both, more)

each_below : {X : Type 0} (f : X → ℕ) (xs : List X) (n : ℕ) → greatest (map f xs) ≤ n → AllByRecursion (λ x. f x ≤ n) xs
each_below f [] n h = tt
each_below f (x ∷ xs) n h = let both : max (f x) (greatest (map f xs)) ≤ n = h in (omega (arith, both), each_below f xs n (omega (arith, both)))

below_each : {X : Type 0} (f : X → ℕ) (xs : List X) (n : ℕ) → AllByRecursion (λ x. f x ≤ n) xs → greatest (map f xs) ≤ n
below_each f [] n h = omega arith
below_each f (x ∷ xs) n h = let here : f x ≤ n = h.0 in let rest = below_each f xs n h.1 in omega (arith, here, rest)

-- ---- the periods of one operator

-- sound at another height, which is not below its own
moved : (h n : ℕ) (starts : List StartingInfo) (p : Periods) → PeriodsAreSound h starts p → AllByRecursion (λ s. s.height ≤ n) starts → AllByRecursion (λ e. e.height ≤ n) p.events → PeriodsAreSound n starts p
moved h n starts p k a b = record {
  first = k.first;
  most = k.most;
  falling = k.falling;
  lists = k.lists;
  standing = k.standing;
  growing = k.growing;
  begun = All-from_recursion (StartIsSound p.current n) starts
      (weaker (λ (s : StartingInfo). StartIsSound p.current h s × (s.height ≤ n)) (StartIsSound p.current n) (λ s both. record { period = both.0.period; height = both.1 }) starts
      (both_all (StartIsSound p.current h) (λ (s : StartingInfo). s.height ≤ n) starts (recursion_from_All (StartIsSound p.current h) starts k.begun) a));
  events = All-from_recursion (EventIsSound p.current n) p.events
      (weaker (λ (e : SlashEvent). EventIsSound p.current h e × (e.height ≤ n)) (EventIsSound p.current n) (λ e both. record { period = both.0.period; height = both.1; fraction = both.0.fraction }) p.events
      (both_all (EventIsSound p.current h) (λ (e : SlashEvent). e.height ≤ n) p.events (recursion_from_All (EventIsSound p.current h) p.events k.events) b));
  order = k.order;
}

starts_below : (h : ℕ) (starts : List StartingInfo) (p : Periods) → PeriodsAreSound h starts p → AllByRecursion (λ s. s.height ≤ h) starts
starts_below h starts p k = weaker (StartIsSound p.current h) (λ (s : StartingInfo). s.height ≤ h) (λ s x. x.height) starts (recursion_from_All (StartIsSound p.current h) starts k.begun)

events_below : (h : ℕ) (starts : List StartingInfo) (p : Periods) → PeriodsAreSound h starts p → AllByRecursion (λ e. e.height ≤ h) p.events
events_below h starts p k = weaker (EventIsSound p.current h) (λ (e : SlashEvent). e.height ≤ h) (λ e x. x.height) p.events (recursion_from_All (EventIsSound p.current h) p.events k.events)

-- what is not above a number is not above a greater one
up : {X : Type 0} (f : X → ℕ) (h n : ℕ) (xs : List X) → h ≤ n → AllByRecursion (λ x. f x ≤ h) xs → AllByRecursion (λ x. f x ≤ n) xs
up f h n xs l a = weaker (λ x. f x ≤ h) (λ x. f x ≤ n) (λ x k. omega (arith, k, l)) xs a

-- ---- those of all operators

module _ (r : Rewards) where
  abbrev SoundAt : ℕ → List (List ℕ × Periods) → Type 0
  SoundAt h es = AllByRecursion (λ e. PeriodsAreSound h (starts_of r e.0) e.1) es

  lowered : (h n : ℕ) (es : List (List ℕ × Periods)) → greatest (heights_of r es) ≤ n → SoundAt h es → SoundAt n es
  lowered h n [] l k = tt
  lowered h n (e ∷ es) l k =
      let starts = map (λ (s : StartingInfo). s.height) (starts_of r e.0) in
      let events = map (λ (x : SlashEvent). x.height) e.1.events in
      let behind = append_right starts (events ++ heights_of r es) n l in (
        moved h n (starts_of r e.0) e.1 k.0
            (each_below (λ (s : StartingInfo). s.height) (starts_of r e.0) n (append_left starts (events ++ heights_of r es) n l))
            (each_below (λ (x : SlashEvent). x.height) e.1.events n (append_left events (heights_of r es) n behind)),
        lowered h n es (append_right events (heights_of r es) n behind) k.1,
      )

  raised : (h n : ℕ) (es : List (List ℕ × Periods)) → h ≤ n → SoundAt h es → SoundAt n es
  raised h n [] l k = tt
  raised h n (e ∷ es) l k = (
    moved h n (starts_of r e.0) e.1 k.0
        (up (λ (s : StartingInfo). s.height) h n (starts_of r e.0) l (starts_below h (starts_of r e.0) e.1 k.0))
        (up (λ (x : SlashEvent). x.height) h n e.1.events l (events_below h (starts_of r e.0) e.1 k.0)),
    raised h n es l k.1,
  )

  bounded : (h : ℕ) (es : List (List ℕ × Periods)) → SoundAt h es → greatest (heights_of r es) ≤ h
  bounded h [] k = omega arith
  bounded h (e ∷ es) k = append_both (map (λ (s : StartingInfo). s.height) (starts_of r e.0)) (map (λ (x : SlashEvent). x.height) e.1.events ++ heights_of r es) h
      (below_each (λ (s : StartingInfo). s.height) (starts_of r e.0) h (starts_below h (starts_of r e.0) e.1 k.0))
      (append_both (map (λ (x : SlashEvent). x.height) e.1.events) (heights_of r es) h
      (below_each (λ (x : SlashEvent). x.height) e.1.events h (events_below h (starts_of r e.0) e.1 k.0)) (bounded h es k.1))

  sound_at : (h : ℕ) → RewardsAreSound h r → SoundAt h r.periods
  sound_at h k = recursion_from_All (λ e. PeriodsAreSound h (starts_of r e.0) e.1) r.periods k.periods

  with_height : (h n : ℕ) → RewardsAreSound h r → SoundAt n r.periods → RewardsAreSound n r
  with_height h n k s = record { periods_ascend = k.periods_ascend; starts_ascend = k.starts_ascend; periods = All-from_recursion (λ e. PeriodsAreSound n (starts_of r e.0) e.1) r.periods s }

  pub sound_at_last : (h : ℕ) → RewardsAreSound h r → RewardsAreSound (last_height r) r
  sound_at_last h k = with_height h (last_height r) k (lowered h (last_height r) r.periods (omega arith) (sound_at h k))

  pub last_below : (h : ℕ) → RewardsAreSound h r → last_height r ≤ h
  last_below h k = bounded h r.periods (sound_at h k)

  pub sound_later : (h : ℕ) → RewardsAreSound (last_height r) r → last_height r ≤ h → RewardsAreSound h r
  sound_later h k l = with_height (last_height r) h k (raised (last_height r) h r.periods l (sound_at (last_height r) k))
