-- How the answer to a line leads on, or stops a run.
use Rattle.std.proofs.Common.{◌≡◌, ◌∙◌, ℕ, ◌+◌, ◌<◌, ◌≤◌, List, [], ◌∷◌, ◌++◌, length, Option, Some, None, Result, Ok, Err, IfErr, IfSome, IsErrOf, refl, sym, ap, subst, arith, length-append}
use Rattle.std.specs.Prelude.{⊤}
use Rattle.base_bech32.specs.declared.form.Form.{Form}
use Rattle.base_io.specs.{Calls.AddsPart, Keeping.UnlessLost, Outside.Rose, Rows.Pair}
use Rattle.base_io.specs.declared.keeper.KeepFault.{KeepFault}
use Rattle.base_io.specs.declared.keeper.KeepFault.TheVariants as keep
use Rattle.chain_modules.specs.Kept.{StandsFor}
use Rattle.chain_whole.specs.Chained.{Chained}
use Rattle.line_json.specs.{Block.block_of, Genesis.genesis_of}
use Rattle.rule_machine.specs.Items.{items_of}
use Rattle.rule_modules.specs.Chain.{State}
use Rattle.store_commits.specs.Commits.{Commits, Holds}
use Rattle.run_app.specs.{declared.status.LineStop.LineStop, Counts.Moved, Kept.{Began, Keeping, LeftIn}}
use Rattle.run_app.specs.Machine.{Answer, HoldsAnswer, SettledAt, Standing, StandsAt, block_answer, genesis_answer, line_answer, longest}
use Rattle.run_app.specs.Parts.{IsFault, IsLoss, IsOfKeeper, IsOfSink, LongOnly, Loses, PartStops, Stands, UnlessNoMemory, is_keep_stop, is_write_stop, not_kept}
use Rattle.run_app.proofs.AnswerLemmas.{block_fits, first_fits}
use Rattle.run_app.proofs.KeepLemmas.{at_first, at_some, led_on, left_of, was_kept, was_unkept}
use Rattle.run_app.proofs.PartLemmas.{fault_stops, long_stops, lost_stops}
use Rattle.run_app.proofs.WaitLemmas.{keep_loses, one_waits, released, stands_lost, write_loses}
use Rattle.run_app.specs.declared.status.LineStop.TheVariants as stop

-- ---- by what stopped it

pub unless_so : (why : LineStop) (P : Type 0) → P → UnlessNoMemory why P
unless_so (stop.BadInput m fault) P p = p
unless_so (stop.Long m) P p = p
unless_so (stop.Ratio m over) P p = p
unless_so stop.Write P p = p
unless_so stop.Keep P p = p
unless_so stop.NoMemory P p = tt

-- where three things are as they were
pub unless_same : {A B C : Type 0} (why : LineStop) (a : A) (b : B) (c : C) → UnlessNoMemory why ((a ≡ a) × (b ≡ b) × (c ≡ c))
unless_same why a b c = unless_so why ((a ≡ a) × (b ≡ b) × (c ≡ c)) (refl, refl, refl)

unless_then : (why : LineStop) (P Q : Type 0) → (P → Q) → UnlessNoMemory why P → UnlessNoMemory why Q
unless_then (stop.BadInput m fault) P Q f p = f p
unless_then (stop.Long m) P Q f p = f p
unless_then (stop.Ratio m over) P Q f p = f p
unless_then stop.Write P Q f p = f p
unless_then stop.Keep P Q f p = f p
unless_then stop.NoMemory P Q f p = tt

-- a line within its limit does not stop so
pub fault_long : (why : LineStop) (due : Result Answer LineStop) (line : List ℕ) → IsFault why due → LongOnly why line
fault_long (stop.BadInput m fault) due line of = tt
fault_long (stop.Long m) due line of = absurd of
fault_long (stop.Ratio m over) due line of = tt
fault_long stop.Write due line of = tt
fault_long stop.Keep due line of = tt
fault_long stop.NoMemory due line of = tt

pub keeper_long : (why : LineStop) (line : List ℕ) → IsOfKeeper why → LongOnly why line
keeper_long (stop.BadInput m fault) line of = tt
keeper_long (stop.Long m) line of = absurd of
keeper_long (stop.Ratio m over) line of = tt
keeper_long stop.Write line of = tt
keeper_long stop.Keep line of = tt
keeper_long stop.NoMemory line of = tt

pub sink_long : (why : LineStop) (line : List ℕ) → IsOfSink why → LongOnly why line
sink_long (stop.BadInput m fault) line of = tt
sink_long (stop.Long m) line of = absurd of
sink_long (stop.Ratio m over) line of = tt
sink_long stop.Write line of = tt
sink_long stop.Keep line of = tt
sink_long stop.NoMemory line of = tt

pub loss_long : (r : Result ⊤ LineStop) (line : List ℕ) → IfErr r IsLoss → IfErr r (λ why. LongOnly why line)
loss_long (Ok x) line of = tt
loss_long (Err (stop.BadInput m fault)) line of = absurd of
loss_long (Err (stop.Long m)) line of = absurd of
loss_long (Err (stop.Ratio m over)) line of = absurd of
loss_long (Err stop.Write) line of = tt
loss_long (Err stop.Keep) line of = tt
loss_long (Err stop.NoMemory) line of = tt

pub not_kept_is : (f : KeepFault) → IsOfKeeper (not_kept f)
not_kept_is keep.Failed = tt
not_kept_is keep.NoMemory = tt

abbrev unmade : KeepFault → Result ⊤ KeepFault
unmade f = Err f

pub not_kept_moved : (X : Type 0) (f : KeepFault) (before now : ℕ) → (IsErrOf (unmade f) keep.Failed → Rose before now) → UnlessLost (unmade f) (now ≡ before) → Moved (is_keep_stop {X = X} (Err (not_kept f))) before now
not_kept_moved X keep.Failed before now cause quiet = cause refl
not_kept_moved X keep.NoMemory before now cause quiet = quiet

-- a fault of the input is none of the keeper or the sink
pub fault_moved : (X : Type 0) (why : LineStop) (due : Result Answer LineStop) (count : ℕ) → IsFault why due → Moved (is_keep_stop {X = X} (Err why)) count count
fault_moved X (stop.BadInput m fault) due count of = refl
fault_moved X (stop.Long m) due count of = absurd of
fault_moved X (stop.Ratio m over) due count of = refl
fault_moved X stop.Write due count of = absurd of
fault_moved X stop.Keep due count of = absurd of
fault_moved X stop.NoMemory due count of = refl

pub fault_unwritten : (X : Type 0) (why : LineStop) (due : Result Answer LineStop) (count : ℕ) → IsFault why due → Moved (is_write_stop {X = X} (Err why)) count count
fault_unwritten X (stop.BadInput m fault) due count of = refl
fault_unwritten X (stop.Long m) due count of = absurd of
fault_unwritten X (stop.Ratio m over) due count of = refl
fault_unwritten X stop.Write due count of = absurd of
fault_unwritten X stop.Keep due count of = absurd of
fault_unwritten X stop.NoMemory due count of = refl

-- ---- no chain is there yet

pub none_there : (o : Option Chained) → ((x : Chained) → o ≡ Some x → ⊥) → o ≡ None
none_there None h = refl
none_there (Some x) h = absurd (h x refl)

-- ---- a line

module _ (form : Form) (every : ℕ) (b : Began) (lines : List (List ℕ)) (end : Standing) (n : ℕ) (line : List ℕ) (o : Option Chained) (waiting : ℕ) (held : List ℕ) (from w : Option (List ℕ)) (told : Option (List Pair)) (honest : Type 0) (leaves : List Pair → Type 0) (k : Stands form every b lines end n o waiting held from w told honest leaves) (short : length line ≤ longest) where
  abbrev pub all : List (List ℕ) → List (List ℕ)
  all more = lines ++ line ∷ more

  -- where a line that has a fault leaves what waits
  stopped_at : (o' : Option Chained) (held' : List ℕ) (why : LineStop) → IsFault why (line_answer form n end line)
      → UnlessNoMemory why ((held' ≡ held) × StandsAt o' end × SettledAt o' k.settled)
      → PartStops form every b.first (LeftIn b told honest leaves) (λ before last. Stands form every b before last n o' waiting held' from w told honest leaves) all (lines ++ line ∷ []) from w why
  stopped_at o' held' why of stays =
      fault_stops form every b.first (LeftIn b told honest leaves) (λ before last. Stands form every b before last n o' waiting held' from w told honest leaves) lines end line n from w why k.number_is of
      (unless_then why ((held' ≡ held) × StandsAt o' end × SettledAt o' k.settled) (Stands form every b lines end n o' waiting held' from w told honest leaves) same stays)
      (stands_lost form every b lines end n o waiting held from w told honest leaves (line ∷ []) k)
    where
      same : (held' ≡ held) × StandsAt o' end × SettledAt o' k.settled → Stands form every b lines end n o' waiting held' from w told honest leaves
      same h = record { settled = k.settled; number_is = k.number_is; waits = rw h.0 k.waits; kept = led_on b o told honest leaves k.settled end k.kept o' end h.1 h.2 }

  -- the numbers of the lines
  next_number : n + 1 ≡ 1 + length (lines ++ line ∷ [])
  next_number = let is : n ≡ 1 + length lines = k.number_is in omega (arith, is, length-append lines (line ∷ []))

  -- ---- the genesis

  module _ (none : o ≡ None) where
    nothing : (k.settled ≡ None) × (end ≡ None)
    nothing = at_first b o told honest leaves k.settled end none k.kept

    first_due : line_answer form n end line ≡ genesis_answer n (genesis_of form line)
    first_due = first_fits form n end line nothing.1 short

    -- no chain is started
    pub begin_stops : (held' : List ℕ) (why : LineStop) → IsFault why (genesis_answer n (genesis_of form line)) → UnlessNoMemory why (held' ≡ held)
        → PartStops form every b.first (LeftIn b told honest leaves) (λ before last. Stands form every b before last n o waiting held' from w told honest leaves) all (lines ++ line ∷ []) from w why
    begin_stops held' why of stays =
        stopped_at o held' why (rw first_due of)
        (unless_then why (held' ≡ held) ((held' ≡ held) × StandsAt o end × SettledAt o k.settled) (λ e. (e, k.kept.stands, k.kept.same)) stays)

    -- nothing is held yet
    pub none_held : Holds [] told
    none_held = rw nothing.0 at k.kept.held

    module _ (held' : List ℕ) (x : Chained) (a : HoldsAnswer (genesis_answer n (genesis_of form line)) held held' (StandsAt (Some x))) (told' : Option (List Pair)) (honest' : Type 0) (leaves' : List Pair → Type 0) where
      first_is : line_answer form (1 + length lines) end line ≡ Ok a.0
      first_is = rw (← k.number_is) (first_due ∙ a.1)

      -- the rows of the chain were not committed
      pub first_unkept : (f : KeepFault) → ((q : State) → StandsFor x.kept q → Commits (Err f) (items_of q) told told' honest honest' leaves leaves') → (all' : List (List ℕ) → List (List ℕ)) (W : List (List ℕ) → Standing → Type 0)
          → PartStops form every b.first (LeftIn b told' honest' leaves') W all' (lines ++ line ∷ []) from w (not_kept f)
      first_unkept f commits all' W =
          lost_stops form every b.first (LeftIn b told' honest' leaves') W all' (lines ++ line ∷ []) from w (not_kept f)
          (keep_loses form every b.first (lines ++ line ∷ []) k.settled a.0.standing (waiting + 1) held' from w
          (one_waits form every b.first lines k.settled end waiting held from w line a.0 held' k.waits first_is a.2) (omega arith) (LeftIn b told' honest' leaves') (not_kept f) (not_kept_is f)
          (was_unkept b o told honest leaves k.settled end k.kept told' honest' leaves' f a.0.standing x a.3 commits))

      module _ (settled : x.settled ≡ x.kept) (commits : (q : State) → StandsFor x.kept q → Commits (Ok tt) (items_of q) told told' honest honest' leaves leaves') where
        first_kept : Keeping b (Some x) told' honest' leaves' a.0.standing a.0.standing
        first_kept = was_kept b o told honest leaves k.settled end k.kept told' honest' leaves' a.0.standing x x a.3 refl settled commits

        -- its text was not written
        pub first_unwritten : (w' : Option (List ℕ)) (why : LineStop) → AddsPart w w' held' → IsOfSink why → (all' : List (List ℕ) → List (List ℕ)) (W : List (List ℕ) → Standing → Type 0)
            → PartStops form every b.first (LeftIn b told' honest' leaves') W all' (lines ++ line ∷ []) from w' why
        first_unwritten w' why adds of all' W =
            lost_stops form every b.first (LeftIn b told' honest' leaves') W all' (lines ++ line ∷ []) from w' why
            (write_loses form every b.first (lines ++ line ∷ []) k.settled a.0.standing (waiting + 1) held' from w
            (one_waits form every b.first lines k.settled end waiting held from w line a.0 held' k.waits first_is a.2) (omega arith) w' adds (LeftIn b told' honest' leaves')
            (left_of b (Some x) told' honest' leaves' a.0.standing a.0.standing first_kept) why of)

        -- or it was
        pub first_taken : (w' : Option (List ℕ)) (waiting' : ℕ) (held'' : List ℕ) → IfSome w (λ bytes. w' ≡ Some (bytes ++ held')) → waiting' ≡ 0 → held'' ≡ []
            → (next : Standing) × Stands form 1 b (lines ++ line ∷ []) next (n + 1) (Some x) waiting' held'' from w' told' honest' leaves'
        first_taken w' waiting' held'' wrote zero empty = (
          a.0.standing,
          record {
            settled = a.0.standing;
            number_is = next_number;
            waits = released form every b.first (lines ++ line ∷ []) k.settled a.0.standing (waiting + 1) held' from w
                (one_waits form every b.first lines k.settled end waiting held from w line a.0 held' k.waits first_is a.2) w' wrote waiting' zero held'' empty;
            kept = first_kept;
          },
        )

  -- ---- a block

  module _ (x : Chained) (is : o ≡ Some x) where
    pub stood : (p : State) × (end ≡ Some p) × StandsFor x.kept p
    stood = let s = at_some b o x told honest leaves k.settled end is k.kept in (s.1, s.3, s.5)

    block_due : line_answer form n end line ≡ block_answer form n stood.0 (block_of form line)
    block_due = ap (λ (s : Standing). line_answer form n s line) stood.1 ∙ block_fits form n stood.0 line short

    stands_so : (x' : Chained) → x'.kept ≡ x.kept → StandsAt (Some x') end
    stands_so x' same = subst (λ (s : Standing). StandsAt (Some x') s) (sym stood.1) (subst (λ m. StandsFor m stood.0) (sym same) stood.2)

    settled_so : (x' : Chained) → x'.settled ≡ x.settled → SettledAt (Some x') k.settled
    settled_so x' same =
        let s = at_some b o x told honest leaves k.settled end is k.kept in
        subst (λ (s : Standing). SettledAt (Some x') s) (sym s.2) (subst (λ m. StandsFor m s.0) (sym same) s.4)

    -- the block does not follow
    pub block_stops : (x' : Chained) (held' : List ℕ) (why : LineStop) (line' : List ℕ) → line' ≡ line → IsFault why (block_answer form n stood.0 (block_of form line')) → UnlessNoMemory why ((held' ≡ held) × (x'.kept ≡ x.kept) × (x'.settled ≡ x.settled))
        → PartStops form every b.first (LeftIn b told honest leaves) (λ before last. Stands form every b before last n (Some x') waiting held' from w told honest leaves) all (lines ++ line ∷ []) from w why
    block_stops x' held' why line' same of stays =
        stopped_at (Some x') held' why (rw block_due (subst (λ (l : List ℕ). IsFault why (block_answer form n stood.0 (block_of form l))) same of))
        (unless_then why ((held' ≡ held) × (x'.kept ≡ x.kept) × (x'.settled ≡ x.settled)) ((held' ≡ held) × StandsAt (Some x') end × SettledAt (Some x') k.settled) (λ e. (e.0, stands_so x' e.1, settled_so x' e.2)) stays)

    -- it leads the chain on, and waits
    pub block_stands : (x' : Chained) (held' line' : List ℕ) → line' ≡ line → HoldsAnswer (block_answer form n stood.0 (block_of form line')) held held' (StandsAt (Some x')) → x'.settled ≡ x.settled
        → (next : Standing) × Stands form (every + 1) b (lines ++ line ∷ []) next (n + 1) (Some x') (waiting + 1) held' from w told honest leaves
    block_stands x' held' line' is_line given same =
        let a = subst (λ (l : List ℕ). HoldsAnswer (block_answer form n stood.0 (block_of form l)) held held' (StandsAt (Some x'))) is_line given in
        let due : line_answer form (1 + length lines) end line ≡ Ok a.0 = rw (← k.number_is) (block_due ∙ a.1) in (
          a.0.standing,
          record {
            settled = k.settled;
            number_is = next_number;
            waits = one_waits form every b.first lines k.settled end waiting held from w line a.0 held' k.waits due a.2;
            kept = led_on b o told honest leaves k.settled end k.kept (Some x') a.0.standing a.3 (settled_so x' same);
          },
        )

-- a line over its limit leaves what waits
pub over_limit : (form : Form) (every : ℕ) (b : Began) (lines : List (List ℕ)) (end : Standing) (n : ℕ) (line : List ℕ) (o : Option Chained) (waiting : ℕ) (held : List ℕ) (from w : Option (List ℕ)) (told : Option (List Pair)) (honest : Type 0) (leaves : List Pair → Type 0) → longest < length line → Stands form every b lines end n o waiting held from w told honest leaves
    → PartStops form every b.first (LeftIn b told honest leaves) (λ before last. Stands form every b before last n o waiting held from w told honest leaves) (λ (more : List (List ℕ)). lines ++ line ∷ more) (lines ++ line ∷ []) from w (stop.Long n)
over_limit form every b lines end n line o waiting held from w told honest leaves long k =
    long_stops form every b.first (LeftIn b told honest leaves) (λ before last. Stands form every b before last n o waiting held from w told honest leaves) lines end line n from w k.number_is long k

-- ---- by the answer of a release

pub loses_stops : (form : Form) (every : ℕ) (first : Standing) {X : Type 0} (L : Standing → Standing → Type 0) (W : List (List ℕ) → Standing → Type 0) (all : X → List (List ℕ)) (ended : List (List ℕ)) (from w : Option (List ℕ)) (r : Result ⊤ LineStop) → IfErr r (Loses form every first L ended from w) → IfErr r (PartStops form every first L W all ended from w)
loses_stops form every first L W all ended from w (Ok x) h = tt
loses_stops form every first L W all ended from w (Err why) h = lost_stops form every first L W all ended from w why h
