-- How a run of each command ends.
use Rattle.std.proofs.Common.{◌≡◌, ◌∙◌, ◌⊎◌, inl, inr, ap, sym, subst, refl, arith, ℕ, ◌<◌, ◌≤◌, ◌&&◌, nat_le, Bool, true, false, true≢false, List, [], ◌∷◌, ◌++◌, append-nil, bytes_eq, codes, Option, Some, None, Result, Ok, Err, if◌then◌else◌, IsErrOf, IsSome, OnErr, OnOk, option_and_then, option_map}
use Rattle.std.specs.Prelude.{⊤}
use Rattle.base_io.specs.{declared.outside.SinkFault.SinkFault, Faults.UnlessFailed, Outside.Rose, Rows.{Makes, Pair}}
use Rattle.base_io.specs.declared.outside.SinkFault.TheVariants as sink
use Rattle.base_roles.specs.declared.refusal.Refusal.{Refusal}
use Rattle.base_messages.specs.declared.faults.BlockFault.{BlockFault}
use Rattle.base_messages.specs.declared.faults.BlockFault.TheVariants as why
use Rattle.base_decimals.specs.Texts.{number_of}
use Rattle.run_generated.specs.Writing.{Grows, GrowsInPart, IsFront}
use Rattle.run_trial.specs.{Summary.Stopped, declared.fault.TrialFault.TrialFault, Trying.IsTrialFault}
use Rattle.run_trial.specs.declared.fault.TrialFault.TheVariants as trial
use Rattle.base_types.specs.declared.account.Account.{Account}
use Rattle.base_bech32.specs.declared.form.Form.{Form, TheVariants.{Hex, Bech32}}
use Rattle.run_words.specs.declared.mode.{Command.Command, Mode.Mode}
use Rattle.run_words.specs.declared.mode.Mode.TheVariants.{Replay, Resume, Query, Tally, Check, Gen, Trial}
use Rattle.run_words.specs.Questions.{address_asked, kind_asked}
use Rattle.run_words.specs.Words.{alone, asking, at_height, begins_with_zero, behind_form, command_of, committing, count_of, every_mode, every_of, generating, grouping, height_of, is_bech32, is_every, is_keep, is_past, keeping, kept_mode, mode_of, of_pair, past_of, plain, seed_of, with_input, with_word, with_words}
use Rattle.line_json.specs.Addresses.{account_in, operator_asked}
use Rattle.line_report.specs.declared.question.Query.{Query as Question}
use Rattle.run_app.specs.declared.status.Status.{Status}
use Rattle.run_app.specs.declared.status.Status.TheVariants.{Done, Usage, BadInput, Limit, ReadFault, WriteFault, KeepFault, NoMemory, BadStore, WrongStore, NotFound, NoPast}
use Rattle.run_app.specs.{Machine.not_applied, Kept.{AreLeft, AreSome, AreUntouched, IsUnbegun}}
use Rattle.run_app.specs.{Counts.{Moved, is_keep_fault, is_read_fault, is_write_fault}, Ending.status_of}
use Rattle.run_app.specs.{Modes.{HasFewBlocks, Tries}, Outcome.UnlessWriteFault}
use Rattle.run_app.specs.Writes.{Adds, IsWritten, Leaves, Writes, status_of_sink}
use Rattle.run_app.specs.Seen.{keeper_told, sink_told, source_told}

-- ---- a text that is written

-- there is a front that came to what was written
front_of : (w w' : Option (List ℕ)) (whole : List ℕ) → GrowsInPart w w' whole → (front : List ℕ) × IsFront front whole × Grows w w' front
front_of None w' whole h = ([], record { rest = whole; text_is = refl }, λ old is. absurd cc)
front_of (Some bytes) w' whole h =
    let p = h bytes refl in
    (p.0, p.1, λ old is. let same : bytes ≡ old = cc in p.2 ∙ ap (λ (b : List ℕ). Some (b ++ p.0)) same)

pub written_so : (r : Result ⊤ SinkFault) (w w' : Option (List ℕ)) (whole : List ℕ) → OnOk r (Grows w w' whole) → OnErr r (GrowsInPart w w' whole) → Writes whole w w' (status_of_sink r)
written_so (Ok done) w w' whole h k = (whole, h, refl)
written_so (Err sink.Failed) w w' whole h k = let p = front_of w w' whole k in (p.0, p.2, p.1)
written_so (Err sink.NoMemory) w w' whole h k = let p = front_of w w' whole k in (p.0, p.2, p.1)

pub busy_so : (r : Result ⊤ SinkFault) → status_of_sink r ≡ Usage → ⊥
busy_so (Ok done) e = absurd cc
busy_so (Err sink.Failed) e = absurd cc
busy_so (Err sink.NoMemory) e = absurd cc

pub read_so : (r : Result ⊤ SinkFault) → is_read_fault (status_of_sink r) ≡ false
read_so (Ok done) = refl
read_so (Err sink.Failed) = refl
read_so (Err sink.NoMemory) = refl

pub keep_so : (r : Result ⊤ SinkFault) → is_keep_fault (status_of_sink r) ≡ false
keep_so (Ok done) = refl
keep_so (Err sink.Failed) = refl
keep_so (Err sink.NoMemory) = refl

pub writes_so : (r : Result ⊤ SinkFault) (before now : ℕ) (P : Type 0) → OnOk r P → (IsErrOf r sink.Failed → Rose before now) → UnlessFailed r (now ≡ before) → Moved (is_write_fault (status_of_sink r)) before now × (status_of_sink r ≡ Done → P)
writes_so (Ok done) before now P clean cause quiet = (quiet, λ e. clean)
writes_so (Err sink.Failed) before now P clean cause quiet = (cause refl, λ e. absurd cc)
writes_so (Err sink.NoMemory) before now P clean cause quiet = (quiet, λ e. absurd cc)

-- nothing was written
pub nothing : (w : Option (List ℕ)) (P : List ℕ → Type 0) → P [] → Adds w w P
nothing w P p = ([], (λ old is. is ∙ ap Some (sym (append-nil old))), p)

-- the sink was not called, or did not fail
pub quiet_at : (s : Status) (P : Type 0) → P → UnlessWriteFault s P
quiet_at Done P p = p
quiet_at Usage P p = p
quiet_at (BadInput n fault) P p = p
quiet_at (Limit n kind) P p = p
quiet_at ReadFault P p = p
quiet_at WriteFault P p = tt
quiet_at KeepFault P p = p
quiet_at NoMemory P p = p
quiet_at BadStore P p = p
quiet_at (WrongStore is_empty) P p = p
quiet_at NotFound P p = p
quiet_at (NoPast base last) P p = p

-- ---- a trial

pub tried : (due : Result (Result (List ℕ) Stopped) Refusal) (w w' : Option (List ℕ)) (summary : List ℕ) (s : Status) → due ≡ Ok (Ok summary) → Writes summary w w' s → Tries due w w' s
tried due w w' summary s e h = subst (λ d. Tries d w w' s) (sym e) h

tried_to_block : (due : Result (Result (List ℕ) Stopped) Refusal) (w : Option (List ℕ)) (n : ℕ) (f : BlockFault) → due ≡ Ok (Err (record { line = n; fault = f }))
    → Tries due w w (status_of (not_applied n f))
tried_to_block due w n f e = subst (λ d. Tries d w w (status_of (not_applied n f))) (sym e) (nothing w _ (inl refl, refl))

-- so it is where a trial answers that fault
pub tried_at_block : (due : Result (Result (List ℕ) Stopped) Refusal) (w : Option (List ℕ)) (why : TrialFault) (n : ℕ) (f : BlockFault) → why ≡ trial.Block n f → IsTrialFault due why
    → Tries due w w (status_of (not_applied n f))
tried_at_block due w why n f e h = tried_to_block due w n f (subst (IsTrialFault due) e h)

-- what was made is of one kind
pub told_otherwise : {T E : Type 0} (r : Result T E) (x : T) (e : E) (P : Type 0) → r ≡ Ok x → r ≡ Err e → P
told_otherwise r x e P made failed = absurd cc

pub some_otherwise : {T E : Type 0} (r : Result (Option T) E) (o : Option T) (x : T) (P : Type 0) → r ≡ Ok o → o ≡ Some x → r ≡ Ok None → P
some_otherwise r o x P made some none = absurd cc

-- and stopped at one block
pub stopped_so : {X : Type 0} (r : Result X TrialFault) (e : TrialFault) (n m : ℕ) (f g : BlockFault) (s : Status) → r ≡ Err e → e ≡ trial.Block n f → r ≡ Err (trial.Block m g) → s ≡ status_of (not_applied n f)
    → s ≡ status_of (not_applied m g)
stopped_so r e n m f g s made is due h =
    let one : trial.Block n f ≡ trial.Block m g = cc in
    h ∙ ap end_of one
  where
    end_of : TrialFault → Status
    end_of (trial.Block k why) = status_of (not_applied k why)
    end_of trial.NoMemory = NoMemory

pub no_block : {X : Type 0} (r : Result X TrialFault) (e : TrialFault) (n : ℕ) (f : BlockFault) (P : Type 0) → r ≡ Err e → e ≡ trial.NoMemory → r ≡ Err (trial.Block n f) → P
no_block r e n f P made is due = absurd cc

pub tried_without_memory : (due : Result (Result (List ℕ) Stopped) Refusal) (w : Option (List ℕ)) → Tries due w w NoMemory
tried_without_memory (Ok (Ok summary)) w = nothing w _ (record { rest = summary; text_is = refl })
tried_without_memory (Ok (Err stopped)) w = nothing w _ (inr refl, refl)
tried_without_memory (Err why) w = nothing w _ (refl, refl)

-- ---- commands

-- the words of a command have a number of blocks within the limit
few_of_word : (b : Bool) (o : Option ℕ) (n : ℕ) → (if b then None else option_and_then (λ m. if nat_le 1 m && nat_le m 100000 then Some m else None) o) ≡ Some n → n ≤ 100000
few_of_word true o n e = absurd cc
few_of_word false None n e = absurd cc
few_of_word false (Some m) n e = by (nat_le 1 m && nat_le m 100000) refl e
  where
    by : (b : Bool) → (nat_le 1 m && nat_le m 100000) ≡ b → (if b then Some m else None) ≡ Some n → n ≤ 100000
    by true t f = grind (arith, t, f)
    by false t f = absurd cc

count_is_few : (word : List ℕ) (n : ℕ) → count_of word ≡ Some n → n ≤ 100000
count_is_few word n e = few_of_word (begins_with_zero word) (number_of 6 word) n e

abbrev FewIn : Option Mode → Type 0
FewIn None = Unit {0}
FewIn (Some x) = HasFewBlocks x

input_is_few : (form : ℕ → ℕ → Mode) → ((s n : ℕ) → n ≤ 100000 → HasFewBlocks (form s n)) → (s c : Option ℕ) (m : Mode) → ((n : ℕ) → c ≡ Some n → n ≤ 100000) → with_input form s c ≡ Some m → HasFewBlocks m
input_is_few form h (Some s) (Some n) m few e = subst FewIn e (h s n (few n refl))
input_is_few form h (Some s) None m few e = absurd cc
input_is_few form h None c m few e = absurd cc

few_committing : (name : List ℕ) (m : Mode) → committing name ≡ Some m → HasFewBlocks m
few_committing name m e = by (bytes_eq name (codes "replay")) (bytes_eq name (codes "resume")) e
  where
    by : (b c : Bool) → (if b then Some Replay else (if c then Some Resume else None)) ≡ Some m → HasFewBlocks m
    by true c f = subst FewIn f tt
    by false true f = subst FewIn f tt
    by false false f = absurd cc

few_alone : (name : List ℕ) (m : Mode) → alone name ≡ Some m → HasFewBlocks m
few_alone name m e = by (bytes_eq name (codes "tally")) (bytes_eq name (codes "check")) e
  where
    by : (b c : Bool) → (if b then Some Tally else (if c then Some Check else committing name)) ≡ Some m → HasFewBlocks m
    by true c f = subst FewIn f tt
    by false true f = subst FewIn f tt
    by false false f = few_committing name m f

few_asked : (o : Option Question) (m : Mode) → option_map Query o ≡ Some m → HasFewBlocks m
few_asked (Some what) m e = subst FewIn e tt
few_asked None m e = absurd cc

few_stated : (delegator operator : Option Account) (m : Mode) → of_pair delegator operator ≡ Some m → HasFewBlocks m
few_stated (Some delegator) (Some operator) m e = subst FewIn e tt
few_stated (Some delegator) None m e = absurd cc
few_stated None operator m e = absurd cc

few_with_word : (name what : List ℕ) (m : Mode) → with_word name what ≡ Some m → HasFewBlocks m
few_with_word name what m e = by (bytes_eq name (codes "query")) e
  where
    by : (b : Bool) → (if b then option_map Query (kind_asked what) else None) ≡ Some m → HasFewBlocks m
    by true f = few_asked (kind_asked what) m f
    by false f = absurd cc

few_asking : (form : Form) (name first second : List ℕ) (m : Mode) → asking form name first second ≡ Some m → HasFewBlocks m
few_asking form name first second m e = by (bytes_eq name (codes "query")) e
  where
    by : (b : Bool) → (if b then option_map Query (address_asked form first second) else None) ≡ Some m → HasFewBlocks m
    by true f = few_asked (address_asked form first second) m f
    by false f = absurd cc

few_generated : (name seed count : List ℕ) (m : Mode) → generating name seed count ≡ Some m → HasFewBlocks m
few_generated name seed count m e = by (bytes_eq name (codes "gen")) (bytes_eq name (codes "trial")) e
  where
    by : (b d : Bool) → (if b then with_input Gen (seed_of seed) (count_of count) else (if d then with_input Trial (seed_of seed) (count_of count) else None)) ≡ Some m → HasFewBlocks m
    by true d f = input_is_few Gen (λ s n h. h) (seed_of seed) (count_of count) m (count_is_few count) f
    by false true f = input_is_few Trial (λ s n h. h) (seed_of seed) (count_of count) m (count_is_few count) f
    by false false f = absurd cc

few_with_words : (form : Form) (name first second : List ℕ) (m : Mode) → with_words form name first second ≡ Some m → HasFewBlocks m
few_with_words form name first second m e = by (bytes_eq name (codes "query")) (bytes_eq name (codes "statement")) e
  where
    by : (b c : Bool) → (if b then option_map Query (address_asked form first second) else (if c then of_pair (account_in form first) (operator_asked form second) else generating name first second)) ≡ Some m → HasFewBlocks m
    by true c f = few_asked (address_asked form first second) m f
    by false true f = few_stated (account_in form first) (operator_asked form second) m f
    by false false f = few_generated name first second m f

few_of_mode : (form : Form) (words : List (List ℕ)) (m : Mode) → mode_of form words ≡ Some m → HasFewBlocks m
few_of_mode form [] m e = absurd cc
few_of_mode form (name ∷ []) m e = few_alone name m e
few_of_mode form (name ∷ what ∷ []) m e = few_with_word name what m e
few_of_mode form (name ∷ first ∷ second ∷ []) m e = few_with_words form name first second m e
few_of_mode form (name ∷ first ∷ second ∷ other ∷ others) m e = absurd cc

-- commits are made at one block at least
every_of_word : (b : Bool) (o : Option ℕ) (n : ℕ) → (if b then None else option_and_then (λ m. if nat_le 1 m && nat_le m 1000000 then Some m else None) o) ≡ Some n → 0 < n
every_of_word true o n e = absurd cc
every_of_word false None n e = absurd cc
every_of_word false (Some m) n e = by (nat_le 1 m && nat_le m 1000000) refl e
  where
    by : (b : Bool) → (nat_le 1 m && nat_le m 1000000) ≡ b → (if b then Some m else None) ≡ Some n → 0 < n
    by true t f = grind (arith, t, f)
    by false t f = absurd cc

every_is_some : (word : List ℕ) (n : ℕ) → every_of word ≡ Some n → 0 < n
every_is_some word n e = every_of_word (begins_with_zero word) (number_of 7 word) n e

-- a command that generates few blocks, and commits at one block at least
pub record IsFit (c : Command) : Type 0 where
  pub few : HasFewBlocks c.mode
  pub some : 0 < c.every

abbrev FitOf : Option Command → Type 0
FitOf None = Unit {0}
FitOf (Some c) = IsFit c

fit_plain : (form : Form) (o : Option Mode) (c : Command) → ((m : Mode) → o ≡ Some m → HasFewBlocks m) → plain form o ≡ Some c → IsFit c
fit_plain form (Some m) c few e = subst FitOf e (record { few = few m refl; some = omega arith })
fit_plain form None c few e = absurd cc

fit_keeping : (form : Form) (o : Option Mode) (c : Command) → ((m : Mode) → o ≡ Some m → HasFewBlocks m) → keeping form o ≡ Some c → IsFit c
fit_keeping form (Some m) c few e = subst FitOf e (record { few = few m refl; some = omega arith })
fit_keeping form None c few e = absurd cc

fit_grouping : (form : Form) (every : Option ℕ) (o : Option Mode) (c : Command) → ((n : ℕ) → every ≡ Some n → 0 < n) → ((m : Mode) → o ≡ Some m → HasFewBlocks m) → grouping form every o ≡ Some c → IsFit c
fit_grouping form (Some n) (Some m) c some few e = subst FitOf e (record { few = few m refl; some = some n refl })
fit_grouping form (Some n) None c some few e = absurd cc
fit_grouping form None o c some few e = absurd cc

fit_at_height : (form : Form) (height : Option ℕ) (o : Option Mode) (c : Command) → ((m : Mode) → o ≡ Some m → HasFewBlocks m) → at_height form height o ≡ Some c → IsFit c
fit_at_height form (Some height) (Some m) c few e = subst FitOf e (record { few = few m refl; some = omega arith })
fit_at_height form (Some height) None c few e = absurd cc
fit_at_height form None o c few e = absurd cc

few_kept : (words : List (List ℕ)) (m : Mode) → kept_mode words ≡ Some m → HasFewBlocks m
few_kept [] m e = absurd cc
few_kept (name ∷ []) m e = few_committing name m e
few_kept (name ∷ other ∷ others) m e = absurd cc

fit_every : (form : Form) (words : List (List ℕ)) (c : Command) → every_mode form words ≡ Some c → IsFit c
fit_every form [] c e = absurd cc
fit_every form (every ∷ []) c e = absurd cc
fit_every form (every ∷ name ∷ []) c e = fit_grouping form (every_of every) (committing name) c (every_is_some every) (few_committing name) e
fit_every form (every ∷ name ∷ other ∷ others) c e = absurd cc

fit_past : (form : Form) (words : List (List ℕ)) (c : Command) → past_of form words ≡ Some c → IsFit c
fit_past form [] c e = absurd cc
fit_past form (height ∷ []) c e = absurd cc
fit_past form (height ∷ name ∷ []) c e = absurd cc
fit_past form (height ∷ name ∷ what ∷ []) c e = fit_at_height form (height_of height) (with_word name what) c (few_with_word name what) e
fit_past form (height ∷ name ∷ what ∷ text ∷ []) c e = fit_at_height form (height_of height) (asking form name what text) c (few_asking form name what text) e
fit_past form (height ∷ name ∷ what ∷ text ∷ other ∷ others) c e = absurd cc

fit_behind : (form : Form) (words : List (List ℕ)) (c : Command) → behind_form form words ≡ Some c → IsFit c
fit_behind form [] c e = absurd cc
fit_behind form (word ∷ words) c e = by (is_keep word) (is_every word) (is_past word) e
  where
    by : (b d g : Bool) → (if b then keeping form (kept_mode words) else (if d then every_mode form words else (if g then past_of form words else plain form (mode_of form (word ∷ words))))) ≡ Some c → IsFit c
    by true d g f = fit_keeping form (kept_mode words) c (few_kept words) f
    by false true g f = fit_every form words c f
    by false false true f = fit_past form words c f
    by false false false f = fit_plain form (mode_of form (word ∷ words)) c (few_of_mode form (word ∷ words)) f

pub fit_command : (words : List (List ℕ)) (c : Command) → command_of words ≡ Some c → IsFit c
fit_command [] c e = absurd cc
fit_command (word ∷ words) c e = by (is_bech32 word) e
  where
    by : (b : Bool) → (if b then behind_form Bech32 words else behind_form Hex (word ∷ words)) ≡ Some c → IsFit c
    by true f = fit_behind Bech32 words c f
    by false f = fit_behind Hex (word ∷ words) c f

-- ---- runs that do not begin

-- nothing was taken or written
pub nothing_done : (left w : Option (List ℕ)) → Leaves (source_told left left) (sink_told w w) (λ text. text ≡ [])
nothing_done left w = (refl, nothing w _ refl)

pub rows_left : (rows rows' : Option (List Pair)) (honest' : Type 0) (leaves leaves' : List Pair → Type 0) → Makes (λ before. before) rows rows' → (honest' → (left : List Pair) → leaves' left → leaves left) → AreLeft (keeper_told rows rows' honest' leaves leaves')
rows_left rows rows' honest' leaves leaves' same stop = record { rows_are = same; stop = stop }

pub untouched : (rows : Option (List Pair)) (leaves : List Pair → Type 0) → AreUntouched rows rows leaves leaves
untouched rows leaves = record { rows_are = refl; stop = λ left l. l }

pub same_rows : (rows : Option (List Pair)) → Makes (λ before. before) rows rows
same_rows None = tt
same_rows (Some pairs) = (pairs, refl, refl)

-- ---- runs that come to their end

pub written_to_end : (whole text : List ℕ) (s : Status) → IsWritten whole s text → (s ≡ WriteFault → ⊥) → (s ≡ Done) ⊎ (s ≡ NoMemory)
written_to_end whole text Done h w = inl refl
written_to_end whole text Usage h w = absurd h
written_to_end whole text (BadInput n fault) h w = absurd h
written_to_end whole text (Limit n kind) h w = absurd h
written_to_end whole text ReadFault h w = absurd h
written_to_end whole text WriteFault h w = absurd (w refl)
written_to_end whole text KeepFault h w = absurd h
written_to_end whole text NoMemory h w = inr refl
written_to_end whole text BadStore h w = absurd h
written_to_end whole text (WrongStore is_empty) h w = absurd h
written_to_end whole text NotFound h w = absurd h
written_to_end whole text (NoPast base last) h w = absurd h

-- a keeper without rows has none after a call either
never_some : (rows rows' : Option (List Pair)) (honest' : Type 0) → rows ≡ Some [] → honest' → Makes (λ before. before) rows rows' → AreSome rows rows' honest' → ⊥
never_some rows None honest' none honest m some = true≢false (sym (some.told honest (subst (λ (o : Option (List Pair)). IsSome o) (sym none) refl)))
never_some rows (Some now) honest' none honest m some = some.some (m.2 ∙ some_same (sym m.1 ∙ none))
  where
    some_same : Some m.0 ≡ Some [] → m.0 ≡ []
    some_same e = cc

-- nor does a replay find rows of a keeper that keeps nothing
pub finds_none : (keeps : Bool) (rows rows' : Option (List Pair)) (honest' : Type 0) → (keeps ≡ false) ⊎ (rows ≡ Some []) → honest' → Makes (λ before. before) rows rows' → (keeps ≡ false → ⊥) → AreSome rows rows' honest' → ⊥
finds_none keeps rows rows' honest' (inl unkept) honest m never some = never unkept
finds_none keeps rows rows' honest' (inr none) honest m never some = never_some rows rows' honest' none honest m some

pub unbegun_replay : (s : Status) (some : Type 0) → IsUnbegun s some → (s ≡ WrongStore false → some → ⊥) → (s ≡ KeepFault → ⊥) → (s ≡ Done) ⊎ (s ≡ NoMemory)
unbegun_replay Done some h n k = absurd h
unbegun_replay Usage some h n k = absurd h
unbegun_replay (BadInput m fault) some h n k = absurd h
unbegun_replay (Limit m kind) some h n k = absurd h
unbegun_replay ReadFault some h n k = absurd h
unbegun_replay WriteFault some h n k = absurd h
unbegun_replay KeepFault some h n k = absurd (k refl)
unbegun_replay NoMemory some h n k = inr refl
unbegun_replay BadStore some h n k = absurd h
unbegun_replay (WrongStore is_empty) some h n k = absurd (n (ap WrongStore h.0) h.1)
unbegun_replay NotFound some h n k = absurd h
unbegun_replay (NoPast base last) some h n k = absurd h
