-- How the signing records that are kept stand for plain ones, in which a vote is forgotten only where the window changes; and
-- what the window's hooks tell.
use Rattle.std.specs.Prelude.{◌≡◌, ℕ, ◌≤◌, false, true, List, [], ◌∷◌, map, Option, Some, None, ⊤}
use Rattle.base_roles.specs.declared.entities.SigningInfo.{SigningInfo}
use Rattle.base_roles.specs.Hooks.{Tells}
use Rattle.base_roles.specs.World.{Told, gives, exceeds}
use Rattle.rule_modules.specs.Window.{Signing, Window, IsRing, info_of, window_told}
use Rattle.mod_signing.specs.Kept.{Signed, Kept, signed_of, with_signed}

-- the plain records, in which a vote is forgotten only where the window changes
abbrev pub AllVotes : Type 0
AllVotes = Window

-- A record stands for a plain one: its info is that of all votes since the last reset, and its ring holds the last of them.
pub record KeepsVotes (window : ℕ) (k : Signed) (s : Signing) : Type 0 where
  pub info : k.info ≡ info_of window s
  pub ring : IsRing window s.votes k.ring

-- the records that are kept stand for plain ones, address by address
abbrev pub KeepsSignings : ℕ → Kept → Window → Type 0
KeepsSignings window [] [] = ⊤
KeepsSignings window [] (s ∷ ss) = ⊥
KeepsSignings window (k ∷ ks) [] = ⊥
KeepsSignings window (k ∷ ks) (s ∷ ss) = (k.0 ≡ s.0) × KeepsVotes window k.1 s.1 × KeepsSignings window ks ss

-- the window's own condition: its records stand for some plain ones
abbrev pub IsKept : ℕ → Kept → Type 0
IsKept window kept = (i : Window) × KeepsSignings window kept i

-- the same where no parameters are at hand: of one of the windows that parameters allow
pub record IsSound (k : Kept) : Type 0 where
  pub window : ℕ
  pub some : 1 ≤ window
  pub most : window ≤ 100_000
  pub kept : IsKept window k

-- ---- hooks

-- what the hooks hold: plain records, and how many of the last votes are kept of each
pub record Signings : Type 0 where
  pub window : ℕ
  pub records : Window

abbrev pub HoldsSignings : Kept → Signings → Type 0
HoldsSignings kept h = KeepsSignings h.window kept h.records

-- what is told of plain records, with the window
abbrev pub same_window : ℕ → Told Window → Told Signings
same_window window (gives i v log) = gives (record { window = window; records = i }) v log
same_window window (exceeds over) = exceeds over

-- what the window's hooks tell: they stand for all lists, owe nothing, and never exceed
abbrev pub signings_told : Tells Signings
signings_told = record {
  told = λ h hook v. same_window h.window (window_told h.records hook v);
  stands = λ h l. Unit {0};
  owes = λ h. None;
  height = λ h. 0;
  quiet = λ h. false;
  sure = λ h. true;
  most_steps = λ h. 4;
}

-- ---- signers

-- the infos by consensus address
abbrev pub infos_of : Kept → List (List ℕ × SigningInfo)
infos_of kept = map (λ e. (e.0, e.1.info)) kept

-- a record, where there is one, with its info banned until a moment
abbrev pub bans_if : Option Signed → List ℕ → ℕ → Kept → Kept
bans_if None cons until kept = kept
bans_if (Some s) cons until kept = with_signed cons (record s { info = record s.info { jailed_until = until; tombstoned = true } }) kept

-- the record of a consensus address is banned until a moment
abbrev pub bans_kept : List ℕ → ℕ → Kept → Kept
bans_kept cons until kept = bans_if (signed_of kept cons) cons until kept
