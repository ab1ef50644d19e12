-- What the definitions mean.
use Rattle.std.specs.Prelude.{ℕ, ◌≤◌, List}
use Rattle.rule_modules.specs.Evidence.{banned}
use Rattle.rule_modules.specs.Window.{Window, window_resized}
use Rattle.mod_signing.specs.Kept.{Kept}
use Rattle.mod_signing.specs.Resizing.{kept_resized}
use Rattle.mod_signing.specs.Stands.{KeepsSignings, bans_kept}

-- Banning what is kept is banning what it stands for.
abbrev pub BanningCarries : Type 0
BanningCarries = (window : ℕ) (kept : Kept) (i : Window) (cons : List ℕ) (until : ℕ)
    → KeepsSignings window kept i → KeepsSignings window (bans_kept cons until kept) (banned cons until i)

-- Resizing what is kept is resizing what it stands for, from whichever window that is.
abbrev pub ResizingCarries : Type 0
ResizingCarries = (old window : ℕ) (kept : Kept) (i : Window) → 1 ≤ old → 1 ≤ window
    → KeepsSignings old kept i → KeepsSignings window (kept_resized window kept) (window_resized old window i)
