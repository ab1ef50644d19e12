-- What a listener is that only listens: no call of it changes anything of others, and going back restores what it heard.
use Rattle.std.specs.Prelude.{◌≡◌, true, false, Bool, List, []}
use Rattle.base_roles.specs.declared.items.Item.{Item}
use Rattle.base_roles.specs.Hooks.{Tells}
use Rattle.base_roles.specs.Log.{Log}
use Rattle.base_roles.specs.World.{View, Hook, gives}

-- The laws of a listener: hooks that hold plain values and tell of them, whose open marks are these, and records of which it is
-- told what is kept, what stands at the open marks and which items they have. What it heard is a plain value, and each
-- call adds to it what `hears` says.
pub record Listens {S H M K P : Type 0} (holds : S → H → Type 0) (tells : Tells H) (hook_marks : S → M) (kept : S → K) (marks : S → List K)
    (items : K → List Item) (is_kind : Item → Bool) (heard : S → P) (hears : P → Hook → View → P) : Type 0 where
  -- it leaves the ground, and exceeds nothing
  pub quiet : (h : H) → tells.quiet h ≡ true
  -- it logs nothing
  pub logs_nothing : (h h2 : H) (hook : Hook) (v v2 : View) (log : Log) → tells.told h hook v ≡ gives h2 v2 log → log ≡ []
  -- what it keeps stands for some plain value, and of each what it heard is read
  pub some : (s : S) → (h : H) × holds s h
  pub read : H → P
  pub is_read : (s : S) (h : H) → holds s h → heard s ≡ read h
  -- a call adds what it hears
  pub adds : (h h2 : H) (hook : Hook) (v v2 : View) (log : Log) → tells.told h hook v ≡ gives h2 v2 log → read h2 ≡ hears (read h) hook v
  -- no call opens or closes a mark
  pub same_marks : (a b : S) → hook_marks a ≡ hook_marks b → marks a ≡ marks b
  -- going back restores what it heard
  pub restores : (a b : S) → kept a ≡ kept b → heard a ≡ heard b
  -- it has no items
  pub no_items : (k : K) → items k ≡ []
  pub no_kinds : (i : Item) → is_kind i ≡ false
