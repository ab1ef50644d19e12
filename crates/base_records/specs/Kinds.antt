-- Kinds of items that are told apart.
use Rattle.std.specs.Prelude.{◌≡◌, Bool, true, false, ◌||◌, List, Contains}
use Rattle.base_roles.specs.declared.items.Item.{Item}
use Rattle.base_roles.specs.Items.{key_of}

-- no item is of both kinds
abbrev pub AreApart : (Item → Bool) → (Item → Bool) → Type 0
AreApart one other = (i : Item) → one i ≡ true → other i ≡ false

-- each of these items is of a kind
abbrev pub AreOf : (Item → Bool) → List Item → Type 0
AreOf is_kind items = (i : Item) → Contains items i → is_kind i ≡ true

-- of one kind or the other
abbrev pub either : (Item → Bool) → (Item → Bool) → Item → Bool
either one other i = one i || other i

-- a kind is told by the keys of its items
abbrev pub IsByKey : (Item → Bool) → Type 0
IsByKey is_kind = (i : Item) → is_kind (key_of i) ≡ is_kind i
