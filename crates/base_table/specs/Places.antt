-- Places of keys, which stay until the table is settled, and the changes that going back undoes.
use Rattle.std.specs.Prelude.{◌≡◌, ◌+◌, ◌-◌, ℕ, zero, suc, Bool, true, false, List, [], ◌∷◌, ◌++◌, length, Option, Some, None, is_some, unwrap_or, ⊤, if◌then◌else◌}
use Rattle.std.specs.declared.cmp.Ordering.{Ordering}
use Rattle.std.specs.declared.ops.Bound.{Bound}
use Rattle.std.specs.declared.ops.Bound.TheVariants.{Excluded, Unbounded}
use Rattle.std.specs.BTreeMap.{insert_entry, is_at}
use Rattle.std.specs.List.{slice_get}
use Rattle.indexmap.specs.IndexMap.{insert_entry as put_by}
use Rattle.std.specs.Map.{lookup, remove_entry, set_value}
use Rattle.std.specs.Option.{option_to_list}
use Rattle.base_table.specs.declared.undo.Point.{Point}
use Rattle.base_table.specs.declared.slot.Place.{Place}
use Rattle.base_table.specs.declared.slot.Slot.{Slot}
use Rattle.base_table.specs.declared.slot.Slot.TheVariants.{Empty, Filled, Renamed}
use Rattle.base_table.specs.declared.undo.Undo.{Undo}
use Rattle.base_table.specs.Tabled.{key_in, value_at}

-- where the keys above this one start; without one, all keys
abbrev pub bound_above : {K : Type 0} → Option K → Bound K
bound_above None = Unbounded
bound_above (Some key) = Excluded key

-- how many entries there are, of so many, once a key that had a value, or none, has one, or none
abbrev pub len_changed : ℕ → Bool → Bool → ℕ
len_changed n had has = if had then (if has then n else n - 1) else (if has then n + 1 else n)

-- this many times the same
abbrev pub times : {A : Type 0} → ℕ → A → List A
times zero x = []
times (suc n) x = x ∷ times n x

-- what is seen of places: the entries, those at each open mark, the latest mark last, and the touched list
pub record Marked (K V : Type 0) : Type 0 where
  pub entries : List (K × V)
  pub marks : List (List (K × V))
  pub touched : List (K × Option V)

-- each key with what this makes of its value
abbrev pub each : {K X Y : Type 0} → (X → Y) → List (K × X) → List (K × Y)
each f [] = []
each f (p ∷ ps) = (p.0, f p.1) ∷ each f ps

module _ {K V : Type 0} where
  -- the entry that is seen of the place of this key
  abbrev pub entry_of : K → Slot K V → Option (K × V)
  entry_of key Empty = None
  entry_of key (Filled value) = Some (key, value)
  entry_of key (Renamed name value) = Some (name.value, value)

  -- the key under which a value that is put is seen: that of the entry that is seen of this place, or the key as it is given
  abbrev pub name_in : K → K → Slot K V → K
  name_in key stored Empty = key
  name_in key stored (Filled value) = stored
  name_in key stored (Renamed name value) = name.value

  -- a value stands here
  abbrev pub is_full : Slot K V → Bool
  is_full Empty = false
  is_full (Filled value) = true
  is_full (Renamed name value) = true

  -- what stands at a place, and its stamp
  abbrev pub slot_of : Place K V → Slot K V
  slot_of place = place.slot

  abbrev pub stamp_of : Place K V → ℕ
  stamp_of place = place.stamp

  -- what stands at a place, and nothing where there is none
  abbrev pub slot_or : Option (Place K V) → Slot K V
  slot_or None = Empty
  slot_or (Some place) = place.slot

  -- what stands at the places, and their stamps
  abbrev pub slots : List (K × Place K V) → List (K × Slot K V)
  slots ps = each slot_of ps

  abbrev pub stamps : List (K × Place K V) → List (K × ℕ)
  stamps ps = each stamp_of ps

  -- the pair that is listed of this key, where this entry stands under it
  abbrev pub pair_of : K → Option (K × V) → K × Option V
  pair_of key None = (key, None)
  pair_of key (Some entry) = (entry.0, Some entry.1)

  -- the entries that are seen of these places
  abbrev pub filled : List (K × Slot K V) → List (K × V)
  filled [] = []
  filled (p ∷ ps) = option_to_list (entry_of p.0 p.1) ++ filled ps

  module _ (cmp : K → K → Ordering) where
    -- the entries once a key has this value, or none
    abbrev pub changed : K → Option V → List (K × V) → List (K × V)
    changed key None es = remove_entry (is_at (cmp key)) es
    changed key (Some value) es = insert_entry cmp es key value

    -- the value that this pair tells of a key, where it is a pair of the key
    abbrev pub pair_value : K → Option (K × Option V) → Option (Option V)
    pair_value key None = None
    pair_value key (Some pair) = if is_at (cmp key) pair.0 then Some pair.1 else None

    -- the value that the touched list tells of a key at this stamp
    abbrev pub value_stamped : List (K × Option V) → ℕ → K → Option (Option V)
    value_stamped touched stamp key = pair_value key (slice_get touched stamp)

    -- the list once this pair is put into it, unless the key is listed at this stamp
    abbrev pub listed_by : (K → K → Bool) → List (K × Option V) → ℕ → K → K × Option V → List (K × Option V)
    listed_by eq touched stamp key pair = if is_some (value_stamped touched stamp key) then touched else put_by eq touched pair.0 pair.1

    -- what is yet to be listed of a key that is touched
    abbrev pub unlisted : List (K × Option V) → List (K × V) → K → Option (K × Option V)
    unlisted touched es key = if is_some (value_at cmp touched key) then None else Some (key_in cmp es key, value_at cmp es key)

    -- each listed key has a place, which is stamped with where it is listed, counted from here
    abbrev pub AreStamped : ℕ → List (K × Option V) → List (K × ℕ) → Type 0
    AreStamped n [] ss = ⊤
    AreStamped n (t ∷ ts) ss = (lookup (is_at (cmp t.0)) ss ≡ Some n) × AreStamped (suc n) ts ss

    -- what stands at the place of a key: nothing where there is no place
    abbrev pub slot_at : List (K × Slot K V) → K → Slot K V
    slot_at ps key = unwrap_or (lookup (is_at (cmp key)) ps) Empty

    -- the places once that of this key is as it was before a change
    abbrev pub put_back_slot : K → Slot K V → List (K × Slot K V) → List (K × Slot K V)
    put_back_slot key slot ps = set_value (is_at (cmp key)) ps slot

    -- the change that is noted where the place of this key is changed
    abbrev pub undo_of : List (K × Slot K V) → Point → K → Undo K V
    undo_of ps point key = record { key = key; before = slot_at ps key; point = point }

    -- the places before these changes, the earliest first
    abbrev pub rewound : List (Undo K V) → List (K × Slot K V) → List (K × Slot K V)
    rewound [] ps = ps
    rewound (u ∷ us) ps = put_back_slot u.key u.before (rewound us ps)

    -- the entries at each mark that was opened before one of these changes
    abbrev pub marks_below : List (Undo K V) → List (K × Slot K V) → List (List (K × V))
    marks_below [] ps = []
    marks_below (u ∷ us) ps = times u.point.marks (filled (rewound (u ∷ us) ps)) ++ marks_below us ps

    -- the entries at each open mark, this many of which were opened after the last change
    abbrev pub marks_of : List (Undo K V) → ℕ → List (K × Slot K V) → List (List (K × V))
    marks_of us latest ps = marks_below us ps ++ times latest (filled ps)

    -- a place is seen under a key that equals its own
    abbrev pub IsNamed : K → Slot K V → Type 0
    IsNamed key Empty = ⊤
    IsNamed key (Filled value) = ⊤
    IsNamed key (Renamed name value) = is_at (cmp key) name.value ≡ true

    -- each of these places is
    abbrev pub AreNamed : List (K × Slot K V) → Type 0
    AreNamed [] = ⊤
    AreNamed (p ∷ ps) = IsNamed p.0 p.1 × AreNamed ps

    -- these places are well named, and the point knows how many entries are seen of them
    pub record Fits (point : Point) (ps : List (K × Slot K V)) : Type 0 where
      pub len : point.len ≡ length (filled ps)
      pub named : AreNamed ps

    -- so it is before each of these changes
    abbrev pub FitBelow : List (Undo K V) → List (K × Slot K V) → Type 0
    FitBelow [] ps = ⊤
    FitBelow (u ∷ us) ps = Fits u.point (rewound (u ∷ us) ps) × FitBelow us ps

    -- each of these changes has its place
    abbrev pub HavePlaces : List (Undo K V) → List (K × Slot K V) → Type 0
    HavePlaces [] ps = ⊤
    HavePlaces (u ∷ us) ps = (is_some (lookup (is_at (cmp u.key)) ps) ≡ true) × HavePlaces us ps

    -- What a change of a key finds and makes, where the key has this value from then on, or none: what stood at its place,
    -- what is yet to be listed of it, and the places.
    pub record IsExchanged (key : K) (value : Option V) (touched : List (K × Option V)) (old new : List (K × Place K V)) (before : Slot K V) (told : Option (K × Option V)) : Type 0 where
      pub found : before ≡ slot_at (slots old) key
      pub made : (slot : Slot K V) × (slots new ≡ insert_entry cmp (slots old) key slot)
      pub seen : filled (slots new) ≡ changed key value (filled (slots old))
      pub named : AreNamed (slots new)
      pub listed : told ≡ unlisted touched (filled (slots old)) key
      pub stamped : AreStamped 0 (touched ++ option_to_list told) (stamps new)

    -- what is always true of places, of the noted changes, of the latest point and of the number of open marks
    pub record IsKept (us : List (Undo K V)) (here : Point) (depth : ℕ) (ps : List (K × Slot K V)) : Type 0 where
      pub count : length (marks_of us here.marks ps) ≡ depth
      pub closed : depth ≡ 0 → us ≡ []
      pub fits : Fits here ps
      pub below : FitBelow us ps
      pub placed : HavePlaces us ps
