-- A book as contracts see it, and what its marks and its two tables do.
use Rattle.std.specs.Prelude.{◌≡◌, ℕ, Bool, true, false, List, [], ◌∷◌, ◌++◌, length}
use Rattle.std.specs.List.{AllByRecursion}
use Rattle.std.specs.List.Sorted.{IsStrictlySortedBy}
use Rattle.std.specs.Map.{keys_of}
use Rattle.base_types.specs.declared.account.Account.{Account}
use Rattle.base_types.specs.Denom.{is_denom}
use Rattle.base_types.specs.Orders.{denom_cmp}
use Rattle.base_table.specs.Tabled.{Tabled}
use Rattle.base_coins.specs.Coins.{Money, with_amount}
use Rattle.base_roles.specs.Holdings.{Holdings, Balances, no_holdings}
use Rattle.base_roles.specs.Orders.{place_cmp}
use Rattle.base_records.specs.Marks.{side_by_side}

-- what a book is seen as
pub record Booked : Type 0 where
  -- balances and supplies
  pub holdings : Holdings
  -- the holdings at each open mark, the latest last
  pub marks : List Holdings
  -- the holdings at the last settling, and before the first those of a new book
  pub settled : Holdings
  -- whether memory was wanting in a change
  pub spent : Bool

-- what stays behind while coins move: the open marks, and what was settled
pub record Behind : Type 0 where
  pub marks : List Holdings
  pub settled : Holdings

abbrev pub behind : Booked → Behind
behind b = record { marks = b.marks; settled = b.settled }

-- a new book
abbrev pub new_book : Booked
new_book = record { holdings = no_holdings; marks = []; settled = no_holdings; spent = false }

-- a book with other holdings
abbrev pub holding : Holdings → Booked → Booked
holding h b = record b { holdings = h }

-- a book once memory was wanting in a change
abbrev pub spent_now : Booked → Booked
spent_now b = record b { spent = true }

-- a book with one more mark
abbrev pub with_mark : Booked → Booked
with_mark b = record b { marks = b.marks ++ b.holdings ∷ [] }

-- the new book is the old one gone back to its latest mark, which is closed
pub record IsGoneBack (old new : Booked) : Type 0 where
  pub restored : new.marks ++ new.holdings ∷ [] ≡ old.marks
  pub rest : new ≡ record old { holdings = new.holdings; marks = new.marks }

-- the new book is the old one with its latest mark closed
pub record IsForgotten (old new : Booked) : Type 0 where
  pub closed : (last : Holdings) × (new.marks ++ last ∷ [] ≡ old.marks)
  pub rest : new ≡ record old { marks = new.marks }

-- the holdings with this supply of a denomination
abbrev pub with_supply : Holdings → List ℕ → ℕ → Holdings
with_supply h d n = record { balances = h.balances; supplies = with_amount h.supplies d n }

-- the keys of balances and of supplies ascend
pub record AreInOrder (h : Holdings) : Type 0 where
  pub balances : IsStrictlySortedBy place_cmp (keys_of h.balances)
  pub supplies : IsStrictlySortedBy denom_cmp (keys_of h.supplies)

-- balances and supplies, made one
abbrev pub holdings_of : Balances → Money → Holdings
holdings_of balances supplies = record { balances = balances; supplies = supplies }

-- what a book over two tables is seen as
abbrev pub booked : Tabled (Account × List ℕ) ℕ → Tabled (List ℕ) ℕ → Bool → Booked
booked balances supplies spent = record {
  holdings = record { balances = balances.entries; supplies = supplies.entries };
  marks = side_by_side holdings_of balances.marks supplies.marks;
  settled = record { balances = balances.settled; supplies = supplies.settled };
  spent = spent;
}

-- each key's denomination is a name
abbrev pub AreNamed : Balances → Type 0
AreNamed [] = Unit {0}
AreNamed (e ∷ es) = (is_denom e.0.1 ≡ true) × AreNamed es

-- the same at each mark
abbrev pub AreNamedAtMarks : List Balances → Type 0
AreNamedAtMarks ms = AllByRecursion AreNamed ms

-- two tables that are marked together
pub record HaveSameMarks (balances : Tabled (Account × List ℕ) ℕ) (supplies : Tabled (List ℕ) ℕ) : Type 0 where
  pub depth : length balances.marks ≡ length supplies.marks
  pub named : AreNamed balances.entries
  pub named_at_marks : AreNamedAtMarks balances.marks
