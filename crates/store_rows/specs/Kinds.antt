-- The kinds of items, and the byte with which the keys of each begin.
use Rattle.std.specs.Prelude.{ℕ, ◌==◌, if◌then◌else◌, Option, Some, None}
use Rattle.store_rows.specs.declared.kind.Kind.{Kind}
use Rattle.store_rows.specs.declared.kind.Kind.TheVariants as kind

-- in hexadecimal digits 01, 02, 10, 11, 20 to 23, 30, 40 to 42 and 50 to 53
abbrev pub prefix_of : Kind → ℕ
prefix_of kind.Head = 1
prefix_of kind.Parameters = 2
prefix_of kind.Balance = 16
prefix_of kind.Supply = 17
prefix_of kind.Validator = 32
prefix_of kind.Delegation = 33
prefix_of kind.Unbonding = 34
prefix_of kind.Redelegation = 35
prefix_of kind.Signing = 48
prefix_of kind.Purse = 64
prefix_of kind.Pool = 65
prefix_of kind.Withdraw = 66
prefix_of kind.CurrentPeriod = 80
prefix_of kind.Historical = 81
prefix_of kind.Start = 82
prefix_of kind.Event = 83

-- the kind whose keys begin with this byte
abbrev pub kind_of : ℕ → Option Kind
kind_of byte =
    if byte == 1 then Some kind.Head
    else (if byte == 2 then Some kind.Parameters
    else (if byte == 16 then Some kind.Balance
    else (if byte == 17 then Some kind.Supply
    else (if byte == 32 then Some kind.Validator
    else (if byte == 33 then Some kind.Delegation
    else (if byte == 34 then Some kind.Unbonding
    else (if byte == 35 then Some kind.Redelegation
    else (if byte == 48 then Some kind.Signing
    else (if byte == 64 then Some kind.Purse
    else (if byte == 65 then Some kind.Pool
    else (if byte == 66 then Some kind.Withdraw
    else (if byte == 80 then Some kind.CurrentPeriod
    else (if byte == 81 then Some kind.Historical
    else (if byte == 82 then Some kind.Start
    else (if byte == 83 then Some kind.Event
    else None)))))))))))))))
