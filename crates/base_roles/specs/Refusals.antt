-- The numbers of refusals.
use Rattle.std.specs.Prelude.{ℕ}
use Rattle.base_roles.specs.declared.refusal.Refusal.{Refusal}
use Rattle.base_roles.specs.declared.refusal.Refusal.TheVariants.{InsufficientFunds, ModuleRecipient, WrongDenom, NonPositive, NoValidator, ValidatorExists, ConsKeyExists, CommissionRange, CommissionBelowMinimum, CommissionTooSoon, CommissionAboveMax, CommissionStep, MinSelfNotPositive, SelfBelowMinimum, MinSelfNotRaised, NoDelegation, TooManyShares, NoTokens, RateInvalid, UnbondingsFull, SelfRedelegation, Transitive, RedelegationsFull, TinyRedelegation, Jailed, NoEntry, CancelTooMuch, NotJailed, NoSelfDelegation, StillJailed, Tombstoned, NoCommission, PoolTooSmall, NotAuthority, Overflow, WithdrawFixed, TinyDelegation, ParamRange, ParamFixed, FeeUnpaid}

-- the number that printed lines have
abbrev pub refusal_number : Refusal → ℕ
refusal_number InsufficientFunds = 1
refusal_number ModuleRecipient = 2
refusal_number WrongDenom = 3
refusal_number NonPositive = 4
refusal_number NoValidator = 5
refusal_number ValidatorExists = 6
refusal_number ConsKeyExists = 7
refusal_number CommissionRange = 8
refusal_number CommissionBelowMinimum = 9
refusal_number CommissionTooSoon = 10
refusal_number CommissionAboveMax = 11
refusal_number CommissionStep = 12
refusal_number MinSelfNotPositive = 13
refusal_number SelfBelowMinimum = 14
refusal_number MinSelfNotRaised = 15
refusal_number NoDelegation = 16
refusal_number TooManyShares = 17
refusal_number NoTokens = 18
refusal_number RateInvalid = 19
refusal_number UnbondingsFull = 20
refusal_number SelfRedelegation = 21
refusal_number Transitive = 22
refusal_number RedelegationsFull = 23
refusal_number TinyRedelegation = 24
refusal_number Jailed = 25
refusal_number NoEntry = 26
refusal_number CancelTooMuch = 27
refusal_number NotJailed = 28
refusal_number NoSelfDelegation = 29
refusal_number (StillJailed until) = 30
refusal_number Tombstoned = 31
refusal_number NoCommission = 32
refusal_number PoolTooSmall = 33
refusal_number NotAuthority = 34
refusal_number (Overflow over) = 35
refusal_number WithdrawFixed = 36
refusal_number TinyDelegation = 37
refusal_number (ParamRange number) = 38
refusal_number (ParamFixed number) = 39
refusal_number FeeUnpaid = 40
