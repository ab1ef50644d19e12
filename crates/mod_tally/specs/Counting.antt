-- The count as it goes on: what is known of bonded validators, and the totals so far.
use Rattle.std.specs.Prelude.{◌≡◌, ℕ, ◌+◌, ◌-◌, ◌^◌, ◌<◌, ◌≤◌, if◌then◌else◌, List, [], ◌∷◌, Option, Some, None}
use Rattle.base_types.specs.Orders.{addr_cmp}
use Rattle.base_shares.specs.Shares.{value_even_of}
use Rattle.base_roles.specs.declared.entities.Validator.{Validator}
use Rattle.base_roles.specs.declared.items.Item.{Item}
use Rattle.base_roles.specs.declared.items.Item.TheVariants as item
use Rattle.base_roles.specs.Entries.{at, with}
use Rattle.base_roles.specs.Staked.{is_bonded}
use Rattle.mod_tally.specs.declared.choice.Choice.{Choice}
use Rattle.mod_tally.specs.declared.choice.Choice.TheVariants.{Yes, Abstain, No, Veto}
use Rattle.mod_tally.specs.declared.outcome.Tally.{Tally}
use Rattle.mod_tally.specs.declared.polls.Poll.{Poll}
use Rattle.mod_tally.specs.Ballots.{Chosen}
use Rattle.mod_tally.specs.Tally.{counts}

-- ---- totals

-- the total of a choice
abbrev pub total_for : Tally → Choice → ℕ
total_for t Yes = t.yes
total_for t Abstain = t.abstain
total_for t No = t.no
total_for t Veto = t.veto

-- totals with more for a choice
abbrev pub raised : Choice → ℕ → Tally → Tally
raised Yes more t = record t { yes = t.yes + more }
raised Abstain more t = record t { abstain = t.abstain + more }
raised No more t = record t { no = t.no + more }
raised Veto more t = record t { veto = t.veto + more }

-- no total is there, and so many tokens are bonded
abbrev pub nothing_counted : ℕ → Tally
nothing_counted bonded = record { yes = 0; abstain = 0; no = 0; veto = 0; bonded = bonded }

-- ---- bonded validators

-- what the count knows of validators, by operator
abbrev pub Polls : Type 0
Polls = List (List ℕ × Poll)

-- a validator of which no delegator's ballot was counted yet
abbrev pub poll_of : Validator → Poll
poll_of v = record { tokens = v.tokens; shares = v.shares; left = v.shares }

-- a bonded validator with shares, under its operator
abbrev pub poll_in : Item → Option (List ℕ × Poll)
poll_in (item.Validator v) = if counts v then Some (v.operator, poll_of v) else None
poll_in _ = None

-- the tokens of a bonded validator
abbrev pub bonded_in : Item → ℕ
bonded_in (item.Validator v) = if is_bonded v.status then v.tokens else 0
bonded_in _ = 0

-- what a part of the shares is worth
abbrev pub worth_at : Poll → ℕ → ℕ
worth_at p part = value_even_of p.tokens p.shares part

-- ---- a delegation, then all

-- validators with what is known of them, and the totals
abbrev pub Running : Type 0
Running = Polls × Tally

-- A delegation whose delegator chose: its value is added, and its shares are taken from what its
-- validator's operator votes for. Of one who cast no ballot, or of no validator that counts,
-- nothing.
abbrev pub counted : Option Choice → Option Poll → List ℕ → ℕ → Running → Running
counted (Some choice) (Some p) operator shares r = (
  with addr_cmp r.0 operator (record p { left = p.left - shares }),
  raised choice (worth_at p shares) r.1,
)
counted (Some choice) None operator shares r = r
counted None p operator shares r = r

-- the same of a delegation by what voters chose
abbrev pub delegation_counted : Chosen → (List ℕ × List ℕ) × ℕ → Running → Running
delegation_counted chosen d r = counted (chosen d.0.1) (at addr_cmp r.0 d.0.0) d.0.0 d.1 r

-- delegations, one after another
abbrev pub walked : Chosen → List ((List ℕ × List ℕ) × ℕ) → Running → Running
walked chosen [] r = r
walked chosen (d ∷ ds) r = walked chosen ds (delegation_counted chosen d r)

-- ---- operators

-- what is left of each validator is added for the choice of its operator
abbrev pub left_counted : Option Choice → Poll → Tally → Tally
left_counted None p t = t
left_counted (Some choice) p t = raised choice (worth_at p p.left) t

-- validators, one after another
abbrev pub closed : Chosen → Polls → Tally → Tally
closed chosen [] t = t
closed chosen (e ∷ es) t = closed chosen es (left_counted (chosen e.0) e.1 t)

-- ---- what each step asks

-- a part of the shares that are left has a value, and the total has room for it
pub record HasRoom (choice : Choice) (p : Poll) (shares : ℕ) (t : Tally) : Type 0 where
  pub tokens : p.tokens ≤ 10 ^ 18
  pub some : 0 < p.shares
  pub left : p.left ≤ p.shares
  pub part : shares ≤ p.left
  pub room : total_for t choice + worth_at p shares < 10 ^ 38

abbrev pub CanCount : Option Choice → Option Poll → ℕ → Tally → Type 0
CanCount (Some choice) (Some p) shares t = HasRoom choice p shares t
CanCount (Some choice) None shares t = Unit {0}
CanCount None p shares t = Unit {0}

abbrev pub CanWalk : Chosen → List ((List ℕ × List ℕ) × ℕ) → Running → Type 0
CanWalk chosen [] r = Unit {0}
CanWalk chosen (d ∷ ds) r =
    CanCount (chosen d.0.1) (at addr_cmp r.0 d.0.0) d.1 r.1
    × CanWalk chosen ds (delegation_counted chosen d r)

abbrev pub CanCountLeft : Option Choice → Poll → Tally → Type 0
CanCountLeft None p t = Unit {0}
CanCountLeft (Some choice) p t = HasRoom choice p p.left t

abbrev pub CanClose : Chosen → Polls → Tally → Type 0
CanClose chosen [] t = Unit {0}
CanClose chosen (e ∷ es) t =
    CanCountLeft (chosen e.0) e.1 t × CanClose chosen es (left_counted (chosen e.0) e.1 t)
