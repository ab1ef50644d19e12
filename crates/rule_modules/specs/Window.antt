-- Missed votes, downtime, and leaving jail (`x/slashing/keeper`: `HandleValidatorSignature`, `AfterValidatorBonded`,
-- `Unjail`).
use Rattle.std.specs.Prelude.{◌≡◌, ◌<◌, ℕ, ◌+◌, ◌-◌, ◌*◌, ◌%◌, ◌==◌, ◌&&◌, min, not, Bool, false, nat_lt, if◌then◌else◌, List, [], ◌∷◌, ◌++◌, map, take, drop, reverse, length, Option, Some, None, Result, Ok, ⊤}
use Rattle.base_decimals.specs.declared.over.Over.{Over}
use Rattle.base_decimals.specs.Decimals.{round_int_of, trunc_of}
use Rattle.base_types.specs.Orders.{cons_cmp}
use Rattle.base_shares.specs.Shares.{value_even_of}
use Rattle.base_roles.specs.declared.entities.SigningInfo.{SigningInfo}
use Rattle.base_roles.specs.declared.entities.Validator.{Validator}
use Rattle.base_roles.specs.declared.facts.Fact.TheVariants as fact
use Rattle.base_roles.specs.declared.messages.Vote.{Vote}
use Rattle.base_roles.specs.declared.params.Ctx.{Ctx}
use Rattle.base_roles.specs.declared.params.Params.{Params}
use Rattle.base_roles.specs.declared.refusal.Refusal.{Refusal}
use Rattle.base_roles.specs.declared.refusal.Refusal.TheVariants.{NoValidator, NoSelfDelegation, SelfBelowMinimum, NotJailed, StillJailed, Tombstoned}
use Rattle.base_roles.specs.Entries.{at, with}
use Rattle.base_roles.specs.Staked.{Staked, validator_at, validator_by_cons, delegation, put_validator, is_unbonded}
use Rattle.base_roles.specs.Flow.{◌>>=◌, ◌>>◌, stop_if, or_stop}
use Rattle.base_roles.specs.World.{View, Told, gives, World, noted}
use Rattle.base_roles.specs.declared.calls.Hook.{Hook}
use Rattle.base_roles.specs.declared.calls.Hook.TheVariants as hook
use Rattle.rule_modules.specs.Amounts.{count_where, seconds}
use Rattle.rule_modules.specs.Slashing.{Slashes, jail_lent}

-- What is known of a consensus address: all votes since the last reset, the latest first, true where one was missed; of
-- those before a change of the window the last that both windows hold.
pub record Signing : Type 0 where
  pub start : ℕ
  pub votes : List Bool
  pub jailed_until : ℕ
  pub tombstoned : Bool

-- the signing records by consensus address
abbrev pub Window : Type 0
Window = List (List ℕ × Signing)

-- the record of a consensus address
abbrev pub signing_of : Window → List ℕ → Option Signing
signing_of i cons = at cons_cmp i cons

-- the misses among the last votes of the window (`MissedBlocksCounter`)
abbrev pub missed_of : ℕ → List Bool → ℕ
missed_of window votes = count_where (λ missed. missed) (take window votes)

-- A ring holds the last votes of the window: read from its next place on, it is them, the earliest first
-- (`IndexOffset % SignedBlocksWindow`).
abbrev pub IsRing : ℕ → List Bool → List Bool → Type 0
IsRing window votes ring =
    let next = length votes % window in
    drop next ring ++ take next ring ≡ reverse (take window votes)

-- what is kept of a record beside its ring (`ValidatorSigningInfo`)
abbrev pub info_of : ℕ → Signing → SigningInfo
info_of window s = record {
  start = s.start;
  counted = length s.votes;
  missed = missed_of window s.votes;
  jailed_until = s.jailed_until;
  tombstoned = s.tombstoned;
}

-- a record begins at a height, or begins again (`AfterValidatorBonded`)
abbrev pub begun_at : ℕ → Option Signing → Signing
begun_at height None = record { start = height; votes = []; jailed_until = 0; tombstoned = false }
begun_at height (Some s) = record s { start = height }

-- The signing record at bonding: a new one, which was never jailed, or the old one with a new start (own).
abbrev pub signing_started : ℕ → List ℕ → Window → Window
signing_started height cons i = with cons_cmp i cons (begun_at height (signing_of i cons))

-- what the window's hooks tell: a record begins where a validator is bonded, and else nothing
abbrev pub window_told : Window → Hook → View → Told Window
window_told i (hook.Bonded v) w = gives (signing_started w.ctx.height v.cons i) w []
window_told i (hook.Created v) w = gives i w []
window_told i (hook.Removed v) w = gives i w []
window_told i (hook.Starting v delegator) w = gives i w []
window_told i (hook.Modifying v delegator shares) w = gives i w []
window_told i (hook.Modified v delegator shares) w = gives i w []
window_told i (hook.Slashing v fraction) w = gives i w []

-- ---- a window that changes

-- a record of whose votes the last so many stay
abbrev pub votes_kept : ℕ → Signing → Signing
votes_kept most s = record s { votes = take most s.votes }

-- The signing records after the window changed: of each the last votes that both windows hold. Where it did not change,
-- nothing does (own).
abbrev pub window_resized : ℕ → ℕ → Window → Window
window_resized old new i = if old == new then i else map (λ e. (e.0, votes_kept (min old new) e.1)) i

-- ---- missed votes

-- as many misses as are allowed: the window less its part that is to be signed (`MinSignedPerWindow`)
abbrev pub allowed_of : Params → ℕ
allowed_of p = p.signed_blocks_window - round_int_of (p.min_signed_per_window * p.signed_blocks_window)

-- Downtime: the window since the start is over, more votes in it were missed than allowed, and the validator is not
-- unbonded (own).
pub record IsDowntime (c : Ctx) (s : Signing) (v : Validator) : Type 0 where
  pub window_over : s.start + c.params.signed_blocks_window < c.height
  pub too_many : allowed_of c.params < missed_of c.params.signed_blocks_window s.votes
  pub may_be_slashed : is_unbonded v.status ≡ false

-- the same as a test
abbrev pub is_downtime : Ctx → Signing → Validator → Bool
is_downtime c s v =
    nat_lt (s.start + c.params.signed_blocks_window) c.height
    && nat_lt (allowed_of c.params) (missed_of c.params.signed_blocks_window s.votes)
    && not (is_unbonded v.status)

-- a record after punished downtime: no votes, and jailed for the downtime's duration
abbrev pub reset_at : Ctx → Signing → Signing
reset_at c s = record s { votes = []; jailed_until = c.time + seconds c.params.downtime_jail_duration }

module _ {S H : Type 0} (lent : Slashes S H) where
  -- A vote counts, and may be punished, in this order: a slash two heights back by the vote's power; the jailing; the
  -- reset (`HandleValidatorSignature`: `distributionHeight`). A vote is skipped where its validator is jailed, has no
  -- record or is gone (own).
  abbrev pub vote_counted : Option Validator → Option Signing → Vote → Window → World S H → Result (⊤ × Window × World S H) Over
  vote_counted None s vote i w = Ok (tt, i, w)
  vote_counted (Some v) None vote i w = Ok (tt, i, w)
  vote_counted (Some v) (Some s) vote i w = if v.jailed then Ok (tt, i, w) else (
      let c = w.view.ctx in
      let now = record s { votes = not vote.signed ∷ s.votes } in
      if is_downtime c now v then (do
        (burned, w1) ← lent.slash vote.cons (c.height - 2) vote.power c.params.slash_fraction_downtime w
        Ok (tt, with cons_cmp i vote.cons (reset_at c now), jail_lent lent vote.cons w1))
      else Ok (tt, with cons_cmp i vote.cons now, w))

  -- A vote of a block (`BeginBlocker`).
  abbrev pub voted : Vote → Window → World S H → Result (⊤ × Window × World S H) Over
  voted vote i w = vote_counted (validator_by_cons (lent.stake w.mine) vote.cons) (signing_of i vote.cons) vote i w

-- what refuses to let a record leave jail: a tombstone, or a time that is not over
abbrev pub may_leave : ℕ → Option Signing → Result ⊤ Refusal
may_leave now None = Ok tt
may_leave now (Some s) = do
  stop_if s.tombstoned Tombstoned
  stop_if (nat_lt now s.jailed_until) (StillJailed s.jailed_until)

-- A validator leaves jail at a time (`Unjail`): its own delegation is worth the least self-delegation, it is jailed, not
-- tombstoned, and its time is over.
abbrev pub unjailed : List ℕ → Window → Staked → View → Result (⊤ × Staked × View) Refusal
unjailed operator i s w = do
  v ← or_stop (validator_at s operator) NoValidator
  held ← or_stop (delegation s operator operator) NoSelfDelegation
  stop_if (nat_lt (trunc_of (value_even_of v.tokens v.shares held)) v.min_self) SelfBelowMinimum
  stop_if (not v.jailed) NotJailed
  may_leave w.ctx.time (signing_of i v.cons)
  Ok (tt, put_validator (record v { jailed = false }) s, noted (fact.Unjailed operator) w)
