-- Evidence of two signatures at one height (`x/evidence/keeper`: `HandleEquivocationEvidence`).
use Rattle.std.specs.Prelude.{ℕ, ◌-◌, ◌&&◌, ◌||◌, Bool, true, false, nat_lt, if◌then◌else◌, List, Option, Some, None, option_map, Result, Ok}
use Rattle.base_decimals.specs.declared.over.Over.{Over}
use Rattle.base_types.specs.Orders.{cons_cmp}
use Rattle.base_roles.specs.declared.entities.Validator.{Validator}
use Rattle.base_roles.specs.declared.facts.Fact.TheVariants as fact
use Rattle.base_roles.specs.declared.messages.Evidence.{Evidence}
use Rattle.base_roles.specs.declared.params.Ctx.{Ctx}
use Rattle.base_roles.specs.Entries.{with}
use Rattle.base_roles.specs.Staked.{validator_by_cons, is_unbonded}
use Rattle.base_roles.specs.Flow.{◌>>=◌}
use Rattle.base_roles.specs.World.{World, noted, over_view}
use Rattle.rule_modules.specs.Amounts.{seconds}
use Rattle.rule_modules.specs.Slashing.{Slashes, jail_lent}
use Rattle.rule_modules.specs.Window.{Signing, Window, signing_of}

-- 9999-12-31T23:59:59Z (`evidencetypes.DoubleSignJailEndTime`)
abbrev pub forever : ℕ
forever = seconds 253_402_300_799

-- what a call is told that is lent signing records: whether one is tombstoned, where there is one, and what banning leaves
pub record Bans (N : Type 0) : Type 0 where
  pub tombstoned : N → List ℕ → Option Bool
  pub ban : List ℕ → ℕ → N → N

-- a record, where there is one, is banned until a moment
abbrev pub banned_of : Option Signing → List ℕ → ℕ → Window → Window
banned_of None cons until i = i
banned_of (Some s) cons until i = with cons_cmp i cons (record s { jailed_until = until; tombstoned = true })

-- a consensus address is banned until a moment (`JailUntil`, `Tombstone`)
abbrev pub banned : List ℕ → ℕ → Window → Window
banned cons until i = banned_of (signing_of i cons) cons until i

-- the window as such a lender
abbrev pub window_bans : Bans Window
window_bans = record {
  tombstoned = λ i cons. option_map (λ s. s.tombstoned) (signing_of i cons);
  ban = banned;
}

-- older than both limits (`MaxAgeDuration`, `MaxAgeNumBlocks`)
abbrev pub is_too_old : Ctx → Evidence → Bool
is_too_old c e =
    nat_lt (seconds c.params.max_age_duration) (c.time - e.time) && nat_lt c.params.max_age_num_blocks (c.height - e.height)

module _ {S H N : Type 0} (lent : Slashes S H) (bans : Bans N) where
  -- jailed, where it is known and not jailed yet
  abbrev pub jailed_if_not : Option Validator → List ℕ → World S H → World S H
  jailed_if_not None cons w = w
  jailed_if_not (Some v) cons w = if v.jailed then w else jail_lent lent cons w

  -- Evidence against a validator is ignored where it is unbonded, has no record or is tombstoned, or the evidence is too
  -- old. Else, in this order: a slash one height back by the evidence's power; jailing where it is not jailed then; a ban
  -- for ever, told as a fact.
  abbrev pub evidence_weighed : Option Validator → Option Bool → Evidence → N → World S H → Result (Bool × N × World S H) Over
  evidence_weighed None t e n w = Ok (false, n, w)
  evidence_weighed (Some v) None e n w = Ok (false, n, w)
  evidence_weighed (Some v) (Some t) e n w = if is_unbonded v.status || t || is_too_old w.view.ctx e then Ok (false, n, w) else (do
    (burned, w1) ← lent.slash e.cons (e.height - 1) e.power w.view.ctx.params.slash_fraction_double_sign w
    let w2 = jailed_if_not (validator_by_cons (lent.stake w1.mine) e.cons) e.cons w1
    Ok (true, bans.ban e.cons forever n, over_view (noted (fact.Tombstoned v.operator)) w2))

  -- Evidence of a block (`HandleEquivocationEvidence`). Answers whether it was punished.
  abbrev pub equivocation_handled : Evidence → N → World S H → Result (Bool × N × World S H) Over
  equivocation_handled e n w =
      evidence_weighed (validator_by_cons (lent.stake w.mine) e.cons) (bans.tombstoned n e.cons) e n w
