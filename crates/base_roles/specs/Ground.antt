-- A ground as contracts see it, and when it is in order.
use Rattle.std.specs.Prelude.{◌≡◌, ℕ, ◌*◌, ◌^◌, ◌<◌, ◌≤◌, List, ◌++◌}
use Rattle.base_roles.specs.declared.bank.Ground.{Ground}
use Rattle.base_roles.specs.declared.facts.Fact.{Fact}
use Rattle.base_roles.specs.declared.params.Ctx.{Ctx}
use Rattle.base_roles.specs.declared.params.Params.{Params}
use Rattle.base_roles.specs.Holdings.{Holdings, IsBacked}
use Rattle.base_roles.specs.World.{View}

-- a ground over a bank, of which it is told what it holds
abbrev pub seen : {B : Type 0} → (B → Holdings) → Ground B → View
seen holdings g = record { bank = holdings g.bank; ctx = g.ctx; facts = g.facts }

-- the parameters are in their ranges; one is 10^18 units
pub record AreInRange (p : Params) : Type 0 where
  pub power_reduction : 1 ≤ p.power_reduction
  pub power_reduction_most : p.power_reduction ≤ 10 ^ 18
  pub unbonding_time : 1 ≤ p.unbonding_time
  pub unbonding_time_most : p.unbonding_time ≤ 10 ^ 9
  pub max_validators : 1 ≤ p.max_validators
  pub max_validators_most : p.max_validators ≤ 1000
  pub max_entries : 1 ≤ p.max_entries
  pub max_entries_most : p.max_entries ≤ 100
  pub min_commission_rate : p.min_commission_rate ≤ 10 ^ 18
  pub community_tax : p.community_tax ≤ 10 ^ 18
  pub signed_blocks_window : 1 ≤ p.signed_blocks_window
  pub signed_blocks_window_most : p.signed_blocks_window ≤ 100000
  pub min_signed_per_window : p.min_signed_per_window ≤ 10 ^ 18
  pub downtime_jail_duration : p.downtime_jail_duration ≤ 10 ^ 9
  pub slash_fraction_double_sign : p.slash_fraction_double_sign ≤ 10 ^ 18
  pub slash_fraction_downtime : p.slash_fraction_downtime ≤ 10 ^ 18
  pub max_age_duration : p.max_age_duration ≤ 10 ^ 9
  pub max_age_num_blocks : p.max_age_num_blocks < 2 ^ 63

-- the first nanosecond of the year 9900
abbrev pub end_of_blocks : ℕ
end_of_blocks = 250_246_627_200 * 10 ^ 9

-- a call may be made over this ground
pub record IsInOrder (v : View) : Type 0 where
  pub params : AreInRange v.ctx.params
  pub time : v.ctx.time < end_of_blocks
  pub height : v.ctx.height < 2 ^ 63
  pub bank : IsBacked v.bank

-- Whatever a call answers, it leaves the bank's open marks and the context, and facts are only put at the end: so
-- what it changed can be taken back.
pub record CanBeUndone {B M : Type 0} (marks_of : B → M) (old new : Ground B) : Type 0 where
  pub marks : marks_of new.bank ≡ marks_of old.bank
  pub ctx : new.ctx ≡ old.ctx
  pub facts : (more : List Fact) × (new.facts ≡ old.facts ++ more)

-- Calls happen at one moment, under parameters of which those are one that never change: one height and time, one bond
-- denomination, and as many tokens for a unit of power.
pub record SameMoment (old new : Ctx) : Type 0 where
  pub height : new.height ≡ old.height
  pub time : new.time ≡ old.time
  pub bond_denom : new.params.bond_denom ≡ old.params.bond_denom
  pub power_reduction : new.params.power_reduction ≡ old.params.power_reduction
