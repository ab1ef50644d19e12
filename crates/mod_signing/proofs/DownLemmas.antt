-- Downtime by an info, and the numbers that it is told from.
use Rattle.std.proofs.Common.{◌≡◌, ℕ, ◌+◌, ◌-◌, ◌*◌, ◌^◌, ◌<◌, ◌≤◌, Bool, true, false, refl, sym, ap, mul-le-mul, ◌∙◌, arith, ◌&&◌, not, nat_lt}
use Rattle.std.proofs.lemmas.Bool.Decides.{nat_tests}
use Rattle.base_roles.specs.declared.{entities.{SigningInfo.SigningInfo, Validator.Validator}, params.Ctx.Ctx}
use Rattle.base_roles.specs.Staked.{is_unbonded}
use Rattle.base_types.specs.declared.status.BondStatus.{BondStatus}
use Rattle.rule_modules.specs.Window.{Signing, allowed_of, info_of, is_downtime, reset_at}
use Rattle.mod_signing.{specs.Calls.down_of, proofs.RingLemmas.misses_reset}

-- a height above start + window, without the sum
pub later_than : (start window height : ℕ) → nat_lt start (height - window) ≡ nat_lt (start + window) height
later_than start window height = grind (arith, nat_tests)

-- downtime is told by an info and a status
pub down_by : (c : Ctx) (info : SigningInfo) (s : Signing) (v : Validator) → info ≡ info_of c.params.signed_blocks_window s → down_of c info v.status ≡ is_downtime c s v
down_by c info s v e = λ j.
    (ap (λ x. nat_lt x.start (c.height - c.params.signed_blocks_window)) e ∙ later_than s.start c.params.signed_blocks_window c.height) j
    && ap (λ x. nat_lt (allowed_of c.params) x.missed) e j
    && not (is_unbonded v.status)

-- where it is down, the height is at least 2, and the validator is not unbonded
pub down_height : (c : Ctx) (info : SigningInfo) (status : BondStatus) → 1 ≤ c.params.signed_blocks_window → down_of c info status ≡ true → 2 ≤ c.height
down_height c info status some e = by (nat_lt info.start (c.height - c.params.signed_blocks_window)) refl e
  where
    by : (b : Bool) → nat_lt info.start (c.height - c.params.signed_blocks_window) ≡ b → ((b && nat_lt (allowed_of c.params) info.missed) && not (is_unbonded status)) ≡ true → 2 ≤ c.height
    by true h f = let l : info.start < c.height - c.params.signed_blocks_window = grind (arith, nat_tests, h) in omega (arith, l, some)
    by false h f = absurd cc

pub down_status : (c : Ctx) (info : SigningInfo) (status : BondStatus) → down_of c info status ≡ true → is_unbonded status ≡ false
down_status c info status e = by (nat_lt info.start (c.height - c.params.signed_blocks_window) && nat_lt (allowed_of c.params) info.missed) (is_unbonded status) e
  where
    by : (b u : Bool) → (b && not u) ≡ true → u ≡ false
    by true false h = refl
    by true true h = absurd cc
    by false u h = absurd cc

-- a part of a window, in units of 10^-18, is a decimal
pub part_fits : (signed window : ℕ) → signed ≤ 10 ^ 18 → window ≤ 100000 → signed * window < 10 ^ 38
part_fits signed window h k = let most : signed * window ≤ 10 ^ 18 * 100000 = mul-le-mul h k in omega (arith, most)

-- the info after a reset
pub reset_is : (c : Ctx) (info : SigningInfo) (s : Signing) (until : ℕ) → info ≡ info_of c.params.signed_blocks_window s → until ≡ (reset_at c s).jailed_until
    → record info { counted = 0; missed = 0; jailed_until = until } ≡ info_of c.params.signed_blocks_window (reset_at c s)
reset_is c info s until e f = λ j. record {
  start = ap (λ x. x.start) e j;
  counted = 0;
  missed = sym (misses_reset c.params.signed_blocks_window) j;
  jailed_until = f j;
  tombstoned = ap (λ x. x.tombstoned) e j;
}
