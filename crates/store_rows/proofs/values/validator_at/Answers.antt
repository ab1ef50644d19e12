use Rattle.std.proofs.Common.{refl}
use Rattle.store_rows.specs.Reading.{validator_at}
use Rattle.store_rows.proofs.values.validator_at.Goals as goal

pub returns : goal.returns
unfolding validator_at
returns c = rw (c.in_ok-cons.ensures, c.in_ok-status.ensures, c.in_ok-jailed.ensures, c.in_ok-tokens.ensures, c.in_ok-shares.ensures, c.in_ok-commission.ensures, c.in_ok-min_self.ensures, c.in_ok-unbonding_height.ensures, c.in_ok-unbonding_time.ensures) refl
