use Rattle.std.proofs.Common.{◌≡◌, ◌∙◌, ℕ, List, Option, Some, None, replicate, sym}
use Rattle.base_types.specs.{declared.account.Module.Module, Modules.{module_of, user_or_none}}
use Rattle.test_tally.proofs.stakes.addr.Goals as goal

-- the address of bytes is these bytes
user_is : (bytes user : List ℕ) (m : Option Module) → user_or_none bytes m ≡ Some user → user ≡ bytes
user_is bytes user None e = cc
user_is bytes user (Some m) e = absurd cc

pub returns : goal.returns
returns g c = user_is (replicate 20 c.args.byte) c.expect.result (module_of (replicate 20 c.args.byte)) (sym c.of.ensures ∙ c.expect.ensures)
