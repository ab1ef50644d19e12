use Rattle.std.proofs.Common.{◌≡◌, ◌+◌, ◌≤◌, true, length}
use Rattle.base_roles.specs.Orders.{triple_cmp}
use Rattle.base_records.proofs.WalkLemmas.{left_of}
use Rattle.rule_modules.specs.Redelegations.{is_transitive}
use Rattle.mod_redelegation.specs.Own.{own_entries, is_own_or_none}
use Rattle.mod_redelegation.proofs.redelegations.Redelegations.is_transitive.Given as goal

abbrev pub invariant-loop-key : goal.invariant-loop-key
invariant-loop-key g l =
    let own = own_entries l.delegator l.self.lists in
    record {
      is_own : is_own_or_none l.delegator l.after ≡ true;
      told : is_transitive (left_of triple_cmp own l.after) l.delegator l.source ≡ is_transitive l.self.lists l.delegator l.source;
      cost : l.steps + length (left_of triple_cmp own l.after) ≤ l.fn.steps + length own;
    }

abbrev pub decreases-loop-key : goal.decreases-loop-key
decreases-loop-key g l = length (left_of triple_cmp (own_entries l.delegator l.self.lists) l.after)
