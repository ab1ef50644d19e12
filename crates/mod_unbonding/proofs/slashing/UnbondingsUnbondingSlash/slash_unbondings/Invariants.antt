use Rattle.std.proofs.Common.{◌≡◌, drop}
use Rattle.base_roles.specs.{Ground.{seen, CanBeUndone}, Orders.pair_cmp}
use Rattle.mod_entries.specs.{Kept.behind, Walked.stepped}
use Rattle.mod_unbonding.{specs.Walked.slashed_in, proofs.SlashedLemmas.IsSlashing}
use Rattle.mod_unbonding.proofs.slashing.UnbondingsUnbondingSlash.slash_unbondings.Given as goal

abbrev pub invariant-loop-key : goal.invariant-loop-key
invariant-loop-key g l =
    let holdings = g.B.Bank.holdings in
    let change = slashed_in l.infraction l.factor in
    record {
      told : stepped pair_cmp change (drop l.key-index l.key-items) l.self.lists (seen holdings l.g) ≡ stepped pair_cmp change l.key-items l.fn.self.lists (seen holdings l.fn.g);
      stands : IsSlashing l.fn.self.lists (seen holdings l.fn.g) l.self.lists (seen holdings l.g);
      undone : CanBeUndone g.B.Bank.marks l.fn.g l.g;
      bank : g.B.Bank.most_steps l.g.bank ≡ g.B.Bank.most_steps l.fn.g.bank;
      behind : behind l.self ≡ behind l.fn.self;
    }
