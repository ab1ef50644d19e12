-- Parameters that were replaced over modules: what they keep stands for what is due.
use Rattle.std.proofs.Common.{◌≡◌, ◌∙◌, ℕ, ◌≤◌, List, [], ◌∷◌, ◌++◌, Ok, Err, refl, sym, ap, subst}
use Rattle.base_roles.specs.declared.facts.Fact.TheVariants as fact
use Rattle.base_roles.specs.declared.faults.MessageFault.TheVariants as stop
use Rattle.base_roles.specs.declared.{params.{Ctx.Ctx, Params.Params}, refusal.Refusal.Refusal}
use Rattle.base_roles.specs.{Answers.{AsRuled, StopsForMemory, RefusesAs}, Flow.{◌>>◌}, Ground.SameMoment}
use Rattle.base_roles.specs.World.{View, noted}
use Rattle.base_messages.specs.declared.message.Msg.TheVariants as msg
use Rattle.rule_modules.{proofs.ParameterLemmas.{fixed_same, let_in}, specs.Chain.{State, shared_in, window_in}}
use Rattle.rule_modules.specs.Parameters.{may_update, update_params, with_params, with_updated}
use Rattle.rule_modules.specs.Window.{Window, window_resized}
use Rattle.mod_staking.specs.Registered as book
use Rattle.mod_entries.specs.Kept as entries
use Rattle.mod_distribution.specs.Kept as distr
use Rattle.mod_distribution.specs.Stands.{KeepsShared}
use Rattle.mod_signing.specs.Kept as window
use Rattle.mod_signing.specs.Stands.{KeepsSignings}
use Rattle.chain_modules.specs.declared.modules.Modules.{Modules}
use Rattle.chain_modules.specs.Kept.{KeptState, Keeps, StandsWhole, AreSteady, kept_of, stakes_kept}
use Rattle.chain_modules.{specs.Marks.{MessagesGoOn, behind_of}, proofs.{MarkLemmas.at_moment, SceneLemmas.ground_kept}}
use Rattle.chain_transactions.{specs.Answers.MessageEnds, proofs.EndLemmas.message_ends}
use Rattle.chain_transactions.proofs.{GoLemmas.{all_on, ground_stays}, MessageLemmas.done}

-- modules with other parameters, the signing records in their window, and the fact
pub record IsUpdated {E : Type 0} (authority : List ℕ) (p : Params) (old new : Modules E) : Type 0 where
  pub bank : new.ground.bank.holdings ≡ old.ground.bank.holdings
  pub ctx : new.ground.ctx ≡ record old.ground.ctx { params = p }
  pub facts : new.ground.facts ≡ old.ground.facts ++ fact.ParamsChanged authority ∷ []
  pub stakes : stakes_kept new.stakes ≡ stakes_kept old.stakes
  pub shared : new.hooks.first.first.kept ≡ old.hooks.first.first.kept
  pub signings : (i : Window) → KeepsSignings old.ground.ctx.params.signed_blocks_window old.hooks.second.kept i
      → KeepsSignings p.signed_blocks_window new.hooks.second.kept (window_resized old.ground.ctx.params.signed_blocks_window p.signed_blocks_window i)

module _ {E : Type 0} (authority : List ℕ) (p : Params) (old new : Modules E) (u : IsUpdated authority p old new) where
  updated_keeps : (w : State) → Keeps (kept_of old) w → Keeps (kept_of new) (with_updated authority p w)
  updated_keeps w k = record {
    stakes = k.stakes ∙ sym u.stakes;
    shared = subst (λ x. KeepsShared x (shared_in w)) (sym u.shared) k.shared;
    signings =
        subst (λ (c : Ctx). KeepsSignings c.params.signed_blocks_window new.hooks.second.kept (window_resized w.view.ctx.params.signed_blocks_window p.signed_blocks_window (window_in w))) (sym u.ctx)
        (subst (λ (v : View). KeepsSignings p.signed_blocks_window new.hooks.second.kept (window_resized v.ctx.params.signed_blocks_window p.signed_blocks_window (window_in w))) (sym k.view)
        (u.signings (window_in w) k.signings));
    view = ap (λ (v : View). noted (fact.ParamsChanged authority) (with_params p v)) k.view ∙ (λ i. record { bank = sym u.bank i; ctx = sym u.ctx i; facts = sym u.facts i });
  }

  pub update_ends : may_update authority old.ground.ctx.params p ≡ Ok tt → (w : State) → StandsWhole (kept_of old) w → MessageEnds (update_params authority p w) (kept_of new) (Ok tt)
  update_ends e w s =
      let here : may_update authority w.view.ctx.params p ≡ Ok tt = ap (λ (v : View). may_update authority v.ctx.params p) s.keeps.view ∙ e in
      message_ends (msg.UpdateParams (record { authority = authority; params = p })) (kept_of old) (kept_of new) w (Ok tt) tt s
      (subst (λ r. AsRuled (r >> Ok (with_updated authority p w)) (Ok tt) (λ due a. Keeps (kept_of new) due) StopsForMemory RefusesAs) (sym here) (updated_keeps w s.keeps))

  pub update_steady : may_update authority old.ground.ctx.params p ≡ Ok tt → AreSteady old → new.stakes.staking.power_reduction ≡ old.stakes.staking.power_reduction → AreSteady new
  update_steady e s power =
      let d = done (update_params authority p s.state) (kept_of new) (update_ends e s.state s.stands) in
      let same = fixed_same old.ground.ctx.params p (let_in authority old.ground.ctx.params p e).1 in
      record {
        power = power ∙ s.power ∙ same.1 ∙ sym (ap (λ (c : Ctx). c.params.power_reduction) u.ctx);
        state = d.0;
        stands = d.2;
      }

  pub update_on : may_update authority old.ground.ctx.params p ≡ Ok tt → behind_of new ≡ behind_of old → MessagesGoOn old new
  update_on e behind =
      let same = fixed_same old.ground.ctx.params p (let_in authority old.ground.ctx.params p e).1 in
      record {
        behind = behind;
        moment = subst (λ (c : Ctx). SameMoment old.ground.ctx c) (sym u.ctx) (record { height = refl; time = refl; bond_denom = sym same.0; power_reduction = sym same.1 });
        facts = (fact.ParamsChanged authority ∷ [], u.facts);
      }

-- the window is at least one block
pub window_some : {E : Type 0} (m : Modules E) → AreSteady m → 1 ≤ m.ground.ctx.params.signed_blocks_window
window_some m s = (ground_kept m s.state s.stands.keeps s.stands.sound).params.signed_blocks_window

-- ---- where it is not carried out

-- only signing records changed
pub window_on : {E : Type 0} (old new : Modules E) → new.ground ≡ old.ground → new.stakes ≡ old.stakes → new.hooks.first ≡ old.hooks.first → window.behind new.hooks.second ≡ window.behind old.hooks.second → MessagesGoOn old new
window_on old new ground stakes shared signings =
    at_moment old new (all_on old new (ground_stays old new ground) (ap (λ s. book.behind s.staking) stakes) (ap (λ s. entries.behind s.unbondings) stakes) (ap (λ s. entries.behind s.redelegations) stakes)
    (λ i. (distr.behind (shared i).first, signings i)))

module _ {E : Type 0} (authority : List ℕ) (p : Params) (old : Modules E) (k2 : KeptState) where
  pub update_stops : (why : Refusal) → may_update authority old.ground.ctx.params p ≡ Err why → (w : State) → StandsWhole (kept_of old) w → MessageEnds (update_params authority p w) k2 (Err (stop.Refused why))
  update_stops why e w s =
      let here : may_update authority w.view.ctx.params p ≡ Err why = ap (λ (v : View). may_update authority v.ctx.params p) s.keeps.view ∙ e in
      subst (λ r. MessageEnds (r >> Ok (with_updated authority p w)) k2 (Err (stop.Refused why))) (sym here) refl

  pub update_wants : may_update authority old.ground.ctx.params p ≡ Ok tt → (w : State) → StandsWhole (kept_of old) w → MessageEnds (update_params authority p w) k2 (Err stop.NoMemory)
  update_wants e w s =
      let here : may_update authority w.view.ctx.params p ≡ Ok tt = ap (λ (v : View). may_update authority v.ctx.params p) s.keeps.view ∙ e in
      subst (λ r. MessageEnds (r >> Ok (with_updated authority p w)) k2 (Err stop.NoMemory)) (sym here) tt
