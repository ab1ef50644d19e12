use Rattle.std.proofs.Common.{◌∙◌, sym, ap, subst}
use Rattle.chain_modules.specs.Kept.{kept_of}
use Rattle.store_records.specs.Plain.{seen}
use Rattle.store_loading.{specs.Loaded.{HaveOwnKeys, HoldItems}, proofs.LoadedLemmas.{are_loaded, new_here, own_keys}}
use Rattle.store_loading.proofs.modules.fill.Goals as goal

pub load_modules-requires : goal.load_modules-requires
load_modules-requires g c = record {
  own = subst HaveOwnKeys (sym (c.deref.ensures.value ∙ c.in_ok-items.ensures)) (own_keys (seen c.args.records) c.requires.ascending);
  empty = new_here c.args.records.ctx c.args.modules.now c.requires.empty;
}

pub returns : goal.returns
returns g c =
    are_loaded (seen c.args.records) c.load_modules.new.modules c.requires.ascending c.ordered.ensures.lists c.ordered.ensures.shared
    (subst (λ items. HoldItems items (kept_of c.load_modules.new.modules)) (c.deref.ensures.value ∙ c.in_ok-items.ensures) c.in_ok-load_modules.ensures.holds)
    (c.load_modules.ensures.ctx ∙ ap (λ ground. ground.ctx) c.requires.empty.ground) c.load_modules.ensures.facts
    c.in_ok-load_modules.ensures.settled c.in_ok-load_modules.ensures.unmarked c.in_ok-load_modules.ensures.unspent c.in_ok-load_modules.ensures.power
