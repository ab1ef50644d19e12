use Rattle.std.proofs.Common.{◌≡◌, ◌∙◌, true, false, refl, sym, ap}
use Rattle.base_records.proofs.KindLemmas.{added-at}
use Rattle.mod_signing.{specs.Items.{items_of, is_signing}, proofs.ItemLemmas.{no_signing, signing_added}}
use Rattle.mod_signing.proofs.records.WindowRecords.load.Goals as goal

pub returns-in_default : goal.returns-in_default
returns-in_default g c =
    let none : is_signing c.args.item.now ≡ false = no_signing c.args.item.now c.in_default.not-Signing in
    record {
      kind = sym none;
      added = λ h. let f : false ≡ true = sym none ∙ h in absurd cc;
      other = λ _. refl;
      marks = refl;
      settled = refl;
      spent = λ h. sym c.if-is_spent.false ∙ c.is_spent.ensures ∙ ap (λ b. b.spent) c.self.view_is ∙ h;
      spent_ok = refl;
      spent_err = tt;
    }

pub returns-clause-added : goal.returns-clause-added
returns-clause-added g c = λ _.
    added-at items_of c.self.inside.tables.kept _ c.args.self.now.kept c.put_record.new.self.kept _ c.args.item.now
    (signing_added c.self.inside.tables.kept c.in-Signing.cons (record { info = c.in-Signing.info; ring = c.in-Signing.ring }) c.known.ensures)
    (ap (λ b. b.kept) c.self.view_is) (ap (λ b. b.kept) c.in_ok-put_record-in-Signing.ensures.ok) c.in-Signing.is
