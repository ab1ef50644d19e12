use Rattle.std.proofs.Common.{◌∙◌, sym, ap, subst, arith, IsSome, option_copied}
use Rattle.base_types.specs.Orders.{cons_cmp}
use Rattle.base_roles.specs.{Entries.at, Lent.IsBanned}
use Rattle.mod_signing.specs.Stands.{IsSound, bans_kept, infos_of}
use Rattle.mod_signing.proofs.CallLemmas.{ban-banned, ban_is, copied_some, entry_has, entry_there, places_are}
use Rattle.mod_signing.proofs.StandLemmas.{sound_banned}
use Rattle.mod_signing.proofs.signers.WindowSigners.ban.Goals as goal

pub unwrap-entry-requires : goal.unwrap-entry-requires
unwrap-entry-requires g c =
    copied_some c.entry.result (entry_there c.self.inside.tables.kept c.args.cons.now (option_copied c.entry.result) c.entry.ensures.found
    (subst (λ w. IsSome (at cons_cmp (infos_of w.kept) c.args.cons.now)) (sym c.self.view_is) c.requires.known))

pub put_info-requires : goal.put_info-requires
put_info-requires g c =
    let kept = c.self.inside.tables.kept in
    let cons = c.args.cons.now in
    let x = c.unwrap-entry.result.now in
    let h = entry_has kept cons (option_copied c.entry.result) c.entry.ensures.found x (ap option_copied c.unwrap-entry.ensures) in
    let e = places_are kept cons x.info x.places h in
    record { places = omega (arith, e) }

pub returns-clause-told : goal.returns-clause-told
returns-clause-told g c =
    let kept = c.self.inside.tables.kept in
    let cons = c.args.cons.now in
    let x = c.unwrap-entry.result.now in
    let h = entry_has kept cons (option_copied c.entry.result) c.entry.ensures.found x (ap option_copied c.unwrap-entry.ensures) in
    ap (λ t. t.kept) c.in_ok-put_info.ensures.ok ∙ ban_is kept cons x.info x.places h c.args.until ∙ ap (λ w. bans_kept cons c.args.until w.kept) c.self.view_is

pub returns-clause-banned : goal.returns-clause-banned
returns-clause-banned g c =
    let kept = c.self.inside.tables.kept in
    let cons = c.args.cons.now in
    let until = c.args.until in
    let x = c.unwrap-entry.result.now in
    let h = entry_has kept cons (option_copied c.entry.result) c.entry.ensures.found x (ap option_copied c.unwrap-entry.ensures) in
    subst (λ w. IsBanned cons until (infos_of w.kept) (infos_of c.put_info.new.self.kept)) c.self.view_is
    (subst (λ k. IsBanned cons until (infos_of kept) (infos_of k)) (sym (ap (λ t. t.kept) c.in_ok-put_info.ensures.ok)) (ban-banned kept cons x.info x.places h until))

pub returns-clause-sound : goal.returns-clause-sound
returns-clause-sound g c =
    let kept = c.self.inside.tables.kept in
    let cons = c.args.cons.now in
    let until = c.args.until in
    let x = c.unwrap-entry.result.now in
    let h = entry_has kept cons (option_copied c.entry.result) c.entry.ensures.found x (ap option_copied c.unwrap-entry.ensures) in
    subst IsSound (sym (ap (λ t. t.kept) c.in_ok-put_info.ensures.ok ∙ ban_is kept cons x.info x.places h until))
    (sound_banned kept cons until (subst (λ w. IsSound w.kept) (sym c.self.view_is) c.requires.sound))
