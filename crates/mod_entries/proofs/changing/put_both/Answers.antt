use Rattle.std.proofs.Common.{◌≡◌, ◌∙◌, Some, ap, sym, subst, if◌then◌else◌}
use Rattle.base_types.{specs.Orders.{addr_cmp, moment_cmp}, proofs.MapLemmas.at-put}
use Rattle.base_roles.specs.Entries.{with}
use Rattle.mod_entries.specs.{Lists.list_at, Queue.{earliest, IsQueue}, Sources.AreSourced, Ways.{queued, unqueued}}
use Rattle.mod_entries.proofs.WayLemmas.{queue-changed, sources-put}
use Rattle.mod_entries.proofs.changing.put_both.Goals as goal

pub returns-in-Ok-clause-queue : goal.returns-in-Ok-clause-queue
returns-in-Ok-clause-queue g c =
    let cmp = g.K.Ord.cmp in
    let made = g.E.Entry.made in
    let key = c.args.key.now in
    let u = c.args.lists.now.entries in
    let queue : c.forget.new.self.queue.entries ≡ queued moment_cmp cmp key (earliest made c.args.list) (unqueued moment_cmp cmp key (earliest made (list_at cmp u key)) c.args.ways.now.queue.entries)
    = ap (λ t. t.entries) c.forget.ensures.queue.rest ∙ c.in-Ok.ensures.queue
    ∙ (λ i. queued moment_cmp cmp key ((c.earliest-now.ensures ∙ ap (earliest made) c.as_slice.ensures) i) (unqueued moment_cmp cmp key (c.stood_at-stood.ensures.first i) (ap (λ t. t.entries) c.in_ok-mark.ensures.queue i))) in
    let lists : c.put_all.new.lists.entries ≡ with cmp u key c.args.list = ap (λ t. t.entries) c.in-Ok.ensures.lists in
    subst (λ es. IsQueue cmp made es c.forget.new.self.queue.entries) (sym lists)
    (subst (IsQueue cmp made (with cmp u key c.args.list)) (sym queue)
    (queue-changed cmp g.met.K.Ord.total g.met.K.EntryKey.exact u (with cmp u key c.args.list) key made (Some c.args.list) c.args.ways.now.queue.entries c.requires.queue c.known-2.ensures.queue
    (λ k. at-put cmp g.met.K.Ord.total u key k c.args.list)))

pub returns-in-Ok-clause-sources : goal.returns-in-Ok-clause-sources
returns-in-Ok-clause-sources g c =
    let cmp = g.K.Ord.cmp in
    let source = g.K.EntryKey.source in
    let key = c.args.key.now in
    let u = c.args.lists.now.entries in
    let sources = ap (λ t. t.entries) c.forget.ensures.sources.rest ∙ c.in-Ok.ensures.sources
    ∙ (λ i. if c.stood_at-stood.result.0 then ap (λ t. t.entries) c.in_ok-mark.ensures.sources i else queued addr_cmp cmp key (Some (source key)) (ap (λ t. t.entries) c.in_ok-mark.ensures.sources i)) in
    let lists : c.put_all.new.lists.entries ≡ with cmp u key c.args.list = ap (λ t. t.entries) c.in-Ok.ensures.lists in
    subst (λ es. AreSourced cmp source es c.forget.new.self.sources.entries) (sym lists)
    (subst (AreSourced cmp source (with cmp u key c.args.list)) (sym sources)
    (sources-put cmp g.met.K.Ord.total g.met.K.EntryKey.exact u (with cmp u key c.args.list) key source c.args.ways.now.sources.entries c.requires.sources c.known-2.ensures.sources
    c.stood_at-stood.result.0 c.stood_at-stood.ensures.stood c.args.list (λ k. at-put cmp g.met.K.Ord.total u key k c.args.list)))
