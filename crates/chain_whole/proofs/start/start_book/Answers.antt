use Rattle.std.proofs.Common.{◌≡◌, ◌∙◌, map, sym, ap, subst}
use Rattle.base_roles.specs.Holdings.{Holdings}
use Rattle.mod_bank.specs.{Booked.{holding, new_book}, Given.{IsBounded, held_by as given_by}}
use Rattle.rule_machine.specs.GenesisConditions.{accounts_at_start}
use Rattle.chain_whole.proofs.StartLemmas.{pair_of, HaveMoney, given_is_held, bounded, all_pairs}
use Rattle.chain_whole.proofs.start.start_book.Goals as goal

pub start-requires : goal.start-requires
start-requires g c =
    let same : c.deref.result.now ≡ map pair_of (accounts_at_start c.args.genesis.now)
    = c.deref.ensures.value ∙ all_pairs c.args.genesis.now c.in_ok-holders.holders.items c.push.new.self.items c.in_ok-delegated_coins.field-0 (c.in_ok-holders.ensures.pairs ∙ ap (map pair_of) c.as_slice.ensures) c.in_ok-delegated_coins.ensures.coins c.in_ok-push.ensures.items in
    record { bounded = subst IsBounded (sym same) (bounded c.args.genesis.now c.requires.starts (subst HaveMoney c.as_slice.ensures c.in_ok-holders.ensures.money)) }

pub returns-in-Ok-clause-book : goal.returns-in-Ok-clause-book
returns-in-Ok-clause-book g c =
    let same : c.deref.result.now ≡ map pair_of (accounts_at_start c.args.genesis.now)
    = c.deref.ensures.value ∙ all_pairs c.args.genesis.now c.in_ok-holders.holders.items c.push.new.self.items c.in_ok-delegated_coins.field-0 (c.in_ok-holders.ensures.pairs ∙ ap (map pair_of) c.as_slice.ensures) c.in_ok-delegated_coins.ensures.coins c.in_ok-push.ensures.items in
    c.in-Ok.ensures.book ∙ ap (λ (h : Holdings). holding h new_book) (ap given_by same ∙ given_is_held (accounts_at_start c.args.genesis.now))
