use Rattle.std.proofs.Common.{◌≡◌, ◌∙◌, List, ◌++◌, map, sym, ap, subst, filter_map}
use Rattle.base_coins.specs.Coins.{sorted_coins, stands_twice}
use Rattle.mod_bank.specs.Items.{items_of}
use Rattle.base_roles.specs.declared.items.Item.{Item}
use Rattle.chain_whole.specs.Chained.{coin_in}
use Rattle.chain_whole.proofs.ListingLemmas.{pair, coins_of_items, money_of, sorted_same, once, below_of, is_list, AllBelow}
use Rattle.chain_whole.proofs.listing.supply_of.Goals as goal

pub of-requires : goal.of-requires
of-requires g c =
    let h = c.args.book.now.holdings in
    let pairs : map pair c.in_ok-coins.coins.items ≡ h.supplies =
    ap (map pair) (c.in_ok-coins.ensures ∙ ap (filter_map coin_in) (c.deref.ensures.value ∙ c.in_ok-append_book.ensures ∙ ap (λ (l : List Item). l ++ items_of h) c.new-items.ensures.items)) ∙ coins_of_items h in
    below_of c.in_ok-coins.coins.items (subst AllBelow (sym pairs) (money_of h c.requires.backed).below)

pub unwrap-requires : goal.unwrap-requires
unwrap-requires g c =
    let h = c.args.book.now.holdings in
    let pairs : map pair c.in_ok-coins.coins.items ≡ h.supplies =
    ap (map pair) (c.in_ok-coins.ensures ∙ ap (filter_map coin_in) (c.deref.ensures.value ∙ c.in_ok-append_book.ensures ∙ ap (λ (l : List Item). l ++ items_of h) c.new-items.ensures.items)) ∙ coins_of_items h in
    is_list c.of.result (map pair c.in_ok-coins.coins.items) c.of.ensures.twice (ap stands_twice pairs ∙ once h.supplies (money_of h c.requires.backed))

pub returns : goal.returns
returns g c =
    let h = c.args.book.now.holdings in
    let pairs : map pair c.in_ok-coins.coins.items ≡ h.supplies =
    ap (map pair) (c.in_ok-coins.ensures ∙ ap (filter_map coin_in) (c.deref.ensures.value ∙ c.in_ok-append_book.ensures ∙ ap (λ (l : List Item). l ++ items_of h) c.new-items.ensures.items)) ∙ coins_of_items h in
    let given : c.unwrap.result ≡ sorted_coins (map pair c.in_ok-coins.coins.items) = rw c.unwrap.ensures at c.of.ensures.coins in
    given ∙ ap sorted_coins pairs ∙ sorted_same h.supplies (money_of h c.requires.backed)
