-- The items of all modules: each is of the kind of its module, and how all of them change.
use Rattle.std.proofs.Common.{◌≡◌, ◌∙◌, ℕ, Bool, true, false, List, [], ◌∷◌, ◌++◌, refl, sym, ap, subst, inl, inr, ◌==◌, ◌&&◌, ◌⊎◌, if◌then◌else◌, bytes_eq}
use Rattle.base_roles.specs.{declared.{items.Item.Item, params.{Ctx.Ctx, Params.Params}}, Holdings.Holdings}
use Rattle.base_roles.specs.{Items.{AreChanges, key_of}, Staked.Staked}
use Rattle.base_roles.specs.declared.items.Item.TheVariants as item
use Rattle.rule_modules.specs.{Chain.Stakes, Redelegations.RedelegationLists, Unbondings.UnbondingLists}
use Rattle.base_records.specs.{Kinds.{AreApart, AreOf, IsByKey, either}, Items.rows_of}
use Rattle.base_records.proofs.KindLemmas.{all-changes, by-either, changes-both, of-both}
use Rattle.base_records.proofs.MemberLemmas.{Member, contained, member, member-cases}
use Rattle.base_records.proofs.SameLemmas.{both, bytes, bytes_itself, number, number_itself}
use Rattle.mod_bank.specs.Items as bank
use Rattle.mod_bank.specs.Items.{is_holding}
use Rattle.mod_staking.specs.Items as book
use Rattle.mod_staking.specs.Items.{is_stake, same_flag}
use Rattle.mod_unbonding.specs.Items as unbonding
use Rattle.mod_unbonding.specs.Items.{is_unbonding}
use Rattle.mod_redelegation.specs.Items as redelegate
use Rattle.mod_redelegation.specs.Items.{is_redelegation}
use Rattle.mod_allocation.specs.Items.{is_shared}
use Rattle.mod_periods.specs.Items.{is_record}
use Rattle.mod_signing.specs.{Kept.Kept, Items.is_signing}
use Rattle.mod_signing.proofs.ItemLemmas.{flag, flag_itself, signings_by_key, signings_of_kind}
use Rattle.mod_signing.specs.Items as window
use Rattle.mod_distribution.specs.{Kept.KeptShared, Items.{is_distributed, is_payee}}
use Rattle.mod_distribution.proofs.ItemLemmas.{of_rest, record_items, shared_items}
use Rattle.mod_distribution.proofs.KindLemmas.{payee-by-key, record-by-key, shared-by-key}
use Rattle.mod_distribution.specs.Items as distr
use Rattle.chain_modules.specs.Kept.{KeptState}
use Rattle.chain_modules.specs.Items.{ctx_changes, ctx_items, items_of, items_of_hooks, items_of_stakes, same_params}

-- ---- kinds

abbrev is_head : Item → Bool
is_head (item.Head height time) = true
is_head _ = false

abbrev is_parameters : Item → Bool
is_parameters (item.Parameters params) = true
is_parameters _ = false

abbrev is_ctx : Item → Bool
is_ctx = either is_head is_parameters

abbrev is_entry : Item → Bool
is_entry = either is_unbonding is_redelegation

abbrev is_staking : Item → Bool
is_staking = either is_stake is_entry

abbrev is_hooked : Item → Bool
is_hooked = either is_signing is_distributed

abbrev is_behind_bank : Item → Bool
is_behind_bank = either is_staking is_hooked

abbrev is_behind_ctx : Item → Bool
is_behind_ctx = either is_holding is_behind_bank

-- each is told by the key of an item
head_by_key : IsByKey is_head
head_by_key (item.Head h t) = refl
head_by_key _ = refl

parameters_by_key : IsByKey is_parameters
parameters_by_key (item.Parameters p) = refl
parameters_by_key _ = refl

holding_by_key : IsByKey is_holding
holding_by_key (item.Balance a d n) = refl
holding_by_key (item.Supply d n) = refl
holding_by_key _ = refl

stake_by_key : IsByKey is_stake
stake_by_key (item.Validator v) = refl
stake_by_key (item.Delegation o d n) = refl
stake_by_key _ = refl

unbonding_by_key : IsByKey is_unbonding
unbonding_by_key (item.Unbonding d o es) = refl
unbonding_by_key _ = refl

redelegation_by_key : IsByKey is_redelegation
redelegation_by_key (item.Redelegation d s t es) = refl
redelegation_by_key _ = refl

distributed_by_key : IsByKey is_distributed
distributed_by_key = by-either is_shared (either is_payee is_record) shared-by-key (by-either is_payee is_record payee-by-key record-by-key)

ctx_by_key : IsByKey is_ctx
ctx_by_key = by-either is_head is_parameters head_by_key parameters_by_key

entry_by_key : IsByKey is_entry
entry_by_key = by-either is_unbonding is_redelegation unbonding_by_key redelegation_by_key

staking_by_key : IsByKey is_staking
staking_by_key = by-either is_stake is_entry stake_by_key entry_by_key

hooked_by_key : IsByKey is_hooked
hooked_by_key = by-either is_signing is_distributed signings_by_key distributed_by_key

behind_bank_by_key : IsByKey is_behind_bank
behind_bank_by_key = by-either is_staking is_hooked staking_by_key hooked_by_key

behind_ctx_by_key : IsByKey is_behind_ctx
behind_ctx_by_key = by-either is_holding is_behind_bank holding_by_key behind_bank_by_key

-- ---- kinds apart

heads_apart : AreApart is_head is_parameters
heads_apart (item.Head h t) e = refl
heads_apart _ e = absurd cc

ctx_apart : AreApart is_ctx is_behind_ctx
ctx_apart (item.Head h t) e = refl
ctx_apart (item.Parameters p) e = refl
ctx_apart _ e = absurd cc

holdings_apart : AreApart is_holding is_behind_bank
holdings_apart (item.Balance a d n) e = refl
holdings_apart (item.Supply d n) e = refl
holdings_apart _ e = absurd cc

stakes_apart : AreApart is_stake is_entry
stakes_apart (item.Validator v) e = refl
stakes_apart (item.Delegation o d n) e = refl
stakes_apart _ e = absurd cc

entries_apart : AreApart is_unbonding is_redelegation
entries_apart (item.Unbonding d o es) e = refl
entries_apart _ e = absurd cc

staking_apart : AreApart is_staking is_hooked
staking_apart (item.Validator v) e = refl
staking_apart (item.Delegation o d n) e = refl
staking_apart (item.Unbonding d o es) e = refl
staking_apart (item.Redelegation d s t es) e = refl
staking_apart _ e = absurd cc

signings_apart : AreApart is_signing is_distributed
signings_apart (item.Signing c i r) e = refl
signings_apart _ e = absurd cc

-- ---- each list is of its kind

rows_are : {K V : Type 0} (of : K → V → Item) (kind : Item → Bool) → ((k : K) (v : V) → kind (of k v) ≡ true) → (xs : List (K × V)) → AreOf kind (rows_of of xs)
rows_are of kind h xs i c = by xs (member (rows_of of xs) i c)
  where
    by : (ys : List _) → Member (rows_of of ys) i → kind i ≡ true
    by [] m = absurd m
    by (y ∷ ys) (inl e) = subst (λ j. kind j ≡ true) e (h y.0 y.1)
    by (y ∷ ys) (inr m) = by ys m

of_two : (kind : Item → Bool) (xs ys : List Item) → AreOf kind xs → AreOf kind ys → AreOf kind (xs ++ ys)
of_two kind xs ys a b i c = by (member-cases xs ys i (member (xs ++ ys) i c))
  where
    by : Member xs i ⊎ Member ys i → kind i ≡ true
    by (inl m) = a i (contained xs i m)
    by (inr m) = b i (contained ys i m)

of_one : (kind : Item → Bool) (x : Item) → kind x ≡ true → AreOf kind (x ∷ [])
of_one kind x h i c = by (member (x ∷ []) i c)
  where
    by : Member (x ∷ []) i → kind i ≡ true
    by (inl e) = subst (λ j. kind j ≡ true) e h
    by (inr m) = absurd m

of_holdings : (h : Holdings) → AreOf is_holding (bank.items_of h)
of_holdings h =
    of_two is_holding (rows_of bank.balance_item h.balances) (rows_of bank.supply_item h.supplies) (rows_are bank.balance_item is_holding (λ k n. refl) h.balances) (rows_are bank.supply_item is_holding (λ k n. refl) h.supplies)

of_stake : (s : Staked) → AreOf is_stake (book.items_of s)
of_stake s =
    of_two is_stake (rows_of book.validator_item s.validators) (rows_of book.delegation_item s.delegations) (rows_are book.validator_item is_stake (λ k v. refl) s.validators)
    (rows_are book.delegation_item is_stake (λ k n. refl) s.delegations)

of_unbondings : (u : UnbondingLists) → AreOf is_unbonding (unbonding.items_of u)
of_unbondings u = rows_are unbonding.unbonding_item is_unbonding (λ k es. refl) u

of_redelegations : (r : RedelegationLists) → AreOf is_redelegation (redelegate.items_of r)
of_redelegations r = rows_are redelegate.redelegation_item is_redelegation (λ k es. refl) r

of_entries : (s : Stakes) → AreOf is_entry (unbonding.items_of s.unbondings ++ redelegate.items_of s.redelegations)
of_entries s = of-both is_unbonding is_redelegation (unbonding.items_of s.unbondings) (redelegate.items_of s.redelegations) (of_unbondings s.unbondings) (of_redelegations s.redelegations)

of_stakes : (s : Stakes) → AreOf is_staking (items_of_stakes s)
of_stakes s = of-both is_stake is_entry (book.items_of s.staked) (unbonding.items_of s.unbondings ++ redelegate.items_of s.redelegations) (of_stake s.staked) (of_entries s)

of_distributed : (k : KeptShared) → AreOf is_distributed (distr.items_of k)
of_distributed k = of-both is_shared (either is_payee is_record) _ _ (shared_items k.purses) (of_rest k (shared_items k.purses) (record_items k.rewards))

of_hooks : (h : KeptShared × Kept) → AreOf is_hooked (items_of_hooks h)
of_hooks h = of-both is_signing is_distributed (window.items_of h.1) (distr.items_of h.0) (signings_of_kind h.1) (of_distributed h.0)

of_ctx : (c : Ctx) → AreOf is_ctx (ctx_items c)
of_ctx c = of-both is_head is_parameters (item.Head c.height c.time ∷ []) (item.Parameters c.params ∷ []) (of_one is_head (item.Head c.height c.time) refl) (of_one is_parameters (item.Parameters c.params) refl)

-- ---- parameters that are one, field by field

true_false : true ≡ false → ⊥
true_false h = cc

module _ (p q : Params) where
  abbrev to_power_reduction : Bool
  to_power_reduction = bytes_eq p.bond_denom q.bond_denom && (p.power_reduction == q.power_reduction)

  abbrev to_unbonding_time : Bool
  to_unbonding_time = to_power_reduction && (p.unbonding_time == q.unbonding_time)

  abbrev to_max_validators : Bool
  to_max_validators = to_unbonding_time && (p.max_validators == q.max_validators)

  abbrev to_max_entries : Bool
  to_max_entries = to_max_validators && (p.max_entries == q.max_entries)

  abbrev to_min_commission_rate : Bool
  to_min_commission_rate = to_max_entries && (p.min_commission_rate == q.min_commission_rate)

  abbrev to_community_tax : Bool
  to_community_tax = to_min_commission_rate && (p.community_tax == q.community_tax)

  abbrev to_withdraw_addr_enabled : Bool
  to_withdraw_addr_enabled = to_community_tax && same_flag p.withdraw_addr_enabled q.withdraw_addr_enabled

  abbrev to_signed_blocks_window : Bool
  to_signed_blocks_window = to_withdraw_addr_enabled && (p.signed_blocks_window == q.signed_blocks_window)

  abbrev to_min_signed_per_window : Bool
  to_min_signed_per_window = to_signed_blocks_window && (p.min_signed_per_window == q.min_signed_per_window)

  abbrev to_downtime_jail_duration : Bool
  to_downtime_jail_duration = to_min_signed_per_window && (p.downtime_jail_duration == q.downtime_jail_duration)

  abbrev to_slash_fraction_double_sign : Bool
  to_slash_fraction_double_sign = to_downtime_jail_duration && (p.slash_fraction_double_sign == q.slash_fraction_double_sign)

  abbrev to_slash_fraction_downtime : Bool
  to_slash_fraction_downtime = to_slash_fraction_double_sign && (p.slash_fraction_downtime == q.slash_fraction_downtime)

  abbrev to_max_age_duration : Bool
  to_max_age_duration = to_slash_fraction_downtime && (p.max_age_duration == q.max_age_duration)

  abbrev to_max_age_num_blocks : Bool
  to_max_age_num_blocks = to_max_age_duration && (p.max_age_num_blocks == q.max_age_num_blocks)

  params_yes : same_params p q ≡ true → p ≡ q
  params_yes h =
      let e16 = both to_max_age_num_blocks (bytes_eq p.authority q.authority) h in
      let e15 = both to_max_age_duration (p.max_age_num_blocks == q.max_age_num_blocks) e16.0 in
      let e14 = both to_slash_fraction_downtime (p.max_age_duration == q.max_age_duration) e15.0 in
      let e13 = both to_slash_fraction_double_sign (p.slash_fraction_downtime == q.slash_fraction_downtime) e14.0 in
      let e12 = both to_downtime_jail_duration (p.slash_fraction_double_sign == q.slash_fraction_double_sign) e13.0 in
      let e11 = both to_min_signed_per_window (p.downtime_jail_duration == q.downtime_jail_duration) e12.0 in
      let e10 = both to_signed_blocks_window (p.min_signed_per_window == q.min_signed_per_window) e11.0 in
      let e9 = both to_withdraw_addr_enabled (p.signed_blocks_window == q.signed_blocks_window) e10.0 in
      let e8 = both to_community_tax (same_flag p.withdraw_addr_enabled q.withdraw_addr_enabled) e9.0 in
      let e7 = both to_min_commission_rate (p.community_tax == q.community_tax) e8.0 in
      let e6 = both to_max_entries (p.min_commission_rate == q.min_commission_rate) e7.0 in
      let e5 = both to_max_validators (p.max_entries == q.max_entries) e6.0 in
      let e4 = both to_unbonding_time (p.max_validators == q.max_validators) e5.0 in
      let e3 = both to_power_reduction (p.unbonding_time == q.unbonding_time) e4.0 in
      let e2 = both (bytes_eq p.bond_denom q.bond_denom) (p.power_reduction == q.power_reduction) e3.0 in
      let is_bond_denom = bytes p.bond_denom q.bond_denom e2.0 in
      let is_power_reduction = number p.power_reduction q.power_reduction e2.1 in
      let is_unbonding_time = number p.unbonding_time q.unbonding_time e3.1 in
      let is_max_validators = number p.max_validators q.max_validators e4.1 in
      let is_max_entries = number p.max_entries q.max_entries e5.1 in
      let is_min_commission_rate = number p.min_commission_rate q.min_commission_rate e6.1 in
      let is_community_tax = number p.community_tax q.community_tax e7.1 in
      let is_withdraw_addr_enabled = flag p.withdraw_addr_enabled q.withdraw_addr_enabled e8.1 in
      let is_signed_blocks_window = number p.signed_blocks_window q.signed_blocks_window e9.1 in
      let is_min_signed_per_window = number p.min_signed_per_window q.min_signed_per_window e10.1 in
      let is_downtime_jail_duration = number p.downtime_jail_duration q.downtime_jail_duration e11.1 in
      let is_slash_fraction_double_sign = number p.slash_fraction_double_sign q.slash_fraction_double_sign e12.1 in
      let is_slash_fraction_downtime = number p.slash_fraction_downtime q.slash_fraction_downtime e13.1 in
      let is_max_age_duration = number p.max_age_duration q.max_age_duration e14.1 in
      let is_max_age_num_blocks = number p.max_age_num_blocks q.max_age_num_blocks e15.1 in
      let is_authority = bytes p.authority q.authority e16.1 in
      λ i. record {
        bond_denom = is_bond_denom i;
        power_reduction = is_power_reduction i;
        unbonding_time = is_unbonding_time i;
        max_validators = is_max_validators i;
        max_entries = is_max_entries i;
        min_commission_rate = is_min_commission_rate i;
        community_tax = is_community_tax i;
        withdraw_addr_enabled = is_withdraw_addr_enabled i;
        signed_blocks_window = is_signed_blocks_window i;
        min_signed_per_window = is_min_signed_per_window i;
        downtime_jail_duration = is_downtime_jail_duration i;
        slash_fraction_double_sign = is_slash_fraction_double_sign i;
        slash_fraction_downtime = is_slash_fraction_downtime i;
        max_age_duration = is_max_age_duration i;
        max_age_num_blocks = is_max_age_num_blocks i;
        authority = is_authority i;
      }

params_itself : (p : Params) → same_params p p ≡ true
params_itself p = λ i.
    ((((((((((((((bytes_itself p.bond_denom i && number_itself p.power_reduction i) && number_itself p.unbonding_time i) && number_itself p.max_validators i) && number_itself p.max_entries i) && number_itself p.min_commission_rate i) && number_itself p.community_tax i) && flag_itself p.withdraw_addr_enabled i) && number_itself p.signed_blocks_window i) && number_itself p.min_signed_per_window i) && number_itself p.downtime_jail_duration i) && number_itself p.slash_fraction_double_sign i) && number_itself p.slash_fraction_downtime i) && number_itself p.max_age_duration i) && number_itself p.max_age_num_blocks i) && bytes_itself p.authority i

heads_itself : (a b : ℕ) → ((a == a) && (b == b)) ≡ true
heads_itself a b = λ i. number_itself a i && number_itself b i

-- ---- an item that always stands

-- It changes where it is another.
one_changed : (x y : Item) (same : Bool) → key_of x ≡ key_of y → (same ≡ true → y ≡ x) → (same ≡ false → y ≡ x → ⊥) → AreChanges (x ∷ []) (y ∷ []) (if same then [] else (y, true) ∷ [])
one_changed x y true key is_same differs = all-changes (x ∷ []) (y ∷ []) [] (record {
  once = tt;
  stands_only = λ i m. absurd m;
  stands_all = λ i m ne. absurd (ne (inl (sym (is_same refl) ∙ here y i m)));
  gone_only = λ i m. absurd m;
  gone_all = λ i g. absurd (g.1.2 y (inl refl) (sym key ∙ ap key_of (here x g.0 g.1.0)));
})
  where
    here : (z i : Item) → Member (z ∷ []) i → z ≡ i
    here z i (inl e) = e
    here z i (inr m) = absurd m
one_changed x y false key is_same differs = all-changes (x ∷ []) (y ∷ []) ((y, true) ∷ []) (record {
  once = (λ m. m, tt);
  stands_only = λ i m. (inl (named i true m).0, λ o. differs refl ((named i true m).0 ∙ sym (here x i o)));
  stands_all = λ i m ne. inl (ap (λ z. (z, true)) (here y i m));
  gone_only = λ i m. absurd (true_false (named i false m).1);
  gone_all = λ i g. absurd (g.1.2 y (inl refl) (sym key ∙ ap key_of (here x g.0 g.1.0)));
})
  where
    here : (z i : Item) → Member (z ∷ []) i → z ≡ i
    here z i (inl e) = e
    here z i (inr m) = absurd m

    named : (i : Item) (t : Bool) → Member {A = Item × Bool} ((y, true) ∷ []) (i, t) → (y ≡ i) × (true ≡ t)
    named i t (inl e) = (ap (λ z. z.0) e, ap (λ z. z.1) e)
    named i t (inr m) = absurd m

-- ---- all changes

ctx_changed : (old new : Ctx) → AreChanges (ctx_items old) (ctx_items new) (ctx_changes old new)
ctx_changed old new = changes-both head_by_key parameters_by_key heads_apart (head old ∷ []) (head new ∷ []) (item.Parameters old.params ∷ []) (item.Parameters new.params ∷ []) _ _
    (of_one is_head (head old) refl) (of_one is_head (head new) refl) (of_one is_parameters (item.Parameters old.params) refl) (of_one is_parameters (item.Parameters new.params) refl)
    (one_changed (head old) (head new) ((new.height == old.height) && (new.time == old.time)) refl heads_yes heads_no)
    (one_changed (item.Parameters old.params) (item.Parameters new.params) (same_params new.params old.params) refl (λ h. ap item.Parameters (params_yes new.params old.params h)) parameters_no)
  where
    head : Ctx → Item
    head c = item.Head c.height c.time

    heads_yes : ((new.height == old.height) && (new.time == old.time)) ≡ true → head new ≡ head old
    heads_yes h =
        let e = both (new.height == old.height) (new.time == old.time) h in
        let is_height = number new.height old.height e.0 in
        let is_time = number new.time old.time e.1 in
        λ i. item.Head (is_height i) (is_time i)

    height_of : Item → ℕ
    height_of (item.Head h t) = h
    height_of _ = 0

    time_of : Item → ℕ
    time_of (item.Head h t) = t
    time_of _ = 0

    heads_no : ((new.height == old.height) && (new.time == old.time)) ≡ false → head new ≡ head old → ⊥
    heads_no h e = true_false (sym (heads_itself new.height new.time) ∙ (λ i. (new.height == height_of (e i)) && (new.time == time_of (e i))) ∙ h)

    params_of : Item → Params
    params_of (item.Parameters p) = p
    params_of _ = new.params

    parameters_no : same_params new.params old.params ≡ false → item.Parameters new.params ≡ item.Parameters old.params → ⊥
    parameters_no h e = true_false (sym (params_itself new.params) ∙ (λ i. same_params new.params (params_of (e i))) ∙ h)

pub stakes_changed : (old new : Stakes) (a b c : List (Item × Bool)) → AreChanges (book.items_of old.staked) (book.items_of new.staked) a → AreChanges (unbonding.items_of old.unbondings) (unbonding.items_of new.unbondings) b
    → AreChanges (redelegate.items_of old.redelegations) (redelegate.items_of new.redelegations) c → AreChanges (items_of_stakes old) (items_of_stakes new) (a ++ (b ++ c))
stakes_changed old new a b c h k l =
    changes-both stake_by_key entry_by_key stakes_apart (book.items_of old.staked) (book.items_of new.staked) (unbonding.items_of old.unbondings ++ redelegate.items_of old.redelegations)
    (unbonding.items_of new.unbondings ++ redelegate.items_of new.redelegations) a (b ++ c) (of_stake old.staked) (of_stake new.staked) (of_entries old) (of_entries new) h
    (changes-both unbonding_by_key redelegation_by_key entries_apart (unbonding.items_of old.unbondings) (unbonding.items_of new.unbondings) (redelegate.items_of old.redelegations) (redelegate.items_of new.redelegations) b c
    (of_unbondings old.unbondings) (of_unbondings new.unbondings) (of_redelegations old.redelegations) (of_redelegations new.redelegations) k l)

pub hooks_changed : (old new : KeptShared × Kept) (a b : List (Item × Bool)) → AreChanges (window.items_of old.1) (window.items_of new.1) a → AreChanges (distr.items_of old.0) (distr.items_of new.0) b
    → AreChanges (items_of_hooks old) (items_of_hooks new) (a ++ b)
hooks_changed old new a b h k =
    changes-both signings_by_key distributed_by_key signings_apart (window.items_of old.1) (window.items_of new.1) (distr.items_of old.0) (distr.items_of new.0) a b (signings_of_kind old.1) (signings_of_kind new.1)
    (of_distributed old.0) (of_distributed new.0) h k

pub all_changed : (old new : KeptState) (a b c : List (Item × Bool)) → AreChanges (bank.items_of old.view.bank) (bank.items_of new.view.bank) a → AreChanges (items_of_stakes old.stakes) (items_of_stakes new.stakes) b
    → AreChanges (items_of_hooks (old.shared, old.signings)) (items_of_hooks (new.shared, new.signings)) c → AreChanges (items_of old) (items_of new) (ctx_changes old.view.ctx new.view.ctx ++ (a ++ (b ++ c)))
all_changed old new a b c h k l =
    changes-both ctx_by_key behind_ctx_by_key ctx_apart (ctx_items old.view.ctx) (ctx_items new.view.ctx) (others old) (others new) (ctx_changes old.view.ctx new.view.ctx) (a ++ (b ++ c)) (of_ctx old.view.ctx) (of_ctx new.view.ctx)
    (of_others old) (of_others new) (ctx_changed old.view.ctx new.view.ctx)
    (changes-both holding_by_key behind_bank_by_key holdings_apart (bank.items_of old.view.bank) (bank.items_of new.view.bank) (last old) (last new) a (b ++ c) (of_holdings old.view.bank) (of_holdings new.view.bank) (of_last old) (of_last new) h
    (changes-both staking_by_key hooked_by_key staking_apart (items_of_stakes old.stakes) (items_of_stakes new.stakes) (items_of_hooks (old.shared, old.signings)) (items_of_hooks (new.shared, new.signings)) b c (of_stakes old.stakes) (of_stakes new.stakes)
    (of_hooks (old.shared, old.signings)) (of_hooks (new.shared, new.signings)) k l))
  where
    last : KeptState → List Item
    last s = items_of_stakes s.stakes ++ items_of_hooks (s.shared, s.signings)

    of_last : (s : KeptState) → AreOf is_behind_bank (last s)
    of_last s = of-both is_staking is_hooked (items_of_stakes s.stakes) (items_of_hooks (s.shared, s.signings)) (of_stakes s.stakes) (of_hooks (s.shared, s.signings))

    others : KeptState → List Item
    others s = bank.items_of s.view.bank ++ last s

    of_others : (s : KeptState) → AreOf is_behind_ctx (others s)
    of_others s = of-both is_holding is_behind_bank (bank.items_of s.view.bank) (last s) (of_holdings s.view.bank) (of_last s)
