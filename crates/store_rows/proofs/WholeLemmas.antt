-- A row is read as the item that has it, and the row of each item is read as the item.
use Rattle.std.proofs.Common.{◌≡◌, ◌∙◌, ◌⊎◌, inl, inr, ℕ, suc, Bool, true, false, cond, eqb, List, [], ◌∷◌, Option, Some, None, Result, Ok, Err, refl, sym, ap, ap₂, subst, IfOk, IsErrOf, eqb-true}
use Rattle.base_coins.specs.Steps.{◌>>=◌}
use Rattle.base_io.specs.Rows.{Pair}
use Rattle.base_roles.specs.{declared.items.Item.Item, Items.key_of}
use Rattle.base_roles.specs.declared.items.Item.TheVariants as item
use Rattle.store_rows.specs.declared.{fault.RowFault.{RowFault, TheVariants.{BadRow, NoMemory}}, format.Format.Format}
use Rattle.store_rows.specs.{declared.kind.Kind.Kind, Kinds.{kind_of, prefix_of}, Rows.{key_bytes, row_in, value_in}}
use Rattle.store_rows.specs.{Reading.{Gives, byte_at, item_in, item_of, or_bad}, Spelled.HasRow}
use Rattle.store_rows.proofs.ReadsLemmas.{IsBytes, bind_ok, ok_is}
use Rattle.store_rows.proofs.ItemLemmas.{IsRead, head_takes, head_again, parameters_take, parameters_again, balance_takes, balance_again, supply_takes, supply_again, validator_takes, validator_again, delegation_takes, delegation_again, unbonding_takes, unbonding_again, redelegation_takes, redelegation_again, signing_takes, signing_again, purse_takes, purse_again, pool_takes, pool_again, withdraw_takes, withdraw_again, current_takes, current_again, historical_takes, historical_again, start_takes, start_again, event_takes, event_again}
use Rattle.store_rows.specs.declared.kind.Kind.TheVariants as kind

-- ---- the byte of a kind

step : (b n : ℕ) (k : Kind) (others : Option Kind) (x : Kind) → cond (eqb b n) (Some k) others ≡ Some x → ((b ≡ n) × (k ≡ x)) ⊎ (others ≡ Some x)
step b n k others x e = go (eqb b n) refl e
  where
    go : (t : Bool) → eqb b n ≡ t → cond t (Some k) others ≡ Some x → ((b ≡ n) × (k ≡ x)) ⊎ (others ≡ Some x)
    go true is h = inl (eqb-true _ _ is, cc)
    go false is h = inr h

kind_is : (b : ℕ) (x : Kind) → kind_of b ≡ Some x → b ≡ prefix_of x
kind_is b x e =
    elim (step b 1 kind.Head _ x e) [
      | inl it ↦ subst (λ (y : Kind). b ≡ prefix_of y) it.1 it.0
      | inr e ↦
          elim (step b 2 kind.Parameters _ x e) [
            | inl it ↦ subst (λ (y : Kind). b ≡ prefix_of y) it.1 it.0
            | inr e ↦
                elim (step b 16 kind.Balance _ x e) [
                  | inl it ↦ subst (λ (y : Kind). b ≡ prefix_of y) it.1 it.0
                  | inr e ↦
                      elim (step b 17 kind.Supply _ x e) [
                        | inl it ↦ subst (λ (y : Kind). b ≡ prefix_of y) it.1 it.0
                        | inr e ↦
                            elim (step b 32 kind.Validator _ x e) [
                              | inl it ↦ subst (λ (y : Kind). b ≡ prefix_of y) it.1 it.0
                              | inr e ↦
                                  elim (step b 33 kind.Delegation _ x e) [
                                    | inl it ↦ subst (λ (y : Kind). b ≡ prefix_of y) it.1 it.0
                                    | inr e ↦
                                        elim (step b 34 kind.Unbonding _ x e) [
                                          | inl it ↦ subst (λ (y : Kind). b ≡ prefix_of y) it.1 it.0
                                          | inr e ↦
                                              elim (step b 35 kind.Redelegation _ x e) [
                                                | inl it ↦ subst (λ (y : Kind). b ≡ prefix_of y) it.1 it.0
                                                | inr e ↦
                                                    elim (step b 48 kind.Signing _ x e) [
                                                      | inl it ↦ subst (λ (y : Kind). b ≡ prefix_of y) it.1 it.0
                                                      | inr e ↦
                                                          elim (step b 64 kind.Purse _ x e) [
                                                            | inl it ↦ subst (λ (y : Kind). b ≡ prefix_of y) it.1 it.0
                                                            | inr e ↦
                                                                elim (step b 65 kind.Pool _ x e) [
                                                                  | inl it ↦ subst (λ (y : Kind). b ≡ prefix_of y) it.1 it.0
                                                                  | inr e ↦
                                                                      elim (step b 66 kind.Withdraw _ x e) [
                                                                        | inl it ↦ subst (λ (y : Kind). b ≡ prefix_of y) it.1 it.0
                                                                        | inr e ↦
                                                                            elim (step b 80 kind.CurrentPeriod _ x e) [
                                                                              | inl it ↦ subst (λ (y : Kind). b ≡ prefix_of y) it.1 it.0
                                                                              | inr e ↦
                                                                                  elim (step b 81 kind.Historical _ x e) [
                                                                                    | inl it ↦ subst (λ (y : Kind). b ≡ prefix_of y) it.1 it.0
                                                                                    | inr e ↦
                                                                                        elim (step b 82 kind.Start _ x e) [
                                                                                          | inl it ↦ subst (λ (y : Kind). b ≡ prefix_of y) it.1 it.0
                                                                                          | inr e ↦
                                                                                              elim (step b 83 kind.Event _ x e) [
                                                                                                | inl it ↦ subst (λ (y : Kind). b ≡ prefix_of y) it.1 it.0
                                                                                                | inr e ↦
                                                                                                    absurd cc
                                                                                              ]
                                                                                        ]
                                                                                  ]
                                                                            ]
                                                                      ]
                                                                ]
                                                          ]
                                                    ]
                                              ]
                                        ]
                                  ]
                            ]
                      ]
                ]
          ]
    ]

pub kind_again : (x : Kind) → kind_of (prefix_of x) ≡ Some x
kind_again kind.Head = refl
kind_again kind.Parameters = refl
kind_again kind.Balance = refl
kind_again kind.Supply = refl
kind_again kind.Validator = refl
kind_again kind.Delegation = refl
kind_again kind.Unbonding = refl
kind_again kind.Redelegation = refl
kind_again kind.Signing = refl
kind_again kind.Purse = refl
kind_again kind.Pool = refl
kind_again kind.Withdraw = refl
kind_again kind.CurrentPeriod = refl
kind_again kind.Historical = refl
kind_again kind.Start = refl
kind_again kind.Event = refl

-- ---- items

read_by : (f : Format) (k : Kind) (key value : List ℕ) (i : Item) → IsBytes key → IsBytes value → item_in f k key value ≡ Ok i → IsRead f k key value i
read_by f kind.Head key value i key_fits value_fits e = head_takes f key value i value_fits e
read_by f kind.Parameters key value i key_fits value_fits e = parameters_take f key value i value_fits e
read_by f kind.Balance key value i key_fits value_fits e = balance_takes f key value i key_fits value_fits e
read_by f kind.Supply key value i key_fits value_fits e = supply_takes f key value i key_fits value_fits e
read_by f kind.Validator key value i key_fits value_fits e = validator_takes f key value i key_fits value_fits e
read_by f kind.Delegation key value i key_fits value_fits e = delegation_takes f key value i key_fits value_fits e
read_by f kind.Unbonding key value i key_fits value_fits e = unbonding_takes f key value i key_fits value_fits e
read_by f kind.Redelegation key value i key_fits value_fits e = redelegation_takes f key value i key_fits value_fits e
read_by f kind.Signing key value i key_fits value_fits e = signing_takes f key value i key_fits value_fits e
read_by f kind.Purse key value i key_fits value_fits e = purse_takes f key value i key_fits value_fits e
read_by f kind.Pool key value i key_fits value_fits e = pool_takes f key value i value_fits e
read_by f kind.Withdraw key value i key_fits value_fits e = withdraw_takes f key value i key_fits value_fits e
read_by f kind.CurrentPeriod key value i key_fits value_fits e = current_takes f key value i key_fits value_fits e
read_by f kind.Historical key value i key_fits value_fits e = historical_takes f key value i key_fits value_fits e
read_by f kind.Start key value i key_fits value_fits e = start_takes f key value i key_fits value_fits e
read_by f kind.Event key value i key_fits value_fits e = event_takes f key value i key_fits value_fits e

good : {A : Type 0} (o : Option A) (x : A) → or_bad o ≡ Ok x → o ≡ Some x
good None x e = absurd cc
good (Some y) x e = ap (λ z. Some z) (ok_is y x e)

byte_is : (key : List ℕ) (x : ℕ × List ℕ) → byte_at key ≡ Ok x → key ≡ x.0 ∷ x.1
byte_is [] x e = absurd cc
byte_is (b ∷ rest) x e = subst (λ (y : ℕ × List ℕ). b ∷ rest ≡ y.0 ∷ y.1) (ok_is (b, rest) x e) refl

pub item_takes : (f : Format) (key value : List ℕ) (i : Item) → IsBytes key → IsBytes value → item_of f key value ≡ Ok i → HasRow i × (row_in f i ≡ (key, value))
unfolding item_of
item_takes f key value i key_fits value_fits e =
    let (x, here, after) = bind_ok (byte_at key) (λ x. or_bad (kind_of x.0) >>= λ which. item_in f which x.1 value) i e in
    let (k, which, then) = bind_ok (or_bad (kind_of x.0)) (λ which. item_in f which x.1 value) i after in
    let whole = byte_is key x here in
    let fields_fit : IsBytes x.1 = λ n. subst IsBytes whole key_fits (suc n) in
    let it = read_by f k x.1 value i fields_fit value_fits then in
    let key_is : key ≡ key_bytes i = whole ∙ ap₂ (λ (b : ℕ) (bs : List ℕ). b ∷ bs) (kind_is x.0 k (good (kind_of x.0) k which) ∙ ap prefix_of (sym it.kind_is)) it.key_is in
    (it.has, ap₂ (λ (a b : List ℕ). (a, b)) (sym key_is) (sym it.value_is))

pub item_again : (f : Format) (i : Item) → HasRow i → item_of f (key_bytes i) (value_in f i) ≡ Ok i
unfolding item_of
item_again f (item.Head height time) h = head_again f height time h.1.0 h.1.1
item_again f (item.Parameters params) h = parameters_again params h.1
item_again f (item.Balance account denom amount) h = balance_again account denom amount h.0 h.1.0 h.1.1 h.1.2
item_again f (item.Supply denom amount) h = supply_again denom amount h.0 h.1.0 h.1.1
item_again f (item.Validator validator) h = validator_again validator h.1
item_again f (item.Delegation operator delegator shares) h = delegation_again operator delegator shares h.1.0 h.1.1 h.1.2
item_again f (item.Unbonding delegator operator entries) h = unbonding_again delegator operator entries h.1.0 h.1.1 h.0 h.1.2
item_again f (item.Redelegation delegator source target entries) h = redelegation_again delegator source target entries h.1.0 h.1.1 h.1.2 h.0 h.1.3
item_again f (item.Signing cons info ring) h = signing_again f cons info ring h.1.0 h.1.1 h.0
item_again f (item.Purse operator purse) h = purse_again operator purse h.1.0 h.0.0 h.0.1 h.0.2 h.1.1
item_again f (item.Pool coins) h = pool_again coins h.0 h.1
item_again f (item.Withdraw delegator to) h = withdraw_again delegator to h.1.0 h.1.1
item_again f (item.CurrentPeriod operator period) h = current_again operator period h.1.0 h.1.1
item_again f (item.Historical operator period history) h = historical_again operator period history h.1.0 h.1.1 h.0 h.1.2
item_again f (item.Start operator delegator info) h = start_again operator delegator info h.1.0 h.1.1 h.1.2
item_again f (item.Event operator event) h = event_again operator event h.1.0 h.1.1

-- ---- the laws

-- items of one row are one item
pub one_to_one : (f : Format) (i j : Item) → HasRow i → HasRow j → row_in f i ≡ row_in f j → i ≡ j
one_to_one f i j hi hj same =
    ok_is i j (sym (item_again f i hi) ∙ ap (λ (p : Pair). item_of f p.0 p.1) same ∙ item_again f j hj)

-- a row tells the fields of the key alone
pub key_alone : (i : Item) → key_bytes (key_of i) ≡ key_bytes i
key_alone (item.Head height time) = refl
key_alone (item.Parameters params) = refl
key_alone (item.Balance account denom amount) = refl
key_alone (item.Supply denom amount) = refl
key_alone (item.Validator validator) = refl
key_alone (item.Delegation operator delegator shares) = refl
key_alone (item.Unbonding delegator operator entries) = refl
key_alone (item.Redelegation delegator source target entries) = refl
key_alone (item.Signing cons info ring) = refl
key_alone (item.Purse operator purse) = refl
key_alone (item.Pool coins) = refl
key_alone (item.Withdraw delegator to) = refl
key_alone (item.CurrentPeriod operator period) = refl
key_alone (item.Historical operator period history) = refl
key_alone (item.Start operator delegator info) = refl
key_alone (item.Event operator event) = refl

-- ---- what a call that reads a row answers

pub is_found : (f : Format) (key value : List ℕ) (r : Result Item RowFault) → IsBytes key → IsBytes value → Gives (λ i. i) r (item_of f key value) → IfOk r (λ i. HasRow i × (row_in f i ≡ (key, value)))
is_found f key value (Ok i) key_fits value_fits given = item_takes f key value i key_fits value_fits given
is_found f key value (Err fault) key_fits value_fits given = tt

pub is_refused : (f : Format) (key value : List ℕ) (r : Result Item RowFault) → Gives (λ i. i) r (item_of f key value) → IsErrOf r BadRow → (i : Item) → HasRow i → row_in f i ≡ (key, value) → ⊥
is_refused f key value r given bad i has same =
    let read : item_of f key value ≡ Ok i = ap (λ (p : Pair). item_of f p.0 p.1) (sym same) ∙ item_again f i has in
    go r given bad read
  where
    go : (r : Result Item RowFault) → Gives (λ i. i) r (item_of f key value) → IsErrOf r BadRow → item_of f key value ≡ Ok i → ⊥
    go (Ok j) given bad read = cc
    go (Err BadRow) given bad read = cc
    go (Err NoMemory) given bad read = cc

pub is_alone : (f : Format) (key value : List ℕ) (r : Result Item RowFault) → Gives (λ i. i) r (item_of f key value) → IfOk r (λ i. (other : Item) → HasRow other → row_in f other ≡ (key, value) → other ≡ i)
is_alone f key value (Ok i) given = λ other has same. ok_is other i (sym (item_again f other has) ∙ ap (λ (p : Pair). item_of f p.0 p.1) same ∙ given)
is_alone f key value (Err fault) given = tt
