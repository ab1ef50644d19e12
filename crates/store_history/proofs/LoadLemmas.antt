-- What is loaded from a keeper.
use Rattle.std.proofs.Common.{◌≡◌, ◌∙◌, ℕ, List, [], Option, Some, None, Ok, Err, Result, sym, ap, subst, IfOk, IfSome, IsErrOf}
use Rattle.base_io.specs.{declared.keeper.KeepFault.KeepFault, Keeping.UnlessLost, Rows.Pair, Changes.Rises}
use Rattle.base_io.specs.declared.keeper.KeepFault.TheVariants as keep
use Rattle.store_history.specs.declared.{history.History.History, loading.OpenFault.OpenFault}
use Rattle.store_history.specs.{declared.loading.OpenFault.TheVariants.{BadHistory, Failed, NoMemory}, Held.Knows}
use Rattle.store_history.specs.{History.{IsHistory, stored_base, visible}, Opened.{OnLoaded, UnlessFailed, open_fault}}

pub told_visible : (told : Option (List Pair)) (xs ys : List Pair) → IfSome told (λ p. xs ≡ p) → ys ≡ visible xs → IfSome told (λ p. ys ≡ visible p)
told_visible None xs ys same is = tt
told_visible (Some rows) xs ys same is = is ∙ ap visible same

pub told_list : (told : Option (List Pair)) (xs ys : List Pair) → IfSome told (λ p. xs ≡ p) → ys ≡ xs → IfSome told (λ p. ys ≡ p)
told_list None xs ys same is = tt
told_list (Some rows) xs ys same is = is ∙ same

pub knows_from : (told : Option (List Pair)) (list : List Pair) (base : Option ℕ) (vis : List Pair) → IfSome told (λ p. list ≡ p) → IfSome told Rises → (Rises list → vis ≡ visible list) → (Rises list → base ≡ stored_base list) → Knows told base vis
knows_from None list base vis same up vis_is base_is = record { base_is = tt; seen_are = tt }
knows_from (Some rows) list base vis same up vis_is base_is =
    let rises : Rises list = subst (λ (ps : List Pair). Rises ps) (sym same) up in
    record { base_is = base_is rises ∙ ap stored_base same; seen_are = vis_is rises ∙ ap visible same }

-- what was found of the list holds of the rows that are told
pub told_so : (told : Option (List Pair)) (list : List Pair) (P : List Pair → Type 0) → IfSome told (λ p. list ≡ p) → IfSome told Rises → (Rises list → P list) → IfSome told P
told_so None list P same up found = tt
told_so (Some rows) list P same up found = subst P same (found (subst (λ (ps : List Pair). Rises ps) (sym same) up))

-- how a history was not read
abbrev pub unread : OpenFault → Result History OpenFault
unread why = Err why

pub open_cause : {X Y : Type 0} (r : Result X KeepFault) (s : Result Y OpenFault) (fault : KeepFault) (R : Type 0) → r ≡ Err fault → s ≡ Err (open_fault fault) → (IsErrOf r keep.Failed → R) → IsErrOf s Failed → R
open_cause r s keep.Failed R e f cause is = cause e
open_cause r s keep.NoMemory R e f cause is = absurd cc

pub open_quiet : {X : Type 0} (r : Result X KeepFault) (why : OpenFault) (fault : KeepFault) (R : Type 0) → r ≡ Err fault → why ≡ open_fault fault → UnlessLost r R → UnlessFailed (unread why) R
open_quiet r why keep.Failed R e f quiet = subst (λ (w : OpenFault). UnlessFailed (unread w) R) (sym f) tt
open_quiet {X = X} r why keep.NoMemory R e f quiet = subst (λ (w : OpenFault). UnlessFailed (unread w) R) (sym f) (subst (λ (r : Result X KeepFault). UnlessLost r R) e quiet)

pub not_failed : {Y : Type 0} (s : Result Y OpenFault) (P : Type 0) → P → UnlessFailed s P
not_failed (Ok y) P p = p
not_failed (Err Failed) P p = tt
not_failed (Err BadHistory) P p = p
not_failed (Err NoMemory) P p = p

pub open_not_bad : {Y : Type 0} (s : Result Y OpenFault) (fault : KeepFault) → s ≡ Err (open_fault fault) → IsErrOf s BadHistory → ⊥
open_not_bad s keep.Failed f is = cc
open_not_bad s keep.NoMemory f is = cc

-- where the keeper failed, or memory was wanting, nothing is said
pub not_loaded : (why : OpenFault) (fault : KeepFault) (P : Type 0) → why ≡ open_fault fault → OnLoaded (unread why) P
not_loaded why keep.Failed P f = subst (λ (w : OpenFault). OnLoaded (unread w) P) (sym f) tt
not_loaded why keep.NoMemory P f = subst (λ (w : OpenFault). OnLoaded (unread w) P) (sym f) tt

pub were_loaded : {Y : Type 0} (s : Result Y OpenFault) (P : Type 0) → P → OnLoaded s P
were_loaded (Ok y) P p = p
were_loaded (Err Failed) P p = tt
were_loaded (Err BadHistory) P p = p
were_loaded (Err NoMemory) P p = tt

-- a history in no rows is of its form
pub never_bad : (list : List Pair) → list ≡ [] → (Rises list → IsHistory list → ⊥) → ⊥
never_bad list none bad = subst (λ (ps : List Pair). Rises ps → IsHistory ps → ⊥) none bad tt (record { head = tt; formed = tt })

-- ---- under an answer

pub if_ok_both : {X E : Type 0} (r : Result X E) (P Q R : X → Type 0) → IfOk r P → IfOk r Q → ((x : X) → P x → Q x → R x) → IfOk r R
if_ok_both (Ok x) P Q R p q leads = leads x p q
if_ok_both (Err e) P Q R p q leads = tt
