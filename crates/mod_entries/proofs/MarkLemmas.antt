-- Tables that are marked together.
use Rattle.std.proofs.Common.{◌≡◌, ◌≢◌, ◌∙◌, ℕ, ◌+◌, ◌<◌, Bool, List, [], ◌∷◌, ◌++◌, length, refl, sym, ap, subst, Ordering}
use Rattle.std.{specs.{BTreeMap.is_at, List.AllByRecursion}, proofs.lemmas.List.{length_push, same_from_push}}
use Rattle.std.proofs.lemmas.{List.Elements.All-from_recursion, Map.Views.{All-keys-insert_entry, All-map-remove_entry}}
use Rattle.base_table.specs.Tabled.{Tabled, with_value, without_key}
use Rattle.base_table.specs.Tabled as table
use Rattle.base_records.specs.Marks.{AtEachMark}
use Rattle.base_records.proofs.MarkLemmas.{some_marks, popped_length, all-push, all-pop, each_mark-push, each_mark-pop}
use Rattle.rule_modules.specs.EntrySlashes.{Made}
use Rattle.mod_entries.specs.{Lists.AllKeys, Queue.IsQueue, Sources.AreSourced, Together.{HaveSameMarks, Stays}}
use Rattle.mod_entries.specs.Ways.{InStep, Way}

-- ---- a table and a way to its keys

module _ {K V P : Type 0} (IsTold : List (K × V) → Way P K → Type 0) (l : Tabled K V) (w : Tabled (P × K) Bool) (h : InStep IsTold l w) where
  step-marked : InStep IsTold (table.with_mark l) (table.with_mark w)
  step-marked = record {
    depth = length_push w.marks w.entries ∙ ap (λ n. n + 1) h.depth ∙ sym (length_push l.marks l.entries);
    told = h.told;
    told_at_marks = each_mark-push IsTold l.marks w.marks l.entries w.entries h.depth h.told_at_marks h.told;
  }

  module _ (l2 : Tabled K V) (w2 : Tabled (P × K) Bool) where
    -- other entries, and their way
    step-with : l2.marks ≡ l.marks → w2.marks ≡ w.marks → IsTold l2.entries w2.entries → InStep IsTold l2 w2
    step-with e f told = record {
      depth = ap length f ∙ h.depth ∙ sym (ap length e);
      told = told;
      told_at_marks = subst (λ ms. AtEachMark IsTold ms w2.marks) (sym e) (subst (λ ws. AtEachMark IsTold l.marks ws) (sym f) h.told_at_marks);
    }

    popped : (x : List (K × V)) (y : Way P K) → l2.marks ++ x ∷ [] ≡ l.marks → w2.marks ++ y ∷ [] ≡ w.marks → AtEachMark IsTold l2.marks w2.marks × IsTold x y
    popped x y p r =
        each_mark-pop IsTold l2.marks w2.marks x y (popped_length l.marks l2.marks w.marks w2.marks x y h.depth p r)
        (subst (λ ms. AtEachMark IsTold ms (w2.marks ++ y ∷ [])) (sym p) (subst (λ ws. AtEachMark IsTold l.marks ws) (sym r) h.told_at_marks))

    step-back : table.IsGoneBack l l2 → table.IsGoneBack w w2 → InStep IsTold l2 w2
    step-back p r =
        let i = popped l2.entries w2.entries p.restored r.restored in
        record {
          depth = popped_length l.marks l2.marks w.marks w2.marks l2.entries w2.entries h.depth p.restored r.restored;
          told = i.1;
          told_at_marks = i.0;
        }

    step-forgotten : table.IsForgotten l l2 → table.IsForgotten w w2 → InStep IsTold l2 w2
    step-forgotten p r =
        let same : l.entries ≡ l2.entries = sym (ap (λ t. t.entries) p.rest) in
        let same_way : w.entries ≡ w2.entries = sym (ap (λ t. t.entries) r.rest) in
        record {
          depth = popped_length l.marks l2.marks w.marks w2.marks p.closed.0 r.closed.0 h.depth p.closed.1 r.closed.1;
          told = subst (λ es. IsTold es w2.entries) same (subst (λ ws. IsTold l.entries ws) same_way h.told);
          told_at_marks = (popped p.closed.0 r.closed.0 p.closed.1 r.closed.1).0;
        }

  -- where a mark is open, one is in the way too
  step-some : 0 < length l.marks → 0 < length w.marks
  step-some n = subst (λ k. 0 < k) (sym h.depth) n

-- gone back from a mark that was only opened
pub stays-back : {K V : Type 0} (l l2 : Tabled K V) → table.IsGoneBack (table.with_mark l) l2 → Stays l l2
stays-back l l2 p =
    let both = same_from_push l2.marks l.marks l2.entries l.entries p.restored in
    record { entries = both.1; marks = both.0; settled = ap (λ t. t.settled) p.rest }

-- ---- the table of entries and both ways

module _ {K E : Type 0} (cmp : K → K → Ordering) (fits : K → Type 0) (source : K → List ℕ) (made : E → Made) where
  -- nothing stands yet
  pub in_step-new : HaveSameMarks cmp fits source made table.empty_table table.empty_table table.empty_table
  in_step-new = record {
    queued = record { depth = refl; told = λ p key. refl; told_at_marks = tt };
    sourced = record { depth = refl; told = λ p key. refl; told_at_marks = tt };
    fit = All-from_recursion fits [] tt;
    fit_at_marks = tt;
  }

  module _ (l : Tabled K (List E)) (q : Tabled (ℕ × K) Bool) (w : Tabled (List ℕ × K) Bool) (h : HaveSameMarks cmp fits source made l q w) where
    pub in_step-marked : HaveSameMarks cmp fits source made (table.with_mark l) (table.with_mark q) (table.with_mark w)
    in_step-marked = record {
      queued = step-marked (IsQueue cmp made) l q h.queued;
      sourced = step-marked (AreSourced cmp source) l w h.sourced;
      fit = h.fit;
      fit_at_marks = all-push (AllKeys fits) l.marks l.entries h.fit_at_marks h.fit;
    }

    pub in_step-settled : HaveSameMarks cmp fits source made (table.settled_now l) (table.settled_now q) (table.settled_now w)
    in_step-settled = record {
      queued = record { depth = h.queued.depth; told = h.queued.told; told_at_marks = h.queued.told_at_marks };
      sourced = record { depth = h.sourced.depth; told = h.sourced.told; told_at_marks = h.sourced.told_at_marks };
      fit = h.fit;
      fit_at_marks = h.fit_at_marks;
    }

    -- entries under one more key, or under one less
    pub fit-with : (l2 : Tabled K (List E)) (key : K) (es : List E) → fits key → l2 ≡ with_value cmp l key es → AllKeys fits l2.entries
    fit-with l2 key es k e = subst (λ t. AllKeys fits t.entries) (sym e) (All-keys-insert_entry cmp key es fits l.entries h.fit k)

    pub fit-without : (l2 : Tabled K (List E)) (key : K) → l2 ≡ without_key cmp l key → AllKeys fits l2.entries
    fit-without l2 key e = subst (λ t. AllKeys fits t.entries) (sym e) (All-map-remove_entry (is_at (cmp key)) (λ (p : K × List E). p.0) fits l.entries h.fit)

    module _ (l2 : Tabled K (List E)) (q2 : Tabled (ℕ × K) Bool) (w2 : Tabled (List ℕ × K) Bool) where
      -- other entries, and their ways
      pub in_step-with : l2.marks ≡ l.marks → q2.marks ≡ q.marks → w2.marks ≡ w.marks → IsQueue cmp made l2.entries q2.entries → AreSourced cmp source l2.entries w2.entries → AllKeys fits l2.entries
          → HaveSameMarks cmp fits source made l2 q2 w2
      in_step-with e f g queue sources fit = record {
        queued = step-with (IsQueue cmp made) l q h.queued l2 q2 e f queue;
        sourced = step-with (AreSourced cmp source) l w h.sourced l2 w2 e g sources;
        fit = fit;
        fit_at_marks = subst (AllByRecursion (AllKeys fits)) (sym e) h.fit_at_marks;
      }

      -- the same entries, and the same ways
      pub in_step-stays : Stays l l2 → q2.entries ≡ q.entries → q2.marks ≡ q.marks → w2.entries ≡ w.entries → w2.marks ≡ w.marks → HaveSameMarks cmp fits source made l2 q2 w2
      in_step-stays stays queue queue_marks sources source_marks =
          in_step-with stays.marks queue_marks source_marks
          (subst (λ es. IsQueue cmp made es q2.entries) (sym stays.entries) (subst (IsQueue cmp made l.entries) (sym queue) h.queued.told))
          (subst (λ es. AreSourced cmp source es w2.entries) (sym stays.entries) (subst (AreSourced cmp source l.entries) (sym sources) h.sourced.told))
          (subst (AllKeys fits) (sym stays.entries) h.fit)

      fit-popped : (x : List (K × List E)) → l2.marks ++ x ∷ [] ≡ l.marks → AllByRecursion (AllKeys fits) l2.marks × AllKeys fits x
      fit-popped x p = all-pop (AllKeys fits) l2.marks x (subst (AllByRecursion (AllKeys fits)) (sym p) h.fit_at_marks)

      pub in_step-back : table.IsGoneBack l l2 → table.IsGoneBack q q2 → table.IsGoneBack w w2 → HaveSameMarks cmp fits source made l2 q2 w2
      in_step-back p r t =
          let k = fit-popped l2.entries p.restored in
          record {
            queued = step-back (IsQueue cmp made) l q h.queued l2 q2 p r;
            sourced = step-back (AreSourced cmp source) l w h.sourced l2 w2 p t;
            fit = k.1;
            fit_at_marks = k.0;
          }

      pub in_step-forgotten : table.IsForgotten l l2 → table.IsForgotten q q2 → table.IsForgotten w w2 → HaveSameMarks cmp fits source made l2 q2 w2
      in_step-forgotten p r t = record {
        queued = step-forgotten (IsQueue cmp made) l q h.queued l2 q2 p r;
        sourced = step-forgotten (AreSourced cmp source) l w h.sourced l2 w2 p t;
        fit = subst (AllKeys fits) (sym (ap (λ t. t.entries) p.rest)) h.fit;
        fit_at_marks = (fit-popped p.closed.0 p.closed.1).0;
      }

    -- where a mark is open, one is in each table
    pub some_at : l.marks ≢ [] → 0 < length l.marks
    some_at m = some_marks l.marks m

    pub some_queued : l.marks ≢ [] → 0 < length q.marks
    some_queued m = step-some (IsQueue cmp made) l q h.queued (some_at m)

    pub some_sourced : l.marks ≢ [] → 0 < length w.marks
    some_sourced m = step-some (AreSourced cmp source) l w h.sourced (some_at m)
