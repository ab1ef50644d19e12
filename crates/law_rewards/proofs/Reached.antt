-- What holds of each account that is reached, and that fitting deeds lead from one to another.
use Rattle.std.proofs.Common.{◌≡◌, ℕ, ◌<◌, ◌≤◌, true, List, [], ◌∷◌, ◌++◌, refl, arith, ap, ◌∙◌, subst, sym, None, is_some}
use Rattle.std.{specs.List.AllByRecursion, proofs.lemmas.List.Elements.All-from_recursion}
use Rattle.rule_modules.specs.Ideal.{span_of}
use Rattle.law_rewards.specs.Account.{Account, Deed, AreFitting, IsReached, account_of, account_after, new_account, counted_shares}
use Rattle.law_rewards.specs.Laws.{IsStartBracketed, IsCutWithin, NewIsReached, DeedsLeadOn, RewardsAreBracketed, ShortfallIsBounded, CutIsBounded}
use Rattle.law_rewards.proofs.{Lists.all_map, Following.{Follows, bracketed}}
use Rattle.law_rewards.proofs.{Deeds.{AreApart, Good, good_after, good_new}, Holders.Covers}
use Rattle.law_rewards.proofs.Covered.{book_in, held_is, covers_after, covers_new, covers_claims, cuts_within}

record Sound (d : List ℕ) (a : Account) : Type 0 where
  good : Good d a
  covers : Covers (book_in d a)

sound_all : (d : List ℕ) (deeds : List Deed) (a : Account) → AreFitting d a deeds → Sound d a → Sound d (account_of d a deeds)
sound_all d [] a fit s = s
sound_all d (act ∷ deeds) a fit s = sound_all d deeds _ fit.1 (record { good = good_after d a act fit.0 s.good; covers = covers_after d a act fit.0 s.good s.covers })

sound_reached : (d : List ℕ) (a : Account) → IsReached d a → Sound d a
sound_reached d a r = subst (λ b. Sound d b) r.is (sound_all d r.deeds (new_account r.height) r.fitting (record { good = good_new d r.height; covers = covers_new d r.height }))

account_append : (d : List ℕ) (ds es : List Deed) (a : Account) → account_of d a (ds ++ es) ≡ account_of d (account_of d a ds) es
account_append d [] es a = refl
account_append d (f ∷ ds) es a = account_append d ds es (account_after d a f)

fitting_append : (d : List ℕ) (ds es : List Deed) (a : Account) → AreFitting d a ds → AreFitting d (account_of d a ds) es → AreFitting d a (ds ++ es)
fitting_append d [] es a fit more = more
fitting_append d (f ∷ ds) es a fit more = (fit.0, fitting_append d ds es (account_after d a f) fit.1 more)

-- ---- what each reached account has besides

-- all shares whose rewards run are the validator's
pub reached_counted : (d : List ℕ) (a : Account) → IsReached d a → counted_shares a ≤ a.shares
reached_counted d a r = omega (arith, (sound_reached d a r).covers.held, held_is d a.periods a.starts)

-- and each start has some
pub reached_some : (d : List ℕ) (a : Account) → IsReached d a → AllByRecursion (λ s. 0 < s.shares) a.starts
reached_some d a r = all_map (Follows d a) (λ s. 0 < s.shares) (λ s k. k.some) a.starts (sound_reached d a r).good.follows

-- nobody has two starts
pub reached_apart : (d : List ℕ) (a : Account) → IsReached d a → AreApart a.starts
reached_apart d a r = (sound_reached d a r).good.apart

-- each start has a span
pub reached_spans : (d : List ℕ) (a : Account) → IsReached d a → AllByRecursion (λ s. is_some (span_of s.who a.history None) ≡ true) a.starts
reached_spans d a r = all_map (Follows d a) (λ s. is_some (span_of s.who a.history None) ≡ true) (λ s k. ap is_some k.is) a.starts (sound_reached d a r).good.follows

-- ---- the laws

pub new_is_reached : NewIsReached
new_is_reached = λ d height. record { height = height; deeds = []; fitting = tt; is = refl }

pub deeds_lead_on : DeedsLeadOn
deeds_lead_on = λ d a deeds r fit. record {
  height = r.height;
  deeds = r.deeds ++ deeds;
  fitting = fitting_append d r.deeds deeds (new_account r.height) r.fitting (subst (λ b. AreFitting d b deeds) (sym r.is) fit);
  is = account_append d r.deeds deeds (new_account r.height) ∙ ap (λ b. account_of d b deeds) r.is;
}

pub rewards_are_bracketed : RewardsAreBracketed
rewards_are_bracketed = λ d a r none.
    All-from_recursion (IsStartBracketed d a) a.starts
    (all_map (Follows d a) (IsStartBracketed d a) (λ s k. record { span = k.span; is = k.is; brackets = bracketed d a s none k }) a.starts (sound_reached d a r).good.follows)

pub shortfall_is_bounded : ShortfallIsBounded
shortfall_is_bounded = λ d a r. covers_claims d a (sound_reached d a r).covers

pub cut_is_bounded : CutIsBounded
cut_is_bounded = λ d a r. All-from_recursion (IsCutWithin d a) a.starts (cuts_within d a (sound_reached d a r).covers)
