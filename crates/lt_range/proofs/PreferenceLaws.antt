-- Preferences and tags determine which of the tags is served, or that none is: the law `best_is_determined`.
use Rattle.std.proofs.Common.{◌≡◌, ◌<◌, ◌∙◌, Bool, true, false, ℕ, List, Option, Some, None, inl, inr, length, sym, ap, refl, subst, arith}
use Rattle.std.proofs.lemmas.Bool.Decides.{leb_tells}
use Rattle.lt_range.specs.Ranges.{RangeParts}
use Rattle.lt_range.specs.Preferences.{at, BestIsDetermined, FallsAt, FirstServes, IsBest, MaySelect, Serves, ServesBy}
use Rattle.lt_range.specs.Preferences.{ServesInTurn, tag_length_at}
use Rattle.lt_range.specs.Spellings.{Spellings}
use Rattle.lt_range.specs.declared.preferences.Preference.{Preference}
use Rattle.lt_range.proofs.PreferenceLemmas.{one_longest}

-- two places of which neither is before the other are equal
one_place : (p q : ℕ) → (p < q → ⊥) → (q < p → ⊥) → p ≡ q
one_place p q h k = elim (leb_tells p q) [
  | inl l ↦ elim (leb_tells q p) [
    | inl m ↦ omega (arith, l.1, m.1)
    | inr m ↦ absurd (h (omega (arith, m.1)))
  ]
  | inr l ↦ absurd (k (omega (arith, l.1)))
]

module _ (all : List Preference) (tags : List Spellings) where
  -- a range selects one tag first at most
  one_selected : (range : RangeParts) (p q : Option ℕ) → MaySelect all range tags p → MaySelect all range tags q → p ≡ q
  one_selected range None None h k = refl
  one_selected range None (Some q) h k = absurd (h q k.within k.selects)
  one_selected range (Some p) None h k = absurd (k p h.within h.selects)
  one_selected range (Some p) (Some q) h k = ap Some (one_place p q (λ l. k.before p l h.selects) (λ l. h.before q l k.selects))

  -- a range serves one tag at most
  one_served : (range : RangeParts) (p q : Option ℕ) → Serves all range tags p → Serves all range tags q → p ≡ q
  one_served range p q (inl h) (inl k) = h.2
      ∙ ap Some (one_longest (FallsAt all range tags) (tag_length_at tags) (length tags) h.0 k.0 h.1 k.1) ∙ sym k.2
  one_served range p q (inl h) (inr k) = absurd (k.0 h.0 h.1.within h.1.holds)
  one_served range p q (inr h) (inl k) = absurd (h.0 k.0 k.1.within k.1.holds)
  one_served range p q (inr h) (inr k) = one_selected range p q h.1 k.1

  module _ (wild : Bool) where
    -- the range at a place serves one tag in the turn at most
    one_by : (i : ℕ) (p q : Option ℕ) → ServesBy wild all i tags p → ServesBy wild all i tags q → p ≡ q
    one_by i p q (inl h) (inl k) = one_served (at all i).range p q h.1 k.1
    one_by i p q (inl h) (inr k) = absurd (k.0 h.0)
    one_by i p q (inr h) (inl k) = absurd (h.0 k.0)
    one_by i p q (inr h) (inr k) = h.1 ∙ sym k.1

    -- it can't be that a range serves a tag and that it serves none
    not_none : (i p : ℕ) → ServesBy wild all i tags (Some p) → ServesBy wild all i tags None → ⊥
    not_none i p h k = let bad : Some p ≡ None = one_by i (Some p) None h k in cc

    -- the first range that serves a tag in the turn serves one tag
    one_first : (p q : ℕ) → FirstServes wild all tags p → FirstServes wild all tags q → Some p ≡ Some q
    one_first p q h k =
        let same : h.index ≡ k.index = one_place h.index k.index (λ l. not_none h.index p h.serves (k.before h.index l))
        (λ l. not_none k.index q k.serves (h.before k.index l)) in
        one_by k.index (Some p) (Some q) (subst (λ (i : ℕ). ServesBy wild all i tags (Some p)) same h.serves) k.serves

    -- one tag is served in the turn at most
    one_in_turn : (p q : Option ℕ) → ServesInTurn wild all tags p → ServesInTurn wild all tags q → p ≡ q
    one_in_turn None None h k = refl
    one_in_turn None (Some q) h k = absurd (not_none k.index q k.serves (h k.index k.within))
    one_in_turn (Some p) None h k = absurd (not_none h.index p h.serves (k h.index h.within))
    one_in_turn (Some p) (Some q) h k = one_first p q h k

  -- one tag is the one to serve, or none is
  one_best : (p q : Option ℕ) → IsBest all tags p → IsBest all tags q → p ≡ q
  one_best p q (inl h) (inl k) = h.2 ∙ one_first false h.0 k.0 h.1 k.1 ∙ sym k.2
  one_best p q (inl h) (inr k) = absurd (not_none false h.1.index h.0 h.1.serves (k.0 h.1.index h.1.within))
  one_best p q (inr h) (inl k) = absurd (not_none false k.1.index k.0 k.1.serves (h.0 k.1.index k.1.within))
  one_best p q (inr h) (inr k) = one_in_turn true p q h.1 k.1

-- preferences and tags determine which of the tags is served, or that none is
pub best_determined : BestIsDetermined
best_determined all tags p q h k = one_best all tags p q h k
