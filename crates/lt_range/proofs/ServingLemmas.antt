-- The loop of `first_serving` over the tags finds the first range that serves one in a turn, and what this range serves
-- is served in the turn. The loop of `all_deciding` finds for each tag the range that decides its weight.
use Rattle.std.proofs.Common.{◌≡◌, ◌<◌, ◌+◌, ◌++◌, ◌∷◌, ◌∙◌, Bool, true, false, ℕ, List, [], Option, Some, None}
use Rattle.std.proofs.Common.{inl, inr, length, refl, sym, ap, subst, arith}
use Rattle.std.specs.Prelude.{◌⊎◌, slice_index_or}
use Rattle.std.proofs.lemmas.List.{get_or_append_left, get_or_push, length-append}
use Rattle.std.proofs.lemmas.Bool.Decides.{leb_tells}
use borrow.Author.Count.{below_more}
use Rattle.lt_range.specs.Lookup.{tag_at}
use Rattle.lt_range.specs.Preferences.{at, AreDeciding, MayDecide, NoneOf, IsRefused, Serves, ServesAt, ServesBy}
use Rattle.lt_range.specs.Preferences.{ServesInTurn, TakesTurn, ReachesAt, IsFirstServing}
use Rattle.lt_range.specs.Spellings.{Spellings}
use Rattle.lt_range.specs.declared.preferences.Preference.{Preference}

-- two truth values are equal, or not
bools : (a b : Bool) → (a ≡ b) ⊎ (a ≡ b → ⊥)
bools true true = inl refl
bools false false = inl refl
bools true false = inr (λ e. cc)
bools false true = inr (λ e. cc)

-- a range takes part in a turn, or not
turn_tells : (wild : Bool) (p : Preference) → TakesTurn wild p ⊎ (TakesTurn wild p → ⊥)
turn_tells wild p = elim (leb_tells p.weight 0) [
  | inl none ↦ inr (λ t. omega (arith, none.1, t.weighty))
  | inr some ↦ elim (bools p.range.wild wild) [
    | inl same ↦ inl (record { weighty = omega (arith, some.1); turn = same })
    | inr other ↦ inr (λ t. other t.turn)
  ]
]

module _ (wild : Bool) (all : List Preference) (tags : List Spellings) where
  -- if the next tag, at the place n, is not refused, and `index` is the first range that reaches it, and comes before
  -- `first`, the first range that serves a tag so far, then `index` is the first range that does
  pub next_serves : (n first index : ℕ) → IsFirstServing wild all tags n first → index < first
      → NoneOf (ReachesAt wild all (tag_at tags n)) index
      → ReachesAt wild all (tag_at tags n) index → (IsRefused all (tag_at tags n) → ⊥) → IsFirstServing wild all tags (n + 1) index
  next_serves n first index so_far less none reaches allowed = record {
    within = omega (arith, so_far.within, less);
    before = below_more (λ (p : ℕ). NoneOf (ServesAt wild all tags p) index) n
        (λ p l i m s. so_far.before p l i (omega (arith, m, less)) s) (λ i m s. none i m s.reached);
    serves = λ l. (n, omega arith, record { reached = reaches; allowed = allowed });
  }

  -- if no range before `first`, the first so far, serves the next tag, `first` is still the first range that serves a
  -- tag
  pub next_same : (n first : ℕ) → IsFirstServing wild all tags n first → NoneOf (ServesAt wild all tags n) first
      → IsFirstServing wild all tags (n + 1) first
  next_same n first so_far none = record {
    within = so_far.within;
    before = below_more (λ (p : ℕ). NoneOf (ServesAt wild all tags p) first) n so_far.before none;
    serves = λ l. let w = so_far.serves l in (w.0, omega (arith, w.1), w.2);
  }

  -- each range before `first`, the first that serves a tag, serves none
  pub none_before : (first : ℕ) → IsFirstServing wild all tags (length tags) first → (i : ℕ) → i < first → ServesBy wild all i tags None
  none_before first found i less = elim (turn_tells wild (at all i)) [
    | inl t ↦ inl (
      t,
      inr (
        λ p l f. found.before p l i less (record { reached = record { takes = t; reaches = inl f.falls }; allowed = f.allowed }),
        λ p l s. found.before p l i less (record { reached = record { takes = t; reaches = inr s.matches }; allowed = s.allowed }),
      ),
    )
    | inr n ↦ inr (n, refl)
  ]

  -- it can't be that `first`, the first range that serves a tag, serves none
  not_none : (first : ℕ) → IsFirstServing wild all tags (length tags) first → first < length all
      → Serves all (at all first).range tags None → ⊥
  not_none first found less (inl h) = let bad : None ≡ Some h.0 = h.2 in cc
  not_none first found less (inr h) =
      let w = found.serves less in
      elim w.2.reached.reaches [
        | inl f ↦ h.0 w.0 w.1 (record { falls = f; allowed = w.2.allowed })
        | inr m ↦ h.1 w.0 w.1 (record { matches = m; allowed = w.2.allowed })
      ]

  -- what `first`, the first range that serves a tag, serves is served in the turn
  pub first_serves : (first : ℕ) (served : Option ℕ) → IsFirstServing wild all tags (length tags) first → first < length all
      → Serves all (at all first).range tags served → ServesInTurn wild all tags served
  first_serves first None found less s = absurd (not_none first found less s)
  first_serves first (Some place) found less s = record {
    index = first;
    within = less;
    serves = inl ((found.serves less).2.reached.takes, s);
    before = none_before first found;
  }

module _ (all : List Preference) (tags : List Spellings) where
  -- if `found` has the deciding ranges of the first n tags, and `o` is that of the next tag, or None, then `found` with
  -- `o` at its end has those of the first n + 1
  pub deciding_next : (n : ℕ) (found : List (Option ℕ)) (o : Option ℕ) → AreDeciding all tags n found
      → MayDecide all (tag_at tags n) o → AreDeciding all tags (n + 1) (found ++ o ∷ [])
  deciding_next n found o h m = record {
    counted = length-append found (o ∷ []) ∙ ap (λ (k : ℕ). k + 1) h.counted;
    each = below_more (λ (p : ℕ). MayDecide all (tag_at tags p) (slice_index_or (found ++ o ∷ []) p None)) n
        (λ p l. subst (λ (x : Option ℕ). MayDecide all (tag_at tags p) x)
        (sym (get_or_append_left found (o ∷ []) None p (omega (arith, l, h.counted)))) (h.each p l))
        (subst (λ (x : Option ℕ). MayDecide all (tag_at tags n) x) (sym (get_or_push found o None n h.counted)) m);
  }
