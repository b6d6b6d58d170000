-- The loops that look for the longest range that matches a tag, which decides its weight, or for the longest tag, and
-- the loop of `filter_accepted` over the ranges: if what they found is right up to a place, it is with the next one
-- too.
use Rattle.std.proofs.Common.{false, ◌≡◌, ◌↔◌, ◌<◌, ◌≤◌, ◌+◌, ◌++◌, ◌∷◌, ◌∙◌, ℕ, List, [], Option, Some, None, inl, inr}
use Rattle.std.proofs.Common.{length, drop, sym, ap, refl, subst, arith}
use Rattle.std.proofs.lemmas.List.{append_assoc, append-nil, drop_more}
use Rattle.std.proofs.Math.ListN.{drop_of_length-le}
use Rattle.std.proofs.lemmas.Bool.Decides.{leb_tells}
use borrow.Author.Count.{below_more}
use Rattle.lt_range.specs.Filtering.{ArePlaces}
use Rattle.lt_range.specs.Preferences.{at, length_at, IsLonger, IsLongestOf, Matched, MayBeLongest, Accepts}
use Rattle.lt_range.specs.Preferences.{AreAcceptedFrom, AreAccepted, Decides, MayDecide, NoneDecides, HasWeight, IsRefused}
use Rattle.lt_range.specs.Spellings.{Spellings}
use Rattle.lt_range.specs.declared.preferences.Preference.{Preference}

module _ (P : ℕ → Type 0) (long : ℕ → ℕ) where
  -- of the first n places at most one is the longest
  pub one_longest : (n p q : ℕ) → IsLongestOf P long n p → IsLongestOf P long n q → p ≡ q
  one_longest n p q h k =
      let a : long p ≤ long q = k.longest p h.within h.holds in
      let b : long q ≤ long p = h.longest q k.within k.holds in
      let c : p < q → long p < long q = λ l. k.first p l h.holds in
      let d : q < p → long q < long p = λ l. h.first q l k.holds in
      grind arith

  -- the next place, n, is the longest so far if `P` is true of it and it is longer than the place that was found
  -- (`best`)
  pub longest_next : (n : ℕ) (best : Option ℕ) → MayBeLongest P long n best → P n → IsLonger long best n → IsLongestOf P long (n + 1) n
  longest_next n None none p longer = record {
    within = omega arith;
    holds = p;
    longest = below_more (λ (i : ℕ). P i → long i ≤ long n) n (λ i l h. absurd (none i l h)) (λ h. omega arith);
    first = λ i l h. absurd (none i l h);
  }
  longest_next n (Some b) found p longer = record {
    within = omega arith;
    holds = p;
    longest = below_more (λ (i : ℕ). P i → long i ≤ long n) n (λ i l h. omega (arith, longer, found.longest i l h)) (λ h. omega arith);
    first = λ i l h. omega (arith, longer, found.longest i l h);
  }

  -- the place that was found is still the longest with the next place, n, if `P` is not true of that, or if that is not
  -- longer
  pub longest_same : (n : ℕ) (best : Option ℕ) → MayBeLongest P long n best → (P n → IsLonger long best n → ⊥)
      → MayBeLongest P long (n + 1) best
  longest_same n None none other = below_more (λ (i : ℕ). P i → ⊥) n none (λ h. other h tt)
  longest_same n (Some b) found other = record {
    within = omega (arith, found.within);
    holds = found.holds;
    longest = below_more (λ (i : ℕ). P i → long i ≤ long b) n found.longest
        (λ h. elim (leb_tells (long n) (long b)) [ inl l ↦ l.1 | inr g ↦ absurd (other h (omega (arith, g.1))) ]);
    first = found.first;
  }

module _ (all : List Preference) (tag : Spellings) where
  -- one range decides the weight of a tag at most
  pub one_decides : (p q : ℕ) → Decides all tag p → Decides all tag q → p ≡ q
  one_decides p q h k = one_longest (Matched all tag) (length_at all) (length all) p q h k

  -- the longest of all ranges that match a tag decides its weight
  pub longest_decides : (found : Option ℕ) → MayBeLongest (Matched all tag) (length_at all) (length all) found → MayDecide all tag found
  longest_decides None h = h
  longest_decides (Some place) h = h

  -- a tag that is refused has the weight 0
  pub refused_is_zero : (weight : ℕ) → HasWeight all tag (Some weight) → IsRefused all tag → weight ≡ 0
  refused_is_zero weight h k = h.2 ∙ ap (λ (p : ℕ). (at all p).weight) (one_decides h.0 k.0 h.1 k.1) ∙ sym k.2

  -- a tag that no range matches is not refused
  pub none_refused : NoneDecides all tag → IsRefused all tag → ⊥
  none_refused none h = none h.0 h.1.within h.1.holds

  -- a tag that no range matches is not accepted
  pub none_accepts : (place : ℕ) → NoneDecides all tag → Accepts all place tag → ⊥
  none_accepts place none h = none h.index h.decides.within h.decides.holds

  -- a range that decides the weight of a tag accepts it at its place exactly if that weight is not 0
  pub accepts_by : (found place : ℕ) → Decides all tag found
      → ((at all found).place ≡ place) × (0 < (at all found).weight) ↔ Accepts all place tag
  accepts_by found place h = (
    λ is. record { index = found; decides = h; of = is.0; weighty = is.1 },
    λ a. let one : a.index ≡ found = one_decides a.index found a.decides h in
        (ap (λ (i : ℕ). (at all i).place) (sym one) ∙ a.of, subst (λ (i : ℕ). 0 < (at all i).weight) one a.weighty),
  )

-- the loop over the ranges, each of which accepts the tags whose weight it decides
module _ (all : List Preference) (tags : List Spellings) where
  -- `found` are the places so far, of the tags that the first `i` ranges accept: with those that the other ranges
  -- accept they are what all accept
  abbrev pub AcceptsOn : ℕ → List ℕ → Type 0
  AcceptsOn i found = (more : List ℕ) → AreAcceptedFrom all i (drop i all) tags more → AreAccepted all tags (found ++ more)

  -- the next range adds the places of the tags that it accepts
  pub accepts_next : (i : ℕ) (found here : List ℕ) → i < length all → ArePlaces (Accepts all i) 0 tags here
      → AcceptsOn i found → AcceptsOn (i + 1) (found ++ here)
  accepts_next i found here within places go = λ more h.
      let step : AreAcceptedFrom all i (at all i ∷ drop (i + 1) all) tags (here ++ more) = (here, more, refl, places, h) in
      subst (λ (l : List ℕ). AreAccepted all tags l) (sym (append_assoc found here more))
      (go (here ++ more) (subst (λ (l : List Preference). AreAcceptedFrom all i l tags (here ++ more))
      (sym (drop_more all i (record { range = record { wild = false; named = [] }; weight = 0; place = 0 }) within)) step))

  -- past the last range, the places are what all accept
  pub accepts_end : (i : ℕ) (found : List ℕ) → length all ≤ i → AcceptsOn i found → AreAccepted all tags found
  accepts_end i found past go =
      let none : drop i all ≡ [] = drop_of_length-le all past in
      subst (λ (l : List ℕ). AreAccepted all tags l) (append-nil found)
      (go [] (subst (λ (l : List Preference). AreAcceptedFrom all i l tags []) (sym none) refl))
