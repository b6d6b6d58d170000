-- The loop of `Available::of_texts` adds the spellings of each text, or is refused at the first text that has none. Texts
-- of equivalent tags have the same spellings, so it doesn't matter how the tags are spelled.
use Rattle.std.proofs.Common.{◌≡◌, ◌<◌, ◌+◌, ◌++◌, ◌∷◌, ◌∙◌, Bor, ℕ, inl, List, [], get_or, length, map, sym, ap, subst, arith}
use Rattle.std.proofs.lemmas.List.{get_or_append_left, get_or_default, get_or_push, get_or-map, length-append, length-map, same_lists}
use borrow.Author.Count.{below_more}
use Rattle.lt_registry.specs.Parts.{EntryParts}
use Rattle.lt_check.specs.Conditions.{IsChecked}
use Rattle.lt_range.specs.Available.{AreAvailable, IsAvailableRefusal, text_at}
use Rattle.lt_canon.specs.Texts.{IsTextRefusal}
use Rattle.lt_range.specs.declared.available.AvailableRefusal.{AvailableRefusal}
use Rattle.lt_range.specs.Laws.{EquivalentListsServeAlike}
use Rattle.lt_range.specs.Lookup.{tag_at}
use Rattle.lt_range.specs.Matched.{HasSubtags}
use Rattle.lt_range.specs.Spellings.{HasSpellings, Spellings}
use Rattle.lt_range.proofs.MatchLaws.{determined, same_spellings, spellings_of_text}

-- if the spellings of the first n texts are followed by those of the next, they are those of the first n + 1
pub available_next : (R : List EntryParts) (texts : List (List ℕ)) (n : ℕ) (tags : List Spellings)
    (lists : Spellings) → AreAvailable R texts n tags
    → HasSubtags R (text_at texts n) lists → AreAvailable R texts (n + 1) (tags ++ lists ∷ [])
available_next R texts n tags lists h k = record {
  counted = length-append tags (lists ∷ []) ∙ ap (λ (i : ℕ). i + 1) h.counted;
  each = below_more (λ (i : ℕ). HasSubtags R (text_at texts i) (tag_at (tags ++ lists ∷ []) i)) n
      (λ i l. subst (λ (x : Spellings). HasSubtags R (text_at texts i) x)
      (sym (get_or_append_left tags (lists ∷ []) [] i (omega (arith, l, h.counted)))) (h.each i l))
      (subst (λ (x : Spellings). HasSubtags R (text_at texts n) x) (sym (get_or_push tags lists [] n h.counted)) k);
}

-- the text that the loop reads at place `n` is the one that contracts see there
pub text_read : (texts : List (Bor (List ℕ))) (n : ℕ) (d : Bor (List ℕ)) → n < length texts
    → (get_or texts n d).now ≡ text_at (map (λ (text : Bor (List ℕ)). text.now) texts) n
text_read texts n d within = sym (get_or-map (λ (text : Bor (List ℕ)). text.now) texts n d [] within)

-- if each text before place `n` has spellings, and the text there is refused with the number `n + 1`, this is the
-- refusal of all the texts
pub refused_at : (R : List EntryParts) (texts : List (Bor (List ℕ))) (n : ℕ) (d : Bor (List ℕ)) (tags : List
    Spellings) (refused : AvailableRefusal) → n < length texts
    → AreAvailable R (map (λ (text : Bor (List ℕ)). text.now) texts) n tags → refused.place ≡ n + 1
    → IsTextRefusal R (get_or texts n d).now refused.refusal
    → IsAvailableRefusal R (map (λ (text : Bor (List ℕ)). text.now) texts) refused
refused_at R texts n d tags refused within before numbered h = inl (record {
  tags = tags;
  place = n;
  before = before;
  within = omega (arith, within, length-map texts (λ (text : Bor (List ℕ)). text.now));
  numbered = numbered;
  refusal = subst (λ (s : List ℕ). IsTextRefusal R s refused.refusal) (text_read texts n d within) h;
})

-- lists of texts whose tags are equivalent one by one have the same spellings
pub serve_alike : (R : List EntryParts) → IsChecked R → EquivalentListsServeAlike R
serve_alike R C texts others a b alike h k =
    let as_many : length a ≡ length b = h.counted ∙ alike.as_many ∙ sym k.counted in
    same_lists a b as_many (λ i d l.
    let within : i < length others = omega (arith, l, h.counted, alike.as_many) in
    let e = alike.each i within in
    let first : HasSpellings R e.tag (tag_at a i) = spellings_of_text R C (text_at texts i) e.tag (tag_at a i) e.read
    (h.each i (omega (arith, within, alike.as_many))) in
    let second : HasSpellings R e.other (tag_at b i) = spellings_of_text R C (text_at others i) e.other (tag_at b i)
    e.read_other (k.each i within) in
    let one = (determined R C).list e.other (tag_at a i) (tag_at b i)
    (same_spellings R C e.tag e.other (tag_at a i) e.valid e.equivalent first) second in
    get_or_default a i d [] l ∙ one ∙ get_or_default b i [] d (omega (arith, l, as_many)))
