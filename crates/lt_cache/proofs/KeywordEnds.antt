-- For `keyword_ends.rt`: keywords to which subtags are added one by one spell these subtags, so they are what a text of
-- them is read as; and subtags that are appended, each after a hyphen, are joined by hyphens.
use Rattle.std.proofs.Common.{◌≡◌, ℕ, ◌<◌, true, List, [], ◌∷◌, ◌++◌, refl, sym, ap, ◌∙◌, subst, length}
use Rattle.std.specs.Prelude.{flat_map}
use Rattle.std.specs.List.{AllByRecursion, join_with_byte}
use Rattle.std.proofs.lemmas.Bool.{and_from}
use Rattle.std.proofs.lemmas.Grind.{flat_map-append}
use Rattle.std.proofs.lemmas.List.{append-nil, append_assoc}
use Rattle.lt_subtag.specs.Shapes.{is_key}
use Rattle.lt_tag.specs.Parts.{KeywordParts}
use Rattle.lt_tag.specs.Extensions.{is_long, spell_keyword, IsKeyword, IsUnicode}
use Rattle.lt_tag.proofs.ListLemmas.{list_all-append}
use Rattle.lt_rewrite.proofs.PartLists.{all_middle, all_replaced}
use Rattle.lt_cache.specs.KeywordEnds.{AddsSubtag, hyphened, of_keywords}

-- if some keywords and one further keyword have the form of one, all of the two together have
all_then : (ks : List KeywordParts) (k : KeywordParts) → AllByRecursion IsKeyword ks → IsKeyword k → AllByRecursion IsKeyword (ks ++ k ∷ [])
all_then [] k h i = (i, tt)
all_then (j ∷ ks) k h i = (h.0, all_then ks k h.1 i)

-- a key adds a subtag to keywords as the key of a further one
pub added_key : (s : List ℕ) (old new : List KeywordParts) → is_key s ≡ true
    → new ≡ old ++ record { key = s; types = [] } ∷ [] → AddsSubtag s old new
added_key s old new key grown = record {
  spelled = ap (flat_map spell_keyword) grown ∙ flat_map-append spell_keyword old _;
  shaped = λ h. subst (AllByRecursion IsKeyword) (sym grown) (all_then old _ h (record { key = key; types = refl }));
}

-- a type adds a subtag to keywords in the last one, which is `k` before and `l` after
pub added_type : (s : List ℕ) (old new before : List KeywordParts) (k l : KeywordParts) → is_long s ≡ true
    → old ≡ before ++ k ∷ [] → l ≡ record { key = k.key; types = k.types ++ s ∷ [] } → new ≡ before ++ l ∷ []
    → AddsSubtag s old new
added_type s old new before k l long was is grown = record {
  spelled =
      ap (flat_map spell_keyword) (grown ∙ ap (λ (x : KeywordParts). before ++ x ∷ []) is) ∙ flat_map-append spell_keyword before _
      ∙ (simp append_assoc)
      ∙ ap (λ (x : List (List ℕ)). x ++ s ∷ []) (sym (ap (flat_map spell_keyword) was
      ∙ flat_map-append spell_keyword before _));
  shaped = λ h.
      let there = subst (AllByRecursion IsKeyword) was h in
      let last = all_middle IsKeyword before k [] there in
      subst (AllByRecursion IsKeyword) (sym (grown ∙ ap (λ (x : KeywordParts). before ++ x ∷ []) is))
      (all_replaced IsKeyword before k _ [] there
      (record { key = last.key; types = list_all-append is_long k.types _ last.types (and_from _ _ long refl) }));
}

-- keywords that spell subtags are what these are read as in a `u` extension without attributes
pub keywords_read : (ss : List (List ℕ)) (ks : List KeywordParts) → 0 < length ss → flat_map spell_keyword ks ≡ ss
    → AllByRecursion IsKeyword ks → IsUnicode ss (of_keywords ks)
keywords_read ss ks some spelled h = record {
  shaped = record { attributes = refl; keywords = h; some = rw spelled some };
  spelled = spelled;
}

-- a subtag `x` and then others, each after a hyphen (45), are all of them joined by hyphens
pub hyphened_joined : (x : List ℕ) (ss : List (List ℕ)) → x ++ flat_map hyphened ss ≡ join_with_byte 45 (x ∷ ss)
hyphened_joined x [] = append-nil x
hyphened_joined x (s ∷ ss) = ap (λ (l : List ℕ). x ++ 45 ∷ l) (hyphened_joined s ss)
