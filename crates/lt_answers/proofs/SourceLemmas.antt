-- Lemmas for `text_of` of `sources`: the subtags that it appends are together the text of a source of a `t` extension.
use Rattle.std.proofs.Common.{◌≡◌, ℕ, List, [], ◌∷◌, ◌++◌, refl, sym, ◌∙◌, ap, append-nil, append_assoc}
use Rattle.std.specs.List.{join_with_byte}
use Rattle.std.specs.Option.{option_to_list}
use Rattle.std.proofs.lemmas.List.Concat.{flat_map-append}
use Rattle.lt_tag.specs.Parts.{CoreParts}
use Rattle.lt_answers.specs.Parts.{after_hyphens, source_text}

-- subtags with hyphens (45) between them are the first, and each other after a hyphen
joined : (s : List ℕ) (ss : List (List ℕ)) → join_with_byte 45 (s ∷ ss) ≡ s ++ after_hyphens ss
joined s [] = sym (append-nil s)
joined s (t ∷ ss) = ap (λ (l : List ℕ). s ++ 45 ∷ l) (joined t ss)

-- the subtags of two lists, each after a hyphen, are those of the first list and then those of the second
after : (ss ts : List (List ℕ)) → after_hyphens (ss ++ ts) ≡ after_hyphens ss ++ after_hyphens ts
after ss ts = flat_map-append (λ (s : List ℕ). 45 ∷ s) ss ts

-- The text of a source is made step by step: `a` is its language, and `b`, `c`, `d` and `e` are the texts after its
-- extlangs, its script, its region and its variants are appended, each after a hyphen.
pub source_is : (core : CoreParts) (a b c d e : List ℕ) → a ≡ core.language → b ≡ a ++ after_hyphens core.extlangs
    → c ≡ b ++ after_hyphens (option_to_list core.script)
    → d ≡ c ++ after_hyphens (option_to_list core.region) → e ≡ d ++ after_hyphens core.variants → e ≡ source_text core
unfolding source_text
source_is core a b c d e ha hb hc hd he =
    let script = option_to_list core.script in
    let region = option_to_list core.region in
    let whole : e ≡ (((core.language ++ after_hyphens core.extlangs) ++ after_hyphens script) ++ after_hyphens region)
    ++ after_hyphens core.variants =
    rw (he, hd, hc, hb, ha) refl in
    whole ∙ sym (joined core.language (core.extlangs ++ (script ++ (region ++ core.variants)))
    ∙ ap (λ (l : List ℕ). core.language ++ l) (after core.extlangs (script ++ (region ++ core.variants))
    ∙ ap (λ (l : List ℕ). after_hyphens core.extlangs ++ l) (after script (region ++ core.variants)
    ∙ ap (λ (l : List ℕ). after_hyphens script ++ l) (after region core.variants)))
    ∙ sym (append_assoc core.language (after_hyphens core.extlangs)
    (after_hyphens script ++ (after_hyphens region ++ after_hyphens core.variants)))
    ∙ sym (append_assoc (core.language ++ after_hyphens core.extlangs) (after_hyphens script)
    (after_hyphens region ++ after_hyphens core.variants))
    ∙ sym (append_assoc ((core.language ++ after_hyphens core.extlangs) ++ after_hyphens script) (after_hyphens region)
    (after_hyphens core.variants)))
