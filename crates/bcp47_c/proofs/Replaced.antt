-- For `replacing.rt`: a tag with a section replaced has the shape of a langtag (RFC 5646, 2.1), and the text that is
-- made of its subtags is read as the list of them. So the only fault that the text can have is its length. `folded` is
-- a text in lower case, `shown` a subtag in conventional case.
use Rattle.std.proofs.Common.{◌≡◌, ℕ, ◌≤◌, ◌+◌, ◌-◌, true, List, [], ◌∷◌, ◌++◌, length, refl, sym, ap, ◌∙◌, arith, inl, inr, subst}
use Rattle.std.specs.Prelude.{flat_map, option_to_list, position, drop, not, Some, IsSome}
use Rattle.std.specs.List.{list_all, join_with_byte}
use Rattle.std.specs.Char.{to_ascii_lowercase, to_ascii_uppercase}
use Rattle.std.proofs.lemmas.Bool.{and_from}
use Rattle.std.proofs.lemmas.Bool.Decides.{nat_tests}
use Rattle.std.proofs.lemmas.Grind.{common_steps, flat_map-append}
use Rattle.std.proofs.lemmas.List.{append-nil, append_assoc, length-map, map-append}
use Rattle.lt_subtag.specs.Bytes.{is_subtag, folded, upper, title}
use Rattle.lt_subtag.specs.declared.SubtagFault.{SubtagFault}
use Rattle.lt_tag.specs.Conventional.{conventional, shown, shown_after}
use Rattle.lt_tag.specs.Faults.{HasList, HasTag, IsFault, IsFirstBadPiece}
use Rattle.lt_tag.specs.Lists.{list_of, longest_text}
use Rattle.lt_tag.specs.Listing.{no_memory as memory_fault}
use Rattle.lt_tag.specs.Parts.{CoreParts, ExtensionParts, TagForm, LangTag}
use Rattle.lt_tag.specs.Spelling.{x_subtag, spell_extensions, spell_private, IsCore}
use Rattle.lt_tag.specs.Texts.{text_of}
use Rattle.lt_tag.specs.Values.{core_of}
use Rattle.lt_tag.specs.WellFormed.{spell, IsLangTag, IsTag, IsWellFormed}
use Rattle.lt_tag.specs.declared.faults.TagFault.{TagFault}
use Rattle.lt_tag.specs.declared.faults.TagFaultKind.{TagFaultKind}
use Rattle.lt_tag.specs.declared.faults.TagFaultKind.TheVariants as faults
use Rattle.lt_tag.proofs.AgainLemmas.{subtags_again}
use Rattle.lt_tag.proofs.LetterLemmas.{same_list, to_HasList}
use Rattle.lt_tag.proofs.ShapeLemmas.{tag_subtags}
use Rattle.lt_tag.proofs.TagLemmas.{not_grandfathered}
use Rattle.lt_show.specs.Places.{parts_of}
use Rattle.lt_show.specs.declared.placing.Part.{Part}
use Rattle.bcp47_c.specs.Replacing.{bearing, before_value, fault_said, form, has, hyphened, no_memory, with_core}
use Rattle.bcp47_c.specs.Replacing.{with_extensions, with_private, IsNoValue, IsTooLong}
use Rattle.bcp47_c.specs.declared.replacing.Langtag.{Langtag}
use Rattle.bcp47_c.specs.declared.replacing.Section.{Section}
use Rattle.bcp47_c.specs.declared.replacing.Section.TheVariants as sections

-- ---- shapes

-- a core with a section of another has the shape of a core, where both have it
core_with : (section : Section) (c d : CoreParts) → IsCore c → IsCore d → IsCore (with_core section c d)
core_with sections.Language c d h k = record {
  language = k.language;
  extlangs = k.extlangs;
  up_to_three = k.up_to_three;
  after_short = k.after_short;
  script = h.script;
  region = h.region;
  variants = h.variants;
}
core_with sections.Script c d h k = record {
  language = h.language;
  extlangs = h.extlangs;
  up_to_three = h.up_to_three;
  after_short = h.after_short;
  script = k.script;
  region = h.region;
  variants = h.variants;
}
core_with sections.Region c d h k = record {
  language = h.language;
  extlangs = h.extlangs;
  up_to_three = h.up_to_three;
  after_short = h.after_short;
  script = h.script;
  region = k.region;
  variants = h.variants;
}
core_with sections.Variants c d h k = record {
  language = h.language;
  extlangs = h.extlangs;
  up_to_three = h.up_to_three;
  after_short = h.after_short;
  script = h.script;
  region = h.region;
  variants = k.variants;
}
core_with sections.Extensions c d h k = h
core_with sections.PrivateUse c d h k = h

-- a langtag with a section of another has the shape of a langtag, where both have it
pub replaced_shaped : (section : Section) (c d : CoreParts) (es fs : List ExtensionParts) (ps qs : List (List ℕ))
    → IsLangTag c es ps → IsLangTag d fs qs
    → IsLangTag (with_core section c d) (with_extensions section es fs) (with_private section ps qs)
replaced_shaped sections.Language c d es fs ps qs h k = record {
  shaped_core = core_with sections.Language c d h.shaped_core k.shaped_core;
  shaped_extensions = h.shaped_extensions;
  shaped_private = h.shaped_private;
}
replaced_shaped sections.Script c d es fs ps qs h k = record {
  shaped_core = core_with sections.Script c d h.shaped_core
      k.shaped_core;
  shaped_extensions = h.shaped_extensions;
  shaped_private = h.shaped_private;
}
replaced_shaped sections.Region c d es fs ps qs h k = record {
  shaped_core = core_with sections.Region c d h.shaped_core
      k.shaped_core;
  shaped_extensions = h.shaped_extensions;
  shaped_private = h.shaped_private;
}
replaced_shaped sections.Variants c d es fs ps qs h k = record {
  shaped_core = core_with sections.Variants c d h.shaped_core k.shaped_core;
  shaped_extensions = h.shaped_extensions;
  shaped_private = h.shaped_private;
}
replaced_shaped sections.Extensions c d es fs ps qs h k = record {
  shaped_core = h.shaped_core;
  shaped_extensions = k.shaped_extensions;
  shaped_private = h.shaped_private;
}
replaced_shaped sections.PrivateUse c d es fs ps qs h k = record {
  shaped_core = h.shaped_core;
  shaped_extensions = h.shaped_extensions;
  shaped_private = k.shaped_private;
}

-- `x` is a subtag
x_is : is_subtag x_subtag ≡ true
unfolding is_subtag
x_is = refl

-- each text of the list that a shaped langtag spells is a subtag
langtag_subtags : (c : CoreParts) (es : List ExtensionParts) (ps : List (List ℕ)) → IsLangTag c es ps
    → list_all is_subtag (spell (LangTag c es ps)) ≡ true
langtag_subtags c es ps k =
    let longer : IsLangTag c es (x_subtag ∷ ps) = record {
      shaped_core = k.shaped_core;
      shaped_extensions = k.shaped_extensions;
      shaped_private = and_from (is_subtag x_subtag) (list_all is_subtag ps)
          x_is k.shaped_private;
    } in
    let all = tag_subtags (LangTag c es (x_subtag ∷ ps)) (longer, not_grandfathered c es (x_subtag ∷ ps) (inr (omega arith))) in
    by_private ps all
  where
    by_private : (qs : List (List ℕ)) → list_all is_subtag (spell (LangTag c es (x_subtag ∷ qs))) ≡ true
        → list_all is_subtag (spell (LangTag c es qs)) ≡ true
    by_private [] all = grind (arith, common_steps, all)
    by_private (q ∷ qs) all = grind (arith, common_steps, all)

-- ---- texts

-- a subtag and then others, each after a hyphen, are all of them joined by hyphens
hyphened_joined : (x : List ℕ) (ss : List (List ℕ)) → x ++ flat_map hyphened ss ≡ join_with_byte 45 (x ∷ ss)
hyphened_joined x [] = append-nil x
hyphened_joined x (s ∷ ss) = ap (λ (l : List ℕ). x ++ 45 ∷ l) (hyphened_joined s ss)

-- the subtags of the parts of a tag, one after another, are its subtags joined by hyphens
pub spelled_joined : (c : CoreParts) (es : List ExtensionParts) (ps : List (List ℕ))
    → (((((c.language ++ flat_map hyphened c.extlangs) ++ flat_map hyphened (option_to_list c.script))
    ++ flat_map hyphened (option_to_list c.region)) ++ flat_map hyphened c.variants)
    ++ flat_map hyphened (spell_extensions es)) ++ flat_map hyphened (spell_private ps)
    ≡ join_with_byte 45 (spell (LangTag c es ps))
spelled_joined c es ps =
    let all = c.extlangs ++ (option_to_list c.script ++ (option_to_list c.region ++ c.variants)) in
    sym (simp (flat_map-append, append_assoc)) ∙ hyphened_joined c.language (all ++ (spell_extensions es ++ spell_private ps))

-- a byte in upper case is the same letter
upper_byte : (b : ℕ) → to_ascii_lowercase (to_ascii_uppercase b) ≡ to_ascii_lowercase b
upper_byte b = grind (arith, nat_tests)

-- a subtag in upper case has the same letters
upper_folded : (s : List ℕ) → folded (upper s) ≡ folded s
upper_folded [] = refl
upper_folded (b ∷ s) = rw (upper_byte b, upper_folded s) refl

-- a subtag with a capital has the same letters
title_folded : (s : List ℕ) → folded (title s) ≡ folded s
title_folded [] = refl
title_folded (b ∷ s) = rw (upper_byte b) refl

-- a subtag in conventional case has the same letters
shown_folded : (s : List ℕ) → folded (shown s) ≡ folded s
shown_folded s = grind (arith, nat_tests, upper_folded s, title_folded s)

-- subtags in conventional case, joined by hyphens, have the same letters
join_folded : (x : List ℕ) (ss : List (List ℕ)) → folded (join_with_byte 45 (x ∷ shown_after ss)) ≡ folded (join_with_byte 45 (x ∷ ss))
join_folded x [] = refl
join_folded x (s ∷ ss) = grind (arith, nat_tests, map-append, shown_folded s, join_folded s ss, join_folded (shown s) ss)

-- the text of a list in conventional case has the same letters as its subtags joined by hyphens
conventional_folded : (list : List (List ℕ)) → folded (conventional list) ≡ folded (join_with_byte 45 list)
conventional_folded [] = refl
conventional_folded (s ∷ ss) = grind (arith, nat_tests, join_folded s ss)

-- the subtags of a list, joined by hyphens, are read as that list
pub joined_list : (s : List ℕ) (ss : List (List ℕ)) → list_all is_subtag (s ∷ ss) ≡ true → list_of (join_with_byte 45 (s ∷ ss)) ≡ s ∷ ss
joined_list s ss h = same_list (join_with_byte 45 (s ∷ ss)) (conventional (s ∷ ss)) (sym (conventional_folded (s ∷ ss)))
    ∙ subtags_again (s ∷ ss) (omega arith) h

-- the text of a list in conventional case is as long as its subtags joined by hyphens
pub conventional_length : (list : List (List ℕ)) → length (conventional list) ≡ length (join_with_byte 45 list)
conventional_length list =
    sym (length-map (conventional list) to_ascii_lowercase) ∙ ap length (conventional_folded list)
    ∙ length-map (join_with_byte 45 list) to_ascii_lowercase

-- ---- what is written, and what is refused

-- that memory ran out is allowed as the reason why any value is refused
pub no_value_memory : (section : Section) (value : List ℕ) → IsNoValue section value no_memory
no_value_memory section value = inl (inl (record { fault = memory_fault; owed = refl; told = refl }))

-- a value whose bearing text is read as a langtag, but whose subtag at `index` is in another section, is refused as
-- Misplaced (6) at that subtag
pub foreign_value : (section : Section) (value text : List ℕ) (tag : TagForm) (parts : List Part) (index : ℕ) (langtag
    : Langtag) → text ≡ bearing section value → length text ≤ longest_text → IsTag tag → spell tag ≡ list_of text
    → form langtag ≡ tag → parts ≡ parts_of tag
    → position (λ (part : Part). not (has section part.kind)) (drop (before_value section) parts) ≡ Some index
    → IsNoValue section value (record { status = 1; detail = 6; place = index + 1 })
foreign_value section value text tag parts index langtag same short is_tag spelled is placed found =
    let read : HasTag text tag = record { short = short; tag = is_tag; spelled = spelled } in
    inr (record {
      tag = tag;
      langtag = record {
        read = subst (λ (t : List ℕ). HasTag t tag) same read;
        langtag = subst (λ (t : TagForm). IsSome (core_of t)) is refl;
      };
      index = index;
      found = ap (λ (ps : List Part). position (λ (part : Part). not (has section part.kind))
          (drop (before_value section) ps)) (sym placed) ∙ found;
      told = refl;
    })

-- a shaped langtag, and the text `joined` of its subtags, joined by hyphens
module _ (c : CoreParts) (es : List ExtensionParts) (ps : List (List ℕ)) (shaped : IsLangTag c es ps) (joined : List ℕ)
    (same : joined ≡ join_with_byte 45 (spell (LangTag c es ps))) where
  -- the text is read as the list that the langtag spells
  reads : list_of joined ≡ spell (LangTag c es ps)
  reads = ap list_of same ∙ joined_list c.language _ (langtag_subtags c es ps shaped)

  -- if `joined` is read as the tag `whole`, that is written as the text of the langtag
  pub made_is : (whole : TagForm) (made : List ℕ) → spell whole ≡ list_of joined → made ≡ conventional (spell whole)
      → made ≡ text_of (LangTag c es ps)
  made_is whole made spelled written = written ∙ ap conventional (spelled ∙ reads)

  -- the text of the langtag is as long as `joined`
  as_long : length (text_of (LangTag c es ps)) ≡ length joined
  as_long = conventional_length (spell (LangTag c es ps)) ∙ ap length (sym same)

  -- if `joined` is read as the tag `whole`, that is written in at most 1,024 bytes if `joined` has no more
  pub made_short : (whole : TagForm) (made : List ℕ) → spell whole ≡ list_of joined → made ≡ conventional (spell whole)
      → length joined ≤ longest_text → length made ≤ longest_text
  made_short whole made spelled written short = omega (arith, as_long, ap length (made_is whole made spelled written))

  -- each piece of `joined`, between its hyphens, is a subtag
  has_list : HasList joined
  has_list = to_HasList joined (ap (list_all is_subtag) reads ∙ langtag_subtags c es ps shaped)

  -- no piece of `joined` is the first that is no subtag
  no_bad_piece : (fault : SubtagFault) (place : ℕ) → IsFirstBadPiece joined fault place → ⊥
  no_bad_piece fault place b =
      let here = b.here (place - 1) (omega (arith, b.first)) in
      let good = has_list (place - 1) (omega (arith, b.first, b.within)) in
      cc

  -- the list of `joined` is well-formed
  formed : IsWellFormed (list_of joined)
  formed = inr (LangTag c es ps, shaped, sym reads)

  -- the only fault that `joined` can have is its length, or memory ran out
  by_kind : (kind : TagFaultKind) (place : ℕ) → IsFault joined kind place
      → IsTooLong (LangTag c es ps) (fault_said 0 (record { kind = kind; place = place }))
  by_kind faults.TooLong place f = inl (omega (arith, as_long, f.0), rw f.1 refl)
  by_kind faults.EmptySubtag place f = absurd (no_bad_piece _ place f.1)
  by_kind faults.BadByte place f = absurd (no_bad_piece _ place f.1)
  by_kind faults.LongSubtag place f = absurd (no_bad_piece _ place f.1)
  by_kind faults.BadLanguage place f = absurd (f.0.bad formed)
  by_kind faults.Misplaced place f = absurd (f.0.bad formed)
  by_kind faults.Unfinished place f = absurd (f.0.bad formed)
  by_kind faults.OutOfMemory place f = inr refl

  -- what an outcome says of a fault of `joined`: that the text is too long, or that memory ran out
  pub made_long : (fault : TagFault) → IsFault joined fault.kind fault.place → IsTooLong (LangTag c es ps) (fault_said 0 fault)
  made_long fault f = by_kind fault.kind fault.place f
