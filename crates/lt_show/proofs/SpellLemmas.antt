-- The parts of a tag spell its text, as the contract of `parts` says: there are as many as the text has pieces between
-- its hyphens, and what each part cuts out of the text is one of the pieces.
use Rattle.std.proofs.Common.{◌≡◌, ℕ, ◌<◌, ◌+◌, ◌==◌, List, [], ◌∷◌, ◌++◌, length, take, drop, suc, refl, sym, ap, ◌∙◌}
use Rattle.std.proofs.Common.{arith, append_assoc, length-append}
use Rattle.std.specs.Prelude.{Bool, true, false, cond, Option, Some, None, map, flat_map}
use Rattle.std.specs.List.{join_with_byte}
use Rattle.std.specs.Option.{option_map_or}
use Rattle.std.proofs.lemmas.List.{length-map}
use Rattle.std.proofs.lemmas.List.Splits.{length-slice_split}
use Rattle.std.proofs.Math.Seq.{take-append_seam, drop-append_seam, take-length}
use Rattle.lt_subtag.specs.Bytes.{folded}
use Rattle.lt_tag.specs.Parts.{CoreParts, ExtensionParts, TagForm, LangTag, PrivateUse, Grandfathered, KeywordParts}
use Rattle.lt_tag.specs.Parts.{UForm, FieldParts, TForm}
use Rattle.lt_tag.specs.Extensions.{unicode, transform, spell_keyword, spell_u, spell_field, spell_t}
use Rattle.lt_tag.specs.Spelling.{spell_core, spell_extension, spell_private}
use Rattle.lt_tag.specs.Splitting.{unicode_of, transform_of}
use Rattle.lt_tag.specs.Lists.{pieces}
use Rattle.lt_tag.specs.WellFormed.{spell, IsTag}
use Rattle.lt_tag.proofs.LetterLemmas.{join_pieces}
use Rattle.lt_tag.proofs.OneTagLemmas.{text_of_tag}
use Rattle.lt_tag.proofs.PartsLaws.{u_decided, t_decided}
use Rattle.lt_show.specs.PartKinds.{each, core_kinds, keyword_kinds, u_kinds, in_source, source_kinds, field_kinds}
use Rattle.lt_show.specs.PartKinds.{t_kinds, subtag_kinds, extension_kinds, private_kinds, part_kinds}
use Rattle.lt_tag.specs.Texts.{text_of}
use Rattle.lt_show.specs.Places.{placed, parts_of, cut_of, Spell}
use Rattle.lt_show.specs.declared.kinds.PartKind.{PartKind}
use Rattle.lt_show.specs.declared.kinds.PartKind.TheVariants as kinds
use Rattle.lt_show.specs.declared.placing.Part.{Part}
use Rattle.lt_show.proofs.PlaceLemmas.{none_placed}

-- ---- as many kinds as subtags

-- if `f` and `g` give equally long lists for each element of a list, these lists, joined, are equally long
flat_maps : {X A B : Type 0} (f : X → List A) (g : X → List B) (xs : List X) → ((x : X) → length (f x) ≡ length (g x))
    → length (flat_map f xs) ≡ length (flat_map g xs)
flat_maps f g [] h = refl
flat_maps f g (x ∷ xs) h = omega (arith, length-append (f x) (flat_map f xs), length-append (g x) (flat_map g xs), h x, flat_maps f g xs h)

-- if there is one kind for each subtag, there are as many kinds as subtags
each_count : (kind : PartKind) (ss : List (List ℕ)) → length (each kind ss) ≡ length ss
each_count kind ss = length-map ss (λ _. kind)

-- one kind for each subtag, and one kind in front of them, are one more than the subtags
one_more : (kind first : PartKind) (ss : List (List ℕ)) → length (first ∷ each kind ss) ≡ suc (length ss)
one_more kind first ss = ap suc (each_count kind ss)

-- a core has as many kinds as subtags
core_count : (core : CoreParts) → length (core_kinds core) ≡ length (spell_core core)
core_count core = simp (length-append, length-map)

-- the parts of a `u` extension have as many kinds as subtags
u_count : (parts : UForm) → length (u_kinds parts) ≡ length (spell_u parts)
u_count parts =
    let keywords = flat_maps keyword_kinds spell_keyword parts.keywords (λ (k : KeywordParts). one_more kinds.Type kinds.Key k.types) in
    simp (length-append, length-map, keywords)

-- a source has as many kinds as subtags; without one there are none
source_count : (source : Option CoreParts) → length (source_kinds source) ≡ length (option_map_or spell_core source [])
source_count None = refl
source_count (Some core) = length-map (core_kinds core) in_source ∙ core_count core

-- the parts of a `t` extension have as many kinds as subtags
t_count : (parts : TForm) → length (t_kinds parts) ≡ length (spell_t parts)
t_count parts =
    let fields = flat_maps field_kinds spell_field parts.fields (λ (f : FieldParts). one_more kinds.Value kinds.Separator f.values) in
    let source = source_count parts.source in
    simp (length-append, fields, source)

-- the kinds of a `u` extension's parts, or of its subtags where it has no parts, are as many as its subtags
u_or_plain : (ss : List (List ℕ)) (o : Option UForm) → unicode_of ss ≡ o
    → length (option_map_or u_kinds o (each kinds.ExtensionSubtag ss)) ≡ length ss
u_or_plain ss None h = each_count kinds.ExtensionSubtag ss
u_or_plain ss (Some parts) h = u_count parts ∙ ap length ((u_decided ss parts).0 h).spelled

-- the kinds of a `t` extension's parts, or of its subtags where it has no parts, are as many as its subtags
t_or_plain : (ss : List (List ℕ)) (o : Option TForm) → transform_of ss ≡ o
    → length (option_map_or t_kinds o (each kinds.ExtensionSubtag ss)) ≡ length ss
t_or_plain ss None h = each_count kinds.ExtensionSubtag ss
t_or_plain ss (Some parts) h = t_count parts ∙ ap length ((t_decided ss parts).0 h).spelled

-- if two lists have the length `n`, the one that the test `b` chooses has it
both : (b : Bool) (xs ys : List PartKind) (n : ℕ) → length xs ≡ n → length ys ≡ n → length (cond b xs ys) ≡ n
both true xs ys n h k = h
both false xs ys n h k = k

-- an extension has as many kinds as subtags, the singleton counted
extension_count : (e : ExtensionParts) → length (extension_kinds e) ≡ length (spell_extension e)
extension_count e =
    let plain = each_count kinds.ExtensionSubtag e.subtags in
    let counted : length (subtag_kinds e) ≡ length e.subtags =
    both (e.singleton == unicode) _ _ _ (u_or_plain e.subtags _ refl)
    (both (e.singleton == transform) _ _ _ (t_or_plain e.subtags _ refl) plain) in
    ap suc counted

-- private use has as many kinds as subtags, the `x` counted
private_count : (ss : List (List ℕ)) → length (private_kinds ss) ≡ length (spell_private ss)
private_count [] = refl
private_count (s ∷ ss) = one_more kinds.PrivateUse kinds.PrivateUseSingleton (s ∷ ss)

-- a langtag has as many kinds as subtags
langtag_count : (core : CoreParts) (es : List ExtensionParts) (ps : List (List ℕ))
    → length (part_kinds (LangTag core es ps)) ≡ length (spell (LangTag core es ps))
langtag_count core es ps =
    let extensions : length (flat_map extension_kinds es) ≡ length (flat_map spell_extension es) = flat_maps
    extension_kinds spell_extension es extension_count in
    omega (
      arith,
      length-append (core_kinds core) (flat_map extension_kinds es ++ private_kinds ps),
      length-append (flat_map extension_kinds es) (private_kinds ps),
      length-append (spell_core core) (flat_map spell_extension es ++ spell_private ps),
      length-append (flat_map spell_extension es) (spell_private ps),
      core_count core,
      private_count ps,
    )

-- ---- each part has the text at which it is placed

-- a text `t` after `front` is what its place and its length cut out of the whole
cut_again : (front t rest : List ℕ) → take (length t) (drop (length front) (front ++ (t ++ rest))) ≡ t
cut_again front t rest = ap (take (length t)) (drop-append_seam front (t ++ rest)) ∙ take-append_seam t rest

-- if a text is `front` and then the texts `t` and `ts` with hyphens between them, parts that are placed from the end of
-- `front` on are these texts
cuts_placed : (text front : List ℕ) (start : ℕ) (ks : List PartKind) (t : List ℕ) (ts : List (List ℕ))
    → text ≡ front ++ join_with_byte 45 (t ∷ ts) → start ≡ length front → length ks ≡ length (t ∷ ts)
    → map (cut_of text) (placed start ks (t ∷ ts)) ≡ t ∷ ts
cuts_placed text front start [] t ts e s l = absurd (omega arith)
cuts_placed text front start (k ∷ ks) t [] e s l =
    let cut : take (length t) (drop start text) ≡ t = rw (e, s) (ap (take (length t)) (drop-append_seam front t) ∙ take-length t) in
    ap (λ (ps : List Part). take (length t) (drop start text) ∷ map (cut_of text) ps) (none_placed
    (start + length t + 1) ks) ∙ ap (λ (x : List ℕ). x ∷ []) cut
cuts_placed text front start (k ∷ ks) t (u ∷ us) e s l =
    let rest : List ℕ = join_with_byte 45 (u ∷ us) in
    let cut : take (length t) (drop start text) ≡ t = rw (e, s) (cut_again front t (45 ∷ rest)) in
    let on : text ≡ (front ++ (t ++ 45 ∷ [])) ++ rest = e
    ∙ sym (append_assoc front (t ++ 45 ∷ []) rest
    ∙ ap (λ (x : List ℕ). front ++ x) (append_assoc t (45 ∷ []) rest)) in
    let past : start + length t + 1 ≡ length (front ++ (t ++ 45 ∷ [])) = omega
    (arith, length-append front (t ++ 45 ∷ []), length-append t (45 ∷ [])) in
    ap (λ (x : List ℕ). x ∷ map (cut_of text) (placed (start + length t + 1) ks (u ∷ us))) cut
    ∙ ap (λ (xs : List (List ℕ)). t ∷ xs) (cuts_placed text (front ++ (t ++ 45 ∷ [])) (start + length t + 1) ks u us on past (omega arith))

-- parts that are placed at the texts between the hyphens of a text spell it
spell_texts : (text : List ℕ) (ks : List PartKind) (ts : List (List ℕ)) → join_with_byte 45 ts ≡ text
    → length ks ≡ length ts → 0 < length ts → Spell (placed 0 ks ts) text
spell_texts text ks [] e l some = absurd (omega arith)
spell_texts text ks (t ∷ ts) e l some = ap (join_with_byte 45) (cuts_placed text [] 0 ks t ts (sym e) refl l) ∙ e

-- a text has as many pieces as its tag has subtags
piece_count : (tag : TagForm) → IsTag tag → length (pieces (text_of tag)) ≡ length (spell tag)
piece_count tag h = sym (length-map (pieces (text_of tag)) folded) ∙ ap length (text_of_tag tag h).1

-- a text has at least one piece
some_pieces : (text : List ℕ) → 0 < length (pieces text)
some_pieces text = omega (arith, length-slice_split (λ (b : ℕ). b == 45) text)

-- the parts of a tag spell its text
pub parts_spell : (tag : TagForm) → IsTag tag → Spell (parts_of tag) (text_of tag)
parts_spell (LangTag core es ps) h =
    let tag : TagForm = LangTag core es ps in
    spell_texts (text_of tag) (part_kinds tag) (pieces (text_of tag)) (join_pieces (text_of tag))
    (langtag_count core es ps ∙ sym (piece_count tag h)) (some_pieces (text_of tag))
parts_spell (PrivateUse ss) h =
    let tag : TagForm = PrivateUse ss in
    spell_texts (text_of tag) (part_kinds tag) (pieces (text_of tag)) (join_pieces (text_of tag))
    (one_more kinds.PrivateUse kinds.PrivateUseSingleton ss ∙ sym (piece_count tag h)) (some_pieces (text_of tag))
parts_spell (Grandfathered n) h = spell_texts (text_of (Grandfathered n)) (kinds.Grandfathered ∷ [])
    (text_of (Grandfathered n) ∷ []) refl refl (omega arith)

-- a list that is equal to the parts of a tag spells its text
pub spelled : (tag : TagForm) (ps : List Part) → IsTag tag → ps ≡ parts_of tag → Spell ps (text_of tag)
spelled tag ps h e = ap (λ (qs : List Part). join_with_byte 45 (map (cut_of (text_of tag)) qs)) e ∙ parts_spell tag h
