-- Where the parts of a tag are in its text.
use Rattle.std.specs.Prelude.{ℕ, ◌≡◌, ◌+◌, List, [], ◌∷◌, length, map, take, drop}
use Rattle.std.specs.List.{join_with_byte}
use Rattle.lt_tag.specs.Lists.{pieces}
use Rattle.lt_tag.specs.Parts.{TagForm, LangTag, PrivateUse, Grandfathered}
use Rattle.lt_tag.specs.Texts.{text_of}
use Rattle.lt_show.specs.PartKinds.{part_kinds}
use Rattle.lt_show.specs.declared.kinds.PartKind.{PartKind}
use Rattle.lt_show.specs.declared.placing.Part.{Part}

-- the texts of the parts of a tag: what is between its hyphens; a grandfathered tag is one part (RFC 5646, 2.1 and
-- 2.2.8)
abbrev pub part_texts : TagForm → List (List ℕ)
part_texts (LangTag core extensions private) = pieces (text_of (LangTag core extensions private))
part_texts (PrivateUse subtags) = pieces (text_of (PrivateUse subtags))
part_texts (Grandfathered number) = text_of (Grandfathered number) ∷ []

-- parts of these kinds and texts, the first of which begins at `start`, with one byte between each and the next
abbrev pub placed : ℕ → List PartKind → List (List ℕ) → List Part
placed start [] texts = []
placed start (k ∷ ks) [] = []
placed start (k ∷ ks) (t ∷ ts) =
    record { kind = k; start = start; length = length t } ∷ placed (start + length t + 1) ks ts

-- the parts of a tag, in the order of its text
abbrev pub parts_of : TagForm → List Part
parts_of tag = placed 0 (part_kinds tag) (part_texts tag)

-- the text of a part, cut out of the text of its tag
abbrev pub cut_of : List ℕ → Part → List ℕ
cut_of text part = take part.length (drop part.start text)

-- the texts of the parts, joined by hyphens (45), are the text
abbrev pub Spell : List Part → List ℕ → Type 0
Spell parts text = join_with_byte 45 (map (cut_of text) parts) ≡ text
