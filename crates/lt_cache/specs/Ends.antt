-- The end of a tag, from its first one-character subtag on, and what a cache keeps for it, as many tags share their
-- ends (RFC 5646, 2.2.6, 2.2.7 and 4.5).
use Rattle.std.specs.Prelude.{ℕ, ◌≡◌, ◌≢◌, ◌≤◌, ◌==◌, true, not, List, [], ◌∷◌, ◌++◌, length, Option, Some, None}
use Rattle.std.specs.List.{All, list_all}
use Rattle.std.specs.Char.{to_ascii_lowercase}
use Rattle.lt_subtag.specs.Bytes.{folded}
use Rattle.lt_subtag.specs.Shapes.{is_separator}
use Rattle.lt_tag.specs.Extensions.{transform}
use Rattle.lt_tag.specs.Splitting.{before}
use Rattle.lt_tag.specs.Parts.{CoreParts}
use Rattle.lt_tag.specs.Values.{core_alone}
use Rattle.lt_tag.specs.Lists.{list_of, longest_text}
use Rattle.lt_tag.specs.Conventional.{conventional}
use Rattle.lt_tag.specs.Faults.{HasTag}
use Rattle.lt_registry.specs.Parts.{EntryParts}
use Rattle.lt_rewrite.specs.TagSteps.{IsCanonical}
use Rattle.lt_canon.specs.Texts.{IsCanonicalTextOf}
use Rattle.lt_cache.specs.declared.recent.Kept.{Kept}

-- an end of a tag: a hyphen (45), one byte that is no hyphen, and a hyphen begin it (RFC 5646, 2.2.6 and 2.2.7)
pub record IsEnd (end : List ℕ) : Type 0 where
  pub singleton : ℕ
  pub rest : List ℕ
  pub single : singleton ≢ 45
  pub whole : end ≡ 45 ∷ singleton ∷ 45 ∷ rest

-- fields of a `t` extension: a hyphen (45) and a field's separator begin them, and no subtag has one character (RFC
-- 6497, 2.2)
pub record IsFields (fields : List ℕ) : Type 0 where
  pub rest : List ℕ
  pub whole : fields ≡ 45 ∷ rest
  pub separator : before is_separator (list_of rest) ≡ []
  pub no_singleton : list_all (λ (s : List ℕ). not (length s == 1)) (list_of rest) ≡ true

-- the end is a hyphen (45), the singleton `t`, a hyphen, this source, of which nothing is asked, and these fields (RFC
-- 6497, 2.2)
pub record IsTransformed (source fields end : List ℕ) : Type 0 where
  pub singleton : ℕ
  pub is_t : to_ascii_lowercase singleton ≡ transform
  pub whole : end ≡ 45 ∷ singleton ∷ 45 ∷ (source ++ fields)
  pub is_fields : IsFields fields

-- the text is read as a tag of only a core, and that tag is canonical (RFC 5646, 2.1 and 4.5)
pub record IsCanonicalCore (R : List EntryParts) (front : List ℕ) : Type 0 where
  pub core : CoreParts
  pub read : HasTag front (core_alone core)
  pub canonical : IsCanonical R (core_alone core)

-- for each canonical core: if the core with this end has at most 1,024 bytes, its canonical text is the core in
-- conventional case, and then `canonical` (RFC 5646, 2.1.1 and 4.5)
abbrev pub IsEndText : List EntryParts → (end canonical : List ℕ) → Type 0
IsEndText R end canonical =
    (front : List ℕ) → IsCanonicalCore R front → length (front ++ end) ≤ longest_text →
    IsCanonicalTextOf R (front ++ end) (conventional (list_of front) ++ canonical)

-- `canonical`, the canonical text of a core, `front`, and an end, tells what follows each canonical core with this end
pub record TellsEnd (R : List EntryParts) (front end canonical : List ℕ) : Type 0 where
  pub rest : List ℕ
  pub whole : canonical ≡ conventional (list_of front) ++ rest
  pub shared : IsEndText R end rest

-- in canonical texts, the same follows each canonical core with the same end (RFC 5646, 4.5)
abbrev pub EndsAreShared : List EntryParts → Type 0
EndsAreShared R =
    (front end canonical : List ℕ) → IsCanonicalCore R front → IsEnd end
    → IsCanonicalTextOf R (front ++ end) canonical →
    TellsEnd R front end canonical

-- `canonical` is what follows the source in the canonical text of each canonical core with a `t` extension of a
-- canonical source and these fields (RFC 5646, 2.1.1 and 4.5; RFC 6497, 2.2)
abbrev pub IsFieldsText : List EntryParts → (fields canonical : List ℕ) → Type 0
IsFieldsText R fields canonical =
    (front source end : List ℕ) → IsCanonicalCore R front → IsCanonicalCore R source → IsTransformed source fields end →
    length (front ++ end) ≤ longest_text →
    IsCanonicalTextOf R (front ++ end)
    (conventional (list_of front) ++ (45 ∷ transform ∷ 45 ∷ folded source ++ canonical))

-- `canonical`, the canonical text of a core, `front`, and a `t` extension of a source and fields, tells what follows
-- each canonical source with these fields
pub record TellsFields (R : List EntryParts) (front source fields canonical : List ℕ) : Type 0 where
  pub rest : List ℕ
  pub whole : canonical ≡ conventional (list_of front) ++ (45 ∷ transform ∷ 45 ∷ folded source ++ rest)
  pub shared : IsFieldsText R fields rest

-- in canonical texts, the same follows each canonical source with the same fields (RFC 5646, 4.5)
abbrev pub FieldsAreShared : List EntryParts → Type 0
FieldsAreShared R =
    (front source fields end canonical : List ℕ) → IsCanonicalCore R front → IsCanonicalCore R source →
    IsTransformed source fields end → IsCanonicalTextOf R (front ++ end) canonical →
    TellsFields R front source fields canonical

-- a place of the cache is empty, or right by `R`: if its line is an end, its answer is what follows a core with that
-- end, and if its line is fields, its answer is what follows a source with those fields
abbrev pub IsKeptEnd : List EntryParts → Option Kept → Type 0
IsKeptEnd R None = Unit {0}
IsKeptEnd R (Some kept) =
    (IsEnd kept.line → IsEndText R kept.line kept.answer) × (IsFields kept.line → IsFieldsText R kept.line kept.answer)

-- each place of the cache of ends is empty or right
pub record AreEnds (R : List EntryParts) (table : List (Option Kept)) : Type 0 where
  pub each : All (IsKeptEnd R) table
