-- Ends of texts that are canonical but for the case of their letters: a `u` extension of keywords in their order, or
-- private use (RFC 5646, 2.2.7 and 4.5; RFC 6067, 2.1.1). No public contract cites this.
use Rattle.std.specs.Prelude.{ℕ, ◌≡◌, ◌++◌, ◌==◌, ◌&&◌, ◌||◌, Bool, false, List, ◌∷◌, None}
use Rattle.std.specs.List.{list_all}
use Rattle.lt_subtag.specs.Bytes.{is_subtag}
use Rattle.lt_tag.specs.Lists.{list_of}
use Rattle.lt_registry.specs.Parts.{EntryParts}
use Rattle.lt_rewrite.specs.RisingKeys.{keys_rise}
use Rattle.lt_check.specs.Conditions.{IsChecked}
use Rattle.lt_cache.specs.Ends.{IsEndText}

-- whether an end is canonical but for its case: `-u-` (45, 117 or 85, 45) and keywords in their order, or `-x-` (120 or
-- 88) and subtags
abbrev pub is_settled_end : List ℕ → Bool
is_settled_end (h ∷ s ∷ i ∷ rest) =
    ((h == 45) && (i == 45))
    && ((((s == 117) || (s == 85)) && keys_rise None (list_of rest))
    || (((s == 120) || (s == 88)) && list_all is_subtag (list_of rest)))
is_settled_end _ = false

-- in a registry that passes the check, what was appended is what follows each canonical core with this end in its
-- canonical text
abbrev pub AppendsEndText : (end old new : List ℕ) → Type 0
AppendsEndText end old new =
    (rest : List ℕ) × ((R : List EntryParts) → IsChecked R → IsEndText R end rest) × (new ≡ old ++ rest)
