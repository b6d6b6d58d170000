-- What a registry has for a part of a tag (RFC 5646, 3.1.2 and 3.1.4).
use Rattle.std.specs.Prelude.{ℕ, List, Option, Some, None, codes}
use Rattle.std.specs.Option.{option_and_then, option_map_or}
use Rattle.std.specs.Result.{result_ok}
use Rattle.lt_subtag.specs.Reading.{subtag_of}
use Rattle.lt_tag.specs.Parts.{TagForm}
use Rattle.lt_show.specs.PartKinds.{name_of}
use Rattle.lt_show.specs.declared.kinds.PartKind.{PartKind}
use Rattle.lt_show.specs.declared.kinds.PartKind.TheVariants as parts
use Rattle.lt_registry.specs.Entries.{entry, whole}
use Rattle.lt_registry.specs.Parts.{EntryParts}
use Rattle.lt_registry.specs.declared.entries.Kind.{Kind}
use Rattle.lt_registry.specs.declared.entries.Kind.TheVariants as kinds
use Rattle.lt_show.specs.declared.listings.Listing.{Listing}
use Rattle.lt_show.specs.declared.listings.Listing.TheVariants as listings
use Rattle.lt_show.specs.declared.listings.Subject.{Subject}
use Rattle.lt_show.specs.declared.listings.Subject.TheVariants as subjects

-- the kind of the records that register subtags of this kind, None if no records do; a source has the parts of a
-- language tag (RFC 6497, 2.2), and a grandfathered tag is no subtag
abbrev pub kind_of : PartKind → Option Kind
kind_of parts.Language = Some kinds.Language
kind_of parts.Extlang = Some kinds.Extlang
kind_of parts.Script = Some kinds.Script
kind_of parts.Region = Some kinds.Region
kind_of parts.Variant = Some kinds.Variant
kind_of parts.SourceLanguage = Some kinds.Language
kind_of parts.SourceExtlang = Some kinds.Extlang
kind_of parts.SourceScript = Some kinds.Script
kind_of parts.SourceRegion = Some kinds.Region
kind_of parts.SourceVariant = Some kinds.Variant
kind_of kind = None

-- what a registry has for a part by its entry: the entry's record, or Unregistered without an entry
abbrev pub listing_by : Option EntryParts → Listing
listing_by (Some e) = listings.Record e.number
listing_by None = listings.Unregistered

-- the entry under a kind of the subtag that a text spells, in either case of its letters (RFC 5646, 2.1.1 and 3.1.4);
-- None if the text is no subtag or has no entry
abbrev pub entry_of : List EntryParts → Kind → List ℕ → Option EntryParts
entry_of R kind text = option_and_then (λ s. entry R kind s) (result_ok (subtag_of text))

-- What a registry has for a part of a tag, by the part's kind and text. A grandfathered tag has its record (RFC 5646,
-- 2.2.8), a subtag the record of its kind. What no record registers is Unlisted.
abbrev pub listing : List EntryParts → TagForm → PartKind → List ℕ → Listing
listing R tag parts.Grandfathered text = listing_by (whole R tag)
listing R tag kind text = option_map_or (λ k. listing_by (entry_of R k text)) (kind_of kind) listings.Unlisted

-- the name of what a row is about
abbrev pub subject_name : Subject → List ℕ
subject_name subjects.Whole = codes "Whole"
subject_name (subjects.Part kind) = name_of kind
