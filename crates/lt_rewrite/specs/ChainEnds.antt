-- Where the chain of values from a subtag of a kind ends (RFC 5646, 3.1.7).
use Rattle.std.specs.Prelude.{ℕ, List, Option, Some, None, if◌then◌else◌}
use Rattle.std.specs.Option.{option_and_then}
use Rattle.lt_registry.specs.Parts.{EntryParts}
use Rattle.lt_registry.specs.Entries.{replacement, one_of, is_short}
use Rattle.lt_registry.specs.declared.entries.Kind.{Kind}
use Rattle.lt_registry.specs.declared.entries.Kind.TheVariants as kinds
use Rattle.lt_rewrite.specs.CoreSteps.{Ends, EndsIn}
use Rattle.lt_rewrite.specs.Conditions.{next_value}

-- the chain of values from a subtag `s` of a kind ends in `d`; the chain of an extlang is that of its replacement, a
-- language
abbrev pub ChainEndsIn : List EntryParts → Kind → List ℕ → List ℕ → Type 0
ChainEndsIn R kinds.Extlang s d = EndsIn (next_value R kinds.Language) (replacement R s) d
ChainEndsIn R kinds.Language s d = EndsIn (next_value R kinds.Language) s d
ChainEndsIn R kinds.Script s d = EndsIn (next_value R kinds.Script) s d
ChainEndsIn R kinds.Region s d = EndsIn (next_value R kinds.Region) s d
ChainEndsIn R kinds.Variant s d = EndsIn (next_value R kinds.Variant) s d
ChainEndsIn R kinds.Grandfathered s d = EndsIn (next_value R kinds.Grandfathered) s d
ChainEndsIn R kinds.Redundant s d = EndsIn (next_value R kinds.Redundant) s d

-- the chain of values from a subtag `s` of a kind comes to an end; the chain of an extlang is that of its replacement
abbrev pub ChainEnds : List EntryParts → Kind → List ℕ → Type 0
ChainEnds R kinds.Extlang s = Ends (next_value R kinds.Language) (replacement R s)
ChainEnds R kinds.Language s = Ends (next_value R kinds.Language) s
ChainEnds R kinds.Script s = Ends (next_value R kinds.Script) s
ChainEnds R kinds.Region s = Ends (next_value R kinds.Region) s
ChainEnds R kinds.Variant s = Ends (next_value R kinds.Variant) s
ChainEnds R kinds.Grandfathered s = Ends (next_value R kinds.Grandfathered) s
ChainEnds R kinds.Redundant s = Ends (next_value R kinds.Redundant) s

-- the value of the entry `e` that comes next in a chain of values of the kind: after a variant only a variant comes
-- next, and after an extlang or a whole tag nothing does
abbrev pub following : Kind → EntryParts → Option (List ℕ)
following kinds.Language e = one_of e.value
following kinds.Extlang e = None
following kinds.Script e = one_of e.value
following kinds.Region e = one_of e.value
following kinds.Variant e = option_and_then (λ w. if is_short w then None else Some w) (one_of e.value)
following kinds.Grandfathered e = None
following kinds.Redundant e = None
