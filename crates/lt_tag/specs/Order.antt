-- An order of tags by their parts, one after another as they are in a tag. Tags without a core come first.
-- `ordering_then` is the first of two orders, or the second where the first says that the two are equal.
use Rattle.std.specs.Prelude.{ℕ, List, ◌++◌}
use Rattle.std.specs.Ordering.{nat_cmp, ordering_then}
use Rattle.std.specs.Option.{option_cmp}
use Rattle.std.specs.Cmp.Lexicographic.{slice_cmp}
use Rattle.std.specs.Hash as fed
use Rattle.std.specs.declared.cmp.Ordering.{Ordering}
use Rattle.lt_tag.specs.Parts.{CoreParts, ExtensionParts, TagForm}
use Rattle.lt_tag.specs.Values.{core_of, extensions_of, private_of, number_of}

-- the order of subtags: that of their bytes
abbrev pub subtag_cmp : List ℕ → List ℕ → Ordering
subtag_cmp = slice_cmp nat_cmp

-- the order of lists of subtags, one subtag after another
abbrev pub list_cmp : List (List ℕ) → List (List ℕ) → Ordering
list_cmp = slice_cmp subtag_cmp

-- the order of cores: language, extlangs, script, region, variants
abbrev pub core_cmp : CoreParts → CoreParts → Ordering
core_cmp c d =
    ordering_then (subtag_cmp c.language d.language)
    (ordering_then (list_cmp c.extlangs d.extlangs)
    (ordering_then (option_cmp subtag_cmp c.script d.script)
    (ordering_then (option_cmp subtag_cmp c.region d.region) (list_cmp c.variants d.variants))))

-- the order of extensions: the singleton, then the subtags
abbrev pub extension_cmp : ExtensionParts → ExtensionParts → Ordering
extension_cmp a b = ordering_then (nat_cmp a.singleton b.singleton) (list_cmp a.subtags b.subtags)

-- the order of tags: core, extensions, private use, and the number of a grandfathered tag
abbrev pub tag_cmp : TagForm → TagForm → Ordering
tag_cmp t u =
    ordering_then (option_cmp core_cmp (core_of t) (core_of u))
    (ordering_then (slice_cmp extension_cmp (extensions_of t) (extensions_of u))
    (ordering_then (list_cmp (private_of t) (private_of u)) (option_cmp nat_cmp (number_of t) (number_of u))))

-- ---- what is fed to a hasher: the parts in that order

-- what a hasher is fed of a subtag
abbrev pub subtag_writes : List ℕ → fed.HashWrites
subtag_writes = fed.slice fed.u8

-- what a hasher is fed of a core
abbrev pub core_writes : CoreParts → fed.HashWrites
core_writes c =
    subtag_writes c.language ++ fed.slice subtag_writes c.extlangs ++ fed.option subtag_writes c.script
    ++ fed.option subtag_writes c.region ++ fed.slice subtag_writes c.variants

-- what a hasher is fed of an extension
abbrev pub extension_writes : ExtensionParts → fed.HashWrites
extension_writes e = fed.u8 e.singleton ++ fed.slice subtag_writes e.subtags

-- what a hasher is fed of a tag
abbrev pub tag_writes : TagForm → fed.HashWrites
tag_writes t =
    fed.option core_writes (core_of t) ++ fed.slice extension_writes (extensions_of t)
    ++ fed.slice subtag_writes (private_of t) ++ fed.option fed.u8 (number_of t)
