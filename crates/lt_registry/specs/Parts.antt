-- What contracts see of an entry (RFC 5646, 3.1).
use Rattle.std.specs.Prelude.{ℕ, List, Option}
use Rattle.lt_registry.specs.declared.entries.Kind.{Kind}
use Rattle.lt_registry.specs.declared.entries.EntryName.{EntryName}
use Rattle.lt_registry.specs.declared.entries.EntryValue.{EntryValue}

-- an entry: a record's number, its type, what it names, its value and its Prefixes (RFC 5646, 3.1.2); a Prefix is a
-- list of subtags, and a subtag the list of its lower-case bytes
pub record EntryParts : Type 0 where
  pub number : ℕ
  pub kind : Kind
  pub name : EntryName
  pub value : Option EntryValue
  pub prefixes : List (List (List ℕ))
