use Rattle.std.proofs.Common.{◌≡◌, drop}
use Rattle.lt_registry.specs.Records.{prefixes_of, bodies, prefix_name}
use Rattle.lt_registry.proofs.RecordTexts.{after}
use Rattle.lt_registry.proofs.records.read_all_prefixes.Given as goal

-- the Prefixes of all fields are those so far, and then those of the fields that are left, if these give some
abbrev pub invariant-loop-field : goal.invariant-loop-field
invariant-loop-field l =
    prefixes_of (bodies prefix_name l.fields) ≡ after l.prefixes.items (prefixes_of (bodies prefix_name (drop l.field-index l.fields)))
