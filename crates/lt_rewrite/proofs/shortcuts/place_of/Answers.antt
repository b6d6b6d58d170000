use Rattle.std.proofs.Common.{rules, length, ltb, refl, arith}
use Rattle.std.proofs.lemmas.List.Sorted.{IsPartitionPoint-from_clause, IsPartitionedBy-ltb}
use Rattle.std.proofs.lemmas.Option.{slice_get_read}
use Rattle.lt_registry.specs.Parts.{EntryParts}
use Rattle.lt_rewrite.proofs.ShortcutWalks.{not_falling, numbered_there, first_not_lower}
use Rattle.lt_rewrite.proofs.shortcuts.place_of.Goals as goal

-- the numbers rise, so the record that has this number is the entry
pub returns-in-Some : goal.returns-in-Some
returns-in-Some c =
    let R = c.args.entries.now in
    let i = c.saturating_sub-place.result in
    let other : EntryParts = c.in-Some.other.now in
    numbered_there R c.requires.rising i other c.args.entry.now
    (slice_get_read R (length R) i other refl c.in-Some.ensures.lookup.3.0 c.in-Some.ensures.lookup.1)
    c.requires.there
    (omega (arith, c.if-number.true, c.number.ensures.value, c.number-number.ensures.value))

-- the numbers rise, so the first record whose number is not lower is the entry
pub returns-in_default : goal.returns-in_default
returns-in_default c =
    let R = c.args.entries.now in
    let number = c.args.entry.now.number in
    let parted = IsPartitionedBy-ltb (λ (e : EntryParts). e.number) R number (not_falling R c.requires.rising) in
    let point = IsPartitionPoint-from_clause (λ (e : EntryParts). ltb e.number number) _ _
    c.partition_point.ensures.partitioned parted (λ a r f k. search rules) in
    first_not_lower R c.requires.rising c.partition_point.result c.args.entry.now c.requires.there
    c.partition_point.ensures.bound point.0 point.1
