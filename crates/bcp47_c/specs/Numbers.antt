-- The numbers of faults, classes and kinds of step in C, for which `bindings/c/bcp47.h` has constants. The number 0
-- of a fault means none, for example where memory ran out, which the status says.
use Rattle.std.specs.Prelude.{ℕ, ◌≡◌, ◌≢◌, Option, Some, None}
use Rattle.lt_subtag.specs.declared.SubtagFault.{SubtagFault}
use Rattle.lt_subtag.specs.declared.SubtagFault.TheVariants as subtag_kinds
use Rattle.lt_tag.specs.declared.faults.TagFaultKind.{TagFaultKind}
use Rattle.lt_tag.specs.declared.faults.TagFaultKind.TheVariants as tag_kinds
use Rattle.lt_range.specs.declared.accept_faults.AcceptFaultKind.{AcceptFaultKind}
use Rattle.lt_range.specs.declared.accept_faults.AcceptFaultKind.TheVariants as accept_kinds
use Rattle.lt_range.specs.declared.faults.RangeFault.{RangeFault}
use Rattle.lt_range.specs.declared.faults.RangeFault.TheVariants as range_kinds
use Rattle.lt_registry.specs.declared.faults.ValidFaultKind.{ValidFaultKind}
use Rattle.lt_registry.specs.declared.faults.ValidFaultKind.TheVariants as valid_kinds
use Rattle.lt_jar.specs.declared.faults.JarFaultKind.{JarFaultKind}
use Rattle.lt_jar.specs.declared.faults.JarFaultKind.TheVariants as file_kinds
use Rattle.lt_registry.specs.declared.faults.RecordFaultKind.{RecordFaultKind}
use Rattle.lt_registry.specs.declared.faults.RecordFaultKind.TheVariants as record_kinds
use Rattle.lt_rewrite.specs.declared.steps.StepKind.{StepKind}
use Rattle.lt_rewrite.specs.declared.steps.StepKind.TheVariants as steps
use Rattle.lt_check.specs.declared.conditions.Condition.{Condition}
use Rattle.lt_check.specs.declared.conditions.Condition.TheVariants as conditions
use Rattle.lt_upgrade.specs.declared.conditions.UpgradeCondition.{UpgradeCondition}
use Rattle.lt_upgrade.specs.declared.conditions.UpgradeCondition.TheVariants as upgrades
use Rattle.lt_tag.specs.declared.tags.Class.{Class}
use Rattle.lt_tag.specs.declared.tags.Class.TheVariants as classes

-- the number of the fault for which a text is no tag
abbrev pub tag_fault : TagFaultKind → ℕ
tag_fault tag_kinds.TooLong = 1
tag_fault tag_kinds.EmptySubtag = 2
tag_fault tag_kinds.BadByte = 3
tag_fault tag_kinds.LongSubtag = 4
tag_fault tag_kinds.BadLanguage = 5
tag_fault tag_kinds.Misplaced = 6
tag_fault tag_kinds.Unfinished = 7
tag_fault tag_kinds.OutOfMemory = 0

-- the number of the fault of a tag that is not valid
abbrev pub valid_fault : ValidFaultKind → ℕ
valid_fault valid_kinds.UnknownLanguage = 8
valid_fault valid_kinds.UnknownExtlang = 9
valid_fault valid_kinds.ExtlangPrefix = 10
valid_fault valid_kinds.TooManyExtlangs = 11
valid_fault valid_kinds.UnknownScript = 12
valid_fault valid_kinds.UnknownRegion = 13
valid_fault valid_kinds.UnknownVariant = 14
valid_fault valid_kinds.DuplicateVariant = 15
valid_fault valid_kinds.DuplicateSingleton = 16
valid_fault valid_kinds.BadTransform = 17

-- the number of the fault for which the bytes of a registry are not in the record-jar format, or were not read to the
-- end
abbrev pub file_fault : JarFaultKind → ℕ
file_fault file_kinds.LineTooLong = 18
file_fault file_kinds.NotUtf8 = 19
file_fault file_kinds.LeadingContinuation = 20
file_fault file_kinds.BadLine = 21
file_fault file_kinds.TooManyRecords = 22
file_fault file_kinds.Read = 23
file_fault file_kinds.TooManyTurns = 24
file_fault file_kinds.Failed = 25
file_fault file_kinds.OutOfMemory = 0

-- the number of the fault for which a record can't be read as an entry
abbrev pub record_fault : RecordFaultKind → ℕ
record_fault record_kinds.RepeatedField = 26
record_fault record_kinds.MissingType = 27
record_fault record_kinds.UnknownType = 28
record_fault record_kinds.MissingName = 29
record_fault record_kinds.BadRange = 30
record_fault record_kinds.BadSubtag = 31
record_fault record_kinds.BadTag = 32
record_fault record_kinds.BadPreferred = 33
record_fault record_kinds.BadPrefix = 34
record_fault record_kinds.OutOfMemory = 0

-- the number of a condition of the check, C1 to C12
abbrev pub condition : Condition → ℕ
condition conditions.OwnName = 35
condition conditions.RegisteredValue = 36
condition conditions.EndingChain = 37
condition conditions.FittingExtlang = 38
condition conditions.FittingVariantValue = 39
condition conditions.FinalPrefixes = 40
condition conditions.LangtagPrefixes = 41
condition conditions.FittingGrandfathered = 42
condition conditions.ValidWhole = 43
condition conditions.RestingWhole = 44
condition conditions.AgreeingWhole = 45
condition conditions.NoRangeValue = 46

-- the number of a condition on an upgrade, U1 to U6
abbrev pub upgrade_condition : UpgradeCondition → ℕ
upgrade_condition upgrades.StaysRegistered = 47
upgrade_condition upgrades.SameEnds = 48
upgrade_condition upgrades.SameExtlang = 49
upgrade_condition upgrades.SameVariantLanguage = 50
upgrade_condition upgrades.NoNewVariantLanguage = 51
upgrade_condition upgrades.SameWhole = 52

-- the number of the fault of a piece of a language range, which is what is between hyphens; the faults of a piece of a
-- tag's text have these numbers too
abbrev pub subtag_fault : SubtagFault → ℕ
subtag_fault subtag_kinds.Empty = 2
subtag_fault subtag_kinds.BadByte = 3
subtag_fault subtag_kinds.TooLong = 4

-- the number of the fault of a language range
abbrev pub range_fault : RangeFault → ℕ
range_fault (range_kinds.BadSubtag fault) = subtag_fault fault
range_fault range_kinds.BadFirst = 53
range_fault range_kinds.OutOfMemory = 0

-- the number of the fault of a list element of the header Accept-Language
abbrev pub accept_fault : AcceptFaultKind → ℕ
accept_fault (accept_kinds.BadRange fault) = range_fault fault
accept_fault accept_kinds.ExtendedRange = 54
accept_fault accept_kinds.BadWeight = 55
accept_fault accept_kinds.OutOfMemory = 0

-- the number of a class of tag (RFC 5646, 2.1)
abbrev pub class : Class → ℕ
class classes.LangTag = 1
class classes.PrivateUse = 2
class classes.Grandfathered = 3

-- the number of a kind of step
abbrev pub step_kind : StepKind → ℕ
step_kind steps.Extlang = 1
step_kind steps.Language = 2
step_kind steps.Script = 3
step_kind steps.Region = 4
step_kind steps.Variant = 5
step_kind steps.VariantLanguage = 6
step_kind steps.Whole = 7
step_kind steps.SwapExtensions = 8
step_kind steps.DropAttribute = 9
step_kind steps.SwapAttributes = 10
step_kind steps.DropKeyword = 11
step_kind steps.SwapKeywords = 12
step_kind steps.DropTrue = 13
step_kind steps.SwapFields = 14

-- the kind of step that has a number, or None if no kind has it
abbrev pub IsKindOf : ℕ → Option StepKind → Type 0
IsKindOf n (Some kind) = n ≡ step_kind kind
IsKindOf n None = (kind : StepKind) → n ≢ step_kind kind
