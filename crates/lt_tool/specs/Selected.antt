-- Which language ranges the lines of the input are to be matched by (RFC 4647), and for which header one of them is to be
-- served (RFC 9110, 12.5.4).
use Rattle.std.specs.Prelude.{◌≡◌, ◌⊎◌, ◌+◌, ℕ, List, [], ◌∷◌, ◌++◌, Option, Some, None, Result, String, Vec, codes}
use Rattle.std.specs.Prelude.{length, map, string_bytes}
use Rattle.std.specs.Fmt.{decimal}
use Rattle.std.specs.declared.alloc.Global.{Global}
use Rattle.lt_registry.specs.Parts.{EntryParts}
use Rattle.lt_range.specs.Ranges.{RangeParts}
use Rattle.lt_range.specs.Asked.{Asks, IsHeaderRefusal}
use Rattle.lt_range.specs.HeaderRefusals as of_headers
use Rattle.lt_range.specs.Matched.{AreRangesOf}
use Rattle.lt_range.specs.Refusals.{IsRangeRefusal, name_of}
use Rattle.lt_range.specs.declared.asked.HeaderRefusal.{HeaderRefusal}
use Rattle.lt_range.specs.declared.asked.HeaderRefusal.TheVariants as header_refusals
use Rattle.lt_range.specs.declared.preferences.Preference.{Preference}
use Rattle.lt_range.specs.declared.refusals.RangeRefusal.{RangeRefusal}
use Rattle.lt_range.specs.declared.matching.Scheme.{Scheme}
use Rattle.lt_range.specs.declared.matching.Scheme.TheVariants as schemes
use Rattle.lt_words.specs.declared.commands.Matching.{Matching}
use Rattle.lt_words.specs.declared.commands.Matching.TheVariants as matchings
use Rattle.lt_words.specs.declared.commands.Ranges.{Ranges}
use Rattle.lt_tool.specs.Results.{Gives, no_memory}
use Rattle.lt_tool.specs.declared.faults.Fault.{Fault}
use Rattle.lt_tool.specs.declared.faults.Fault.TheVariants as faults
use Rattle.lt_tool.specs.declared.plans.Plan.{Plan}
use Rattle.lt_tool.specs.declared.plans.Plan.TheVariants as plans
use Rattle.lt_tool.specs.declared.ranges.RefusedRange.{RefusedRange}

-- `ranges` are those by which the texts match, in their order
abbrev pub AreRanges : List EntryParts → List (List ℕ) → List RangeParts → Type 0
AreRanges R [] ranges = ranges ≡ []
AreRanges R (text ∷ texts) ranges =
    (here : List RangeParts) × (more : List RangeParts) × AreRangesOf R text here × (ranges ≡ here ++ more)
    × AreRanges R texts more

-- The first of the texts that is refused as a range: its number, counted from 1, and why. The texts `before` it are
-- read as `ranges`. If the refusal is OutOfMemory, the text itself need not be at fault.
pub record RefusesRange (R : List EntryParts) (texts : List (List ℕ)) (refused : RefusedRange) : Type 0 where
  pub before : List (List ℕ)
  pub text : List ℕ
  pub after : List (List ℕ)
  pub there : texts ≡ before ++ text ∷ after
  pub ranges : List RangeParts
  pub are : AreRanges R before ranges
  pub numbered : refused.number ≡ length before + 1
  pub is_refusal : IsRangeRefusal R text refused.refusal

-- the scheme of filtering that the words ask for, if it is not lookup
abbrev pub scheme_for : Matching → Option Scheme
scheme_for matchings.Basic = Some schemes.Basic
scheme_for matchings.Extended = Some schemes.Extended
scheme_for matchings.Lookup = None

-- the line on the standard error for a refused range: the name of the refusal, and the range's number
abbrev pub range_line : (number : ℕ) → RangeRefusal → List ℕ
range_line number refusal = codes "! " ++ name_of refusal ++ codes " range " ++ decimal number ++ 10 ∷ []

-- the fault of a range that is refused: the words are wrong, as the line says; or memory ran out
abbrev pub IsRangeFault : RefusedRange → Fault → Type 0
IsRangeFault refused fault = ((text : String Global) × (string_bytes text ≡ range_line refused.number refused.refusal)
    × (fault ≡ faults.Usage text)) ⊎ (fault ≡ no_memory)

-- lines are to be matched by these ranges, as the words ask for; or a range is refused
abbrev pub PlansMatch : Ranges → List EntryParts → Result Plan Fault → Type 0
PlansMatch ranges R = Gives (λ plan. (read : Vec RangeParts Global) × AreRanges R (map string_bytes ranges.texts.items) read.items
    × (plan ≡ plans.Match (record { table = R; scheme = scheme_for ranges.matching; ranges = read })))
    (λ fault. (refused : RefusedRange) × RefusesRange R (map string_bytes ranges.texts.items) refused
    × IsRangeFault refused fault)

-- where a header is refused: at the list element with this number, counted from 1; no number is told if each element is
-- a range, but one of the ranges is refused
abbrev pub header_place : HeaderRefusal → List ℕ
header_place (header_refusals.NotAHeader fault) = codes " element " ++ decimal fault.place ++ 10 ∷ []
header_place refusal = codes " header" ++ 10 ∷ []

-- the line on the standard error for a refused header: the name of the refusal, and where the fault is
abbrev pub header_line : HeaderRefusal → List ℕ
header_line refusal = codes "! " ++ of_headers.name_of refusal ++ header_place refusal

-- the fault of a header that is refused: the words are wrong, as the line says; or memory ran out
abbrev pub IsHeaderFault : HeaderRefusal → Fault → Type 0
IsHeaderFault refusal fault = ((text : String Global) × (string_bytes text ≡ header_line refusal)
    × (fault ≡ faults.Usage text)) ⊎ (fault ≡ no_memory)

-- a line is to be served by the preferences of this header; or the header is refused
abbrev pub PlansServing : (header : List ℕ) → List EntryParts → Result Plan Fault → Type 0
PlansServing header R = Gives (λ plan. (preferences : Vec Preference Global) × Asks R header preferences.items
    × (plan ≡ plans.Serve R preferences))
    (λ fault. (refusal : HeaderRefusal) × IsHeaderRefusal R header refusal × IsHeaderFault refusal fault)
