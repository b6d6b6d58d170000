-- What the steps on extensions ask of those of a valid tag.
use Rattle.std.proofs.Common.{◌≡◌, ◌≤◌, List, length, map, arith}
use Rattle.std.specs.List.{AllByRecursion}
use Rattle.lt_tag.specs.Parts.{ExtensionParts, TForm, TagForm, LangTag, PrivateUse, Grandfathered}
use Rattle.lt_tag.specs.Spelling.{spell_extensions}
use Rattle.lt_tag.specs.Extensions.{transform, IsTransform}
use Rattle.lt_tag.specs.Values.{extensions_of, FitsCounts}
use Rattle.lt_registry.specs.Parts.{EntryParts}
use Rattle.lt_registry.specs.Validity.{Distinct, IsProperExtension, HasProperParts}
use Rattle.lt_rewrite.proofs.PartLists.{all_both}
use Rattle.lt_rewrite.proofs.StepLaws.{fits, few_subtags}

pub record CanSettle (es : List ExtensionParts) : Type 0 where
  pub singletons : Distinct (map (λ (e : ExtensionParts). e.singleton) es)
  pub transforms : AllByRecursion (λ (e : ExtensionParts). e.singleton ≡ transform → (p : TForm) × IsTransform e.subtags p) es

pub can_settle : (R : List EntryParts) (t : TagForm) → HasProperParts R t → CanSettle (extensions_of t)
can_settle R (LangTag c es ps) h = record {
  singletons = h.singletons;
  transforms =
      all_both (IsProperExtension R) (IsProperExtension R) (λ (e : ExtensionParts). e.singleton ≡ transform
      → (p : TForm) × IsTransform e.subtags p)
      (λ e a b q. let p = a q in (p.0, p.1)) es h.extensions h.extensions;
}
can_settle R (PrivateUse ps) h = record { singletons = tt; transforms = tt }
can_settle R (Grandfathered n) h = record { singletons = tt; transforms = tt }

pub few_in_tag : (t : TagForm) → FitsCounts t → length (spell_extensions (extensions_of t)) ≤ 1049600
few_in_tag t h = let f = fits t h in let n = few_subtags (extensions_of t) f.1 in omega (arith, n, f.0)
