-- What the laws of the steps on `u` and `t` extensions and on lists of extensions say: whatever the order of the steps,
-- they lead to one normal form.
use Rattle.std.specs.Prelude.{◌≡◌, List}
use Rattle.std.specs.List.{AllByRecursion}
use Rattle.lt_tag.specs.Parts.{UForm, TForm, ExtensionParts}
use Rattle.lt_tag.specs.Extensions.{IsU, IsT}
use Rattle.lt_tag.specs.Values.{IsExtensionValue}
use Rattle.lt_registry.specs.Parts.{EntryParts}
use Rattle.lt_rewrite.specs.Rewriting.{IsNormalForm}
use Rattle.lt_rewrite.specs.Extensions.{UnicodeStep, TransformStep, ExtensionsStep}

-- steps from `a` lead to a normal form (`form`, `normal`) and to no other (`only`)
pub record HasOneForm {A : Type 0} (Step : A → A → Type 0) (a : A) : Type 0 where
  pub form : A
  pub normal : IsNormalForm Step a form
  pub only : (b : A) → IsNormalForm Step a b → b ≡ form

-- the parts of a `u` extension have one normal form (`one`), and each step keeps the shape of such parts (`shaped`)
pub record UnicodeHasOneForm : Type 0 where
  pub one : (p : UForm) → HasOneForm UnicodeStep p
  pub shaped : (p q : UForm) → UnicodeStep p q → IsU p → IsU q

-- the parts of a `t` extension have one normal form (`one`), and each step keeps the shape of such parts (`shaped`)
pub record TransformHasOneForm (R : List EntryParts) : Type 0 where
  pub one : (p : TForm) → HasOneForm (TransformStep R) p
  pub shaped : (p q : TForm) → TransformStep R p q → IsT p → IsT q

-- a list of extensions has one normal form (`one`), and each step leads from extensions that the type Extension can
-- hold to such extensions (`shaped`)
pub record ExtensionsHaveOneForm (R : List EntryParts) : Type 0 where
  pub one : (es : List ExtensionParts) → HasOneForm (ExtensionsStep R) es
  pub shaped : (es fs : List ExtensionParts) → ExtensionsStep R es fs
      → AllByRecursion IsExtensionValue es → AllByRecursion IsExtensionValue fs
