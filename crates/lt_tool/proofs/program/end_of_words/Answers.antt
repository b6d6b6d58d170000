use Rattle.std.proofs.Common.{ap, refl, ℕ, Global, Vec}
use Rattle.lt_tool.proofs.program.end_of_words.Goals as goal

-- the bytes of the text of help are what is printed
pub returns-in-Help : goal.returns-in-Help
returns-in-Help c = rw c.in-Help.is (c.into_bytes.result, ap (λ (v : Vec ℕ Global). v.items) c.into_bytes.ensures.value, refl)

-- the bytes of the text of the version are what is printed
pub returns-in-Version : goal.returns-in-Version
returns-in-Version c =
    rw c.in-Version.is (c.into_bytes-in-Version.result, ap (λ (v : Vec ℕ Global). v.items) c.into_bytes-in-Version.ensures.value, refl)
