use Rattle.std.proofs.Common.{refl, rules, ◌≡◌, true, false}
use Rattle.lt_tool.proofs.TextAnswerLemmas.{text_answer}
use Rattle.lt_tool.specs.TagCommands.{is_passed}
use Rattle.lt_tool.proofs.tag_commands.pair_fault.Goals as goal

-- the answer to the first text alone shows that it passed, so the second is at fault
pub returns-then-is_passed : goal.returns-then-is_passed
returns-then-is_passed g c =
    let passed : is_passed c.args.refusal c.canonical_text-own.result ≡ true = search rules in (
      c.canonical_text-own.result,
      text_answer _ _ _ c.canonical_text-own.ensures.written
          c.canonical_text-own.ensures.refusal,
      rw passed refl,
    )

-- the answer to the first text alone does not show that it passed, so the first is at fault
pub returns : goal.returns
returns g c =
    let failed : is_passed c.args.refusal c.canonical_text-own.result ≡ false = search rules in (
      c.canonical_text-own.result,
      text_answer _ _ _ c.canonical_text-own.ensures.written
          c.canonical_text-own.ensures.refusal,
      rw failed refl,
    )
