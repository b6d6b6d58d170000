use Rattle.std.proofs.Common.{inl, inr}
use Rattle.lt_tool.proofs.ResultLemmas.{is_fault}
use Rattle.lt_tool.proofs.program.open_files.Goals as goal

-- the first file can't be opened, and the second one is not tried
pub returns-in_err-first : goal.returns-in_err-first
returns-in_err-first g c =
    inr (
      c.in_err-first.field-0.0,
      rw (c.first_file.ensures, c.reads_input-is_taken.ensures) at c.in_err-first.ensures,
      is_fault _ _ c.from_residual.ensures.1,
    )

-- the first file is opened, and the second one can't be
pub returns-in_err-second : goal.returns-in_err-second
returns-in_err-second g c =
    rw (is_fault _ _ c.from_residual-in_err-second.ensures.1) (inl (
      c.open_file.new.opener,
      c.in_ok-first.first,
      rw (c.first_file.ensures, c.reads_input-is_taken.ensures) at c.in_ok-first.ensures,
      rw (c.second_file.ensures, c.reads_input-is_taken.ensures) at c.in_err-second.ensures,
    ))

-- both files are opened, and a new device holds each, from which nothing was read
pub returns : goal.returns
returns g c =
    let first = c.new.ensures in
    let second = c.new-2.ensures in
    inl (
      c.open_file.new.opener,
      c.in_ok-first.first,
      rw (c.first_file.ensures, c.reads_input-is_taken.ensures) at c.in_ok-first.ensures,
      (
        c.in_ok-second.second,
        rw (c.second_file.ensures, c.reads_input-is_taken.ensures) at c.in_ok-second.ensures,
        record {
          is_first = record { holds = first.inner; failures = first.failures; reads = first.reads };
          is_second = record { holds = second.inner; failures = second.failures; reads = second.reads };
        },
      ),
    )
