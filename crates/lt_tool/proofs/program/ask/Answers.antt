use Rattle.std.proofs.Common.{◌≡◌, Ok, Err, true, refl, rules}
use Rattle.lt_words.specs.Reading.{reads_input_of}
use Rattle.lt_tool.proofs.program.ask.Goals as goal

-- the command reads the input, and a read of no bytes works
pub returns-in-Ok : goal.returns-in-Ok
returns-in-Ok g c =
    let reads : reads_input_of c.args.command.now ≡ true = search rules in
    rw reads (
      Ok c.in-Ok.field-0,
      record {
        buffer = c.read.new.buf;
        empty = search rules;
        consumes = c.in-Ok.ensures.bytes;
        called = c.in-Ok.ensures.reads;
        failed = tt;
        worked = c.in-Ok.ensures.works;
      },
      refl,
    )

-- the command reads the input, and a read of no bytes fails
pub returns-in-Err : goal.returns-in-Err
returns-in-Err g c =
    let reads : reads_input_of c.args.command.now ≡ true = search rules in
    rw reads (
      Err c.in-Err.field-0,
      record {
        buffer = c.read.new.buf;
        empty = search rules;
        consumes = c.in-Err.ensures.bytes;
        called = c.in-Err.ensures.reads;
        failed = c.in-Err.ensures.fails;
        worked = tt;
      },
      refl,
    )
