use Rattle.bcp47_c.proofs.Refusals.{not_opened}
use Rattle.bcp47_c.proofs.bcp47_handle_open.Goals as goal

-- the bytes are no registry: the error is answered, or the lack of memory for its line, and the handle holds nothing
pub returns-in-Err : goal.returns-in-Err
returns-in-Err c =
    not_opened c.args.handle.now.held c.args.bytes.now c.args.buffer.now c.refuse_registry.new.buffer c.in-Err.error
    c.refuse_registry.result c.requires ((c.in-Err.ensures {u = tt}).error) c.refuse_registry.ensures
