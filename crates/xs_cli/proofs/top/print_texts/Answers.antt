use Rattle.std.proofs.Common.{◌∙◌, [], ap}
use Rattle.xs_cli.specs.Code.{body, names_of}
use Rattle.xs_cli.specs.Machine.{runs}
use Rattle.xs_cli.specs.Prints.{events_of}
use Rattle.xs_cli.proofs.Prints.{code_prints, code_good}
use Rattle.xs_cli.proofs.top.print_texts.Goals as goal

pub returns-in-Ok-run : goal.returns-in-Ok-run
returns-in-Ok-run g c = (c.in-Ok-run.ensures.run (body (names_of c.args.texts.now) c.args.texts.now) (code_good c.args.texts.now c.requires) c.in-Ok.ensures.code (events_of c.args.texts.now) (ap (λ names. runs names (body (names_of c.args.texts.now) c.args.texts.now) []) c.in-Ok.ensures.names ∙ code_prints c.args.texts.now), c.in-Ok-run.ensures.cause)

pub returns-in-Err-Write : goal.returns-in-Err-Write
returns-in-Err-Write g c =
    let run = rw c.in-Err-Write.field-0-is at c.in-Err-Write.ensures.run in
    let cause = rw c.in-Err-Write.field-0-is at c.in-Err-Write.ensures.cause in
    (run (body (names_of c.args.texts.now) c.args.texts.now) (code_good c.args.texts.now c.requires) c.in-Ok.ensures.code (events_of c.args.texts.now) (ap (λ names. runs names (body (names_of c.args.texts.now) c.args.texts.now) []) c.in-Ok.ensures.names ∙ code_prints c.args.texts.now), cause)

pub unreachable-requires : goal.unreachable-requires
unreachable-requires g c =
    let run = rw c.in-Err-Stuck.field-0-is at c.in-Err-Stuck.ensures.run in
    run (body (names_of c.args.texts.now) c.args.texts.now) (code_good c.args.texts.now c.requires) c.in-Ok.ensures.code (events_of c.args.texts.now) (ap (λ names. runs names (body (names_of c.args.texts.now) c.args.texts.now) []) c.in-Ok.ensures.names ∙ code_prints c.args.texts.now)
