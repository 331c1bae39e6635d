use Rattle.st_folder.proofs.Numerals.{parsed, written}
use Rattle.st_folder.proofs.real.digits.plain_number.Goals as goal

pub returns-in-Ok : goal.returns-in-Ok
returns-in-Ok c =
    let read = c.in-Ok.ensures.value in
    written c.args.text.now c.in-Ok.number c.requires.plus c.requires.zero read.0.0 read.0.1 read.1

pub returns-in-Err : goal.returns-in-Err
returns-in-Err c = λ n h e. c.in-Err.ensures.value (parsed c.args.text.now n h e)
