-- A book that is turned away.
use Rattle.std.proofs.Common.{sym, rules}
use Rattle.rules.proofs.HandingUp.{handed_up}
use Rattle.printer.specs.Building.{HasBook}
use Rattle.printer.proofs.InputLaws.{book_refused}
use Rattle.printer.proofs.request_of.Goals as goal

pub returns-in_err-sizes : goal.returns-in_err-sizes
returns-in_err-sizes c =
    let cut : HasBook c.args.input.now c.in_ok-book.book.now c.in_ok-book.rest.now = search rules in
    rw (handed_up c.from_residual-in_err-sizes.ensures.1) (book_refused cut _ (sym c.in_err-sizes.ensures.is))
