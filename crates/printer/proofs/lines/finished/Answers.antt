-- The lines of all packets are still to be added at first, then those of the rest.
use Rattle.std.proofs.Common.{◌++◌, length-append, append_assoc, append-nil, sym, ◌∙◌, arith, lit<}
use Rattle.printer.specs.Printing.{finished_word, blank_then, line_end}
use Rattle.printer.specs.Building.{lines_of, finished_lines}
use Rattle.printer.proofs.LineLaws.{parts, lines_next, lines_none, packet_room}
use Rattle.printer.proofs.lines.finished.Goals as goal

pub push_values-requires : goal.push_values-requires
push_values-requires c =
    packet_room c.args.k c.args.f.count c.loop-i.i c.args.words.now c.push.new.self.bytes c.loop-i.text.bytes c.requires.eight c.requires.few
    (rw (c.push.ensures.ascii (lit< tt), length-append) (omega (arith, c.opening-text.ensures.few))) c.loop-i.invariant

pub loop-i-preserved : goal.loop-i-preserved
loop-i-preserved c =
    rw (c.push_values.ensures.bytes, append_assoc)
    (rw (lines_next c.args.k c.args.f.count c.loop-i.i c.args.words.now c.loop-i-test.true) at c.loop-i.invariant)

pub returns : goal.returns
unfolding finished_lines
returns c =
    let f = c.args.f in
    let lines = lines_of c.args.k f.count c.args.words.now in
    sym (append-nil c.loop-i.text.bytes)
    ∙ (rw (lines_none c.args.k f.count c.loop-i.i _ c.loop-i-test.false) at c.loop-i.invariant)
    ∙ rw (c.push.ensures.ascii (lit< tt), c.opening-text.ensures.bytes)
    (append_assoc (finished_word ++ (blank_then f.steps ++ blank_then f.count)) line_end lines
    ∙ parts finished_word (blank_then f.steps) (blank_then f.count) (line_end ++ lines))
