-- `use_part` meets its contract. Assumes nothing.
use Rattle.typing.proofs.PackLaws.{past_answer}
use Rattle.typing.proofs.LeafLaws.{shown, read_within, ends_within, use_asked, use_left, use_noted}
use Rattle.typing.specs.Walking.{state}
use Rattle.typing.proofs.use_part.Goals as goal

pub refusal-requires : goal.refusal-requires
refusal-requires c = read_within c.args.s.now _ _ c.requires.sound.size c.read_operands.ensures.within c.in-Err.is

pub add_use-requires : goal.add_use-requires
add_use-requires c =
    use_asked _ _ (state c.args.st) _ c.requires _ _ (rw c.place.ensures at c.read_operands.ensures.read) c.in_default.is _
    (shown _ _ _ c.requires.inside (rw c.place-2.ensures at c.head_at-x.ensures))

pub returns : goal.returns
returns c =
    let ops = rw c.place.ensures at c.read_operands.ensures.read in
    let h = shown _ _ _ c.requires.inside (rw c.place-2.ensures at c.head_at-x.ensures) in
    rw (past_answer _ _ _ _ _ (state c.args.st) c.with_masks.ensures c.past.ensures) (record {
      read
          = use_left _ _ (state c.args.st) _ c.requires _ _ ops c.in_default.is _ h _ _
          (rw (c.reads_of.ensures, c.writes_of-w.ensures)) c.writes_of-w.ensures;
      within = ends_within _ (state c.args.st) 8 _ _ ops c.in_default.is;
      noted = use_noted _ _ (state c.args.st) _ c.requires _ _ ops c.in_default.is _ h _ c.add_use.ensures;
    })
