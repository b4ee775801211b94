-- `cells_from_well_formed` meets its contract: a cell that fails ends the check, and any other is passed.
use native.Mathlib.Omega.{arith}
use Rattle.std.proofs.Common.{rules, ◌≡◌, ◌∙◌, ap, ◌+◌, ◌*◌, ◌≤◌, length}
use Rattle.std.specs.Iterator.Adapters.{enumerate_source}
use Rattle.std.specs.Slice.Iter.{chunks_exact_rest}
use Rattle.grid.proofs.Places.{part-inside, part_length, lent-words}
use Rattle.grid.proofs.Reading.{chunks-start, chunk-given, chunks-turn, chunks-end, tested-none, tested-next, tested-fails, tested-end}
use Rattle.tables.specs.Cells.{cells_from_well_formed}
use Rattle.tables.proofs.Cells.{cell-tested, most-bound}
use Rattle.tables.proofs.cells_from_well_formed.Goals as goal

pub loop-v-init : goal.loop-v-init
loop-v-init c =
    let a = c.args in
    let w = a.n * (a.ticks + 1) in
    let h : a.u * w + w ≤ length a.body.now = omega (arith, part-inside a.u a.n w c.requires.few.0, c.requires.body_len) in
    let r : chunks_exact_rest (enumerate_source c.into_iter-v-iterator.result) ≡ chunks_exact_rest c.chunks_exact.result =
    ap (λ i. chunks_exact_rest (enumerate_source i)) c.into_iter-v-iterator.ensures.into_iter_gives ∙ ap chunks_exact_rest c.enumerate-v-items.ensures.source in
    (chunks-start (omega arith) (part_length w a.u a.body.now h) (search rules) (r ∙ c.chunks_exact.ensures.rest ∙ lent-words a.body.now (a.u * w) w) (search rules), tested-none _ _ (search rules))

pub is_well_formed-requires : goal.is_well_formed-requires
is_well_formed-requires c = let e = c.in-Some.ensures.steps in
    let g = chunk-given c.loop-v.invariant.0 _ _ _ e.0 e.1 in
    omega (arith, c.requires.few, g.long, most-bound c.args.ticks c.args.u c.in-Some.v, c.most_rows.ensures)

pub returns-then-not-is_well_formed : goal.returns-then-not-is_well_formed
unfolding cells_from_well_formed
returns-then-not-is_well_formed c = let e = c.in-Some.ensures.steps in
    let g = chunk-given c.loop-v.invariant.0 _ _ _ e.0 e.1 in
    tested-fails c.loop-v.invariant.1 g.below (cell-tested _ _ _ _ _ _ _ c.most_rows.ensures g.lent c.if-not-is_well_formed.ensures)

pub loop-v-preserved : goal.loop-v-preserved
loop-v-preserved c = let e = c.in-Some.ensures.steps in
    let g = chunk-given c.loop-v.invariant.0 _ _ _ e.0 e.1 in (
      chunks-turn c.loop-v.invariant.0 _ _ _ e.0 e.2,
      tested-next c.loop-v.invariant.1 g.below e.1 e.2 (cell-tested _ _ _ _ _ _ _ c.most_rows.ensures g.lent c.if-not-is_well_formed.ensures),
    )

pub returns : goal.returns
unfolding cells_from_well_formed
returns c = tested-end c.loop-v.invariant.1 (chunks-end c.loop-v.invariant.0 c.in-None.ensures.steps.0.1.0)
