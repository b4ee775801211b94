-- An empty cell has no line; in any other the two animals, the intervals and the end of the line go one behind the other.
use Rattle.std.proofs.Common.{◌≡◌, refl, sym, ◌∙◌, ℕ, ◌≤◌, List, [], ◌∷◌, ◌++◌, length, arith}
use Rattle.rules.specs.Layout.{cell_of}
use Rattle.rules.specs.Sheet.{decimal, space, newline, intervals_text, cell_text}
use Rattle.cells.specs.Stored.{rows_in, Stored}
use Rattle.table_text.specs.Lines.{overwrite_front}
use Rattle.table_text.proofs.Writing.{Writing, inside, start, last-place, last_byte, fits, number-fits_whole, first-number, piece, end}
use Rattle.table_text.proofs.Texts.{no_line, one_line}
use Rattle.table_text.proofs.cell.put_cell.Goals as goal

module _ (x : List ℕ) (u v : ℕ) (l : List ℕ) (h : Stored x) (room : length (cell_text u v (cell_of x)) ≤ length l) where
  -- Nothing is written for an empty cell.
  empty : rows_in x ≡ 0 → (0 ≡ length (cell_text u v (cell_of x))) × (l ≡ overwrite_front (cell_text u v (cell_of x)) l)
  empty e = end (start (cell_text u v (cell_of x)) l _ (sym (no_line x u v h e)) room) refl

  -- The first animal is written.
  wrote1 : (k : ℕ) → k ≡ rows_in x → (k ≡ 0 → ⊥) → (out : List ℕ) (at : ℕ) → at ≡ length (decimal u ++ (space ∷ [])) → out ≡ overwrite_front (decimal u ++ (space ∷ [])) l
      → Writing (cell_text u v (cell_of x)) l out at (decimal v ++ (intervals_text (cell_of x) ++ newline))
  wrote1 k q n out at e f = first-number _ _ u space _ (one_line x u v h (λ z. n (q ∙ z))) e f room

pub returns-then-rows_of-eq0-clause-value : goal.returns-then-rows_of-eq0-clause-value
returns-then-rows_of-eq0-clause-value c = (empty c.args.cell.now c.args.u c.args.v c.args.out.now c.requires.stored c.requires.cell_in_bounds (sym c.rows_of.ensures ∙ c.if-rows_of-eq0.true)).0

pub returns-then-rows_of-eq0-clause-out_after : goal.returns-then-rows_of-eq0-clause-out_after
returns-then-rows_of-eq0-clause-out_after c = (empty c.args.cell.now c.args.u c.args.v c.args.out.now c.requires.stored c.requires.cell_in_bounds (sym c.rows_of.ensures ∙ c.if-rows_of-eq0.true)).1

pub put_then-a-requires : goal.put_then-a-requires
put_then-a-requires c =
    let x = c.args.cell.now in
    number-fits_whole _ c.args.out.now _ c.args.u space (one_line x c.args.u c.args.v c.requires.stored (λ e. c.if-rows_of-eq0.false (c.rows_of.ensures ∙ e))) c.requires.cell_in_bounds

pub slice_bounds-put_number-count : goal.slice_bounds-put_number-count
slice_bounds-put_number-count c =
    let w1 = wrote1 c.args.cell.now c.args.u c.args.v c.args.out.now c.requires.stored c.requires.cell_in_bounds _ c.rows_of.ensures c.if-rows_of-eq0.false _ _ c.put_then-a.ensures.value c.put_then-a.ensures.out_after in
    omega (arith, inside w1)

pub slice_bounds-put_number-start : goal.slice_bounds-put_number-start
slice_bounds-put_number-start c =
    let w1 = wrote1 c.args.cell.now c.args.u c.args.v c.args.out.now c.requires.stored c.requires.cell_in_bounds _ c.rows_of.ensures c.if-rows_of-eq0.false _ _ c.put_then-a.ensures.value c.put_then-a.ensures.out_after in
    omega (arith, inside w1)

pub put_number-requires : goal.put_number-requires
put_number-requires c =
    let w1 = wrote1 c.args.cell.now c.args.u c.args.v c.args.out.now c.requires.stored c.requires.cell_in_bounds _ c.rows_of.ensures c.if-rows_of-eq0.false _ _ c.put_then-a.ensures.value c.put_then-a.ensures.out_after in
    fits w1 (decimal c.args.v) _ refl

pub overflow_add-b : goal.overflow_add-b
overflow_add-b c =
    let w1 = wrote1 c.args.cell.now c.args.u c.args.v c.args.out.now c.requires.stored c.requires.cell_in_bounds _ c.rows_of.ensures c.if-rows_of-eq0.false _ _ c.put_then-a.ensures.value c.put_then-a.ensures.out_after in
    let w2 = piece w1 _ (decimal c.args.v) _ _ refl c.put_number.ensures.value c.put_number.ensures.out_after in
    omega (arith, inside w2)

pub slice_bounds-put_intervals-count : goal.slice_bounds-put_intervals-count
slice_bounds-put_intervals-count c =
    let w1 = wrote1 c.args.cell.now c.args.u c.args.v c.args.out.now c.requires.stored c.requires.cell_in_bounds _ c.rows_of.ensures c.if-rows_of-eq0.false _ _ c.put_then-a.ensures.value c.put_then-a.ensures.out_after in
    let w2 = piece w1 _ (decimal c.args.v) _ _ refl c.put_number.ensures.value c.put_number.ensures.out_after in
    omega (arith, inside w2)

pub slice_bounds-put_intervals-start : goal.slice_bounds-put_intervals-start
slice_bounds-put_intervals-start c =
    let w1 = wrote1 c.args.cell.now c.args.u c.args.v c.args.out.now c.requires.stored c.requires.cell_in_bounds _ c.rows_of.ensures c.if-rows_of-eq0.false _ _ c.put_then-a.ensures.value c.put_then-a.ensures.out_after in
    let w2 = piece w1 _ (decimal c.args.v) _ _ refl c.put_number.ensures.value c.put_number.ensures.out_after in
    omega (arith, inside w2)

pub put_intervals-requires-clause-cell_in_bounds : goal.put_intervals-requires-clause-cell_in_bounds
put_intervals-requires-clause-cell_in_bounds c =
    let w1 = wrote1 c.args.cell.now c.args.u c.args.v c.args.out.now c.requires.stored c.requires.cell_in_bounds _ c.rows_of.ensures c.if-rows_of-eq0.false _ _ c.put_then-a.ensures.value c.put_then-a.ensures.out_after in
    let w2 = piece w1 _ (decimal c.args.v) _ _ refl c.put_number.ensures.value c.put_number.ensures.out_after in
    fits w2 (intervals_text (cell_of c.args.cell.now)) _ refl

pub overflow_add-end : goal.overflow_add-end
overflow_add-end c =
    let w1 = wrote1 c.args.cell.now c.args.u c.args.v c.args.out.now c.requires.stored c.requires.cell_in_bounds _ c.rows_of.ensures c.if-rows_of-eq0.false _ _ c.put_then-a.ensures.value c.put_then-a.ensures.out_after in
    let w2 = piece w1 _ (decimal c.args.v) _ _ refl c.put_number.ensures.value c.put_number.ensures.out_after in
    let w3 = piece w2 _ (intervals_text (cell_of c.args.cell.now)) _ _ refl c.put_intervals.ensures.value c.put_intervals.ensures.out_after in
    omega (arith, inside w3)

pub bounds-out-end : goal.bounds-out-end
bounds-out-end c =
    let w1 = wrote1 c.args.cell.now c.args.u c.args.v c.args.out.now c.requires.stored c.requires.cell_in_bounds _ c.rows_of.ensures c.if-rows_of-eq0.false _ _ c.put_then-a.ensures.value c.put_then-a.ensures.out_after in
    let w2 = piece w1 _ (decimal c.args.v) _ _ refl c.put_number.ensures.value c.put_number.ensures.out_after in
    let w3 = piece w2 _ (intervals_text (cell_of c.args.cell.now)) _ _ refl c.put_intervals.ensures.value c.put_intervals.ensures.out_after in
    omega (arith, w3.room)

pub overflow_add-result : goal.overflow_add-result
overflow_add-result c =
    let w1 = wrote1 c.args.cell.now c.args.u c.args.v c.args.out.now c.requires.stored c.requires.cell_in_bounds _ c.rows_of.ensures c.if-rows_of-eq0.false _ _ c.put_then-a.ensures.value c.put_then-a.ensures.out_after in
    let w2 = piece w1 _ (decimal c.args.v) _ _ refl c.put_number.ensures.value c.put_number.ensures.out_after in
    let w3 = piece w2 _ (intervals_text (cell_of c.args.cell.now)) _ _ refl c.put_intervals.ensures.value c.put_intervals.ensures.out_after in
    omega (arith, w3.room, w3.kept)

pub returns-clause-value : goal.returns-clause-value
returns-clause-value c =
    let w1 = wrote1 c.args.cell.now c.args.u c.args.v c.args.out.now c.requires.stored c.requires.cell_in_bounds _ c.rows_of.ensures c.if-rows_of-eq0.false _ _ c.put_then-a.ensures.value c.put_then-a.ensures.out_after in
    let w2 = piece w1 _ (decimal c.args.v) _ _ refl c.put_number.ensures.value c.put_number.ensures.out_after in
    let w3 = piece w2 _ (intervals_text (cell_of c.args.cell.now)) _ _ refl c.put_intervals.ensures.value c.put_intervals.ensures.out_after in
    last-place w3 10 refl

pub returns-clause-out_after : goal.returns-clause-out_after
returns-clause-out_after c =
    let w1 = wrote1 c.args.cell.now c.args.u c.args.v c.args.out.now c.requires.stored c.requires.cell_in_bounds _ c.rows_of.ensures c.if-rows_of-eq0.false _ _ c.put_then-a.ensures.value c.put_then-a.ensures.out_after in
    let w2 = piece w1 _ (decimal c.args.v) _ _ refl c.put_number.ensures.value c.put_number.ensures.out_after in
    let w3 = piece w2 _ (intervals_text (cell_of c.args.cell.now)) _ _ refl c.put_intervals.ensures.value c.put_intervals.ensures.out_after in
    last_byte w3 10 10 refl refl
