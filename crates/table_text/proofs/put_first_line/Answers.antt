-- Each number, with the byte behind it, goes behind the part written.
use Rattle.std.proofs.Common.{◌≡◌, refl, ℕ, ◌≤◌, List, [], ◌∷◌, ◌++◌, length, arith}
use Rattle.rules.specs.Sheet.{decimal, space, newline, first_line}
use Rattle.table_text.specs.Lines.{overwrite_front}
use Rattle.table_text.proofs.Writing.{Writing, inside, number_fits, number-fits_whole, number, first-number, end}
use Rattle.table_text.proofs.put_first_line.Goals as goal

-- The first number is written.
wrote1 : (n τ δ held : ℕ) (l : List ℕ) → length (first_line n τ δ held) ≤ length l
    → (out : List ℕ) (at : ℕ) → at ≡ length (decimal n ++ (space ∷ [])) → out ≡ overwrite_front (decimal n ++ (space ∷ [])) l
    → Writing (first_line n τ δ held) l out at (decimal τ ++ (space ∷ (decimal δ ++ (space ∷ (decimal held ++ newline)))))
unfolding first_line
wrote1 n τ δ held l h out at e f = first-number _ _ n space _ refl e f h

pub put_then-a-requires : goal.put_then-a-requires
unfolding first_line
put_then-a-requires c = number-fits_whole _ c.args.out.now _ c.args.n space refl c.requires

pub slice_bounds-put_then-count : goal.slice_bounds-put_then-count
slice_bounds-put_then-count c =
    let w1 = wrote1 c.args.n c.args.ticks c.args.carry c.args.held c.args.out.now c.requires _ _ c.put_then-a.ensures.value c.put_then-a.ensures.out_after in
    omega (arith, inside w1)

pub slice_bounds-put_then-start : goal.slice_bounds-put_then-start
slice_bounds-put_then-start c =
    let w1 = wrote1 c.args.n c.args.ticks c.args.carry c.args.held c.args.out.now c.requires _ _ c.put_then-a.ensures.value c.put_then-a.ensures.out_after in
    omega (arith, inside w1)

pub put_then-requires : goal.put_then-requires
put_then-requires c =
    let w1 = wrote1 c.args.n c.args.ticks c.args.carry c.args.held c.args.out.now c.requires _ _ c.put_then-a.ensures.value c.put_then-a.ensures.out_after in
    number_fits w1 c.args.ticks space _ refl

pub overflow_add-b : goal.overflow_add-b
overflow_add-b c =
    let w1 = wrote1 c.args.n c.args.ticks c.args.carry c.args.held c.args.out.now c.requires _ _ c.put_then-a.ensures.value c.put_then-a.ensures.out_after in
    let w2 = number w1 _ _ c.args.ticks space _ refl c.put_then.ensures.value c.put_then.ensures.out_after in
    omega (arith, inside w2)

pub slice_bounds-put_then-count-2 : goal.slice_bounds-put_then-count-2
slice_bounds-put_then-count-2 c =
    let w1 = wrote1 c.args.n c.args.ticks c.args.carry c.args.held c.args.out.now c.requires _ _ c.put_then-a.ensures.value c.put_then-a.ensures.out_after in
    let w2 = number w1 _ _ c.args.ticks space _ refl c.put_then.ensures.value c.put_then.ensures.out_after in
    omega (arith, inside w2)

pub slice_bounds-put_then-start-2 : goal.slice_bounds-put_then-start-2
slice_bounds-put_then-start-2 c =
    let w1 = wrote1 c.args.n c.args.ticks c.args.carry c.args.held c.args.out.now c.requires _ _ c.put_then-a.ensures.value c.put_then-a.ensures.out_after in
    let w2 = number w1 _ _ c.args.ticks space _ refl c.put_then.ensures.value c.put_then.ensures.out_after in
    omega (arith, inside w2)

pub put_then-requires-2 : goal.put_then-requires-2
put_then-requires-2 c =
    let w1 = wrote1 c.args.n c.args.ticks c.args.carry c.args.held c.args.out.now c.requires _ _ c.put_then-a.ensures.value c.put_then-a.ensures.out_after in
    let w2 = number w1 _ _ c.args.ticks space _ refl c.put_then.ensures.value c.put_then.ensures.out_after in
    number_fits w2 c.args.carry space _ refl

pub overflow_add-d : goal.overflow_add-d
overflow_add-d c =
    let w1 = wrote1 c.args.n c.args.ticks c.args.carry c.args.held c.args.out.now c.requires _ _ c.put_then-a.ensures.value c.put_then-a.ensures.out_after in
    let w2 = number w1 _ _ c.args.ticks space _ refl c.put_then.ensures.value c.put_then.ensures.out_after in
    let w3 = number w2 _ _ c.args.carry space _ refl c.put_then-2.ensures.value c.put_then-2.ensures.out_after in
    omega (arith, inside w3)

pub slice_bounds-put_then-count-3 : goal.slice_bounds-put_then-count-3
slice_bounds-put_then-count-3 c =
    let w1 = wrote1 c.args.n c.args.ticks c.args.carry c.args.held c.args.out.now c.requires _ _ c.put_then-a.ensures.value c.put_then-a.ensures.out_after in
    let w2 = number w1 _ _ c.args.ticks space _ refl c.put_then.ensures.value c.put_then.ensures.out_after in
    let w3 = number w2 _ _ c.args.carry space _ refl c.put_then-2.ensures.value c.put_then-2.ensures.out_after in
    omega (arith, inside w3)

pub slice_bounds-put_then-start-3 : goal.slice_bounds-put_then-start-3
slice_bounds-put_then-start-3 c =
    let w1 = wrote1 c.args.n c.args.ticks c.args.carry c.args.held c.args.out.now c.requires _ _ c.put_then-a.ensures.value c.put_then-a.ensures.out_after in
    let w2 = number w1 _ _ c.args.ticks space _ refl c.put_then.ensures.value c.put_then.ensures.out_after in
    let w3 = number w2 _ _ c.args.carry space _ refl c.put_then-2.ensures.value c.put_then-2.ensures.out_after in
    omega (arith, inside w3)

pub put_then-requires-3 : goal.put_then-requires-3
put_then-requires-3 c =
    let w1 = wrote1 c.args.n c.args.ticks c.args.carry c.args.held c.args.out.now c.requires _ _ c.put_then-a.ensures.value c.put_then-a.ensures.out_after in
    let w2 = number w1 _ _ c.args.ticks space _ refl c.put_then.ensures.value c.put_then.ensures.out_after in
    let w3 = number w2 _ _ c.args.carry space _ refl c.put_then-2.ensures.value c.put_then-2.ensures.out_after in
    number_fits w3 c.args.held 10 _ refl

pub overflow_add-result : goal.overflow_add-result
overflow_add-result c =
    let w1 = wrote1 c.args.n c.args.ticks c.args.carry c.args.held c.args.out.now c.requires _ _ c.put_then-a.ensures.value c.put_then-a.ensures.out_after in
    let w2 = number w1 _ _ c.args.ticks space _ refl c.put_then.ensures.value c.put_then.ensures.out_after in
    let w3 = number w2 _ _ c.args.carry space _ refl c.put_then-2.ensures.value c.put_then-2.ensures.out_after in
    let w4 = number w3 _ _ c.args.held 10 _ refl c.put_then-3.ensures.value c.put_then-3.ensures.out_after in
    omega (arith, inside w4)

pub returns-clause-value : goal.returns-clause-value
returns-clause-value c =
    let w1 = wrote1 c.args.n c.args.ticks c.args.carry c.args.held c.args.out.now c.requires _ _ c.put_then-a.ensures.value c.put_then-a.ensures.out_after in
    let w2 = number w1 _ _ c.args.ticks space _ refl c.put_then.ensures.value c.put_then.ensures.out_after in
    let w3 = number w2 _ _ c.args.carry space _ refl c.put_then-2.ensures.value c.put_then-2.ensures.out_after in
    let w4 = number w3 _ _ c.args.held 10 _ refl c.put_then-3.ensures.value c.put_then-3.ensures.out_after in
    (end w4 refl).0

pub returns-clause-out_after : goal.returns-clause-out_after
returns-clause-out_after c =
    let w1 = wrote1 c.args.n c.args.ticks c.args.carry c.args.held c.args.out.now c.requires _ _ c.put_then-a.ensures.value c.put_then-a.ensures.out_after in
    let w2 = number w1 _ _ c.args.ticks space _ refl c.put_then.ensures.value c.put_then.ensures.out_after in
    let w3 = number w2 _ _ c.args.carry space _ refl c.put_then-2.ensures.value c.put_then-2.ensures.out_after in
    let w4 = number w3 _ _ c.args.held 10 _ refl c.put_then-3.ensures.value c.put_then-3.ensures.out_after in
    (end w4 refl).1
