-- The word and the space go first, and the number with the end of the line behind them.
use Rattle.std.proofs.Common.{◌≡◌, refl, ℕ, ◌≤◌, List, [], ◌∷◌, ◌++◌, length, arith}
use Rattle.rules.specs.Sheet.{decimal, space, newline, refused_text}
use Rattle.table_text.specs.Lines.{overwrite_front}
use Rattle.table_text.proofs.Writing.{Writing, inside, fits_whole, first, number_fits, number, end}
use Rattle.table_text.proofs.put_refused.Goals as goal

-- The word and the space.
abbrev word : List ℕ
word = 114 ∷ 101 ∷ 102 ∷ 117 ∷ 115 ∷ 101 ∷ 100 ∷ space ∷ []

-- They are written.
wrote1 : (n : ℕ) (l out : List ℕ) (at : ℕ) → length (refused_text n) ≤ length l → at ≡ length word → out ≡ overwrite_front word l → Writing (refused_text n) l out at (decimal n ++ newline)
unfolding refused_text
wrote1 n l out at h e f = first out word (decimal n ++ newline) at refl e f h

pub put_bytes-at-requires : goal.put_bytes-at-requires
unfolding refused_text
put_bytes-at-requires c = fits_whole _ c.args.out.now word (decimal c.args.number ++ newline) refl c.requires

pub slice_bounds-put_then-count : goal.slice_bounds-put_then-count
slice_bounds-put_then-count c =
    let w1 = wrote1 c.args.number c.args.out.now _ _ c.requires c.put_bytes-at.ensures.value c.put_bytes-at.ensures.out_after in
    omega (arith, inside w1)

pub slice_bounds-put_then-start : goal.slice_bounds-put_then-start
slice_bounds-put_then-start c =
    let w1 = wrote1 c.args.number c.args.out.now _ _ c.requires c.put_bytes-at.ensures.value c.put_bytes-at.ensures.out_after in
    omega (arith, inside w1)

pub put_then-requires : goal.put_then-requires
put_then-requires c =
    let w1 = wrote1 c.args.number c.args.out.now _ _ c.requires c.put_bytes-at.ensures.value c.put_bytes-at.ensures.out_after in
    number_fits w1 c.args.number 10 _ refl

pub overflow_add-result : goal.overflow_add-result
overflow_add-result c =
    let w1 = wrote1 c.args.number c.args.out.now _ _ c.requires c.put_bytes-at.ensures.value c.put_bytes-at.ensures.out_after in
    let w2 = number w1 _ _ c.args.number 10 _ refl c.put_then.ensures.value c.put_then.ensures.out_after in
    omega (arith, inside w2)

pub returns-clause-value : goal.returns-clause-value
returns-clause-value c =
    let w1 = wrote1 c.args.number c.args.out.now _ _ c.requires c.put_bytes-at.ensures.value c.put_bytes-at.ensures.out_after in
    let w2 = number w1 _ _ c.args.number 10 _ refl c.put_then.ensures.value c.put_then.ensures.out_after in
    let whole = (end w2 refl).0 in
    omega (arith, whole, c.put_bytes-at.ensures.value)

pub returns-clause-out_after : goal.returns-clause-out_after
returns-clause-out_after c =
    let w1 = wrote1 c.args.number c.args.out.now _ _ c.requires c.put_bytes-at.ensures.value c.put_bytes-at.ensures.out_after in
    let w2 = number w1 _ _ c.args.number 10 _ refl c.put_then.ensures.value c.put_then.ensures.out_after in
    (end w2 refl).1
