-- The space, the departure with the dash behind it, and the arrival go one behind the other.
use Rattle.std.proofs.Common.{◌≡◌, refl, sym, ap, ℕ, ◌≤◌, List, ◌∷◌, ◌++◌, length, set, arith}
use Rattle.words.specs.Layout.{get}
use Rattle.words.specs.Words.{departure_field, arrival_field, interval_of}
use Rattle.rules.specs.Sheet.{decimal, space, dash, interval_text}
use Rattle.table_text.proofs.Writing.{Writing, inside, start, byte, number_fits, number, fits_last, last, end}
use Rattle.table_text.proofs.cell.put_interval.Goals as goal

-- The space is written.
wrote1 : (w : ℕ) (l : List ℕ) → length (interval_text (interval_of w)) ≤ length l → (d : ℕ) → d ≡ get departure_field w
    → Writing (interval_text (interval_of w)) l (set l 0 space) 1 (decimal d ++ (dash ∷ decimal (get arrival_field w)))
unfolding interval_text
wrote1 w l h d e = byte (start _ _ _ (ap (λ (d : ℕ). space ∷ (decimal d ++ (dash ∷ decimal (get arrival_field w)))) e) h) space _ refl

pub bounds-out-0 : goal.bounds-out-0
unfolding interval_text
bounds-out-0 c = omega (arith, c.requires)

pub slice_bounds-put_then-count : goal.slice_bounds-put_then-count
slice_bounds-put_then-count c =
    let w1 = wrote1 c.args.w c.args.out.now c.requires c.departure_of.result c.departure_of.ensures in
    omega (arith, inside w1)

pub slice_bounds-put_then-start : goal.slice_bounds-put_then-start
slice_bounds-put_then-start c =
    let w1 = wrote1 c.args.w c.args.out.now c.requires c.departure_of.result c.departure_of.ensures in
    omega (arith, inside w1)

pub put_then-at-requires : goal.put_then-at-requires
put_then-at-requires c =
    let w1 = wrote1 c.args.w c.args.out.now c.requires c.departure_of.result c.departure_of.ensures in
    number_fits w1 c.departure_of.result dash _ refl

pub overflow_add-at : goal.overflow_add-at
overflow_add-at c =
    let w1 = wrote1 c.args.w c.args.out.now c.requires c.departure_of.result c.departure_of.ensures in
    let w2 = number w1 _ _ c.departure_of.result dash _ refl c.put_then-at.ensures.value c.put_then-at.ensures.out_after in
    omega (arith, inside w2)

pub slice_bounds-put_number-count : goal.slice_bounds-put_number-count
slice_bounds-put_number-count c =
    let w1 = wrote1 c.args.w c.args.out.now c.requires c.departure_of.result c.departure_of.ensures in
    let w2 = number w1 _ _ c.departure_of.result dash _ refl c.put_then-at.ensures.value c.put_then-at.ensures.out_after in
    omega (arith, inside w2)

pub slice_bounds-put_number-start : goal.slice_bounds-put_number-start
slice_bounds-put_number-start c =
    let w1 = wrote1 c.args.w c.args.out.now c.requires c.departure_of.result c.departure_of.ensures in
    let w2 = number w1 _ _ c.departure_of.result dash _ refl c.put_then-at.ensures.value c.put_then-at.ensures.out_after in
    omega (arith, inside w2)

pub put_number-requires : goal.put_number-requires
put_number-requires c =
    let w1 = wrote1 c.args.w c.args.out.now c.requires c.departure_of.result c.departure_of.ensures in
    let w2 = number w1 _ _ c.departure_of.result dash _ refl c.put_then-at.ensures.value c.put_then-at.ensures.out_after in
    fits_last w2 (decimal c.arrival_of.result) (ap decimal (sym c.arrival_of.ensures))

pub overflow_add-result : goal.overflow_add-result
overflow_add-result c =
    let w1 = wrote1 c.args.w c.args.out.now c.requires c.departure_of.result c.departure_of.ensures in
    let w2 = number w1 _ _ c.departure_of.result dash _ refl c.put_then-at.ensures.value c.put_then-at.ensures.out_after in
    let w3 = last w2 _ (decimal c.arrival_of.result) _ (ap decimal (sym c.arrival_of.ensures)) c.put_number.ensures.value c.put_number.ensures.out_after in
    omega (arith, inside w3)

pub returns-clause-value : goal.returns-clause-value
returns-clause-value c =
    let w1 = wrote1 c.args.w c.args.out.now c.requires c.departure_of.result c.departure_of.ensures in
    let w2 = number w1 _ _ c.departure_of.result dash _ refl c.put_then-at.ensures.value c.put_then-at.ensures.out_after in
    let w3 = last w2 _ (decimal c.arrival_of.result) _ (ap decimal (sym c.arrival_of.ensures)) c.put_number.ensures.value c.put_number.ensures.out_after in
    (end w3 refl).0

pub returns-clause-out_after : goal.returns-clause-out_after
returns-clause-out_after c =
    let w1 = wrote1 c.args.w c.args.out.now c.requires c.departure_of.result c.departure_of.ensures in
    let w2 = number w1 _ _ c.departure_of.result dash _ refl c.put_then-at.ensures.value c.put_then-at.ensures.out_after in
    let w3 = last w2 _ (decimal c.arrival_of.result) _ (ap decimal (sym c.arrival_of.ensures)) c.put_number.ensures.value c.put_number.ensures.out_after in
    (end w3 refl).1
