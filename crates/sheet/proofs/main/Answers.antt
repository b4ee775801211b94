-- `main` lends only what was made.
use Rattle.sheet_text.proofs.Printed.{shown_inside}
use Rattle.sheet.proofs.main.Goals as goal

pub slice_bounds-text-end : goal.slice_bounds-text-end
slice_bounds-text-end c =
    (shown_inside _ _ _ c.sheet_text-sheet.ensures.length_value c.sheet_text-sheet.ensures.text_value).0

pub slice_bounds-write_all-end : goal.slice_bounds-write_all-end
slice_bounds-write_all-end c =
    (shown_inside _ _ _ c.sheet_text-sheet.ensures.length_value c.sheet_text-sheet.ensures.text_value).1
