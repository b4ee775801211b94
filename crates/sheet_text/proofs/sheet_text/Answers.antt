-- `sheet_text` meets its contract: the text is written to the front of an empty one.
use Prim.Native.Nat.{ℕ}
use mathlib.Core.Path.{◌≡◌, ap, ◌∙◌}
use mathlib.Core.List.{List}
use native.Mathlib.Omega.{arith}
use lib.ListN.{length, replicate, length-replicate}
use Rattle.rules.specs.Sheet.{most_text, sheet_text}
use Rattle.table_text.specs.Lines.{overwrite_front}
use Rattle.table_text.proofs.Lengths.{sheet_fits}
use Rattle.sheet_text.proofs.sheet_text.Goals as goal

-- An empty text has room for the longest.
blank : {text : List ℕ} → text ≡ replicate {A = ℕ} most_text 0 → length text ≡ most_text
blank e = ap length e ∙ length-replicate {A = ℕ} most_text 0

pub slice_bounds-put_sheet-end : goal.slice_bounds-put_sheet-end
slice_bounds-put_sheet-end c = omega (arith, blank c.blank_text-text.ensures)

pub put_sheet-length-requires : goal.put_sheet-length-requires
put_sheet-length-requires c = omega (arith, sheet_fits c.args.bytes.now, blank c.blank_text-text.ensures)

pub returns : goal.returns
returns c =
    record {
      length_value = c.put_sheet-length.ensures.value;
      text_value = c.put_sheet-length.ensures.out_after ∙ ap (overwrite_front (sheet_text c.args.bytes.now)) c.blank_text-text.ensures;
    }
